-- What a call comes to, and how it ends once that is said.
use Rattle.std.proofs.Common.{◌≡◌, ◌≢◌, ℕ, ◌-◌, ◌^◌, ◌<◌, ◌⊎◌, inl, inr, List, Option, Some, None, Err, refl, sym, ◌∙◌, subst, ap, arith, codes}
use Rattle.version_memory.specs.declared.passes.VersionStory.{VersionStory}
use Rattle.llsc_host.specs.declared.host.Host.{Ghosts}
use Rattle.llsc_host.specs.declared.host.ReadFault.{ReadFault}
use Rattle.llsc_host.specs.declared.host.ReadFault.TheVariants as fault
use Rattle.llsc_host.specs.Host.{Adds, AddsFront, Rose}
use Rattle.llsc_host.specs.Said.{read_text, refusal_text, words_text}
use Rattle.llsc_host.specs.Writes.{KeepsReads, KeepsWrites}
use Rattle.llsc_words.specs.Request.{Request, files_of}
use Rattle.llsc_files.specs.Reads.{IsDone}
use Rattle.llsc_files.specs.Refusals.{IsRefusal}
use Rattle.llsc_files.specs.declared.refusals.Refusal.{Refusal}
use Rattle.llsc_call.specs.Answer.{Answers, AreFiles, AreTold, IsAnswer, IsCut, IsDue, IsNoneOf, ReadFailed}
use Rattle.llsc_call.specs.inner.Comes.{Comes, IsUnread, refused, unread, wanting, answered}
use Rattle.llsc_call.specs.inner.Files.{ReadFiles, barred}
use Rattle.llsc_call.specs.inner.Outcome.{CanBeSaid, GivesBy, IsOneAnswer, Says, refused_by, status_of, text_of}
use Rattle.llsc_call.specs.Run.{told}
use Rattle.llsc_call.specs.declared.outcome.Outcome.{Outcome}
use Rattle.llsc_call.specs.declared.outcome.Outcome.TheVariants as outcome
use Rattle.llsc_call.proofs.Asked.{due_named, told_are}
use Rattle.llsc_call.proofs.Had.{refused_barred}
use Rattle.llsc_call.proofs.Outcomes.{gives_alone, gives_by_as, gives_refused}

-- ---- what a request comes to

comes_by : {S : Type 0} (host : Ghosts S) (old new : S) (asked : Request) (o : Outcome) (story : Option VersionStory) → KeepsReads host old new
    → GivesBy (IsAnswer (host.file old) (Some asked)) o story → Comes host old new (Some asked) o story
comes_by host old new asked o story kept (inl none) = wanting none.0 none.1 kept
comes_by host old new asked o story kept (inr one) = answered one kept

-- it is refused for its machine
pub comes_barred : {S : Type 0} (host : Ghosts S) (here : S) (asked : Request) (made o : Outcome) (story : Option VersionStory) (r : Refusal) → KeepsReads host here here
    → o ≡ made → story ≡ None → made ≡ refused_by r → IsRefusal (barred asked) r → Comes host here here (Some asked) o story
comes_barred host here asked made o story r kept same none is refusal =
    comes_by host here here asked o story kept
    (gives_alone (IsAnswer (host.file here) (Some asked) None) (IsAnswer (host.file here) (Some asked)) made o story same none (λ s text answer. answer)
    (gives_refused (IsAnswer (host.file here) (Some asked) None) (barred asked) made r is refusal (λ name stands.
    let files = refused_barred (host.file here) asked name stands in (asked, files.0, (refl, (files.1.0, files.1.1))))))

-- its files were had
pub comes_answered : {S : Type 0} (host : Ghosts S) (old new : S) (asked : Request) (files : List (List ℕ)) (o : Outcome) (story : Option VersionStory) → KeepsReads host old new
    → AreFiles (host.file old) (files_of asked) files → GivesBy (Answers asked files) o story → Comes host old new (Some asked) o story
comes_answered host old new asked files o story kept may gives =
    comes_by host old new asked o story kept
    (gives_by_as (Answers asked files) (IsAnswer (host.file old) (Some asked)) o story (λ s text answers. (asked, files, (refl, (may, answers)))) gives)

-- or they were not
pub comes_unread : {S : Type 0} (host : Ghosts S) (old new : S) (asked : Request) (made o : Outcome) (story : Option VersionStory) (f : ReadFault) → o ≡ made → story ≡ None
    → IsUnread f made → ReadFiles host old new asked (Err f) → Comes host old new (Some asked) o story
comes_unread host old new asked made o story fault.Failed same none is got =
    unread (got.had.0, (asked, (refl, got.had.1))) (same ∙ is) none
comes_unread host old new asked made o story fault.FileTooLong same none is got =
    comes_by host old new asked o story got.had.0
    (gives_alone (λ s t. (s ≡ 4) × (t ≡ refusal_text (codes "FileTooLong"))) (IsAnswer (host.file old) (Some asked)) made o story same none
    (λ s text answer. let files = got.had.1 in (asked, files.0, (refl, (files.1.0, subst (λ n. Answers asked files.0 None n text) (sym answer.0) (subst (Answers asked files.0 None 4) (sym answer.1) files.1.1)))))
    is)
comes_unread host old new asked made o story fault.Memory same none is got = wanting (same ∙ is) none got.had

-- it can be said
pub sayable : {S : Type 0} (host : Ghosts S) (old new : S) (request : Option Request) (o : Outcome) (story : Option VersionStory) → Comes host old new request o story → CanBeSaid o
sayable host old new request o story (refused none is untold kept) = subst CanBeSaid (sym is) tt
sayable host old new request o story (unread failed is untold) = subst CanBeSaid (sym is) tt
sayable host old new request o story (wanting is untold kept) = subst CanBeSaid (sym is) tt
sayable host old new request o story (answered one kept) = one.sayable

-- ---- how the call ends

-- by what a call came to it ended with a status: the words were refused, a failed read was told, memory was wanting, the answer was
-- written whole, or a write was cut short
pub data Ends {S : Type 0} (host : Ghosts S) (old new : S) (request : Option Request) (story : Option VersionStory) (status : ℕ) : Type 0 where
  words : status ≡ 2 → request ≡ None → story ≡ None → Adds (host.written old) (host.written new) words_text
      → host.write_faults new ≡ host.write_faults old → host.read_faults new ≡ host.read_faults old → Ends host old new request story status
  read : status ≡ 3 → ReadFailed (host.file old) request (host.read_faults old) (host.read_faults new) (host.lost new) → story ≡ None
      → Adds (host.written old) (host.written new) read_text → host.write_faults new ≡ host.write_faults old → Ends host old new request story status
  memory : status ≡ 6 → story ≡ None → host.written new ≡ host.written old
      → host.write_faults new ≡ host.write_faults old → host.read_faults new ≡ host.read_faults old → Ends host old new request story status
  done : IsDone status → (text : List ℕ) → IsAnswer (host.file old) request (told story) status text → Adds (host.written old) (host.written new) text
      → host.write_faults new ≡ host.write_faults old → host.read_faults new ≡ host.read_faults old → Ends host old new request story status
  cut : status ≡ 5 → Rose (host.write_faults old) (host.write_faults new)
      → (ReadFailed (host.file old) request (host.read_faults old) (host.read_faults new) (host.lost new) → host.read_faults old < 2 ^ 64 - 1 → story ≡ None)
      → IsCut (host.file old) request (told story) (ReadFailed (host.file old) request (host.read_faults old) (host.read_faults new) (host.lost new)) (host.written old) (host.written new)
      → Ends host old new request story status

-- a read failed, whatever was written behind it
failed_on : {S : Type 0} (host : Ghosts S) (old mid new : S) (request : Option Request) → KeepsReads host mid new
    → ReadFailed (host.file old) request (host.read_faults old) (host.read_faults mid) (host.lost mid)
    → ReadFailed (host.file old) request (host.read_faults old) (host.read_faults new) (host.lost new)
failed_on host old mid new request kept failed =
    subst (λ n. ReadFailed (host.file old) request (host.read_faults old) n (host.lost new)) (sym kept.read_faults)
    (subst (ReadFailed (host.file old) request (host.read_faults old) (host.read_faults mid)) (sym kept.lost) failed)

-- an answer of a request
answer_of : (o : Outcome) (held : List ℕ → Option (List ℕ)) (request : Option Request) (story : Option VersionStory) (status : ℕ) → status ≡ status_of o
    → IsOneAnswer (IsAnswer held request (told story)) o → IsDone status × IsAnswer held request (told story) status (text_of o)
answer_of o held request story status same one =
    (subst IsDone (sym same) one.done, subst (λ s. IsAnswer held request (told story) s (text_of o)) (sym same) one.is)

-- a count that is as it was has not risen, unless it stands at the end of its type
unrisen : (old new : ℕ) → new ≡ old → old < 2 ^ 64 - 1 → Rose old new → ⊥
unrisen old new same few (inl more) = omega (arith, same, more)
unrisen old new same few (inr most) = omega (arith, same, few, most)

-- what was said of it, from before it was read
pub call_ends : {S : Type 0} (host : Ghosts S) (old mid new : S) (request : Option Request) (o : Outcome) (story : Option VersionStory) (status : ℕ)
    → Comes host old mid request o story → KeepsWrites host old mid → Says host mid new o status → (o ≡ outcome.NoMemory → (status ≡ 6) × KeepsWrites host mid new)
    → Ends host old new request story status
call_ends host old mid new request o story status (refused none is untold kept) unwritten (inl whole) alone =
    words (whole.0 ∙ ap status_of is) none untold
    (subst (λ w. Adds w (host.written new) words_text) unwritten.written (subst (Adds (host.written mid) (host.written new)) (ap text_of is) whole.1.whole))
    (whole.1.other ∙ unwritten.write_faults) (whole.1.reads.read_faults ∙ kept.read_faults)
call_ends host old mid new request o story status (refused none is untold kept) unwritten (inr broke) alone =
    cut broke.0 (subst (λ n. Rose n (host.write_faults new)) unwritten.write_faults broke.1.cause)
    (λ failed few. untold)
    (inl (none, ap told untold, subst (λ w. AddsFront w (host.written new) words_text) unwritten.written (subst (AddsFront (host.written mid) (host.written new)) (ap text_of is) broke.1.front)))
call_ends host old mid new request o story status (unread failed is untold) unwritten (inl whole) alone =
    read (whole.0 ∙ ap status_of is) (failed_on host old mid new request whole.1.reads failed) untold
    (subst (λ w. Adds w (host.written new) read_text) unwritten.written (subst (Adds (host.written mid) (host.written new)) (ap text_of is) whole.1.whole))
    (whole.1.other ∙ unwritten.write_faults)
call_ends host old mid new request o story status (unread failed is untold) unwritten (inr broke) alone =
    cut broke.0 (subst (λ n. Rose n (host.write_faults new)) unwritten.write_faults broke.1.cause)
    (λ again few. untold)
    (inr (inr (
      failed_on host old mid new request broke.1.reads failed,
      ap told untold,
      subst (λ w. AddsFront w (host.written new) read_text) unwritten.written (subst (AddsFront (host.written mid) (host.written new)) (ap text_of is) broke.1.front),
    )))
call_ends host old mid new request o story status (wanting is untold kept) unwritten (inl whole) alone =
    let none = alone is in
    memory none.0 untold (none.1.written ∙ unwritten.written) (none.1.write_faults ∙ unwritten.write_faults) (whole.1.reads.read_faults ∙ kept.read_faults)
call_ends host old mid new request o story status (wanting is untold kept) unwritten (inr broke) alone =
    let none = alone is in
    memory none.0 untold (none.1.written ∙ unwritten.written) (none.1.write_faults ∙ unwritten.write_faults) (broke.1.reads.read_faults ∙ kept.read_faults)
call_ends host old mid new request o story status (answered one kept) unwritten (inl whole) alone =
    let answer = answer_of o (host.file old) request story status whole.0 one in
    done answer.0 (text_of o) answer.1 (subst (λ w. Adds w (host.written new) (text_of o)) unwritten.written whole.1.whole)
    (whole.1.other ∙ unwritten.write_faults) (whole.1.reads.read_faults ∙ kept.read_faults)
call_ends host old mid new request o story status (answered one kept) unwritten (inr broke) alone =
    cut broke.0 (subst (λ n. Rose n (host.write_faults new)) unwritten.write_faults broke.1.cause)
    (λ failed few. absurd (unrisen (host.read_faults old) (host.read_faults new) (broke.1.reads.read_faults ∙ kept.read_faults) few failed.0))
    (inr (inl (status_of o, text_of o, (one.is, subst (λ w. AddsFront w (host.written new) (text_of o)) unwritten.written broke.1.front))))

-- ---- what the contract of a call says of its ends

-- a request whose files are told is answered, where no write failed and no read of its files
answered_told : (held : List ℕ → Option (List ℕ)) (asked : Request) (request : Option Request) (files : List (List ℕ)) (story : Option VersionStory) (status : ℕ) (text : List ℕ)
    → request ≡ Some asked → AreTold held (files_of asked) files → IsAnswer held request (told story) status text → Answers asked files (told story) status text
answered_told held asked request files story status text is told_so answer =
    let same : answer.0 ≡ asked = cc (is, answer.2.0) in
    let may : AreFiles held (files_of asked) answer.1 = subst (λ a. AreFiles held (files_of a) answer.1) same answer.2.1.0 in
    subst (λ f. Answers asked f (told story) status text) (told_are held (files_of asked) answer.1 files may told_so)
    (subst (λ a. Answers a answer.1 (told story) status text) same answer.2.1.1)

pub ends_told : {S : Type 0} (host : Ghosts S) (old new : S) (asked : Request) (request : Option Request) (files : List (List ℕ)) (story : Option VersionStory) (status : ℕ)
    → request ≡ Some asked → AreTold (host.file old) (files_of asked) files → (Rose (host.write_faults old) (host.write_faults new) → ⊥)
    → (Rose (host.read_faults old) (host.read_faults new) → ⊥) ⊎ IsNoneOf (files_of asked) (host.lost new)
    → Ends host old new request story status
    → (status ≡ 6) ⊎ ((text : List ℕ) × (Answers asked files (told story) status text × Adds (host.written old) (host.written new) text))
ends_told host old new asked request files story status is told_so whole no_fault (words two none untold adds wf rf) = absurd (cc (none, is))
ends_told host old new asked request files story status is told_so whole no_fault (read three failed untold adds wf) = absurd (no_read no_fault)
  where
    no_read : (Rose (host.read_faults old) (host.read_faults new) → ⊥) ⊎ IsNoneOf (files_of asked) (host.lost new) → ⊥
    no_read (inl unfailed) = unfailed failed.0
    no_read (inr none) =
        let same : failed.1.0 ≡ asked = cc (is, failed.1.1.0) in
        due_named (host.file old) asked (host.lost new) none (subst (λ a. IsDue (host.file old) a (host.lost new)) same failed.1.1.1)
ends_told host old new asked request files story status is told_so whole no_fault (memory six untold kept wf rf) = inl six
ends_told host old new asked request files story status is told_so whole no_fault (done d text answer adds wf rf) =
    inr (text, (answered_told (host.file old) asked request files story status text is told_so answer, adds))
ends_told host old new asked request files story status is told_so whole no_fault (cut five rose quiet front) = absurd (whole rose)

pub ends_one : {S : Type 0} (host : Ghosts S) (old new : S) (request : Option Request) (story : Option VersionStory) (status : ℕ) → Ends host old new request story status
    → IsDone status ⊎ ((status ≡ 2) ⊎ ((status ≡ 3) ⊎ ((status ≡ 5) ⊎ (status ≡ 6))))
ends_one host old new request story status (words two none untold adds wf rf) = inr (inl two)
ends_one host old new request story status (read three failed untold adds wf) = inr (inr (inl three))
ends_one host old new request story status (memory six untold kept wf rf) = inr (inr (inr (inr six)))
ends_one host old new request story status (done d text answer adds wf rf) = inl d
ends_one host old new request story status (cut five rose quiet front) = inr (inr (inr (inl five)))

pub ends_refused : {S : Type 0} (host : Ghosts S) (old new : S) (request : Option Request) (story : Option VersionStory) (status : ℕ) → Ends host old new request story status
    → request ≡ None → (status ≡ 2) ⊎ ((status ≡ 5) ⊎ (status ≡ 6))
ends_refused host old new request story status (words two none untold adds wf rf) is = inl two
ends_refused host old new request story status (read three failed untold adds wf) is = absurd (cc (is, failed.1.1.0))
ends_refused host old new request story status (memory six untold kept wf rf) is = inr (inr six)
ends_refused host old new request story status (done d text answer adds wf rf) is = absurd (cc (is, answer.2.0))
ends_refused host old new request story status (cut five rose quiet front) is = inr (inl five)

pub ends_words : {S : Type 0} (host : Ghosts S) (old new : S) (request : Option Request) (story : Option VersionStory) (status : ℕ) → Ends host old new request story status
    → status ≡ 2 → (request ≡ None) × (story ≡ None) × Adds (host.written old) (host.written new) words_text
ends_words host old new request story status (words two none untold adds wf rf) is = (none, untold, adds)
ends_words host old new request story status (read three failed untold adds wf) is = absurd (grind (arith, three, is))
ends_words host old new request story status (memory six untold kept wf rf) is = absurd (grind (arith, six, is))
ends_words host old new request story status (done d text answer adds wf rf) is = absurd (grind (arith, d, is))
ends_words host old new request story status (cut five rose quiet front) is = absurd (grind (arith, five, is))

pub ends_done : {S : Type 0} (host : Ghosts S) (old new : S) (request : Option Request) (story : Option VersionStory) (status : ℕ) → Ends host old new request story status
    → IsDone status → (text : List ℕ) × (IsAnswer (host.file old) request (told story) status text × Adds (host.written old) (host.written new) text)
ends_done host old new request story status (words two none untold adds wf rf) is = absurd (grind (arith, two, is))
ends_done host old new request story status (read three failed untold adds wf) is = absurd (grind (arith, three, is))
ends_done host old new request story status (memory six untold kept wf rf) is = absurd (grind (arith, six, is))
ends_done host old new request story status (done d text answer adds wf rf) is = (text, (answer, adds))
ends_done host old new request story status (cut five rose quiet front) is = absurd (grind (arith, five, is))

pub ends_read : {S : Type 0} (host : Ghosts S) (old new : S) (request : Option Request) (story : Option VersionStory) (status : ℕ) → Ends host old new request story status
    → status ≡ 3 → ReadFailed (host.file old) request (host.read_faults old) (host.read_faults new) (host.lost new) × (story ≡ None) × Adds (host.written old) (host.written new) read_text
ends_read host old new request story status (words two none untold adds wf rf) is = absurd (grind (arith, two, is))
ends_read host old new request story status (read three failed untold adds wf) is = (failed, untold, adds)
ends_read host old new request story status (memory six untold kept wf rf) is = absurd (grind (arith, six, is))
ends_read host old new request story status (done d text answer adds wf rf) is = absurd (grind (arith, d, is))
ends_read host old new request story status (cut five rose quiet front) is = absurd (grind (arith, five, is))

pub ends_write : {S : Type 0} (host : Ghosts S) (old new : S) (request : Option Request) (story : Option VersionStory) (status : ℕ) → Ends host old new request story status
    → status ≡ 5 → Rose (host.write_faults old) (host.write_faults new)
ends_write host old new request story status (words two none untold adds wf rf) is = absurd (grind (arith, two, is))
ends_write host old new request story status (read three failed untold adds wf) is = absurd (grind (arith, three, is))
ends_write host old new request story status (memory six untold kept wf rf) is = absurd (grind (arith, six, is))
ends_write host old new request story status (done d text answer adds wf rf) is = absurd (grind (arith, d, is))
ends_write host old new request story status (cut five rose quiet front) is = rose

pub ends_cut : {S : Type 0} (host : Ghosts S) (old new : S) (request : Option Request) (story : Option VersionStory) (status : ℕ) → Ends host old new request story status
    → status ≡ 5 → IsCut (host.file old) request (told story) (ReadFailed (host.file old) request (host.read_faults old) (host.read_faults new) (host.lost new)) (host.written old) (host.written new)
ends_cut host old new request story status (words two none untold adds wf rf) is = absurd (grind (arith, two, is))
ends_cut host old new request story status (read three failed untold adds wf) is = absurd (grind (arith, three, is))
ends_cut host old new request story status (memory six untold kept wf rf) is = absurd (grind (arith, six, is))
ends_cut host old new request story status (done d text answer adds wf rf) is = absurd (grind (arith, d, is))
ends_cut host old new request story status (cut five rose quiet front) is = front

pub ends_unwritten : {S : Type 0} (host : Ghosts S) (old new : S) (request : Option Request) (story : Option VersionStory) (status : ℕ) → Ends host old new request story status
    → status ≢ 5 → host.write_faults new ≡ host.write_faults old
ends_unwritten host old new request story status (words two none untold adds wf rf) is = wf
ends_unwritten host old new request story status (read three failed untold adds wf) is = wf
ends_unwritten host old new request story status (memory six untold kept wf rf) is = wf
ends_unwritten host old new request story status (done d text answer adds wf rf) is = wf
ends_unwritten host old new request story status (cut five rose quiet front) is = absurd (is five)

pub ends_unread : {S : Type 0} (host : Ghosts S) (old new : S) (request : Option Request) (story : Option VersionStory) (status : ℕ) → Ends host old new request story status
    → status ≢ 3 → status ≢ 5 → host.read_faults new ≡ host.read_faults old
ends_unread host old new request story status (words two none untold adds wf rf) not_read not_cut = rf
ends_unread host old new request story status (read three failed untold adds wf) not_read not_cut = absurd (not_read three)
ends_unread host old new request story status (memory six untold kept wf rf) not_read not_cut = rf
ends_unread host old new request story status (done d text answer adds wf rf) not_read not_cut = rf
ends_unread host old new request story status (cut five rose quiet front) not_read not_cut = absurd (not_cut five)

pub ends_memory : {S : Type 0} (host : Ghosts S) (old new : S) (request : Option Request) (story : Option VersionStory) (status : ℕ) → Ends host old new request story status
    → status ≡ 6 → (host.written new ≡ host.written old) × (story ≡ None)
ends_memory host old new request story status (words two none untold adds wf rf) is = absurd (grind (arith, two, is))
ends_memory host old new request story status (read three failed untold adds wf) is = absurd (grind (arith, three, is))
ends_memory host old new request story status (memory six untold kept wf rf) is = (kept, untold)
ends_memory host old new request story status (done d text answer adds wf rf) is = absurd (grind (arith, d, is))
ends_memory host old new request story status (cut five rose quiet front) is = absurd (grind (arith, five, is))

pub ends_storyless : {S : Type 0} (host : Ghosts S) (old new : S) (request : Option Request) (story : Option VersionStory) (status : ℕ) → Ends host old new request story status
    → status ≡ 5 → ReadFailed (host.file old) request (host.read_faults old) (host.read_faults new) (host.lost new) → host.read_faults old < 2 ^ 64 - 1 → story ≡ None
ends_storyless host old new request story status (words two none untold adds wf rf) is failed few = untold
ends_storyless host old new request story status (read three unhad untold adds wf) is failed few = untold
ends_storyless host old new request story status (memory six untold kept wf rf) is failed few = untold
ends_storyless host old new request story status (done d text answer adds wf rf) is failed few = absurd (grind (arith, d, is))
ends_storyless host old new request story status (cut five rose quiet front) is failed few = quiet failed few
