-- The lines of accesses and the record: their text, the text read again, and the first fault.
use Rattle.std.proofs.Common.{◌≡◌, ◌≢◌, ◌≤◌, ℕ, ◌+◌, ◌-◌, ◌<◌, ◌^◌, zero, suc, List, [], ◌∷◌, ◌++◌, append_assoc, append-nil, length, Some, None, ◌⊎◌, refl, sym, ap, subst, ◌∙◌, arith, inl, inr}
use Rattle.std.specs.Prelude.{flat_map, Result, Ok, Err}
use Rattle.std.specs.List.{AllByRecursion}
use Rattle.std.proofs.lemmas.Bool.{cases_lt, lt-ltb, le-ltb}
use Rattle.std.proofs.lemmas.List.Elements.{All-from_recursion, recursion_from_All}
use Rattle.history.specs.declared.entry.Access.{Access}
use Rattle.run_record.specs.declared.faults.RecordFault.{RecordFault}
use Rattle.run_record.specs.declared.faults.RecordFault.TheVariants as fault
use Rattle.run_record.specs.declared.headers.Header.{Header}
use Rattle.run_record.specs.declared.records.RunRecord.{RunRecord}
use Rattle.run_record.specs.Fault.{Begins, HasFault, HasHeader, HasLine}
use Rattle.run_record.specs.Fields.{Read}
use Rattle.run_record.specs.Limits.{IsAccess, IsRecord, most_accesses}
use Rattle.run_record.specs.Reading.{accesses_from, behind_header, ended, followed, header_of, in_front, line_access, made, next_access, of_thread, record_of}
use Rattle.run_record.specs.Text.{header_text, line_text, record_text}
use Rattle.run_record.proofs.LineTexts.{line_again, line_takes}
use Rattle.run_record.proofs.HeaderTexts.{header_again, header_takes}

abbrev pub Outcome : Type 0
Outcome = Result (List Access) RecordFault

ok_same : {A E : Type 0} (x y : A) → ◌≡◌ {A = Result A E} (Ok x) (Ok y) → x ≡ y
ok_same x y h = cc

err_same : {A E : Type 0} (x y : E) → ◌≡◌ {A = Result A E} (Err x) (Err y) → x ≡ y
err_same x y h = cc

no_ok : {A E : Type 0} (x : A) (y : E) → ◌≡◌ {A = Result A E} (Err y) (Ok x) → ⊥
no_ok x y h = cc

-- one line

pub data NextFault (threads number : ℕ) (bytes : List ℕ) (cause : RecordFault) : Type 0 where
  no_line : ((access : Access) (later : List ℕ) → HasLine bytes access later → ⊥) → cause ≡ fault.Line number → NextFault threads number bytes cause
  stranger : (access : Access) (later : List ℕ) → HasLine bytes access later → threads ≤ access.thread → cause ≡ fault.Thread number
      → NextFault threads number bytes cause

thread_test : (threads number : ℕ) (line : Access × List ℕ) → line.0.thread < threads → of_thread threads number (Some line) ≡ Ok line
thread_test threads number line h = rw (lt-ltb line.0.thread threads h) refl

thread_fails : (threads number : ℕ) (line : Access × List ℕ) → threads ≤ line.0.thread → of_thread threads number (Some line) ≡ Err (fault.Thread number)
thread_fails threads number line h = rw (le-ltb line.0.thread threads h) refl

pub next_again : (threads number : ℕ) (bytes : List ℕ) (access : Access) (rest : List ℕ) → HasLine bytes access rest → access.thread < threads
    → next_access threads number bytes ≡ Ok (access, rest)
next_again threads number bytes access rest line h =
    ap (of_thread threads number) (line_again bytes access rest line) ∙ thread_test threads number (access, rest) h

next_stranger : (threads number : ℕ) (bytes : List ℕ) (access : Access) (rest : List ℕ) → HasLine bytes access rest → threads ≤ access.thread
    → next_access threads number bytes ≡ Err (fault.Thread number)
next_stranger threads number bytes access rest line h =
    ap (of_thread threads number) (line_again bytes access rest line) ∙ thread_fails threads number (access, rest) h

none_if_no_line : (bytes : List ℕ) (read : Read Access) → line_access bytes ≡ read
    → ((access : Access) (later : List ℕ) → HasLine bytes access later → ⊥) → read ≡ None
none_if_no_line bytes None e none = refl
none_if_no_line bytes (Some line) e none = absurd (none line.0 line.1 (line_takes bytes line e))

next_no_line : (threads number : ℕ) (bytes : List ℕ) → ((access : Access) (later : List ℕ) → HasLine bytes access later → ⊥)
    → next_access threads number bytes ≡ Err (fault.Line number)
next_no_line threads number bytes none = ap (of_thread threads number) (none_if_no_line bytes (line_access bytes) refl none)

taken_of : (threads number : ℕ) (bytes : List ℕ) (read : Read Access) (r : Access × List ℕ) → line_access bytes ≡ read
    → of_thread threads number read ≡ Ok r → HasLine bytes r.0 r.1 × (r.0.thread < threads)
taken_of threads number bytes None r e h = absurd (no_ok r (fault.Line number) h)
taken_of threads number bytes (Some line) r e h =
    elim (cases_lt line.0.thread threads) [
      | inl less ↦
          let same : line ≡ r = ok_same line r (sym (thread_test threads number line less) ∙ h) in
          subst (λ p. HasLine bytes p.0 p.1 × (p.0.thread < threads)) same (line_takes bytes line e, less)
      | inr more ↦ absurd (no_ok r (fault.Thread number) (sym (thread_fails threads number line more) ∙ h))
    ]

pub next_takes : (threads number : ℕ) (bytes : List ℕ) (r : Access × List ℕ) → next_access threads number bytes ≡ Ok r
    → HasLine bytes r.0 r.1 × (r.0.thread < threads)
next_takes threads number bytes r h = taken_of threads number bytes (line_access bytes) r refl h

no_err : {A E : Type 0} (x : A) (y : E) → ◌≡◌ {A = Result A E} (Ok x) (Err y) → ⊥
no_err x y h = cc

none_no_line : (bytes : List ℕ) → line_access bytes ≡ None → (access : Access) (later : List ℕ) → HasLine bytes access later → ⊥
none_no_line bytes e access later line = let h = sym e ∙ line_again bytes access later line in cc

fault_of_read : (threads number : ℕ) (bytes : List ℕ) (read : Read Access) (cause : RecordFault) → line_access bytes ≡ read
    → of_thread threads number read ≡ Err cause → NextFault threads number bytes cause
fault_of_read threads number bytes None cause e h = no_line (none_no_line bytes e) (sym (err_same (fault.Line number) cause h))
fault_of_read threads number bytes (Some line) cause e h =
    elim (cases_lt line.0.thread threads) [
      | inl less ↦ absurd (no_err line cause (sym (thread_test threads number line less) ∙ h))
      | inr more ↦
          stranger line.0 line.1 (line_takes bytes line e) more (sym (err_same (fault.Thread number) cause (sym (thread_fails threads number line more) ∙ h)))
    ]

pub next_fault : (threads number : ℕ) (bytes : List ℕ) (cause : RecordFault) → next_access threads number bytes ≡ Err cause
    → NextFault threads number bytes cause
next_fault threads number bytes cause h = fault_of_read threads number bytes (line_access bytes) cause refl h

-- lines, one after another

pub lines_end : (threads number : ℕ) (bytes : List ℕ) → accesses_from threads 0 number bytes ≡ ended number bytes
unfolding accesses_from
lines_end threads number bytes = refl

pub lines_more : (threads count number : ℕ) (bytes : List ℕ)
    → accesses_from threads (suc count) number bytes ≡ followed (next_access threads number bytes) (accesses_from threads count (number + 1))
unfolding accesses_from
lines_more threads count number bytes = refl

-- accesses in front of those that are read
abbrev pub joined : List Access → Outcome → Outcome
joined accesses (Ok later) = Ok (accesses ++ later)
joined accesses (Err cause) = Err cause

-- what stands behind good lines is read next

in_front_joined : (access : Access) (accesses : List Access) (later : Outcome) → in_front access (joined accesses later) ≡ joined (access ∷ accesses) later
in_front_joined access accesses (Ok later) = refl
in_front_joined access accesses (Err cause) = refl

joined_nothing : (later : Outcome) → joined [] later ≡ later
joined_nothing (Ok later) = refl
joined_nothing (Err cause) = refl

small_thread : (threads : ℕ) (access : Access) → threads ≤ 16 → IsAccess threads access → access.thread < 2 ^ 64
small_thread threads access few is = omega (arith, few, is.thread)

pub lines_front : (threads : ℕ) (few : threads ≤ 16) (accesses : List Access) (count number : ℕ) (rest : List ℕ) → AllByRecursion (IsAccess threads) accesses
    → accesses_from threads (length accesses + count) number (flat_map line_text accesses ++ rest)
    ≡ joined accesses (accesses_from threads count (number + length accesses) rest)
lines_front threads few [] count number rest good =
    ap (λ k. accesses_from threads k number rest) (omega arith) ∙ ap (λ n. accesses_from threads count n rest) (omega arith)
    ∙ sym (joined_nothing (accesses_from threads count (number + 0) rest))
lines_front threads few (access ∷ accesses) count number rest good =
    let later : List ℕ = flat_map line_text accesses ++ rest in
    let text : List ℕ = flat_map line_text (access ∷ accesses) ++ rest in
    let parts : text ≡ line_text access ++ later = append_assoc (line_text access) (flat_map line_text accesses) rest in
    let line : HasLine text access later = record { thread = small_thread threads access few good.0; formed = good.0.formed; text = parts } in
    let total : suc (length accesses) + count ≡ suc (length accesses + count) = omega arith in
    let place : number + 1 + length accesses ≡ number + suc (length accesses) = omega arith in
    ap (λ k. accesses_from threads k number text) total
    ∙ lines_more threads (length accesses + count) number text
    ∙ ap (λ r. followed r (accesses_from threads (length accesses + count) (number + 1))) (next_again threads number text access later line good.0.thread)
    ∙ ap (in_front access) (lines_front threads few accesses count (number + 1) rest good.1)
    ∙ in_front_joined access accesses (accesses_from threads count (number + 1 + length accesses) rest)
    ∙ ap (λ n. joined (access ∷ accesses) (accesses_from threads count n rest)) place

-- accesses that are read have these lines, and nothing is behind them

pub record AreLines (threads count : ℕ) (bytes : List ℕ) (accesses : List Access) : Type 0 where
  pub many : length accesses ≡ count
  pub text : bytes ≡ flat_map line_text accesses
  pub good : AllByRecursion (IsAccess threads) accesses

front_some : (access : Access) (later : Outcome) (accesses : List Access) → in_front access later ≡ Ok accesses
    → (others : List Access) × (later ≡ Ok others) × (accesses ≡ access ∷ others)
front_some access (Ok others) accesses h = (others, refl, sym (ok_same (access ∷ others) accesses h))
front_some access (Err cause) accesses h = absurd (no_ok accesses cause h)

ended_some : (threads number : ℕ) (bytes : List ℕ) (accesses : List Access) → ended number bytes ≡ Ok accesses → AreLines threads 0 bytes accesses
ended_some threads number [] accesses h =
    subst (AreLines threads 0 []) (ok_same [] accesses h) (record { many = refl; text = refl; good = tt })
ended_some threads number (byte ∷ bytes) accesses h = absurd (no_ok accesses (fault.Line number) h)

lines_cons : (threads count number : ℕ) (bytes : List ℕ) (r : Access × List ℕ) (others : List Access) → HasLine bytes r.0 r.1 → r.0.thread < threads
    → AreLines threads count r.1 others → AreLines threads (suc count) bytes (r.0 ∷ others)
lines_cons threads count number bytes r others line less are = record {
  many = ap suc are.many;
  text = line.text ∙ ap (λ t. line_text r.0 ++ t) are.text;
  good = (record { thread = less; formed = line.formed }, are.good);
}

followed_some : (next : Result (Access × List ℕ) RecordFault) (later : List ℕ → Outcome) (accesses : List Access) → followed next later ≡ Ok accesses
    → (r : Access × List ℕ) × (next ≡ Ok r) × (others : List Access) × (later r.1 ≡ Ok others) × (accesses ≡ r.0 ∷ others)
followed_some (Ok r) later accesses h = let front = front_some r.0 (later r.1) accesses h in (r, refl, front.0, front.1, front.2)
followed_some (Err cause) later accesses h = absurd (no_ok accesses cause h)

pub lines_take : (threads count number : ℕ) (bytes : List ℕ) (accesses : List Access) → accesses_from threads count number bytes ≡ Ok accesses
    → AreLines threads count bytes accesses
lines_take threads zero number bytes accesses h = ended_some threads number bytes accesses (sym (lines_end threads number bytes) ∙ h)
lines_take threads (suc count) number bytes accesses h =
    let parts = followed_some (next_access threads number bytes) (accesses_from threads count (number + 1)) accesses (sym (lines_more threads count number bytes) ∙ h) in
    let line = next_takes threads number bytes parts.0 parts.1 in
    let others = lines_take threads count (number + 1) parts.0.1 parts.2 parts.3 in
    subst (AreLines threads (suc count) bytes) (sym parts.4) (lines_cons threads count number bytes parts.0 parts.2 line.0 line.1 others)

-- the first fault of lines

pub data Cause (threads count done number : ℕ) (rest : List ℕ) (cause : RecordFault) : Type 0 where
  missing : done < count → ((access : Access) (later : List ℕ) → HasLine rest access later → ⊥) → cause ≡ fault.Line number
      → Cause threads count done number rest cause
  behind : done ≡ count → rest ≢ [] → cause ≡ fault.Line number → Cause threads count done number rest cause
  foreign : done < count → (access : Access) (later : List ℕ) → HasLine rest access later → threads ≤ access.thread → cause ≡ fault.Thread number
      → Cause threads count done number rest cause

pub record Stops (threads count number : ℕ) (bytes : List ℕ) (cause : RecordFault) : Type 0 where
  pub accesses : List Access
  pub rest : List ℕ
  pub good : AllByRecursion (IsAccess threads) accesses
  pub text : bytes ≡ flat_map line_text accesses ++ rest
  pub at : Cause threads count (length accesses) (number + length accesses) rest cause

cause_more : (threads count done number : ℕ) (rest : List ℕ) (cause : RecordFault) → Cause threads count done (number + 1 + done) rest cause
    → Cause threads (suc count) (suc done) (number + suc done) rest cause
cause_more threads count done number rest cause (missing less none is) =
    missing (omega (arith, less)) none (is ∙ ap fault.Line (omega arith))
cause_more threads count done number rest cause (behind same some is) =
    behind (ap suc same) some (is ∙ ap fault.Line (omega arith))
cause_more threads count done number rest cause (foreign less access later line other is) =
    foreign (omega (arith, less)) access later line other (is ∙ ap fault.Thread (omega arith))

stops_more : (threads count number : ℕ) (bytes : List ℕ) (cause : RecordFault) (r : Access × List ℕ) → HasLine bytes r.0 r.1 → r.0.thread < threads
    → Stops threads count (number + 1) r.1 cause → Stops threads (suc count) number bytes cause
stops_more threads count number bytes cause r line less stops = record {
  accesses = r.0 ∷ stops.accesses;
  rest = stops.rest;
  good = (record { thread = less; formed = line.formed }, stops.good);
  text = line.text ∙ ap (λ t. line_text r.0 ++ t) stops.text ∙ sym (append_assoc (line_text r.0) (flat_map line_text stops.accesses) stops.rest);
  at = cause_more threads count (length stops.accesses) number stops.rest cause stops.at;
}

next_stops : (threads count number : ℕ) (bytes : List ℕ) (cause : RecordFault) → NextFault threads number bytes cause → Stops threads (suc count) number bytes cause
next_stops threads count number bytes cause (no_line none is) =
    record { accesses = []; rest = bytes; good = tt; text = refl; at = missing (omega arith) none (is ∙ ap fault.Line (omega arith)) }
next_stops threads count number bytes cause (stranger access later line other is) =
    record { accesses = []; rest = bytes; good = tt; text = refl; at = foreign (omega arith) access later line other (is ∙ ap fault.Thread (omega arith)) }

some_byte : (byte : ℕ) (bytes : List ℕ) → ◌≢◌ {A = List ℕ} (byte ∷ bytes) []
some_byte byte bytes h = cc

ended_stops : (threads number : ℕ) (bytes : List ℕ) (cause : RecordFault) → ended number bytes ≡ Err cause → Stops threads 0 number bytes cause
ended_stops threads number [] cause h = absurd (no_err [] cause h)
ended_stops threads number (byte ∷ bytes) cause h = record {
  accesses = [];
  rest = byte ∷ bytes;
  good = tt;
  text = refl;
  at = behind refl (some_byte byte bytes) (sym (err_same (fault.Line number) cause h) ∙ ap fault.Line (omega arith));
}

front_fault : (access : Access) (later : Outcome) (cause : RecordFault) → in_front access later ≡ Err cause → later ≡ Err cause
front_fault access (Ok others) cause h = absurd (no_err (access ∷ others) cause h)
front_fault access (Err other) cause h = h

followed_fault : (next : Result (Access × List ℕ) RecordFault) (later : List ℕ → Outcome) (cause : RecordFault) → followed next later ≡ Err cause
    → (next ≡ Err cause) ⊎ ((r : Access × List ℕ) × (next ≡ Ok r) × (later r.1 ≡ Err cause))
followed_fault (Ok r) later cause h = inr (r, refl, front_fault r.0 (later r.1) cause h)
followed_fault (Err other) later cause h = inl (ap Err (err_same other cause h))

pub lines_fault : (threads count number : ℕ) (bytes : List ℕ) (cause : RecordFault) → accesses_from threads count number bytes ≡ Err cause
    → Stops threads count number bytes cause
lines_fault threads zero number bytes cause h = ended_stops threads number bytes cause (sym (lines_end threads number bytes) ∙ h)
lines_fault threads (suc count) number bytes cause h =
    elim (followed_fault (next_access threads number bytes) (accesses_from threads count (number + 1)) cause (sym (lines_more threads count number bytes) ∙ h)) [
      | inl here ↦ next_stops threads count number bytes cause (next_fault threads number bytes cause here)
      | inr more ↦
          let line = next_takes threads number bytes more.0 more.1 in
          stops_more threads count number bytes cause more.0 line.0 line.1 (lines_fault threads count (number + 1) more.0.1 cause more.2)
    ]

-- the record

pub steps : (bytes : List ℕ) → record_of bytes ≡ behind_header (header_of bytes)
unfolding record_of
steps bytes = refl

pub text_is : (run : RunRecord) → record_text run ≡ header_text run.threads run.granule run.budget (length run.accesses) ++ flat_map line_text run.accesses
unfolding record_text
text_is run = refl

abbrev header : ℕ → ℕ → ℕ → ℕ → Header
header threads granule budget count = record { threads = threads; granule = granule; budget = budget; count = count }

abbrev pub run_of : ℕ → ℕ → ℕ → List Access → RunRecord
run_of threads granule budget accesses = record { threads = threads; budget = budget; granule = granule; accesses = accesses }

-- behind a header that says no more accesses than a record may have
pub short : (threads granule budget count : ℕ) (rest : List ℕ) → count ≤ most_accesses
    → behind_header (Some (header threads granule budget count, rest)) ≡ made (header threads granule budget count) (accesses_from threads count 2 rest)
short threads granule budget count rest h = rw (le-ltb most_accesses count h) refl

pub long : (threads granule budget count : ℕ) (rest : List ℕ) → most_accesses < count → behind_header (Some (header threads granule budget count, rest)) ≡ Err fault.TooLong
long threads granule budget count rest h = rw (lt-ltb most_accesses count h) refl

read_behind : (bytes : List ℕ) (threads granule budget count : ℕ) (rest : List ℕ) → HasHeader bytes threads granule budget count rest → count ≤ most_accesses
    → record_of bytes ≡ made (header threads granule budget count) (accesses_from threads count 2 rest)
read_behind bytes threads granule budget count rest has few =
    steps bytes ∙ ap behind_header (header_again bytes threads granule budget count rest has) ∙ short threads granule budget count rest few

made_some : (head : Header) (lines : Outcome) (run : RunRecord) → made head lines ≡ Ok run
    → (accesses : List Access) × (lines ≡ Ok accesses) × (run_of head.threads head.granule head.budget accesses ≡ run)
made_some head (Ok accesses) run h = (accesses, refl, ok_same (run_of head.threads head.granule head.budget accesses) run h)
made_some head (Err cause) run h = absurd (no_ok run cause h)

made_fault : (head : Header) (lines : Outcome) (cause : RecordFault) → made head lines ≡ Err cause → lines ≡ Err cause
made_fault head (Ok accesses) cause h = absurd (no_err (run_of head.threads head.granule head.budget accesses) cause h)
made_fault head (Err other) cause h = ap Err (err_same other cause h)

-- a record that is read has this text
record_read : (bytes : List ℕ) (line : Header × List ℕ) (run : RunRecord) → HasHeader bytes line.0.threads line.0.granule line.0.budget line.0.count line.1
    → line.0.count ≤ most_accesses → made line.0 (accesses_from line.0.threads line.0.count 2 line.1) ≡ Ok run → (record_text run ≡ bytes) × IsRecord run
record_read bytes line run has few h =
    let parts = made_some line.0 (accesses_from line.0.threads line.0.count 2 line.1) run h in
    let lines = lines_take line.0.threads line.0.count 2 line.1 parts.0 parts.1 in
    let made_run : RunRecord = run_of line.0.threads line.0.granule line.0.budget parts.0 in
    let text : record_text made_run ≡ bytes =
    text_is made_run
    ∙ ap (λ n. header_text line.0.threads line.0.granule line.0.budget n ++ flat_map line_text parts.0) lines.many
    ∙ ap (λ t. header_text line.0.threads line.0.granule line.0.budget line.0.count ++ t) (sym lines.text)
    ∙ sym has.text
    in
    let is : IsRecord made_run = record {
      numbers = has.numbers;
      count = omega (arith, lines.many, few);
      accesses = All-from_recursion (IsAccess line.0.threads) parts.0 lines.good;
    } in
    subst (λ r. (record_text r ≡ bytes) × IsRecord r) parts.2 (text, is)

by_header : (bytes : List ℕ) (front : Read Header) (run : RunRecord) → header_of bytes ≡ front → behind_header front ≡ Ok run
    → (record_text run ≡ bytes) × IsRecord run
by_header bytes None run e h = absurd (no_ok run fault.Header h)
by_header bytes (Some line) run e h =
    elim (cases_lt most_accesses line.0.count) [
      | inl more ↦ absurd (no_ok run fault.TooLong (sym (long line.0.threads line.0.granule line.0.budget line.0.count line.1 more) ∙ h))
      | inr few ↦
          record_read bytes line run (header_takes bytes line e) few (sym (short line.0.threads line.0.granule line.0.budget line.0.count line.1 few) ∙ h)
    ]

pub record_takes : (bytes : List ℕ) (run : RunRecord) → record_of bytes ≡ Ok run → (record_text run ≡ bytes) × IsRecord run
record_takes bytes run h = by_header bytes (header_of bytes) run refl (sym (steps bytes) ∙ h)

-- the text of a record is read
pub record_again : (run : RunRecord) → IsRecord run → record_of (record_text run) ≡ Ok run
record_again run is =
    let count = length run.accesses in
    let lines : List ℕ = flat_map line_text run.accesses in
    let head : Header = header run.threads run.granule run.budget count in
    let has : HasHeader (record_text run) run.threads run.granule run.budget count lines =
    record { numbers = is.numbers; small = omega (arith, is.count); text = text_is run } in
    let all : accesses_from run.threads count 2 lines ≡ Ok run.accesses =
    ap (λ k. accesses_from run.threads k 2 lines) (omega arith)
    ∙ ap (accesses_from run.threads (count + 0) 2) (sym (append-nil lines))
    ∙ lines_front run.threads is.numbers.few run.accesses 0 2 [] (recursion_from_All (IsAccess run.threads) run.accesses is.accesses)
    ∙ ap (joined run.accesses) (lines_end run.threads (2 + count) [])
    ∙ ap Ok (append-nil run.accesses)
    in
    read_behind (record_text run) run.threads run.granule run.budget count lines has is.count ∙ ap (made head) all

-- the fault that is read is the first

cause_first : (bytes : List ℕ) (threads count : ℕ) (accesses : List Access) (rest : List ℕ) (cause : RecordFault)
    → Begins bytes threads count accesses rest → Cause threads count (length accesses) (2 + length accesses) rest cause → HasFault bytes cause
cause_first bytes threads count accesses rest cause begins (missing less none is) =
    subst (HasFault bytes) (sym (is ∙ ap fault.Line (omega arith))) (HasFault.line threads count accesses rest begins less none)
cause_first bytes threads count accesses rest cause begins (behind same some is) =
    subst (HasFault bytes) (sym (is ∙ ap fault.Line (omega arith))) (HasFault.left threads count accesses rest begins same some)
cause_first bytes threads count accesses rest cause begins (foreign less access later line other is) =
    subst (HasFault bytes) (sym (is ∙ ap fault.Thread (omega arith))) (HasFault.thread threads count accesses rest begins less access later line other)

cause_within : (threads count done number : ℕ) (rest : List ℕ) (cause : RecordFault) → Cause threads count done number rest cause → done ≤ count
cause_within threads count done number rest cause (missing less none is) = omega (arith, less)
cause_within threads count done number rest cause (behind same some is) = omega (arith, same)
cause_within threads count done number rest cause (foreign less access later line other is) = omega (arith, less)

stops_first : (bytes : List ℕ) (line : Header × List ℕ) (cause : RecordFault) → HasHeader bytes line.0.threads line.0.granule line.0.budget line.0.count line.1
    → line.0.count ≤ most_accesses → Stops line.0.threads line.0.count 2 line.1 cause → HasFault bytes cause
stops_first bytes line cause has few stops =
    let begins : Begins bytes line.0.threads line.0.count stops.accesses stops.rest = record {
      granule = line.0.granule;
      budget = line.0.budget;
      header = record {
        numbers = has.numbers;
        small = has.small;
        text = has.text ∙ ap (λ t. header_text line.0.threads line.0.granule line.0.budget line.0.count ++ t) stops.text;
      };
      few = few;
      good = All-from_recursion (IsAccess line.0.threads) stops.accesses stops.good;
      within = cause_within line.0.threads line.0.count (length stops.accesses) (2 + length stops.accesses) stops.rest cause stops.at;
    } in
    cause_first bytes line.0.threads line.0.count stops.accesses stops.rest cause begins stops.at

none_header : (bytes : List ℕ) → header_of bytes ≡ None → (threads granule budget count : ℕ) (rest : List ℕ) → HasHeader bytes threads granule budget count rest → ⊥
none_header bytes e threads granule budget count rest has = let h = sym e ∙ header_again bytes threads granule budget count rest has in cc

fault_by_header : (bytes : List ℕ) (front : Read Header) (cause : RecordFault) → header_of bytes ≡ front → behind_header front ≡ Err cause → HasFault bytes cause
fault_by_header bytes None cause e h =
    subst (HasFault bytes) (err_same fault.Header cause h) (HasFault.header (none_header bytes e))
fault_by_header bytes (Some line) cause e h =
    let has = header_takes bytes line e in
    elim (cases_lt most_accesses line.0.count) [
      | inl more ↦
          subst (HasFault bytes) (err_same fault.TooLong cause (sym (long line.0.threads line.0.granule line.0.budget line.0.count line.1 more) ∙ h))
          (HasFault.too_long line.0.threads line.0.granule line.0.budget line.0.count line.1 has more)
      | inr few ↦
          let lines = made_fault line.0 (accesses_from line.0.threads line.0.count 2 line.1) cause (sym (short line.0.threads line.0.granule line.0.budget line.0.count line.1 few) ∙ h) in
          stops_first bytes line cause has few (lines_fault line.0.threads line.0.count 2 line.1 cause lines)
    ]

pub fault_first : (bytes : List ℕ) (cause : RecordFault) → record_of bytes ≡ Err cause → HasFault bytes cause
fault_first bytes cause h = fault_by_header bytes (header_of bytes) cause refl (sym (steps bytes) ∙ h)

-- the first fault is read

none_if_no_header : (bytes : List ℕ) (front : Read Header) → header_of bytes ≡ front
    → ((threads granule budget count : ℕ) (rest : List ℕ) → HasHeader bytes threads granule budget count rest → ⊥) → front ≡ None
none_if_no_header bytes None e none = refl
none_if_no_header bytes (Some line) e none = absurd (none line.0.threads line.0.granule line.0.budget line.0.count line.1 (header_takes bytes line e))

begun : (bytes : List ℕ) (threads count : ℕ) (accesses : List Access) (rest : List ℕ) (cause : RecordFault) (begins : Begins bytes threads count accesses rest)
    → accesses_from threads (count - length accesses) (2 + length accesses) rest ≡ Err cause → record_of bytes ≡ Err cause
begun bytes threads count accesses rest cause begins h =
    let lines : List ℕ = flat_map line_text accesses ++ rest in
    let head : Header = header threads begins.granule begins.budget count in
    let total : count ≡ length accesses + (count - length accesses) = omega (arith, begins.within) in
    read_behind bytes threads begins.granule begins.budget count lines begins.header begins.few
    ∙ ap (λ k. made head (accesses_from threads k 2 lines)) total
    ∙ ap (made head) (lines_front threads begins.header.numbers.few accesses (count - length accesses) 2 rest (recursion_from_All (IsAccess threads) accesses begins.good))
    ∙ ap (λ r. made head (joined accesses r)) h

pub more_fault : (threads left number : ℕ) (rest : List ℕ) (cause : RecordFault) → 0 < left → next_access threads number rest ≡ Err cause
    → accesses_from threads left number rest ≡ Err cause
more_fault threads zero number rest cause h e = absurd (omega (arith, h))
more_fault threads (suc left) number rest cause h e = lines_more threads left number rest ∙ ap (λ r. followed r (accesses_from threads left (number + 1))) e

pub left_fault : (threads left number : ℕ) (rest : List ℕ) → left ≡ 0 → rest ≢ [] → accesses_from threads left number rest ≡ Err (fault.Line number)
left_fault threads left number [] e some = absurd (some refl)
left_fault threads left number (byte ∷ rest) e some = ap (λ k. accesses_from threads k number (byte ∷ rest)) e ∙ lines_end threads number (byte ∷ rest)

pub first_read : (bytes : List ℕ) (cause : RecordFault) → HasFault bytes cause → record_of bytes ≡ Err cause
first_read bytes _ (HasFault.header none) = steps bytes ∙ ap behind_header (none_if_no_header bytes (header_of bytes) refl none)
first_read bytes _ (HasFault.too_long threads granule budget count rest has more) =
    steps bytes ∙ ap behind_header (header_again bytes threads granule budget count rest has) ∙ long threads granule budget count rest more
first_read bytes _ (HasFault.line threads count accesses rest begins less none) =
    begun bytes threads count accesses rest (fault.Line (length accesses + 2)) begins
    (more_fault threads (count - length accesses) (2 + length accesses) rest (fault.Line (length accesses + 2)) (omega (arith, less))
    (next_no_line threads (2 + length accesses) rest none ∙ ap (λ n. Err (fault.Line n)) (omega arith)))
first_read bytes _ (HasFault.left threads count accesses rest begins same some) =
    begun bytes threads count accesses rest (fault.Line (length accesses + 2)) begins
    (left_fault threads (count - length accesses) (2 + length accesses) rest (omega (arith, same)) some ∙ ap (λ n. Err (fault.Line n)) (omega arith))
first_read bytes _ (HasFault.thread threads count accesses rest begins less access later line other) =
    begun bytes threads count accesses rest (fault.Thread (length accesses + 2)) begins
    (more_fault threads (count - length accesses) (2 + length accesses) rest (fault.Thread (length accesses + 2)) (omega (arith, less))
    (next_stranger threads (2 + length accesses) rest access later line other ∙ ap (λ n. Err (fault.Thread n)) (omega arith)))
