-- From what the parts of an answer give to what a command gives.
use Rattle.std.proofs.Common.{◌≡◌, ℕ, inl, inr, List, Option, Some, None, Err, refl, sym, ◌∙◌, subst, ap}
use Rattle.llsc_base.specs.Sizes.{Numbers}
use Rattle.llsc_base.specs.Images.{Program}
use Rattle.history.specs.declared.entry.Entry.{Entry}
use Rattle.version_memory.specs.declared.passes.VersionStory.{VersionStory}
use Rattle.llsc_words.specs.declared.formats.Format.{Format}
use Rattle.llsc_words.specs.declared.sets.SetName.{SetName}
use Rattle.llsc_words.specs.declared.sets.SetName.TheVariants.{A32}
use Rattle.llsc_host.specs.Said.{refusal_text}
use Rattle.llsc_files.specs.declared.files.Loaded.{Loaded}
use Rattle.llsc_files.specs.declared.refusals.Refusal.{Refusal}
use Rattle.llsc_files.specs.declared.refusals.Refusal.TheVariants as refusal
use Rattle.llsc_files.specs.Refusals.{Answer, Is, unless, IsRefusal, Unless}
use Rattle.llsc_files.specs.Programs.{image_of, program_refusal, program_refusal_as, IsLoaded, IsLoadedAs}
use Rattle.llsc_texts.specs.Assembly.{IsGiven}
use Rattle.llsc_call.specs.inner.Outcome.{Gives, GivesBy, IsOneAnswer, refused_by}
use Rattle.llsc_call.specs.Run.{told, UnlessRun}
use Rattle.llsc_call.specs.declared.outcome.Outcome.{Outcome}

-- an outcome that is one of some answers is one of others, where those are among these
pub one_as : {A B : ℕ → List ℕ → Type 0} (o : Outcome) → ((s : ℕ) (text : List ℕ) → A s text → B s text) → IsOneAnswer A o → IsOneAnswer B o
one_as o also one = record { sayable = one.sayable; done = one.done; is = also _ _ one.is }

pub gives_as : {A B : ℕ → List ℕ → Type 0} (o : Outcome) → ((s : ℕ) (text : List ℕ) → A s text → B s text) → Gives A o → Gives B o
gives_as o also (inl none) = inl none
gives_as o also (inr one) = inr (one_as o also one)

pub gives_by_as : (A B : Option (List Entry) → ℕ → List ℕ → Type 0) (o : Outcome) (story : Option VersionStory)
    → ((s : ℕ) (text : List ℕ) → A (told story) s text → B (told story) s text) → GivesBy A o story → GivesBy B o story
gives_by_as A B o story also (inl none) = inl none
gives_by_as A B o story also (inr one) = inr (one_as o also one)

-- an outcome with no history
pub gives_alone : (A : ℕ → List ℕ → Type 0) (B : Option (List Entry) → ℕ → List ℕ → Type 0) (made o : Outcome) (story : Option VersionStory) → o ≡ made → story ≡ None
    → ((s : ℕ) (text : List ℕ) → A s text → B None s text) → Gives A made → GivesBy B o story
gives_alone A B made o story same none also (inl wanting) = inl (same ∙ wanting, none)
gives_alone A B made o story same none also (inr one) =
    inr (subst (λ t. IsOneAnswer (B (told t)) o) (sym none) (one_as o also (subst (IsOneAnswer A) (sym same) one)))

-- a refusal
pub gives_refused : (A : ℕ → List ℕ → Type 0) (against : Option (List ℕ)) (o : Outcome) (r : Refusal) → o ≡ refused_by r → IsRefusal against r
    → ((name : List ℕ) → against ≡ Some name → A 4 (refusal_text name)) → Gives A o
gives_refused A against o r is refused also = subst (Gives A) (sym is) (by_refusal r refused)
  where
    by_refusal : (r : Refusal) → IsRefusal against r → Gives A (refused_by r)
    by_refusal (refusal.Said text) said = inr (record { sayable = tt; done = inr (inr (inl refl)); is = subst (A 4) (sym said.1.1) (also said.0 said.1.0) })
    by_refusal refusal.Memory wanting = inl refl

-- what stands against a request is its answer, and where nothing does the answer is one of those
pub unless_refused : (A : ℕ → List ℕ → Type 0) (against : Option (List ℕ)) (name : List ℕ) → against ≡ Some name → Unless against A 4 (refusal_text name)
unless_refused A against name is = subst (λ r. Unless r A 4 (refusal_text name)) (sym is) (refl, refl)

pub unless_none : (A : ℕ → List ℕ → Type 0) (against : Option (List ℕ)) (s : ℕ) (text : List ℕ) → against ≡ None → A s text → Unless against A s text
unless_none A against s text none holds = subst (λ r. Unless r A s text) (sym none) holds

pub gives_unless : (A : ℕ → List ℕ → Type 0) (against : Option (List ℕ)) (o : Outcome) (r : Refusal) → o ≡ refused_by r → IsRefusal against r → Gives (Unless against A) o
gives_unless A against o r is refused = gives_refused (Unless against A) against o r is refused (unless_refused A against)

-- A program's file, on a machine whose numbers are said to be others.

-- it is refused
pub file_refused : (A : ℕ → List ℕ → Type 0) (format : Format) (size wanted : Numbers) (file : List ℕ) (o : Outcome) (r : Refusal) → size ≡ wanted → o ≡ refused_by r
    → IsRefusal (program_refusal format size file) r → Gives (Unless (program_refusal format wanted file) A) o
file_refused A format size wanted file o r same is refused =
    gives_unless A (program_refusal format wanted file) o r is (subst (λ n. IsRefusal (program_refusal format n file) r) same refused)

-- it was loaded, and what was made of its image is the answer
answer_on : (A : Program → Numbers → ℕ → List ℕ → Type 0) (set : SetName) (format : Format) (size wanted : Numbers) (file : List ℕ) (loaded : Loaded) → size ≡ wanted
    → IsLoadedAs set format size file loaded → (s : ℕ) (text : List ℕ) → A loaded.image loaded.size s text → A (image_of format file wanted) wanted s text
answer_on A set format size wanted file loaded same had s text holds =
    subst (λ n. A (image_of format file n) n s text) same
    (subst (λ i. A i size s text) had.image (subst (λ n. A loaded.image n s text) had.sized holds))

pub file_loaded : (A : Program → Numbers → ℕ → List ℕ → Type 0) (format : Format) (size wanted : Numbers) (file : List ℕ) (loaded : Loaded) (o : Outcome) → size ≡ wanted
    → IsLoaded format size file loaded → Gives (A loaded.image loaded.size) o → Gives (Unless (program_refusal format wanted file) (A (image_of format file wanted) wanted)) o
file_loaded A format size wanted file loaded o same had gives =
    gives_as o
    (λ s text holds. unless_none (A (image_of format file wanted) wanted) (program_refusal format wanted file) s text
    (subst (λ n. program_refusal format n file ≡ None) same had.sound) (answer_on A A32 format size wanted file loaded same had s text holds))
    gives

-- an answer of one text and one status
pub unless_is : (answer : Answer) (against : Option (List ℕ)) (s : ℕ) (text : List ℕ) → Unless against (Is answer) s text → Is (unless against answer) s text
unless_is answer (Some name) s text is = is
unless_is answer None s text is = is

-- it is refused
pub gives_given : (answer : Answer) (o : Outcome) (r : Refusal) → o ≡ refused_by r → IsGiven answer (Err r) → Gives (Is answer) o
gives_given answer o r is given = subst (Gives (Is answer)) (sym is) (by_refusal r given)
  where
    by_refusal : (r : Refusal) → IsGiven answer (Err r) → Gives (Is answer) (refused_by r)
    by_refusal (refusal.Said text) said = inr (record { sayable = tt; done = inr (inr (inl refl)); is = (sym (ap (λ (a : Answer). a.status) said), sym (ap (λ (a : Answer). a.text) said)) })
    by_refusal refusal.Memory wanting = inl refl

-- Threads that ran beside each other.

-- what stands against a run is its answer, where no thread ran
pub run_refused : (against : Option (List ℕ)) (A : Option (List Entry) → ℕ → List ℕ → Type 0) (made o : Outcome) (story : Option VersionStory) (r : Refusal)
    → o ≡ made → story ≡ None → made ≡ refused_by r → IsRefusal against r → GivesBy (λ story. UnlessRun against story (A story)) o story
run_refused against A made o story r same none is refused =
    gives_alone (UnlessRun against None (A None)) (λ story. UnlessRun against story (A story)) made o story same none (λ s text stands. stands)
    (gives_refused (UnlessRun against None (A None)) against made r is refused (λ name stands. subst (λ a. UnlessRun a None (A None) 4 (refusal_text name)) (sym stands) (refl, (refl, refl))))

-- and where nothing does the answer is that of the threads
pub run_clean : (against : Option (List ℕ)) (A : Option (List Entry) → ℕ → List ℕ → Type 0) (story : Option (List Entry)) (s : ℕ) (text : List ℕ)
    → against ≡ None → A story s text → UnlessRun against story (A story) s text
run_clean against A story s text none holds = subst (λ a. UnlessRun a story (A story) s text) (sym none) holds

pub run_loaded : (A : Option (List Entry) → Program → Numbers → ℕ → List ℕ → Type 0) (set : SetName) (format : Format) (size : Numbers) (file : List ℕ) (loaded : Loaded) (o : Outcome) (story : Option VersionStory)
    → IsLoadedAs set format size file loaded → GivesBy (λ story. A story loaded.image loaded.size) o story
    → GivesBy (λ story. UnlessRun (program_refusal_as set format size file) story (A story (image_of format file size) size)) o story
run_loaded A set format size file loaded o story had gives =
    gives_by_as (λ story. A story loaded.image loaded.size) (λ story. UnlessRun (program_refusal_as set format size file) story (A story (image_of format file size) size)) o story
    (λ s text holds. run_clean (program_refusal_as set format size file) (λ story. A story (image_of format file size) size) (told story) s text had.sound
    (answer_on (A (told story)) set format size size file loaded refl had s text holds))
    gives
