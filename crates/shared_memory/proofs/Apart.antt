-- An entry of one thread: what it makes of that thread, and what it leaves of the others.
use Rattle.std.proofs.Common.{◌≡◌, ◌≢◌, ℕ, ◌&&◌, Bool, true, false, if◌then◌else◌, nat_eq, Option, Some, None, refl, ap, sym, ◌∙◌}
use Rattle.std.proofs.lemmas.Bool.{ne_eqb}
use Rattle.llsc_base.specs.Memory.{row_of}
use Rattle.llsc_base.specs.Sizes.{Numbers}
use Rattle.llsc_base.specs.declared.access.Place.{Place}
use Rattle.history.specs.Entry.{thread_of}
use Rattle.history.specs.Monitor.{unless_on}
use Rattle.history.specs.Standing.{Stage, Standing, joined}
use Rattle.history.specs.declared.entry.Entry.{Entry}
use Rattle.history.specs.declared.entry.Entry.TheVariants.{Read, Write, Fail, Clear, Watch, Miss, Begin, End, Start}
use Rattle.history.proofs.Marks.{joined-mark, mark_step, updated-other, updated-same}
use Rattle.history.proofs.Stages.{joined-stage, stage_after}
use Rattle.history.proofs.Steps.{joined-reserved, reserved_step}

pub stage-other : (size : Numbers) (s : Standing) (e : Entry) (u : ℕ) → u ≢ thread_of e → (joined size s e).stage u ≡ s.stage u
stage-other size s e u ne = ap (λ (f : ℕ → Stage). f u) (joined-stage size s e) ∙ updated-other s.stage (thread_of e) (stage_after e) u ne

pub stage-own : (size : Numbers) (s : Standing) (e : Entry) → (joined size s e).stage (thread_of e) ≡ stage_after e
stage-own size s e = ap (λ (f : ℕ → Stage). f (thread_of e)) (joined-stage size s e) ∙ updated-same s.stage (thread_of e) (stage_after e)

step-other : (size : Numbers) (u : ℕ) (old : Option ℕ) (e : Entry) → nat_eq (thread_of e) u ≡ false → reserved_step size u old e ≡ old
step-other size u old (Read thread place value ex) other = refl
step-other size u old (Write thread place value ex) other = rw other refl
step-other size u old (Fail thread place value cause) other = rw other refl
step-other size u old (Clear thread) other = rw other refl
step-other size u old (Watch thread place) other = rw other refl
step-other size u old (Miss thread place) other = rw other refl
step-other size u old (Begin thread place) other = rw other refl
step-other size u old (End thread place) other = refl
step-other size u old (Start thread child entry arg) other = refl

pub reserved-other : (size : Numbers) (s : Standing) (e : Entry) (u : ℕ) → u ≢ thread_of e → (joined size s e).reserved u ≡ s.reserved u
reserved-other size s e u ne = joined-reserved size s e u ∙ step-other size u (s.reserved u) e (ne_eqb (thread_of e) u (λ same. ne (sym same)))

-- an entry is a write
abbrev pub is_written : Entry → Bool
is_written (Write thread place value ex) = true
is_written _ = false

mark-step_other : (granule u : ℕ) (old : Option ℕ) (e : Entry) → nat_eq (thread_of e) u ≡ false → is_written e ≡ false → mark_step granule u old e ≡ old
mark-step_other granule u old (Read thread place value true) other plain = rw other refl
mark-step_other granule u old (Read thread place value false) other plain = refl
mark-step_other granule u old (Write thread place value ex) other plain = absurd (let f : ⊥ = cc in f)
mark-step_other granule u old (Fail thread place value cause) other plain = rw other refl
mark-step_other granule u old (Clear thread) other plain = rw other refl
mark-step_other granule u old (Watch thread place) other plain = refl
mark-step_other granule u old (Miss thread place) other plain = refl
mark-step_other granule u old (Begin thread place) other plain = refl
mark-step_other granule u old (End thread place) other plain = refl
mark-step_other granule u old (Start thread child entry arg) other plain = refl

pub mark-other : (size : Numbers) (s : Standing) (e : Entry) (u : ℕ) → u ≢ thread_of e → is_written e ≡ false → (joined size s e).mark u ≡ s.mark u
mark-other size s e u ne plain = joined-mark size s e u ∙ mark-step_other size.granule u (s.mark u) e (ne_eqb (thread_of e) u (λ same. ne (sym same))) plain

unless_elsewhere : (row at : ℕ) → at ≢ row → unless_on at (Some row) ≡ Some row
unless_elsewhere row at ne = rw (ne_eqb row at (λ same. ne (sym same))) refl

-- a write of another row
pub mark-written : (size : Numbers) (s : Standing) (t : ℕ) (place : Place) (value : ℕ) (ex : Bool) (u row : ℕ) → (nat_eq t u && ex) ≡ false
    → row_of size.granule place ≢ row → s.mark u ≡ Some row → (joined size s (Write t place value ex)).mark u ≡ Some row
mark-written size s t place value ex u row plain ne marked =
    joined-mark size s (Write t place value ex) u
    ∙ ap (λ (b : Bool). if b then None else unless_on (row_of size.granule place) (s.mark u)) plain
    ∙ ap (unless_on (row_of size.granule place)) marked
    ∙ unless_elsewhere row (row_of size.granule place) ne
