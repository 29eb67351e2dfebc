-- A thread's entries are operations exactly where each of them may come at its stage.
use Rattle.std.proofs.Common.{◌≡◌, ◌≢◌, ℕ, true, false, List, [], ◌∷◌, nat_eq, refl, sym, ap, subst, ◌∙◌, inl, inr}
use Rattle.std.proofs.lemmas.Bool.{cases_Bool, eqb-true, eqb-false}
use Rattle.llsc_base.specs.Sizes.{Numbers}
use Rattle.history.specs.Entry.{thread_of}
use Rattle.history.specs.Parts.{entries_of}
use Rattle.history.specs.Standing.{Stage, Standing, begun, joined, looked, rests, standing_after, updated, written}
use Rattle.history.specs.Follow.{MayFollow, MayJoin}
use Rattle.history.specs.declared.entry.Entry.{Entry}
use Rattle.history.specs.declared.entry.Entry.TheVariants.{Read, Write, Fail, Clear, Watch, Miss, Begin, End, Start}
use Rattle.history.proofs.Marks.{updated-same, updated-other}

-- ---- stages

-- the stage at which an entry may come
abbrev pub stage_before : Entry → Stage
stage_before (Read thread place value true) = looked place
stage_before (Read thread place value false) = rests
stage_before (Write thread place value ex) = begun place
stage_before (Fail thread place value cause) = rests
stage_before (Clear thread) = rests
stage_before (Watch thread place) = rests
stage_before (Miss thread place) = rests
stage_before (Begin thread place) = rests
stage_before (End thread place) = written place
stage_before (Start thread child entry arg) = rests

-- the stage of its thread after it
abbrev pub stage_after : Entry → Stage
stage_after (Read thread place value ex) = rests
stage_after (Write thread place value ex) = written place
stage_after (Fail thread place value cause) = rests
stage_after (Clear thread) = rests
stage_after (Watch thread place) = looked place
stage_after (Miss thread place) = looked place
stage_after (Begin thread place) = begun place
stage_after (End thread place) = rests
stage_after (Start thread child entry arg) = rests

-- entries of one thread, each of which may come at its stage
abbrev pub AreStaged : Stage → List Entry → Type 0
AreStaged stage [] = Unit {0}
AreStaged stage (e ∷ es) = (stage ≡ stage_before e) × AreStaged (stage_after e) es

-- the stage after entries of one thread
abbrev pub last_stage : Stage → List Entry → Stage
last_stage stage [] = stage
last_stage stage (e ∷ es) = last_stage (stage_after e) es

-- how things stand of the stages
pub joined-stage : (size : Numbers) (s : Standing) (e : Entry) → (joined size s e).stage ≡ updated s.stage (thread_of e) (stage_after e)
joined-stage size s (Read thread place value ex) = refl
joined-stage size s (Write thread place value ex) = refl
joined-stage size s (Fail thread place value cause) = refl
joined-stage size s (Clear thread) = refl
joined-stage size s (Watch thread place) = refl
joined-stage size s (Miss thread place) = refl
joined-stage size s (Begin thread place) = refl
joined-stage size s (End thread place) = refl
joined-stage size s (Start thread child entry arg) = refl

pub MayJoin-stage : (size : Numbers) (s : Standing) (e : Entry) → MayJoin size s e → s.stage (thread_of e) ≡ stage_before e
MayJoin-stage size s (Read thread place value true) may = may.0
MayJoin-stage size s (Read thread place value false) may = may.0
MayJoin-stage size s (Write thread place value ex) may = may.0
MayJoin-stage size s (Fail thread place value cause) may = may.0
MayJoin-stage size s (Clear thread) may = may.0
MayJoin-stage size s (Watch thread place) may = may
MayJoin-stage size s (Miss thread place) may = may.0
MayJoin-stage size s (Begin thread place) may = may
MayJoin-stage size s (End thread place) may = may
MayJoin-stage size s (Start thread child entry arg) may = may

entries_of-own : (t : ℕ) (e : Entry) (es : List Entry) → nat_eq (thread_of e) t ≡ true → entries_of t (e ∷ es) ≡ e ∷ entries_of t es
entries_of-own t e es own = rw own refl

entries_of-other : (t : ℕ) (e : Entry) (es : List Entry) → nat_eq (thread_of e) t ≡ false → entries_of t (e ∷ es) ≡ entries_of t es
entries_of-other t e es other = rw other refl

-- entries that follow are staged, thread by thread
pub AreStaged-MayFollow : (size : Numbers) (s : Standing) (t : ℕ) (history : List Entry) → MayFollow size s history
    → AreStaged (s.stage t) (entries_of t history)
AreStaged-MayFollow size s t [] follows = tt
AreStaged-MayFollow size s t (e ∷ es) follows = elim (cases_Bool (nat_eq (thread_of e) t)) [
  | inl own ↦
      let same : thread_of e ≡ t = eqb-true (thread_of e) t own in
      let new : (joined size s e).stage t ≡ stage_after e =
      ap (λ (f : ℕ → Stage). f t) (joined-stage size s e)
      ∙ ap (updated s.stage (thread_of e) (stage_after e)) (sym same)
      ∙ updated-same s.stage (thread_of e) (stage_after e) in
      let rest : AreStaged (stage_after e) (entries_of t es) = subst (λ (x : Stage). AreStaged x (entries_of t es)) new (AreStaged-MayFollow size (joined size s e) t es follows.1) in
      let first : s.stage t ≡ stage_before e = ap s.stage (sym same) ∙ MayJoin-stage size s e follows.0 in
      subst (AreStaged (s.stage t)) (sym (entries_of-own t e es own)) (first, rest)
  | inr other ↦
      let ne : t ≢ thread_of e = λ same. eqb-false (thread_of e) t other (sym same) in
      let new : (joined size s e).stage t ≡ s.stage t =
      ap (λ (f : ℕ → Stage). f t) (joined-stage size s e) ∙ updated-other s.stage (thread_of e) (stage_after e) t ne in
      let rest : AreStaged (s.stage t) (entries_of t es) = subst (λ (x : Stage). AreStaged x (entries_of t es)) new (AreStaged-MayFollow size (joined size s e) t es follows.1) in
      subst (AreStaged (s.stage t)) (sym (entries_of-other t e es other)) rest
]

-- the stage of a thread is that after its entries
pub last_stage-standing : (size : Numbers) (s : Standing) (t : ℕ) (history : List Entry)
    → (standing_after size s history).stage t ≡ last_stage (s.stage t) (entries_of t history)
last_stage-standing size s t [] = refl
last_stage-standing size s t (e ∷ es) = elim (cases_Bool (nat_eq (thread_of e) t)) [
  | inl own ↦
      let same : thread_of e ≡ t = eqb-true (thread_of e) t own in
      let new : (joined size s e).stage t ≡ stage_after e =
      ap (λ (f : ℕ → Stage). f t) (joined-stage size s e)
      ∙ ap (updated s.stage (thread_of e) (stage_after e)) (sym same)
      ∙ updated-same s.stage (thread_of e) (stage_after e) in
      last_stage-standing size (joined size s e) t es
      ∙ ap (λ (x : Stage). last_stage x (entries_of t es)) new
      ∙ sym (ap (last_stage (s.stage t)) (entries_of-own t e es own))
  | inr other ↦
      let ne : t ≢ thread_of e = λ same. eqb-false (thread_of e) t other (sym same) in
      let new : (joined size s e).stage t ≡ s.stage t =
      ap (λ (f : ℕ → Stage). f t) (joined-stage size s e) ∙ updated-other s.stage (thread_of e) (stage_after e) t ne in
      last_stage-standing size (joined size s e) t es
      ∙ ap (λ (x : Stage). last_stage x (entries_of t es)) new
      ∙ sym (ap (last_stage (s.stage t)) (entries_of-other t e es other))
]
