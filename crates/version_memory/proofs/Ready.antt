-- A seat that may make a step: which words it steps on, and that it may make the next one.
use Rattle.std.proofs.Common.{◌≡◌, ◌+◌, ◌*◌, ◌/◌, ◌<◌, ◌≤◌, List, ◌∙◌, arith, ℕ, ◌%◌, ap, sym, subst, inl, inr}
use Rattle.llsc_base.specs.Memory.{cell_of, row_of}
use Rattle.llsc_base.specs.declared.access.Place.{Place}
use Rattle.llsc_base.proofs.Cells.{cell_of-lt, class_of-lt}
use Rattle.history.specs.Started.{MayAct, child_of}
use Rattle.history.specs.declared.entry.Entry.{Entry}
use Rattle.history.proofs.Born.{child-below, may-act-later}
use Rattle.atomic_table.specs.Seated.{TableId}
use Rattle.shared_memory.specs.Origin.{Origin}
use Rattle.version_rule.specs.declared.hands.Hand.{Hand}
use Rattle.shared_memory.specs.declared.plans.Plan.{Plan}
use Rattle.version_rule.specs.Hands.{class_at}
use Rattle.shared_memory.specs.Layout.{cell_word, tag_word}
use Rattle.shared_memory.specs.Told.{Goes}
use Rattle.shared_memory.specs.inner.Told.{ask}
use Rattle.version_rule.specs.Told.{Mine, claimed, claimed_ex, first_found, third_found, third_found_ex, watched, watched_or_not}
use Rattle.version_rule.proofs.Started.{all-threads}
use Rattle.shared_memory.proofs.Sequences.{single-goes}
use Rattle.shared_memory.specs.inner.Targets.{IsPlace}
use Rattle.version_rule.specs.StartWords.{start_word}
use Rattle.version_memory.specs.Passes.{IsMade}
use Rattle.version_memory.specs.inner.Passes.{IsAwaiting, IsReady}
use Rattle.std.proofs.lemmas.Bool.{cases_eq}
use Rattle.atomic_table.specs.Table.{Step}
use Rattle.version_rule.specs.declared.hands.Doing.TheVariants.{Looking, Second}

pub cell_word-below : (plan : Plan) (table : TableId) (p : Place) → IsMade plan table → IsPlace plan p → cell_word plan.size (cell_of p) < table.words
cell_word-below plan table p made place =
    let whole = made.whole in
    let sized = made.sized in
    let below : cell_of p < plan.size.mem / 8 = cell_of-lt p (plan.size.mem / 8) (let inside = place.inside in omega arith) in
    omega arith

pub tag_word-below : (plan : Plan) (table : TableId) (p : Place) → IsMade plan table → tag_word (class_at plan.size p) < table.words
tag_word-below plan table p made =
    let sized = made.sized in
    let below = class_of-lt plan.size.classes (row_of plan.size.granule p) made.some_class in
    omega arith

pub first-below : (plan : Plan) (table : TableId) → IsMade plan table → 0 < table.words
first-below plan table made = let sized = made.sized in omega arith

-- and that of a thread that doesn't begin by itself
pub start_word-below : (plan : Plan) (table : TableId) (child : ℕ) → IsMade plan table → plan.first ≤ child → child < plan.size.threads → start_word plan child < table.words
start_word-below plan table child made from below = let sized = made.sized in omega arith

-- the number of a thread that one of the first starts is one of them
pub child-from : (plan : Plan) (thread started child : ℕ) → child ≡ child_of plan.first plan.spare thread started → plan.first ≤ child
child-from plan thread started child is = omega arith

pub child-known : (plan : Plan) (thread started child : ℕ) → plan.first * (1 + plan.spare) ≡ plan.size.threads → thread < plan.first → started < plan.spare
    → child ≡ child_of plan.first plan.spare thread started → child < plan.size.threads
child-known plan thread started child all first few is =
    let threads = all-threads plan.first plan.spare plan.size.threads all in
    let below = child-below plan.first plan.spare thread started first few in
    omega (arith, is, threads, below)

-- who might act may act
acts-goes : (first : ℕ) (origin : Origin) (old new : Mine) (es : List Entry) (h : Hand) → MayAct first old.0.lead old.0.seen → Goes origin old es h new
    → MayAct first new.0.lead new.0.seen
acts-goes first origin old new es h act goes =
    subst (λ (t : ℕ). MayAct first t new.0.seen) (sym goes.lead)
    (subst (MayAct first old.0.lead) (sym goes.sees.longer) (may-act-later first old.0.lead old.0.seen goes.sees.added act))

-- after a look it may look again
pub awaiting-goes : (plan : Plan) (table home home' : TableId) (origin : Origin) (old new : Mine) (es : List Entry) (h : Hand)
    → IsAwaiting plan table home old → home' ≡ home → Goes origin old es h new → IsAwaiting plan table home' new
awaiting-goes plan table home home' origin old new es h awaiting same goes = record {
  made = awaiting.made;
  home_is = same ∙ awaiting.home_is;
  single = single-goes origin old new es h awaiting.single goes;
  from = subst (λ (t : ℕ). plan.first ≤ t) (sym goes.lead) awaiting.from;
}

-- after a step it may make another
pub ready-goes : (plan : Plan) (table home home' : TableId) (origin : Origin) (old new : Mine) (es : List Entry) (h : Hand)
    → IsReady plan table home old → home' ≡ home → Goes origin old es h new → IsReady plan table home' new
ready-goes plan table home home' origin old new es h ready same goes = record {
  made = ready.made;
  home_is = same ∙ ready.home_is;
  single = single-goes origin old new es h ready.single goes;
  acts = acts-goes plan.first origin old new es h ready.acts goes;
}

-- after a claim
pub ready-claimed : (plan : Plan) (table home home' : TableId) (origin : Origin) (p : Place) (value n : ℕ) (st : Step (Unit {0})) (old new : Mine) → IsReady plan table home old → home' ≡ home
    → claimed (ask origin p value) st old n new → IsReady plan table home' new
ready-claimed plan table home home' origin p value n st old new ready same told = elim (cases_eq n st.first) [
  | inl hit ↦ ready-goes plan table home home' origin old new _ _ ready same (told.0 hit).goes
  | inr miss ↦ ready-goes plan table home home' origin old new _ _ ready same (told.1 miss).goes
]

pub ready-claimed_ex : (plan : Plan) (table home home' : TableId) (origin : Origin) (p : Place) (value n : ℕ) (st : Step (Unit {0})) (old new : Mine) → IsReady plan table home old → home' ≡ home
    → claimed_ex (ask origin p value) st old n new → IsReady plan table home' new
ready-claimed_ex plan table home home' origin p value n st old new ready same told = elim (cases_eq n st.first) [
  | inl hit ↦ ready-goes plan table home home' origin old new _ _ ready same (told.0 hit).goes
  | inr miss ↦ ready-goes plan table home home' origin old new _ _ ready same (told.1 miss).goes
]

-- after the first look of a stamped load
pub ready-first : (plan : Plan) (table home home' : TableId) (origin : Origin) (p : Place) (value n : ℕ) (st : Step (Unit {0})) (old new : Mine) → IsReady plan table home old → home' ≡ home
    → first_found (ask origin p value) st old n new → IsReady plan table home' new
ready-first plan table home home' origin p value n st old new ready same told = elim (cases_eq (n % 2) 0) [
  | inl even ↦ ready-goes plan table home home' origin old new _ _ ready same (told.0 even)
  | inr odd ↦ ready-goes plan table home home' origin old new _ _ ready same (told.1 odd)
]

-- after the last look of a stamped load the seat may make another step
pub ready-third : (plan : Plan) (table home home' : TableId) (origin : Origin) (p : Place) (value version cell n : ℕ) (st : Step (Unit {0})) (old new : Mine) → IsReady plan table home old → home' ≡ home
    → old.0.doing.doing ≡ Second p version cell → third_found (ask origin p value) st old n new → IsReady plan table home' new
ready-third plan table home home' origin p value version cell n st old new ready same second told =
    let both = told version cell second in
    elim (cases_eq n version) [
      | inl hit ↦ ready-goes plan table home home' origin old new _ _ ready same (both.0 hit).goes
      | inr miss ↦ ready-goes plan table home home' origin old new _ _ ready same (both.1 miss)
    ]

pub ready-third_ex : (plan : Plan) (table home home' : TableId) (origin : Origin) (p : Place) (value version cell n : ℕ) (st : Step (Unit {0})) (old new : Mine) → IsReady plan table home old → home' ≡ home
    → old.0.doing.doing ≡ Second p version cell → third_found_ex (ask origin p value) st old n new → IsReady plan table home' new
ready-third_ex plan table home home' origin p value version cell n st old new ready same second told =
    let both = told version cell second in
    elim (cases_eq n version) [
      | inl hit ↦ ready-goes plan table home home' origin old new _ _ ready same (both.0 hit).goes
      | inr miss ↦ ready-goes plan table home home' origin old new _ _ ready same (both.1 miss)
    ]

-- after a load-exclusive has begun its thread looks
pub looking-watched : (origin : Origin) (p : Place) (value n : ℕ) (st : Step (Unit {0})) (old new : Mine) → watched (ask origin p value) st old n new → new.0.doing.doing ≡ Looking p
looking-watched origin p value n st old new told = elim (cases_eq (n % 2) 0) [
  | inl even ↦ ap (λ (h : Hand). h.doing) (told.0 even).doing_is
  | inr odd ↦ ap (λ (h : Hand). h.doing) (told.1 odd).doing_is
]

pub ready-watched : (plan : Plan) (table home home' : TableId) (origin : Origin) (p : Place) (value n : ℕ) (st : Step (Unit {0})) (old new : Mine) → IsReady plan table home old → home' ≡ home
    → watched (ask origin p value) st old n new → IsReady plan table home' new
ready-watched plan table home home' origin p value n st old new ready same told = elim (cases_eq (n % 2) 0) [
  | inl even ↦ ready-goes plan table home home' origin old new _ _ ready same (told.0 even)
  | inr odd ↦ ready-goes plan table home home' origin old new _ _ ready same (told.1 odd)
]

pub ready-watched_or_not : (plan : Plan) (table home home' : TableId) (origin : Origin) (p : Place) (value n : ℕ) (st : Step (Unit {0})) (old new : Mine) → IsReady plan table home old → home' ≡ home
    → watched_or_not (ask origin p value) st old n new → IsReady plan table home' new
ready-watched_or_not plan table home home' origin p value n st old new ready same told = elim (cases_eq (n % 2) 0) [
  | inl even ↦ ready-goes plan table home home' origin old new _ _ ready same (told.0 even)
  | inr odd ↦ ready-goes plan table home home' origin old new _ _ ready same (told.1 odd)
]
