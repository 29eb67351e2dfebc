-- Only proofs and inner contracts need these words.
-- Threads that may start others, at any point of their runs, and how they and those that they started ended.
use Rattle.std.specs.Prelude.{◌≡◌, ℕ, ◌+◌, ◌*◌, ◌<◌, ◌≤◌, Bool, List, [], ◌∷◌, ◌++◌, map, reverse, vec_len, vec_capacity}
use Rattle.std.specs.List.{flat_map, range_with_len}
use Rattle.atomic_table.specs.Seated.{TableId}
use Rattle.llsc_base.specs.Images.{Program}
use Rattle.history.specs.Started.{child_of, starts_of}
use Rattle.history.specs.Starts.{Started, made_by, starts_in}
use Rattle.history.specs.declared.entry.Entry.{Entry}
use Rattle.shared_memory.specs.Origin.{Origin}
use Rattle.shared_memory.specs.Seen.{IsFront, IsOneOf, SaysAllOf}
use Rattle.guest_thread.specs.Begun.{child_start}
use Rattle.guest_thread.specs.inner.Crews.{AreTaken}
use Rattle.guest_thread.specs.Start.{thread_start}
use Rattle.guest_thread.specs.declared.ends.GuestEnd.{GuestEnd}
use Rattle.guest_family.specs.Kin.{AreSpares, own_numbers, spares_of}
use Rattle.guest_family.specs.inner.UnderWay.{IsEndFrom, IsPartUnderWay}
use Rattle.guest_family.specs.declared.families.Gathered.{Gathered}
use Rattle.guest_family.specs.declared.kin.Spare.{Spare}
use Rattle.guest_family.specs.declared.starters.Branch.{Branch}
use Rattle.guest_family.specs.declared.starters.Branch.TheVariants.{Ended, Starts}
use Rattle.guest_family.specs.declared.starters.StarterEnd.{StarterEnd}
use Rattle.guest_family.specs.declared.starters.StarterPart.{StarterPart}
use Rattle.a32_step.specs.Machine.{a32}

-- the ends of the threads that were started so, one of each, in this order
abbrev pub AreChildren : Program → Origin → (budget : ℕ) → List Entry → List Started → List GuestEnd → Type 0
AreChildren program origin budget history [] [] = Unit {0}
AreChildren program origin budget history [] (end ∷ ends) = ⊥
AreChildren program origin budget history (started ∷ all) [] = ⊥
AreChildren program origin budget history (started ∷ all) (end ∷ ends) =
    IsEndFrom program origin budget started.child (child_start a32 origin.size started.child started.entry started.arg) history end
    × AreChildren program origin budget history all ends

-- the ends of these first threads, one of each, in this order
abbrev pub AreHeads : Program → Origin → (budget : ℕ) → List Entry → List ℕ → List GuestEnd → Type 0
AreHeads program origin budget history [] [] = Unit {0}
AreHeads program origin budget history [] (end ∷ ends) = ⊥
AreHeads program origin budget history (t ∷ ts) [] = ⊥
AreHeads program origin budget history (t ∷ ts) (end ∷ ends) =
    IsEndFrom program origin budget t (thread_start a32 program origin.size origin.first t) history end × AreHeads program origin budget history ts ends

-- the numbers of those that were started so
abbrev pub numbers_of : List Started → List ℕ
numbers_of all = map (λ started. started.child) all

-- what a thread starts next, by what was seen
abbrev pub next_start : Origin → (t : ℕ) → List Entry → (entry arg : ℕ) → Started
next_start origin t history entry arg =
    record { child = child_of origin.first origin.spare t (starts_of t history); entry = entry; arg = arg; place = made_by t history }

-- what these threads have started, one after another
abbrev pub started_by_all : List ℕ → List Entry → List Started
started_by_all ts history = flat_map (λ t. starts_in t history) ts

-- where it has started another
abbrev pub IfStarts : {P : Type 0} → Branch P → (StarterPart P → Spare P → (entry arg : ℕ) → Type 0) → Type 0
IfStarts (Ended ended) holds = Unit {0}
IfStarts (Starts rest spare entry arg) holds = holds rest spare entry arg

-- where it has ended
abbrev pub IfEnded : {P : Type 0} → Branch P → (StarterEnd P → Type 0) → Type 0
IfEnded (Ended ended) holds = holds ended
IfEnded (Starts rest spare entry arg) holds = Unit {0}

-- there is room for the ends of all that it may still start
abbrev pub LeavesRoom : {P : Type 0} → StarterPart P → Branch P → Type 0
LeavesRoom old (Ended ended) = (vec_len ended.ran.ends ≤ vec_len old.spares) × (vec_capacity old.ends ≤ vec_capacity ended.ran.ends)
LeavesRoom old (Starts rest spare entry arg) =
    (vec_len old.spares ≡ vec_len rest.spares + 1) × (vec_len old.spares ≤ vec_capacity old.ends) × (vec_capacity rest.ends ≡ vec_capacity old.ends)

module _ {P : Type 0} (home : P → TableId) (numbers : P → ℕ → Bool) (seen : P → List Entry) where
  -- a pass has gone on: it is the same memory's, it holds the numbers that it held, and it has seen more, but no more of their threads
  pub record IsLater (old new : P) : Type 0 where
    pub memory : home new ≡ home old
    pub holds : (u : ℕ) → IsOneOf u (numbers old) → IsOneOf u (numbers new)
    pub front : IsFront (seen old) (seen new)
    pub says : SaysAllOf (numbers old) (seen old) (seen new)

  -- one of the first threads under way, with those that it may still start, in order of number, and with room for all ends
  pub record IsStarterPart (mem : TableId) (origin : Origin) (program : Program) (budget t : ℕ) (starter : StarterPart P) : Type 0 where
    pub first : t < origin.first
    pub goes : IsPartUnderWay home numbers seen mem origin program budget t (thread_start a32 program origin.size origin.first t) starter.part
    pub code : starter.code.program ≡ program
    pub spares : AreSpares home numbers seen mem program starter.spares.items
    pub threads : spares_of starter.spares.items ≡ range_with_len (child_of origin.first origin.spare t (starts_of t (seen starter.part.pass))) (vec_len starter.spares)
    pub many : vec_len starter.spares + starts_of t (seen starter.part.pass) ≡ origin.spare
    pub all : origin.first * (1 + origin.spare) ≡ origin.size.threads
    pub empty : (starter.ends.items ≡ []) × (vec_len starter.ends ≡ 0)
    pub room : vec_len starter.spares ≤ vec_capacity starter.ends

  -- It has ended, and so have those that it has started since: what it had started before, and these, are what it has started. Their
  -- ends stand from the last one back. The pass holds its number and those of all that it could start.
  pub record HasEndedWithAll (mem : TableId) (origin : Origin) (program : Program) (budget t : ℕ) (before : List Started) (spares : List ℕ) (ended : StarterEnd P) : Type 0 where
    pub memory : home ended.ran.pass ≡ mem
    pub own : IsOneOf t (numbers ended.ran.pass)
    pub taken : AreTaken (numbers ended.ran.pass) spares
    pub more : List Started
    pub starts : starts_in t (seen ended.ran.pass) ≡ before ++ more
    pub head : IsEndFrom program origin budget t (thread_start a32 program origin.size origin.first t) (seen ended.ran.pass) ended.end
    pub children : AreChildren program origin budget (seen ended.ran.pass) more (reverse ended.ran.ends.items)
    pub among : AreTaken (numbers ended.ran.pass) (numbers_of more)

  -- It has started another, with that number, and goes on: what is left of it may start those that are left.
  pub record HasBranched (mem : TableId) (origin : Origin) (program : Program) (budget t : ℕ) (old rest : StarterPart P) (spare : Spare P) (entry arg : ℕ) : Type 0 where
    pub goes : IsStarterPart mem origin program budget t rest
    pub place : ℕ
    pub starts : starts_in t (seen rest.part.pass)
        ≡ starts_in t (seen old.part.pass) ++ record { child = spare.thread; entry = entry; arg = arg; place = place } ∷ []
    pub spares : spares_of old.spares.items ≡ spare.thread ∷ spares_of rest.spares.items
    pub front : IsFront (seen old.part.pass) (seen rest.part.pass)

  abbrev pub Branches : TableId → Origin → Program → (budget t : ℕ) → StarterPart P → Branch P → Type 0
  Branches mem origin program budget t old (Ended ended) =
      HasEndedWithAll mem origin program budget t (starts_in t (seen old.part.pass)) (spares_of old.spares.items) ended
      × IsFront (seen old.part.pass) (seen ended.ran.pass)
  Branches mem origin program budget t old (Starts rest spare entry arg) = HasBranched mem origin program budget t old rest spare entry arg

  -- to that it has come, whichever of the first threads it is
  abbrev pub ComesToBranch : TableId → Origin → Program → (budget : ℕ) → StarterPart P → Branch P → Type 0
  ComesToBranch mem origin program budget old branch =
      (t : ℕ) → IsStarterPart mem origin program budget t old → Branches mem origin program budget t old branch

  -- and to its end
  abbrev pub RunsTo : TableId → Origin → Program → (budget : ℕ) → StarterPart P → StarterEnd P → Type 0
  RunsTo mem origin program budget old ended =
      (t : ℕ) → IsStarterPart mem origin program budget t old
      → HasEndedWithAll mem origin program budget t (starts_in t (seen old.part.pass)) (spares_of old.spares.items) ended
      × IsFront (seen old.part.pass) (seen ended.ran.pass)

  -- these first threads have ended, and so have all that they have started: the pass holds their numbers and those of all that they
  -- could start
  pub record HaveEndedWithAll (mem : TableId) (origin : Origin) (program : Program) (budget : ℕ) (ts : List ℕ) (gathered : Gathered P) : Type 0 where
    pub memory : home gathered.pass ≡ mem
    pub own : AreTaken (numbers gathered.pass) ts
    pub taken : AreTaken (numbers gathered.pass) (flat_map (own_numbers origin.first origin.spare) ts)
    pub heads : AreHeads program origin budget (seen gathered.pass) ts gathered.ends.items
    pub children : AreChildren program origin budget (seen gathered.pass) (started_by_all ts (seen gathered.pass)) gathered.children.items
    pub among : AreTaken (numbers gathered.pass) (numbers_of (started_by_all ts (seen gathered.pass)))
