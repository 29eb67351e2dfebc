-- Guest threads that may start others, with the threads that they may start, before their first access.
use Rattle.std.specs.Prelude.{◌≡◌, ℕ, ◌+◌, ◌*◌, ◌≤◌, Bool, List, [], ◌∷◌, map, vec_len, vec_capacity}
use Rattle.std.specs.List.{range_with_len}
use Rattle.atomic_table.specs.Seated.{TableId}
use Rattle.llsc_base.specs.Images.{Program}
use Rattle.history.specs.Parts.{entries_of}
use Rattle.history.specs.Started.{child_of}
use Rattle.history.specs.declared.entry.Entry.{Entry}
use Rattle.shared_memory.specs.Origin.{Origin}
use Rattle.shared_memory.specs.Seen.{IsSingle}
use Rattle.a32_step.specs.Machine.{a32}
use Rattle.guest_thread.specs.Crews.{IsFresh}
use Rattle.guest_family.specs.declared.kin.Kin.{Kin}
use Rattle.guest_family.specs.declared.kin.Spare.{Spare}
use Rattle.guest_family.specs.declared.kin.Starter.{Starter}

-- whose they are
abbrev pub spares_of : {P : Type 0} → List (Spare P) → List ℕ
spares_of spares = map (λ spare. spare.thread) spares

abbrev pub heads_of : {P : Type 0} → List (Starter P) → List ℕ
heads_of starters = map (λ starter. starter.job.thread) starters

-- the numbers of the threads that a thread may start, in order
abbrev pub own_numbers : (first spare thread : ℕ) → List ℕ
own_numbers first spare thread = range_with_len (child_of first spare thread 0) spare

module _ {P : Type 0} (home : P → TableId) (numbers : P → ℕ → Bool) (seen : P → List Entry) where
  -- what a thread is to run with that may be started: a pass of the memory that holds its number alone, with no access of it
  pub record IsSpare (mem : TableId) (program : Program) (spare : Spare P) : Type 0 where
    pub memory : home spare.pass ≡ mem
    pub single : IsSingle spare.thread (numbers spare.pass)
    pub none : entries_of spare.thread (seen spare.pass) ≡ []
    pub code : spare.code.program ≡ program
    pub empty : spare.out ≡ []

  -- each of them is
  abbrev pub AreSpares : TableId → Program → List (Spare P) → Type 0
  AreSpares mem program [] = Unit {0}
  AreSpares mem program (spare ∷ spares) = IsSpare mem program spare × AreSpares mem program spares

  -- a thread that begins by itself is at its start, with all threads that it may start, in order of number, and with room for the
  -- ends of all of them
  pub record IsStarter (mem : TableId) (origin : Origin) (program : Program) (starter : Starter P) : Type 0 where
    pub job : IsFresh a32 (λ m. m) home numbers seen mem origin program starter.job
    pub spares : AreSpares mem program starter.spares.items
    pub threads : spares_of starter.spares.items ≡ own_numbers origin.first origin.spare starter.job.thread
    pub empty : (starter.ends.items ≡ []) × (vec_len starter.ends ≡ 0)
    pub room : vec_len starter.spares ≤ vec_capacity starter.ends
    pub many : vec_len starter.spares ≡ origin.spare
    pub all : origin.first * (1 + origin.spare) ≡ origin.size.threads

  -- each of them is
  abbrev pub AreStarters : TableId → Origin → Program → List (Starter P) → Type 0
  AreStarters mem origin program [] = Unit {0}
  AreStarters mem origin program (starter ∷ starters) = IsStarter mem origin program starter × AreStarters mem origin program starters

  -- those of all first threads of the memory, in order of number, with room for all ends
  pub record AreReadyKin (mem : TableId) (origin : Origin) (program : Program) (kin : Kin P) : Type 0 where
    pub first : IsStarter mem origin program kin.first
    pub others : AreStarters mem origin program kin.others.items
    pub threads : heads_of (kin.first ∷ kin.others.items) ≡ range_with_len 0 origin.first
    pub ends_empty : (kin.ends.items ≡ []) × (vec_len kin.ends ≡ 0)
    pub children_empty : (kin.children.items ≡ []) × (vec_len kin.children ≡ 0)
    pub ends_room : origin.size.threads ≤ vec_capacity kin.ends
    pub children_room : origin.size.threads ≤ vec_capacity kin.children
    pub many : vec_len kin.others + 1 ≡ origin.first
