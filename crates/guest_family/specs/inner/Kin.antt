-- Only proofs and inner contracts need these words beside those of `specs/Kin`.
use Rattle.std.specs.Prelude.{◌≡◌, ℕ, ◌+◌, ◌*◌, ◌<◌, ◌≤◌, Bool, List, [], vec_len, vec_capacity}
use Rattle.atomic_table.specs.Seated.{TableId}
use Rattle.llsc_base.specs.Images.{Program}
use Rattle.history.specs.declared.entry.Entry.{Entry}
use Rattle.shared_memory.specs.Origin.{Origin}
use Rattle.guest_family.specs.declared.kin.Kin.{Kin}
use Rattle.guest_family.specs.Kin.{IsStarter, AreStarters}

module _ {P : Type 0} (home : P → TableId) (numbers : P → ℕ → Bool) (seen : P → List Entry) where
  -- some of the first threads, with room for their ends and for those of all that they may start
  pub record MayRun (mem : TableId) (origin : Origin) (program : Program) (kin : Kin P) : Type 0 where
    pub first : IsStarter home numbers seen mem origin program kin.first
    pub others : AreStarters home numbers seen mem origin program kin.others.items
    pub ends_empty : (kin.ends.items ≡ []) × (vec_len kin.ends ≡ 0)
    pub children_empty : (kin.children.items ≡ []) × (vec_len kin.children ≡ 0)
    pub ends_room : vec_len kin.others < vec_capacity kin.ends
    pub children_room : (vec_len kin.others + 1) * origin.spare ≤ vec_capacity kin.children
