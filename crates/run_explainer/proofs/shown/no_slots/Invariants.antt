use Rattle.std.proofs.Common.{◌≡◌, ◌-◌, ◌≤◌, All, length}
use Rattle.run_explainer.specs.Text.{shown_at}
use Rattle.run_explainer.proofs.shown.no_slots.Given as goal

-- the texts so far
abbrev pub invariant-loop-slots : goal.invariant-loop-slots
invariant-loop-slots l = record {
  few : length l.slots.items ≤ 64;
  texts : All (λ slot. slot.text ≡ shown_at l.image slot.addr) l.slots.items;
}

abbrev pub decreases-loop-slots : goal.decreases-loop-slots
decreases-loop-slots l = 64 - length l.slots.items
