-- The items that are left give, with the registers so far, what all of them give.
use Rattle.std.proofs.Common.{◌≡◌, ◌≤◌, ◌<◌, ◌^◌, ◌+◌, length}
use Rattle.std.specs.List.{slice_split}
use Rattle.std.specs.Option.{option_map}
use Rattle.a32_forms.specs.Text.{parts}
use Rattle.a32_forms.specs.Registers.{is_mark, mask_from, registers_in}
use Rattle.a32_forms.proofs.registers.registers_in.Given as goal

abbrev pub invariant-loop-item : goal.invariant-loop-item
invariant-loop-item l =
    (option_map (λ others. l.list + others) (mask_from l.lowest (slice_split (is_mark 44) (parts l.rest))) ≡ registers_in (parts l.text))
    × (l.list < 2 ^ l.lowest)
    × (l.lowest ≤ 16)

abbrev pub decreases-loop-item : goal.decreases-loop-item
decreases-loop-item l = length l.rest
