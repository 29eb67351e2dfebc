-- The numbers of the registers so far.
use Rattle.std.proofs.Common.{◌≡◌, take}
use Rattle.a32_syntax.proofs.shown_numbers.Numbers.of_registers.Given as goal

abbrev pub invariant-loop-reg : goal.invariant-loop-reg
invariant-loop-reg l = l.all ≡ take l.reg-index l.registers
