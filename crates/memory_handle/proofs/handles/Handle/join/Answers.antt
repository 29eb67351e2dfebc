use Rattle.std.proofs.Common.{◌≡◌, ℕ, sym, subst}
use Rattle.version_memory.specs.Memory.{pass_numbers}
use Rattle.memory_handle.specs.Numbers.{AreFrom}
use Rattle.memory_handle.proofs.Parted.{from-join}
use Rattle.memory_handle.proofs.handles.Handle.join.Goals as goal

pub invariant_of-self-clause-numbers : goal.invariant_of-self-clause-numbers
invariant_of-self-clause-numbers c =
    let self = c.args.self.now in
    let other = c.args.other in
    let mid : other.first ≡ self.upto = sym c.requires.next in
    from-join self.first other.first other.upto (pass_numbers self.pass) (pass_numbers other.pass) (pass_numbers c.join.new.pass)
    (subst (λ (n : ℕ). AreFrom self.first n (pass_numbers self.pass)) (sym mid) self.numbers) other.numbers (rw mid self.some) other.some c.join.ensures.numbers
