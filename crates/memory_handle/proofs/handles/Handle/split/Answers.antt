use Rattle.std.proofs.Common.{ap, ◌-◌, ◌∙◌, arith}
use Rattle.history.specs.Parts.{entries_of}
use Rattle.version_memory.specs.Memory.{pass_numbers}
use Rattle.memory_handle.proofs.Parted.{from-split, had-but}
use Rattle.memory_handle.proofs.handles.Handle.split.Goals as goal

pub invariant_of-self-clause-numbers : goal.invariant_of-self-clause-numbers
invariant_of-self-clause-numbers c =
    let self = c.args.self.now in
    from-split self.first self.upto (pass_numbers self.pass) (pass_numbers c.split-pass.new.pass) self.numbers self.some c.split-pass.ensures.rest

pub invariant_of-self-clause-unused : goal.invariant_of-self-clause-unused
invariant_of-self-clause-unused c low fresh u has =
    let self = c.args.self.now in
    ap (entries_of u) c.split-pass.ensures.seen.0 ∙ self.unused (omega (arith, low)) fresh u (had-but (self.upto - 1) u (pass_numbers self.pass) (pass_numbers c.split-pass.new.pass) c.split-pass.ensures.rest has)

pub split-pass-requires-clause-several : goal.split-pass-requires-clause-several
split-pass-requires-clause-several c =
    let self = c.args.self.now in
    (self.first, (λ same. absurd (omega (arith, same, c.if-self-eq1.false, self.some))), self.numbers.here self.first (omega arith) self.some)

pub split-pass-requires-clause-fresh : goal.split-pass-requires-clause-fresh
split-pass-requires-clause-fresh c = let self = c.args.self.now in self.unused (omega (arith, c.if-self-eq1.false, self.some)) c.if-not-self.false

pub returns-clause-unused : goal.returns-clause-unused
returns-clause-unused c =
    let self = c.args.self.now in
    let none = self.unused (omega (arith, c.if-self-eq1.false, self.some)) c.if-not-self.false in (
      (λ t low high. ap (entries_of t) c.split-pass.ensures.seen.1 ∙ none t (self.numbers.here t (omega (arith, low, self.some)) high)),
      (λ t low high. ap (entries_of t) c.split-pass.ensures.seen.0 ∙ none t (self.numbers.here t low (omega (arith, high)))),
    )
