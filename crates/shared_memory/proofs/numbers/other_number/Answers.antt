use Rattle.std.proofs.Common.{◌≡◌, true, false, ap, sym, ◌∙◌, inl, inr, ⊎_elim, arith}
use Rattle.std.proofs.lemmas.Bool.{cases_lt}
use Rattle.shared_memory.specs.Passes.{marked}
use Rattle.shared_memory.proofs.Marks.{marked-below}
use Rattle.shared_memory.proofs.numbers.other_number.Goals as goal

pub unreachable-requires : goal.unreachable-requires
unreachable-requires c =
    let there = c.requires in
    let below = marked-below c.args.has.now there.0 there.2 in
    let long = c.told-has in
    there.1 (c.loop-u.invariant there.0 (omega arith) there.2)

pub loop-u-preserved : goal.loop-u-preserved
loop-u-preserved c k h has = elim (cases_lt k c.loop-u.u) [
  | inl below ↦ c.loop-u.invariant k below has
  | inr last ↦
      let is : k ≡ c.loop-u.u = omega arith in
      let here : marked c.args.has.now c.loop-u.u ≡ true = ap (marked c.args.has.now) (sym is) ∙ has in
      ⊎_elim (λ l. is ∙ l.1) (λ r. absurd (let f : true ≡ false = sym here ∙ r in let g : ⊥ = cc in g)) c.else-has-u.either
]
