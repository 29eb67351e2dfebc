use Rattle.std.proofs.Common.{◌≡◌, ℕ, [], arith, refl, sym, subst}
use Rattle.a32_syntax.specs.Mnemonics.{condition_name}
use Rattle.a32_syntax.proofs.writing.condition_name.Goals as goal

-- the last number is that of always
pub returns-in_default-clause-name : goal.returns-in_default-clause-name
returns-in_default-clause-name c =
    let last : c.args.cond ≡ 14 = omega arith in
    subst (λ (cond : ℕ). [] ≡ condition_name cond) (sym last) refl
