use Rattle.std.proofs.Common.{rules, ◌≡◌, ◌<◌, Bool, true, false, Result, Ok, Err, arith, refl, sym, ◌∙◌}
use Rattle.a32_instr.specs.Table.{table, meaning}
use Rattle.a32_instr.specs.declared.instructions.Instr.{Instr}
use Rattle.llsc_base.specs.declared.decoding.DecodeFault.{DecodeFault}
use Rattle.a32_encode.proofs.Rows.{sum_is, sum_means}
use Rattle.a32_encode.proofs.Encodings.{means_encoding, no_word_encoding}
use Rattle.a32_encode.proofs.Same.{equal_is_same, same_is_equal}
use Rattle.a32_encode.proofs.encoder.encode.Goals as goal

-- no word is so large
pub returns-then-sum-gt4294967295-clause-none : goal.returns-then-sum-gt4294967295-clause-none
returns-then-sum-gt4294967295-clause-none c = λ fault other small means.
    let is : c.candidate-sum.result ≡ other = sum_is c.candidate-sum.result c.args.i.now other c.candidate-sum.ensures small means in
    let large : 4294967295 < c.candidate-sum.result = search rules in
    omega (arith, is, large, small)

-- the instruction that the decoder reads is the one that is encoded
pub returns-in-Ok-clause-word : goal.returns-in-Ok-clause-word
returns-in-Ok-clause-word c =
    let is : c.in-Ok.meant ≡ c.args.i.now = equal_is_same c.args.i.now c.in-Ok.meant (sym c.eq.ensures ∙ c.if-eq.true) in
    search rules

-- another word that means the instruction is its sum
pub returns-in-Ok-clause-only : goal.returns-in-Ok-clause-only
returns-in-Ok-clause-only c = λ other small means. sym (sum_is c.candidate-sum.result c.args.i.now other c.candidate-sum.ensures small means)

-- where the table means an instruction by the sum, the decoder reads that instruction
meant_other : (answer by_table : Result Instr DecodeFault) (meant i : Instr) (same : Bool)
    → answer ≡ by_table → answer ≡ Ok meant → by_table ≡ Ok i → (meant ≡ i → same ≡ true) → same ≡ false → ⊥
meant_other answer by_table meant i same decoded is means told differs =
    let equal : meant ≡ i = cc in
    let set : same ≡ true = told equal in
    cc

-- and no fault
meant_none : (answer by_table : Result Instr DecodeFault) (fault : DecodeFault) (i : Instr)
    → answer ≡ by_table → answer ≡ Err fault → by_table ≡ Ok i → ⊥
meant_none answer by_table fault i decoded is means = cc

pub returns-in_default-clause-none : goal.returns-in_default-clause-none
returns-in_default-clause-none c = λ fault other small means.
    meant_other c.decode.result (meaning table c.candidate-sum.result) c.in-Ok.meant c.args.i.now c.eq.result c.decode.ensures c.in-Ok.is
    (sum_means c.candidate-sum.result c.args.i.now other c.candidate-sum.ensures small means) (λ is. c.eq.ensures ∙ same_is_equal c.args.i.now c.in-Ok.meant is) c.if-eq.false

pub returns-in_default-2-clause-none : goal.returns-in_default-2-clause-none
returns-in_default-2-clause-none c = λ fault other small means.
    meant_none c.decode.result (meaning table c.candidate-sum.result) c.in_default.field-0 c.args.i.now c.decode.ensures c.in_default.is
    (sum_means c.candidate-sum.result c.args.i.now other c.candidate-sum.ensures small means)

-- what holds of every word holds of the encoding
pub returns-then-sum-gt4294967295-clause-no_encoding : goal.returns-then-sum-gt4294967295-clause-no_encoding
returns-then-sum-gt4294967295-clause-no_encoding c = λ fault. no_word_encoding c.args.i.now (returns-then-sum-gt4294967295-clause-none c refl)

pub returns-in-Ok-clause-encoding : goal.returns-in-Ok-clause-encoding
returns-in-Ok-clause-encoding c =
    let word = returns-in-Ok-clause-word c in
    means_encoding c.args.i.now c.candidate-sum.result word.0 word.1

pub returns-in_default-clause-no_encoding : goal.returns-in_default-clause-no_encoding
returns-in_default-clause-no_encoding c = λ fault. no_word_encoding c.args.i.now (returns-in_default-clause-none c refl)

pub returns-in_default-2-clause-no_encoding : goal.returns-in_default-2-clause-no_encoding
returns-in_default-2-clause-no_encoding c = λ fault. no_word_encoding c.args.i.now (returns-in_default-2-clause-none c refl)
