use Rattle.std.proofs.Common.{ℕ, zero, suc, List, [], ◌∷◌, ◌++◌, replicate, refl, arith}
use Rattle.llsc_base.specs.inner.Words.{AreWords}
use Rattle.llsc_base.proofs.Words.{words_none, words_more}
use Rattle.rv32_guest.proofs.registers.Registers.start.Goals as goal

zeros : (count : ℕ) (xs : List ℕ) → AreWords xs → AreWords (replicate count 0 ++ xs)
zeros zero xs words = words
zeros (suc count) xs words = words_more 0 (replicate count 0 ++ xs) (omega arith) (zeros count xs words)

-- every register but three is 0
pub invariant_of-result : goal.invariant_of-result
invariant_of-result c =
    let last : List ℕ = replicate 20 0 ++ [] in
    let upper : List ℕ = replicate 7 0 ++ c.args.x10 ∷ c.args.x11 ∷ last in
    let last_words : AreWords last = zeros 20 [] words_none in
    let args_words : AreWords (c.args.x10 ∷ c.args.x11 ∷ last) =
    words_more c.args.x10 (c.args.x11 ∷ last) c.ranges.x10.fits (words_more c.args.x11 last c.ranges.x11.fits last_words) in
    let upper_words : AreWords upper = zeros 7 (c.args.x10 ∷ c.args.x11 ∷ last) args_words in
    (c.requires, zeros 2 (c.args.x2 ∷ upper) (words_more c.args.x2 upper c.ranges.x2.fits upper_words), refl)
