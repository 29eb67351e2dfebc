-- One more mark is passed.
use Rattle.std.proofs.Common.{◌≡◌, ◌<◌, ℕ, List, ◌++◌, ◌∷◌, [], ◌+◌, None, Option, arith, drop, get_or, length, length-take-le, map, set, sym, take, ◌∙◌, append_assoc}
use Rattle.std.proofs.lemmas.List.{length-map, drop_more, map_more, set_at, get_or_at}
use Rattle.history.specs.Monitor.{unless_on}
use Rattle.history.proofs.plain.unmark.Goals as goal

-- a list of which the first elements are mapped, with one more
mapped_more : (f : Option ℕ → Option ℕ) (xs : List (Option ℕ)) (i : ℕ) → i < length xs
    → set (map f (take i xs) ++ drop i xs) i (f (get_or (map f (take i xs) ++ drop i xs) i None)) ≡ map f (take (i + 1) xs) ++ drop (i + 1) xs
mapped_more f xs i h =
    let long : length (map f (take i xs)) ≡ i = length-map (take i xs) f ∙ length-take-le i xs (omega arith) in
    rw (
      drop_more xs i None h,
      map_more f xs i None h,
      get_or_at (map f (take i xs)) (get_or xs i None) (drop (i + 1) xs) None i long,
      set_at (map f (take i xs)) (get_or xs i None) (drop (i + 1) xs) (f (get_or xs i None)) i long,
    )
    (sym (append_assoc (map f (take i xs)) (f (get_or xs i None) ∷ []) (drop (i + 1) xs)))

pub loop-mark-preserved : goal.loop-mark-preserved
loop-mark-preserved c =
    let before : c.loop-mark.marks ≡ map (unless_on c.args.row) (take c.loop-mark.mark-index c.args.marks.now) ++ drop c.loop-mark.mark-index c.args.marks.now = c.loop-mark.invariant in
    rw (c.unless_on.ensures, before) (mapped_more (unless_on c.args.row) c.args.marks.now c.loop-mark.mark-index c.loop-mark-test.true)
