-- The numbers of the guests that wait in the queue.
use Rattle.std.specs.Prelude.{ℕ, List, [], ◌∷◌}
use Rattle.slice_pool.specs.declared.queue.Waiting.{Waiting}

-- the numbers of guests, that of the last first, and others behind them
abbrev pub last_first : {P : Type 0} → List (Waiting P) → List ℕ → List ℕ
last_first [] others = others
last_first (x ∷ xs) others = last_first xs (x.thread ∷ others)
