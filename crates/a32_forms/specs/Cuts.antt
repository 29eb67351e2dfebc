-- Texts that are cut at a byte.
use Rattle.std.specs.Prelude.{ℕ, ◌==◌, if◌then◌else◌, List, [], ◌∷◌}

-- a text before the first of a byte, and from it on
unfoldable pub before_code : ℕ → List ℕ → List ℕ
before_code code [] = []
before_code code (first ∷ text) = if first == code then [] else first ∷ before_code code text

unfoldable pub from_code : ℕ → List ℕ → List ℕ
from_code code [] = []
from_code code (first ∷ text) = if first == code then first ∷ text else from_code code text
