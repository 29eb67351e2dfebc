-- Only proofs and inner contracts need these words beside those of `specs/Registers`.
use Rattle.std.specs.Prelude.{ℕ, Bool, true, false, List, [], codes}

-- what stands in front of a register that is shown: nothing at the first
abbrev pub separator : Bool → List ℕ
separator true = []
separator false = codes ", "
