-- Only proofs and inner contracts need these words.
-- A word that was met, with its instruction.
use Rattle.std.specs.Prelude.{ℕ}
use Rattle.a32_step.specs.declared.lowered.Lowered.{Lowered}

pub record Met : Type 0 where
  pub word : ℕ
  pub lowered : Lowered
