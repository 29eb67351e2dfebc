-- Only proofs and inner contracts need these words.
-- An A32 machine whose instruction is carried on over a port.
use Rattle.std.specs.Prelude.{ℕ, Option, List}
use Rattle.llsc_base.specs.Images.{Program}
use Rattle.llsc_base.specs.declared.outside.Ask.{Ask}
use Rattle.guest_core.specs.declared.phases.Passage.{Passage}
use Rattle.guest_core.specs.Passages.{ComesOf, EndsAtOf, IsCarriedOnOf}
use Rattle.a32_step.specs.Machine.{Machine, a32}

abbrev pub Comes : Program → Machine → List (Ask × ℕ) → Machine → Type 0
Comes = ComesOf a32

abbrev pub EndsAt : Program → Machine → Passage → Machine → Type 0
EndsAt = EndsAtOf a32

abbrev pub IsCarriedOn : {P : Type 0} → (P → Ask → Option ℕ → P → Type 0) → Program → Machine → P → Passage → Machine → P → Type 0
IsCarriedOn = IsCarriedOnOf a32
