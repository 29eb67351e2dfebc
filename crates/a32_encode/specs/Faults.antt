-- The name of the reason for which an instruction has no word.
use Rattle.std.specs.Prelude.{ℕ, List, codes}
use Rattle.a32_encode.specs.declared.encoder.EncodeFault.{EncodeFault}
use Rattle.a32_encode.specs.declared.encoder.EncodeFault.TheVariants as fault

-- the name of the reason
abbrev pub encode_fault_name : EncodeFault → List ℕ
encode_fault_name fault.NoEncoding = codes "NoEncoding"
