-- The names of the reasons for which a word is no instruction.
use Rattle.std.specs.Prelude.{ℕ, List, codes}
use Rattle.llsc_base.specs.declared.decoding.DecodeFault.{DecodeFault}
use Rattle.llsc_base.specs.declared.decoding.DecodeFault.TheVariants as fault

-- the name of a reason
abbrev pub decode_fault_name : DecodeFault → List ℕ
decode_fault_name fault.Undefined = codes "Undefined"
decode_fault_name fault.Unpredictable = codes "Unpredictable"
