-- The names of the kinds of fault.
use Rattle.std.specs.Prelude.{ℕ, List, codes}
use Rattle.a32_syntax.specs.declared.kinds.AsmKind.{AsmKind}
use Rattle.a32_syntax.specs.declared.kinds.AsmKind.TheVariants as kind

-- the name of a kind of fault
abbrev pub kind_name : AsmKind → List ℕ
kind_name kind.Syntax = codes "Syntax"
kind_name kind.Mnemonic = codes "Mnemonic"
kind_name kind.Operand = codes "Operand"
kind_name kind.Label = codes "Label"
kind_name kind.Repeated = codes "Repeated"
kind_name kind.Range = codes "Range"
kind_name kind.TooLong = codes "TooLong"
kind_name kind.Memory = codes "Memory"
