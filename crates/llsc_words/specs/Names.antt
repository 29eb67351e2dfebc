-- The commands of the program by their names.
use Rattle.std.specs.Prelude.{ℕ, List, Option, Some, None, if◌then◌else◌, codes}
use Rattle.std.specs.Str.{bytes_eq}
use Rattle.llsc_words.specs.declared.names.CommandName.{CommandName}
use Rattle.llsc_words.specs.declared.names.CommandName.TheVariants.{Solo, Run, Pool, Record, Asm, Dis, Trace, Check, Explain, Load}

-- the command of that name
abbrev pub command_named : List ℕ → Option CommandName
command_named word =
    if bytes_eq word (codes "solo") then Some Solo else
    if bytes_eq word (codes "run") then Some Run else
    if bytes_eq word (codes "pool") then Some Pool else
    if bytes_eq word (codes "record") then Some Record else
    if bytes_eq word (codes "asm") then Some Asm else
    if bytes_eq word (codes "dis") then Some Dis else
    if bytes_eq word (codes "trace") then Some Trace else
    if bytes_eq word (codes "check") then Some Check else
    if bytes_eq word (codes "explain") then Some Explain else
    if bytes_eq word (codes "load") then Some Load else
    None
