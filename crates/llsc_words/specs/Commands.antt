-- The commands of the program, as `clap` reads the words behind their names: which options and files each takes.
use Rattle.std.specs.Prelude.{true, Some, codes}
use Rattle.clap.specs.Words.{App, Rule, Text, new_app, new_rule, with_rule}
use Rattle.clap.specs.declared.builder.ArgAction.TheVariants.{SetTrue}
use Rattle.llsc_words.specs.declared.names.CommandName.{CommandName}
use Rattle.llsc_words.specs.declared.names.CommandName.TheVariants.{Solo, Run, Pool, Record, Asm, Dis, Trace, Check, Explain, Load}

-- `--NAME VALUE` or `--NAME=VALUE`, once at most
abbrev pub option_rule : Text → Rule
option_rule name = record (new_rule name) { long = Some name }

-- `--NAME`, once at most
abbrev pub flag_rule : Text → Rule
flag_rule name = record (new_rule name) { long = Some name; action = Some SetTrue }

-- a file or a number that stands by itself, and has to be there
abbrev pub positional_rule : Text → Rule
positional_rule name = record (new_rule name) { required = true }

-- a command with nothing behind it: not even a call for help is read
abbrev pub plain_app : Text → App
plain_app name = record (new_app name) { top = record (new_app name).top { no_binary_name = true; disable_help_flag = true } }

-- the program's file, and whether it is a flat image
abbrev pub file : Rule
file = positional_rule (codes "FILE")

abbrev pub flat : Rule
flat = flag_rule (codes "flat")

-- whether the program's instructions are those of RISC-V
abbrev pub rv : Rule
rv = flag_rule (codes "rv")

abbrev pub program_app : Text → App
program_app name = with_rule (with_rule (plain_app name) file) flat

-- besides, the machine that a program of several threads runs on
abbrev pub machine_app : Text → App
machine_app name =
    with_rule (with_rule (with_rule (program_app name) (option_rule (codes "threads"))) (option_rule (codes "mem"))) (option_rule (codes "granule"))

-- and how many classes its rows are dealt out to, how many writes each may have, and how many steps a thread has
abbrev pub beside_app : Text → App
beside_app name =
    with_rule (with_rule (with_rule (machine_app name) (option_rule (codes "classes"))) (option_rule (codes "limit"))) (option_rule (codes "budget"))

-- `solo` has FILE, `--flat`, `--mem` and `--budget`
unfoldable pub solo_app : App
solo_app = with_rule (with_rule (program_app (codes "solo")) (option_rule (codes "mem"))) (option_rule (codes "budget"))

-- `asm` has FILE and `--flat`
unfoldable pub asm_app : App
asm_app = program_app (codes "asm")

-- `dis` has FILE, `--flat` and `--mem`
unfoldable pub dis_app : App
dis_app = with_rule (program_app (codes "dis")) (option_rule (codes "mem"))

-- `run` has FILE, `--flat`, `--threads`, `--mem`, `--granule`, `--classes`, `--limit`, `--budget`, `--spare` and `--rv`
unfoldable pub run_app : App
run_app = with_rule (with_rule (beside_app (codes "run")) (option_rule (codes "spare"))) rv

-- `pool` has FILE, `--flat`, `--threads`, `--mem`, `--granule`, `--classes`, `--limit`, `--budget`, `--workers` and `--slice`
unfoldable pub pool_app : App
pool_app = with_rule (with_rule (beside_app (codes "pool")) (option_rule (codes "workers"))) (option_rule (codes "slice"))

-- `record` has FILE, `--flat`, `--threads`, `--mem`, `--granule`, `--classes`, `--limit` and `--budget`
unfoldable pub record_app : App
record_app = beside_app (codes "record")

-- `trace` has FILE, `--flat`, `--threads`, `--mem`, `--granule`, `--seed` and `--budget`
unfoldable pub trace_app : App
trace_app = with_rule (with_rule (machine_app (codes "trace")) (option_rule (codes "seed"))) (option_rule (codes "budget"))

-- a record of the program's run, and how much memory the program has
abbrev pub judging_app : Text → App
judging_app name =
    with_rule (with_rule (with_rule (with_rule (plain_app name) file) (positional_rule (codes "RECORD"))) flat) (option_rule (codes "mem"))

-- `check` has FILE, RECORD, `--flat` and `--mem`
unfoldable pub check_app : App
check_app = judging_app (codes "check")

-- `explain` has FILE, RECORD, `--flat` and `--mem`
unfoldable pub explain_app : App
explain_app = judging_app (codes "explain")

-- `load` has SEED, `--threads`, `--rounds` and `--budget`
unfoldable pub load_app : App
load_app =
    with_rule (with_rule (with_rule (with_rule (plain_app (codes "load")) (positional_rule (codes "SEED"))) (option_rule (codes "threads")))
    (option_rule (codes "rounds"))) (option_rule (codes "budget"))

-- each command
abbrev pub app_by : CommandName → App
app_by Solo = solo_app
app_by Run = run_app
app_by Pool = pool_app
app_by Record = record_app
app_by Asm = asm_app
app_by Dis = dis_app
app_by Trace = trace_app
app_by Check = check_app
app_by Explain = explain_app
app_by Load = load_app
