-- Words written as one text, what they ask for, and which options commands take.
use Rattle.std.specs.Prelude.{ℕ, ◌-◌, ◌==◌, List, [], ◌∷◌, ◌++◌, length, map, take, Option, Some, None, is_some, if◌then◌else◌, codes}
use Rattle.std.specs.List.{flat_map}
use Rattle.clap.specs.Words.{App, Text}
use Rattle.llsc_base.specs.Sizes.{size_fault}
use Rattle.llsc_base.specs.declared.sizes.SizeFault.{SizeFault}
use Rattle.llsc_words.specs.declared.names.CommandName.{CommandName}
use Rattle.llsc_words.specs.declared.names.CommandName.TheVariants as name
use Rattle.llsc_words.specs.Request.{Request, request_of}
use Rattle.llsc_words.specs.Request.Request.{Run}

-- a letter in front of the first word
abbrev pub begin_with : ℕ → List (List ℕ) → List (List ℕ)
begin_with letter [] = (letter ∷ []) ∷ []
begin_with letter (word ∷ words) = (letter ∷ word) ∷ words

-- the words of a text: a blank parts two of them
abbrev pub words_in : List ℕ → List (List ℕ)
words_in [] = [] ∷ []
words_in (letter ∷ text) = if letter == 32 then [] ∷ words_in text else begin_with letter (words_in text)

-- what the words of a text ask for
abbrev pub asked_in : List ℕ → Option Request
asked_in text = request_of (words_in text)

-- what is out of range of the machine of a run that words ask for, None where they ask for no run
abbrev pub fault_of_run : Option Request → Option (Option SizeFault)
fault_of_run (Some (Run file format set first spare size budget)) = Some (size_fault size)
fault_of_run _ = None

abbrev pub fault_in : List ℕ → Option (Option SizeFault)
fault_in text = fault_of_run (asked_in text)

-- each command, with all that has to be there
abbrev pub commands : List (List ℕ)
commands =
    codes "solo p" ∷ codes "run p" ∷ codes "pool p" ∷ codes "record p" ∷ codes "asm p" ∷ codes "dis p" ∷ codes "trace p" ∷ codes "check p r" ∷ codes "explain p r" ∷ codes "load 7" ∷ []

-- the one name of a command
abbrev pub name_of : CommandName → List ℕ
name_of name.Solo = codes "solo"
name_of name.Run = codes "run"
name_of name.Pool = codes "pool"
name_of name.Record = codes "record"
name_of name.Asm = codes "asm"
name_of name.Dis = codes "dis"
name_of name.Trace = codes "trace"
name_of name.Check = codes "check"
name_of name.Explain = codes "explain"
name_of name.Load = codes "load"

-- all that a command takes, by name: what stands by itself, flags and options
abbrev pub names_in : App → List Text
names_in app = map (λ rule. rule.id) app.top.rules

-- the names of all options
abbrev pub option_names : List (List ℕ)
option_names =
    codes "flat" ∷ codes "rv" ∷ codes "threads" ∷ codes "spare" ∷ codes "mem" ∷ codes "granule" ∷ codes "classes" ∷ codes "limit"
    ∷ codes "workers" ∷ codes "slice" ∷ codes "seed" ∷ codes "rounds" ∷ codes "budget" ∷ []

-- an option by itself, and with a value behind it or joined to it
abbrev pub bare : List ℕ → List ℕ
bare name = codes " --" ++ name

abbrev pub with_value : List ℕ → List ℕ → List ℕ
with_value value name = bare name ++ codes " " ++ value

abbrev pub joined_to : List ℕ → List ℕ → List ℕ
joined_to value name = bare name ++ codes "=" ++ value

-- a name without its last letter
abbrev pub shortened : List ℕ → List ℕ
shortened name = take (length name - 1) name

-- the options with which a command asks for something where they stand behind it in that form
abbrev pub taken : (List ℕ → List ℕ) → List ℕ → List (List ℕ)
taken form command = flat_map (λ name. if is_some (asked_in (command ++ form name)) then name ∷ [] else []) option_names

-- those of all commands
abbrev pub taken_by_any : (List ℕ → List ℕ) → List (List ℕ)
taken_by_any form = flat_map (taken form) commands
