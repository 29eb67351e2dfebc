-- Only proofs and inner contracts need these words beside those of `specs/Commands`.
use Rattle.std.specs.Prelude.{◌≡◌, true, List, [], ◌∷◌}
use Rattle.clap.specs.Words.{App, Rule, is_simple_and_free, with_rule}
use Rattle.llsc_words.specs.Commands.{flag_rule, option_rule, plain_app, positional_rule}
use Rattle.llsc_words.specs.declared.commands.Layout.{Layout}
use Rattle.llsc_words.specs.declared.commands.Part.{Part}
use Rattle.llsc_words.specs.declared.commands.Part.TheVariants.{Word, Flag, Value}

-- `clap` states to the letter which words such a command takes, and what it finds in them
unfoldable pub IsStated : App → Type 0
IsStated app = is_simple_and_free app ≡ true

-- a part of a command, as `clap` reads it
abbrev pub part_rule : Part → Rule
part_rule (Word name) = positional_rule name.now
part_rule (Flag name) = flag_rule name.now
part_rule (Value name) = option_rule name.now

-- a command with these parts more
abbrev pub with_parts : App → List Part → App
with_parts app [] = app
with_parts app (part ∷ parts) = with_parts (with_rule app (part_rule part)) parts

-- a command as it is laid out
abbrev pub app_laid : Layout → App
app_laid layout = with_parts (plain_app layout.name.now) layout.parts.now
