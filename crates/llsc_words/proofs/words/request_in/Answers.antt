-- `clap` states which words the command takes.
use Rattle.clap.specs.Words.{app_of}
use Rattle.llsc_words.proofs.Stated.{commands_are_stated}
use Rattle.llsc_words.proofs.words.request_in.Goals as goal

pub given_in-requires : goal.given_in-requires
given_in-requires c = record { stated = commands_are_stated (app_of c.in_ok-command.command) c.args.name c.in_ok-command.ensures }
