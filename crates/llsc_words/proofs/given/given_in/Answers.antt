use Rattle.std.proofs.Common.{map, string_bytes, ◌≡◌, true, ◌∙◌}
use Rattle.clap.specs.Words.{app_of, is_simple}
use Rattle.llsc_words.proofs.Stated.{simple_and_free}
use Rattle.llsc_words.proofs.Found.{first_holds, is_given, is_refused}
use Rattle.llsc_words.proofs.given.given_in.Goals as goal

pub returns-in-Ok : goal.returns-in-Ok
returns-in-Ok c =
    let simple : is_simple (app_of c.args.command) ≡ true = first_holds _ _ (simple_and_free _ c.requires.stated) in
    is_given (app_of c.args.command) (map string_bytes c.args.words.now) _ _ c.read.ensures (c.in-Ok.ensures.kinds (simple_and_free _ c.requires.stated)) (c.in-Ok.ensures.matches simple).0

pub returns : goal.returns
returns c = is_refused (app_of c.args.command) (map string_bytes c.args.words.now) c.in-Err.error (c.in-Err.ensures.kinds (simple_and_free _ c.requires.stated)) (λ memory. c.in_default.not-OutOfMemory (c.kind.ensures ∙ memory))
