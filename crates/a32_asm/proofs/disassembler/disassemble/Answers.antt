use Rattle.std.proofs.Common.{sym, ap, ◌∙◌}
use Rattle.a32_asm.specs.Statements.{line_piece}
use Rattle.a32_asm.specs.Shown.{shown}
use Rattle.a32_asm.proofs.ShownLines.{instruction_again, directive_again}
use Rattle.a32_asm.proofs.disassembler.disassemble.Goals as goal

pub returns-in-Ok-clause-again : goal.returns-in-Ok-clause-again
returns-in-Ok-clause-again c = λ labels spot code.
    instruction_again c.args.word c.in-Ok.instruction (record { here = c.args.addr; labels = labels }) spot c.ranges.word.fits c.requires.aligned c.ranges.addr.fits code (sym c.decode.ensures ∙ c.in-Ok.is)

pub returns-in-Err-clause-again : goal.returns-in-Err-clause-again
returns-in-Err-clause-again c = λ labels spot code.
    ap (λ m. line_piece (record { here = c.args.addr; labels = labels }) spot (shown c.args.word c.args.addr m)) (sym c.decode.ensures ∙ c.in-Err.is)
    ∙ directive_again c.args.word (record { here = c.args.addr; labels = labels }) spot c.ranges.word.fits code
