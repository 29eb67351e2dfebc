use Rattle.std.proofs.Common.{◌-◌, length, sym, ap, ◌∙◌, inr}
use Rattle.a32_asm.specs.Assembled.{is_too_long, first_fault}
use Rattle.a32_asm.specs.inner.Seen.{layout_seen, piece_seen, added_piece}
use Rattle.a32_asm.proofs.LaidLines.{spot_read}
use Rattle.a32_asm.proofs.AddedLines.{fault_is, outcome_is, goes_on, unit_done, rest_within}
use Rattle.a32_asm.proofs.assembler.assemble_lines.Goals as goal

pub returns-in-Err-clause-fault : goal.returns-in-Err-clause-fault
returns-in-Err-clause-fault c =
    inr (fault_is (layout_seen c.args.layout.now) c.args.text.now c.loop-left.draft.words.items c.loop-left.draft.bytes.items c.loop-left.spot c.loop-left.number c.loop-left.left
    c.first_line.result.1 c.in-Some.rest c.first_line.result.0.now c.in-Err.kind c.in-Some.is c.loop-left.invariant c.first_line.ensures.lines
    (sym (ap piece_seen c.in-Err.is)
    ∙ outcome_is (layout_seen c.args.layout.now) c.args.text.now c.loop-left.spot c.next_spot-behind.result c.loop-left.number c.in-Some.rest c.first_line.result.0.now c.first_line.result.1
    c.read_line-line.result c.is_repeated-repeated.result c.is_too_long-too_long.result c.line_piece.result c.first_fault.result
    c.read_line-line.ensures.label c.read_line-line.ensures.ascii c.read_line-line.ensures.head c.read_line-line.ensures.statement
    c.is_repeated-repeated.ensures c.next_spot-behind.ensures
    (c.is_too_long-too_long.ensures ∙ ap (λ n. is_too_long c.next_spot-behind.result (length c.args.text.now - n)) c.length_of.ensures)
    c.line_piece.ensures c.first_fault.ensures c.first_line.ensures.bytes
    (rest_within (layout_seen c.args.layout.now) c.args.text.now c.loop-left.draft.words.items c.loop-left.draft.bytes.items c.loop-left.spot c.loop-left.number c.loop-left.left c.in-Some.rest
    c.in-Some.is c.loop-left.invariant)))

pub loop-left-preserved : goal.loop-left-preserved
loop-left-preserved c =
    goes_on (layout_seen c.args.layout.now) c.args.text.now c.loop-left.draft.words.items c.loop-left.draft.bytes.items c.loop-left.spot c.next_spot-behind.result c.loop-left.number c.loop-left.left
    c.first_line.result.1 c.in-Some.rest c.first_line.result.0.now (added_piece c.in-Ok.added) c.is_repeated-repeated.result (piece_seen c.line_piece.result)
    c.in-Some.is c.loop-left.invariant c.first_line.ensures.lines c.first_line.ensures.bytes
    (c.next_spot-behind.ensures ∙ spot_read c.loop-left.spot c.read_line-line.result c.first_line.result.0.now c.read_line-line.ensures.ascii c.read_line-line.ensures.head c.read_line-line.ensures.statement)
    (sym (ap piece_seen c.in-Ok.is)
    ∙ outcome_is (layout_seen c.args.layout.now) c.args.text.now c.loop-left.spot c.next_spot-behind.result c.loop-left.number c.in-Some.rest c.first_line.result.0.now c.first_line.result.1
    c.read_line-line.result c.is_repeated-repeated.result c.is_too_long-too_long.result c.line_piece.result c.first_fault.result
    c.read_line-line.ensures.label c.read_line-line.ensures.ascii c.read_line-line.ensures.head c.read_line-line.ensures.statement
    c.is_repeated-repeated.ensures c.next_spot-behind.ensures
    (c.is_too_long-too_long.ensures ∙ ap (λ n. is_too_long c.next_spot-behind.result (length c.args.text.now - n)) c.length_of.ensures)
    c.line_piece.ensures c.first_fault.ensures c.first_line.ensures.bytes
    (rest_within (layout_seen c.args.layout.now) c.args.text.now c.loop-left.draft.words.items c.loop-left.draft.bytes.items c.loop-left.spot c.loop-left.number c.loop-left.left c.in-Some.rest
    c.in-Some.is c.loop-left.invariant))
    (sym (ap piece_seen c.in-Ok.is) ∙ c.first_fault.ensures
    ∙ ap (λ b. first_fault c.is_repeated-repeated.result b (piece_seen c.line_piece.result))
    (c.is_too_long-too_long.ensures ∙ ap (λ n. is_too_long c.next_spot-behind.result (length c.args.text.now - n)) c.length_of.ensures))
    c.add.new.self.words.items c.add.new.self.bytes.items c.in-Ok-add.ensures.words c.in-Ok-add.ensures.bytes

pub returns-clause-unit : goal.returns-clause-unit
returns-clause-unit c =
    unit_done (layout_seen c.args.layout.now) c.args.text.now c.loop-left.draft.words.items c.loop-left.draft.bytes.items c.loop-left.spot c.loop-left.number c.loop-left.left c.finish.result
    c.in_default.is c.loop-left.invariant c.finish.ensures.words c.finish.ensures.bytes c.finish.ensures.space
