use Rattle.std.proofs.Common.{◌≡◌, ◌+◌, ◌++◌, false, length, sym, ap, ◌∙◌, append-nil, length-append, arith, rules}
use Rattle.a32_instr.specs.Block.{registers_of}
use Rattle.a32_forms.specs.Names.{register_name}
use Rattle.a32_forms.specs.Registers.{list_text}
use Rattle.a32_forms.specs.inner.Registers.{separator}
use Rattle.a32_forms.proofs.ListWritten.{left_text, left_whole, left_none, left_over, Turn, turn_room, turn_whole}
use Rattle.a32_forms.proofs.shown_list.write_list.Goals as goal

pub loop-register-init : goal.loop-register-init
loop-register-init c =
    let e = left_whole c.args.list in
    record { whole = ap (λ text. c.args.line.now ++ text) (sym e); room = omega (arith, ap length e) }

pub loop-register-preserved-then-not-is_listed : goal.loop-register-preserved-then-not-is_listed
loop-register-preserved-then-not-is_listed c =
    let i = c.loop-register.invariant in
    let e = left_none c.args.list c.loop-register.register c.loop-register.is_first (omega arith) (search rules) in
    record { whole = ap (λ text. c.loop-register.line ++ text) (sym e) ∙ i.whole; room = omega (arith, ap length e, i.room) }

pub write_text-requires : goal.write_text-requires
write_text-requires c =
    let i = c.loop-register.invariant in
    let turn : Turn c.loop-register.line (c.args.line.now ++ list_text (registers_of c.args.list)) c.args.list c.loop-register.register c.loop-register.is_first = record { small = omega arith; listed = search rules; text = i.whole; room = i.room } in
    let room = turn_room _ _ _ _ _ turn in
    record { room = omega (arith, room, ap length c.separator.ensures) }

pub write_text-requires-in-loop-register : goal.write_text-requires-in-loop-register
write_text-requires-in-loop-register c =
    let i = c.loop-register.invariant in
    let turn : Turn c.loop-register.line (c.args.line.now ++ list_text (registers_of c.args.list)) c.args.list c.loop-register.register c.loop-register.is_first = record { small = omega arith; listed = search rules; text = i.whole; room = i.room } in
    let room = turn_room _ _ _ _ _ turn in
    let line = length-append c.loop-register.line c.separator.result.now in
    record { room = omega (arith, room, ap length c.separator.ensures, ap length c.register_name.ensures, ap length c.write_text.ensures, line) }

pub loop-register-preserved : goal.loop-register-preserved
loop-register-preserved c =
    let i = c.loop-register.invariant in
    let turn : Turn c.loop-register.line (c.args.line.now ++ list_text (registers_of c.args.list)) c.args.list c.loop-register.register c.loop-register.is_first = record { small = omega arith; listed = search rules; text = i.whole; room = i.room } in
    let whole = turn_whole _ _ _ _ _ turn in
    let room = turn_room _ _ _ _ _ turn in
    let line : c.write_text-in-loop-register.new.line ≡ (c.loop-register.line ++ separator c.loop-register.is_first) ++ register_name c.loop-register.register = cc in
    let size = length-append (c.loop-register.line ++ separator c.loop-register.is_first) (register_name c.loop-register.register) in
    let front = length-append c.loop-register.line (separator c.loop-register.is_first) in
    record {
      whole = ap (λ text. text ++ left_text c.args.list false (c.loop-register.register + 1)) line ∙ whole;
      room = omega (arith, room, ap length line, size, front);
    }

pub returns : goal.returns
returns c =
    let r : c.loop-register.register ≡ 16 = omega arith in
    let e = ap (λ at. left_text c.args.list c.loop-register.is_first at) r ∙ left_over c.args.list c.loop-register.is_first in
    sym (append-nil c.loop-register.line) ∙ (ap (λ text. c.loop-register.line ++ text) (sym e) ∙ c.loop-register.invariant.whole)
