use Rattle.std.proofs.Common.{rules, ◌≡◌, ◌≤◌, ◌+◌, ◌*◌, ◌<◌, List, length, ap, ◌∙◌, subst, arith}
use Rattle.std.specs.Int.{w64, to_le_bytes}
use Rattle.std.proofs.lemmas.Slice.{take-put_mid}
use Rattle.history.specs.declared.entry.Entry.{Entry}
use Rattle.shared_memory.specs.Seen.{IsOneOf}
use Rattle.version_rule.specs.Left.{IsOver, cell_left}
use Rattle.version_memory.specs.Memory.{memory_origin, pass_numbers, pass_seen}
use Rattle.version_memory.specs.declared.memory.VersionMemory.{VersionMemory}
use Rattle.memory_handle.specs.Handles.{handle_origin, handle_seen}
use Rattle.memory_handle.proofs.Parted.{from-all}
use Rattle.memory_handle.proofs.Written.{cells_more, no_cells}
use Rattle.memory_handle.proofs.handles.Handle.close.Goals as goal

pub loop-cell-init : goal.loop-cell-init
loop-cell-init c = record {
  home = search rules;
  numbers = search rules;
  seen = search rules;
  over = λ one. absurd (omega (arith, one));
  bytes = no_cells (cell_left (handle_origin c.args.self) (handle_seen c.args.self));
}

pub cell_left-left-requires-clause-all : goal.cell_left-left-requires-clause-all
cell_left-left-requires-clause-all c t below =
    let self = c.args.self in
    let known : t < (handle_origin self).size.threads = subst (λ (m : VersionMemory). t < (memory_origin m).size.threads) c.deref.ensures below in
    let has : IsOneOf t (pass_numbers self.pass) = from-all self.first self.upto (handle_origin self).size.threads t (pass_numbers self.pass) self.numbers c.requires.all known in
    ap (λ f. f t) c.loop-cell.invariant.numbers ∙ has

pub loop-cell-preserved : goal.loop-cell-preserved
loop-cell-preserved c =
    let self = c.args.self in let cell = c.loop-cell.cell in let bytes = c.loop-cell.bytes in let ys = c.copy_from_slice.new.self in
    let said = c.cell_left-left.ensures in let was = c.loop-cell.invariant in
    let room : 8 * cell ≤ length bytes = search rules in
    let eight : length ys ≡ 8 = search rules in
    let is : ys ≡ to_le_bytes w64 c.cell_left-left.result = search rules in
    let next : 8 * (cell + 1) ≡ 8 * cell + length ys = omega (arith, eight) in
    let at : c.cell_left-left.result ≡ cell_left (handle_origin self) (handle_seen self) cell =
    said.cell
    ∙ ap (λ (m : VersionMemory). cell_left (memory_origin m) (pass_seen c.loop-cell.pass) cell) c.deref.ensures
    ∙ ap (λ (seen : List Entry). cell_left (handle_origin self) seen cell) was.seen in
    record {
      home = said.memory ∙ was.home;
      numbers = said.numbers ∙ was.numbers;
      seen = said.seen ∙ was.seen;
      over = λ one.
          subst (IsOver (handle_origin self)) was.seen
          (subst (λ (m : VersionMemory). IsOver (memory_origin m) (pass_seen c.loop-cell.pass)) c.deref.ensures said.over);
      bytes =
          take-put_mid (8 * cell) _ bytes ys (8 * (cell + 1)) next room
          ∙ cells_more (cell_left (handle_origin self) (handle_seen self)) cell c.cell_left-left.result _ ys was.bytes at is;
    }
