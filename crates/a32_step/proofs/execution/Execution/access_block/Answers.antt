use Rattle.std.proofs.Common.{rules}
use Rattle.a32_step.proofs.BlockPassages.{all_acted, barred_acted, lowest_by, part_acted, tested}
use Rattle.a32_step.proofs.execution.Execution.access_block.Goals as goal

pub returns-in-Some-clause-acted : goal.returns-in-Some-clause-acted
returns-in-Some-clause-acted g c =
    barred_acted c.args.image.now c.args.transfer c.args.self.now
    (lowest_by c.args.transfer.up c.args.transfer.before c.args.transfer.rn c.args.transfer.list c.args.self.now.state c.lowest_address-lowest.ensures c.operand-base.ensures c.count_of-count.ensures.count)
    (tested c.args.image.now c.args.transfer c.lowest_address-lowest.result c.count_of-count.ensures.count c.test_words.ensures c.in-Some.is) (search rules) (search rules)

pub returns-then-not-access_each-clause-acted : goal.returns-then-not-access_each-clause-acted
returns-then-not-access_each-clause-acted g c =
    let held = c.access_each.ensures.held (search rules) in
    part_acted c.args.image.now c.args.transfer c.args.self.now
    (lowest_by c.args.transfer.up c.args.transfer.before c.args.transfer.rn c.args.transfer.list c.args.self.now.state c.lowest_address-lowest.ensures c.operand-base.ensures c.count_of-count.ensures.count)
    c.begin.new.self c.access_each.new.self c.begin.ensures (tested c.args.image.now c.args.transfer c.lowest_address-lowest.result c.count_of-count.ensures.count c.test_words.ensures (search rules)) c.access_each.ensures.given held.0 held.1 held.2

pub returns-clause-acted : goal.returns-clause-acted
returns-clause-acted g c =
    let all = c.access_each.ensures.all (search rules) in
    all_acted c.args.image.now c.args.transfer c.args.self.now
    (lowest_by c.args.transfer.up c.args.transfer.before c.args.transfer.rn c.args.transfer.list c.args.self.now.state c.lowest_address-lowest.ensures c.operand-base.ensures c.count_of-count.ensures.count)
    c.begin.new.self c.access_each.new.self c.begin.ensures (tested c.args.image.now c.args.transfer c.lowest_address-lowest.result c.count_of-count.ensures.count c.test_words.ensures (search rules)) c.access_each.ensures.given all.0 all.1
    c.finish_transfer-progress.ensures.progress c.finish_transfer-progress.ensures.state c.after_all.ensures.progress c.after_all.ensures.complete c.after_all.ensures.held
