use Rattle.std.proofs.Common.{◌≡◌, ◌*◌, ◌∙◌, length, arith}
use Rattle.version_memory.specs.Memory.{memory_origin, pass_seen}
use Rattle.by_hand.proofs.Sums.{both_leave}
use Rattle.by_hand.proofs.counting.count.Goals as goal

pub row-requires : goal.row-requires
row-requires g c =
    let count : 8 * length c.close-rows.result.0 ≡ 65536 = c.close-rows.ensures.count ∙ c.in_ok-memory.ensures.origin.mem in
    omega (arith, count)

pub returns-clause-sum : goal.returns-clause-sum
returns-clause-sum g c =
    let count : 8 * length c.close-rows.result.0 ≡ 65536 = c.close-rows.ensures.count ∙ c.in_ok-memory.ensures.origin.mem in
    c.row.ensures
    ∙ c.close-rows.ensures.cells 1024 (omega (arith, count))
    ∙ both_leave (memory_origin c.in_ok-memory.memory) (pass_seen c.add_beside-pass.result) c.in_ok-memory.ensures.origin c.add_beside-pass.ensures.added c.close-rows.ensures.legal

pub returns-clause-left : goal.returns-clause-left
returns-clause-left g c =
    let count : 8 * length c.close-rows.result.0 ≡ 65536 = c.close-rows.ensures.count ∙ c.in_ok-memory.ensures.origin.mem in (
      memory_origin c.in_ok-memory.memory,
      pass_seen c.add_beside-pass.result,
      c.in_ok-memory.ensures.origin,
      c.add_beside-pass.ensures.added,
      record {
        legal = c.close-rows.ensures.legal;
        complete = c.close-rows.ensures.complete;
        left = c.row.ensures ∙ c.close-rows.ensures.cells 1024 (omega (arith, count));
      },
    )
