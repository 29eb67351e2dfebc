use Rattle.std.proofs.Common.{subst}
use Rattle.std.specs.List.{All}
use Rattle.run_record.specs.Limits.{IsAccess}
use Rattle.run_checker.proofs.LegalRecords.{right_legal, good_right, good_stopped}
use Rattle.run_checker.proofs.laws.good_records_are_legal.Goals as goal

pub returns-clause-legal : goal.returns-clause-legal
returns-clause-legal g c program size run record_is threads is =
    right_legal g.C.Core.set c.is_sound.ensures.passes c.is_sound.ensures.own program size run.budget run.accesses (good_right g.C.Core.set c.is_sound.ensures.passes c.is_sound.ensures.own program size run.budget run.accesses is)
    (subst (λ n. All (IsAccess n) run.accesses) threads record_is.accesses)

pub returns-clause-stopped : goal.returns-clause-stopped
returns-clause-stopped g c program size run t is known = good_stopped g.C.Core.set c.is_sound.ensures.passes c.is_sound.ensures.own program size run.budget run.accesses t is known
