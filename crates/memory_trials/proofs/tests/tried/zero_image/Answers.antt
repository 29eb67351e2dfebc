use Rattle.std.proofs.Common.{rules, refl}
use Rattle.memory_trials.proofs.tests.tried.zero_image.Goals as goal

pub of-requires : goal.of-requires
of-requires c = rw c.new.ensures.items (record { aligned = refl; spans = search rules; apart = search rules })
