-- What a memory that is kept by names and a section was made with. This project's own.
use Rattle.std.specs.Prelude.{false}
use Rattle.shared_memory.specs.Origin.{Origin}
use Rattle.shared_memory.specs.declared.plans.Plan.{Plan}

-- what such a memory was made with
abbrev pub origin_of : Plan → Origin
origin_of plan = record { size = plan.size; first = plan.size.threads; spare = 0; bytes = plan.image.value.bytes; spends = false; steady = false }
