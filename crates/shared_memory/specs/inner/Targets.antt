-- Only proofs and inner contracts need these words.
-- Where an access goes, on the table of a memory of this plan. This project's own.
use Rattle.std.specs.Prelude.{◌≡◌, ◌+◌, ◌^◌, ◌<◌, ◌≤◌, true}
use Rattle.llsc_base.specs.Memory.{cell_of, class_of, is_aligned, row_of, size_bytes}
use Rattle.llsc_base.specs.declared.access.Place.{Place}
use Rattle.shared_memory.specs.declared.plans.Plan.{Plan}
use Rattle.shared_memory.specs.declared.targets.Target.{Target}
use Rattle.shared_memory.specs.Layout.{cell_word, tag_word}

-- the place may be accessed
pub record IsPlace (plan : Plan) (place : Place) : Type 0 where
  pub aligned : is_aligned place ≡ true
  pub inside : place.addr + size_bytes place.size ≤ plan.size.mem

-- the place may be accessed, the value is one of its size, and the words are its own
pub record IsTarget (plan : Plan) (target : Target) : Type 0 where
  pub may : IsPlace plan target.place
  pub fits : target.value < 256 ^ size_bytes target.place.size
  pub tag_is : target.tag ≡ tag_word (class_of plan.size.classes (row_of plan.size.granule target.place))
  pub word_is : target.word ≡ cell_word plan.size (cell_of target.place)
