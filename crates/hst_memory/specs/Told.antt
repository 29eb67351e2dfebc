-- What a seat of the memory's table knows. This project's own.
use Rattle.shared_memory.specs.Told.{SeatOf}
use Rattle.hst_memory.specs.declared.hands.Hand.{Hand}

-- what a seat of such a memory knows
abbrev pub Mine : Type 0
Mine = SeatOf Hand
