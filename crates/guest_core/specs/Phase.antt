-- Where a guest thread stands in its instruction.
use Rattle.llsc_base.specs.declared.outside.Ask.{Ask}
use Rattle.llsc_base.specs.declared.outside.CallAsk.{CallAsk}
use Rattle.llsc_base.specs.declared.outside.Stop.{Stop}

-- Between two instructions; inside one that waits for nothing; waiting for the reply to an access of this instruction,
-- or for the answer of a guest call; or stopped for good.
pub data PhaseOf (I : Type 0) : Type 0 where
  Between : PhaseOf I
  Inside : I → PhaseOf I
  Awaiting : I → Ask → PhaseOf I
  Calling : CallAsk → PhaseOf I
  Stopped : Stop → PhaseOf I
