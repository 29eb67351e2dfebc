-- What an instruction may do next, whatever its set.
use Rattle.std.specs.Prelude.{ℕ, ◌%◌, ◌^◌, Option, Some, None}
use Rattle.llsc_base.specs.declared.access.Bar.{Bar}
use Rattle.llsc_base.specs.declared.access.Bar.TheVariants as bar
use Rattle.llsc_base.specs.declared.access.Size.{Size}
use Rattle.llsc_base.specs.declared.decoding.DecodeFault.{DecodeFault}
use Rattle.llsc_base.specs.declared.decoding.DecodeFault.TheVariants as fault
use Rattle.llsc_base.specs.declared.outside.Ask.{Ask}
use Rattle.llsc_base.specs.declared.outside.CallAsk.{CallAsk}
use Rattle.llsc_base.specs.declared.outside.Stop.{Stop}
use Rattle.llsc_base.specs.declared.outside.Stop.TheVariants.{Undefined, Unpredictable, Alignment, Outside, ReadOnly}
use Rattle.llsc_base.specs.Memory.{size_bytes}

-- What an instruction does next: it asks for an access, makes a guest call, is complete with a new state, or
-- stops the thread. Until it is complete, the state is that of its start.
pub data EffectOf (S : Type 0) : Type 0 where
  asks : Ask → EffectOf S
  calls : CallAsk → EffectOf S
  completes : S → EffectOf S
  stops : Stop → EffectOf S

-- the stop of a thread at a word that is no instruction
abbrev pub undecoded : DecodeFault → ℕ → Stop
undecoded fault.Undefined addr = Undefined addr
undecoded fault.Unpredictable addr = Unpredictable addr

-- the stop of a thread whose access is barred
abbrev pub barred : Bar → ℕ → Stop
barred bar.Alignment addr = Alignment addr
barred bar.Outside addr = Outside addr
barred bar.ReadOnly addr = ReadOnly addr

-- an access is asked for where nothing bars it
abbrev pub asks_unless : {S : Type 0} → Option Bar → ℕ → Ask → EffectOf S
asks_unless None addr ask = asks ask
asks_unless (Some bar) addr ask = stops (barred bar addr)

-- What a load of a size takes of its reply, which may be any number: it is cut to its size, so that the low bits are
-- taken, as many as the place has, and whatever stands above them is dropped. A reply that fits the place is taken whole.
abbrev pub loaded_part : Size → ℕ → ℕ
loaded_part size reply = reply % 256 ^ size_bytes size
