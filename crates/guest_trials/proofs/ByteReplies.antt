-- A reply of the tests is a byte.
use Rattle.std.proofs.Common.{ℕ, ◌^◌, ◌<◌, arith}
use Rattle.llsc_base.specs.Memory.{size_bytes}
use Rattle.llsc_base.specs.declared.access.Size.{Size}
use Rattle.llsc_base.specs.declared.access.Size.TheVariants.{B1, B2, B4, B8}
use Rattle.llsc_base.specs.declared.outside.Ask.{Ask}
use Rattle.llsc_base.specs.declared.outside.Ask.TheVariants.{Load, LoadEx, Store, StoreEx, Clear}
use Rattle.guest_thread.specs.ThreadState.{ThreadOf, IsPending, MayGive}
use Rattle.guest_core.specs.Ports.{ReplyFits}

fits_size : (size : Size) (byte : ℕ) → byte < 256 → byte < 256 ^ size_bytes size
fits_size B1 byte fits = omega arith
fits_size B2 byte fits = omega arith
fits_size B4 byte fits = omega arith
fits_size B8 byte fits = omega arith

byte_fits : (ask : Ask) (byte : ℕ) → byte < 256 → ReplyFits ask byte
byte_fits (Load place) byte fits = fits_size place.size byte fits
byte_fits (LoadEx place) byte fits = fits_size place.size byte fits
byte_fits (Store place value) byte fits = tt
byte_fits (StoreEx place value) byte fits = tt
byte_fits Clear byte fits = tt

-- a byte may be the reply to any access
pub takes_byte : {I S : Type 0} (mem budget : ℕ) (ask : Ask) (standing : ThreadOf I S) (byte : ℕ) → IsPending mem budget ask standing → byte < 256 → MayGive standing byte
takes_byte mem budget ask standing byte pending fits = pending.give byte (byte_fits ask byte fits)
