-- The place of four bytes at address 8.
use Rattle.std.proofs.Common.{◌≡◌, ℕ, ap, ◌∙◌, refl, arith}
use Rattle.llsc_base.specs.Memory.{size_bytes}
use Rattle.llsc_base.specs.declared.access.Place.{Place}
use Rattle.llsc_base.specs.declared.access.Size.{Size}
use Rattle.llsc_base.specs.declared.access.Size.TheVariants.{B1, B2, B4, B8}
use Rattle.history.specs.Worked.{word}
use Rattle.memory_handle.specs.Accesses.{IsPlaceOf}

four_bytes : (size : Size) → size_bytes size ≡ 4 → size ≡ B4
four_bytes B1 is = absurd (omega (arith, is))
four_bytes B2 is = absurd (omega (arith, is))
four_bytes B4 is = refl
four_bytes B8 is = absurd (omega (arith, is))

abbrev placed : ℕ → Size → Place
placed addr size = record { addr = addr; size = size }

-- it is the word
pub is_word : (place : Place) → IsPlaceOf 8 4 place → place ≡ word
is_word place is = ap (λ a. placed a place.size) is.addr_is ∙ ap (placed 8) (four_bytes place.size is.width_is)
