-- The length of a flat image.
use Rattle.std.proofs.Common.{◌≡◌, List, ℕ, length, ◌∙◌, ap}
use Rattle.llsc_base.specs.Sizes.{Numbers}
use Rattle.llsc_base.specs.Images.{Program}
use Rattle.llsc_base.specs.Flat.{flat_image, flat_byte}
use Rattle.llsc_base.proofs.Values.{length-values_below}

-- a flat image is as long as the machine's memory
pub flat_sized : (file : List ℕ) (size : Numbers) (image : Program) → image ≡ flat_image file size → length image.bytes ≡ size.mem
flat_sized file size image is = ap (λ i. length i.bytes) is ∙ length-values_below size.mem (flat_byte file)
