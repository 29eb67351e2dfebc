-- The length of a program's image.
use Rattle.std.proofs.Common.{◌≡◌, List, ℕ, length, ◌∙◌, ap}
use Rattle.llsc_base.specs.Sizes.{Numbers}
use Rattle.llsc_base.specs.Images.{Program}
use Rattle.llsc_base.specs.Flat.{flat_byte}
use Rattle.llsc_base.proofs.Values.{length-values_below}
use Rattle.elf32.specs.Headers.{segments_of}
use Rattle.elf32.specs.Image.{byte_at, image_of as elf_image}
use Rattle.llsc_words.specs.declared.formats.Format.{Format}
use Rattle.llsc_words.specs.declared.formats.Format.TheVariants.{Elf, Flat}
use Rattle.llsc_files.specs.Programs.{image_of}

sized : (format : Format) (file : List ℕ) (size : Numbers) → length (image_of format file size).bytes ≡ size.mem
unfolding elf_image
sized Elf file size = length-values_below size.mem (byte_at file (segments_of file))
sized Flat file size = length-values_below size.mem (flat_byte file)

-- an image is as long as the machine's memory
pub image_sized : (format : Format) (file : List ℕ) (size : Numbers) (image : Program) → image ≡ image_of format file size → length image.bytes ≡ size.mem
image_sized format file size image is = ap (λ i. length i.bytes) is ∙ sized format file size
