use Rattle.llsc_words.specs.declared.formats.Format.TheVariants.{Elf}
use Rattle.llsc_files.proofs.Images.{image_sized}
use Rattle.llsc_trials.proofs.tests.beside.loaded.Goals as goal

pub returns-in-Ok : goal.returns-in-Ok
returns-in-Ok c = image_sized Elf c.args.file.now c.args.size.now c.in-Ok.image c.in-Ok.ensures.image
