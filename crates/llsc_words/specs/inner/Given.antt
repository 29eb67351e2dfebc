-- Only proofs and inner contracts need these words beside those of `specs/Given`.
use Rattle.std.specs.Option.{option_map}
use Rattle.llsc_words.specs.declared.given.Given.{Given as Read}
use Rattle.llsc_words.specs.Given.{Given}

-- what borrows from the words, as what it is
abbrev pub seen : Read → Given
seen read = record {
  file = option_map (λ text. text.now) read.file;
  recorded = option_map (λ text. text.now) read.recorded;
  number = option_map (λ text. text.now) read.number;
  flat = read.flat;
  rv = read.rv;
  threads = option_map (λ text. text.now) read.threads;
  spare = option_map (λ text. text.now) read.spare;
  mem = option_map (λ text. text.now) read.mem;
  granule = option_map (λ text. text.now) read.granule;
  classes = option_map (λ text. text.now) read.classes;
  limit = option_map (λ text. text.now) read.limit;
  workers = option_map (λ text. text.now) read.workers;
  slice = option_map (λ text. text.now) read.slice;
  seed = option_map (λ text. text.now) read.seed;
  rounds = option_map (λ text. text.now) read.rounds;
  budget = option_map (λ text. text.now) read.budget;
}
