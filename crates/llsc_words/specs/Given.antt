-- What the words behind a command give it.
use Rattle.std.specs.Prelude.{Bool, false, List, [], ◌∷◌, Option, Some, None, codes}
use Rattle.std.specs.Option.{option_map_or}
use Rattle.std.specs.Str.{bytes_eq}
use Rattle.clap.specs.Words.{App, Kinds, Row, Text, fault_of, first_of, matches_of}

-- Each value as the text that it is, where it is given.
pub record Given : Type 0 where
  pub file : Option Text
  pub recorded : Option Text
  pub number : Option Text
  pub flat : Bool
  pub rv : Bool
  pub threads : Option Text
  pub spare : Option Text
  pub mem : Option Text
  pub granule : Option Text
  pub classes : Option Text
  pub limit : Option Text
  pub workers : Option Text
  pub slice : Option Text
  pub seed : Option Text
  pub rounds : Option Text
  pub budget : Option Text

-- a flag is there
abbrev pub is_true : Option Text → Bool
is_true value = option_map_or (λ text. bytes_eq text (codes "true")) value false

-- what the values are that `clap` found, by the names of the options and of what stands by itself
abbrev pub given_by : List Row → Given
given_by rows = record {
  file = first_of (codes "FILE") rows;
  recorded = first_of (codes "RECORD") rows;
  number = first_of (codes "SEED") rows;
  flat = is_true (first_of (codes "flat") rows);
  rv = is_true (first_of (codes "rv") rows);
  threads = first_of (codes "threads") rows;
  spare = first_of (codes "spare") rows;
  mem = first_of (codes "mem") rows;
  granule = first_of (codes "granule") rows;
  classes = first_of (codes "classes") rows;
  limit = first_of (codes "limit") rows;
  workers = first_of (codes "workers") rows;
  slice = first_of (codes "slice") rows;
  seed = first_of (codes "seed") rows;
  rounds = first_of (codes "rounds") rows;
  budget = first_of (codes "budget") rows;
}

-- nothing, where the words have a fault
abbrev pub unless_faulty : Kinds → Given → Option Given
unless_faulty [] given = Some given
unless_faulty (fault ∷ faults) given = None

-- what the words give a command, None where `clap` refuses them
unfoldable pub given_in : App → List Text → Option Given
given_in app words = unless_faulty (fault_of app words) (given_by (matches_of app words))
