-- What a parse finds or refuses, by the rows and the kinds of its fault.
use Rattle.std.specs.Prelude.{◌≡◌, ◌&&◌, Bool, true, false, List, [], ◌∷◌, Option, Some, None}
use Rattle.std.proofs.Common.{◌∙◌, ap, sym, refl, inl, inr}
use Rattle.clap.specs.Words.{App, HasKind, IsAmong, Kinds, Row, Text, fault_of, first_of, first_value, kind_of, matches_of, rows_of}
use Rattle.clap.specs.declared.error.Error.{Error}
use Rattle.clap.specs.declared.error.kind.ErrorKind.{ErrorKind}
use Rattle.clap.specs.declared.error.kind.ErrorKind.TheVariants.{OutOfMemory}
use Rattle.clap.specs.declared.parser.matches.Found.{Found}
use Rattle.clap.proofs.WalkLemmas.{first_value-rows}
use Rattle.llsc_words.specs.Given.{Given, given_by, given_in, unless_faulty}

pub value_found : (found : Found) (name : Text) (value : Option Text) → value ≡ first_value found name → value ≡ first_of name (rows_of found)
value_found found name value is = is ∙ first_value-rows found name

-- words without a fault give what was found
pub is_given : (app : App) (words : List Text) (rows : List Row) (given : Given) → given ≡ given_by rows → fault_of app words ≡ []
    → rows ≡ matches_of app words → Some given ≡ given_in app words
unfolding given_in
is_given app words rows given read faultless found =
    ap Some (read ∙ ap given_by found) ∙ sym (ap (λ faults. unless_faulty faults (given_by (matches_of app words))) faultless)

one_among : (kind : ErrorKind) (kinds : Kinds) (given : Given) → IsAmong kind kinds → None ≡ unless_faulty kinds given
one_among kind [] given none = absurd none
one_among kind (first ∷ others) given among = refl

-- words with a fault other than want of memory give nothing
pub is_refused : (app : App) (words : List Text) (error : Error) → HasKind (fault_of app words) error → (kind_of error ≡ OutOfMemory → ⊥)
    → None ≡ given_in app words
unfolding given_in
is_refused app words error (inl memory) other = absurd (other memory)
is_refused app words error (inr among) other = one_among (kind_of error) (fault_of app words) (given_by (matches_of app words)) among

-- the first of two tests
pub first_holds : (a b : Bool) → (a && b) ≡ true → a ≡ true
first_holds true b is = refl
first_holds false b is = is
