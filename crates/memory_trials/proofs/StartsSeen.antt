-- How many threads a thread has started, once more was seen.
use Rattle.std.proofs.Common.{◌≡◌, ◌+◌, ℕ, List, ◌++◌, length, refl, ap, sym, ◌∙◌, arith, length-append}
use Rattle.std.proofs.lemmas.Bool.{eq-eqb}
use Rattle.history.specs.Operation.{entries_of_operation, start}
use Rattle.history.specs.Started.{starts_of}
use Rattle.history.specs.Starts.{made_by, starts_from}
use Rattle.history.specs.declared.entry.Entry.{Entry}
use Rattle.history.proofs.Starts.{starts_from-length, starts_in-more}
use Rattle.shared_memory.specs.Origin.{Origin}
use Rattle.shared_memory.specs.Seen.{Sees}

starts-sees : (origin : Origin) (t : ℕ) (old own new : List Entry) → Sees origin t old own new → starts_of t new ≡ starts_of t old + starts_of t own
starts-sees origin t old own new sees =
    let before = starts_from-length t 0 old in
    let more = starts_from-length t (made_by t old) own in
    ap (starts_of t) sees.longer ∙ sym (starts_from-length t 0 (old ++ sees.added)) ∙ ap length (starts_in-more t old sees.added own sees.mine)
    ∙ length-append (starts_from t 0 old) (starts_from t (made_by t old) own) ∙ omega (arith, before, more)

-- an access starts none
pub starts-still : (origin : Origin) (t n : ℕ) (old own new : List Entry) → Sees origin t old own new → starts_of t own ≡ 0 → starts_of t old ≡ n → starts_of t new ≡ n
starts-still origin t n old own new sees none before = let more = starts-sees origin t old own new sees in omega (arith, none, before, more)

-- a start is one more
pub starts-next : (origin : Origin) (t n child entry arg : ℕ) (old new : List Entry) → Sees origin t old (entries_of_operation t (start child entry arg)) new → starts_of t old ≡ n
    → starts_of t new ≡ n + 1
starts-next origin t n child entry arg old new sees before =
    let more = starts-sees origin t old (entries_of_operation t (start child entry arg)) new sees in
    let one : starts_of t (entries_of_operation t (start child entry arg)) ≡ 1 = rw (eq-eqb t t refl) refl in
    omega (arith, one, before, more)
