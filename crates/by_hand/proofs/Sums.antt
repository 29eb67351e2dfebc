-- What the word holds in a history of two threads that have both added 1 to it: how often it was written.
use Rattle.std.proofs.Common.{◌≡◌, ◌≢◌, ◌⊎◌, ℕ, zero, suc, ◌+◌, ◌<◌, ◌≤◌, true, List, [], ◌∷◌, ◌++◌, length, replicate, refl, sym, ap, ◌∙◌, subst, arith}
use Rattle.std.proofs.lemmas.List.{append-nil, length-replicate}
use Rattle.std.proofs.lemmas.Grind.{replicate_next}
use Rattle.llsc_base.specs.Memory.{number_of, value_at}
use Rattle.llsc_base.specs.declared.access.Place.{Place}
use Rattle.llsc_base.specs.declared.access.Size.TheVariants.{B8}
use Rattle.history.specs.Monitor.{at_rest_by, monitor_after}
use Rattle.history.specs.Parts.{accesses_of, entries_of}
use Rattle.history.specs.declared.entry.Entry.{Entry}
use Rattle.history.specs.declared.entry.Entry.TheVariants.{Read, Write, Fail}
use Rattle.history.proofs.Additions.{AreAdditions, AreBelow, AreCounted, Words, additions-times, has_failed, has_stored, holds_writes, is_at, no_turn, own_first, times}
use Rattle.history.proofs.SumsBelow.{sum_below, sum_below-same}
use Rattle.history.proofs.WritesByThread.{writes_by_threads, writes_of}
use Rattle.shared_memory.specs.Origin.{Origin, IsLegalFrom}
use Rattle.by_hand.specs.inner.Counting.{HasAdded, HaveBothAdded, IsOfTwo, next_value, none, stored, failed}

abbrev pub word : Place
word = record { addr = 8192; size = B8 }

-- a memory's one word
only_itself : (i j : ℕ) → i < 1 → j < 1 → i ≢ j → (8192 + 8 ≤ 8192) ⊎ (8192 + 8 ≤ 8192)
only_itself i j known other_known other = absurd (other (omega (arith, known, other_known)))

abbrev one_word : Words
one_word = record { word = λ index. word; count = 1; apart = only_itself }

-- ---- additions from the first one on

abbrev Turns : ℕ → List ℕ → List Entry → Type 0
Turns t named entries = AreAdditions t (λ index. word) named entries

additions-append : (t : ℕ) (before after : List ℕ) (xs ys : List Entry) → Turns t before xs → Turns t after ys → Turns t (before ++ after) (xs ++ ys)
additions-append t _ after _ ys no_turn more = more
additions-append t _ after _ ys (has_stored index value named xs turns) more =
    has_stored index value (named ++ after) (xs ++ ys) (additions-append t named after xs ys turns more)
additions-append t _ after _ ys (has_failed index value cause named xs turns) more =
    has_failed index value cause (named ++ after) (xs ++ ys) (additions-append t named after xs ys turns more)

-- a thread that has added so many times, in the order of its accesses
turns_of : (t times : ℕ) (accesses : List Entry) → HasAdded t word times accesses → Turns t (replicate times 0) accesses
turns_of t _ _ none = no_turn
turns_of t _ _ (stored times value before additions) =
    subst (λ (named : List ℕ). Turns t named (before ++ Read t word value true ∷ Write t word (next_value value) true ∷ [])) (sym (replicate_next times 0))
    (additions-append t (replicate times 0) (0 ∷ []) before _ (turns_of t times before additions) (has_stored 0 value [] [] no_turn))
turns_of t _ _ (failed times value before cause additions) =
    subst (λ (named : List ℕ). Turns t named (before ++ Read t word value true ∷ Fail t word (next_value value) cause ∷ [])) (append-nil (replicate times 0))
    (additions-append t (replicate times 0) [] before _ (turns_of t times before additions) (has_failed 0 value cause [] [] no_turn))

zeros_hold : value_at (replicate 65536 0) word ≡ 0
unfolding number_of
zeros_hold = refl

times-replicate : (n : ℕ) → times 0 (replicate n 0) ≡ n
times-replicate zero = refl
times-replicate (suc n) = let rest = times-replicate n in omega (arith, rest)

below-replicate : (n : ℕ) → AreBelow 1 (replicate n 0)
below-replicate zero = tt
below-replicate (suc n) = (omega arith, below-replicate n)

-- two threads that have each added 1 a thousand times leave 2000
pub both_leave : (origin : Origin) (history : List Entry) → IsOfTwo origin → HaveBothAdded word 1000 history → IsLegalFrom origin history
    → value_at (monitor_after (at_rest_by origin.size.granule origin.bytes origin.size.threads) (accesses_of history)).memory word ≡ 2000
both_leave origin history two add legal =
    holds_writes one_word origin.size.granule origin.bytes origin.size.threads (λ t. replicate 1000 0) (accesses_of history) counted 0 (omega arith) ∙ sum
  where
    each : (t : ℕ) → t < origin.size.threads → Turns t (replicate 1000 0) (entries_of t (accesses_of history))
    each t member =
        subst (Turns t (replicate 1000 0)) (own_first t history) (turns_of t 1000 _ (add t (subst (λ (n : ℕ). t < n) two.threads member)))

    sum : writes_of (is_at word) (accesses_of history) ≡ 2000
    sum =
        writes_by_threads (at_rest_by origin.size.granule origin.bytes origin.size.threads) origin.size.threads (is_at word) (accesses_of history) (length-replicate origin.size.threads _) legal.legal.accesses
        ∙ sum_below-same _ (λ t. 1000) origin.size.threads (λ t member.
        additions-times one_word t 0 (replicate 1000 0) _ (omega arith) (below-replicate 1000) (each t member) ∙ times-replicate 1000)
        ∙ ap (sum_below (λ t. 1000)) two.threads

    counted : AreCounted one_word origin.size.granule origin.bytes origin.size.threads (λ t. replicate 1000 0) (accesses_of history)
    counted = record {
      legal = legal.legal.accesses;
      each = each;
      below = λ t. below-replicate 1000;
      room = λ index known. subst (λ (bytes : List ℕ). 8200 ≤ length bytes) (sym two.zeros) (let long = length-replicate {A = ℕ} 65536 0 in omega (arith, long));
      empty = λ index known. ap (λ (bytes : List ℕ). value_at bytes word) two.zeros ∙ zeros_hold;
      few = λ index known. omega (arith, sum);
    }
