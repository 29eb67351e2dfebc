-- The tries of a thread of the counter guest as additions in a history.
use Rattle.std.proofs.Common.{◌≡◌, ℕ, true, List, [], ◌∷◌, map, sym, ap, ◌∙◌, subst, arith}
use Rattle.history.specs.declared.entry.Entry.{Entry}
use Rattle.history.specs.declared.entry.Entry.TheVariants.{Write, Fail}
use Rattle.history.proofs.Additions.{AreAdditions, no_turn, has_stored, has_failed, one_more as added_to}
use Rattle.llsc_base.specs.declared.outside.Ask.TheVariants as ask
use Rattle.guest_calls.specs.Pairs.{pair_of}
use Rattle.guest_calls.specs.Run.{Pair}
use Rattle.guest_calls.proofs.OwnAccesses.{AreOwn, fail_by, read_by, write_by}
use Rattle.guest_gen.specs.Counters.{counter_place}
use Rattle.counter_runs.specs.Tries.{AreTries, one_more, none as no_try, stored as try_stored, failed as try_failed}

-- what a try stores is one more than it loaded
same_sum : (index value : ℕ) → one_more value ≡ added_to (counter_place index) value
same_sum index value = omega arith

-- what a thread asked and was replied, as its accesses
pub stores_of : (t : ℕ) (named : List ℕ) (pairs : List Pair) → AreTries named pairs
    → (entries : List Entry) → AreOwn t entries → map pair_of entries ≡ pairs → AreAdditions t counter_place named entries
stores_of t _ _ no_try [] own same = no_turn
stores_of t _ _ no_try (e ∷ entries) own same = absurd (let f : ⊥ = cc in f)
stores_of t _ _ (try_stored index value reply named pairs zero_reply tries) [] own same = absurd (let f : ⊥ = cc in f)
stores_of t _ _ (try_stored index value reply named pairs zero_reply tries) (e ∷ []) own same = absurd (let f : ⊥ = cc in f)
stores_of t _ _ (try_stored index value reply named pairs zero_reply tries) (e ∷ f ∷ entries) own same =
    let first : pair_of e ≡ (ask.LoadEx (counter_place index), value) = cc in
    let second : pair_of f ≡ (ask.StoreEx (counter_place index) (one_more value), reply) = cc in
    let rest : map pair_of entries ≡ pairs = cc in
    let read = read_by t e (counter_place index) value own.0 own.1.0 first in
    let write = write_by t f (counter_place index) (one_more value) reply own.1.1.0 own.1.1.1.0 second zero_reply in
    let sum = ap (λ n. Write t (counter_place index) n true) (sym (same_sum index value)) in
    subst (λ l. AreAdditions t counter_place (index ∷ named) l)
    (ap (λ a. a ∷ Write t (counter_place index) (added_to (counter_place index) value) true ∷ entries) (sym read) ∙ ap (λ b. e ∷ b ∷ entries) (sum ∙ sym write))
    (has_stored index value named entries (stores_of t named pairs tries entries own.1.1.1.1 rest))
stores_of t _ _ (try_failed index value reply named pairs other tries) [] own same = absurd (let f : ⊥ = cc in f)
stores_of t _ _ (try_failed index value reply named pairs other tries) (e ∷ []) own same = absurd (let f : ⊥ = cc in f)
stores_of t _ _ (try_failed index value reply named pairs other tries) (e ∷ f ∷ entries) own same =
    let first : pair_of e ≡ (ask.LoadEx (counter_place index), value) = cc in
    let second : pair_of f ≡ (ask.StoreEx (counter_place index) (one_more value), reply) = cc in
    let rest : map pair_of entries ≡ pairs = cc in
    let read = read_by t e (counter_place index) value own.0 own.1.0 first in
    let fail = fail_by t f (counter_place index) (one_more value) reply own.1.1.0 own.1.1.1.0 second other in
    let sum = ap (λ n. Fail t (counter_place index) n fail.0) (sym (same_sum index value)) in
    subst (λ l. AreAdditions t counter_place (index ∷ named) l)
    (ap (λ a. a ∷ Fail t (counter_place index) (added_to (counter_place index) value) fail.0 ∷ entries) (sym read) ∙ ap (λ b. e ∷ b ∷ entries) (sum ∙ sym fail.1))
    (has_failed index value fail.0 (index ∷ named) entries (stores_of t (index ∷ named) pairs tries entries own.1.1.1.1 rest))
