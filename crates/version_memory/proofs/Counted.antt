-- How many threads the thread of a pass has started, as the pass goes on.
use Rattle.std.proofs.Common.{◌≡◌, ◌≢◌, ◌+◌, ◌%◌, ◌&&◌, ◌==◌, not, ℕ, Bool, true, false, Option, Some, None, IfSome, List, [], refl, ap, sym, ◌∙◌, subst, inl, inr, arith}
use Rattle.std.proofs.lemmas.Bool.{cases_eq}
use Rattle.llsc_base.specs.Memory.{row_of}
use Rattle.llsc_base.specs.declared.access.Place.{Place}
use Rattle.row_bytes.specs.Cell.{value_in_cell}
use Rattle.history.specs.Operation.{entries_of_operation, load_missed, load_watched}
use Rattle.history.specs.Parts.{entries_of}
use Rattle.history.specs.Started.{starts_of}
use Rattle.history.specs.declared.entry.Entry.{Entry}
use Rattle.shared_memory.specs.Origin.{Origin}
use Rattle.shared_memory.specs.declared.views.View.{View}
use Rattle.shared_memory.specs.Passes.{first_view, marked}
use Rattle.shared_memory.specs.inner.Passes.{alone_mark, joined_view, merged, without_mark}
use Rattle.shared_memory.specs.Seen.{IsOneOf, IsSingle}
use Rattle.shared_memory.specs.Told.{Goes, Settles}
use Rattle.shared_memory.proofs.Joined.{merged-left}
use Rattle.shared_memory.proofs.Marks.{marked-taken, single-one}
use Rattle.version_rule.specs.declared.hands.Doing.TheVariants.{Rest}
use Rattle.version_rule.specs.declared.hands.Reserve.TheVariants.{Nothing, Row}
use Rattle.version_rule.specs.declared.hands.Hand.{Hand}
use Rattle.version_rule.specs.Hands.{hand}
use Rattle.version_rule.specs.inner.Hands.{reserve_joined}
use Rattle.version_rule.specs.Told.{Mine}
use Rattle.version_rule.proofs.Started.{starts_of-entries, starts_of-more}
use Rattle.version_memory.specs.declared.passes.Reserved.{Reserved}
use Rattle.version_memory.specs.Passes.{HasStarted, IsBetween}
use Rattle.version_memory.specs.inner.Stored.{HasFailed, HasStored, HasStoredEx}
use Rattle.version_memory.proofs.Betweens.{lead-held}

-- the pass of a memory that is made
pub counted-first : (threads : ℕ) → HasStarted (first_view threads (hand Rest Nothing), []) 0
counted-first threads = record { counts = λ t single. refl }

-- where none of the numbers has an entry, none has started any
fresh-none : (me : Mine) → ((u : ℕ) → IsOneOf u (marked me.0.numbers) → entries_of u me.0.seen ≡ []) → (u : ℕ) → IsOneOf u (marked me.0.numbers) → starts_of u me.0.seen ≡ 0
fresh-none me fresh u has = starts_of-entries u me.0.seen [] (fresh u has)

and-left : (a b : Bool) → (a && b) ≡ true → a ≡ true
and-left true b both = refl
and-left false b both = both

-- what is left of a pass that has given a number away, and the pass that has it
pub counted-left : (me : Mine) (t lead : ℕ) → ((u : ℕ) → IsOneOf u (marked me.0.numbers) → entries_of u me.0.seen ≡ [])
    → HasStarted (without_mark t lead (hand Rest Nothing) me.0, me.1) 0
counted-left me t lead fresh = record {
  counts = λ u single. fresh-none me fresh u (and-left (marked me.0.numbers u) (not (u == t)) (sym (marked-taken me.0.numbers t u) ∙ single.has));
}

pub counted-given : (me : Mine) (t : ℕ) → IsOneOf t (marked me.0.numbers) → ((u : ℕ) → IsOneOf u (marked me.0.numbers) → entries_of u me.0.seen ≡ [])
    → HasStarted (alone_mark t (hand Rest Nothing) me.0, []) 0
counted-given me t has fresh = record {
  counts = λ u single. fresh-none me fresh u (subst (λ (w : ℕ). IsOneOf w (marked me.0.numbers)) (sym ((single-one t).only u single.has)) has);
}

-- a pass whose seat has added entries of its thread
pub counted-goes : (origin : Origin) (me new : Mine) (has : List Bool) (number : ℕ) (reserved : Option Reserved) (started after : ℕ) (es : List Entry) (h : Hand)
    → IsBetween me has number reserved → HasStarted me started → Goes origin me es h new → started + starts_of me.0.lead es ≡ after → HasStarted new after
counted-goes origin me new has number reserved started after es h b counted goes more = record {
  counts = λ t single.
      let before : IsSingle t (marked me.0.numbers) = subst (λ (ns : List Bool). IsSingle t (marked ns)) goes.numbers single in
      let lead : me.0.lead ≡ t = before.only me.0.lead (lead-held me has number reserved b) in
      ap (λ (u : ℕ). starts_of u new.0.seen) (sym lead)
      ∙ ap (starts_of me.0.lead) goes.sees.longer ∙ starts_of-more me.0.lead me.0.seen goes.sees.added es goes.sees.mine
      ∙ ap (λ (n : ℕ). n + starts_of me.0.lead es) (ap (λ (u : ℕ). starts_of u me.0.seen) lead ∙ counted.counts t before) ∙ more;
}

-- a pass that has taken in another: where they had one number, it was the same
pub counted-joined : (me other new : Mine) (has : List Bool) (number : ℕ) (reserved : Option Reserved) (started : ℕ) → IsBetween me has number reserved → HasStarted me started
    → Settles (joined_view (hand Rest (reserve_joined me.0 other.0)) me.0 other.0, me.1) new → HasStarted new started
counted-joined me other new has number reserved started b counted both = record {
  counts = λ t single.
      let view = both.settled.view in
      let joint : IsSingle t (marked (merged me.0.numbers other.0.numbers)) =
      subst (λ (ns : List Bool). IsSingle t (marked ns)) (ap (λ (v : View Hand). v.numbers) view) single in
      let held = lead-held me has number reserved b in
      let lead : me.0.lead ≡ t = joint.only me.0.lead (merged-left me.0.numbers other.0.numbers me.0.lead held) in
      let before : IsSingle t (marked me.0.numbers) = record {
        has = subst (λ (u : ℕ). IsOneOf u (marked me.0.numbers)) lead held;
        only = λ u one. joint.only u (merged-left me.0.numbers other.0.numbers u one);
      } in
      ap (λ (v : View Hand). starts_of t v.seen) view
      ∙ starts_of-entries t (joined_view (hand Rest (reserve_joined me.0 other.0)) me.0 other.0).seen me.0.seen ((both.settled.left refl).1 t before.has)
      ∙ counted.counts t before;
}

-- after accesses, which start no thread
module _ (origin : Origin) (p : Place) (me new : Mine) (has : List Bool) (number : ℕ) (reserved : Option Reserved) (started : ℕ) (b : IsBetween me has number reserved) (counted : HasStarted me started) where
  pub counted-stored : (value : ℕ) (result : Option ℕ) → IfSome result (λ stamp. HasStored origin p value stamp me new) → (result ≡ None → Goes origin me [] me.0.doing new) → HasStarted new started
  counted-stored value (Some stamp) done refused = counted-goes origin me new has number reserved started started _ _ b counted done.goes (omega arith)
  counted-stored value None done refused = counted-goes origin me new has number reserved started started _ _ b counted (refused refl) (omega arith)

  pub counted-failed : (value : ℕ) → HasFailed origin p value me new → HasStarted new started
  counted-failed value failed = counted-goes origin me new has number reserved started started _ _ b counted failed.goes (omega arith)

  pub counted-stored_ex : (value : ℕ) (result : Option ℕ) → IfSome result (λ stamp. HasStoredEx origin p value stamp me new) → (result ≡ None → HasFailed origin p value me new) → HasStarted new started
  counted-stored_ex value (Some stamp) done failed = counted-goes origin me new has number reserved started started _ _ b counted done.goes (omega arith)
  counted-stored_ex value None done failed = counted-failed value (failed refl)

  pub counted-linked : (cell tag : ℕ) → (tag % 2 ≡ 0 → Goes origin me (entries_of_operation me.0.lead (load_watched p (value_in_cell cell p))) (hand Rest (Row (row_of origin.size.granule p) tag)) new)
      → (tag % 2 ≢ 0 → Goes origin me (entries_of_operation me.0.lead (load_missed p (value_in_cell cell p))) (hand Rest Nothing) new) → HasStarted new started
  counted-linked cell tag watched missed = elim (cases_eq (tag % 2) 0) [
    | inl even ↦ counted-goes origin me new has number reserved started started _ _ b counted (watched even) (omega arith)
    | inr odd ↦ counted-goes origin me new has number reserved started started _ _ b counted (missed odd) (omega arith)
  ]
