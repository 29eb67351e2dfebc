-- A store-exclusive succeeds exactly where its thread was undisturbed before the entry that decided it.
use Rattle.std.proofs.Common.{◌≡◌, ℕ, true, false, List, [], ◌∷◌, ◌++◌, refl, ap, sym, ◌∙◌, subst, append_assoc}
use Rattle.llsc_base.specs.declared.access.Place.{Place}
use Rattle.history.specs.declared.entry.Cause.TheVariants.{Lost}
use Rattle.history.specs.declared.entry.Entry.{Entry}
use Rattle.history.specs.declared.entry.Entry.TheVariants.{Write, Fail, Begin, End}
use Rattle.shared_memory.specs.Origin.{Origin}
use Rattle.shared_memory.proofs.Fronts.{front-trans}
use Rattle.hst_memory.specs.declared.hands.Doing.TheVariants.{Rest, Alone, AloneBegun, AloneWritten, Done}
use Rattle.hst_memory.specs.declared.hands.Reserve.TheVariants.{Nothing}
use Rattle.hst_memory.specs.declared.hands.Hand.{Hand}
use Rattle.hst_memory.specs.Exact.{IsExact, IsUndisturbed}
use Rattle.hst_memory.specs.inner.Hands.{hand}
use Rattle.shared_memory.specs.Told.{Goes}
use Rattle.hst_memory.specs.Told.{Mine}
use Rattle.hst_memory.specs.inner.Told.{HasLost, HasWon}
use Rattle.shared_memory.proofs.Sequences.{goes-then_by}

seen-more : (past : List Entry) (entry : Entry) (seen new added : List Entry) → seen ≡ past ++ entry ∷ [] → new ≡ seen ++ added → new ≡ past ++ (entry ∷ added)
seen-more past entry seen new added is longer = longer ∙ ap (λ (l : List Entry). l ++ added) is ∙ append_assoc past (entry ∷ []) added

module _ (origin : Origin) (place : Place) (value : ℕ) (a b c d : Mine) where
  -- it has succeeded
  pub exact-won : (h h' : Hand) (es : List Entry) → Goes origin a [] h b → HasWon origin place b c → Goes origin c es h' d
      → IsExact origin.size a.0.lead place value true a.0.seen d.0.seen
  exact-won h h' es one won two = record {
    past = won.past;
    entry = Begin a.0.lead place;
    later = two.sees.added;
    are = seen-more won.past (Begin a.0.lead place) c.0.seen d.0.seen two.sees.added (won.is ∙ ap (λ (t : ℕ). won.past ++ Begin t place ∷ []) one.lead) two.sees.longer;
    since = front-trans a.0.seen b.0.seen won.past (one.sees.added, one.sees.longer) won.since;
    decides = refl;
    succeeds = λ _. refl;
    succeeded = λ _. subst (λ (t : ℕ). IsUndisturbed origin.size t place won.past) one.lead won.exact;
  }

  -- it has failed
  pub exact-lost : (h h' : Hand) (es : List Entry) → Goes origin a [] h b → HasLost origin place value b c → Goes origin c es h' d
      → IsExact origin.size a.0.lead place value false a.0.seen d.0.seen
  exact-lost h h' es one lost two = record {
    past = lost.past;
    entry = Fail a.0.lead place value Lost;
    later = two.sees.added;
    are = seen-more lost.past (Fail a.0.lead place value Lost) c.0.seen d.0.seen two.sees.added (lost.is ∙ ap (λ (t : ℕ). lost.past ++ Fail t place value Lost ∷ []) one.lead) two.sees.longer;
    since = front-trans a.0.seen b.0.seen lost.past (one.sees.added, one.sees.longer) lost.since;
    decides = (Lost, refl);
    succeeds = λ undisturbed. absurd (lost.exact (subst (λ (t : ℕ). IsUndisturbed origin.size t place lost.past) (sym one.lead) undisturbed));
    succeeded = λ h. let f : ⊥ = cc in absurd f;
  }

-- the whole of one that has succeeded
pub goes-won : (origin : Origin) (place : Place) (value : ℕ) (a b c d e : Mine) (h : Hand) → Goes origin a [] h b → HasWon origin place b c
    → Goes origin c (Write c.0.lead place value true ∷ []) (hand (AloneWritten place) Nothing) d → Goes origin d (End d.0.lead place ∷ []) (hand Rest Nothing) e
    → Goes origin a (Begin a.0.lead place ∷ Write a.0.lead place value true ∷ End a.0.lead place ∷ []) (hand Rest Nothing) e
goes-won origin place value a b c d e h enter won write leave =
    let begun : Goes origin a (Begin a.0.lead place ∷ []) (hand (AloneBegun place) Nothing) c =
    goes-then_by origin a b c [] h (λ (t : ℕ). Begin t place ∷ []) (λ (g : Hand). hand (AloneBegun place) Nothing) enter won.goes in
    let written : Goes origin a (Begin a.0.lead place ∷ Write a.0.lead place value true ∷ []) (hand (AloneWritten place) Nothing) d =
    goes-then_by origin a c d (Begin a.0.lead place ∷ []) (hand (AloneBegun place) Nothing) (λ (t : ℕ). Write t place value true ∷ []) (λ (g : Hand). hand (AloneWritten place) Nothing) begun write in
    goes-then_by origin a d e (Begin a.0.lead place ∷ Write a.0.lead place value true ∷ []) (hand (AloneWritten place) Nothing) (λ (t : ℕ). End t place ∷ []) (λ (g : Hand). hand Rest Nothing) written leave

-- and of one that has failed
pub goes-lost : (origin : Origin) (place : Place) (value : ℕ) (a b c d : Mine) → Goes origin a [] (hand Alone a.0.doing.reserve) b → HasLost origin place value b c
    → Goes origin c [] (hand Rest c.0.doing.reserve) d → Goes origin a (Fail a.0.lead place value Lost ∷ []) (hand Rest Nothing) d
goes-lost origin place value a b c d enter lost leave =
    let failed : Goes origin a (Fail a.0.lead place value Lost ∷ []) (hand Done Nothing) c =
    goes-then_by origin a b c [] (hand Alone a.0.doing.reserve) (λ (t : ℕ). Fail t place value Lost ∷ []) (λ (g : Hand). hand Done Nothing) enter lost.goes in
    goes-then_by origin a c d (Fail a.0.lead place value Lost ∷ []) (hand Done Nothing) (λ (t : ℕ). []) (λ (g : Hand). hand Rest g.reserve) failed leave
