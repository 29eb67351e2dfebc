-- Accesses in the whole, from what their steps tell.
use Rattle.std.proofs.Common.{ℕ, true, false, [], ◌∷◌}
use Rattle.llsc_base.specs.Memory.{row_of}
use Rattle.llsc_base.specs.declared.access.Place.{Place}
use Rattle.history.specs.declared.entry.Entry.TheVariants.{Read, Write, Watch, Begin, End}
use Rattle.shared_memory.specs.Origin.{Origin}
use Rattle.shared_memory.specs.Told.{Goes}
use Rattle.shared_memory.proofs.Sequences.{goes-then_by}
use Rattle.hst_memory.specs.declared.hands.Doing.TheVariants.{Rest, Inside, Begun, Written, Alone, Watching, Done}
use Rattle.hst_memory.specs.declared.hands.Reserve.TheVariants.{Row}
use Rattle.hst_memory.specs.declared.hands.Hand.{Hand}
use Rattle.hst_memory.specs.inner.Hands.{hand, reserve_after}
use Rattle.hst_memory.specs.Told.{Mine}

module _ (origin : Origin) (p : Place) (a b c d e : Mine) where
  -- a store
  pub stored : (value : ℕ) → Goes origin a [] (hand (Inside p) a.0.doing.reserve) b
      → Goes origin b (Begin b.0.lead p ∷ []) (hand (Begun p) (reserve_after origin.size p b.0.doing.reserve)) c
      → Goes origin c (Write c.0.lead p value false ∷ []) (hand (Written p) c.0.doing.reserve) d
      → Goes origin d (End d.0.lead p ∷ []) (hand Rest d.0.doing.reserve) e
      → Goes origin a (Begin a.0.lead p ∷ Write a.0.lead p value false ∷ End a.0.lead p ∷ []) (hand Rest (reserve_after origin.size p a.0.doing.reserve)) e
  stored value one two three four =
      let reserve = reserve_after origin.size p a.0.doing.reserve in
      let begun = goes-then_by origin a b c [] (hand (Inside p) a.0.doing.reserve) (λ (t : ℕ). Begin t p ∷ []) (λ (h : Hand). hand (Begun p) (reserve_after origin.size p h.reserve)) one two in
      let written = goes-then_by origin a c d (Begin a.0.lead p ∷ []) (hand (Begun p) reserve) (λ (t : ℕ). Write t p value false ∷ []) (λ (h : Hand). hand (Written p) h.reserve) begun three in
      goes-then_by origin a d e (Begin a.0.lead p ∷ Write a.0.lead p value false ∷ []) (hand (Written p) reserve) (λ (t : ℕ). End t p ∷ []) (λ (h : Hand). hand Rest h.reserve) written four

  -- a load-exclusive
  pub linked : (value : ℕ) → Goes origin a [] (hand Alone a.0.doing.reserve) b
      → Goes origin b (Watch b.0.lead p ∷ []) (hand (Watching p) (Row (row_of origin.size.granule p))) c
      → Goes origin c (Read c.0.lead p value true ∷ []) (hand Done c.0.doing.reserve) d
      → Goes origin d [] (hand Rest d.0.doing.reserve) e
      → Goes origin a (Watch a.0.lead p ∷ Read a.0.lead p value true ∷ []) (hand Rest (Row (row_of origin.size.granule p))) e
  linked value one two three four =
      let row = Row (row_of origin.size.granule p) in
      let watched = goes-then_by origin a b c [] (hand Alone a.0.doing.reserve) (λ (t : ℕ). Watch t p ∷ []) (λ (h : Hand). hand (Watching p) row) one two in
      let read = goes-then_by origin a c d (Watch a.0.lead p ∷ []) (hand (Watching p) row) (λ (t : ℕ). Read t p value true ∷ []) (λ (h : Hand). hand Done h.reserve) watched three in
      goes-then_by origin a d e (Watch a.0.lead p ∷ Read a.0.lead p value true ∷ []) (hand Done row) (λ (t : ℕ). []) (λ (h : Hand). hand Rest h.reserve) read four
