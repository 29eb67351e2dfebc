-- Accesses in the whole, from what their steps tell.
use Rattle.std.proofs.Common.{◌≡◌, ℕ, ◌*◌, ◌/◌, ◌<◌, Bool, true, false, [], ◌∷◌, ◌++◌, ap, sym, ◌∙◌, subst, append_assoc}
use Rattle.llsc_base.specs.Memory.{row_of}
use Rattle.llsc_base.specs.declared.access.Place.{Place}
use Rattle.row_bytes.specs.Cell.{value_in_cell}
use Rattle.history.specs.declared.entry.Entry.TheVariants.{Read, Write, Watch, Begin, End}
use Rattle.shared_memory.specs.Origin.{Origin}
use Rattle.shared_memory.proofs.Fronts.{front-all, front-more, front-trans}
use Rattle.version_rule.specs.declared.hands.Doing.{Doing}
use Rattle.version_rule.specs.declared.hands.Doing.TheVariants.{Rest, Claimed, Holding, Written, First, Second}
use Rattle.version_rule.specs.declared.hands.Reserve.TheVariants.{Row}
use Rattle.version_rule.specs.declared.hands.Hand.{Hand}
use Rattle.version_rule.specs.Exact.{IsVersion}
use Rattle.version_rule.specs.Hands.{hand, reserve_after}
use Rattle.shared_memory.specs.Told.{Goes}
use Rattle.version_rule.specs.Told.{Decides, Mine}
use Rattle.shared_memory.proofs.Sequences.{goes-then_by}
use Rattle.version_memory.specs.Stands.{IsStamped, HasRoom}
use Rattle.version_memory.specs.inner.Stored.{HasLoaded, HasLoadedEx, HasStored}
use Rattle.version_memory.proofs.After.{front-goes, room-version, stamp-version, stands-decides, stands-within, writes-watch}

module _ (origin : Origin) (p : Place) (a b c d : Mine) where
  -- a write that holds its class, to its end
  pub held : (value version cell : ℕ) (ex : Bool) → Goes origin a [] (hand (Holding p version ex cell) a.0.doing.reserve) b
      → Decides origin b (Write b.0.lead p value ex ∷ []) (IsVersion origin.size p version) (hand (Written p version) b.0.doing.reserve) c
      → Goes origin c (End c.0.lead p ∷ []) (hand Rest c.0.doing.reserve) d
      → Goes origin a (Write a.0.lead p value ex ∷ End a.0.lead p ∷ []) (hand Rest a.0.doing.reserve) d
  held value version cell ex one two three =
      let written = goes-then_by origin a b c [] (hand (Holding p version ex cell) a.0.doing.reserve) (λ (t : ℕ). Write t p value ex ∷ []) (λ (h : Hand). hand (Written p version) h.reserve) one two.goes in
      goes-then_by origin a c d (Write a.0.lead p value ex ∷ []) (hand (Written p version) a.0.doing.reserve) (λ (t : ℕ). End t p ∷ []) (λ (h : Hand). hand Rest h.reserve) written three

  -- and its stamp
  pub held-stamped : (value version cell : ℕ) (ex : Bool) → Goes origin a [] (hand (Holding p version ex cell) a.0.doing.reserve) b
      → Decides origin b (Write b.0.lead p value ex ∷ []) (IsVersion origin.size p version) (hand (Written p version) b.0.doing.reserve) c
      → Goes origin c (End c.0.lead p ∷ []) (hand Rest c.0.doing.reserve) d
      → IsStamped origin.size p (version / 2) (Write a.0.lead p value ex) a.0.seen d.0.seen
  held-stamped value version cell ex one two three =
      stands-within _ (Write a.0.lead p value ex) a.0.seen b.0.seen c.0.seen d.0.seen (front-goes origin a b _ _ one) (front-goes origin c d _ _ three)
      (subst (λ (t : ℕ). IsStamped origin.size p (version / 2) (Write t p value ex) b.0.seen c.0.seen) one.lead
      (stands-decides origin b c (Write b.0.lead p value ex) (IsVersion origin.size p version) _ _ two (stamp-version origin.size p version)))

  -- a store that is done
  pub stored : (value version : ℕ) → version < 2 * origin.size.limit → Goes origin a [] a.0.doing b
      → Decides origin b (Begin b.0.lead p ∷ []) (IsVersion origin.size p version) (hand (Claimed p version false) (reserve_after origin.size p b.0.doing.reserve)) c
      → Goes origin c (Write c.0.lead p value false ∷ End c.0.lead p ∷ []) (hand Rest c.0.doing.reserve) d
      → IsStamped origin.size p (version / 2) (Write c.0.lead p value false) c.0.seen d.0.seen
      → HasStored origin p value (version / 2) a d
  stored value version room one two three stamped =
      let begun = goes-then_by origin a b c [] a.0.doing (λ (t : ℕ). Begin t p ∷ []) (λ (h : Hand). hand (Claimed p version false) (reserve_after origin.size p h.reserve)) one two.goes in
      let less = front-goes origin a b [] a.0.doing one in
      let more = front-goes origin c d _ _ three in
      record {
        goes = goes-then_by origin a c d (Begin a.0.lead p ∷ []) (hand (Claimed p version false) (reserve_after origin.size p a.0.doing.reserve)) (λ (t : ℕ). Write t p value false ∷ End t p ∷ []) (λ (h : Hand). hand Rest h.reserve) begun three;
        room = stands-within _ (Begin a.0.lead p) a.0.seen b.0.seen c.0.seen d.0.seen less more
            (subst (λ (t : ℕ). HasRoom origin.size p (Begin t p) b.0.seen c.0.seen) one.lead (stands-decides origin b c (Begin b.0.lead p) (IsVersion origin.size p version) _ _ two (room-version origin.size p version room)));
        stamped = stands-within _ (Write a.0.lead p value false) a.0.seen c.0.seen d.0.seen d.0.seen (front-trans a.0.seen b.0.seen c.0.seen less (front-goes origin b c _ _ two.goes)) (front-all d.0.seen)
            (subst (λ (t : ℕ). IsStamped origin.size p (version / 2) (Write t p value false) c.0.seen d.0.seen) (two.goes.lead ∙ one.lead) stamped);
      }

  -- a stamped load that is done
  pub found : (version cell : ℕ) → Goes origin a [] (hand (First p version) a.0.doing.reserve) b → Goes origin b [] (hand (Second p version cell) b.0.doing.reserve) c
      → Decides origin c (Read c.0.lead p (value_in_cell cell p) false ∷ []) (IsVersion origin.size p version) (hand Rest c.0.doing.reserve) d
      → HasLoaded origin p cell (version / 2) a d
  found version cell one two three =
      let second = goes-then_by origin a b c [] (hand (First p version) a.0.doing.reserve) (λ (t : ℕ). []) (λ (h : Hand). hand (Second p version cell) h.reserve) one two in
      let less = front-trans a.0.seen b.0.seen c.0.seen (front-goes origin a b _ _ one) (front-goes origin b c _ _ two) in
      record {
        goes = goes-then_by origin a c d [] (hand (Second p version cell) a.0.doing.reserve) (λ (t : ℕ). Read t p (value_in_cell cell p) false ∷ []) (λ (h : Hand). hand Rest h.reserve) second three.goes;
        stamped = stands-within _ (Read a.0.lead p (value_in_cell cell p) false) a.0.seen c.0.seen d.0.seen d.0.seen less (front-all d.0.seen)
            (subst (λ (t : ℕ). IsStamped origin.size p (version / 2) (Read t p (value_in_cell cell p) false) c.0.seen d.0.seen) (two.lead ∙ one.lead)
            (stands-decides origin c d (Read c.0.lead p (value_in_cell cell p) false) (IsVersion origin.size p version) _ _ three (stamp-version origin.size p version)));
      }

  -- one that isn't
  pub found-not : (version cell : ℕ) → a.0.doing.doing ≡ Rest → Goes origin a [] (hand (First p version) a.0.doing.reserve) b
      → Goes origin b [] (hand (Second p version cell) b.0.doing.reserve) c → Goes origin c [] (hand Rest c.0.doing.reserve) d → Goes origin a [] a.0.doing d
  found-not version cell rest one two three =
      let second = goes-then_by origin a b c [] (hand (First p version) a.0.doing.reserve) (λ (t : ℕ). []) (λ (h : Hand). hand (Second p version cell) h.reserve) one two in
      subst (λ (h : Hand). Goes origin a [] h d) (ap (λ (doing : Doing). hand doing a.0.doing.reserve) (sym rest))
      (goes-then_by origin a c d [] (hand (Second p version cell) a.0.doing.reserve) (λ (t : ℕ). []) (λ (h : Hand). hand Rest h.reserve) second three)

  -- a stamped load-exclusive that is done
  pub linked : (version cell : ℕ) → Goes origin a [] (hand (First p version) a.0.doing.reserve) b → Goes origin b [] (hand (Second p version cell) b.0.doing.reserve) c
      → Decides origin c (Watch c.0.lead p ∷ Read c.0.lead p (value_in_cell cell p) true ∷ []) (IsVersion origin.size p version) (hand Rest (Row (row_of origin.size.granule p) version)) d
      → HasLoadedEx origin p cell version a d
  linked version cell one two three =
      let row = row_of origin.size.granule p in
      let second = goes-then_by origin a b c [] (hand (First p version) a.0.doing.reserve) (λ (t : ℕ). []) (λ (h : Hand). hand (Second p version cell) h.reserve) one two in
      let less = front-trans a.0.seen b.0.seen c.0.seen (front-goes origin a b _ _ one) (front-goes origin b c _ _ two) in
      let stands : IsStamped origin.size p (version / 2) (Read c.0.lead p (value_in_cell cell p) true) c.0.seen d.0.seen = record {
        past = three.past ++ Watch c.0.lead p ∷ [];
        later = [];
        are = three.is ∙ sym (append_assoc three.past (Watch c.0.lead p ∷ []) (Read c.0.lead p (value_in_cell cell p) true ∷ []));
        since = front-more c.0.seen three.past (Watch c.0.lead p ∷ []) three.since;
        fact = writes-watch origin.size three.past c.0.lead p row ∙ stamp-version origin.size p version three.past three.fact;
      } in
      record {
        goes = goes-then_by origin a c d [] (hand (Second p version cell) a.0.doing.reserve) (λ (t : ℕ). Watch t p ∷ Read t p (value_in_cell cell p) true ∷ []) (λ (h : Hand). hand Rest (Row row version)) second three.goes;
        stamped = stands-within _ (Read a.0.lead p (value_in_cell cell p) true) a.0.seen c.0.seen d.0.seen d.0.seen less (front-all d.0.seen)
            (subst (λ (t : ℕ). IsStamped origin.size p (version / 2) (Read t p (value_in_cell cell p) true) c.0.seen d.0.seen) (two.lead ∙ one.lead) stands);
      }
