-- A seat that waits: it has seen more, and nothing of its own has come.
use Rattle.std.proofs.Common.{◌≡◌, ℕ, List, [], ◌++◌, refl, ap, sym, ◌∙◌, subst, append-nil, append_assoc}
use Rattle.history.specs.Parts.{entries_of}
use Rattle.history.specs.declared.entry.Entry.{Entry}
use Rattle.history.proofs.Appends.{entries_of-append}
use Rattle.shared_memory.specs.Origin.{Origin}
use Rattle.shared_memory.specs.Seen.{Sees}
use Rattle.shared_memory.specs.Told.{Goes, SeatOf}

module _ {D : Type 0} where
  -- more was seen, with no entry of the seat's thread, and all else is as before
  pub record Waits (old new : SeatOf D) : Type 0 where
    pub added : List Entry
    pub longer : new.0.seen ≡ old.0.seen ++ added
    pub none : entries_of old.0.lead added ≡ []
    pub numbers : new.0.numbers ≡ old.0.numbers
    pub lead : new.0.lead ≡ old.0.lead
    pub doing_is : new.0.doing ≡ old.0.doing
    pub slots : new.1 ≡ old.1

  pub waits-not : (me : SeatOf D) → Waits me me
  waits-not me = record { added = []; longer = sym (append-nil me.0.seen); none = refl; numbers = refl; lead = refl; doing_is = refl; slots = refl }

  more : (origin : Origin) (old : SeatOf D) (added : List Entry) (lead : ℕ) (seen : List Entry) (es new : List Entry) → seen ≡ old.0.seen ++ added → lead ≡ old.0.lead
      → entries_of old.0.lead added ≡ [] → Sees origin lead seen es new → Sees origin old.0.lead old.0.seen es new
  more origin old added lead seen es new longer same none sees = record {
    added = added ++ sees.added;
    longer = sees.longer ∙ ap (λ (l : List Entry). l ++ sees.added) longer ∙ append_assoc old.0.seen added sees.added;
    mine = entries_of-append old.0.lead added sees.added ∙ ap (λ (l : List Entry). l ++ entries_of old.0.lead sees.added) none ∙ ap (λ (t : ℕ). entries_of t sees.added) (sym same) ∙ sees.mine;
    legal = sees.legal;
  }

  -- it waits, and then goes on
  pub waits-goes : (origin : Origin) (a b c : SeatOf D) (es : List Entry) (h : D) → Waits a b → Goes origin b es h c → Goes origin a es h c
  waits-goes origin a b c es h waits goes = record {
    sees = more origin a waits.added b.0.lead b.0.seen es c.0.seen waits.longer waits.lead waits.none goes.sees;
    numbers = goes.numbers ∙ waits.numbers;
    lead = goes.lead ∙ waits.lead;
    left = goes.left;
    right = goes.right;
    doing_is = goes.doing_is;
    slots = goes.slots ∙ waits.slots;
  }

  pub waits-more : (origin : Origin) (a b c : SeatOf D) → Waits a b → Goes origin b [] b.0.doing c → Waits a c
  waits-more origin a b c waits goes =
      let sees = more origin a waits.added b.0.lead b.0.seen [] c.0.seen waits.longer waits.lead waits.none goes.sees in
      record {
        added = sees.added;
        longer = sees.longer;
        none = sees.mine;
        numbers = goes.numbers ∙ waits.numbers;
        lead = goes.lead ∙ waits.lead;
        doing_is = goes.doing_is ∙ waits.doing_is;
        slots = goes.slots ∙ waits.slots;
      }

  -- the same, where what comes is said of the seat as it waits
  pub waits-goes_by : (origin : Origin) (a b c : SeatOf D) (es : ℕ → List Entry) (h : D → D) → Waits a b
      → Goes origin b (es b.0.lead) (h b.0.doing) c → Goes origin a (es a.0.lead) (h a.0.doing) c
  waits-goes_by origin a b c es h waits goes = waits-goes origin a b c (es a.0.lead) (h a.0.doing) waits
      (subst (λ (d : D). Goes origin b (es a.0.lead) (h d) c) waits.doing_is (subst (λ (t : ℕ). Goes origin b (es t) (h b.0.doing) c) waits.lead goes))
