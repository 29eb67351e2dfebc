-- One step after another.
use Rattle.std.proofs.Common.{ℕ, Bool, List, ◌++◌, ap, sym, ◌∙◌, subst, append_assoc}
use Rattle.history.specs.Parts.{entries_of}
use Rattle.history.specs.declared.entry.Entry.{Entry}
use Rattle.history.proofs.Appends.{entries_of-append}
use Rattle.shared_memory.specs.Origin.{Origin}
use Rattle.shared_memory.specs.Passes.{marked}
use Rattle.shared_memory.specs.Seen.{IsSingle, Sees}
use Rattle.shared_memory.specs.Told.{Goes, SeatOf}

pub sees-then : (origin : Origin) (t : ℕ) (one two three : List Entry) (es fs : List Entry) → Sees origin t one es two → Sees origin t two fs three → Sees origin t one (es ++ fs) three
sees-then origin t one two three es fs a b = record {
  added = a.added ++ b.added;
  longer = b.longer ∙ ap (λ (l : List Entry). l ++ b.added) a.longer ∙ append_assoc one a.added b.added;
  mine = entries_of-append t a.added b.added ∙ ap (λ (l : List Entry). l ++ entries_of t b.added) a.mine ∙ ap (λ (l : List Entry). es ++ l) b.mine;
  legal = b.legal;
}

module _ {D : Type 0} where
  -- a seat that has one number has it still
  pub single-goes : (origin : Origin) (old new : SeatOf D) (es : List Entry) (h : D) → IsSingle old.0.lead (marked old.0.numbers) → Goes origin old es h new → IsSingle new.0.lead (marked new.0.numbers)
  single-goes origin old new es h single goes =
      subst (λ (t : ℕ). IsSingle t (marked new.0.numbers)) (sym goes.lead) (subst (λ (ns : List Bool). IsSingle old.0.lead (marked ns)) (sym goes.numbers) single)

  pub goes-then : (origin : Origin) (a b c : SeatOf D) (es fs : List Entry) (g h : D) → Goes origin a es g b → Goes origin b fs h c → Goes origin a (es ++ fs) h c
  goes-then origin a b c es fs g h one two = record {
    sees = sees-then origin a.0.lead a.0.seen b.0.seen c.0.seen es fs one.sees (subst (λ (t : ℕ). Sees origin t b.0.seen fs c.0.seen) one.lead two.sees);
    numbers = two.numbers ∙ one.numbers;
    lead = two.lead ∙ one.lead;
    left = two.left;
    right = two.right;
    doing_is = two.doing_is;
    slots = two.slots ∙ one.slots;
  }

  -- the same, where what comes then is said of the seat between
  pub goes-then_by : (origin : Origin) (a b c : SeatOf D) (es : List Entry) (g : D) (fs : ℕ → List Entry) (h : D → D) → Goes origin a es g b
      → Goes origin b (fs b.0.lead) (h b.0.doing) c → Goes origin a (es ++ fs a.0.lead) (h g) c
  goes-then_by origin a b c es g fs h one two = goes-then origin a b c es (fs a.0.lead) g (h g) one
      (subst (λ (d : D). Goes origin b (fs a.0.lead) (h d) c) one.doing_is (subst (λ (t : ℕ). Goes origin b (fs t) (h b.0.doing) c) one.lead two))
