-- Ends in a history that begins a longer one, which has no more entries of their threads.
use Rattle.std.proofs.Common.{◌≡◌, ℕ, Bool, List, [], ◌∷◌, map, sym, subst, ap, ◌∙◌}
use Rattle.std.proofs.lemmas.List.Elements.{All-head, All-tail}
use Rattle.llsc_base.specs.Images.{Program}
use Rattle.history.specs.Parts.{accesses_of, entries_of}
use Rattle.history.specs.Starts.{Started, starts_from, starts_in}
use Rattle.history.specs.declared.entry.Entry.{Entry}
use Rattle.history.proofs.Starts.{starts_from-own}
use Rattle.shared_memory.specs.Origin.{Origin}
use Rattle.shared_memory.specs.Seen.{IsFront, IsOneOf, SaysAllOf}
use Rattle.a32_step.specs.Machine.{Machine, a32}
use Rattle.guest_calls.specs.Pairs.{pair_of, pairs_of}
use Rattle.guest_calls.specs.Run.{Pair}
use Rattle.guest_thread.specs.Begun.{child_start, stock_of}
use Rattle.guest_thread.specs.Counts.{reads_of, writes_of, fails_of}
use Rattle.guest_thread.specs.inner.Crews.{AreTaken}
use Rattle.guest_thread.specs.Start.{thread_start}
use Rattle.guest_thread.specs.StockRun.{IsStockRun}
use Rattle.guest_thread.specs.declared.ends.GuestEnd.{GuestEnd}
use Rattle.guest_thread.proofs.Crewed.{spent_later}
use Rattle.guest_family.specs.inner.EndedStarters.{AreChildren, AreHeads, numbers_of}
use Rattle.guest_family.specs.inner.UnderWay.{IsEndFrom}

pub same_starts : (t : ℕ) (old new : List Entry) → entries_of t new ≡ entries_of t old → starts_in t new ≡ starts_in t old
same_starts t old new same = starts_from-own t 0 new ∙ ap (starts_from t 0) same ∙ sym (starts_from-own t 0 old)

-- one
pub end_later : (program : Program) (origin : Origin) (budget t : ℕ) (start : Machine) (old new : List Entry) (end : GuestEnd) → IsFront old new
    → entries_of t new ≡ entries_of t old → IsEndFrom program origin budget t start old end → IsEndFrom program origin budget t start new end
end_later program origin budget t start old new end front same is =
    let stock = stock_of origin.first origin.spare t in
    let own : entries_of end.thread new ≡ entries_of end.thread old = subst (λ (u : ℕ). entries_of u new ≡ entries_of u old) (sym is.thread) same in
    let pairs : pairs_of end.thread new ≡ pairs_of end.thread old = ap (λ (l : List Entry). map pair_of (accesses_of l)) own in
    record {
      thread = is.thread;
      on = record {
        ends = subst (λ (ps : List Pair). IsStockRun a32 stock program budget start ps (starts_in end.thread new) end.stop end.steps end.out) (sym pairs)
            (subst (λ (ss : List Started). IsStockRun a32 stock program budget start (pairs_of end.thread old) ss end.stop end.steps end.out) (sym (same_starts end.thread old new own)) is.on.ends);
        spent = λ addr stop. spent_later origin.size old new addr front (is.on.spent addr stop);
        counts = record {
          reads = is.on.counts.reads ∙ ap reads_of (sym own);
          writes = is.on.counts.writes ∙ ap writes_of (sym own);
          fails = is.on.counts.fails ∙ ap fails_of (sym own);
        };
      };
      spends = is.spends;
      few = is.few;
    }

-- those of started threads
pub children_later : (program : Program) (origin : Origin) (budget : ℕ) (old new : List Entry) (numbers : ℕ → Bool) (all : List Started) (ends : List GuestEnd)
    → IsFront old new → SaysAllOf numbers old new → AreTaken numbers (numbers_of all) → AreChildren program origin budget old all ends
    → AreChildren program origin budget new all ends
children_later program origin budget old new numbers [] [] front says taken are = tt
children_later program origin budget old new numbers [] (end ∷ ends) front says taken are = absurd are
children_later program origin budget old new numbers (one ∷ all) [] front says taken are = absurd are
children_later program origin budget old new numbers (one ∷ all) (end ∷ ends) front says taken are = (
  end_later program origin budget one.child (child_start a32 origin.size one.child one.entry one.arg) old new end front
      (says one.child (All-head (λ u. IsOneOf u numbers) one.child (numbers_of all) taken)) are.0,
  children_later program origin budget old new numbers all ends front says (All-tail (λ u. IsOneOf u numbers) one.child (numbers_of all) taken) are.1,
)

-- those of first threads
pub heads_later : (program : Program) (origin : Origin) (budget : ℕ) (old new : List Entry) (numbers : ℕ → Bool) (ts : List ℕ) (ends : List GuestEnd)
    → IsFront old new → SaysAllOf numbers old new → AreTaken numbers ts → AreHeads program origin budget old ts ends
    → AreHeads program origin budget new ts ends
heads_later program origin budget old new numbers [] [] front says taken are = tt
heads_later program origin budget old new numbers [] (end ∷ ends) front says taken are = absurd are
heads_later program origin budget old new numbers (t ∷ ts) [] front says taken are = absurd are
heads_later program origin budget old new numbers (t ∷ ts) (end ∷ ends) front says taken are = (
  end_later program origin budget t (thread_start a32 program origin.size origin.first t) old new end front
      (says t (All-head (λ u. IsOneOf u numbers) t ts taken)) are.0,
  heads_later program origin budget old new numbers ts ends front says (All-tail (λ u. IsOneOf u numbers) t ts taken) are.1,
)
