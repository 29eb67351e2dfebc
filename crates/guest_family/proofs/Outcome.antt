-- The ends of all threads that have begun, in order of number.
use Rattle.std.proofs.Common.{◌≡◌, inl, inr, ℕ, zero, suc, ◌+◌, ◌<◌, ◌≤◌, All, Contains, List, [], ◌∷◌, ◌++◌, map, nat_eq, refl, sym, subst, ap, ◌∙◌, arith}
use Rattle.std.specs.List.{flat_map, range_with_len}
use Rattle.std.proofs.lemmas.Bool.{cases_Bool, eqb-true}
use Rattle.std.proofs.lemmas.List.{map-append}
use Rattle.std.proofs.lemmas.List.Elements.{All-append, All-cons, All-head, All-nil, All-tail, Contains-append_left, Contains-append_right}
use Rattle.llsc_base.specs.Images.{Program}
use Rattle.history.specs.Starts.{Started, access_by, started_by, starts_from, starts_in}
use Rattle.history.specs.declared.entry.Entry.{Entry}
use Rattle.history.specs.declared.entry.Entry.TheVariants.{Read, Write, Fail, Clear, Watch, Miss, Begin, End, Start}
use Rattle.shared_memory.specs.Origin.{Origin}
use Rattle.a32_step.specs.Machine.{Machine, a32}
use Rattle.guest_thread.specs.Begun.{BeginsAs, by_itself, by_start, child_start, children_of, stock_of}
use Rattle.guest_thread.specs.BegunOutcome.{AreBegunEnds, IsBegunEnd, IsStockEndOn}
use Rattle.guest_thread.specs.Start.{thread_start}
use Rattle.guest_thread.specs.declared.ends.GuestEnd.{GuestEnd}
use Rattle.guest_family.specs.inner.EndedStarters.{AreChildren, AreHeads, numbers_of, started_by_all}
use Rattle.guest_family.specs.inner.UnderWay.{IsEndFrom}

-- ---- what a thread has started stands in the history

abbrev Stands : (t : ℕ) → List Entry → Started → Type 0
Stands t history started = Contains history (Start t started.child started.entry started.arg)

all_of : (t : ℕ) (front whole : List Entry) (all : List Started) → All (Stands t front) all → ((e : Entry) → Contains front e → Contains whole e) → All (Stands t whole) all
all_of t front whole [] stand wider = All-nil (Stands t whole)
all_of t front whole (one ∷ all) stand wider =
    All-cons (Stands t whole) one all (wider (Start t one.child one.entry one.arg) (All-head (Stands t front) one all stand))
    (all_of t front whole all (All-tail (Stands t front) one all stand) wider)

by_entry : (t count : ℕ) (e : Entry) → All (Stands t (e ∷ [])) (started_by t count e)
by_entry t count (Start thread child entry arg) = elim (cases_Bool (nat_eq thread t)) [
  | inl own ↦
      let same : thread ≡ t = eqb-true thread t own in
      rw own (All-cons (Stands t (Start thread child entry arg ∷ [])) (record { child = child; entry = entry; arg = arg; place = count }) [] (0, omega arith, ap (λ (u : ℕ). Start u child entry arg) same) (All-nil (Stands t (Start thread child entry arg ∷ []))))
  | inr other ↦ rw other (All-nil (Stands t (Start thread child entry arg ∷ [])))
]
by_entry t count (Read thread place value ex) = All-nil (Stands t (Read thread place value ex ∷ []))
by_entry t count (Write thread place value ex) = All-nil (Stands t (Write thread place value ex ∷ []))
by_entry t count (Fail thread place value cause) = All-nil (Stands t (Fail thread place value cause ∷ []))
by_entry t count (Clear thread) = All-nil (Stands t (Clear thread ∷ []))
by_entry t count (Watch thread place) = All-nil (Stands t (Watch thread place ∷ []))
by_entry t count (Miss thread place) = All-nil (Stands t (Miss thread place ∷ []))
by_entry t count (Begin thread place) = All-nil (Stands t (Begin thread place ∷ []))
by_entry t count (End thread place) = All-nil (Stands t (End thread place ∷ []))

starts_stand : (t count : ℕ) (history : List Entry) → All (Stands t history) (starts_from t count history)
starts_stand t count [] = All-nil (Stands t [])
starts_stand t count (e ∷ es) =
    All-append (Stands t (e ∷ es)) (started_by t count e) (starts_from t (count + access_by t e) es)
    (all_of t (e ∷ []) (e ∷ es) (started_by t count e) (by_entry t count e) (λ x has. Contains-append_left (e ∷ []) es x has))
    (all_of t es (e ∷ es) (starts_from t (count + access_by t e) es) (starts_stand t (count + access_by t e) es) (λ x has. Contains-append_right (e ∷ []) es x has))

module _ (program : Program) (origin : Origin) (budget : ℕ) (history : List Entry) where
  abbrev Begun : GuestEnd → Type 0
  Begun = IsBegunEnd a32 program origin.size origin.first origin.spare budget history

  begun_by : (t : ℕ) (start : Machine) (end : GuestEnd) → IsEndFrom program origin budget t start history end → BeginsAs a32 program origin.size origin.first history t start → Begun end
  begun_by t start end is begins = record {
    start = start;
    begins = subst (λ (u : ℕ). BeginsAs a32 program origin.size origin.first history u start) (sym is.thread) begins;
    ends = subst (λ (u : ℕ). IsStockEndOn a32 (stock_of origin.first origin.spare u) program origin.size budget start history end) (sym is.thread) is.on;
  }

  -- ---- those of started threads

  children_begun : (t : ℕ) (all : List Started) (ends : List GuestEnd) → All (Stands t history) all → AreChildren program origin budget history all ends → All Begun ends
  children_begun t [] [] stand are = All-nil Begun
  children_begun t [] (end ∷ ends) stand are = absurd are
  children_begun t (one ∷ all) [] stand are = absurd are
  children_begun t (one ∷ all) (end ∷ ends) stand are =
      All-cons Begun end ends
      (begun_by one.child (child_start a32 origin.size one.child one.entry one.arg) end are.0 (by_start t one.entry one.arg (All-head (Stands t history) one all stand)))
      (children_begun t all ends (All-tail (Stands t history) one all stand) are.1)

  record IsParted (all more : List Started) (ends : List GuestEnd) : Type 0 where
    front : List GuestEnd
    back : List GuestEnd
    are : ends ≡ front ++ back
    first : AreChildren program origin budget history all front
    others : AreChildren program origin budget history more back

  parted : (all more : List Started) (ends : List GuestEnd) → AreChildren program origin budget history (all ++ more) ends → IsParted all more ends
  parted [] more ends are = record { front = []; back = ends; are = refl; first = tt; others = are }
  parted (one ∷ all) more [] are = absurd are
  parted (one ∷ all) more (end ∷ ends) are =
      let rest = parted all more ends are.1 in
      record { front = end ∷ rest.front; back = rest.back; are = ap (λ (es : List GuestEnd). end ∷ es) rest.are; first = (are.0, rest.first); others = rest.others }

  all_begun : (ts : List ℕ) (ends : List GuestEnd) → AreChildren program origin budget history (started_by_all ts history) ends → All Begun ends
  all_begun [] [] are = All-nil Begun
  all_begun [] (end ∷ ends) are = absurd are
  all_begun (t ∷ ts) ends are =
      let parts = parted (starts_in t history) (started_by_all ts history) ends are in
      subst (All Begun) (sym parts.are) (All-append Begun parts.front parts.back (children_begun t (starts_in t history) parts.front (starts_stand t 0 history) parts.first) (all_begun ts parts.back parts.others))

  children_threads : (all : List Started) (ends : List GuestEnd) → AreChildren program origin budget history all ends → map (λ end. end.thread) ends ≡ numbers_of all
  children_threads [] [] are = refl
  children_threads [] (end ∷ ends) are = absurd are
  children_threads (one ∷ all) [] are = absurd are
  children_threads (one ∷ all) (end ∷ ends) are =
      ap (λ (t : ℕ). t ∷ map (λ e. e.thread) ends) are.0.thread ∙ ap (λ (ts : List ℕ). one.child ∷ ts) (children_threads all ends are.1)

  numbers_parted : (ts : List ℕ) → numbers_of (started_by_all ts history) ≡ flat_map (λ t. children_of t history) ts
  numbers_parted [] = refl
  numbers_parted (t ∷ ts) =
      map-append (λ (s : Started). s.child) (starts_in t history) (started_by_all ts history) ∙ ap (λ (ns : List ℕ). children_of t history ++ ns) (numbers_parted ts)

  -- ---- those of the first

  heads_begun : (n count : ℕ) (ends : List GuestEnd) → n + count ≤ origin.first → AreHeads program origin budget history (range_with_len n count) ends → All Begun ends
  heads_begun n zero [] within are = All-nil Begun
  heads_begun n zero (end ∷ ends) within are = absurd are
  heads_begun n (suc count) [] within are = absurd are
  heads_begun n (suc count) (end ∷ ends) within are =
      let less : n < origin.first = omega (arith, within) in
      let more : n + 1 + count ≤ origin.first = omega (arith, within) in
      All-cons Begun end ends (begun_by n (thread_start a32 program origin.size origin.first n) end are.0 (by_itself less)) (heads_begun (n + 1) count ends more are.1)

  heads_threads : (ts : List ℕ) (ends : List GuestEnd) → AreHeads program origin budget history ts ends → map (λ end. end.thread) ends ≡ ts
  heads_threads [] [] are = refl
  heads_threads [] (end ∷ ends) are = absurd are
  heads_threads (t ∷ ts) [] are = absurd are
  heads_threads (t ∷ ts) (end ∷ ends) are =
      ap (λ (u : ℕ). u ∷ map (λ e. e.thread) ends) are.0.thread ∙ ap (λ (us : List ℕ). t ∷ us) (heads_threads ts ends are.1)

  -- all of them
  pub are_begun : (ts : List ℕ) (heads children : List GuestEnd) → ts ≡ range_with_len 0 origin.first
      → AreHeads program origin budget history ts heads → AreChildren program origin budget history (started_by_all ts history) children
      → AreBegunEnds a32 program origin.size origin.first origin.spare budget history (heads ++ children)
  are_begun ts heads children is are also =
      let first = subst (λ (us : List ℕ). AreHeads program origin budget history us heads) is are in
      record {
        threads = map-append (λ (end : GuestEnd). end.thread) heads children
            ∙ ap (λ (us : List ℕ). us ++ map (λ end. end.thread) children) (heads_threads ts heads are ∙ is)
            ∙ ap (λ (us : List ℕ). range_with_len 0 origin.first ++ us) (children_threads (started_by_all ts history) children also ∙ numbers_parted ts
            ∙ ap (λ (us : List ℕ). flat_map (λ t. children_of t history) us) is);
        each = All-append Begun heads children (heads_begun 0 origin.first heads (omega arith) first) (all_begun ts children also);
      }

  -- what holds of each end
  pub all_hold : (holds : GuestEnd → Type 0) (ts : List ℕ) (heads children : List GuestEnd)
      → ((t : ℕ) (start : Machine) (end : GuestEnd) → IsEndFrom program origin budget t start history end → holds end)
      → AreHeads program origin budget history ts heads → AreChildren program origin budget history (started_by_all ts history) children → All holds (heads ++ children)
  all_hold holds ts heads children each are also = All-append holds heads children (of_heads ts heads are) (of_children (started_by_all ts history) children also)
    where
      of_heads : (ts : List ℕ) (ends : List GuestEnd) → AreHeads program origin budget history ts ends → All holds ends
      of_heads [] [] are = All-nil holds
      of_heads [] (end ∷ ends) are = absurd are
      of_heads (t ∷ ts) [] are = absurd are
      of_heads (t ∷ ts) (end ∷ ends) are = All-cons holds end ends (each t (thread_start a32 program origin.size origin.first t) end are.0) (of_heads ts ends are.1)

      of_children : (all : List Started) (ends : List GuestEnd) → AreChildren program origin budget history all ends → All holds ends
      of_children [] [] are = All-nil holds
      of_children [] (end ∷ ends) are = absurd are
      of_children (one ∷ all) [] are = absurd are
      of_children (one ∷ all) (end ∷ ends) are =
          All-cons holds end ends (each one.child (child_start a32 origin.size one.child one.entry one.arg) end are.0) (of_children all ends are.1)
