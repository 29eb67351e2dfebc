-- A thread goes on behind a call that starts another, or that is refused.
use Rattle.std.proofs.Common.{◌≡◌, ◌≢◌, inl, inr, ℕ, ◌+◌, ◌%◌, ◌≤◌, ◌==◌, Bool, true, false, Option, Some, None, List, length, nat_lt, refl, sym, subst, ap, ◌∙◌, arith}
use Rattle.std.specs.Option.{is_some}
use Rattle.std.proofs.lemmas.Bool.{cases_Bool, ne_eqb}
use Rattle.atomic_table.specs.Seated.{TableId}
use Rattle.llsc_base.specs.Images.{Program}
use Rattle.history.specs.Starts.{Started, starts_in}
use Rattle.history.specs.declared.entry.Entry.{Entry}
use Rattle.shared_memory.specs.Origin.{Origin}
use Rattle.llsc_base.specs.declared.outside.CallAsk.{CallAsk}
use Rattle.a32_step.specs.Machine.{Machine, after_next, a32}
use Rattle.guest_calls.specs.Pairs.{pairs_of}
use Rattle.guest_core.specs.Machine.{returned_of}
use Rattle.guest_calls.specs.Run.{PointOf}
use Rattle.guest_thread.specs.Begun.{stock_of}
use Rattle.guest_thread.specs.StockRun.{Stock, Comes, starts_one, bad_entry, start_answer, start_point, starts_after}
use Rattle.guest_family.specs.inner.Next.{HasNoneLeft, after_answer, refusal_of}
use Rattle.guest_family.specs.inner.UnderWay.{HasCalled, IsPartUnderWay}
use Rattle.guest_thread.specs.declared.pieces.Part.{Part}
use Rattle.a32_instr.specs.declared.instructions.Instr.{Instr}
use Rattle.a32_instr.specs.State.{State}

pub some_of : {A : Type 0} (option : Option A) → is_some option ≡ true → (x : A) × (option ≡ Some x)
some_of (Some x) is = (x, refl)
some_of None is = absurd (let f : ⊥ = cc in f)

-- ---- answers

bad_answer : (stock : Stock) (started : ℕ) (call : CallAsk) → call.a % 4 ≢ 0 → start_answer stock started call ≡ bad_entry
bad_answer stock started call odd = rw (ne_eqb (call.a % 4) 0 odd) refl

bad_starts : (stock : Stock) (place : ℕ) (starts : List Started) (call : CallAsk) → call.a % 4 ≢ 0 → starts_after stock place starts call ≡ starts
bad_starts stock place starts call odd = rw (ne_eqb (call.a % 4) 0 odd) refl

full : (stock : Stock) (starts : List Started) → stock.count ≤ length starts → nat_lt (length starts) stock.count ≡ false
full stock starts least = grind arith

full_answer : (stock : Stock) (starts : List Started) (call : CallAsk) → stock.count ≤ length starts → start_answer stock (length starts) call ≡ refusal_of call.a
full_answer stock starts call least = rw (full stock starts least) refl

full_starts : (stock : Stock) (place : ℕ) (starts : List Started) (call : CallAsk) → stock.count ≤ length starts → starts_after stock place starts call ≡ starts
full_starts stock place starts call least = elim (cases_Bool (call.a % 4 == 0)) [
  | inl word ↦ rw word (rw (full stock starts least) refl)
  | inr odd ↦ rw odd refl
]

module _ {P : Type 0} (home : P → TableId) (numbers : P → ℕ → Bool) (seen : P → List Entry) (mem : TableId) (origin : Origin) (program : Program) (budget t : ℕ)
    (start : Machine) (old : P) (part : Part P Machine) (entry arg : ℕ) (called : HasCalled home numbers seen mem origin program budget t start old part entry arg) where
  -- where it stands at the call
  abbrev at : PointOf Instr State
  at = record { machine = called.machine; steps = part.steps; output = part.out }

  -- a call that is refused
  refused : (stock : Stock) (value : ℕ) → stock_of origin.first origin.spare t ≡ Some stock
      → start_answer stock (length (starts_in t (seen part.pass))) called.call ≡ value
      → starts_after stock (length (pairs_of t (seen part.pass))) (starts_in t (seen part.pass)) called.call ≡ starts_in t (seen part.pass)
      → IsPartUnderWay home numbers seen mem origin program budget t start (after_answer part value)
  refused stock value is answer same =
      let all = stock_of origin.first origin.spare t in
      let pairs = pairs_of t (seen part.pass) in
      let starts = starts_in t (seen part.pass) in
      let behind : Comes a32 all program budget start pairs (starts_after stock (length pairs) starts called.call) (start_point a32 program stock starts called.call at) =
      starts_one pairs starts at called.call stock called.comes is called.within called.called called.starts in
      let machine : returned_of a32 (after_next program called.machine) (start_answer stock (length starts) called.call) ≡ returned_of a32 part.cpu value =
      ap (returned_of a32 (after_next program called.machine)) answer ∙ ap (λ (m : Machine). returned_of a32 m value) (sym called.cpu_is) in
      let within = called.within in
      record {
        memory = called.memory;
        single = called.single;
        may_act = called.may_act;
        between = refl;
        comes = subst (λ (m : Machine). Comes a32 all program budget start pairs starts (record { machine = m; steps = part.steps + 1; output = part.out })) machine
            (subst (λ (ss : List Started). Comes a32 all program budget start pairs ss (start_point a32 program stock starts called.call at)) same behind);
        counts = called.counts;
        accesses = called.accesses;
        few = called.few;
        within = omega (arith, within);
      }

  -- since its address is none of a word
  pub refused_by_entry : entry % 4 ≢ 0 → IsPartUnderWay home numbers seen mem origin program budget t start (after_answer part bad_entry)
  refused_by_entry odd =
      let stock = some_of (stock_of origin.first origin.spare t) called.stocked in
      let off : called.call.a % 4 ≢ 0 = subst (λ (n : ℕ). n % 4 ≢ 0) called.entry_is odd in
      refused stock.0 bad_entry stock.1 (bad_answer stock.0 (length (starts_in t (seen part.pass))) called.call off)
      (bad_starts stock.0 (length (pairs_of t (seen part.pass))) (starts_in t (seen part.pass)) called.call off)

  -- since the thread has no number left
  pub refused_by_stock : HasNoneLeft (stock_of origin.first origin.spare t) (starts_in t (seen part.pass))
      → IsPartUnderWay home numbers seen mem origin program budget t start (after_answer part (refusal_of entry))
  refused_by_stock none =
      let stock = some_of (stock_of origin.first origin.spare t) called.stocked in
      let least : stock.0.count ≤ length (starts_in t (seen part.pass)) = subst (λ (s : Option Stock). HasNoneLeft s (starts_in t (seen part.pass))) stock.1 none in
      refused stock.0 (refusal_of entry) stock.1 (full_answer stock.0 (starts_in t (seen part.pass)) called.call least ∙ ap refusal_of (sym called.entry_is))
      (full_starts stock.0 (length (pairs_of t (seen part.pass))) (starts_in t (seen part.pass)) called.call least)
