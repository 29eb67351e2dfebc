-- A thread goes on behind a call by which it has started another.
use Rattle.std.proofs.Common.{◌≡◌, ℕ, zero, suc, ◌+◌, ◌*◌, ◌%◌, ◌<◌, ◌≤◌, ◌==◌, Bool, true, Some, List, [], ◌∷◌, ◌++◌, length, map, nat_lt, sum_by, refl, sym, subst, ap, ◌∙◌, arith, append-nil}
use Rattle.std.proofs.lemmas.Bool.{eq-eqb}
use Rattle.std.proofs.lemmas.List.{length-map}
use Rattle.std.proofs.lemmas.List.Sums.{sum_by-append, sum_by-cons}
use Rattle.atomic_table.specs.Seated.{TableId}
use Rattle.llsc_base.specs.Images.{Program}
use Rattle.history.specs.Parts.{accesses_of, entries_of}
use Rattle.history.specs.Started.{MayAct, child_of, starts_of}
use Rattle.history.specs.Starts.{Started, made_by, starts_in}
use Rattle.history.specs.declared.entry.Entry.{Entry}
use Rattle.history.specs.declared.entry.Entry.TheVariants.{Start}
use Rattle.history.proofs.Appends.{accesses_of-append, entries_of-append}
use Rattle.history.proofs.Born.{may-act-later}
use Rattle.history.proofs.Starts.{starts_from-length, starts_in-start}
use Rattle.shared_memory.specs.Origin.{Origin}
use Rattle.shared_memory.specs.Seen.{IsSingle, Sees}
use Rattle.llsc_base.specs.declared.outside.CallAsk.{CallAsk}
use Rattle.a32_step.specs.Machine.{Machine, after_next, a32}
use Rattle.guest_calls.specs.Pairs.{pair_of, pairs_of}
use Rattle.guest_core.specs.Machine.{returned_of}
use Rattle.guest_calls.specs.Run.{Pair, PointOf}
use Rattle.guest_thread.specs.Begun.{stock_of}
use Rattle.guest_thread.specs.Counts.{reads_in, writes_in, fails_in}
use Rattle.guest_thread.specs.StockRun.{Stock, Comes, starts_one, start_answer, start_point, starts_after}
use Rattle.guest_family.specs.inner.Next.{after_answer}
use Rattle.guest_family.specs.inner.UnderWay.{HasCalled, IsPartUnderWay}
use Rattle.guest_thread.specs.declared.pieces.Part.{Part}
use Rattle.a32_instr.specs.declared.instructions.Instr.{Instr}
use Rattle.a32_instr.specs.State.{State}

-- the stock of a first thread that may start others
abbrev own_stock : (first spare t : ℕ) → Stock
own_stock first spare t = record { first = child_of first spare t 0; count = spare }

first_stock : (first spare t : ℕ) → t < first → 0 < spare → stock_of first spare t ≡ Some (own_stock first spare t)
first_stock first zero t below some = absurd (omega (arith, some))
first_stock first (suc spare) t below some = let is : nat_lt t first ≡ true = grind arith in rw is refl

-- the answer, where one is left
given_answer : (stock : Stock) (started : ℕ) (call : CallAsk) → call.a % 4 ≡ 0 → started < stock.count → start_answer stock started call ≡ stock.first + started
given_answer stock started call word less =
    let even : (call.a % 4 == 0) ≡ true = eq-eqb (call.a % 4) 0 word in
    let left : nat_lt started stock.count ≡ true = grind arith in
    rw even (rw left refl)

given_starts : (stock : Stock) (place : ℕ) (starts : List Started) (call : CallAsk) → call.a % 4 ≡ 0 → length starts < stock.count
    → starts_after stock place starts call ≡ starts ++ record { child = stock.first + length starts; entry = call.a; arg = call.b; place = place } ∷ []
given_starts stock place starts call word less =
    let even : (call.a % 4 == 0) ≡ true = eq-eqb (call.a % 4) 0 word in
    let left : nat_lt (length starts) stock.count ≡ true = grind arith in
    rw even (rw left refl)

-- what counts for nothing
one_none : (count : Entry → ℕ) (entries : List Entry) (e : Entry) → count e ≡ 0 → sum_by count (entries ++ e ∷ []) ≡ sum_by count entries
one_none count entries e none = let all = sum_by-append count entries (e ∷ []) in all ∙ (let one : sum_by count (e ∷ []) ≡ count e = omega (arith, sum_by-cons count e []) in omega (arith, one, none))

-- ---- a Start behind what was seen

module _ (t : ℕ) (old new added : List Entry) (child entry arg : ℕ) (longer : new ≡ old ++ added) (mine : entries_of t added ≡ Start t child entry arg ∷ []) where
  own : entries_of t new ≡ entries_of t old ++ Start t child entry arg ∷ []
  own = ap (entries_of t) longer ∙ entries_of-append t old added ∙ ap (λ (es : List Entry). entries_of t old ++ es) mine

  same_accesses : accesses_of (entries_of t new) ≡ accesses_of (entries_of t old)
  same_accesses = ap accesses_of own ∙ accesses_of-append (entries_of t old) (Start t child entry arg ∷ []) ∙ append-nil (accesses_of (entries_of t old))

  pub same_pairs : pairs_of t new ≡ pairs_of t old
  same_pairs = ap (map pair_of) same_accesses

  pub same_made : made_by t new ≡ made_by t old
  same_made = ap length same_accesses

  pub one_start : starts_in t new ≡ starts_in t old ++ record { child = child; entry = entry; arg = arg; place = made_by t old } ∷ []
  one_start = ap (starts_in t) longer ∙ starts_in-start t old added child entry arg mine

module _ {P : Type 0} (home : P → TableId) (numbers : P → ℕ → Bool) (seen : P → List Entry) (mem : TableId) (origin : Origin) (program : Program) (budget t : ℕ)
    (start : Machine) (old : P) (part : Part P Machine) (entry arg : ℕ) (called : HasCalled home numbers seen mem origin program budget t start old part entry arg) where
  pub started_on : (child : ℕ) (new : P) → t < origin.first → entry % 4 ≡ 0 → starts_of t (seen part.pass) < origin.spare
      → child ≡ child_of origin.first origin.spare t (starts_of t (seen part.pass))
      → Sees origin t (seen part.pass) (Start t child entry arg ∷ []) (seen new)
      → home new ≡ home part.pass → numbers new ≡ numbers part.pass
      → IsPartUnderWay home numbers seen mem origin program budget t start (after_answer (record part { pass = new }) child)
  started_on child new below word few is sees same_home same_numbers =
      let all = stock_of origin.first origin.spare t in
      let stock = own_stock origin.first origin.spare t in
      let pairs = pairs_of t (seen part.pass) in
      let starts = starts_in t (seen part.pass) in
      let at : PointOf Instr State = record { machine = called.machine; steps = part.steps; output = part.out } in
      let spare : 0 < origin.spare = omega (arith, few) in
      let count : length starts ≡ starts_of t (seen part.pass) = starts_from-length t 0 (seen part.pass) in
      let less : length starts < stock.count = omega (arith, few, count) in
      let aligned : called.call.a % 4 ≡ 0 = subst (λ (n : ℕ). n % 4 ≡ 0) called.entry_is word in
      let number : stock.first + length starts ≡ child = omega (arith, is, count) in
      let answer : start_answer stock (length starts) called.call ≡ child = given_answer stock (length starts) called.call aligned less ∙ number in
      let made : length pairs ≡ made_by t (seen part.pass) = length-map (accesses_of (entries_of t (seen part.pass))) pair_of in
      let one : starts_after stock (length pairs) starts called.call ≡ starts_in t (seen new) =
      given_starts stock (length pairs) starts called.call aligned less
      ∙ ap (λ (n : ℕ). starts ++ record { child = n; entry = called.call.a; arg = called.call.b; place = length pairs } ∷ []) number
      ∙ ap (λ (n : ℕ). starts ++ record { child = child; entry = n; arg = called.call.b; place = length pairs } ∷ []) (sym called.entry_is)
      ∙ ap (λ (n : ℕ). starts ++ record { child = child; entry = entry; arg = n; place = length pairs } ∷ []) (sym called.arg_is)
      ∙ ap (λ (n : ℕ). starts ++ record { child = child; entry = entry; arg = arg; place = n } ∷ []) made
      ∙ sym (one_start t (seen part.pass) (seen new) sees.added child entry arg sees.longer sees.mine) in
      let behind : Comes a32 all program budget start pairs (starts_after stock (length pairs) starts called.call) (start_point a32 program stock starts called.call at) =
      starts_one pairs starts at called.call stock called.comes (first_stock origin.first origin.spare t below spare) called.within called.called called.starts in
      let machine : returned_of a32 (after_next program called.machine) (start_answer stock (length starts) called.call) ≡ returned_of a32 part.cpu child =
      ap (returned_of a32 (after_next program called.machine)) answer ∙ ap (λ (m : Machine). returned_of a32 m child) (sym called.cpu_is) in
      let within = called.within in
      let mine = own t (seen part.pass) (seen new) sees.added child entry arg sees.longer sees.mine in
      record {
        memory = same_home ∙ called.memory;
        single = subst (IsSingle t) (sym same_numbers) called.single;
        may_act = subst (MayAct origin.first t) (sym sees.longer) (may-act-later origin.first t (seen part.pass) sees.added called.may_act);
        between = refl;
        comes = subst (λ (ps : List Pair). Comes a32 all program budget start ps (starts_in t (seen new)) (record { machine = returned_of a32 part.cpu child; steps = part.steps + 1; output = part.out }))
            (sym (same_pairs t (seen part.pass) (seen new) sees.added child entry arg sees.longer sees.mine))
            (subst (λ (m : Machine). Comes a32 all program budget start pairs (starts_in t (seen new)) (record { machine = m; steps = part.steps + 1; output = part.out })) machine
            (subst (λ (ss : List Started). Comes a32 all program budget start pairs ss (start_point a32 program stock starts called.call at)) one behind));
        counts = record {
          reads = called.counts.reads ∙ sym (ap (λ (es : List Entry). sum_by reads_in es) mine ∙ one_none reads_in (entries_of t (seen part.pass)) (Start t child entry arg) refl);
          writes = called.counts.writes ∙ sym (ap (λ (es : List Entry). sum_by writes_in es) mine ∙ one_none writes_in (entries_of t (seen part.pass)) (Start t child entry arg) refl);
          fails = called.counts.fails ∙ sym (ap (λ (es : List Entry). sum_by fails_in es) mine ∙ one_none fails_in (entries_of t (seen part.pass)) (Start t child entry arg) refl);
        };
        accesses = subst (λ (n : ℕ). n ≤ 16 * (part.steps + 1) + length part.out) (sym (same_made t (seen part.pass) (seen new) sees.added child entry arg sees.longer sees.mine)) called.accesses;
        few = called.few;
        within = omega (arith, within);
      }
