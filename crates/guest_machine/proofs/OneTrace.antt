-- Turns are one: from where the threads are, a turn leads to one place at most.
use Rattle.std.proofs.Common.{◌≡◌, ℕ, zero, suc, ◌<◌, ◌≤◌, List, [], ◌∷◌, ◌++◌, length, Option, Some, None, refl, sym, ◌∙◌, ap, subst, inl, inr, arith}
use Rattle.std.specs.List.{range_with_len}
use Rattle.std.proofs.lemmas.List.{length-append}
use Rattle.std.proofs.lemmas.Bool.{cases_lt}
use Rattle.llsc_base.specs.Images.{Program}
use Rattle.llsc_base.specs.Sizes.{Numbers}
use Rattle.history.specs.declared.entry.Access.{Access}
use Rattle.llsc_base.specs.declared.outside.Ask.{Ask}
use Rattle.llsc_base.specs.declared.outside.Stop.{Stop}
use Rattle.guest_calls.specs.Run.{Ends, Asks}
use Rattle.guest_calls.proofs.Asked.{one_ask, asks_or_ends}
use Rattle.guest_calls.specs.Pairs.{pairs_in}
use Rattle.guest_thread.specs.Start.{thread_start}
use Rattle.run_record.specs.Limits.{most_accesses}
use Rattle.guest_machine.specs.Turns.{drawn, turn_of, without, Takes, begins, makes, stops, IsTrace, IsTooLong}
use Rattle.guest_thread.specs.Accesses.{access_by, monitor_of}
use Rattle.guest_core.specs.Machine.{InstructionSet}

module _ {I S : Type 0} (set : InstructionSet I S) where
  -- where the threads are: the last number, the threads that have not stopped, and the accesses so far
  pub record Spot : Type 0 where
    pub number : ℕ
    pub live : List ℕ
    pub accesses : List Access

  -- at the start
  abbrev first : Numbers → ℕ → Spot
  first size seed = record { number = seed; live = range_with_len 0 size.threads; accesses = [] }

  -- after an access of a thread
  abbrev made : Program → Numbers → Spot → ℕ → Ask → Spot
  made program size spot t ask = record {
    number = drawn spot.number;
    live = spot.live;
    accesses = spot.accesses ++ access_by (monitor_of program size spot.accesses) t ask ∷ [];
  }

  -- after a thread has stopped
  abbrev stopped : Spot → ℕ → Spot
  stopped spot t = record { number = drawn spot.number; live = without t spot.live; accesses = spot.accesses }

  -- one turn
  data Goes (program : Program) (size : Numbers) (budget : ℕ) : Spot → Spot → Type 0 where
    access : (spot : Spot) (t : ℕ) (ask : Ask)
        → turn_of (drawn spot.number) spot.live ≡ Some t
        → Asks set program budget (thread_start set program size size.threads t) (pairs_in t spot.accesses) ask
        → Goes program size budget spot (made program size spot t ask)
    stop : (spot : Spot) (t : ℕ) (end : Stop) (steps : ℕ) (output : List ℕ)
        → turn_of (drawn spot.number) spot.live ≡ Some t
        → Ends set program budget (thread_start set program size size.threads t) (pairs_in t spot.accesses) end steps output
        → Goes program size budget spot (stopped spot t)

  -- so many turns
  data After (program : Program) (size : Numbers) (seed budget : ℕ) : ℕ → Spot → Type 0 where
    none : After program size seed budget zero (first size seed)
    more : (count : ℕ) (spot next : Spot) → After program size seed budget count spot → Goes program size budget spot next
        → After program size seed budget (suc count) next

  -- ---- one turn leads to one place

  some_same : (t other : ℕ) (turn : Option ℕ) → turn ≡ Some t → turn ≡ Some other → t ≡ other
  some_same t other turn one two = let h : Some t ≡ Some other = sym one ∙ two in cc

  one_next : (program : Program) (size : Numbers) (budget : ℕ) (spot next other : Spot)
      → Goes program size budget spot next → Goes program size budget spot other → next ≡ other
  one_next program size budget _ _ _ (access spot t ask turn asks) (access _ u wish turn' asks') =
      let same : t ≡ u = some_same t u (turn_of (drawn spot.number) spot.live) turn turn' in
      let wishes : Asks set program budget (thread_start set program size size.threads t) (pairs_in t spot.accesses) wish =
      subst (λ n. Asks set program budget (thread_start set program size size.threads n) (pairs_in n spot.accesses) wish) (sym same) asks' in
      ap (λ n. made program size spot n ask) same
      ∙ ap (made program size spot u) (one_ask set program budget (thread_start set program size size.threads t) (pairs_in t spot.accesses) ask wish asks wishes)
  one_next program size budget _ _ _ (access spot t ask turn asks) (stop _ u end steps output turn' ends) =
      let same : t ≡ u = some_same t u (turn_of (drawn spot.number) spot.live) turn turn' in
      absurd (asks_or_ends set program budget (thread_start set program size size.threads t) (pairs_in t spot.accesses) ask end steps output asks
      (subst (λ n. Ends set program budget (thread_start set program size size.threads n) (pairs_in n spot.accesses) end steps output) (sym same) ends))
  one_next program size budget _ _ _ (stop spot t end steps output turn ends) (access _ u wish turn' asks') =
      let same : t ≡ u = some_same t u (turn_of (drawn spot.number) spot.live) turn turn' in
      absurd (asks_or_ends set program budget (thread_start set program size size.threads t) (pairs_in t spot.accesses) wish end steps output
      (subst (λ n. Asks set program budget (thread_start set program size size.threads n) (pairs_in n spot.accesses) wish) (sym same) asks') ends)
  one_next program size budget _ _ _ (stop spot t end steps output turn ends) (stop _ u end' steps' output' turn' ends') =
      ap (stopped spot) (some_same t u (turn_of (drawn spot.number) spot.live) turn turn')

  -- so many turns lead to one place
  one_spot : (program : Program) (size : Numbers) (seed budget count : ℕ) (spot other : Spot)
      → After program size seed budget count spot → After program size seed budget count other → spot ≡ other
  one_spot program size seed budget _ _ _ none none = refl
  one_spot program size seed budget _ _ _ (more count spot next came goes) (more _ spot' next' came' goes') =
      let same : spot ≡ spot' = one_spot program size seed budget count spot spot' came came' in
      one_next program size budget spot next next' goes
      (subst (λ s. Goes program size budget s next') (sym same) goes')

  -- ---- turns of turns

  -- what has been reached is so many turns
  after : (program : Program) (size : Numbers) (seed budget x : ℕ) (live : List ℕ) (accesses : List Access)
      → Takes set program size seed budget x live accesses
      → (count : ℕ) × After program size seed budget count (record { number = x; live = live; accesses = accesses })
  after program size seed budget _ _ _ begins = (zero, none)
  after program size seed budget _ _ _ (makes x live accesses t ask takes turn asks) =
      let was = after program size seed budget x live accesses takes in
      (suc was.0, more was.0 _ _ was.1 (access (record { number = x; live = live; accesses = accesses }) t ask turn asks))
  after program size seed budget _ _ _ (stops x live accesses t end steps output takes turn ends) =
      let was = after program size seed budget x live accesses takes in
      (suc was.0, more was.0 _ _ was.1 (stop (record { number = x; live = live; accesses = accesses }) t end steps output turn ends))

  -- a turn takes no access back
  grows : (program : Program) (size : Numbers) (budget : ℕ) (spot next : Spot) → Goes program size budget spot next → length spot.accesses ≤ length next.accesses
  grows program size budget _ _ (access spot t ask turn asks) =
      omega (arith, length-append spot.accesses (access_by (monitor_of program size spot.accesses) t ask ∷ []))
  grows program size budget _ _ (stop spot t end steps output turn ends) = omega arith

  -- so many of its turns lead to a place, from which a turn goes on
  record Passes (program : Program) (size : Numbers) (seed budget count : ℕ) (last : Spot) : Type 0 where
    spot : Spot
    next : Spot
    came : After program size seed budget count spot
    goes : Goes program size budget spot next
    fewer : length spot.accesses ≤ length last.accesses

  -- turns pass through each number of turns before theirs
  passes : (program : Program) (size : Numbers) (seed budget few many : ℕ) (last : Spot) → few < many
      → After program size seed budget many last → Passes program size seed budget few last
  passes program size seed budget few _ _ less none = absurd (let f : ⊥ = omega (arith, less) in f)
  passes program size seed budget few _ _ less (more count spot next came goes) = elim (cases_lt few count) [
    | inl below ↦
        let was = passes program size seed budget few count spot below came in
        let more_of : length was.spot.accesses ≤ length next.accesses = omega (arith, was.fewer, grows program size budget spot next goes) in
        record { spot = was.spot; next = was.next; came = was.came; goes = was.goes; fewer = more_of }
    | inr past ↦ record {
      spot = spot;
      next = next;
      came = (let same : count ≡ few = omega (arith, less, past) in subst (λ n. After program size seed budget n spot) same came);
      goes = goes;
      fewer = grows program size budget spot next goes;
    }
  ]

  -- where all threads have stopped, no turn goes on
  over : (program : Program) (size : Numbers) (budget : ℕ) (spot next : Spot) → spot.live ≡ [] → Goes program size budget spot next → ⊥
  over program size budget _ _ none_live (access spot t ask turn asks) =
      let h : None ≡ Some t = ap (λ live. turn_of (drawn spot.number) live) (sym none_live) ∙ turn in cc
  over program size budget _ _ none_live (stop spot t end steps output turn ends) =
      let h : None ≡ Some t = ap (λ live. turn_of (drawn spot.number) live) (sym none_live) ∙ turn in cc

  -- ---- where a trace ends

  -- where all threads have stopped after some turns, no more turns are made
  no_further : (program : Program) (size : Numbers) (seed budget count many : ℕ) (spot last : Spot)
      → spot.live ≡ [] → After program size seed budget count spot → After program size seed budget many last → many ≤ count
  no_further program size seed budget count many spot last over_all came came' = elim (cases_lt count many) [
    | inl less ↦
        let was = passes program size seed budget count many last less came' in
        let same : spot ≡ was.spot = one_spot program size seed budget count spot was.spot came was.came in
        absurd (over program size budget was.spot was.next (ap (λ s. s.live) (sym same) ∙ over_all) was.goes)
    | inr most ↦ most
  ]

  -- no turns have more accesses than those after which all threads have stopped
  most_are : (program : Program) (size : Numbers) (seed budget count many : ℕ) (spot last : Spot)
      → spot.live ≡ [] → After program size seed budget count spot → After program size seed budget many last
      → length last.accesses ≤ length spot.accesses
  most_are program size seed budget count many spot last over_all came came' = elim (cases_lt many count) [
    | inl less ↦
        let was = passes program size seed budget many count spot less came in
        let same : last ≡ was.spot = one_spot program size seed budget many last was.spot came' was.came in
        subst (λ s. length s.accesses ≤ length spot.accesses) (sym same) was.fewer
    | inr most ↦
        let few : many ≤ count = no_further program size seed budget count many spot last over_all came came' in
        let numbers_same : many ≡ count = omega (arith, most, few) in
        let same : last ≡ spot = one_spot program size seed budget count last spot (subst (λ n. After program size seed budget n last) numbers_same came') came in
        subst (λ s. length s.accesses ≤ length spot.accesses) (sym same) (omega arith)
  ]

  -- there is one trace at most
  pub one_trace : (program : Program) (size : Numbers) (seed budget : ℕ) (accesses others : List Access)
      → IsTrace set program size seed budget accesses → IsTrace set program size seed budget others → accesses ≡ others
  one_trace program size seed budget accesses others trace trace' =
      let one = after program size seed budget trace.0 [] accesses trace.1 in
      let two = after program size seed budget trace'.0 [] others trace'.1 in
      let fewer : two.0 ≤ one.0 = no_further program size seed budget one.0 two.0 _ _ refl one.1 two.1 in
      let more_of : one.0 ≤ two.0 = no_further program size seed budget two.0 one.0 _ _ refl two.1 one.1 in
      let same : two.0 ≡ one.0 = omega (arith, fewer, more_of) in
      ap (λ s. s.accesses) (one_spot program size seed budget one.0 _ _ one.1
      (subst (λ n. After program size seed budget n (record { number = trace'.0; live = []; accesses = others })) same two.1))

  -- a trace that is not too long is the only answer
  pub not_too_long : (program : Program) (size : Numbers) (seed budget : ℕ) (accesses : List Access)
      → IsTrace set program size seed budget accesses → length accesses ≤ most_accesses → IsTooLong set program size seed budget → ⊥
  not_too_long program size seed budget accesses trace few long =
      let one = after program size seed budget trace.0 [] accesses trace.1 in
      let two = after program size seed budget long.0 long.1 long.2 long.3.0 in
      let most : length long.2 ≤ length accesses = most_are program size seed budget one.0 two.0 _ _ refl one.1 two.1 in
      omega (arith, few, most, long.3.1)
