-- What a piece of a thread's run comes to, on a memory that threads share.
use Rattle.std.proofs.Common.{◌≡◌, ◌⊎◌, inl, inr, ℕ, ◌+◌, ◌<◌, ◌≤◌, Bool, true, List, ◌++◌, length, refl, sym, ap, subst, ⊎_elim, ◌∙◌, length-append, arith}
use Rattle.std.proofs.lemmas.Bool.{cases_lt}
use Rattle.std.proofs.lemmas.List.{length-map}
use Rattle.atomic_table.specs.Seated.{TableId}
use Rattle.llsc_base.specs.Images.{Program}
use Rattle.history.specs.Parts.{accesses_of, entries_of}
use Rattle.history.specs.Started.{MayAct}
use Rattle.history.specs.Starts.{made_by, starts_in}
use Rattle.history.specs.declared.entry.Entry.{Entry}
use Rattle.history.proofs.Born.{may-act-later}
use Rattle.shared_memory.specs.Origin.{Origin}
use Rattle.shared_memory.specs.Seen.{IsFront, IsSingle}
use Rattle.llsc_base.specs.declared.outside.CallAsk.{CallAsk}
use Rattle.llsc_base.specs.declared.outside.Stop.{Stop}
use Rattle.llsc_base.specs.declared.outside.Stop.TheVariants as stop
use Rattle.guest_core.specs.Machine.{MachineOf, between, wanted_of, IsCalling, InstructionSet}
use Rattle.guest_core.specs.inner.Sound.{AsksPass, AsksHaveRoom, StopsAreOwn}
use Rattle.guest_core.specs.Phase.{PhaseOf, Calling}
use Rattle.guest_core.specs.Ports.{Leads}
use Rattle.guest_calls.specs.Calls.{most_output}
use Rattle.guest_calls.specs.Pairs.{pair_of, pairs_of}
use Rattle.guest_calls.specs.Run.{Pair, by_itself, PointOf}
use Rattle.guest_thread.specs.Counting.{accesses_counted}
use Rattle.guest_thread.specs.Outcome.{IsSpent}
use Rattle.guest_thread.specs.Pieces.{ByAnswer, CountFew, HasMadeFew, IsPiece, StandsAt, counts_after, counts_by, pass_of}
use Rattle.guest_thread.specs.inner.Pieces.{ended_at, point_of}
use Rattle.guest_thread.specs.Ports.{EndsByFrom}
use Rattle.guest_thread.specs.inner.Ports.{RestsWithin, RestsBy}
use Rattle.guest_thread.specs.Progress.{headway_of}
use Rattle.guest_thread.specs.inner.Sharing.{HaveGrown, SharingState, RepliesSharing, RefusesAt}
use Rattle.guest_thread.specs.ThreadState.{ThreadOf, ThreadStateOf, thread_in}
use Rattle.guest_thread.specs.inner.ThreadState.{StopsWithin}
use Rattle.guest_thread.specs.inner.Under.{ComesToEvent}
use Rattle.guest_thread.specs.declared.counts.Counts.{Counts}
use Rattle.guest_thread.specs.declared.guests.Event.TheVariants as event
use Rattle.guest_thread.specs.declared.pieces.Part.{Part}
use Rattle.guest_thread.specs.declared.pieces.Paused.{Paused}
use Rattle.guest_thread.specs.declared.pieces.Paused.TheVariants.{Ended, Start, Pause}
use Rattle.guest_thread.specs.declared.ports.Rest.{Rest}
use Rattle.guest_thread.specs.declared.ports.Rest.TheVariants as rest
use Rattle.guest_thread.specs.declared.running.Finished.{Finished}
use Rattle.guest_thread.proofs.Calling.{calling_in}
use Rattle.guest_thread.proofs.Counted.{grown_by_added}
use Rattle.guest_thread.proofs.Going.{answer_later, calls_within, ended_by_within, ended_on_since, ends_by_within, few_by_answer, left_since, reaches_within, refused_at, spent_between, steps_since, used_up}
use Rattle.guest_thread.proofs.Reached.{spent_ends}
use Rattle.guest_thread.proofs.Shared.{HasShared, after_all}

module _ {I S : Type 0} (set : InstructionSet I S) where
  -- a thread that has called awaits the answer
  pub calling_of : (stocked : Bool) (program : Program) (budget : ℕ) (point : PointOf I S) (pairs : List Pair) (standing : ThreadOf I S)
      → (comes : ComesToEvent set stocked program budget point pairs event.Starts standing) → standing.cpu.phase ≡ Calling comes.0
  calling_of stocked program budget point pairs standing comes =
      calling_in set program comes.1.machine standing.cpu comes.0 (ap wanted_of (sym comes.1.called)) comes.1.cpu_is

  same_call : (one other : CallAsk) → ◌≡◌ {A = PhaseOf I} (Calling one) (Calling other) → one ≡ other
  same_call one other same = cc

  -- a thread that has made all of its steps has stopped by the exit call
  last_by : (upto steps : ℕ) (why : Stop) → StopsWithin upto why steps → steps ≡ upto → (why ≡ stop.Budget) ⊎ ((code : ℕ) × (why ≡ stop.Exit code))
  last_by upto steps why (inl less) same = absurd (omega (arith, less, same))
  last_by upto steps why (inr exit) same = inr exit

  module _ {C : Type 0} (of_core : C → MachineOf I S) {P : Type 0} (home : P → TableId) (numbers : P → ℕ → Bool) (seen : P → List Entry) (mem : TableId) (origin : Origin) (program : Program)
      (starts : Bool) (upto budget t : ℕ) (part : Part P C) where
    -- the thread's part in memory where it goes on
    abbrev pub sharing_at : SharingState
    sharing_at = record { memory = mem; origin = origin; thread = t; seen = seen part.pass; counts = counts_by part }

    -- it has gone on by these accesses, as its pass has seen
    pub record HasGone (pass : P) (last : SharingState) (pairs : List Pair) : Type 0 where
      pub shared : HasShared sharing_at pairs last
      pub memory : home pass ≡ mem
      pub single : IsSingle t (numbers pass)
      pub seen_is : seen pass ≡ last.seen

    pub gone_by : (pass : P) (first last : SharingState) (pairs : List Pair) (counts : Counts)
        → first ≡ record { memory = mem; origin = origin; thread = t; seen = seen part.pass; counts = counts } → counts ≡ counts_by part
        → Leads RepliesSharing first pairs last → home pass ≡ last.memory → IsSingle last.thread (numbers pass) → seen pass ≡ last.seen → HasGone pass last pairs
    gone_by pass first last pairs counts is same leads memory single seen_is =
        let begin : first ≡ sharing_at = is ∙ ap (λ (n : Counts). record { memory = mem; origin = origin; thread = t; seen = seen part.pass; counts = n }) same in
        let shared : HasShared sharing_at pairs last = after_all sharing_at pairs last (subst (λ s. Leads RepliesSharing s pairs last) begin leads) in
        record {
          shared = shared;
          memory = memory ∙ shared.goes_on.memory;
          single = subst (λ n. IsSingle n (numbers pass)) shared.goes_on.thread single;
          seen_is = seen_is;
        }

    module _ (last : SharingState) (pairs : List Pair) (may_act : MayAct origin.first t (seen part.pass)) (rests : of_core part.cpu ≡ between (of_core part.cpu).state)
        (short : length part.out ≤ most_output) (least : upto ≤ budget)
        (passes : AsksPass set) (own : StopsAreOwn set) (room : AsksHaveRoom set) where
      piece_of : (answer : Paused P C) → HasGone (pass_of answer) last pairs → counts_after answer ≡ last.counts
          → ByAnswer set of_core starts program budget (point_of set of_core part) pairs answer → StandsAt set of_core origin (seen (pass_of answer)) starts upto budget t part.steps answer
          → IsPiece set of_core home numbers seen mem origin program starts upto budget t part answer
      piece_of answer gone counts comes stands =
          let old : List Entry = seen part.pass in
          let new : List Entry = seen (pass_of answer) in
          let front : IsFront old new = subst (IsFront old) (sym gone.seen_is) gone.shared.goes_on.front in
          let added : pairs_of t new ≡ pairs_of t old ++ pairs = ap (pairs_of t) gone.seen_is ∙ gone.shared.pairs_are in
          let grown : HaveGrown t old new (counts_by part) (counts_after answer) =
          subst (λ s. HaveGrown t old s (counts_by part) (counts_after answer)) (sym gone.seen_is) (subst (HaveGrown t old last.seen (counts_by part)) (sym counts) gone.shared.counts) in
          let made : made_by t new ≡ made_by t old + length pairs =
          sym (length-map (accesses_of (entries_of t new)) pair_of) ∙ ap (λ (l : List Pair). length l) added ∙ length-append (pairs_of t old) pairs
          ∙ ap (λ n. n + length pairs) (length-map (accesses_of (entries_of t old)) pair_of) in
          record {
            memory = gone.memory;
            single = gone.single;
            front = front;
            may_act = subst (MayAct origin.first t) (sym front.1) (may-act-later origin.first t old front.0 may_act);
            unstarted = ap (starts_in t) gone.seen_is ∙ gone.shared.unstarted;
            counts = grown_by_added t old new front.0 (counts_by part) (counts_after answer) front.1 grown;
            pairs = pairs;
            added = added;
            comes = λ from before reached. answer_later set of_core starts program budget from before (point_of set of_core part) pairs answer reached comes;
            accesses = λ few. subst (λ n. HasMadeFew n answer) (sym made)
                (few_by_answer set of_core room starts program budget (point_of set of_core part) rests short (made_by t old) few origin new upto t pairs answer comes stands);
            stands = stands;
          }

      module _ (guest : ThreadStateOf C) (pass : P) (counts : Counts) (gone : HasGone pass last pairs) (same : counts ≡ last.counts) where
        abbrev pub part_at : Part P C
        part_at = record { cpu = guest.cpu; pass = pass; out = guest.output; steps = guest.steps; reads = counts.reads; writes = counts.writes; fails = counts.fails }

        abbrev pub done_at : Stop → Finished P
        done_at why = record {
          pass = pass;
          end = record { thread = t; stop = why; steps = guest.steps; reads = counts.reads; writes = counts.writes; fails = counts.fails; out = guest.output };
        }

        -- with all steps made, it pauses
        pub paused : upto < budget → accesses_counted last.counts ≤ headway_of (thread_in of_core guest) → ComesToEvent set starts program upto (point_of set of_core part) pairs event.Spent (thread_in of_core guest)
            → IsPiece set of_core home numbers seen mem origin program starts upto budget t part (Pause part_at)
        paused less counted comes =
            let here : of_core guest.cpu ≡ between (of_core guest.cpu).state = spent_between set passes own starts program upto (point_of set of_core part) rests pairs (of_core guest.cpu) guest.steps guest.output comes.0 comes.1 in
            let none : length (of_core guest.cpu).replies ≡ 0 = ap (λ (m : MachineOf I S). length m.replies) here in
            piece_of (Pause part_at) gone same
            (reaches_within set starts program upto budget (point_of set of_core part) least pairs (of_core guest.cpu) guest.steps guest.output comes.0)
            (record {
              between = here;
              steps = comes.1;
              within = less;
              few = subst (λ n. CountFew n guest.steps guest.output) (sym same) (omega (arith, counted, none));
            })

        -- or its budget is spent
        pub spent_at : upto ≡ budget → ComesToEvent set starts program upto (point_of set of_core part) pairs event.Spent (thread_in of_core guest)
            → IsPiece set of_core home numbers seen mem origin program starts upto budget t part (Ended (done_at stop.Budget))
        spent_at all comes =
            let ends = spent_ends set starts program upto (point_of set of_core part) pairs (thread_in of_core guest) comes in
            let spent = comes.1 in
            piece_of (Ended (done_at stop.Budget)) gone same
            (subst (λ n. ByAnswer set of_core starts program n (point_of set of_core part) pairs (Ended (done_at stop.Budget))) all (by_itself pairs stop.Budget guest.steps guest.output ends))
            (record {
              thread = refl;
              least = steps_since set starts program upto (point_of set of_core part) pairs (of_core guest.cpu) guest.steps guest.output comes.0;
              most = omega (arith, spent);
              last = λ _. inl refl;
              left = λ code is. absurd (let f : ⊥ = cc in f);
              used = λ _. spent ∙ all;
              spends = λ addr is. absurd (let f : ⊥ = cc in f);
              spent = λ addr is. absurd (let f : ⊥ = cc in f);
            })

        -- it has stopped
        pub stopped_at : (why : Stop) → StopsWithin upto why guest.steps → EndsByFrom set starts (RefusesAt last) program upto (point_of set of_core part) pairs why guest.steps guest.output
            → IsPiece set of_core home numbers seen mem origin program starts upto budget t part (Ended (done_at why))
        stopped_at why early ends =
            let refused : (addr : ℕ) → why ≡ stop.TagLimit addr → RefusesAt last addr =
            λ addr is. refused_at set passes own starts program upto (point_of set of_core part) rests (RefusesAt last) pairs why guest.steps guest.output addr ends is in
            let on = ends_by_within set starts program upto budget (point_of set of_core part) least (RefusesAt last) pairs why guest.steps guest.output early ends in
            piece_of (Ended (done_at why)) gone same on
            (record {
              thread = refl;
              least = ended_on_since set starts program budget (point_of set of_core part) pairs why guest.steps guest.output on;
              most = ended_by_within set starts program upto (point_of set of_core part) (RefusesAt last) pairs why guest.steps guest.output ends;
              last = last_by upto guest.steps why early;
              left = λ code is. left_since set passes own starts program budget (point_of set of_core part) rests pairs why guest.steps guest.output code on is;
              used = λ is. used_up set passes own starts program budget (point_of set of_core part) rests pairs why guest.steps guest.output on is;
              spends = λ addr is. ap (λ (o : Origin). o.spends) (sym gone.shared.goes_on.origin) ∙ (refused addr is).0;
              spent = λ addr is. subst (λ s. IsSpent origin.size s addr) (sym gone.seen_is)
                  (subst (λ (o : Origin). IsSpent o.size last.seen addr) gone.shared.goes_on.origin (refused addr is).1);
            })

        -- it calls for a thread to be started
        pub called_at : (call : CallAsk) → (of_core guest.cpu).phase ≡ Calling call → starts ≡ true → accesses_counted last.counts ≤ headway_of (thread_in of_core guest)
            → length (of_core guest.cpu).replies ≤ 16 → ComesToEvent set starts program upto (point_of set of_core part) pairs event.Starts (thread_in of_core guest)
            → IsPiece set of_core home numbers seen mem origin program starts upto budget t part (Start part_at (set.call_of call).a (set.call_of call).b)
        called_at call phase asked counted replies comes =
            let calls = comes.1 in
            let is : call ≡ comes.0 = same_call call comes.0 (sym phase ∙ calling_of starts program upto (point_of set of_core part) pairs (thread_in of_core guest) comes) in
            piece_of (Start part_at (set.call_of call).a (set.call_of call).b) gone same (
              comes.0,
              calls_within set starts program upto budget (point_of set of_core part) least pairs comes.0 (of_core guest.cpu) guest.steps guest.output calls,
              ap (λ (c : CallAsk). (set.call_of c).a) is,
              ap (λ (c : CallAsk). (set.call_of c).b) is,
            )
            (record {
              asked = asked;
              calling = subst IsCalling (sym phase) tt;
              least = steps_since set starts program upto (point_of set of_core part) pairs calls.machine guest.steps guest.output calls.reached;
              within = calls.within;
              few = subst (λ n. CountFew n (guest.steps + 1) guest.output) (sym same) (omega (arith, counted, replies));
            })

        -- wherever it has come to rest
        pub rested_at : (how : Rest) (stood : Part P C) (answer : Paused P C) → stood ≡ part_at
            → ((why : Stop) → how ≡ rest.Stopped why → answer ≡ Ended (ended_at t why stood))
            → (how ≡ rest.Starts → (call : CallAsk) × ((of_core stood.cpu).phase ≡ Calling call) × (answer ≡ Start stood (set.call_of call).a (set.call_of call).b))
            → (how ≡ rest.Spent → upto < budget → answer ≡ Pause stood) → (how ≡ rest.Spent → budget ≤ upto → answer ≡ Ended (ended_at t stop.Budget stood))
            → (how ≡ rest.Starts → starts ≡ true) → RestsWithin upto how (thread_in of_core guest) → accesses_counted last.counts ≤ headway_of (thread_in of_core guest)
            → length (of_core guest.cpu).replies ≤ 16 → RestsBy set starts (RefusesAt last) program upto (point_of set of_core part) pairs how (thread_in of_core guest)
            → IsPiece set of_core home numbers seen mem origin program starts upto budget t part answer
        rested_at (rest.Stopped why) stood answer is stops calls pauses spends asked within counted replies comes =
            subst (λ a. IsPiece set of_core home numbers seen mem origin program starts upto budget t part a)
            (sym (stops why refl ∙ ap (λ (p : Part P C). Ended (ended_at t why p)) is)) (stopped_at why within comes)
        rested_at rest.Starts stood answer is stops calls pauses spends asked within counted replies comes =
            let made = calls refl in
            let call : CallAsk = made.0 in
            subst (λ a. IsPiece set of_core home numbers seen mem origin program starts upto budget t part a)
            (sym (made.2 ∙ ap (λ (p : Part P C). Start p (set.call_of call).a (set.call_of call).b) is))
            (called_at call (subst (λ (p : Part P C). (of_core p.cpu).phase ≡ Calling call) is made.1) (asked refl) counted replies comes)
        rested_at rest.Spent stood answer is stops calls pauses spends asked within counted replies comes = ⊎_elim
            (λ less. subst (λ a. IsPiece set of_core home numbers seen mem origin program starts upto budget t part a) (sym (pauses refl less ∙ ap (λ (p : Part P C). Pause p) is))
            (paused less counted comes))
            (λ all. subst (λ a. IsPiece set of_core home numbers seen mem origin program starts upto budget t part a)
            (sym (spends refl all ∙ ap (λ (p : Part P C). Ended (ended_at t stop.Budget p)) is)) (spent_at (omega (arith, least, all)) comes))
            (cases_lt upto budget)
