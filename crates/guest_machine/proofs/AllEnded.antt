-- Each thread of a trace has ended.
use Rattle.std.proofs.Common.{◌≡◌, ◌≢◌, ◌⊎◌, ℕ, ◌<◌, true, List, [], ◌∷◌, ◌++◌, sym, ◌∙◌, subst, inl, inr, arith}
use Rattle.std.proofs.lemmas.Bool.{cases_eq}
use Rattle.llsc_base.specs.Images.{Program}
use Rattle.llsc_base.specs.Sizes.{Numbers}
use Rattle.history.specs.declared.entry.Access.{Access}
use Rattle.llsc_base.specs.declared.outside.Ask.{Ask}
use Rattle.guest_calls.specs.Run.{Ends}
use Rattle.guest_calls.specs.Pairs.{pairs_in}
use Rattle.guest_thread.specs.Start.{thread_start}
use Rattle.guest_machine.specs.inner.Seats.{is_one_of}
use Rattle.guest_machine.specs.Turns.{drawn, without, Takes, begins, makes, stops, IsTrace}
use Rattle.guest_thread.specs.Accesses.{access_by, monitor_of}
use Rattle.guest_thread.specs.Ended.{HasEnded}
use Rattle.guest_machine.proofs.Pushed.{other_push}
use Rattle.guest_machine.proofs.Seated.{turn_live, left_in, in_range}
use Rattle.guest_core.specs.Machine.{InstructionSet}

module _ {I S : Type 0} (set : InstructionSet I S) where
  -- a thread has not stopped, or it has ended
  abbrev IsLiveOrEnded : Program → Numbers → ℕ → List ℕ → List Access → ℕ → Type 0
  IsLiveOrEnded program size budget live accesses t = (is_one_of live t ≡ true) ⊎ HasEnded set program size budget accesses t

  -- an access of another thread leaves an end as it is
  ended_still : (program : Program) (size : Numbers) (budget : ℕ) (accesses : List Access) (t other : ℕ) (ask : Ask) → other ≢ t
      → HasEnded set program size budget accesses other
      → HasEnded set program size budget (accesses ++ access_by (monitor_of program size accesses) t ask ∷ []) other
  ended_still program size budget accesses t other ask differs ended = record {
    stop = ended.stop;
    steps = ended.steps;
    output = ended.output;
    ends = subst (λ pairs. Ends set program budget (thread_start set program size size.threads other) pairs ended.stop ended.steps ended.output)
        (sym (other_push other t accesses (monitor_of program size accesses) ask differs)) ended.ends;
  }

  live_or_ended : (program : Program) (size : Numbers) (seed budget x : ℕ) (live : List ℕ) (accesses : List Access) (t : ℕ) → t < size.threads
      → Takes set program size seed budget x live accesses → IsLiveOrEnded program size budget live accesses t
  live_or_ended program size seed budget _ _ _ t known begins = inl (in_range size.threads t 0 (omega arith) (omega (arith, known)))
  live_or_ended program size seed budget _ _ _ t known (makes x live accesses u ask before turn asks) =
      after_access (cases_eq t u) (live_or_ended program size seed budget x live accesses t known before)
    where
      after_access : (t ≡ u) ⊎ (t ≡ u → ⊥) → IsLiveOrEnded program size budget live accesses t
          → IsLiveOrEnded program size budget live (accesses ++ access_by (monitor_of program size accesses) u ask ∷ []) t
      after_access same (inl one) = inl one
      after_access (inl same) (inr ended) = inl (subst (λ k. is_one_of live k ≡ true) (sym same) (turn_live (drawn x) u live turn))
      after_access (inr differs) (inr ended) = inr (ended_still program size budget accesses u t ask differs ended)
  live_or_ended program size seed budget _ _ _ t known (stops x live accesses u stop steps output before turn ends) =
      after_stop (cases_eq t u) (live_or_ended program size seed budget x live accesses t known before)
    where
      after_stop : (t ≡ u) ⊎ (t ≡ u → ⊥) → IsLiveOrEnded program size budget live accesses t
          → IsLiveOrEnded program size budget (without u live) accesses t
      after_stop (inl same) was = inr (record {
        stop = stop;
        steps = steps;
        output = output;
        ends = subst (λ k. Ends set program budget (thread_start set program size size.threads k) (pairs_in k accesses) stop steps output) (sym same) ends;
      })
      after_stop (inr differs) (inl one) = inl (left_in t u live differs ∙ one)
      after_stop (inr differs) (inr ended) = inr ended

  pub all_ended : (program : Program) (size : Numbers) (seed budget : ℕ) (accesses : List Access) (t : ℕ) → t < size.threads
      → IsTrace set program size seed budget accesses → HasEnded set program size budget accesses t
  all_ended program size seed budget accesses t known trace = ended (live_or_ended program size seed budget trace.0 [] accesses t known trace.1)
    where
      ended : IsLiveOrEnded program size budget [] accesses t → HasEnded set program size budget accesses t
      ended (inl one) = absurd (let f : ⊥ = cc in f)
      ended (inr is) = is
