-- Ways of a thread over a port, one after another, of whatever instruction set.
use Rattle.std.proofs.Common.{◌≡◌, ℕ, ◌<◌, Bool, List, [], ◌++◌, Option, length, sym, subst, ap, append_assoc, append-nil, arith}
use Rattle.llsc_base.specs.Images.{Program}
use Rattle.llsc_base.specs.declared.outside.Ask.{Ask}
use Rattle.guest_core.specs.Machine.{InstructionSet}
use Rattle.guest_core.specs.Ports.{Leads, stays}
use Rattle.guest_calls.specs.Run.{Pair, PointOf}
use Rattle.guest_thread.specs.Progress.{IsBounded, headway_of}
use Rattle.guest_thread.specs.ThreadState.{ThreadOf}
use Rattle.guest_thread.specs.Under.{HasComeFrom}
use Rattle.guest_thread.proofs.Leading.{leads_on}

-- a step is more than the replies of an instruction
pub further : {I S : Type 0} (old new : ThreadOf I S) → IsBounded old → old.steps < new.steps → new.output ≡ old.output → headway_of old < headway_of new
further old new bounded more same =
    let long : length new.output ≡ length old.output = ap (λ o. length o) same in
    omega (arith, bounded.replies, more, long)

module _ {I S : Type 0} (set : InstructionSet I S) where
  abbrev pub Ways : {P : Type 0} → (P → Ask → Option ℕ → P → Type 0) → Bool → Program → ℕ → ThreadOf I S → P → ThreadOf I S → P → Type 0
  Ways replies stocked program budget old from new to = (point : PointOf I S) (before : List Pair) → HasComeFrom set stocked program budget point before old
      → (pairs : List Pair) × (Leads replies from pairs to × HasComeFrom set stocked program budget point (before ++ pairs) new)

  pub no_way : {P : Type 0} (replies : P → Ask → Option ℕ → P → Type 0) (stocked : Bool) (program : Program) (budget : ℕ) (old : ThreadOf I S) (from : P) → Ways replies stocked program budget old from old from
  no_way replies stocked program budget old from point before come =
      ([], (stays, subst (λ all. HasComeFrom set stocked program budget point all old) (sym (append-nil before)) come))

  pub way_on : {P : Type 0} (replies : P → Ask → Option ℕ → P → Type 0) (stocked : Bool) (program : Program) (budget : ℕ) (first old new : ThreadOf I S) (from at to : P)
      → Ways replies stocked program budget first from old at → Ways replies stocked program budget old at new to → Ways replies stocked program budget first from new to
  way_on replies stocked program budget first old new from at to way further point before come =
      let here = way point before come in
      let next = further point (before ++ here.0) here.1.1 in (
        here.0 ++ next.0,
        (
          leads_on replies from at to here.0 next.0 here.1.0 next.1.0,
          subst (λ all. HasComeFrom set stocked program budget point all new) (append_assoc before here.0 next.0) next.1.1,
        ),
      )
