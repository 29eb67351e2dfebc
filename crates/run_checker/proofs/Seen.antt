-- The sightings of accesses, one after another.
use Rattle.std.proofs.Common.{◌≡◌, ℕ, List, [], ◌∷◌, ◌++◌, refl, ap, sym, subst, ◌∙◌, append_assoc, append-nil}
use Rattle.llsc_base.specs.Images.{Program}
use Rattle.llsc_base.specs.Sizes.{Numbers}
use Rattle.history.specs.declared.entry.Access.{Access}
use Rattle.guest_core.specs.Machine.{MachineOf, InstructionSet}
use Rattle.guest_calls.specs.Pairs.{pairs_in}
use Rattle.guest_thread.specs.Start.{thread_start}
use Rattle.guest_thread.proofs.OneStanding.{one_standing}
use Rattle.run_checker.specs.Sighted.{AreSighted, AreSightedFrom, IsSighted}
use Rattle.run_checker.specs.inner.Positions.{AreBrought}
use Rattle.run_checker.specs.declared.checker.Checker.{Checker}
use Rattle.run_checker.specs.declared.sightings.Sighting.{Sighting}
use Rattle.run_checker.proofs.Judging.{all_early}

abbrev sighting_of : (pc steps held : ℕ) → Sighting
sighting_of pc steps held = record { pc = pc; steps = steps; held = held }

same_sighting : (one other : Sighting) → one.pc ≡ other.pc → one.steps ≡ other.steps → one.held ≡ other.held → one ≡ other
same_sighting one other pcs steps held =
    ap (λ pc. sighting_of pc one.steps one.held) pcs ∙ ap (λ n. sighting_of other.pc n one.held) steps ∙ ap (sighting_of other.pc other.steps) held

module _ {I S : Type 0} (set : InstructionSet I S) (program : Program) (size : Numbers) (budget : ℕ) where
  -- the sighting of one access more
  pub sighted_push : (before accesses : List Access) (sightings : List Sighting) (access : Access) (sighting : Sighting)
      → AreSightedFrom set program size budget before accesses sightings → IsSighted set program size budget (before ++ accesses) access sighting
      → AreSightedFrom set program size budget before (accesses ++ access ∷ []) (sightings ++ sighting ∷ [])
  sighted_push before [] [] access sighting are is = (subst (λ b. IsSighted set program size budget b access sighting) (append-nil before) is, tt)
  sighted_push before [] (one ∷ sightings) access sighting are is = absurd are
  sighted_push before (first ∷ accesses) [] access sighting are is = absurd are
  sighted_push before (first ∷ accesses) (one ∷ sightings) access sighting are is = (
    are.0,
    sighted_push (before ++ first ∷ []) accesses sightings access sighting are.1
        (subst (λ b. IsSighted set program size budget b access sighting) (sym (append_assoc before (first ∷ []) accesses)) is),
  )

  -- an access is sighted in one way
  pub one_sighting : (before : List Access) (access : Access) (one other : Sighting)
      → IsSighted set program size budget before access one → IsSighted set program size budget before access other → one ≡ other
  one_sighting before access one other is also =
      let same = one_standing set program budget (thread_start set program size size.threads access.thread) (pairs_in access.thread before)
      is.ask also.ask is.standing also.standing is.awaits also.awaits in
      same_sighting one other (is.pc ∙ ap (λ (cpu : MachineOf I S). set.pc_of cpu.state) same.0 ∙ sym also.pc) (is.steps ∙ same.1 ∙ sym also.steps) (is.held ∙ sym also.held)

  -- and so are all accesses of a record
  pub one_list_from : (before accesses : List Access) (one other : List Sighting)
      → AreSightedFrom set program size budget before accesses one → AreSightedFrom set program size budget before accesses other → one ≡ other
  one_list_from before [] [] [] are also = refl
  one_list_from before [] (first ∷ one) other are also = absurd are
  one_list_from before [] one (first ∷ other) are also = absurd also
  one_list_from before (access ∷ accesses) [] other are also = absurd are
  one_list_from before (access ∷ accesses) one [] are also = absurd also
  one_list_from before (access ∷ accesses) (first ∷ one) (second ∷ other) are also =
      ap (λ s. s ∷ one) (one_sighting before access first second are.0 also.0)
      ∙ ap (λ l. second ∷ l) (one_list_from (before ++ access ∷ []) accesses one other are.1 also.1)

  module _ {C R : Type 0} (machine : C → MachineOf I S) where
    -- some accesses were made and are sighted so, and the others are left
    pub record IsSeen (accesses : List Access) (checker : Checker C R) (rest : List Access) (sightings : List Sighting) : Type 0 where
      pub early : List Access
      pub parts : accesses ≡ early ++ rest
      pub brought : AreBrought set machine program size budget early checker
      pub sighted : AreSighted set program size budget early sightings

    pub seen_start : (accesses : List Access) (checker : Checker C R) → AreBrought set machine program size budget [] checker → IsSeen accesses checker accesses []
    seen_start accesses checker brought = record { early = []; parts = refl; brought = brought; sighted = tt }

    pub seen_more : (accesses : List Access) (old new : Checker C R) (access : Access) (sighting : Sighting) (rest after : List Access) (sightings : List Sighting)
        → rest ≡ access ∷ after → IsSeen accesses old rest sightings
        → ((early : List Access) → AreBrought set machine program size budget early old
        → IsSighted set program size budget early access sighting × AreBrought set machine program size budget (early ++ access ∷ []) new)
        → IsSeen accesses new after (sightings ++ sighting ∷ [])
    seen_more accesses old new access sighting rest after sightings is was step =
        let made = step was.early was.brought in
        record {
          early = was.early ++ access ∷ [];
          parts = was.parts ∙ ap (λ l. was.early ++ l) is ∙ sym (append_assoc was.early (access ∷ []) after);
          brought = made.1;
          sighted = sighted_push [] was.early sightings access sighting was.sighted made.0;
        }

    pub seen_all : (accesses : List Access) (checker : Checker C R) (rest : List Access) (sightings : List Sighting)
        → rest ≡ [] → IsSeen accesses checker rest sightings → AreSighted set program size budget accesses sightings
    seen_all accesses checker rest sightings none was =
        subst (λ l. AreSighted set program size budget l sightings) (sym (all_early accesses was.early rest was.parts none)) was.sighted
