-- Accesses that are right, and those that are wrong.
use Rattle.std.proofs.Common.{◌≡◌, ℕ, Bool, true, false, List, [], ◌∷◌, ◌++◌, length, refl, ap, sym, subst, ◌∙◌, append_assoc}
use Rattle.llsc_base.specs.Images.{Program}
use Rattle.llsc_base.specs.Sizes.{Numbers}
use Rattle.history.specs.declared.entry.Access.{Access}
use Rattle.history.specs.declared.entry.Deed.{Deed}
use Rattle.history.specs.declared.entry.Deed.TheVariants as deed
use Rattle.llsc_base.specs.declared.outside.Ask.{Ask}
use Rattle.guest_calls.proofs.Asked.{one_ask, asks_or_ends}
use Rattle.guest_thread.specs.Ended.{HasEnded}
use Rattle.run_checker.specs.Verdict.{is_asked, is_load, AsksNext, IsRight, IsWrong, AreRight, Judges, good, wrong, unfinished}
use Rattle.run_checker.specs.declared.verdicts.Reason.{Reason}
use Rattle.run_checker.specs.declared.verdicts.Reason.TheVariants.{AfterStop, NotAsked, WrongValue, NoReservation, Unfinished}
use Rattle.run_checker.specs.declared.verdicts.Verdict.{Verdict}
use Rattle.run_checker.specs.declared.verdicts.Verdict.TheVariants as verdict
use Rattle.guest_calls.proofs.Splits.{at_it, before_it, behind_it, meets, none_behind}
use Rattle.guest_core.specs.Machine.{InstructionSet}

module _ {I S : Type 0} (set : InstructionSet I S) where
  -- ---- lists of right accesses

  -- the first of some right accesses are right
  pub right_front : (program : Program) (size : Numbers) (budget : ℕ) (front back : List Access)
      → AreRight set program size budget (front ++ back) → AreRight set program size budget front
  right_front program size budget front back right early later access parts =
      right early (later ++ back) access (ap (λ (l : List Access). l ++ back) parts ∙ append_assoc early (access ∷ later) back)

  -- one more that is right
  pub right_push : (program : Program) (size : Numbers) (budget : ℕ) (early : List Access) (access : Access)
      → AreRight set program size budget early → IsRight set program size budget early access
      → AreRight set program size budget (early ++ access ∷ [])
  right_push program size budget early access right last front back other parts =
      elim (meets early access [] front other back parts) [
        | at_it fronts same ↦ subst (λ a. IsRight set program size budget front a) same (subst (λ l. IsRight set program size budget l access) fronts last)
        | before_it middle others backs ↦ absurd (none_behind middle other back backs)
        | behind_it middle fronts rests ↦ right front middle other fronts
      ]

  -- no access is right
  pub right_none : (program : Program) (size : Numbers) (budget : ℕ) → AreRight set program size budget []
  right_none program size budget front back access parts = absurd (none_behind front access back parts)

  -- ---- wrong isn't right

  -- a test can't be both
  both : (b : Bool) → b ≡ true → b ≡ false → ⊥
  both b so not_so = cc

  -- a store-exclusive is no load
  load_or_store : (made : Deed) → is_load made ≡ true → made ≡ deed.StoreEx → ⊥
  load_or_store made load store = both (is_load made) load (ap is_load store)

  -- verdicts of the same index and reason are the same
  same_verdict : (early front : List Access) (why reason : Reason) → early ≡ front → why ≡ reason → verdict.Bad (length early) why ≡ verdict.Bad (length front) reason
  same_verdict early front why reason lists reasons = cc

  -- where the same thread asks one thing, and another, the test of the one is that of the other
  same_test : (access : Access) (ask other : Ask) (b : Bool) → ask ≡ other → is_asked other access ≡ b → is_asked ask access ≡ b
  same_test access ask other b same test = subst (λ a. is_asked a access ≡ b) (sym same) test

  module _ (program : Program) (size : Numbers) (budget : ℕ) where
    -- a thread that asks hasn't stopped
    asks_or_stopped : (early : List Access) (t : ℕ) (ask : Ask) → AsksNext set program size budget early t ask → HasEnded set program size budget early t → ⊥
    asks_or_stopped early t ask next stopped = asks_or_ends set program budget _ _ ask stopped.stop stopped.steps stopped.output next stopped.ends

    same_ask : (early : List Access) (t : ℕ) (ask other : Ask) → AsksNext set program size budget early t ask → AsksNext set program size budget early t other → ask ≡ other
    same_ask early t ask other next also = one_ask set program budget _ _ ask other next also

    -- an access that is as asked, by one thing that is asked, is so by the other
    asked_or_not : (early : List Access) (access : Access) (ask other : Ask)
        → AsksNext set program size budget early access.thread ask → is_asked ask access ≡ true
        → AsksNext set program size budget early access.thread other → is_asked other access ≡ false → ⊥
    asked_or_not early access ask other next asked also not_asked =
        both (is_asked other access) (same_test access other ask true (same_ask early access.thread other ask also next) asked) not_asked

    -- no access is wrong and right
    pub wrong_or_right : (early : List Access) (access : Access) (why : Reason) → IsWrong set program size budget early access why → IsRight set program size budget early access → ⊥
    wrong_or_right early access AfterStop wrongs rights = asks_or_stopped early access.thread rights.ask rights.next wrongs
    wrong_or_right early access NotAsked wrongs rights = asked_or_not early access rights.ask wrongs.0 rights.next rights.asked wrongs.1.0 wrongs.1.1
    wrong_or_right early access WrongValue wrongs rights = rights.value wrongs.1.2
    wrong_or_right early access NoReservation wrongs rights = rights.reserved wrongs.1.2
    wrong_or_right early access Unfinished wrongs rights = absurd wrongs

    -- an access is wrong for one reason
    pub one_reason : (early : List Access) (access : Access) (why other : Reason) → IsWrong set program size budget early access why → IsWrong set program size budget early access other → why ≡ other
    one_reason early access AfterStop AfterStop one two = refl
    one_reason early access AfterStop NotAsked one two = absurd (asks_or_stopped early access.thread two.0 two.1.0 one)
    one_reason early access AfterStop WrongValue one two = absurd (asks_or_stopped early access.thread two.0 two.1.0 one)
    one_reason early access AfterStop NoReservation one two = absurd (asks_or_stopped early access.thread two.0 two.1.0 one)
    one_reason early access NotAsked AfterStop one two = absurd (asks_or_stopped early access.thread one.0 one.1.0 two)
    one_reason early access NotAsked NotAsked one two = refl
    one_reason early access NotAsked WrongValue one two = absurd (asked_or_not early access two.0 one.0 two.1.0 two.1.1 one.1.0 one.1.1)
    one_reason early access NotAsked NoReservation one two = absurd (asked_or_not early access two.0 one.0 two.1.0 two.1.1 one.1.0 one.1.1)
    one_reason early access WrongValue AfterStop one two = absurd (asks_or_stopped early access.thread one.0 one.1.0 two)
    one_reason early access WrongValue NotAsked one two = absurd (asked_or_not early access one.0 two.0 one.1.0 one.1.1 two.1.0 two.1.1)
    one_reason early access WrongValue WrongValue one two = refl
    one_reason early access WrongValue NoReservation one two = absurd (load_or_store access.deed one.1.2.0 two.1.2.0)
    one_reason early access NoReservation AfterStop one two = absurd (asks_or_stopped early access.thread one.0 one.1.0 two)
    one_reason early access NoReservation NotAsked one two = absurd (asked_or_not early access one.0 two.0 one.1.0 one.1.1 two.1.0 two.1.1)
    one_reason early access NoReservation WrongValue one two = absurd (load_or_store access.deed two.1.2.0 one.1.2.0)
    one_reason early access NoReservation NoReservation one two = refl
    one_reason early access Unfinished other one two = absurd one
    one_reason early access why Unfinished one two = absurd two

    -- where the accesses are right, none of them is wrong
    none_wrong : (accesses early later : List Access) (access : Access) (why : Reason) → accesses ≡ early ++ access ∷ later → AreRight set program size budget accesses → IsWrong set program size budget early access why → ⊥
    none_wrong accesses early later access why parts rights wrongs = wrong_or_right early access why wrongs (rights early later access parts)

    -- the first wrong access is one
    first_wrong : (early later : List Access) (access : Access) (why : Reason) (front back : List Access) (other : Access) (reason : Reason)
        → early ++ access ∷ later ≡ front ++ other ∷ back
        → AreRight set program size budget early → IsWrong set program size budget early access why
        → AreRight set program size budget front → IsWrong set program size budget front other reason
        → verdict.Bad (length early) why ≡ verdict.Bad (length front) reason
    first_wrong early later access why front back other reason parts rights wrongs good_front bad_other =
        elim (meets early access later front other back parts) [
          | at_it fronts same ↦ same_verdict early front why reason fronts
              (one_reason front other why reason (subst (λ a. IsWrong set program size budget front a why) same (subst (λ l. IsWrong set program size budget l access why) fronts wrongs)) bad_other)
          | before_it middle others backs ↦ absurd (none_wrong front early middle access why others good_front wrongs)
          | behind_it middle fronts rests ↦ absurd (none_wrong early front middle other reason fronts rights bad_other)
        ]

    -- accesses have one verdict
    pub one_verdict : (accesses : List Access) (v w : Verdict) → Judges set program size budget accesses v → Judges set program size budget accesses w → v ≡ w
    one_verdict accesses _ _ (good rights stopped) (good rights_too stopped_too) = refl
    one_verdict accesses _ _ (good rights stopped) (wrong early later access why parts rights_too wrongs) = absurd (none_wrong accesses early later access why parts rights wrongs)
    one_verdict accesses _ _ (good rights stopped) (unfinished t ask rights_too known next) = absurd (asks_or_stopped accesses t ask next (stopped t known))
    one_verdict accesses _ _ (wrong early later access why parts rights_too wrongs) (good rights stopped) = absurd (none_wrong accesses early later access why parts rights wrongs)
    one_verdict accesses _ _ (wrong early later access why parts rights wrongs) (wrong front back other reason parts_too rights_too wrongs_too) =
        first_wrong early later access why front back other reason (sym parts ∙ parts_too) rights wrongs rights_too wrongs_too
    one_verdict accesses _ _ (wrong early later access why parts rights_too wrongs) (unfinished t ask rights known next) = absurd (none_wrong accesses early later access why parts rights wrongs)
    one_verdict accesses _ _ (unfinished t ask rights known next) (good rights_too stopped) = absurd (asks_or_stopped accesses t ask next (stopped t known))
    one_verdict accesses _ _ (unfinished t ask rights known next) (wrong early later access why parts rights_too wrongs) = absurd (none_wrong accesses early later access why parts rights wrongs)
    one_verdict accesses _ _ (unfinished t ask rights known next) (unfinished u other rights_too known_too next_too) = refl
