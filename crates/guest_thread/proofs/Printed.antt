-- What a thread in the middle of a write asks, and what it comes to by a byte.
use Rattle.std.proofs.Common.{◌≡◌, ℕ, ◌+◌, ◌<◌, Bool, true, false, nat_lt, if◌then◌else◌, List, [], ◌∷◌, ◌++◌, length, refl, sym, ap, ◌∙◌, subst, append_assoc, length-append, add-zero, arith, Some}
use Rattle.std.proofs.lemmas.Bool.Decides.{nat_tests}
use Rattle.llsc_base.specs.Images.{Program}
use Rattle.llsc_base.specs.declared.outside.Ask.{Ask}
use Rattle.guest_core.specs.Machine.{after_of, InstructionSet, returned_of}
use Rattle.guest_calls.specs.Calls.{writes_bytes}
use Rattle.guest_calls.specs.Run.{Pair, byte_load, byte_loads, ReachesBy, AsksFrom, prints, asks_byte, PointOf}
use Rattle.guest_thread.specs.declared.guests.Printing.{Printing}
use Rattle.guest_thread.specs.declared.guests.Turn.TheVariants as turn
use Rattle.guest_thread.specs.ThreadState.{ThreadOf}
use Rattle.guest_thread.specs.inner.Turns.{after_byte, after_front_byte, after_last_byte}
use Rattle.guest_thread.specs.Under.{HasComeFrom, HasComeBy, IsPrintingFrom, AwaitsFrom, AwaitsBy, ComesToFrom}
use Rattle.guest_thread.proofs.Reached.{reached_at}

module _ {I S : Type 0} (set : InstructionSet I S) where
  -- the loads of bytes and of one more
  byte_loads-more : (from : ℕ) (bytes : List ℕ) (byte : ℕ)
      → byte_loads from (bytes ++ byte ∷ []) ≡ byte_loads from bytes ++ (byte_load (from + length bytes), byte) ∷ []
  byte_loads-more from [] byte = ap (λ a. (byte_load a, byte) ∷ []) (sym (add-zero from))
  byte_loads-more from (first ∷ bytes) byte =
      let next : from + 1 + length bytes ≡ from + length (first ∷ bytes) = omega arith in
      ap (λ l. (byte_load from, first) ∷ l) (byte_loads-more (from + 1) bytes byte)
      ∙ ap (λ a. (byte_load from, first) ∷ (byte_loads (from + 1) bytes ++ (byte_load a, byte) ∷ [])) next

  length-more : (bytes : List ℕ) (byte : ℕ) → length (bytes ++ byte ∷ []) ≡ length bytes + 1
  length-more bytes byte = length-append bytes (byte ∷ [])

  -- it asks for its next byte
  pub asking_byte : (stocked : Bool) (program : Program) (budget : ℕ) (point : PointOf I S) (pairs : List Pair) (standing : ThreadOf I S) (printing : Printing)
      → HasComeFrom set stocked program budget point pairs standing → standing.printing ≡ Some printing
      → ComesToFrom set stocked program budget point pairs (turn.Asks (byte_load (printing.from + printing.loaded))) standing
  asking_byte stocked program budget point pairs standing printing come is =
      let way : IsPrintingFrom set stocked program budget point pairs standing printing = subst (λ p. HasComeBy set stocked program budget point pairs standing p) is come in
      let less : length way.bytes < printing.len = subst (λ n. n < printing.len) (sym way.loaded) way.left in (
        subst (λ l. AsksFrom set stocked program budget point l (byte_load (printing.from + printing.loaded))) (sym way.pairs_are)
            (subst (λ n. AsksFrom set stocked program budget point (way.before ++ byte_loads printing.from way.bytes) (byte_load (printing.from + n))) way.loaded
            (asks_byte way.before way.machine standing.steps way.output way.call printing.from printing.len way.bytes way.reached way.within way.called way.writes less)),
        subst (λ p. AwaitsBy set stocked program budget point pairs (byte_load (printing.from + printing.loaded)) standing p) (sym is) (way, refl),
      )

  -- its accesses with one more byte
  pairs_more : (before pairs : List Pair) (from loaded : ℕ) (bytes : List ℕ) (ask : Ask) (byte : ℕ)
      → pairs ≡ before ++ byte_loads from bytes → length bytes ≡ loaded → ask ≡ byte_load (from + loaded)
      → pairs ++ (ask, byte) ∷ [] ≡ before ++ byte_loads from (bytes ++ byte ∷ [])
  pairs_more before pairs from loaded bytes ask byte are number is =
      ap (λ l. l ++ (ask, byte) ∷ []) are
      ∙ append_assoc before (byte_loads from bytes) ((ask, byte) ∷ [])
      ∙ ap (λ a. before ++ (byte_loads from bytes ++ (a, byte) ∷ [])) (is ∙ ap (λ n. byte_load (from + n)) (sym number))
      ∙ ap (λ l. before ++ l) (sym (byte_loads-more from bytes byte))

  -- a byte that isn't the last one
  after_front : (stocked : Bool) (program : Program) (budget : ℕ) (point : PointOf I S) (pairs : List Pair) (ask : Ask) (byte : ℕ) (old : ThreadOf I S) (printing : Printing)
      → IsPrintingFrom set stocked program budget point pairs old printing → ask ≡ byte_load (printing.from + printing.loaded) → printing.loaded + 1 < printing.len
      → HasComeFrom set stocked program budget point (pairs ++ (ask, byte) ∷ []) (after_front_byte old printing byte)
  after_front stocked program budget point pairs ask byte old printing way is less = record {
    before = way.before;
    machine = way.machine;
    output = way.output;
    call = way.call;
    bytes = way.bytes ++ byte ∷ [];
    reached = way.reached;
    within = way.within;
    called = way.called;
    writes = way.writes;
    cpu = way.cpu;
    pairs_are = pairs_more way.before pairs printing.from printing.loaded way.bytes ask byte way.pairs_are way.loaded is;
    output_is = ap (λ o. o ++ byte ∷ []) way.output_is ∙ append_assoc way.output way.bytes (byte ∷ []);
    loaded = length-more way.bytes byte ∙ ap (λ n. n + 1) way.loaded;
    left = less;
  }

  -- the last byte
  after_last : (stocked : Bool) (program : Program) (budget : ℕ) (point : PointOf I S) (pairs : List Pair) (ask : Ask) (byte : ℕ) (old : ThreadOf I S) (printing : Printing)
      → IsPrintingFrom set stocked program budget point pairs old printing → ask ≡ byte_load (printing.from + printing.loaded) → printing.loaded + 1 ≡ printing.len
      → HasComeFrom set stocked program budget point (pairs ++ (ask, byte) ∷ []) (after_last_byte set old printing byte)
  after_last stocked program budget point pairs ask byte old printing way is last =
      let bytes : List ℕ = way.bytes ++ byte ∷ [] in
      let number : length bytes ≡ printing.len = length-more way.bytes byte ∙ ap (λ n. n + 1) way.loaded ∙ last in
      let more = pairs_more way.before pairs printing.from printing.loaded way.bytes ask byte way.pairs_are way.loaded is in
      subst (λ l. ReachesBy set stocked program budget point l (returned_of set old.cpu printing.len) (old.steps + 1) (old.output ++ byte ∷ [])) (sym more)
      (reached_at set stocked program budget point (returned_of set old.cpu printing.len) (returned_of set (after_of set program way.machine) (length bytes))
      (way.before ++ byte_loads printing.from bytes) (old.steps + 1) (old.steps + 1) (old.output ++ byte ∷ []) (way.output ++ bytes)
      (ap (λ m. returned_of set m printing.len) way.cpu ∙ ap (returned_of set (after_of set program way.machine)) (sym number)) refl
      (ap (λ o. o ++ byte ∷ []) way.output_is ∙ append_assoc way.output way.bytes (byte ∷ []))
      (prints way.before way.machine old.steps way.output way.call printing.from bytes way.reached way.within way.called
      (way.writes ∙ ap (writes_bytes printing.from) (sym number))))

  -- either
  after_either : (stocked : Bool) (program : Program) (budget : ℕ) (point : PointOf I S) (pairs : List Pair) (ask : Ask) (byte : ℕ) (old : ThreadOf I S) (printing : Printing) (b : Bool)
      → IsPrintingFrom set stocked program budget point pairs old printing → ask ≡ byte_load (printing.from + printing.loaded) → nat_lt (printing.loaded + 1) printing.len ≡ b
      → HasComeFrom set stocked program budget point (pairs ++ (ask, byte) ∷ []) (if b then after_front_byte old printing byte else after_last_byte set old printing byte)
  after_either stocked program budget point pairs ask byte old printing true way is test =
      after_front stocked program budget point pairs ask byte old printing way is (grind (arith, nat_tests, test))
  after_either stocked program budget point pairs ask byte old printing false way is test =
      let left : printing.loaded < printing.len = way.left in
      after_last stocked program budget point pairs ask byte old printing way is (grind (arith, nat_tests, test, left))

  -- a thread after the reply to the load of a byte
  pub after_byte_reply : (stocked : Bool) (program : Program) (budget : ℕ) (point : PointOf I S) (pairs : List Pair) (ask : Ask) (byte : ℕ) (old new : ThreadOf I S) (printing : Printing)
      → AwaitsFrom set stocked program budget point pairs ask old → old.printing ≡ Some printing → new ≡ after_byte set old printing byte
      → HasComeFrom set stocked program budget point (pairs ++ (ask, byte) ∷ []) new
  after_byte_reply stocked program budget point pairs ask byte old new printing awaits some is =
      let awaited = subst (λ p. AwaitsBy set stocked program budget point pairs ask old p) some awaits in
      subst (λ s. HasComeFrom set stocked program budget point (pairs ++ (ask, byte) ∷ []) s) (sym is)
      (after_either stocked program budget point pairs ask byte old printing (nat_lt (printing.loaded + 1) printing.len) awaited.0 awaited.1 refl)
