-- What a thread asks next is one thing, and a thread that asks hasn't ended: where the accesses and replies behind it
-- decide the replies, its run rests both where it asks and where it has ended, and it rests in one way.
use Rattle.std.proofs.Common.{◌≡◌, ℕ, zero, suc, ◌+◌, ◌-◌, ◌<◌, None, List, [], ◌∷◌, ◌++◌, length, refl, ap, subst, ◌∙◌, append-nil, length-append, arith}
use Rattle.std.specs.Option.{option_map}
use Rattle.llsc_base.specs.Images.{Program}
use Rattle.llsc_base.specs.declared.access.Place.{Place}
use Rattle.llsc_base.specs.declared.outside.Ask.{Ask}
use Rattle.llsc_base.specs.declared.outside.Ask.TheVariants.{Store}
use Rattle.llsc_base.specs.declared.outside.CallAsk.{CallAsk}
use Rattle.llsc_base.specs.declared.outside.Stop.{Stop}
use Rattle.llsc_base.specs.declared.outside.Stop.TheVariants.{TagLimit}
use Rattle.llsc_base.specs.Effects.{asks, calls}
use Rattle.guest_core.specs.Machine.{MachineOf, InstructionSet, next_of}
use Rattle.guest_calls.specs.Calls.{writes_bytes}
use Rattle.guest_calls.specs.Run.{Pair, byte_load, byte_loads, effect_of_call, Reaches, Ends, EndsOn, by_itself, by_limit, Asks, asks_access, asks_byte}
use Rattle.guest_calls.proofs.Decided.{Replies, AreDecided, Spot, spot_at, replied, followed, bytes_by, printed, answered_so, decided_front, loads_on, first_found, came, ended, asking, rest_by_call, Rests, rests_by, Comes, turn, turn_by, one_spot, one_way, ends_rest}
use Rattle.guest_calls.proofs.Listed.{reply_after, list_decides, list_ends, one_end_of_list}

-- nothing is replied to the next access
abbrev IsSilent : Replies → List Pair → Type 0
IsSilent replies pairs = (ask : Ask) → replies pairs ask ≡ None

-- a write is not whole where nothing is replied to the load of one of its bytes
bytes_short : (replies : Replies) (pairs : List Pair) (from count : ℕ) (bytes : List ℕ)
    → AreDecided replies (pairs ++ byte_loads from bytes) → IsSilent replies (pairs ++ byte_loads from bytes) → length bytes < count
    → bytes_by replies pairs from count ≡ None
bytes_short replies pairs from zero bytes decided silent less = absurd (omega (arith, less))
bytes_short replies pairs from (suc count) [] decided silent less =
    let none : replies pairs (byte_load from) ≡ None = subst (λ l. replies l (byte_load from) ≡ None) (append-nil pairs) (silent (byte_load from)) in
    ap (λ r. followed r (λ b. bytes_by replies (pairs ++ (byte_load from, b) ∷ []) (from + 1) count)) none
bytes_short replies pairs from (suc count) (byte ∷ bytes) decided silent less =
    let same = loads_on pairs from byte bytes in
    first_found replies pairs from count byte bytes decided
    ∙ ap (option_map (λ rest. byte ∷ rest))
    (bytes_short replies (pairs ++ (byte_load from, byte) ∷ []) (from + 1) count bytes
    (subst (AreDecided replies) same decided) (subst (IsSilent replies) same silent) (omega (arith, less)))

-- each byte is loaded once
pub loads_count : (from : ℕ) (bytes : List ℕ) → length (byte_loads from bytes) ≡ length bytes
loads_count from [] = refl
loads_count from (byte ∷ bytes) = ap suc (loads_count (from + 1) bytes)

-- so many bytes of a write were loaded
loaded_are : (pairs : List Pair) (from : ℕ) (bytes : List ℕ) → length (pairs ++ byte_loads from bytes) - length pairs ≡ length bytes
loaded_are pairs from bytes = omega (arith, length-append pairs (byte_loads from bytes), loads_count from bytes)

-- two asks are the same only by the same access, the same steps and the same output
same_asking : (ask other : Ask) (steps count : ℕ) (output text : List ℕ) → asking ask steps output ≡ asking other count text
    → (ask ≡ other) × (steps ≡ count) × (output ≡ text)
same_asking ask other steps count output text same = (cc, cc, cc)

-- an ask isn't an end
asking_apart : (ask : Ask) (count : ℕ) (text : List ℕ) (pairs : List Pair) (stop : Stop) (steps : ℕ) (output : List ℕ)
    → asking ask count text ≡ ended pairs stop steps output → ⊥
asking_apart ask count text pairs stop steps output same = absurd cc

-- what a list replies where a run has come so far
abbrev replies_of : List Pair → Replies
replies_of pairs = λ front asked. reply_after pairs front

module _ {I S : Type 0} (set : InstructionSet I S) where
  -- ---- a thread that asks rests

  -- an instruction that asks rests at what it asks, where nothing is (replied set) to it
  access_rests : (replies : Replies) (program : Program) (budget : ℕ) (start : MachineOf I S) (pairs : List Pair) (machine : MachineOf I S) (steps : ℕ) (output : List ℕ) (ask : Ask)
      → Reaches set program budget start pairs machine steps output → steps < budget → next_of set program machine ≡ asks ask
      → AreDecided replies pairs → IsSilent replies pairs → Rests set replies program budget start pairs (asking ask steps output)
  access_rests replies program budget start pairs machine steps output ask reached less asked decided silent =
      let here : Spot I S = spot_at set pairs machine steps output in
      rests_by set replies program budget start pairs here (asks ask) (asking ask steps output)
      (came set replies program budget start pairs machine steps output reached decided) less asked (ap (replied set program here ask) (silent ask)) refl

  -- a thread that asks rests at what it asks, with some steps and some output
  AsksAtRest : Replies → Program → ℕ → MachineOf I S → List Pair → Ask → Type 0
  AsksAtRest replies program budget start pairs ask =
      (steps : ℕ) × (output : List ℕ) × Rests set replies program budget start pairs (asking ask steps output)

  asks_rest : (replies : Replies) (program : Program) (budget : ℕ) (start : MachineOf I S) (pairs : List Pair) (ask : Ask)
      → Asks set program budget start pairs ask → AreDecided replies pairs → IsSilent replies pairs → AsksAtRest replies program budget start pairs ask
  unfolding AsksAtRest
  asks_rest replies program budget start _ _ (asks_access pairs machine steps output ask reached less asked) decided silent =
      (steps, output, access_rests replies program budget start pairs machine steps output ask reached less asked decided silent)
  asks_rest replies program budget start _ _ (asks_byte pairs machine steps output call from count bytes reached less called known short) decided silent =
      let here : Spot I S = spot_at set pairs machine steps output in
      let all : List Pair = pairs ++ byte_loads from bytes in (
        steps,
        output,
        rests_by set replies program budget start all here (calls call) (asking (byte_load (from + length bytes)) steps output)
            (came set replies program budget start pairs machine steps output reached (decided_front replies pairs (byte_loads from bytes) decided)) less called
            (ap (answered_so set replies program here) known ∙ ap (printed set program here from count) (bytes_short replies pairs from count bytes decided silent short))
            (ap (rest_by_call set (length all - length pairs) here) known
            ∙ ap (λ loaded. asking (byte_load (from + loaded)) steps output) (loaded_are pairs from bytes)),
      )

  -- ---- where it rests, by the replies of the list itself

  -- a thread with these accesses and replies behind it comes to a spot, and no further
  abbrev pub RestsAt : Program → ℕ → MachineOf I S → List Pair → Spot I S → Type 0
  RestsAt program budget start pairs spot =
      Comes set (replies_of pairs) program budget start spot × (turn set (replies_of pairs) program budget spot ≡ spot)

  -- it rests where its instruction asks
  pub rests_at_access : (program : Program) (budget : ℕ) (start : MachineOf I S) (pairs : List Pair) (machine : MachineOf I S) (steps : ℕ) (output : List ℕ) (ask : Ask)
      → Reaches set program budget start pairs machine steps output → steps < budget → next_of set program machine ≡ asks ask
      → RestsAt program budget start pairs (spot_at set pairs machine steps output)
  rests_at_access program budget start pairs machine steps output ask reached less asked =
      let replies : Replies = replies_of pairs in
      let here : Spot I S = spot_at set pairs machine steps output in (
        came set replies program budget start pairs machine steps output reached (list_decides pairs),
        turn_by set replies program budget here (asks ask) less asked ∙ ap (replied set program here ask) (list_ends pairs),
      )

  -- it rests at a write that wants a byte more
  pub rests_at_byte : (program : Program) (budget : ℕ) (start : MachineOf I S) (pairs : List Pair) (machine : MachineOf I S) (steps : ℕ) (output : List ℕ) (call : CallAsk) (from count : ℕ) (bytes : List ℕ)
      → Reaches set program budget start pairs machine steps output → steps < budget → next_of set program machine ≡ calls call
      → effect_of_call set program call (length output) ≡ writes_bytes from count → length bytes < count
      → RestsAt program budget start (pairs ++ byte_loads from bytes) (spot_at set pairs machine steps output)
  rests_at_byte program budget start pairs machine steps output call from count bytes reached less called known short =
      let all : List Pair = pairs ++ byte_loads from bytes in
      let replies : Replies = replies_of all in
      let here : Spot I S = spot_at set pairs machine steps output in
      let decided : AreDecided replies all = list_decides all in (
        came set replies program budget start pairs machine steps output reached (decided_front replies pairs (byte_loads from bytes) decided),
        turn_by set replies program budget here (calls call) less called
            ∙ ap (answered_so set replies program here) known
            ∙ ap (printed set program here from count) (bytes_short replies pairs from count bytes decided (λ asked. list_ends all) short),
      )

  -- it rests at one spot
  pub one_rest_of : (program : Program) (budget : ℕ) (start : MachineOf I S) (pairs : List Pair) (one other : Spot I S)
      → RestsAt program budget start pairs one → RestsAt program budget start pairs other → one ≡ other
  one_rest_of program budget start pairs one other first second =
      one_spot set (replies_of pairs) program budget start one other first.0 first.1 second.0 second.1

  -- ---- the laws, by the replies of the list itself

  -- what a thread asks, it rests at, by the replies of the list of its accesses
  list_rests : (program : Program) (budget : ℕ) (start : MachineOf I S) (pairs : List Pair) (ask : Ask)
      → Asks set program budget start pairs ask → AsksAtRest (replies_of pairs) program budget start pairs ask
  list_rests program budget start pairs ask asking_it =
      asks_rest (replies_of pairs) program budget start pairs ask asking_it (list_decides pairs) (λ asked. list_ends pairs)

  -- a thread asks one thing next
  pub one_ask : (program : Program) (budget : ℕ) (start : MachineOf I S) (pairs : List Pair) (ask other : Ask)
      → Asks set program budget start pairs ask → Asks set program budget start pairs other → ask ≡ other
  unfolding AsksAtRest
  one_ask program budget start pairs ask other one two =
      let first = list_rests program budget start pairs ask one in
      let second = list_rests program budget start pairs other two in
      (same_asking ask other first.0 second.0 first.1 second.1
      (one_way set (replies_of pairs) program budget start pairs (asking ask first.0 first.1) (asking other second.0 second.1) first.2 second.2)).0

  -- a thread that asks hasn't ended
  pub asks_or_ends : (program : Program) (budget : ℕ) (start : MachineOf I S) (pairs : List Pair) (ask : Ask) (stop : Stop) (steps : ℕ) (output : List ℕ)
      → Asks set program budget start pairs ask → Ends set program budget start pairs stop steps output → ⊥
  unfolding AsksAtRest
  asks_or_ends program budget start pairs ask stop steps output asks_it ends =
      let rests = list_rests program budget start pairs ask asks_it in
      asking_apart ask rests.0 rests.1 pairs stop steps output
      (one_way set (replies_of pairs) program budget start pairs (asking ask rests.0 rests.1) (ended pairs stop steps output)
      rests.2
      (ends_rest set (replies_of pairs) program budget start pairs pairs stop steps output ends (list_decides pairs)))

  -- ---- ends on a memory with limits

  -- two stores that a thread asks next are of one place, with the same steps and the same output behind it
  one_limit : (program : Program) (budget : ℕ) (start : MachineOf I S) (pairs : List Pair)
      (machine one : MachineOf I S) (steps count : ℕ) (output text : List ℕ) (place target : Place) (value other : ℕ)
      → Reaches set program budget start pairs machine steps output → steps < budget → next_of set program machine ≡ asks (Store place value)
      → Reaches set program budget start pairs one count text → count < budget → next_of set program one ≡ asks (Store target other)
      → (place.addr ≡ target.addr) × (steps ≡ count) × (output ≡ text)
  one_limit program budget start pairs machine one steps count output text place target value other reached less asked reached_too less_too asked_too =
      let replies : Replies = replies_of pairs in
      let silent : IsSilent replies pairs = λ ask. list_ends pairs in
      let same =
      same_asking (Store place value) (Store target other) steps count output text
      (one_way set replies program budget start pairs (asking (Store place value) steps output) (asking (Store target other) count text)
      (access_rests replies program budget start pairs machine steps output (Store place value) reached less asked (list_decides pairs) silent)
      (access_rests replies program budget start pairs one count text (Store target other) reached_too less_too asked_too (list_decides pairs) silent)) in
      (ap (λ p. p.addr) (same_place place target value other same.0), same.1, same.2)
    where
      same_place : (p q : Place) (v w : ℕ) → Store p v ≡ Store q w → p ≡ q
      same_place p q v w same = cc

  -- a thread has one end at most on such a memory
  pub one_end_on : (program : Program) (budget : ℕ) (start : MachineOf I S) (pairs : List Pair) (stop other : Stop) (steps count : ℕ) (output text : List ℕ)
      → EndsOn set program budget start pairs stop steps output → EndsOn set program budget start pairs other count text
      → (stop ≡ other) × (steps ≡ count) × (output ≡ text)
  one_end_on program budget start _ _ _ _ _ _ _ (by_itself pairs stop steps output one) (by_itself _ other count text two) =
      one_end_of_list set program budget start pairs stop other steps count output text one two
  one_end_on program budget start _ _ _ _ _ _ _ (by_itself pairs stop steps output one) (by_limit _ machine count text place value reached less asked) =
      absurd (asks_or_ends program budget start pairs (Store place value) stop steps output
      (asks_access pairs machine count text (Store place value) reached less asked) one)
  one_end_on program budget start _ _ _ _ _ _ _ (by_limit pairs machine steps output place value reached less asked) (by_itself _ other count text two) =
      absurd (asks_or_ends program budget start pairs (Store place value) other count text
      (asks_access pairs machine steps output (Store place value) reached less asked) two)
  one_end_on program budget start _ _ _ _ _ _ _ (by_limit pairs machine steps output place value reached less asked)
      (by_limit _ one count text target other reached_too less_too asked_too) =
      let same =
      one_limit program budget start pairs machine one steps count output text place target value other
      reached less asked reached_too less_too asked_too in
      (ap TagLimit same.0, same.1, same.2)
