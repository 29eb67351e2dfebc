-- What the counters hold where all threads of the counter guest have left.
use Rattle.std.proofs.Common.{◌≡◌, ℕ, zero, suc, ◌+◌, ◌*◌, ◌^◌, ◌<◌, ◌≤◌, ◌==◌, ◌&&◌, Bool, true, false, nat_le, nat_lt, if◌then◌else◌, List, replicate, refl, sym, ap, ◌∙◌, subst, arith, suc-mul, mul-le-mul}
use Rattle.std.proofs.lemmas.List.{get_or-replicate, length-replicate}
use Rattle.llsc_base.specs.Memory.{number_of, value_at}
use Rattle.llsc_base.specs.Flat.{values_below}
use Rattle.llsc_base.specs.Sizes.{Numbers, room_of}
use Rattle.llsc_base.proofs.Values.{length-values_below}
use Rattle.elf32.specs.Units.{unit_byte}
use Rattle.elf32.proofs.FirstWords.{word-is}
use Rattle.guest_gen.specs.Counters.{AreInRange, counter_at, counter_image, counter_place, counter_unit}
use Rattle.history.specs.Monitor.{at_rest_by, monitor_after}
use Rattle.history.specs.Parts.{accesses_of, entries_of}
use Rattle.history.specs.declared.entry.Entry.{Entry}
use Rattle.llsc_base.specs.declared.outside.Stop.TheVariants.{Exit}
use Rattle.guest_calls.specs.Run.{Pair, EndsOn}
use Rattle.guest_calls.specs.Pairs.{pairs_of}
use Rattle.guest_thread.specs.Outcome.{HaveLeft, IsOutcome}
use Rattle.guest_thread.specs.Start.{thread_start}
use Rattle.guest_thread.specs.declared.ends.GuestEnd.{GuestEnd}
use Rattle.guest_gen.specs.Namings.{first_draw, drawn_after, named_by, named_in, namings_in, namings_of, one_at}
use Rattle.counter_runs.specs.Tries.{AreTries}
use Rattle.a32_guests.proofs.Onward.{RunsOn, runs_on}
use Rattle.guest_calls.proofs.OwnAccesses.{own_accesses}
use Rattle.history.proofs.Additions.{AreAdditions, AreCounted, additions-times, holds_writes, is_at, own_first}
use Rattle.history.proofs.SumsBelow.{sum_below, sum_below-same}
use Rattle.history.proofs.WritesByThread.{writes_by_threads, writes_of}
use Rattle.a32_guests.proofs.ThreadRuns.{left_run}
use Rattle.counter_runs.proofs.Rounds.{starts_so}
use Rattle.counter_runs.proofs.States.{CounterGuest}
use Rattle.counter_runs.proofs.Stores.{stores_of}
use Rattle.counter_runs.proofs.CounterWords.{below-named_in, counter_words, times-named_in}
use Rattle.a32_step.specs.Machine.{a32}

-- ---- the counters are 0 at first

no_byte : (a b : Bool) (x y : ℕ) → a ≡ false → b ≡ false → ◌≡◌ {A = ℕ} (if a then x else if b then y else 0) 0
no_byte false false x y f g = refl
no_byte true b x y f g = absurd (let h : ⊥ = cc in h)
no_byte false true x y f g = absurd (let h : ⊥ = cc in h)

empty-byte : (seed rounds addr : ℕ) → 8192 ≤ addr → unit_byte (counter_unit seed rounds) addr ≡ 0
empty-byte seed rounds addr from = no_byte (nat_le 4096 addr && nat_lt addr 4196) (nat_le 8192 addr && nat_lt addr (8192 + 0)) _ _ (grind (arith, from)) (grind (arith, from))

first_value : (seed rounds mem index : ℕ) → 8320 ≤ mem → index < 16 → value_at (values_below mem (unit_byte (counter_unit seed rounds))) (counter_place index) ≡ 0
unfolding number_of
first_value seed rounds mem index room known =
    word-is mem (unit_byte (counter_unit seed rounds)) (counter_at index) (replicate 4 0) (omega (arith, room, known)) refl
    (λ j below. empty-byte seed rounds (counter_at index + j) (omega arith) ∙ sym (get_or-replicate 4 j 0 0 below))

-- ---- each thread's run

-- a thread that goes on from its start to an exit call with code 0
tries_from_start : (seed rounds : ℕ) (size : Numbers) (t : ℕ) (pairs : List Pair) → 65536 ≤ size.mem → rounds < 2 ^ 32
    → RunsOn (counter_image seed rounds size) (Exit 0) (thread_start a32 (counter_image seed rounds size) size size.threads t) pairs
    → AreTries (named_in (first_draw seed t) rounds) pairs
tries_from_start seed rounds size t pairs room few on =
    let g : CounterGuest = record { seed = seed; rounds = rounds; size = size; t = t; n = size.threads; sp = room_of size + 4096 * (t + 1); room = room; few = few } in
    starts_so g pairs on

-- so does one that left with code 0
pub tries_of_run : (seed rounds budget t steps : ℕ) (size : Numbers) (pairs : List Pair) (output : List ℕ) → 65536 ≤ size.mem → rounds ≤ 50000
    → EndsOn a32 (counter_image seed rounds size) budget (thread_start a32 (counter_image seed rounds size) size size.threads t) pairs (Exit 0) steps output
    → AreTries (named_in (first_draw seed t) rounds) pairs
tries_of_run seed rounds budget t steps size pairs output room few ends =
    let program = counter_image seed rounds size in
    tries_from_start seed rounds size t pairs room (omega (arith, few))
    (runs_on program budget (thread_start a32 program size size.threads t) pairs (Exit 0) steps output ends)

-- the accesses of each thread
own_stores : (seed rounds budget : ℕ) (size : Numbers) (history : List Entry) (ends : List GuestEnd) → 65536 ≤ size.mem → rounds < 2 ^ 32
    → IsOutcome a32 (counter_image seed rounds size) size budget history ends → HaveLeft ends
    → (t : ℕ) → t < size.threads → AreAdditions t counter_place (named_in (first_draw seed t) rounds) (entries_of t (accesses_of history))
own_stores seed rounds budget size history ends room few outcome left t member =
    let named = named_in (first_draw seed t) rounds in
    let tries = tries_from_start seed rounds size t (pairs_of t history) room few
    (left_run (counter_image seed rounds size) size budget history ends outcome left t member) in
    subst (AreAdditions t counter_place named) (own_first t history)
    (stores_of t named (pairs_of t history) tries (accesses_of (entries_of t history)) (own_accesses t history) refl)

-- ---- how often each counter is named

one_at-le : (index named : ℕ) → one_at index named ≤ 1
one_at-le index named = by_case (named == index)
  where
    by_case : (b : Bool) → (if b then 1 else 0) ≤ 1
    by_case true = omega arith
    by_case false = omega arith

namings_in-le : (x rounds index : ℕ) → namings_in x rounds index ≤ rounds
unfolding namings_in
namings_in-le x zero index = omega arith
namings_in-le x (suc rounds) index =
    let rest = namings_in-le (drawn_after x) rounds index in
    let one = one_at-le index (named_by (drawn_after x)) in
    omega (arith, rest, one)

namings_of-below : (seed threads rounds index : ℕ) → sum_below (λ t. namings_in (first_draw seed t) rounds index) threads ≡ namings_of seed threads rounds index
unfolding namings_of
namings_of-below seed zero rounds index = refl
namings_of-below seed (suc t) rounds index = ap (λ (n : ℕ). n + namings_in (first_draw seed t) rounds index) (namings_of-below seed t rounds index)

pub namings_of-le : (seed threads rounds index : ℕ) → namings_of seed threads rounds index ≤ threads * rounds
unfolding namings_of
namings_of-le seed zero rounds index = omega arith
namings_of-le seed (suc t) rounds index =
    let rest = namings_of-le seed t rounds index in
    let one = namings_in-le (first_draw seed t) rounds index in
    rw (suc-mul t rounds) (omega (arith, rest, one))

-- ---- all together

pub counters_hold : (seed rounds budget : ℕ) (size : Numbers) (history : List Entry) (ends : List GuestEnd)
    → 65536 ≤ size.mem → size.threads ≤ 16 → rounds ≤ 50000
    → IsOutcome a32 (counter_image seed rounds size) size budget history ends → HaveLeft ends
    → (index : ℕ) → index < 16
    → value_at (monitor_after (at_rest_by size.granule (counter_image seed rounds size).bytes size.threads) (accesses_of history)).memory (counter_place index)
    ≡ namings_of seed size.threads rounds index
counters_hold seed rounds budget size history ends room crew few outcome left index known =
    let program = counter_image seed rounds size in
    let accesses = accesses_of history in
    let own = own_stores seed rounds budget size history ends room (omega (arith, few)) outcome left in
    let counted : AreCounted counter_words size.granule program.bytes size.threads (λ t. named_in (first_draw seed t) rounds) accesses = record {
      legal = outcome.legal.accesses;
      each = own;
      below = λ t. below-named_in (first_draw seed t) rounds;
      room = λ i low. omega (arith, low, room, length-values_below size.mem (unit_byte (counter_unit seed rounds)));
      empty = λ i low. first_value seed rounds size.mem i (omega (arith, room)) low;
      few = λ i low. bounded i low;
    } in
    holds_writes counter_words size.granule program.bytes size.threads (λ t. named_in (first_draw seed t) rounds) accesses counted index known
    ∙ sum index known
  where
    sum : (i : ℕ) → i < 16 → writes_of (is_at (counter_place i)) (accesses_of history) ≡ namings_of seed size.threads rounds i
    sum i low =
        writes_by_threads (at_rest_by size.granule (counter_image seed rounds size).bytes size.threads) size.threads (is_at (counter_place i)) (accesses_of history) (length-replicate size.threads _) outcome.legal.accesses
        ∙ sum_below-same _ (λ t. namings_in (first_draw seed t) rounds i) size.threads (λ t member.
        additions-times counter_words t i (named_in (first_draw seed t) rounds) (entries_of t (accesses_of history)) low (below-named_in (first_draw seed t) rounds)
        (own_stores seed rounds budget size history ends room (omega (arith, few)) outcome left t member)
        ∙ times-named_in i (first_draw seed t) rounds)
        ∙ namings_of-below seed size.threads rounds i

    bounded : (i : ℕ) → i < 16 → writes_of (is_at (counter_place i)) (accesses_of history) < 2 ^ 32
    bounded i low =
        let is = sum i low in
        let most = namings_of-le seed size.threads rounds i in
        let all : size.threads * rounds ≤ 16 * 50000 = mul-le-mul crew few in
        omega (arith, is, most, all)

-- what the ranges of the numbers say
pub most : (threads rounds : ℕ) → AreInRange threads rounds → (threads ≤ 16) × (rounds ≤ 50000)
most threads rounds is = (grind (arith, is), grind (arith, is))
