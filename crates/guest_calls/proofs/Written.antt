-- The bytes of a write lie in memory, and have room in the output.
use Rattle.std.proofs.Common.{◌≡◌, ℕ, ◌+◌, ◌≤◌, ◌==◌, ◌||◌, ◌%◌, nat_lt, not, if◌then◌else◌, Bool, true, false, refl, subst}
use Rattle.std.proofs.lemmas.Bool.{ltb-false}
use Rattle.llsc_base.specs.declared.outside.CallAsk.{CallAsk}
use Rattle.guest_calls.specs.Calls.{CallEffect, exits, answers, writes_bytes, call_effect, write_effect, no_call, bad_descriptor, bad_address, no_room, most_output}

written : (descriptor none past full : Bool) (buffer number from count : ℕ)
    → (if descriptor then answers bad_descriptor else if none then answers 0 else if past then answers bad_address else if full then answers no_room else writes_bytes buffer number) ≡ writes_bytes from count
    → (past ≡ false) × (full ≡ false) × (buffer ≡ from) × (number ≡ count)
written true none past full buffer number from count same = cc
written false true past full buffer number from count same = cc
written false false true full buffer number from count same = cc
written false false false true buffer number from count same = cc
written false false false false buffer number from count same = (refl, refl, cc, cc)

called : (other exit write yield : Bool) (code : ℕ) (wrote : CallEffect) (from count : ℕ)
    → (if other then answers no_call else if exit then exits code else if write then wrote else if yield then answers 0 else answers no_call) ≡ writes_bytes from count
    → wrote ≡ writes_bytes from count
called true exit write yield code wrote from count same = cc
called false true write yield code wrote from count same = cc
called false false true yield code wrote from count same = same
called false false false true code wrote from count same = cc
called false false false false code wrote from count same = cc

-- they lie in memory, and the thread may write so many more
pub written_within : (call : CallAsk) (mem wrote from count : ℕ) → call_effect call mem wrote ≡ writes_bytes from count
    → (from + count ≤ mem) × (wrote + count ≤ most_output)
written_within call mem wrote from count same =
    let write =
    called (not (call.imm == 0)) (call.number == 1) (call.number == 4) (call.number == 158) (call.a % 256) (write_effect call.a call.b call.c mem wrote) from count same in
    let bytes =
    written (not ((call.a == 1) || (call.a == 2))) (call.c == 0) (nat_lt mem (call.b + call.c)) (nat_lt most_output (wrote + call.c)) call.b call.c from count write in
    let inside : call.b + call.c ≤ mem = ltb-false mem (call.b + call.c) bytes.0 in
    let room : wrote + call.c ≤ most_output = ltb-false most_output (wrote + call.c) bytes.1 in
    let start : call.b ≡ from = bytes.2 in
    let number : call.c ≡ count = bytes.3 in (
      subst (λ f. f + count ≤ mem) start (subst (λ n. call.b + n ≤ mem) number inside),
      subst (λ n. wrote + n ≤ most_output) number room,
    )
