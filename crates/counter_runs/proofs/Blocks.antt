-- The blocks of the counter guest: what is left of a run at the end of each, by what was left at its beginning. In each chain of
-- instructions the last one stands first.
use Rattle.llsc_base.specs.Effects.{asks_unless}
use Rattle.std.proofs.Common.{◌≡◌, ℕ, suc, ◌+◌, ◌*◌, ◌/◌, ◌%◌, ◌^◌, ◌<◌, ◌==◌, Bool, true, false, List, [], ◌∷◌, None, pos, negsuc, nat_le, refl, ap, subst, arith}
use Rattle.llsc_base.specs.Images.{bar_of}
use Rattle.llsc_base.specs.Memory.{is_aligned}
use Rattle.llsc_base.specs.declared.access.Size.TheVariants.{B4}
use Rattle.a32_instr.specs.declared.conditions.Flags.{Flags}
use Rattle.a32_instr.specs.declared.instructions.Instr.TheVariants.{Alu, Branch, LoadEx, Mla, Movt, Movw, StoreEx, Svc}
use Rattle.a32_instr.specs.declared.instructions.AluOp.TheVariants.{Add, Cmp, Mov, Sub}
use Rattle.a32_instr.specs.declared.instructions.Operand2.TheVariants.{ByNum, Imm}
use Rattle.a32_instr.specs.declared.instructions.ShiftKind.TheVariants.{Lsl, Lsr}
use Rattle.llsc_base.specs.declared.outside.Ask.TheVariants as ask
use Rattle.llsc_base.specs.declared.outside.Stop.TheVariants.{Exit}
use Rattle.a32_instr.specs.Branch.{target_of}
use Rattle.a32_instr.specs.Condition.{passes}
use Rattle.a32_instr.specs.Shift.{shifted_left, shifted_right, turned}
use Rattle.a32_instr.specs.Sum.{sum_of}
use Rattle.elf32.proofs.Unbarred.{unbarred}
use Rattle.guest_calls.specs.Run.{Pair}
use Rattle.a32_guests.proofs.Branching.{beq-falls, bne-falls, bne-jumps, other_clears, zero_sets}
use Rattle.a32_guests.proofs.Onward.{calls_exit, does, in_full, tries_freely}
use Rattle.guest_gen.specs.Counters.{counter_at, counter_place, counter_unit, high_half, low_half}
use Rattle.guest_gen.specs.Namings.{drawn_after, first_draw, named_by}
use Rattle.counter_runs.specs.Tries.{one_more}
use Rattle.counter_runs.proofs.States.{CounterGuest, From, at, looped_at, no_flags, program_of, state_at}

-- ---- from the start to the loop

pub to_loop : (g : CounterGuest) (pairs : List Pair) → From g (state_at g 4096 no_flags 0 0 0 0 0 0 0 0) pairs
    → From g (looped_at g 4136 no_flags (first_draw g.seed g.t) g.rounds 0 0 0) pairs
unfolding passes sum_of turned
to_loop g pairs on =
    let z = g.seed % 2 ^ 32 in
    let p = program_of g in
    let draw : (high_half z * 65536 + low_half z % 65536 + g.t + 0) % 2 ^ 32 ≡ first_draw g.seed g.t = omega arith in
    let rounds : high_half g.rounds * 65536 + low_half g.rounds % 65536 ≡ g.rounds = omega arith in
    subst (λ (x : ℕ). From g (looped_at g 4136 no_flags x g.rounds 0 0 0) pairs) draw
    (subst (λ (q : ℕ). From g (looped_at g 4136 no_flags ((high_half z * 65536 + low_half z % 65536 + g.t + 0) % 2 ^ 32) q 0 0 0) pairs) rounds
    (does p (Exit 0) _ _ (Alu 14 Mov false 9 0 (Imm 10 2)) pairs (at g 9 _ refl) refl
    (does p (Exit 0) _ _ (Movt 14 8 (high_half g.rounds)) pairs (at g 8 _ refl) refl
    (does p (Exit 0) _ _ (Movw 14 8 (low_half g.rounds)) pairs (at g 7 _ refl) refl
    (does p (Exit 0) _ _ (Movt 14 6 15470) pairs (at g 6 _ refl) refl
    (does p (Exit 0) _ _ (Movw 14 6 62303) pairs (at g 5 _ refl) refl
    (does p (Exit 0) _ _ (Movt 14 5 25) pairs (at g 4 _ refl) refl
    (does p (Exit 0) _ _ (Movw 14 5 26125) pairs (at g 3 _ refl) refl
    (does p (Exit 0) _ _ (Alu 14 Add false 4 4 (ByNum 0 Lsl 0)) pairs (at g 2 _ refl) refl
    (does p (Exit 0) _ _ (Movt 14 4 (high_half z)) pairs (at g 1 _ refl) refl
    (does p (Exit 0) (state_at g 4096 no_flags 0 0 0 0 0 0 0 0) _ (Movw 14 4 (low_half z)) pairs (at g 0 _ refl) refl on)))))))))))

-- ---- the end

-- no round is left: the thread leaves
pub left : (g : CounterGuest) (flags : Flags) (x r10 r11 r12 : ℕ) (pairs : List Pair) → From g (looped_at g 4136 flags x 0 r10 r11 r12) pairs → pairs ≡ []
unfolding passes sum_of turned target_of
left g flags x r10 r11 r12 pairs on =
    let p = program_of g in
    let stopped = calls_exit p (Exit 0) _ (Svc 14 0) (record { imm = 0; number = 1; a = 0; b = g.n; c = 0 }) 0 pairs (at g 24 _ refl) refl (λ written. refl)
    (does p (Exit 0) _ _ (Alu 14 Mov false 7 0 (Imm 0 1)) pairs (at g 23 _ refl) refl
    (does p (Exit 0) _ _ (Alu 14 Mov false 0 0 (Imm 0 0)) pairs (at g 22 _ refl) refl
    (does p (Exit 0) _ _ (Branch 0 false (pos 9)) pairs (at g 11 _ refl) refl
    (does p (Exit 0) (looped_at g 4136 flags x 0 r10 r11 r12) _ (Alu 14 Cmp true 0 8 (Imm 0 0)) pairs (at g 10 _ refl) refl on)))) in
    stopped.none

-- ---- the draw of a round

-- the flags after a number was compared with 0
abbrev pub compared : ℕ → Flags
compared x = record {
  n = nat_le (2 ^ 31) ((x + 4294967295 + 1) % 2 ^ 32);
  z = (x + 4294967295 + 1) % 2 ^ 32 == 0;
  c = nat_le (2 ^ 32) (x + 4294967295 + 1);
  v = (sum_of x 4294967295 1).overflow;
}

-- the generator's number as the multiplication has it, and the counter's address
abbrev multiplied : ℕ → ℕ
multiplied x = (x * 1664525 + 1013904223) % 2 ^ 32

abbrev address : ℕ → ℕ
address y = (8192 + y / 2 ^ 28 * 2 ^ 3 % 2 ^ 32 + 0) % 2 ^ 32

pub to_try : (g : CounterGuest) (flags : Flags) (x q r10 r11 r12 : ℕ) (pairs : List Pair) → suc q < 2 ^ 32
    → From g (looped_at g 4136 flags x (suc q) r10 r11 r12) pairs
    → From g (looped_at g 4156 (compared (suc q)) (drawn_after x) (suc q) (counter_at (named_by (drawn_after x))) r11 r12) pairs
unfolding passes sum_of turned shifted_left shifted_right
to_try g flags x q r10 r11 r12 pairs few on =
    let p = program_of g in
    let same : multiplied x ≡ drawn_after x = omega arith in
    let there : address (drawn_after x) ≡ counter_at (named_by (drawn_after x)) = omega arith in
    subst (λ (a : ℕ). From g (looped_at g 4156 (compared (suc q)) (drawn_after x) (suc q) a r11 r12) pairs) there
    (subst (λ (y : ℕ). From g (looped_at g 4156 (compared (suc q)) y (suc q) (address y) r11 r12) pairs) same
    (does p (Exit 0) _ _ (Alu 14 Add false 10 9 (ByNum 10 Lsl 3)) pairs (at g 14 _ refl) refl
    (does p (Exit 0) _ _ (Alu 14 Mov false 10 0 (ByNum 4 Lsr 28)) pairs (at g 13 _ refl) refl
    (does p (Exit 0) _ _ (Mla 14 false 4 4 5 6) pairs (at g 12 _ refl) refl
    (does p (Exit 0) _ _ (Branch 0 false (pos 9)) pairs (at g 11 _ refl) (beq-falls p _ (pos 9) (other_clears (suc q) (λ none. absurd (omega (arith, none))) few))
    (does p (Exit 0) (looped_at g 4136 flags x (suc q) r10 r11 r12) _ (Alu 14 Cmp true 0 8 (Imm 0 0)) pairs (at g 10 _ refl) refl on))))))

-- ---- a try

aligned : (index : ℕ) → is_aligned (counter_place index) ≡ true
aligned index = grind arith

-- nothing stands against an access to a counter
free : (g : CounterGuest) (index : ℕ) (store : Bool) → index < 16 → bar_of (program_of g) (counter_place index) store ≡ None
free g index store known =
    unbarred (counter_unit g.seed g.rounds) g.size (counter_place index) store (aligned index) (omega arith) (omega (arith, known, g.room))

-- one load-exclusive
pub record HasLoaded (g : CounterGuest) (flags : Flags) (x left index r12 : ℕ) (pairs : List Pair) : Type 0 where
  pub value : ℕ
  pub rest : List Pair
  pub are : pairs ≡ (ask.LoadEx (counter_place index), value) ∷ rest
  pub on : From g (looped_at g 4164 flags x left (counter_at index) (one_more value) r12) rest

pub loaded : (g : CounterGuest) (flags : Flags) (x left index r11 r12 : ℕ) (pairs : List Pair) → index < 16
    → From g (looped_at g 4156 flags x left (counter_at index) r11 r12) pairs → HasLoaded g flags x left index r12 pairs
unfolding passes sum_of turned
loaded g flags x left index r11 r12 pairs known on =
    let p = program_of g in
    let loads = in_full 0 pairs (tries_freely p (Exit 0) (looped_at g 4156 flags x left (counter_at index) r11 r12)
    (λ v. looped_at g 4160 flags x left (counter_at index) (v % 2 ^ 32) r12)
    (LoadEx 14 B4 10 11) (ask.LoadEx (counter_place index)) pairs (at g 15 _ refl)
    (ap (λ b. asks_unless b (counter_at index) (ask.LoadEx (counter_place index))) (free g index false known))
    (λ reply. refl) on) in
    record {
      value = loads.reply;
      rest = loads.rest;
      are = loads.are;
      on = more loads.reply loads.rest loads.on;
    }
  where
    plus_none : (v : ℕ) → (v % 2 ^ 32 + 1 + 0) % 2 ^ 32 ≡ one_more v
    plus_none v = omega arith

    more : (v : ℕ) (rest : List Pair) → From g (looped_at g 4160 flags x left (counter_at index) (v % 2 ^ 32) r12) rest
        → From g (looped_at g 4164 flags x left (counter_at index) (one_more v) r12) rest
    more v rest run =
        subst (λ (w : ℕ). From g (looped_at g 4164 flags x left (counter_at index) w r12) rest) (plus_none v)
        (does (program_of g) (Exit 0) (looped_at g 4160 flags x left (counter_at index) (v % 2 ^ 32) r12) (looped_at g 4164 flags x left (counter_at index) ((v % 2 ^ 32 + 1 + 0) % 2 ^ 32) r12)
        (Alu 14 Add false 11 11 (Imm 0 1)) rest (at g 16 _ refl) refl run)

-- one store-exclusive, and the compare of what it was replied
pub record HasStored (g : CounterGuest) (x left index value : ℕ) (pairs : List Pair) : Type 0 where
  pub reply : ℕ
  pub rest : List Pair
  pub are : pairs ≡ (ask.StoreEx (counter_place index) value, reply) ∷ rest
  pub on : From g (looped_at g 4172 (compared (reply % 2 ^ 32)) x left (counter_at index) value (reply % 2 ^ 32)) rest

pub stored_so : (g : CounterGuest) (flags : Flags) (x left index value r12 : ℕ) (pairs : List Pair) → index < 16
    → From g (looped_at g 4164 flags x left (counter_at index) value r12) pairs → HasStored g x left index value pairs
unfolding passes sum_of turned
stored_so g flags x left index value r12 pairs known on =
    let p = program_of g in
    let stores = in_full 0 pairs (tries_freely p (Exit 0) (looped_at g 4164 flags x left (counter_at index) value r12)
    (λ r. looped_at g 4168 flags x left (counter_at index) value (r % 2 ^ 32))
    (StoreEx 14 B4 10 12 11) (ask.StoreEx (counter_place index) value) pairs (at g 17 _ refl)
    (ap (λ b. asks_unless b (counter_at index) (ask.StoreEx (counter_place index) value)) (free g index true known))
    (λ reply. refl) on) in
    record {
      reply = stores.reply;
      rest = stores.rest;
      are = stores.are;
      on = does p (Exit 0) (looped_at g 4168 flags x left (counter_at index) value (stores.reply % 2 ^ 32))
          (looped_at g 4172 (compared (stores.reply % 2 ^ 32)) x left (counter_at index) value (stores.reply % 2 ^ 32))
          (Alu 14 Cmp true 0 12 (Imm 0 0)) stores.rest (at g 18 _ refl) refl stores.on;
    }

-- ---- behind a try

-- it failed, and is made again
pub again : (g : CounterGuest) (x left index r11 reply : ℕ) (pairs : List Pair) → (reply % 2 ^ 32 ≡ 0 → ⊥)
    → From g (looped_at g 4172 (compared (reply % 2 ^ 32)) x left (counter_at index) r11 (reply % 2 ^ 32)) pairs
    → From g (looped_at g 4156 (compared (reply % 2 ^ 32)) x left (counter_at index) r11 (reply % 2 ^ 32)) pairs
unfolding target_of
again g x left index r11 reply pairs other on =
    does (program_of g) (Exit 0) (looped_at g 4172 (compared (reply % 2 ^ 32)) x left (counter_at index) r11 (reply % 2 ^ 32)) _
    (Branch 1 false (negsuc 5)) pairs (at g 19 _ refl)
    (bne-jumps (program_of g) (looped_at g 4172 (compared (reply % 2 ^ 32)) x left (counter_at index) r11 (reply % 2 ^ 32)) (negsuc 5) (other_clears (reply % 2 ^ 32) other (omega arith))) on

-- it stored, and one round less is left
pub onward : (g : CounterGuest) (x q index r11 reply : ℕ) (pairs : List Pair) → reply % 2 ^ 32 ≡ 0 → suc q < 2 ^ 32
    → From g (looped_at g 4172 (compared (reply % 2 ^ 32)) x (suc q) (counter_at index) r11 (reply % 2 ^ 32)) pairs
    → From g (looped_at g 4136 (compared (reply % 2 ^ 32)) x q (counter_at index) r11 (reply % 2 ^ 32)) pairs
unfolding passes sum_of turned target_of
onward g x q index r11 reply pairs zero_reply few on =
    let p = program_of g in
    let less : (suc q + 4294967294 + 1) % 2 ^ 32 ≡ q = omega (arith, few) in
    subst (λ (l : ℕ). From g (looped_at g 4136 (compared (reply % 2 ^ 32)) x l (counter_at index) r11 (reply % 2 ^ 32)) pairs) less
    (does p (Exit 0) _ _ (Branch 14 false (negsuc 12)) pairs (at g 21 _ refl) refl
    (does p (Exit 0) _ _ (Alu 14 Sub false 8 8 (Imm 0 1)) pairs (at g 20 _ refl) refl
    (does p (Exit 0) (looped_at g 4172 (compared (reply % 2 ^ 32)) x (suc q) (counter_at index) r11 (reply % 2 ^ 32)) _
    (Branch 1 false (negsuc 5)) pairs (at g 19 _ refl)
    (bne-falls p (looped_at g 4172 (compared (reply % 2 ^ 32)) x (suc q) (counter_at index) r11 (reply % 2 ^ 32)) (negsuc 5) (zero_sets (reply % 2 ^ 32) zero_reply)) on)))
