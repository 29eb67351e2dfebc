-- The blocks of the stack guest: what is left of a run at the end of each, by what was left at its beginning. In each chain of
-- instructions the last one stands first.
use Rattle.std.proofs.Common.{◌≡◌, ◌⊎◌, ℕ, suc, ◌+◌, ◌%◌, ◌^◌, ◌<◌, Bool, true, false, List, negsuc, refl, ap, subst, arith}
use Rattle.llsc_base.specs.Images.{bar_of}
use Rattle.llsc_base.specs.declared.access.Place.{Place}
use Rattle.llsc_base.specs.declared.access.Size.TheVariants.{B4}
use Rattle.a32_instr.specs.declared.conditions.Flags.{Flags}
use Rattle.a32_instr.specs.declared.instructions.Instr.TheVariants.{Alu, Branch, LoadEx, Movw, StoreEx, Svc, Word}
use Rattle.a32_instr.specs.declared.instructions.AluOp.TheVariants.{Add, Cmp, Mov, Sub}
use Rattle.a32_instr.specs.declared.instructions.Index.TheVariants.{Plain}
use Rattle.a32_instr.specs.declared.instructions.Offset.TheVariants as offset
use Rattle.a32_instr.specs.declared.instructions.Operand2.TheVariants.{Imm}
use Rattle.llsc_base.specs.declared.outside.Ask.{Ask}
use Rattle.llsc_base.specs.declared.outside.Ask.TheVariants as ask
use Rattle.llsc_base.specs.declared.outside.Stop.TheVariants.{Exit}
use Rattle.a32_instr.specs.Branch.{target_of}
use Rattle.a32_instr.specs.Condition.{passes}
use Rattle.a32_instr.specs.Shift.{turned}
use Rattle.a32_instr.specs.State.{State}
use Rattle.a32_instr.specs.Sum.{sum_of}
use Rattle.guest_calls.specs.Run.{Pair}
use Rattle.stack_runs.specs.Guest.{link_of, top}
use Rattle.a32_guests.proofs.Branching.{beq-falls, beq-jumps, bne-falls, bne-jumps, other_clears, zero_sets}
use Rattle.a32_guests.proofs.Onward.{HasTried, IsAtStop, IsEnded, calls_exit, does, tries}
use Rattle.stack_runs.proofs.Behind.{behind}
use Rattle.stack_runs.proofs.Protocol.{count_at}
use Rattle.stack_runs.proofs.States.{StackGuest, From, at, compared, looped_at, no_flags, program_of, state_at}

-- the place of a load or a store that moves its base by nothing
abbrev plain : ℕ → Place
plain n = record { addr = (n + 0) % 2 ^ 32; size = B4 }

plain-is : (n : ℕ) → n < 2 ^ 32 → plain n ≡ link_of n
plain-is n small =
    let same : (n + 0) % 2 ^ 32 ≡ n = omega (arith, small) in
    ap (λ (k : ℕ). record { addr = k; size = (link_of n).size }) same

-- ---- from the start to the first round

pub begun : (g : StackGuest) (pairs : List Pair) → From g (state_at g 4096 no_flags g.t g.n 0 0 0) pairs
    → From g (looped_at g 4104 no_flags g.t g.n 0 g.rounds) pairs
unfolding passes turned
begun g pairs on =
    let p = program_of g in
    does p g.stop _ _ (Movw 14 9 g.rounds) pairs (at g 1 _ refl) refl
    (does p g.stop (state_at g 4096 no_flags g.t g.n 0 0 0) _ (Alu 14 Mov false 8 0 (Imm 10 2)) pairs (at g 0 _ refl) refl on)

-- an access of a place comes, with a reply by which the run goes on from a state, or the run ends there
abbrev pub Makes : StackGuest → Place → (store : Bool) → Ask → (ℕ → State) → List Pair → Type 0
Makes g place store asked to pairs =
    HasTried (program_of g) g.stop asked to pairs ⊎ IsEnded g.stop place.addr (bar_of (program_of g) place store) pairs

-- ---- a pop

-- the top is loaded, and compared with 0
pub sees_top : (g : StackGuest) (flags : Flags) (r0 r1 r2 left : ℕ) (pairs : List Pair) → From g (looped_at g 4104 flags r0 r1 r2 left) pairs
    → Makes g top false (ask.LoadEx top) (λ v. looped_at g 4112 (compared (v % 2 ^ 32)) (v % 2 ^ 32) r1 r2 left) pairs
unfolding passes sum_of turned
sees_top g flags r0 r1 r2 left pairs on =
    let p = program_of g in
    behind p g.stop (ask.LoadEx top) (λ v. looped_at g 4108 flags (v % 2 ^ 32) r1 r2 left) _ pairs
    (λ v rest. does p g.stop (looped_at g 4108 flags (v % 2 ^ 32) r1 r2 left) _ (Alu 14 Cmp true 0 0 (Imm 0 0)) rest (at g 3 _ refl) refl)
    (tries p g.stop (looped_at g 4104 flags r0 r1 r2 left) _ (LoadEx 14 B4 8 0) (bar_of p top false) 8192 (ask.LoadEx top) pairs (at g 2 _ refl) refl (λ reply. refl) on)

-- there is none
pub finds_none : (g : StackGuest) (r0 r1 r2 left : ℕ) (pairs : List Pair) → r0 ≡ 0
    → From g (looped_at g 4112 (compared r0) r0 r1 r2 left) pairs → From g (looped_at g 4104 (compared r0) r0 r1 r2 left) pairs
unfolding target_of
finds_none g r0 r1 r2 left pairs none on =
    does (program_of g) g.stop (looped_at g 4112 (compared r0) r0 r1 r2 left) _ (Branch 0 false (negsuc 3)) pairs (at g 4 _ refl)
    (beq-jumps (program_of g) (looped_at g 4112 (compared r0) r0 r1 r2 left) (negsuc 3) (zero_sets r0 none)) on

-- there is one, and its link is loaded
pub looks_below : (g : StackGuest) (n r1 r2 left : ℕ) (pairs : List Pair) → (n ≡ 0 → ⊥) → n < 2 ^ 32
    → From g (looped_at g 4112 (compared n) n r1 r2 left) pairs
    → Makes g (link_of n) false (ask.Load (link_of n)) (λ v. looped_at g 4120 (compared n) n (v % 2 ^ 32) r2 left) pairs
unfolding passes
looks_below g n r1 r2 left pairs some small on =
    let p = program_of g in
    let next = does p g.stop (looped_at g 4112 (compared n) n r1 r2 left) (looped_at g 4116 (compared n) n r1 r2 left) (Branch 0 false (negsuc 3)) pairs (at g 4 _ refl)
    (beq-falls p (looped_at g 4112 (compared n) n r1 r2 left) (negsuc 3) (other_clears n some small)) on in
    subst (λ place. Makes g place false (ask.Load place) (λ v. looped_at g 4120 (compared n) n (v % 2 ^ 32) r2 left) pairs) (plain-is n small)
    (tries p g.stop (looped_at g 4116 (compared n) n r1 r2 left) _ (Word 14 true false Plain 0 1 (offset.Imm true 0)) (bar_of p (plain n) false) ((n + 0) % 2 ^ 32) (ask.Load (plain n)) pairs (at g 5 _ refl) refl (λ reply. refl) next)

-- that is to be the top
pub takes_off : (g : StackGuest) (flags : Flags) (n x r2 left : ℕ) (pairs : List Pair) → From g (looped_at g 4120 flags n x r2 left) pairs
    → Makes g top true (ask.StoreEx top x) (λ r. looped_at g 4128 (compared (r % 2 ^ 32)) n x (r % 2 ^ 32) left) pairs
unfolding passes sum_of turned
takes_off g flags n x r2 left pairs on =
    let p = program_of g in
    behind p g.stop (ask.StoreEx top x) (λ r. looped_at g 4124 flags n x (r % 2 ^ 32) left) _ pairs
    (λ r rest. does p g.stop (looped_at g 4124 flags n x (r % 2 ^ 32) left) _ (Alu 14 Cmp true 0 2 (Imm 0 0)) rest (at g 7 _ refl) refl)
    (tries p g.stop (looped_at g 4120 flags n x r2 left) _ (StoreEx 14 B4 8 2 1) (bar_of p top true) 8192 (ask.StoreEx top x) pairs (at g 6 _ refl) refl (λ reply. refl) on)

-- it failed
pub pops_again : (g : StackGuest) (n x r2 left : ℕ) (pairs : List Pair) → (r2 ≡ 0 → ⊥) → r2 < 2 ^ 32
    → From g (looped_at g 4128 (compared r2) n x r2 left) pairs → From g (looped_at g 4104 (compared r2) n x r2 left) pairs
unfolding target_of
pops_again g n x r2 left pairs other small on =
    does (program_of g) g.stop (looped_at g 4128 (compared r2) n x r2 left) _ (Branch 1 false (negsuc 7)) pairs (at g 8 _ refl)
    (bne-jumps (program_of g) (looped_at g 4128 (compared r2) n x r2 left) (negsuc 7) (other_clears r2 other small)) on

-- it stored: the node is the thread's
pub has_popped : (g : StackGuest) (n x r2 left : ℕ) (pairs : List Pair) → r2 ≡ 0
    → From g (looped_at g 4128 (compared r2) n x r2 left) pairs → From g (looped_at g 4132 (compared r2) n x r2 left) pairs
has_popped g n x r2 left pairs done on =
    let p = program_of g in
    does p g.stop (looped_at g 4128 (compared r2) n x r2 left) _ (Branch 1 false (negsuc 7)) pairs (at g 8 _ refl)
    (bne-falls p (looped_at g 4128 (compared r2) n x r2 left) (negsuc 7) (zero_sets r2 done)) on

-- its count is loaded
pub reads_count : (g : StackGuest) (flags : Flags) (n x r2 left : ℕ) (pairs : List Pair) → From g (looped_at g 4132 flags n x r2 left) pairs
    → Makes g (count_at n) false (ask.Load (count_at n)) (λ v. looped_at g 4140 flags n ((v % 2 ^ 32 + 1) % 2 ^ 32) r2 left) pairs
unfolding passes sum_of turned
reads_count g flags n x r2 left pairs on =
    let p = program_of g in
    behind p g.stop (ask.Load (count_at n)) (λ v. looped_at g 4136 flags n (v % 2 ^ 32) r2 left) _ pairs more
    (tries p g.stop (looped_at g 4132 flags n x r2 left) _ (Word 14 true false Plain 0 1 (offset.Imm true 4)) (bar_of p (count_at n) false) ((n + 4) % 2 ^ 32) (ask.Load (count_at n)) pairs (at g 9 _ refl) refl (λ reply. refl) on)
  where
    plus_none : (v : ℕ) → (v % 2 ^ 32 + 1 + 0) % 2 ^ 32 ≡ (v % 2 ^ 32 + 1) % 2 ^ 32
    plus_none v = omega arith

    more : (v : ℕ) (rest : List Pair) → From g (looped_at g 4136 flags n (v % 2 ^ 32) r2 left) rest
        → From g (looped_at g 4140 flags n ((v % 2 ^ 32 + 1) % 2 ^ 32) r2 left) rest
    more v rest run =
        subst (λ (w : ℕ). From g (looped_at g 4140 flags n w r2 left) rest) (plus_none v)
        (does (program_of g) g.stop (looped_at g 4136 flags n (v % 2 ^ 32) r2 left) _ (Alu 14 Add false 1 1 (Imm 0 1)) rest (at g 10 _ refl) refl run)

-- one more is stored
pub adds_one : (g : StackGuest) (flags : Flags) (n c r2 left : ℕ) (pairs : List Pair) → From g (looped_at g 4140 flags n c r2 left) pairs
    → Makes g (count_at n) true (ask.Store (count_at n) c) (λ r. looped_at g 4144 flags n c r2 left) pairs
unfolding passes
adds_one g flags n c r2 left pairs on =
    let p = program_of g in
    tries p g.stop (looped_at g 4140 flags n c r2 left) _ (Word 14 false false Plain 0 1 (offset.Imm true 4)) (bar_of p (count_at n) true) ((n + 4) % 2 ^ 32) (ask.Store (count_at n) c) pairs (at g 11 _ refl) refl (λ reply. refl) on

-- ---- a push

-- the top is loaded
pub finds_top : (g : StackGuest) (flags : Flags) (n r1 r2 left : ℕ) (pairs : List Pair) → From g (looped_at g 4144 flags n r1 r2 left) pairs
    → Makes g top false (ask.LoadEx top) (λ v. looped_at g 4148 flags n (v % 2 ^ 32) r2 left) pairs
unfolding passes
finds_top g flags n r1 r2 left pairs on =
    let p = program_of g in
    tries p g.stop (looped_at g 4144 flags n r1 r2 left) _ (LoadEx 14 B4 8 1) (bar_of p top false) 8192 (ask.LoadEx top) pairs (at g 12 _ refl) refl (λ reply. refl) on

-- and stored as the node's link
pub links_node : (g : StackGuest) (flags : Flags) (n x r2 left : ℕ) (pairs : List Pair) → n < 2 ^ 32 → From g (looped_at g 4148 flags n x r2 left) pairs
    → Makes g (link_of n) true (ask.Store (link_of n) x) (λ r. looped_at g 4152 flags n x r2 left) pairs
unfolding passes
links_node g flags n x r2 left pairs small on =
    let p = program_of g in
    subst (λ place. Makes g place true (ask.Store place x) (λ r. looped_at g 4152 flags n x r2 left) pairs) (plain-is n small)
    (tries p g.stop (looped_at g 4148 flags n x r2 left) _ (Word 14 false false Plain 0 1 (offset.Imm true 0)) (bar_of p (plain n) true) ((n + 0) % 2 ^ 32) (ask.Store (plain n) x) pairs (at g 13 _ refl) refl (λ reply. refl) on)

-- the node is to be the top
pub puts_on : (g : StackGuest) (flags : Flags) (n x r2 left : ℕ) (pairs : List Pair) → From g (looped_at g 4152 flags n x r2 left) pairs
    → Makes g top true (ask.StoreEx top n) (λ r. looped_at g 4160 (compared (r % 2 ^ 32)) n x (r % 2 ^ 32) left) pairs
unfolding passes sum_of turned
puts_on g flags n x r2 left pairs on =
    let p = program_of g in
    behind p g.stop (ask.StoreEx top n) (λ r. looped_at g 4156 flags n x (r % 2 ^ 32) left) _ pairs
    (λ r rest. does p g.stop (looped_at g 4156 flags n x (r % 2 ^ 32) left) _ (Alu 14 Cmp true 0 2 (Imm 0 0)) rest (at g 15 _ refl) refl)
    (tries p g.stop (looped_at g 4152 flags n x r2 left) _ (StoreEx 14 B4 8 2 0) (bar_of p top true) 8192 (ask.StoreEx top n) pairs (at g 14 _ refl) refl (λ reply. refl) on)

-- it failed
pub pushes_again : (g : StackGuest) (n x r2 left : ℕ) (pairs : List Pair) → (r2 ≡ 0 → ⊥) → r2 < 2 ^ 32
    → From g (looped_at g 4160 (compared r2) n x r2 left) pairs → From g (looped_at g 4144 (compared r2) n x r2 left) pairs
unfolding target_of
pushes_again g n x r2 left pairs other small on =
    does (program_of g) g.stop (looped_at g 4160 (compared r2) n x r2 left) _ (Branch 1 false (negsuc 5)) pairs (at g 16 _ refl)
    (bne-jumps (program_of g) (looped_at g 4160 (compared r2) n x r2 left) (negsuc 5) (other_clears r2 other small)) on

-- it stored, one round less is left, and that is compared with 0
pub counts_down : (g : StackGuest) (n x r2 q : ℕ) (pairs : List Pair) → r2 ≡ 0 → suc q < 2 ^ 32
    → From g (looped_at g 4160 (compared r2) n x r2 (suc q)) pairs → From g (looped_at g 4172 (compared q) n x r2 q) pairs
unfolding passes sum_of turned
counts_down g n x r2 q pairs done few on =
    let p = program_of g in
    let less : (suc q + 4294967294 + 1) % 2 ^ 32 ≡ q = omega (arith, few) in
    subst (λ (l : ℕ). From g (looped_at g 4172 (compared l) n x r2 l) pairs) less
    (does p g.stop _ _ (Alu 14 Cmp true 0 9 (Imm 0 0)) pairs (at g 18 _ refl) refl
    (does p g.stop _ _ (Alu 14 Sub false 9 9 (Imm 0 1)) pairs (at g 17 _ refl) refl
    (does p g.stop (looped_at g 4160 (compared r2) n x r2 (suc q)) _ (Branch 1 false (negsuc 5)) pairs (at g 16 _ refl)
    (bne-falls p (looped_at g 4160 (compared r2) n x r2 (suc q)) (negsuc 5) (zero_sets r2 done)) on)))

-- there is one more
pub next_round : (g : StackGuest) (n x r2 q : ℕ) (pairs : List Pair) → (q ≡ 0 → ⊥) → q < 2 ^ 32
    → From g (looped_at g 4172 (compared q) n x r2 q) pairs → From g (looped_at g 4104 (compared q) n x r2 q) pairs
unfolding target_of
next_round g n x r2 q pairs some few on =
    does (program_of g) g.stop (looped_at g 4172 (compared q) n x r2 q) _ (Branch 1 false (negsuc 18)) pairs (at g 19 _ refl)
    (bne-jumps (program_of g) (looped_at g 4172 (compared q) n x r2 q) (negsuc 18) (other_clears q some few)) on

-- there is none: the thread leaves
pub leaves : (g : StackGuest) (n x r2 q : ℕ) (pairs : List Pair) → q ≡ 0
    → From g (looped_at g 4172 (compared q) n x r2 q) pairs → IsAtStop g.stop (Exit 0) pairs
unfolding passes turned
leaves g n x r2 q pairs none on =
    let p = program_of g in
    calls_exit p g.stop _ (Svc 14 0) (record { imm = 0; number = 1; a = 0; b = x; c = r2 }) 0 pairs (at g 22 _ refl) refl (λ written. refl)
    (does p g.stop _ _ (Alu 14 Mov false 7 0 (Imm 0 1)) pairs (at g 21 _ refl) refl
    (does p g.stop _ _ (Alu 14 Mov false 0 0 (Imm 0 0)) pairs (at g 20 _ refl) refl
    (does p g.stop (looped_at g 4172 (compared q) n x r2 q) _ (Branch 1 false (negsuc 18)) pairs (at g 19 _ refl)
    (bne-falls p (looped_at g 4172 (compared q) n x r2 q) (negsuc 18) (zero_sets q none)) on)))
