-- All rounds of a thread of the stack guest: it goes by the protocol. The induction is over how many accesses are left.
use Rattle.std.proofs.Common.{◌≡◌, ℕ, zero, suc, ◌+◌, ◌%◌, ◌^◌, ◌<◌, ◌≤◌, Bool, true, false, Option, List, [], ◌∷◌, length, refl, sym, ap, subst, arith, inl, inr}
use Rattle.std.proofs.lemmas.Bool.{cases_eq}
use Rattle.llsc_base.specs.Images.{bar_of}
use Rattle.llsc_base.specs.declared.access.Bar.{Bar}
use Rattle.llsc_base.specs.declared.outside.Ask.TheVariants as ask
use Rattle.a32_instr.specs.declared.conditions.Flags.{Flags}
use Rattle.guest_calls.specs.Run.{Pair}
use Rattle.stack_runs.specs.Guest.{link_of, top}
use Rattle.stack_runs.proofs.Blocks.{adds_one, begun, counts_down, finds_none, finds_top, has_popped, leaves, links_node, looks_below, next_round, pops_again, pushes_again, puts_on, reads_count, sees_top, takes_off}
use Rattle.a32_guests.proofs.Onward.{IsEnded, NoneCame, was_barred, was_cut}
use Rattle.stack_runs.proofs.Protocol.{Does, Point, Step, at_bar, below, count_at, counted, cut, full, held, idle, linked, over, placed, seen, waits, sees, looks, pops, pop_fails, reads, counts, looks_up, links, pushes, push_fails, wanted}
use Rattle.guest_calls.proofs.Protocols.{ends, goes}
use Rattle.stack_runs.proofs.States.{StackGuest, From, compared, looped_at, no_flags, program_of, state_at}

-- what a thread does from a point on
abbrev GoesOn : StackGuest → Point → List Pair → Type 0
GoesOn g point pairs = Does (program_of g) g.stop point pairs

-- one access first
goes_by : (g : StackGuest) (point later : Point) (pair : Pair) (pairs rest : List Pair) → pairs ≡ pair ∷ rest → Step point pair later
    → GoesOn g later rest → GoesOn g point pairs
goes_by g point later pair pairs rest are step go = subst (GoesOn g point) (sym are) (goes point later pair rest step go)

-- or none
ends_by : (g : StackGuest) (point : Point) (store : Bool) (bar : Option Bar) → bar_of (program_of g) (wanted point) store ≡ bar
    → NoneCame g.stop (wanted point).addr bar → GoesOn g point []
ends_by g point store _ same (was_cut bar may) = ends point (cut point may)
ends_by g point store _ same (was_barred bar stopped) = ends point (at_bar point store bar same stopped)

none_by : (g : StackGuest) (point : Point) (store : Bool) (pairs : List Pair)
    → IsEnded g.stop (wanted point).addr (bar_of (program_of g) (wanted point) store) pairs → GoesOn g point pairs
none_by g point store pairs ended =
    subst (GoesOn g point) (sym ended.none) (ends_by g point store (bar_of (program_of g) (wanted point) store) refl ended.why)

-- how many are left behind it
shorter : (pair : Pair) (pairs rest : List Pair) (longest : ℕ) → pairs ≡ pair ∷ rest → length pairs ≤ suc longest → length rest ≤ longest
shorter pair pairs rest longest are most = let long : length pairs ≡ suc (length rest) = ap length are in omega (arith, long, most)

no_longer : (pair : Pair) (pairs rest : List Pair) (longest : ℕ) → pairs ≡ pair ∷ rest → length pairs ≤ longest → length rest ≤ longest
no_longer pair pairs rest longest are most = let long : length pairs ≡ suc (length rest) = ap length are in omega (arith, long, most)

none_empty : (pair : Pair) (pairs rest : List Pair) → pairs ≡ pair ∷ rest → length pairs ≤ 0 → ⊥
none_empty pair pairs rest are most = let long : length pairs ≡ suc (length rest) = ap length are in absurd (omega (arith, long, most))

low : (v : ℕ) → v % 2 ^ 32 < 2 ^ 32
low v = omega arith

-- what follows where so many accesses are left at most: at a pop, and at a push
abbrev Pops : StackGuest → ℕ → Type 0
Pops g longest = (q r0 r1 r2 : ℕ) (flags : Flags) (pairs : List Pair) → suc q < 2 ^ 32 → length pairs ≤ longest
    → From g (looped_at g 4104 flags r0 r1 r2 (suc q)) pairs → GoesOn g (idle (suc q)) pairs

abbrev Pushes : StackGuest → ℕ → Type 0
Pushes g longest = (q n r1 r2 : ℕ) (flags : Flags) (pairs : List Pair) → suc q < 2 ^ 32 → n < 2 ^ 32 → length pairs ≤ longest
    → From g (looped_at g 4144 flags n r1 r2 (suc q)) pairs → GoesOn g (full q n) pairs

-- ---- a pop

-- behind it
behind_pop : (g : StackGuest) (longest : ℕ) → Pushes g longest
    → (q n x r2 : ℕ) (rest : List Pair) → suc q < 2 ^ 32 → n < 2 ^ 32 → length rest ≤ longest
    → From g (looped_at g 4132 (compared r2) n x r2 (suc q)) rest → GoesOn g (held q n) rest
behind_pop g longest pushing q n x r2 rest few small most on =
    elim (reads_count g (compared r2) n x r2 (suc q) rest on) [
      | inr ended ↦ none_by g (held q n) false rest ended
      | inl got ↦
          let c = got.reply % 2 ^ 32 in
          goes_by g (held q n) (counted q n c) (ask.Load (count_at n), got.reply) rest got.rest got.are (reads q n got.reply)
          (elim (adds_one g (compared r2) n ((c + 1) % 2 ^ 32) r2 (suc q) got.rest got.on) [
            | inr ended ↦ none_by g (counted q n c) true got.rest ended
            | inl put ↦
                goes_by g (counted q n c) (full q n) (ask.Store (count_at n) ((c + 1) % 2 ^ 32), put.reply) got.rest put.rest put.are (counts q n c put.reply)
                (pushing q n ((c + 1) % 2 ^ 32) r2 (compared r2) put.rest few small
                (no_longer _ got.rest put.rest longest put.are (no_longer _ rest got.rest longest got.are most)) put.on)
          ])
    ]

-- from its store-exclusive on
takes_from : (g : StackGuest) (longest : ℕ) → Pops g longest → Pushes g longest
    → (q n x r2 : ℕ) (flags : Flags) (pairs : List Pair) → suc q < 2 ^ 32 → n < 2 ^ 32 → length pairs ≤ longest
    → From g (looped_at g 4120 flags n x r2 (suc q)) pairs → GoesOn g (below q n x) pairs
takes_from g longest popping pushing q n x r2 flags pairs few small most on =
    elim (takes_off g flags n x r2 (suc q) pairs on) [
      | inr ended ↦ none_by g (below q n x) true pairs ended
      | inl put ↦
          let less = no_longer (ask.StoreEx top x, put.reply) pairs put.rest longest put.are most in
          elim (cases_eq (put.reply % 2 ^ 32) 0) [
            | inl done ↦
                goes_by g (below q n x) (held q n) (ask.StoreEx top x, put.reply) pairs put.rest put.are (pops q n x put.reply done)
                (behind_pop g longest pushing q n x (put.reply % 2 ^ 32) put.rest few small less
                (has_popped g n x (put.reply % 2 ^ 32) (suc q) put.rest done put.on))
            | inr other ↦
                goes_by g (below q n x) (idle (suc q)) (ask.StoreEx top x, put.reply) pairs put.rest put.are (pop_fails q n x put.reply other)
                (popping q n x (put.reply % 2 ^ 32) (compared (put.reply % 2 ^ 32)) put.rest few less
                (pops_again g n x (put.reply % 2 ^ 32) (suc q) put.rest other (low put.reply) put.on))
          ]
    ]

pops_from : (g : StackGuest) (longest : ℕ) → Pops g longest → Pushes g longest → Pops g (suc longest)
pops_from g longest popping pushing q r0 r1 r2 flags pairs few most on =
    elim (sees_top g flags r0 r1 r2 (suc q) pairs on) [
      | inr ended ↦ none_by g (idle (suc q)) false pairs ended
      | inl first ↦
          let v = first.reply in
          let n = v % 2 ^ 32 in
          let left = shorter (ask.LoadEx top, v) pairs first.rest longest first.are most in
          elim (cases_eq (first.reply % 2 ^ 32) 0) [
            | inl none ↦
                goes_by g (idle (suc q)) (idle (suc q)) (ask.LoadEx top, v) pairs first.rest first.are (waits q v none)
                (popping q n r1 r2 (compared n) first.rest few left (finds_none g n r1 r2 (suc q) first.rest none first.on))
            | inr some ↦
                goes_by g (idle (suc q)) (seen q n) (ask.LoadEx top, v) pairs first.rest first.are (sees q v some)
                (elim (looks_below g n r1 r2 (suc q) first.rest some (low v) first.on) [
                  | inr ended ↦ none_by g (seen q n) false first.rest ended
                  | inl next ↦
                      let x = next.reply % 2 ^ 32 in
                      goes_by g (seen q n) (below q n x) (ask.Load (link_of n), next.reply) first.rest next.rest next.are (looks q n next.reply)
                      (takes_from g longest popping pushing q n x r2 (compared n) next.rest few (low v)
                      (no_longer _ first.rest next.rest longest next.are left) next.on)
                ])
          ]
    ]

-- ---- a push

-- behind its round
round_done : (g : StackGuest) (longest : ℕ) → Pops g longest → (q n x r2 : ℕ) (rest : List Pair) → q < 2 ^ 32 → length rest ≤ longest
    → From g (looped_at g 4172 (compared q) n x r2 q) rest → GoesOn g (idle q) rest
round_done g longest popping zero n x r2 rest few most on =
    let last = leaves g n x r2 0 rest refl on in
    subst (GoesOn g (idle 0)) (sym last.none) (elim last.why [
      | inl left ↦ ends (idle 0) (over left)
      | inr may ↦ ends (idle 0) (cut (idle 0) may)
    ])
round_done g longest popping (suc q) n x r2 rest few most on =
    popping q n x r2 (compared (suc q)) rest few most
    (next_round g n x r2 (suc q) rest (λ same. absurd (omega (arith, same))) few on)

-- from its store-exclusive on
puts_from : (g : StackGuest) (longest : ℕ) → Pops g longest → Pushes g longest
    → (q n x r2 : ℕ) (flags : Flags) (pairs : List Pair) → suc q < 2 ^ 32 → n < 2 ^ 32 → length pairs ≤ longest
    → From g (looped_at g 4152 flags n x r2 (suc q)) pairs → GoesOn g (placed q n x) pairs
puts_from g longest popping pushing q n x r2 flags pairs few small most on =
    elim (puts_on g flags n x r2 (suc q) pairs on) [
      | inr ended ↦ none_by g (placed q n x) true pairs ended
      | inl put ↦
          let less = no_longer (ask.StoreEx top n, put.reply) pairs put.rest longest put.are most in
          elim (cases_eq (put.reply % 2 ^ 32) 0) [
            | inl done ↦
                goes_by g (placed q n x) (idle q) (ask.StoreEx top n, put.reply) pairs put.rest put.are (pushes q n x put.reply done)
                (round_done g longest popping q n x (put.reply % 2 ^ 32) put.rest (omega (arith, few)) less
                (counts_down g n x (put.reply % 2 ^ 32) q put.rest done few put.on))
            | inr other ↦
                goes_by g (placed q n x) (full q n) (ask.StoreEx top n, put.reply) pairs put.rest put.are (push_fails q n x put.reply other)
                (pushing q n x (put.reply % 2 ^ 32) (compared (put.reply % 2 ^ 32)) put.rest few small less
                (pushes_again g n x (put.reply % 2 ^ 32) (suc q) put.rest other (low put.reply) put.on))
          ]
    ]

pushes_from : (g : StackGuest) (longest : ℕ) → Pops g longest → Pushes g longest → Pushes g (suc longest)
pushes_from g longest popping pushing q n r1 r2 flags pairs few small most on =
    elim (finds_top g flags n r1 r2 (suc q) pairs on) [
      | inr ended ↦ none_by g (full q n) false pairs ended
      | inl first ↦
          let x = first.reply % 2 ^ 32 in
          let left = shorter (ask.LoadEx top, first.reply) pairs first.rest longest first.are most in
          goes_by g (full q n) (linked q n x) (ask.LoadEx top, first.reply) pairs first.rest first.are (looks_up q n first.reply)
          (elim (links_node g flags n x r2 (suc q) first.rest small first.on) [
            | inr ended ↦ none_by g (linked q n x) true first.rest ended
            | inl put ↦
                goes_by g (linked q n x) (placed q n x) (ask.Store (link_of n) x, put.reply) first.rest put.rest put.are (links q n x put.reply)
                (puts_from g longest popping pushing q n x r2 flags put.rest few small (no_longer _ first.rest put.rest longest put.are left) put.on)
          ])
    ]

-- ---- all of them

pops_first : (g : StackGuest) → Pops g zero
pops_first g q r0 r1 r2 flags pairs few most on =
    elim (sees_top g flags r0 r1 r2 (suc q) pairs on) [
      | inr ended ↦ none_by g (idle (suc q)) false pairs ended
      | inl first ↦ absurd (none_empty (ask.LoadEx top, first.reply) pairs first.rest first.are most)
    ]

pushes_first : (g : StackGuest) → Pushes g zero
pushes_first g q n r1 r2 flags pairs few small most on =
    elim (finds_top g flags n r1 r2 (suc q) pairs on) [
      | inr ended ↦ none_by g (full q n) false pairs ended
      | inl first ↦ absurd (none_empty (ask.LoadEx top, first.reply) pairs first.rest first.are most)
    ]

both : (g : StackGuest) (longest : ℕ) → Pops g longest × Pushes g longest
both g zero = (pops_first g, pushes_first g)
both g (suc longest) = let before = both g longest in (pops_from g longest before.0 before.1, pushes_from g longest before.0 before.1)

by_rounds : (g : StackGuest) (rounds : ℕ) (pairs : List Pair) → 1 ≤ rounds → rounds < 65536
    → From g (looped_at g 4104 no_flags g.t g.n 0 rounds) pairs → GoesOn g (idle rounds) pairs
by_rounds g zero pairs some few on = absurd (omega (arith, some))
by_rounds g (suc q) pairs some few on =
    let pop = (both g (length pairs)).0 in
    pop q g.t g.n 0 no_flags pairs (omega (arith, few)) (omega arith) on

-- a thread that goes on from its start goes by the protocol
pub starts_so : (g : StackGuest) (pairs : List Pair) → 1 ≤ g.rounds → From g (state_at g 4096 no_flags g.t g.n 0 0 0) pairs
    → Does (program_of g) g.stop (idle g.rounds) pairs
starts_so g pairs some on = by_rounds g g.rounds pairs some g.few (begun g pairs on)
