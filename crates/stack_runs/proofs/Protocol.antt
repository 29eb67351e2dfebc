-- What a thread of the stack guest asks, and what is replied: where it stands between two accesses, and how an access leads on.
use Rattle.std.proofs.Common.{◌≡◌, ℕ, zero, suc, ◌+◌, ◌%◌, ◌^◌, ◌==◌, if◌then◌else◌, Bool, Some, List}
use Rattle.llsc_base.specs.Effects.{barred}
use Rattle.llsc_base.specs.Images.{Program, bar_of}
use Rattle.llsc_base.specs.declared.access.Bar.{Bar}
use Rattle.llsc_base.specs.declared.access.Place.{Place}
use Rattle.llsc_base.specs.declared.access.Size.TheVariants.{B4}
use Rattle.llsc_base.specs.declared.outside.Ask.TheVariants.{Load, LoadEx, Store, StoreEx}
use Rattle.llsc_base.specs.declared.outside.Stop.{Stop}
use Rattle.llsc_base.specs.declared.outside.Stop.TheVariants.{Exit}
use Rattle.guest_calls.specs.Run.{Pair}
use Rattle.a32_guests.specs.Cuts.{MayCut}
use Rattle.guest_calls.proofs.Protocols.{Goes}
use Rattle.stack_runs.specs.Guest.{link_of, top}

-- the count of a node, by its address modulo 2 to the 32
abbrev pub count_at : ℕ → Place
count_at node = record { addr = (node + 4) % 2 ^ 32; size = B4 }

-- Where a thread stands. Of the numbers the first is how many rounds are left: the one in hand counted too where it is idle, and not
-- counted else. The second is a node; the third what was read.
pub data Point : Type 0 where
  idle : ℕ → Point  -- the top is to be loaded, for a pop
  seen : ℕ → ℕ → Point  -- the node was the top; its link is to be loaded
  below : ℕ → ℕ → ℕ → Point  -- that was this address, which is to be the top
  held : ℕ → ℕ → Point  -- the node was popped; its count is to be loaded
  counted : ℕ → ℕ → ℕ → Point  -- that was this number; one more is to be stored
  full : ℕ → ℕ → Point  -- the top is to be loaded, for a push
  linked : ℕ → ℕ → ℕ → Point  -- that was this address, which is to be the node's link
  placed : ℕ → ℕ → ℕ → Point  -- that it is; the node is to be the top

-- One access and its reply lead from one point to another.
pub data Step : Point → Pair → Point → Type 0 where
  waits : (q v : ℕ) → v % 2 ^ 32 ≡ 0 → Step (idle (suc q)) (LoadEx top, v) (idle (suc q))
  sees : (q v : ℕ) → (v % 2 ^ 32 ≡ 0 → ⊥) → Step (idle (suc q)) (LoadEx top, v) (seen q (v % 2 ^ 32))
  looks : (q n v : ℕ) → Step (seen q n) (Load (link_of n), v) (below q n (v % 2 ^ 32))
  pops : (q n x reply : ℕ) → reply % 2 ^ 32 ≡ 0 → Step (below q n x) (StoreEx top x, reply) (held q n)
  pop_fails : (q n x reply : ℕ) → (reply % 2 ^ 32 ≡ 0 → ⊥) → Step (below q n x) (StoreEx top x, reply) (idle (suc q))
  reads : (q n v : ℕ) → Step (held q n) (Load (count_at n), v) (counted q n (v % 2 ^ 32))
  counts : (q n c reply : ℕ) → Step (counted q n c) (Store (count_at n) ((c + 1) % 2 ^ 32), reply) (full q n)
  looks_up : (q n v : ℕ) → Step (full q n) (LoadEx top, v) (linked q n (v % 2 ^ 32))
  links : (q n x reply : ℕ) → Step (linked q n x) (Store (link_of n) x, reply) (placed q n x)
  pushes : (q n x reply : ℕ) → reply % 2 ^ 32 ≡ 0 → Step (placed q n x) (StoreEx top n, reply) (idle q)
  push_fails : (q n x reply : ℕ) → (reply % 2 ^ 32 ≡ 0 → ⊥) → Step (placed q n x) (StoreEx top n, reply) (full q n)

-- the place of the access that comes next at a point
abbrev pub wanted : Point → Place
wanted (idle q) = top
wanted (seen q n) = link_of n
wanted (below q n x) = top
wanted (held q n) = count_at n
wanted (counted q n c) = count_at n
wanted (full q n) = top
wanted (linked q n x) = link_of n
wanted (placed q n x) = top

-- Where a thread of this program may end with this stop: where no round is left with the exit call, and anywhere where it is cut off, or
-- where its next access is barred.
pub data MayEnd (program : Program) (stop : Stop) : Point → Type 0 where
  over : stop ≡ Exit 0 → MayEnd program stop (idle zero)
  cut : (point : Point) → MayCut stop → MayEnd program stop point
  at_bar : (point : Point) (store : Bool) (bar : Bar) → bar_of program (wanted point) store ≡ Some bar → stop ≡ barred bar (wanted point).addr
      → MayEnd program stop point

-- what a thread of this program does from a point on
abbrev pub Does : Program → Stop → Point → List Pair → Type 0
Does program stop = Goes Point Step (MayEnd program stop)

-- the node that a thread holds, and 0 where it holds none
abbrev pub owned : Point → ℕ
owned (idle q) = 0
owned (seen q n) = 0
owned (below q n x) = 0
owned (held q n) = n
owned (counted q n c) = n
owned (full q n) = n
owned (linked q n x) = n
owned (placed q n x) = n

-- one where it holds this node
abbrev pub holds : ℕ → Point → ℕ
holds node point = if owned point == node then 1 else 0

-- how often it is still to add to a count
abbrev pub left : Point → ℕ
left (idle q) = q
left (seen q n) = suc q
left (below q n x) = suc q
left (held q n) = suc q
left (counted q n c) = suc q
left (full q n) = q
left (linked q n x) = q
left (placed q n x) = q
