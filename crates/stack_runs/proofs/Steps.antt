-- One access of one thread, and what stands behind it.
use Rattle.std.proofs.Common.{◌≡◌, ◌≢◌, ℕ, suc, ◌+◌, ◌%◌, ◌^◌, ◌<◌, ◌≤◌, ◌==◌, true, false, if◌then◌else◌, List, [], ◌∷◌, refl, sym, ap, subst, ◌∙◌, arith, inl, inr}
use Rattle.std.proofs.lemmas.Bool.{cases_eq, ne_eqb}
use Rattle.llsc_base.specs.Memory.{row_of, stored, value_at}
use Rattle.llsc_base.specs.declared.access.Place.{Place}
use Rattle.llsc_base.proofs.Stores.{value_at-stored}
use Rattle.history.specs.ArmLegal.{MayAccess}
use Rattle.history.specs.Entry.{thread_of}
use Rattle.history.specs.Monitor.{Monitor, accessed, marked_row}
use Rattle.history.specs.Standing.{updated}
use Rattle.history.specs.declared.entry.Entry.{Entry}
use Rattle.history.specs.declared.entry.Entry.TheVariants.{Write}
use Rattle.history.proofs.Marking.{marked-stays, write-gone, write-stays}
use Rattle.history.proofs.Marks.{IsAsLarge-accessed, updated-other, updated-same}
use Rattle.history.proofs.SumsBelow.{sum_below, sum_below-one, sum_below-updated}
use Rattle.stack_runs.specs.Guest.{count_of, link_of, top}
use Rattle.stack_runs.specs.Stacks.{AreLinked, AreNodes, IsNode, IsStack, counts_below, first_of, times}
use Rattle.stack_runs.proofs.Invariant.{IsSo, Setup, Stands, not_in_others, not_on_stack, still_so}
use Rattle.stack_runs.proofs.Nodes.{count-count, count-link, count-top, counts-all, counts-but, counts-one, first-node, first-not, link-count, link-link, link-top, linked-all, linked-but, node-some, top-count, top-link}
use Rattle.stack_runs.proofs.Protocol.{Point, below, counted, full, held, holds, idle, left, linked, owned, placed}

-- no node is 0
pub holds-none : (nodes a : ℕ) (point : Point) → IsNode nodes a → owned point ≡ 0 → holds a point ≡ 0
holds-none nodes a point node none = ap (λ b. if b then 1 else 0) (ne_eqb (owned point) a (λ same. node-some nodes a node (sym same ∙ none)))

-- a value of 32 bits is its low 32 bits
pub low : (v : ℕ) → v < 2 ^ 32 → v % 2 ^ 32 ≡ v
low v fits = omega (arith, fits)

-- sums, by their parts
taken_off : (rest one other own : ℕ) → one ≡ other → own ≡ 0 → rest + one ≡ other + rest + own
taken_off rest one other own same none = omega (arith, same, none)

put_on : (rest one none : ℕ) → none ≡ 0 → one + rest + none ≡ rest + one
put_on rest one none zero_one = omega (arith, zero_one)

one_added : (new old here c q : ℕ) → new + c ≡ old + here → here ≡ c + 1 → new + q ≡ old + suc q
one_added new old here c q changed is = omega (arith, changed, is)

no_wrap : (c total sum lefts q mine old : ℕ) → total < 2 ^ 32 → sum + lefts ≡ total → mine ≤ lefts → mine ≡ suc q
    → old ≤ sum → old ≡ c → (c + 1) % 2 ^ 32 ≡ c + 1
no_wrap c total sum lefts q mine old few all owed to_do one is = omega (arith, few, all, owed, to_do, one, is)

-- One thread stands at a point, where these nodes are on the stack.
pub record Before (setup : Setup) (m : Monitor) (p : ℕ → Point) (stack : List ℕ) (t : ℕ) (point : Point) : Type 0 where
  pub stands : Stands setup m p stack
  pub member : t < setup.threads
  pub at : p t ≡ point

-- By an access it has come to another one.
abbrev pub After : (setup : Setup) (m : Monitor) (p : ℕ → Point) (t : ℕ) (entry : Entry) (later : Point) → Type 0
After setup m p t entry later = (after : List ℕ) × Stands setup (accessed m entry) (updated p t later) after

-- What is owed for that.
record GoesTo (setup : Setup) (m : Monitor) (p : ℕ → Point) (stack after : List ℕ) (t : ℕ) (point : Point) (entry : Entry) (later : Point) : Type 0 where
  is : IsStack (accessed m entry).memory after
  all : AreNodes setup.nodes after
  once : (a : ℕ) → IsNode setup.nodes a → times a after + holds a later ≡ times a stack + holds a point
  own : IsSo setup.nodes m.granule (accessed m entry).memory (marked_row (accessed m entry) t) later
  others : (u : ℕ) → u < setup.threads → u ≢ t → IsSo setup.nodes m.granule (accessed m entry).memory (marked_row (accessed m entry) u) (p u)
  sum : counts_below (accessed m entry).memory setup.nodes + left later ≡ counts_below m.memory setup.nodes + left point

-- The top, and the words of all nodes but one, are what they were.
record LeavesOthers (nodes : ℕ) (memory new : List ℕ) (n : ℕ) : Type 0 where
  first : value_at new top ≡ value_at memory top
  link : (a : ℕ) → IsNode nodes a → a ≢ n → value_at new (link_of a) ≡ value_at memory (link_of a)
  count : (a : ℕ) → IsNode nodes a → a ≢ n → value_at new (count_of a) ≡ value_at memory (count_of a)

module _ (setup : Setup) (m : Monitor) (p : ℕ → Point) (stack : List ℕ) (t : ℕ) (point : Point) (before : Before setup m p stack t point) where
  pub so_there : IsSo setup.nodes m.granule m.memory (marked_row m t) point
  so_there = subst (IsSo setup.nodes m.granule m.memory (marked_row m t)) before.at (before.stands.each t before.member)

  gone_on : (after : List ℕ) (entry : Entry) (later : Point) → MayAccess m entry → GoesTo setup m p stack after t point entry later
      → After setup m p t entry later
  gone_on after entry later may to =
      let stands = before.stands in
      let large = IsAsLarge-accessed m entry may in (
        after,
        record {
          many = large.threads ∙ stands.many;
          room = let room = stands.room in let long = large.bytes in omega (arith, room, long);
          is = to.is;
          all = to.all;
          once = λ a node.
              let once = stands.once a node in
              let change = to.once a node in
              let held_there : holds a (p t) ≡ holds a point = ap (holds a) before.at in
              let sums = sum_below-updated (holds a) p t later setup.threads before.member in
              omega (arith, once, change, held_there, sums);
          each = λ u low. each u low;
          sum =
              let sum = stands.sum in
              let change = to.sum in
              let left_there : left (p t) ≡ left point = ap left before.at in
              let sums = sum_below-updated left p t later setup.threads before.member in
              omega (arith, sum, change, left_there, sums);
        },
      )
    where
      each : (u : ℕ) → u < setup.threads → IsSo setup.nodes m.granule (accessed m entry).memory (marked_row (accessed m entry) u) (updated p t later u)
      each u low = elim (cases_eq u t) [
        | inl same ↦
            subst (λ (k : ℕ). IsSo setup.nodes m.granule (accessed m entry).memory (marked_row (accessed m entry) k) (updated p t later k)) (sym same)
            (subst (IsSo setup.nodes m.granule (accessed m entry).memory (marked_row (accessed m entry) t)) (sym (updated-same p t later)) to.own)
        | inr other ↦
            subst (IsSo setup.nodes m.granule (accessed m entry).memory (marked_row (accessed m entry) u)) (sym (updated-other p t later u other))
            (to.others u low other)
      ]

  -- ---- an access that leaves memory as it is

  pub quiet : (entry : Entry) → thread_of entry ≡ t → MayAccess m entry → (accessed m entry).memory ≡ m.memory
      → (later : Point) → owned later ≡ owned point → left later ≡ left point
      → IsSo setup.nodes m.granule m.memory (marked_row (accessed m entry) t) later
      → After setup m p t entry later
  quiet entry mine may same later hands lefts so =
      let stands = before.stands in
      gone_on stack entry later may (record {
        is = subst (λ memory. IsStack memory stack) (sym same) stands.is;
        all = stands.all;
        once = λ a node. ap (λ (n : ℕ). times a stack + (if n == a then 1 else 0)) hands;
        own = subst (λ memory. IsSo setup.nodes m.granule memory (marked_row (accessed m entry) t) later) (sym same) so;
        others = λ u known other. subst (λ memory. IsSo setup.nodes m.granule memory (marked_row (accessed m entry) u) (p u)) (sym same)
            (still_so setup.nodes m.granule m.memory m.memory (marked_row m u) (marked_row (accessed m entry) u) (p u)
            (λ on. (marked-stays m entry may u (row_of m.granule top) (λ e. other (sym e ∙ mine)) on, (refl, λ n is some. refl)))
            (λ a node own. (refl, refl)) (stands.each u known));
        sum = ap (λ memory. counts_below memory setup.nodes + left later) same ∙ ap (λ (n : ℕ). counts_below m.memory setup.nodes + n) lefts;
      })

  -- ---- a store-exclusive to the top, that succeeds

  put_top : (after : List ℕ) (value : ℕ) (later : Point) → MayAccess m (Write t top value true) → value ≡ first_of after
      → AreLinked (stored m.memory top value) after → AreNodes setup.nodes after
      → ((a : ℕ) → IsNode setup.nodes a → times a after + holds a later ≡ times a stack + holds a point)
      → IsSo setup.nodes m.granule (stored m.memory top value) (marked_row (accessed m (Write t top value true)) t) later
      → left later ≡ left point → After setup m p t (Write t top value true) later
  put_top after value later may first links all once own lefts =
      let stands = before.stands in
      let entry = Write t top value true in
      gone_on after entry later may (record {
        is = record { first = value_at-stored m.memory top value may.0.inside may.0.fits ∙ first; linked = links };
        all = all;
        once = once;
        own = own;
        others = λ u known other. still_so setup.nodes m.granule m.memory (stored m.memory top value) (marked_row m u) (marked_row (accessed m entry) u) (p u)
            (λ on. absurd (write-gone m t top value true may u on))
            (λ b node own. (top-link setup.nodes m.memory value b stands.room node, top-count setup.nodes m.memory value b stands.room node))
            (stands.each u known);
        sum =
            let counts = counts-all setup.nodes m.memory (stored m.memory top value) (λ b node. top-count setup.nodes m.memory value b stands.room node) in
            omega (arith, counts, lefts);
      })

  -- ---- a store to a word of the node that the thread holds

  put_own : (place : Place) (value : ℕ) (later : Point) → MayAccess m (Write t place value false) → owned later ≡ owned point → IsNode setup.nodes (owned point)
      → LeavesOthers setup.nodes m.memory (stored m.memory place value) (owned point)
      → IsSo setup.nodes m.granule (stored m.memory place value) (marked_row (accessed m (Write t place value false)) t) later
      → counts_below (stored m.memory place value) setup.nodes + left later ≡ counts_below m.memory setup.nodes + left point
      → After setup m p t (Write t place value false) later
  put_own place value later may hands node leaves own sum =
      let stands = before.stands in
      let entry = Write t place value false in
      let n = owned point in
      let absent = not_on_stack setup m p stack stands t n before.member node (ap owned before.at) in
      gone_on stack entry later may (record {
        is = record {
          first = leaves.first ∙ stands.is.first;
          linked = linked-but setup.nodes m.memory (stored m.memory place value) stack n stands.all absent leaves.link stands.is.linked;
        };
        all = stands.all;
        once = λ b its. ap (λ (k : ℕ). times b stack + (if k == b then 1 else 0)) hands;
        own = own;
        others = λ u known other. still_so setup.nodes m.granule m.memory (stored m.memory place value) (marked_row m u) (marked_row (accessed m entry) u) (p u)
            (λ on. (write-stays m t place value false may u (row_of m.granule top) on, (leaves.first, first_link absent)))
            (λ b its own.
            let apart : b ≢ n = λ same. not_in_others setup m p stack stands t n before.member node (ap owned before.at) u known other (own ∙ same) in
            (leaves.link b its apart, leaves.count b its apart))
            (stands.each u known);
        sum = sum;
      })
    where
      first_link : times (owned point) stack ≡ 0 → (k : ℕ) → value_at m.memory top ≡ k → k ≢ 0
          → value_at (stored m.memory place value) (link_of k) ≡ value_at m.memory (link_of k)
      first_link absent k first some =
          let at : first_of stack ≡ k = sym before.stands.is.first ∙ first in
          let filled : first_of stack ≢ 0 = λ none. some (sym at ∙ none) in
          leaves.link k (subst (IsNode setup.nodes) at (first-node setup.nodes stack before.stands.all filled))
          (λ same. first-not stack (owned point) absent filled (at ∙ same))

-- ---- each kind of store

module _ (setup : Setup) (m : Monitor) (p : ℕ → Point) (stack : List ℕ) (t : ℕ) where
  -- a pop
  pub popped : (q n x : ℕ) → Before setup m p stack t (below q n x) → MayAccess m (Write t top x true)
      → After setup m p t (Write t top x true) (held q n)
  popped q n x before may = by_stack stack before
    where
      by_stack : (nodes : List ℕ) → Before setup m p nodes t (below q n x) → After setup m p t (Write t top x true) (held q n)
      by_stack [] at =
          let so = so_there setup m p [] t (below q n x) at in
          absurd (node-some setup.nodes n so.0 (sym (so.1 (may.1 refl)).0 ∙ at.stands.is.first))
      by_stack (a ∷ rest) at =
          let stands = at.stands in
          let so = so_there setup m p (a ∷ rest) t (below q n x) at in
          let read = so.1 (may.1 refl) in
          let same : a ≡ n = sym stands.is.first ∙ read.0 in
          put_top setup m p (a ∷ rest) t (below q n x) at rest x (held q n) may
          (sym read.1 ∙ ap (λ (k : ℕ). value_at m.memory (link_of k)) (sym same) ∙ stands.is.linked.0)
          (linked-all setup.nodes m.memory (stored m.memory top x) rest stands.all.1 (λ b node. top-link setup.nodes m.memory x b stands.room node) stands.is.linked.1)
          stands.all.1
          (λ b node. taken_off (times b rest) _ _ _ (ap (λ (k : ℕ). if k == b then 1 else 0) (sym same)) (holds-none setup.nodes b (below q n x) node refl))
          (subst (IsNode setup.nodes) same stands.all.0) refl

  -- a push
  pub pushed : (q n x : ℕ) → Before setup m p stack t (placed q n x) → MayAccess m (Write t top n true)
      → After setup m p t (Write t top n true) (idle q)
  pushed q n x before may =
      let stands = before.stands in
      let so = so_there setup m p stack t (placed q n x) before in
      let next : value_at m.memory (link_of n) ≡ first_of stack = so.1.0 ∙ sym (so.1.1 (may.1 refl)) ∙ stands.is.first in
      put_top setup m p stack t (placed q n x) before (n ∷ stack) n (idle q) may refl (
        top-link setup.nodes m.memory n n stands.room so.0 ∙ next,
        linked-all setup.nodes m.memory (stored m.memory top n) stack stands.all (λ b node. top-link setup.nodes m.memory n b stands.room node) stands.is.linked,
      )
      (so.0, stands.all)
      (λ b node. put_on (times b stack) _ _ (holds-none setup.nodes b (idle q) node refl))
      tt refl

  -- a count
  pub added : (q n c : ℕ) → Before setup m p stack t (counted q n c) → MayAccess m (Write t (count_of n) ((c + 1) % 2 ^ 32) false)
      → After setup m p t (Write t (count_of n) ((c + 1) % 2 ^ 32) false) (full q n)
  added q n c before may =
      let stands = before.stands in
      let value = (c + 1) % 2 ^ 32 in
      let new = stored m.memory (count_of n) value in
      let so = so_there setup m p stack t (counted q n c) before in
      let there : value_at new (count_of n) ≡ value = value_at-stored m.memory (count_of n) value may.0.inside may.0.fits in
      let plus = no_wrap c setup.total (counts_below m.memory setup.nodes) (sum_below (λ u. left (p u)) setup.threads) q (left (p t)) (value_at m.memory (count_of n))
      setup.few_rounds stands.sum (sum_below-one (λ u. left (p u)) t setup.threads before.member) (ap left before.at) (counts-one setup.nodes m.memory n so.0) so.1 in
      let count : (a : ℕ) → IsNode setup.nodes a → a ≢ n → value_at new (count_of a) ≡ value_at m.memory (count_of a) =
      λ a its ne. count-count setup.nodes m.memory value n a stands.room so.0 its ne in
      put_own setup m p stack t (counted q n c) before (count_of n) value (full q n) may refl so.0
      (record {
        first = count-top setup.nodes m.memory value n stands.room so.0;
        link = λ a its ne. count-link setup.nodes m.memory value n a stands.room so.0 its;
        count = count;
      })
      so.0
      (one_added (counts_below new setup.nodes) (counts_below m.memory setup.nodes) (value_at new (count_of n)) c q
      (ap (λ (k : ℕ). counts_below new setup.nodes + k) (sym so.1) ∙ counts-but setup.nodes m.memory new n so.0 count) (there ∙ plus))

  -- a link
  pub put : (q n x : ℕ) → Before setup m p stack t (linked q n x) → MayAccess m (Write t (link_of n) x false)
      → After setup m p t (Write t (link_of n) x false) (placed q n x)
  put q n x before may =
      let stands = before.stands in
      let new = stored m.memory (link_of n) x in
      let so = so_there setup m p stack t (linked q n x) before in
      let first = link-top setup.nodes m.memory x n stands.room so.0 in
      put_own setup m p stack t (linked q n x) before (link_of n) x (placed q n x) may refl so.0
      (record {
        first = first;
        link = λ a its ne. link-link setup.nodes m.memory x n a stands.room so.0 its ne;
        count = λ a its ne. link-count setup.nodes m.memory x n a stands.room so.0 its;
      }) (
        so.0,
        (
          value_at-stored m.memory (link_of n) x may.0.inside may.0.fits,
          λ on. first ∙ so.1 (write-stays m t (link_of n) x false may t (row_of m.granule top) on),
        ),
      )
      (ap (λ (k : ℕ). k + q) (counts-all setup.nodes m.memory new (λ a its. link-count setup.nodes m.memory x n a stands.room so.0 its)))
