-- What may be taken, by the tables.
use Rattle.std.proofs.Common.{◌≡◌, ◌≢◌, ℕ, zero, suc, ◌+◌, ◌-◌, ◌<◌, ◌≤◌, ◌==◌, ◌&&◌, Bool, true, false, cond, List, [], ◌∷◌, ◌++◌, length, drop, refl, sym, ap, subst, ◌∙◌, inl, inr, append_assoc, arith, eq-eqb, eqb-true, get_or-set_same, get_or-set_other, set, slice_index}
use Rattle.std.specs.List.{count_by, range_with_len, sum_by}
use Rattle.std.proofs.lemmas.Bool.{and_parts, cases_Bool, cases_eq, cases_lt, ne_eqb}
use Rattle.std.proofs.lemmas.List.Sums.{sum_by-append, sum_by-cons}
use Rattle.llsc_base.specs.Memory.{class_of}
use Rattle.llsc_base.specs.Sizes.{Numbers}
use Rattle.history.specs.Cause.{writes_in_class}
use Rattle.history.specs.Entry.{is_in_class}
use Rattle.history.specs.declared.entry.Entry.{Entry}
use Rattle.run_merge.specs.Logs.{log_of}
use Rattle.run_merge.specs.inner.Tables.{AreApart, AreTables, Tables, class_at, is_read_at, rest_of, spot, waiting}
use Rattle.run_merge.specs.Taking.{IsReadAt, IsTakenSoFar, MayBeTaken, reads, row_at, writes}
use Rattle.run_merge.specs.declared.logs.Stamped.{Stamped}
use Rattle.history.specs.Accesses.{entry_of}
use Rattle.history.specs.Cause.{is_write}
use Rattle.history.specs.declared.entry.Access.{Access}
use Rattle.history.specs.declared.entry.Deed.{Deed}
use Rattle.history.specs.declared.entry.Deed.TheVariants as deed
use Rattle.run_merge.proofs.Taking.{count_same, new_log, other_log}

-- ---- sums over threads

-- one of them is at most the sum
pub sum_has : (f : ℕ → ℕ) (from count t : ℕ) → from ≤ t → t < from + count → f t ≤ sum_by f (range_with_len from count)
sum_has f from zero t above below = absurd (omega (arith, above, below))
sum_has f from (suc count) t above below = elim (cases_eq t from) [
  | inl same ↦ subst (λ n. f n ≤ sum_by f (range_with_len from (suc count))) (sym same) (omega (arith, sum_by-cons f from (range_with_len (from + 1) count)))
  | inr other ↦ omega (arith, sum_by-cons f from (range_with_len (from + 1) count), sum_has f (from + 1) count t (omega (arith, above, other)) (omega (arith, below)))
]

-- where each is nothing, so is the sum
pub sum_none : (f : ℕ → ℕ) (from count : ℕ) → ((t : ℕ) → f t ≡ 0) → sum_by f (range_with_len from count) ≡ 0
sum_none f from zero none = refl
sum_none f from (suc count) none = omega (arith, sum_by-cons f from (range_with_len (from + 1) count), none from, sum_none f (from + 1) count none)

-- where they are the same from a thread on, so are the sums
pub sum_same : (f g : ℕ → ℕ) (from count t : ℕ) → t < from → ((u : ℕ) → u ≢ t → f u ≡ g u) → sum_by f (range_with_len from count) ≡ sum_by g (range_with_len from count)
sum_same f g from zero t below same = refl
sum_same f g from (suc count) t below same =
    let here : f from ≡ g from = same from (λ is. absurd (omega (arith, below, is))) in
    omega (arith, sum_by-cons f from (range_with_len (from + 1) count), sum_by-cons g from (range_with_len (from + 1) count), here, sum_same f g (from + 1) count t (omega (arith, below)) same)

-- where one is less, the sum is
pub sum_less : (f g : ℕ → ℕ) (less from count t : ℕ) → from ≤ t → t < from + count → f t ≡ g t + less → ((u : ℕ) → u ≢ t → f u ≡ g u)
    → sum_by f (range_with_len from count) ≡ sum_by g (range_with_len from count) + less
sum_less f g less from zero t above below one same = absurd (omega (arith, above, below))
sum_less f g less from (suc count) t above below one same = elim (cases_eq t from) [
  | inl is ↦
      let here : f from ≡ g from + less = subst (λ n. f n ≡ g n + less) is one in
      let rest : sum_by f (range_with_len (from + 1) count) ≡ sum_by g (range_with_len (from + 1) count) = sum_same f g (from + 1) count t (omega (arith, is)) same in
      omega (arith, sum_by-cons f from (range_with_len (from + 1) count), sum_by-cons g from (range_with_len (from + 1) count), here, rest)
  | inr other ↦
      let here : f from ≡ g from = same from (λ is. other (sym is)) in
      let rest = sum_less f g less (from + 1) count t (omega (arith, above, other)) (omega (arith, below)) one same in
      omega (arith, sum_by-cons f from (range_with_len (from + 1) count), sum_by-cons g from (range_with_len (from + 1) count), here, rest)
]

-- ---- what is left of a list

drop_front : {A : Type 0} (front back : List A) → drop (length front) (front ++ back) ≡ back
drop_front [] back = refl
drop_front (x ∷ front) back = drop_front front back

-- behind a shorter front, an element stands in what is left
drop_more : {A : Type 0} (n : ℕ) (before : List A) (one : A) (after : List A) → n ≤ length before
    → (early : List A) × (drop n (before ++ one ∷ after) ≡ early ++ one ∷ after)
drop_more zero before one after short = (before, refl)
drop_more (suc n) [] one after short = absurd (omega (arith, short))
drop_more (suc n) (x ∷ before) one after short = drop_more n before one after (omega (arith, short))

count_has : {A : Type 0} (p : A → Bool) (front : List A) (x : A) (back : List A) → p x ≡ true → 1 ≤ count_by p (front ++ x ∷ back)
count_has p front x back is =
    let parts : count_by p (front ++ x ∷ back) ≡ count_by p front + count_by p (x ∷ back) = sum_by-append (λ e. cond (p e) 1 0) front (x ∷ back) in
    let one : count_by p (x ∷ back) ≡ cond (p x) 1 0 + count_by p back = sum_by-cons (λ e. cond (p e) 1 0) x back in
    let here : ◌≡◌ {A = ℕ} (cond (p x) 1 0) 1 = ap (λ b. cond b 1 0) is in
    omega (arith, parts, one, here)

count_none : {A : Type 0} (p : A → Bool) (all : List A) → ((front : List A) (x : A) (back : List A) → all ≡ front ++ x ∷ back → p x ≡ false) → count_by p all ≡ 0
count_none p [] none = refl
count_none p (x ∷ all) none =
    let one : count_by p (x ∷ all) ≡ cond (p x) 1 0 + count_by p all = sum_by-cons (λ e. cond (p e) 1 0) x all in
    let here : ◌≡◌ {A = ℕ} (cond (p x) 1 0) 0 = ap (λ b. cond b 1 0) (none [] x all refl) in
    omega (arith, one, here, count_none p all (λ front y back is. none (x ∷ front) y back (ap (λ l. x ∷ l) is)))

-- ---- the tables

-- an element of what is left of a list stands in the list
from_drop : {A : Type 0} (n : ℕ) (all front : List A) (x : A) (back : List A) → drop n all ≡ front ++ x ∷ back
    → (before : List A) × ((all ≡ before ++ x ∷ back) × (n ≤ length before))
from_drop zero all front x back is = (front, (is, omega arith))
from_drop (suc n) [] [] x back is = cc
from_drop (suc n) [] (f ∷ front) x back is = cc
from_drop (suc n) (y ∷ all) front x back is =
    let found = from_drop n all front x back is in (y ∷ found.0, (ap (λ l. y ∷ l) found.1.0, omega (arith, found.1.1)))

same_spot : (size : Numbers) (base : List ℕ) (one other : Stamped) → class_at size one ≡ class_at size other → one.stamp ≡ other.stamp → spot size base one ≡ spot size base other
same_spot size base one other classes stamps = ap (λ c. slice_index base c + one.stamp) classes ∙ ap (λ n. slice_index base (class_at size other) + n) stamps

both_true : (a b : Bool) → a ≡ true → b ≡ true → (a && b) ≡ true
both_true true b one other = other
both_true false b one other = cc

module _ (size : Numbers) (history taken : List Entry) (tables : Tables) (are : AreTables size history taken tables) (apart : AreApart size history tables.base) where
  -- where none is left at a write's place, all Reads of its class and its stamp are taken
  pub none_left : (next : Stamped) → slice_index tables.left (spot size tables.base next) ≡ 0
      → (u : ℕ) (before : List Stamped) (one : Stamped) → IsReadAt size history u before one
      → is_in_class size (row_at size next) one.access.place ≡ true → one.stamp ≡ next.stamp → length before < length (log_of size u taken)
  none_left next none u before one at near stamp = elim (cases_lt (length before) (length (log_of size u taken))) [
    | inl less ↦ less
    | inr past ↦
        let i = spot size tables.base next in
        let class : class_at size one ≡ class_at size next = eqb-true (class_at size one) (class_at size next) near in
        let here : is_read_at size tables.base i one ≡ true =
        both_true (reads one.access.deed) (spot size tables.base one == i) at.0 (eq-eqb (spot size tables.base one) i (same_spot size tables.base one next class stamp)) in
        let left = drop_more (length (log_of size u taken)) before one at.1.0 past in
        let rest : rest_of size history taken u ≡ left.0 ++ one ∷ at.1.0 = ap (drop (length (log_of size u taken))) at.1.1 ∙ left.1 in
        let some : 1 ≤ count_by (is_read_at size tables.base i) (rest_of size history taken u) =
        subst (λ l. 1 ≤ count_by (is_read_at size tables.base i) l) (sym rest) (count_has (is_read_at size tables.base i) left.0 one at.1.0 here) in
        let known : u < size.threads = apart.known u before one at.1.0 at.1.1 in
        let all = sum_has (λ t. count_by (is_read_at size tables.base i) (rest_of size history taken t)) 0 size.threads u (omega arith) (omega (arith, known)) in
        absurd (omega (arith, some, all, none, are.lefts i))
  ]

  -- and the other way round
  pub all_taken : (t : ℕ) (next : Stamped) (back : List Stamped) → log_of size t history ≡ log_of size t taken ++ next ∷ back → writes next.access.deed ≡ true
      → ((u : ℕ) (before : List Stamped) (one : Stamped) → IsReadAt size history u before one
      → is_in_class size (row_at size next) one.access.place ≡ true → one.stamp ≡ next.stamp → length before < length (log_of size u taken))
      → slice_index tables.left (spot size tables.base next) ≡ 0
  all_taken t next back is_next written loads =
      let i = spot size tables.base next in
      are.lefts i ∙ sum_none (λ u. count_by (is_read_at size tables.base i) (rest_of size history taken u)) 0 size.threads
      (λ u. count_none (is_read_at size tables.base i) (rest_of size history taken u) (λ front x rest is. elim (cases_Bool (is_read_at size tables.base i x)) [
        | inl read ↦
            let parts = and_parts (reads x.access.deed) (spot size tables.base x == i) read in
            let found = from_drop (length (log_of size u taken)) (log_of size u history) front x rest is in
            let same = apart.apart u t found.0 x rest (log_of size t taken) next back found.1.0 is_next parts.0 written (eqb-true (spot size tables.base x) i parts.1) in
            let near : is_in_class size (row_at size next) x.access.place ≡ true = eq-eqb (class_at size x) (class_at size next) same.0 in
            absurd (omega (arith, found.1.1, loads u found.0 x (parts.0, (rest, found.1.0)) near same.1))
        | inr other ↦ other
      ]))

-- ---- one access more

-- an access that writes is a write of its class
writes_here : (size : Numbers) (row : ℕ) (access : Access) → writes access.deed ≡ true → is_write size row (entry_of access) ≡ is_in_class size row access.place
writes_here size row access written = by access.deed written
  where
    by : (made : Deed) → writes made ≡ true → is_write size row (entry_of (record access { deed = made })) ≡ is_in_class size row access.place
    by deed.Store is = refl
    by deed.StoreEx is = refl
    by deed.Load is = cc
    by deed.LoadEx is = cc
    by deed.StoreFail is = cc
    by deed.Clear is = cc

writes_nowhere : (size : Numbers) (row : ℕ) (access : Access) → writes access.deed ≡ false → is_write size row (entry_of access) ≡ false
writes_nowhere size row access written = by access.deed written
  where
    by : (made : Deed) → writes made ≡ false → is_write size row (entry_of (record access { deed = made })) ≡ false
    by deed.Store is = cc
    by deed.StoreEx is = cc
    by deed.Load is = refl
    by deed.LoadEx is = refl
    by deed.StoreFail is = refl
    by deed.Clear is = refl

pub read_no_write : (made : Deed) → reads made ≡ true → writes made ≡ false
read_no_write deed.Load is = refl
read_no_write deed.LoadEx is = refl
read_no_write deed.Store is = cc
read_no_write deed.StoreEx is = cc
read_no_write deed.StoreFail is = cc
read_no_write deed.Clear is = cc

count_one_more : (size : Numbers) (row : ℕ) (taken : List Entry) (access : Access) → is_write size row (entry_of access) ≡ true
    → writes_in_class size row (taken ++ entry_of access ∷ []) ≡ writes_in_class size row taken + 1
count_one_more size row taken access is =
    let p = is_write size row in
    let parts : count_by p (taken ++ entry_of access ∷ []) ≡ count_by p taken + count_by p (entry_of access ∷ []) = sum_by-append (λ e. cond (p e) 1 0) taken (entry_of access ∷ []) in
    let one : count_by p (entry_of access ∷ []) ≡ cond (p (entry_of access)) 1 0 + 0 = sum_by-cons (λ e. cond (p e) 1 0) (entry_of access) [] in
    let here : ◌≡◌ {A = ℕ} (cond (p (entry_of access)) 1 0) 1 = ap (λ b. cond b 1 0) is in
    omega (arith, parts, one, here)

module _ (size : Numbers) (history taken : List Entry) (way : IsTakenSoFar size history taken) (t : ℕ) (next : Stamped) (may : MayBeTaken size history taken t next)
    (tables : Tables) (are : AreTables size history taken tables) (apart : AreApart size history tables.base)
    (inside : spot size tables.base next < length tables.left) (within : class_at size next < length tables.count) where
  abbrev new : List Entry
  new = taken ++ entry_of next.access ∷ []

  -- fewer Reads wait at a place by the one that is taken there
  fewer : (i : ℕ) → waiting size history taken tables.base i ≡ waiting size history new tables.base i + cond (is_read_at size tables.base i next) 1 0
  fewer i =
      let p = is_read_at size tables.base i in
      let before : rest_of size history taken t ≡ next ∷ may.after = ap (drop (length (log_of size t taken))) may.is_next ∙ drop_front (log_of size t taken) (next ∷ may.after) in
      let longer : log_of size t history ≡ log_of size t new ++ may.after =
      may.is_next ∙ sym (append_assoc (log_of size t taken) (next ∷ []) may.after) ∙ ap (λ l. l ++ may.after) (sym (new_log size history taken way t next may)) in
      let after : rest_of size history new t ≡ may.after = ap (drop (length (log_of size t new))) longer ∙ drop_front (log_of size t new) may.after in
      let one : count_by p (next ∷ may.after) ≡ cond (p next) 1 0 + count_by p may.after = sum_by-cons (λ e. cond (p e) 1 0) next may.after in
      let here : count_by p (rest_of size history taken t) ≡ count_by p (rest_of size history new t) + cond (p next) 1 0 =
      ap (count_by p) before ∙ one ∙ omega arith ∙ ap (λ l. count_by p l + cond (p next) 1 0) (sym after) in
      let known : t < size.threads = apart.known t (log_of size t taken) next may.after may.is_next in
      sum_less (λ u. count_by p (rest_of size history taken u)) (λ u. count_by p (rest_of size history new u)) (cond (p next) 1 0) 0 size.threads t (omega arith) (omega (arith, known)) here
      (λ u other. ap (λ (l : List Stamped). count_by p (drop (length l) (log_of size u history))) (sym (other_log size history taken way t next may u other)))

  as_many : (i : ℕ) → is_read_at size tables.base i next ≡ false → waiting size history taken tables.base i ≡ waiting size history new tables.base i
  as_many i isnt = fewer i ∙ ap (λ b. waiting size history new tables.base i + cond b 1 0) isnt ∙ omega arith

  pub one_less : (i : ℕ) → is_read_at size tables.base i next ≡ true → waiting size history taken tables.base i ≡ waiting size history new tables.base i + 1
  one_less i is = fewer i ∙ ap (λ b. waiting size history new tables.base i + cond b 1 0) is

  pub after_read : reads next.access.deed ≡ true
      → AreTables size history new (record { base = tables.base; left = set tables.left (spot size tables.base next) (slice_index tables.left (spot size tables.base next) - 1); count = tables.count })
  after_read read = record {
    counts = λ row. are.counts row ∙ sym (count_same size row taken (entry_of next.access) (writes_nowhere size row next.access (read_no_write next.access.deed read)));
    lefts = λ i. elim (cases_eq i (spot size tables.base next)) [
      | inl same ↦
          let is : is_read_at size tables.base i next ≡ true = both_true (reads next.access.deed) (spot size tables.base next == i) read (eq-eqb (spot size tables.base next) i (sym same)) in
          let here : slice_index (set tables.left (spot size tables.base next) (slice_index tables.left (spot size tables.base next) - 1)) i ≡ slice_index tables.left i - 1 =
          ap (slice_index (set tables.left (spot size tables.base next) (slice_index tables.left (spot size tables.base next) - 1))) same
          ∙ get_or-set_same tables.left (spot size tables.base next) (slice_index tables.left (spot size tables.base next) - 1) 0 inside
          ∙ ap (λ k. slice_index tables.left k - 1) (sym same) in
          omega (arith, here, are.lefts i, one_less i is)
      | inr other ↦
          let isnt : is_read_at size tables.base i next ≡ false = ap (λ b. reads next.access.deed && b) (ne_eqb (spot size tables.base next) i (λ is. other (sym is))) ∙ and_false (reads next.access.deed) in
          get_or-set_other tables.left (spot size tables.base next) i (slice_index tables.left (spot size tables.base next) - 1) 0 other ∙ are.lefts i ∙ as_many i isnt
    ];
  }
    where
      and_false : (b : Bool) → (b && false) ≡ false
      and_false true = refl
      and_false false = refl

  pub after_write : reads next.access.deed ≡ false → writes next.access.deed ≡ true
      → AreTables size history new (record { base = tables.base; left = tables.left; count = set tables.count (class_at size next) (slice_index tables.count (class_at size next) + 1) })
  after_write no_read written = record {
    counts = λ row. elim (cases_eq (class_of size.classes row) (class_at size next)) [
      | inl same ↦
          let is : is_write size row (entry_of next.access) ≡ true =
          writes_here size row next.access written ∙ eq-eqb (class_at size next) (class_of size.classes row) (sym same) in
          ap (slice_index (set tables.count (class_at size next) (slice_index tables.count (class_at size next) + 1))) same
          ∙ get_or-set_same tables.count (class_at size next) (slice_index tables.count (class_at size next) + 1) 0 within
          ∙ ap (λ c. slice_index tables.count c + 1) (sym same) ∙ ap (λ n. n + 1) (are.counts row) ∙ sym (count_one_more size row taken next.access is)
      | inr other ↦
          let isnt : is_write size row (entry_of next.access) ≡ false =
          writes_here size row next.access written ∙ ne_eqb (class_at size next) (class_of size.classes row) (λ is. other (sym is)) in
          get_or-set_other tables.count (class_at size next) (class_of size.classes row) (slice_index tables.count (class_at size next) + 1) 0 other
          ∙ are.counts row ∙ sym (count_same size row taken (entry_of next.access) isnt)
    ];
    lefts = λ i. are.lefts i ∙ as_many i (ap (λ b. b && (spot size tables.base next == i)) no_read);
  }

  pub after_neither : reads next.access.deed ≡ false → writes next.access.deed ≡ false → AreTables size history new tables
  after_neither no_read no_write = record {
    counts = λ row. are.counts row ∙ sym (count_same size row taken (entry_of next.access) (writes_nowhere size row next.access no_write));
    lefts = λ i. are.lefts i ∙ as_many i (ap (λ b. b && (spot size tables.base next == i)) no_read);
  }
