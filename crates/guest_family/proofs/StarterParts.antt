-- A thread that may start others, from one point of its run to the next, and to its end.
use Rattle.std.proofs.Common.{◌≡◌, ℕ, zero, suc, ◌+◌, ◌<◌, ◌≤◌, Bool, true, false, List, [], ◌∷◌, ◌++◌, length, map, nat_lt, reverse, Vec, vec_capacity, vec_len, refl, sym, subst, ap, ◌∙◌, inl, inr, arith, append-nil, length-append}
use Rattle.std.specs.List.{range_with_len}
use Rattle.std.specs.declared.alloc.Global.{Global}
use Rattle.std.proofs.lemmas.Bool.{cases_Bool}
use Rattle.std.proofs.lemmas.List.Elements.{All-nil}
use Rattle.atomic_table.specs.Seated.{TableId}
use Rattle.llsc_base.specs.Images.{Program}
use Rattle.history.specs.Parts.{accesses_of, entries_of}
use Rattle.history.specs.Started.{MayAct, child_of, is_started, starts_of}
use Rattle.history.specs.Starts.{Started, made_by, starts_from, starts_in}
use Rattle.history.specs.declared.entry.Entry.{Entry}
use Rattle.history.proofs.Appends.{entries_of-append}
use Rattle.history.proofs.Born.{child-below}
use Rattle.history.proofs.Starts.{starts_from-length, starts_from-own}
use Rattle.shared_memory.specs.Origin.{Origin}
use Rattle.shared_memory.specs.Seen.{IsFront, IsOneOf, IsSingle, SaysAllOf, Sees, joint}
use Rattle.a32_step.specs.Machine.{Machine, a32}
use Rattle.guest_core.specs.Machine.{between}
use Rattle.guest_calls.specs.Pairs.{pair_of, pairs_of}
use Rattle.guest_calls.specs.Run.{Pair, first_point}
use Rattle.guest_thread.specs.Begun.{child_start, stock_of}
use Rattle.guest_thread.specs.Counts.{reads_of, writes_of, fails_of}
use Rattle.guest_thread.specs.inner.Crews.{AreTaken}
use Rattle.guest_thread.specs.Start.{thread_start}
use Rattle.guest_thread.specs.StockRun.{Comes, begins_so}
use Rattle.guest_thread.specs.declared.ends.GuestEnd.{GuestEnd}
use Rattle.guest_thread.specs.declared.gathering.Ran.{Ran}
use Rattle.guest_thread.specs.declared.running.Finished.{Finished}
use Rattle.guest_family.specs.inner.EndedStarters.{AreChildren, HasBranched, HasEndedWithAll, IsLater, IsStarterPart, next_start}
use Rattle.guest_family.specs.Kin.{AreSpares, IsStarter, IsSpare, own_numbers, spares_of}
use Rattle.guest_family.specs.inner.Next.{HasNoneLeft}
use Rattle.guest_family.specs.inner.UnderWay.{HasCalled, HasReachedEnd, IsEndFrom, IsPartUnderWay}
use Rattle.guest_family.specs.declared.kin.Spare.{Spare}
use Rattle.guest_family.specs.declared.kin.Starter.{Starter}
use Rattle.guest_family.specs.declared.starters.StarterEnd.{StarterEnd}
use Rattle.guest_family.specs.declared.starters.StarterPart.{StarterPart}
use Rattle.guest_thread.specs.declared.pieces.Part.{Part}
use Rattle.guest_family.proofs.Combined.{ended_more}
use Rattle.guest_family.proofs.GoingOn.{front_on}
use Rattle.guest_family.proofs.Later.{end_later, same_starts}

-- ---- at the start

-- a thread without entries has still none where others' were added
pub none_later : (origin : Origin) (t : ℕ) (old new : List Entry) → entries_of t old ≡ [] → Sees origin t old [] new → entries_of t new ≡ []
none_later origin t old new none sees =
    ap (entries_of t) sees.longer ∙ entries_of-append t old sees.added ∙ ap (λ (es : List Entry). es ++ entries_of t sees.added) none ∙ sees.mine

-- it has started none
pub none_started : (t : ℕ) (history : List Entry) → entries_of t history ≡ [] → starts_in t history ≡ []
none_started t history none = starts_from-own t 0 history ∙ ap (starts_from t 0) none

-- a thread that was started has no number for others
pub child_has_none : (first spare t : ℕ) (starts : List Started) → first ≤ t → HasNoneLeft (stock_of first spare t) starts
child_has_none first zero t starts above = tt
child_has_none first (suc spare) t starts above = let is : nat_lt t first ≡ false = grind arith in rw is (omega arith)

-- one of the first has none left once it has started as many as are spare
pub head_has_none : (first spare t : ℕ) (starts : List Started) → spare ≤ length starts → HasNoneLeft (stock_of first spare t) starts
head_has_none first zero t starts all = tt
head_has_none first (suc spare) t starts all = elim (cases_Bool (nat_lt t first)) [ inl below ↦ rw below all | inr above ↦ rw above (omega arith) ]

module _ {P : Type 0} (home : P → TableId) (numbers : P → ℕ → Bool) (seen : P → List Entry) (mem : TableId) (origin : Origin) (program : Program) (budget t : ℕ) where
  pub begins_under : (start : Machine) (pass : P) → home pass ≡ mem → IsSingle t (numbers pass) → MayAct origin.first t (seen pass) → entries_of t (seen pass) ≡ []
      → start ≡ between start.state
      → IsPartUnderWay home numbers seen mem origin program budget t start (record { cpu = start; pass = pass; out = []; steps = 0; reads = 0; writes = 0; fails = 0 })
  begins_under start pass memory single acts none rests =
      let stock = stock_of origin.first origin.spare t in
      let pairs : pairs_of t (seen pass) ≡ [] = ap (λ (l : List Entry). map pair_of (accesses_of l)) none in
      let made : made_by t (seen pass) ≡ 0 = ap (λ (l : List Entry). length (accesses_of l)) none in
      record {
        memory = memory;
        single = single;
        may_act = acts;
        between = rests;
        comes = subst (λ (ps : List Pair). Comes a32 stock program budget start ps (starts_in t (seen pass)) (first_point start)) (sym pairs)
            (subst (λ (ss : List Started). Comes a32 stock program budget start [] ss (first_point start)) (sym (none_started t (seen pass) none)) begins_so);
        counts = record {
          reads = sym (ap reads_of none);
          writes = sym (ap writes_of none);
          fails = sym (ap fails_of none);
        };
        accesses = omega (arith, made);
        few = omega arith;
        within = omega arith;
      }

  pub under_at_start : (start : Machine) (part : Part P Machine) (cpu : Machine) (pass : P) (out : List ℕ)
      → part ≡ record { cpu = cpu; pass = pass; out = out; steps = 0; reads = 0; writes = 0; fails = 0 } → cpu ≡ start → out ≡ []
      → home pass ≡ mem → IsSingle t (numbers pass) → MayAct origin.first t (seen pass) → entries_of t (seen pass) ≡ [] → start ≡ between start.state
      → IsPartUnderWay home numbers seen mem origin program budget t start part
  under_at_start start part cpu pass out is at empty memory single acts none rests =
      let first : part ≡ record { cpu = start; pass = pass; out = []; steps = 0; reads = 0; writes = 0; fails = 0 } = is
      ∙ ap (λ (m : Machine). record { cpu = m; pass = pass; out = out; steps = 0; reads = 0; writes = 0; fails = 0 }) at
      ∙ ap (λ (o : List ℕ). record { cpu = start; pass = pass; out = o; steps = 0; reads = 0; writes = 0; fails = 0 }) empty in
      subst (IsPartUnderWay home numbers seen mem origin program budget t start) (sym first) (begins_under start pass memory single acts none rests)

  -- one that was started, once it has come in
  pub child_begins : (start : Machine) (part : Part P Machine) (cpu : Machine) (old pass : P) (out : List ℕ)
      → part ≡ record { cpu = cpu; pass = pass; out = out; steps = 0; reads = 0; writes = 0; fails = 0 } → cpu ≡ start → out ≡ []
      → home old ≡ mem → IsSingle t (numbers old) → entries_of t (seen old) ≡ [] → start ≡ between start.state
      → home pass ≡ home old → numbers pass ≡ numbers old → is_started t (seen pass) ≡ true → Sees origin t (seen old) [] (seen pass)
      → IsPartUnderWay home numbers seen mem origin program budget t start part
  child_begins start part cpu old pass out is at empty memory single none rests home_stays numbers_stay started sees =
      under_at_start start part cpu pass out is at empty (home_stays ∙ memory) (subst (IsSingle t) (sym numbers_stay) single) (inr started)
      (none_later origin t (seen old) (seen pass) none sees) rests

  -- one of the first at its start
  pub starter_begins : (starter : Starter P) (part : Part P Machine) → IsStarter home numbers seen mem origin program starter → starter.job.thread ≡ t
      → part ≡ record { cpu = starter.job.cpu; pass = starter.job.pass; out = starter.job.out; steps = 0; reads = 0; writes = 0; fails = 0 }
      → IsStarterPart home numbers seen mem origin program budget t (record { part = part; code = starter.job.code; spares = starter.spares; ends = starter.ends })
  starter_begins starter part is thread begun =
      let single : IsSingle t (numbers starter.job.pass) = subst (λ (u : ℕ). IsSingle u (numbers starter.job.pass)) thread is.job.single in
      let none : entries_of t (seen starter.job.pass) ≡ [] = subst (λ (u : ℕ). entries_of u (seen starter.job.pass) ≡ []) thread is.job.none in
      let below : t < origin.first = subst (λ (u : ℕ). u < origin.first) thread is.job.first in
      let cpu : starter.job.cpu ≡ thread_start a32 program origin.size origin.first t = is.job.start ∙ ap (thread_start a32 program origin.size origin.first) thread in
      let pass : part.pass ≡ starter.job.pass = ap (λ p. p.pass) begun in
      let started : starts_of t (seen part.pass) ≡ 0 =
      ap (λ (p : P). starts_of t (seen p)) pass ∙ sym (starts_from-length t 0 (seen starter.job.pass)) ∙ ap length (none_started t (seen starter.job.pass) none) in
      let many = is.many in
      record {
        first = below;
        goes = under_at_start (thread_start a32 program origin.size origin.first t) part starter.job.cpu starter.job.pass starter.job.out begun cpu is.job.empty is.job.memory single (inl below) none refl;
        code = is.job.code;
        spares = is.spares;
        threads = is.threads ∙ ap (λ (u : ℕ). range_with_len (child_of origin.first origin.spare u 0) origin.spare) thread
            ∙ ap (λ (k : ℕ). range_with_len (child_of origin.first origin.spare t k) origin.spare) (sym started)
            ∙ ap (range_with_len (child_of origin.first origin.spare t (starts_of t (seen part.pass)))) (sym many);
        many = omega (arith, many, started);
        all = is.all;
        empty = is.empty;
        room = is.room;
      }

  -- and at its end
  pub starter_ends : (starter : Starter P) (part : Part P Machine) (ended : StarterEnd P) → IsStarter home numbers seen mem origin program starter → starter.job.thread ≡ t
      → part.pass ≡ starter.job.pass
      → HasEndedWithAll home numbers seen mem origin program budget t (starts_in t (seen part.pass)) (spares_of starter.spares.items) ended
      → HasEndedWithAll home numbers seen mem origin program budget t [] (own_numbers origin.first origin.spare t) ended
  starter_ends starter part ended is thread pass has =
      let none : entries_of t (seen starter.job.pass) ≡ [] = subst (λ (u : ℕ). entries_of u (seen starter.job.pass) ≡ []) thread is.job.none in
      let starts : starts_in t (seen part.pass) ≡ [] = ap (λ (p : P). starts_in t (seen p)) pass ∙ none_started t (seen starter.job.pass) none in
      subst (λ (us : List ℕ). HasEndedWithAll home numbers seen mem origin program budget t [] us ended) (is.threads ∙ ap (own_numbers origin.first origin.spare) thread)
      (subst (λ (ss : List Started). HasEndedWithAll home numbers seen mem origin program budget t ss (spares_of starter.spares.items) ended) starts has)

  -- ---- to its end

  pub ended_alone : (starter : StarterPart P) (done : Finished P) (ended : StarterEnd P) → IsStarterPart home numbers seen mem origin program budget t starter
      → HasReachedEnd home numbers seen mem origin program budget t (thread_start a32 program origin.size origin.first t) starter.part.pass done
      → IsLater home numbers seen done.pass ended.ran.pass → AreTaken (numbers ended.ran.pass) (spares_of starter.spares.items)
      → ended.ran.ends ≡ starter.ends → ended.end ≡ done.end
      → HasEndedWithAll home numbers seen mem origin program budget t (starts_in t (seen starter.part.pass)) (spares_of starter.spares.items) ended
  ended_alone starter done ended is has later taken ends end =
      let pass = ended.ran.pass in
      let start = thread_start a32 program origin.size origin.first t in
      let same = later.says t has.single.has in
      let none : reverse ended.ran.ends.items ≡ [] = ap (λ (es : Vec GuestEnd Global). reverse es.items) ends ∙ ap reverse is.empty.0 in
      record {
        memory = later.memory ∙ has.memory;
        own = later.holds t has.single.has;
        taken = taken;
        more = [];
        starts = same_starts t (seen done.pass) (seen pass) same ∙ has.same ∙ sym (append-nil (starts_in t (seen starter.part.pass)));
        head = subst (IsEndFrom program origin budget t start (seen pass)) (sym end) (end_later program origin budget t start (seen done.pass) (seen pass) done.end later.front same has.end);
        children = subst (AreChildren program origin budget (seen pass) []) (sym none) tt;
        among = All-nil (λ u. IsOneOf u (numbers pass));
      }

  -- ---- to its next start

  pub record IsNextSpare (starter : StarterPart P) (spare : Spare P) (rest : List (Spare P)) (len : ℕ) : Type 0 where
    pub is : IsSpare home numbers seen mem program spare
    pub others : AreSpares home numbers seen mem program rest
    pub thread : spare.thread ≡ child_of origin.first origin.spare t (starts_of t (seen starter.part.pass))
    pub threads : spares_of rest ≡ range_with_len (child_of origin.first origin.spare t (starts_of t (seen starter.part.pass)) + 1) len
    pub few : starts_of t (seen starter.part.pass) < origin.spare
    pub first : origin.first ≤ spare.thread
    pub below : spare.thread < origin.size.threads

  pub next_spare : (starter : StarterPart P) (spare : Spare P) (rest : List (Spare P)) (len : ℕ) → IsStarterPart home numbers seen mem origin program budget t starter
      → starter.spares.items ≡ spare ∷ rest → vec_len starter.spares ≡ len + 1 → IsNextSpare starter spare rest len
  next_spare starter spare rest len is items longer =
      let number = child_of origin.first origin.spare t (starts_of t (seen starter.part.pass)) in
      let are = subst (AreSpares home numbers seen mem program) items is.spares in
      let count : vec_len starter.spares ≡ suc len = omega (arith, longer) in
      let row : spare.thread ∷ spares_of rest ≡ number ∷ range_with_len (number + 1) len =
      sym (ap spares_of items) ∙ is.threads ∙ ap (range_with_len number) count in
      let thread : spare.thread ≡ number = cc in
      let threads : spares_of rest ≡ range_with_len (number + 1) len = cc in
      let many = is.many in
      let few : starts_of t (seen starter.part.pass) < origin.spare = omega (arith, many, longer) in
      let below = child-below origin.first origin.spare t (starts_of t (seen starter.part.pass)) is.first few in
      let all = is.all in
      record {
        is = are.0;
        others = are.1;
        thread = thread;
        threads = threads;
        few = few;
        first = grind (arith, thread);
        below = grind (arith, thread, below, all);
      }

  -- at its call it has a number left
  pub called_few : (old : StarterPart P) (spare : Spare P) (rest : List (Spare P)) (len : ℕ) (called : Part P Machine) (entry arg : ℕ) → IsNextSpare old spare rest len
      → HasCalled home numbers seen mem origin program budget t (thread_start a32 program origin.size origin.first t) old.part.pass called entry arg
      → starts_of t (seen called.pass) < origin.spare
  called_few old spare rest len called entry arg next is =
      let same : starts_of t (seen called.pass) ≡ starts_of t (seen old.part.pass) =
      sym (starts_from-length t 0 (seen called.pass)) ∙ ap length is.same ∙ starts_from-length t 0 (seen old.part.pass) in
      let few = next.few in
      omega (arith, same, few)

  -- what it has started by a call that was answered so
  module _ (old new : StarterPart P) (spare : Spare P) (called : Part P Machine) (entry arg : ℕ)
      (next : IsNextSpare old spare new.spares.items (vec_len new.spares))
      (is_called : HasCalled home numbers seen mem origin program budget t (thread_start a32 program origin.size origin.first t) old.part.pass called entry arg)
      (starts : starts_in t (seen new.part.pass) ≡ starts_in t (seen called.pass) ++ next_start origin t (seen called.pass) entry arg ∷ []) where
    same_count : starts_of t (seen called.pass) ≡ starts_of t (seen old.part.pass)
    same_count = sym (starts_from-length t 0 (seen called.pass)) ∙ ap length is_called.same ∙ starts_from-length t 0 (seen old.part.pass)

    one_more : starts_of t (seen new.part.pass) ≡ starts_of t (seen old.part.pass) + 1
    one_more =
        let longer : length (starts_in t (seen new.part.pass)) ≡ length (starts_in t (seen called.pass)) + 1 =
        ap length starts ∙ length-append (starts_in t (seen called.pass)) (next_start origin t (seen called.pass) entry arg ∷ []) in
        let before = starts_from-length t 0 (seen called.pass) in
        let after = starts_from-length t 0 (seen new.part.pass) in
        let same = same_count in
        omega (arith, longer, before, after, same)

    pub part_left : IsStarterPart home numbers seen mem origin program budget t old
        → IsPartUnderWay home numbers seen mem origin program budget t (thread_start a32 program origin.size origin.first t) new.part
        → new.code.program ≡ program → new.ends ≡ old.ends → vec_len old.spares ≡ vec_len new.spares + 1
        → IsStarterPart home numbers seen mem origin program budget t new
    part_left is goes code ends longer =
        let number : child_of origin.first origin.spare t (starts_of t (seen old.part.pass)) + 1 ≡ child_of origin.first origin.spare t (starts_of t (seen new.part.pass)) =
        let more = one_more in omega (arith, more) in
        let many = is.many in
        let room = is.room in
        let more = one_more in
        record {
          first = is.first;
          goes = goes;
          code = code;
          spares = next.others;
          threads = next.threads ∙ ap (λ (n : ℕ). range_with_len n (vec_len new.spares)) number;
          many = omega (arith, many, longer, more);
          all = is.all;
          empty = subst (λ (es : Vec GuestEnd Global). (es.items ≡ []) × (vec_len es ≡ 0)) (sym ends) is.empty;
          room = subst (λ (es : Vec GuestEnd Global). vec_len new.spares ≤ vec_capacity es) (sym ends) (omega (arith, room, longer));
        }

    pub branched : IsStarterPart home numbers seen mem origin program budget t old
        → IsPartUnderWay home numbers seen mem origin program budget t (thread_start a32 program origin.size origin.first t) new.part
        → new.code.program ≡ program → new.ends ≡ old.ends → vec_len old.spares ≡ vec_len new.spares + 1 → old.spares.items ≡ spare ∷ new.spares.items
        → IsFront (seen called.pass) (seen new.part.pass)
        → HasBranched home numbers seen mem origin program budget t old new spare entry arg
    branched is goes code ends longer items front =
        let thread : child_of origin.first origin.spare t (starts_of t (seen called.pass)) ≡ spare.thread =
        ap (child_of origin.first origin.spare t) same_count ∙ sym next.thread in
        record {
          goes = part_left is goes code ends longer;
          place = made_by t (seen called.pass);
          starts = starts ∙ ap (λ (ss : List Started). ss ++ next_start origin t (seen called.pass) entry arg ∷ []) is_called.same
              ∙ ap (λ (u : ℕ). starts_in t (seen old.part.pass) ++ record { child = u; entry = entry; arg = arg; place = made_by t (seen called.pass) } ∷ []) thread;
          spares = ap spares_of items;
          front = front_on (seen old.part.pass) (seen called.pass) (seen new.part.pass) is_called.front front;
        }

  -- what is left of a thread, and one that it has started, make the thread
  pub ended_on : (old new : StarterPart P) (spare : Spare P) (entry arg : ℕ) (ended : StarterEnd P) (done : Finished P) (ran : Ran P)
      → HasBranched home numbers seen mem origin program budget t old new spare entry arg
      → HasEndedWithAll home numbers seen mem origin program budget t (starts_in t (seen new.part.pass)) (spares_of new.spares.items) ended
      × IsFront (seen new.part.pass) (seen ended.ran.pass)
      → IsEndFrom program origin budget spare.thread (child_start a32 origin.size spare.thread entry arg) (seen done.pass) done.end
      → IsOneOf spare.thread (numbers done.pass)
      → home ran.pass ≡ mem → numbers ran.pass ≡ joint (numbers ended.ran.pass) (numbers done.pass)
      → IsFront (seen ended.ran.pass) (seen ran.pass) × IsFront (seen done.pass) (seen ran.pass)
      → SaysAllOf (numbers ended.ran.pass) (seen ended.ran.pass) (seen ran.pass) → SaysAllOf (numbers done.pass) (seen done.pass) (seen ran.pass)
      → ran.ends.items ≡ ended.ran.ends.items ++ done.end ∷ []
      → HasEndedWithAll home numbers seen mem origin program budget t (starts_in t (seen old.part.pass)) (spares_of old.spares.items) (record { ran = ran; end = ended.end })
      × IsFront (seen old.part.pass) (seen ran.pass)
  ended_on old new spare entry arg ended done ran branch is child taken memory joined fronts mine yours ends =
      let one : Started = record { child = spare.thread; entry = entry; arg = arg; place = branch.place } in (
        subst (λ (us : List ℕ). HasEndedWithAll home numbers seen mem origin program budget t (starts_in t (seen old.part.pass)) us (record { ran = ran; end = ended.end })) (sym branch.spares)
            (ended_more home numbers seen mem origin program budget t (starts_in t (seen old.part.pass)) one (spares_of new.spares.items) ended done ran
            (subst (λ (ss : List Started). HasEndedWithAll home numbers seen mem origin program budget t ss (spares_of new.spares.items) ended) branch.starts is.0)
            child taken memory joined fronts mine yours ends),
        front_on (seen old.part.pass) (seen ended.ran.pass) (seen ran.pass) (front_on (seen old.part.pass) (seen new.part.pass) (seen ended.ran.pass) branch.front is.1) fronts.0,
      )
