-- What threads run with is made one after another.
use Rattle.std.proofs.Common.{◌≡◌, ℕ, zero, suc, ◌+◌, ◌*◌, ◌<◌, ◌≤◌, Bool, Vec, vec_capacity, vec_len, List, [], ◌∷◌, ◌++◌, refl, sym, subst, ap, ◌∙◌, arith}
use Rattle.std.specs.List.{range_with_len}
use Rattle.std.specs.declared.alloc.Global.{Global}
use Rattle.std.proofs.Math.Nat.{mul-le-mul_right, suc-mul}
use Rattle.std.proofs.lemmas.List.{map-append}
use Rattle.atomic_table.specs.Seated.{TableId}
use Rattle.llsc_base.specs.Images.{Program}
use Rattle.history.specs.Started.{child_of}
use Rattle.history.specs.declared.entry.Entry.{Entry}
use Rattle.shared_memory.specs.Origin.{Origin}
use Rattle.a32_step.specs.Machine.{Machine, a32}
use Rattle.a32_step.specs.declared.kept.Kept.{Kept}
use Rattle.guest_thread.specs.Crews.{IsFresh}
use Rattle.guest_thread.specs.declared.crews.Job.{Job}
use Rattle.guest_family.specs.Kin.{AreSpares, AreStarters, IsSpare, IsStarter, heads_of, spares_of}
use Rattle.guest_family.specs.inner.Kin.{MayRun}
use Rattle.guest_family.specs.declared.kin.Kin.{Kin}
use Rattle.guest_family.specs.declared.kin.Spare.{Spare}
use Rattle.guest_family.specs.declared.kin.Starter.{Starter}

pub range_more : (n count : ℕ) → range_with_len n count ++ (n + count) ∷ [] ≡ range_with_len n (suc count)
range_more n zero = ap (λ (k : ℕ). k ∷ []) (omega arith)
range_more n (suc count) =
    let number : n + suc count ≡ n + 1 + count = omega arith in
    ap (λ (k : ℕ). n ∷ (range_with_len (n + 1) count ++ k ∷ [])) number ∙ ap (λ (l : List ℕ). n ∷ l) (range_more (n + 1) count)

module _ {P : Type 0} (home : P → TableId) (numbers : P → ℕ → Bool) (seen : P → List Entry) (mem : TableId) (origin : Origin) (program : Program) where
  spares_more : (spares : List (Spare P)) (spare : Spare P) → AreSpares home numbers seen mem program spares → IsSpare home numbers seen mem program spare
      → AreSpares home numbers seen mem program (spares ++ spare ∷ [])
  spares_more [] spare all is = (is, tt)
  spares_more (one ∷ spares) spare all is = (all.0, spares_more spares spare all.1 is)

  pub spares_pushed : (spares new : List (Spare P)) (spare : Spare P) → new ≡ spares ++ spare ∷ [] → AreSpares home numbers seen mem program spares
      → IsSpare home numbers seen mem program spare → AreSpares home numbers seen mem program new
  spares_pushed spares new spare pushed all is = subst (AreSpares home numbers seen mem program) (sym pushed) (spares_more spares spare all is)

  starters_more : (starters : List (Starter P)) (starter : Starter P) → AreStarters home numbers seen mem origin program starters → IsStarter home numbers seen mem origin program starter
      → AreStarters home numbers seen mem origin program (starters ++ starter ∷ [])
  starters_more [] starter all is = (is, tt)
  starters_more (one ∷ starters) starter all is = (all.0, starters_more starters starter all.1 is)

  pub starters_pushed : (starters new : List (Starter P)) (starter : Starter P) → new ≡ starters ++ starter ∷ [] → AreStarters home numbers seen mem origin program starters
      → IsStarter home numbers seen mem origin program starter → AreStarters home numbers seen mem origin program new
  starters_pushed starters new starter pushed all is = subst (AreStarters home numbers seen mem origin program) (sym pushed) (starters_more starters starter all is)

  -- one is made of its thread's job and of what those run with that it may start
  pub starter_made : (starter : Starter P) (job : Job P Machine Kept) (spares : Vec (Spare P) Global) (from : ℕ) → starter.job ≡ job → starter.spares ≡ spares
      → IsFresh a32 (λ m. m) home numbers seen mem origin program job → AreSpares home numbers seen mem program spares.items
      → spares_of spares.items ≡ range_with_len from origin.spare → from ≡ child_of origin.first origin.spare job.thread 0
      → (starter.ends.items ≡ []) × (vec_len starter.ends ≡ 0) → vec_len spares ≤ vec_capacity starter.ends → vec_len spares ≡ origin.spare
      → origin.first * (1 + origin.spare) ≡ origin.size.threads
      → IsStarter home numbers seen mem origin program starter
  starter_made starter job spares from is has fresh are threads at empty room many all = record {
    job = subst (IsFresh a32 (λ m. m) home numbers seen mem origin program) (sym is) fresh;
    spares = subst (λ (v : Vec (Spare P) Global). AreSpares home numbers seen mem program v.items) (sym has) are;
    threads = ap (λ (v : Vec (Spare P) Global). spares_of v.items) has ∙ threads
        ∙ ap (λ (n : ℕ). range_with_len n origin.spare) (at ∙ ap (λ (j : Job P Machine Kept). child_of origin.first origin.spare j.thread 0) (sym is));
    empty = empty;
    room = subst (λ (v : Vec (Spare P) Global). vec_len v ≤ vec_capacity starter.ends) (sym has) room;
    many = subst (λ (v : Vec (Spare P) Global). vec_len v ≡ origin.spare) (sym has) many;
    all = all;
  }

  -- the last, and those before it
  pub starters_split : (starters rest : List (Starter P)) (last : Starter P) → starters ≡ rest ++ last ∷ [] → AreStarters home numbers seen mem origin program starters
      → AreStarters home numbers seen mem origin program rest × IsStarter home numbers seen mem origin program last
  starters_split starters [] last is are = (tt, (subst (AreStarters home numbers seen mem origin program) is are).0)
  starters_split starters (starter ∷ rest) last is are =
      let all = subst (AreStarters home numbers seen mem origin program) is are in
      let others = starters_split (rest ++ last ∷ []) rest last refl all.1 in
      ((all.0, others.0), others.1)

-- numbers in a row
row_more : (n len more t : ℕ) (ts : List ℕ) → n + len ≡ t → more ≡ len + 1 → ts ≡ range_with_len n len → ts ++ t ∷ [] ≡ range_with_len n more
row_more n len more t ts at longer is =
    let count : suc len ≡ more = omega (arith, longer) in
    ap (λ (l : List ℕ). l ++ t ∷ []) is ∙ ap (λ (k : ℕ). range_with_len n len ++ k ∷ []) (sym at) ∙ range_more n len ∙ ap (range_with_len n) count

pub threads_pushed : {P : Type 0} (spares new : List (Spare P)) (spare : Spare P) (n len more : ℕ) → new ≡ spares ++ spare ∷ [] → n + len ≡ spare.thread → more ≡ len + 1
    → spares_of spares ≡ range_with_len n len → spares_of new ≡ range_with_len n more
threads_pushed {P = P} spares new spare n len more is at longer threads =
    ap spares_of is ∙ map-append (λ (s : Spare P). s.thread) spares (spare ∷ []) ∙ row_more n len more spare.thread (spares_of spares) at longer threads

pub heads_pushed : {P : Type 0} (starters new : List (Starter P)) (starter : Starter P) (len more t : ℕ) → new ≡ starters ++ starter ∷ [] → starter.job.thread ≡ t → len + 1 ≡ t → more ≡ len + 1
    → heads_of starters ≡ range_with_len 1 len → heads_of new ≡ range_with_len 1 more
heads_pushed {P = P} starters new starter len more t is thread next longer threads =
    let at : 1 + len ≡ starter.job.thread = omega (arith, thread, next) in
    ap heads_of is ∙ map-append (λ (h : Starter P). h.job.thread) starters (starter ∷ []) ∙ row_more 1 len more starter.job.thread (heads_of starters) at longer threads

-- the numbers of the threads that one of the first may start are those of threads
pub own_below : (first spare t : ℕ) → t < first → first + t * spare + spare ≤ first * (1 + spare)
own_below first spare t below =
    let up : suc t * spare ≤ first * spare = mul-le-mul_right spare (omega arith) in
    let one = suc-mul t spare in
    omega (arith, up, one)

pub next_own : (heads t spare : ℕ) → heads + t * spare + spare ≡ heads + (t + 1) * spare
next_own heads t spare = let one = suc-mul t spare in omega (arith, one)

-- there is as much room for one starter fewer
pub room_left : (len more capacity : ℕ) → more ≡ len + 1 → more < capacity → len < capacity
room_left len more capacity longer room = omega (arith, longer, room)

pub children_room_left : (len more spare capacity : ℕ) → more ≡ len + 1 → (more + 1) * spare ≤ capacity → (len + 1) * spare ≤ capacity
children_room_left len more spare capacity longer room =
    let less : (len + 1) * spare ≤ (more + 1) * spare = mul-le-mul_right spare (omega (arith, longer)) in
    omega (arith, less, room)

-- the others may still be run where the last is taken out
pub runs_without_last : {P : Type 0} (home : P → TableId) (numbers : P → ℕ → Bool) (seen : P → List Entry) (mem : TableId) (origin : Origin) (program : Program)
    (kin : Kin P) (rest : Vec (Starter P) Global) (last : Starter P) → MayRun home numbers seen mem origin program kin → kin.others.items ≡ rest.items ++ last ∷ []
    → vec_len rest + 1 ≡ vec_len kin.others
    → MayRun home numbers seen mem origin program (record { first = kin.first; others = rest; ends = kin.ends; children = kin.children })
runs_without_last home numbers seen mem origin program kin rest last is items len = record {
  first = is.first;
  others = (starters_split home numbers seen mem origin program kin.others.items rest.items last items is.others).0;
  ends_empty = is.ends_empty;
  children_empty = is.children_empty;
  ends_room = room_left (vec_len rest) (vec_len kin.others) (vec_capacity kin.ends) (sym len) is.ends_room;
  children_room = children_room_left (vec_len rest) (vec_len kin.others) origin.spare (vec_capacity kin.children) (sym len) is.children_room;
}
