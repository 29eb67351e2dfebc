-- The passes of threads that were never started are taken in, one after another.
use Rattle.std.proofs.Common.{◌≡◌, ℕ, Bool, List, [], ◌∷◌, ◌++◌, refl, sym, subst, ap, ◌∙◌, append-nil, append_assoc}
use Rattle.std.proofs.lemmas.List.{map-append}
use Rattle.std.proofs.lemmas.List.Elements.{All-cons, All-head, All-nil, All-tail}
use Rattle.atomic_table.specs.Seated.{TableId}
use Rattle.llsc_base.specs.Images.{Program}
use Rattle.history.specs.declared.entry.Entry.{Entry}
use Rattle.shared_memory.specs.Seen.{IsFront, IsOneOf, SaysAllOf, joint}
use Rattle.guest_thread.specs.inner.Crews.{AreTaken}
use Rattle.guest_family.specs.inner.EndedStarters.{IsLater}
use Rattle.guest_family.specs.Kin.{AreSpares, IsSpare, spares_of}
use Rattle.guest_family.specs.declared.kin.Spare.{Spare}
use Rattle.guest_family.proofs.Combined.{joint_left, joint_right, taken_by}
use Rattle.guest_family.proofs.GoingOn.{front_on}

module _ {P : Type 0} (home : P → TableId) (numbers : P → ℕ → Bool) (seen : P → List Entry) where
  -- the first pass has gone on, and holds the number of one thread and those of all others but of those that are left
  pub record HasJoined (mem : TableId) (first : P) (thread : ℕ) (all left : List (Spare P)) (now : P) : Type 0 where
    pub memory : home now ≡ mem
    pub later : IsLater home numbers seen first now
    pub rest : List ℕ
    pub are : spares_of all ≡ spares_of left ++ rest
    pub taken : AreTaken (numbers now) (thread ∷ rest)
    pub program : Program
    pub spares : AreSpares home numbers seen mem program left

  -- a pass that takes in another has gone on
  pub later_more : (first old other new : P) → IsLater home numbers seen first old → home new ≡ home old → numbers new ≡ joint (numbers old) (numbers other)
      → IsFront (seen old) (seen new) → SaysAllOf (numbers old) (seen old) (seen new) → IsLater home numbers seen first new
  later_more first old other new later memory joined front says = record {
    memory = memory ∙ later.memory;
    holds = λ u had. joint_left (numbers old) (numbers other) (numbers new) u joined (later.holds u had);
    front = front_on (seen first) (seen old) (seen new) later.front front;
    says = λ u had. says u (later.holds u had) ∙ later.says u had;
  }

  pub later_none : (first : P) → IsLater home numbers seen first first
  later_none first = record { memory = refl; holds = λ u had. had; front = ([], sym (append-nil (seen first))); says = λ u had. refl }

  pub one_joined : (mem : TableId) (program : Program) (first new : P) (spare : Spare P) (all : List (Spare P)) → home first ≡ mem
      → AreSpares home numbers seen mem program (spare ∷ all) → home new ≡ home first → numbers new ≡ joint (numbers first) (numbers spare.pass)
      → IsFront (seen first) (seen new) → SaysAllOf (numbers first) (seen first) (seen new) → HasJoined mem first spare.thread all all new
  one_joined mem program first new spare all here are memory joined front says = record {
    memory = memory ∙ here;
    later = later_more first first spare.pass new (later_none first) memory joined front says;
    rest = [];
    are = sym (append-nil (spares_of all));
    taken = All-cons (λ u. IsOneOf u (numbers new)) spare.thread [] (joint_right (numbers first) (numbers spare.pass) (numbers new) spare.thread joined are.0.single.has)
        (All-nil (λ u. IsOneOf u (numbers new)));
    program = program;
    spares = are.1;
  }

  before_last : (mem : TableId) (program : Program) (spares rest : List (Spare P)) (last : Spare P) → spares ≡ rest ++ last ∷ [] → AreSpares home numbers seen mem program spares
      → AreSpares home numbers seen mem program rest × IsSpare home numbers seen mem program last
  before_last mem program spares [] last is are = (tt, (subst (AreSpares home numbers seen mem program) is are).0)
  before_last mem program spares (one ∷ rest) last is are =
      let all = subst (AreSpares home numbers seen mem program) is are in
      let others = before_last mem program (rest ++ last ∷ []) rest last refl all.1 in
      ((all.0, others.0), others.1)

  pub last_spare : (mem : TableId) (program : Program) (spares rest : List (Spare P)) (last : Spare P) → spares ≡ rest ++ last ∷ [] → AreSpares home numbers seen mem program spares
      → home last.pass ≡ mem
  last_spare mem program spares rest last is are = (before_last mem program spares rest last is are).1.memory

  pub another_joined : (mem : TableId) (first old new : P) (thread : ℕ) (all left rest : List (Spare P)) (last : Spare P) → HasJoined mem first thread all left old
      → left ≡ rest ++ last ∷ [] → home new ≡ home old → numbers new ≡ joint (numbers old) (numbers last.pass)
      → IsFront (seen old) (seen new) → SaysAllOf (numbers old) (seen old) (seen new) → HasJoined mem first thread all rest new
  another_joined mem first old new thread all left rest last is parts memory joined front says =
      let spares = before_last mem is.program left rest last parts is.spares in
      let keeps : (u : ℕ) → IsOneOf u (numbers old) → IsOneOf u (numbers new) = λ u had. joint_left (numbers old) (numbers last.pass) (numbers new) u joined had in
      let held = taken_by (numbers old) (numbers new) (thread ∷ is.rest) keeps is.taken in
      record {
        memory = memory ∙ is.memory;
        later = later_more first old last.pass new is.later memory joined front says;
        rest = last.thread ∷ is.rest;
        are = is.are ∙ ap (λ (ss : List (Spare P)). spares_of ss ++ is.rest) parts
            ∙ ap (λ (ns : List ℕ). ns ++ is.rest) (map-append (λ (s : Spare P). s.thread) rest (last ∷ []))
            ∙ append_assoc (spares_of rest) (last.thread ∷ []) is.rest;
        taken = All-cons (λ u. IsOneOf u (numbers new)) thread (last.thread ∷ is.rest) (All-head (λ u. IsOneOf u (numbers new)) thread is.rest held)
            (All-cons (λ u. IsOneOf u (numbers new)) last.thread is.rest (joint_right (numbers old) (numbers last.pass) (numbers new) last.thread joined spares.1.single.has)
            (All-tail (λ u. IsOneOf u (numbers new)) thread is.rest held));
        program = is.program;
        spares = spares.0;
      }

  pub all_joined : (mem : TableId) (first now : P) (thread : ℕ) (all left : List (Spare P)) → HasJoined mem first thread all left now → left ≡ []
      → AreTaken (numbers now) (thread ∷ spares_of all)
  all_joined mem first now thread all left is none =
      let rest : spares_of all ≡ is.rest = is.are ∙ ap (λ (ss : List (Spare P)). spares_of ss ++ is.rest) none in
      subst (λ (ns : List ℕ). AreTaken (numbers now) (thread ∷ ns)) (sym rest) is.taken
