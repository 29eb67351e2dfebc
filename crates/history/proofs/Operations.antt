-- Entries of a thread are staged exactly where they are operations; and they end at rest exactly where each is finished.
use Rattle.std.proofs.Common.{◌≡◌, ℕ, Bool, true, false, List, [], ◌∷◌, ◌++◌, nat_eq, refl, sym, ap, subst, ◌∙◌, inl, inr, append-nil}
use Rattle.std.specs.List.{flat_map}
use Rattle.std.proofs.lemmas.Bool.{cases_Bool, eqb-true}
use Rattle.llsc_base.specs.declared.access.Place.{Place}
use Rattle.history.specs.Entry.{thread_of}
use Rattle.history.specs.Parts.{entries_of}
use Rattle.history.specs.Operation.{AreFinished, AreOperations, Operation, clear, entries_of_operation, fail, load, load_missed, load_watched, start, store}
use Rattle.history.specs.Standing.{Stage, begun, looked, rests, written}
use Rattle.history.specs.declared.entry.Entry.{Entry}
use Rattle.history.specs.declared.entry.Entry.TheVariants.{Read, Write, Fail, Clear, Watch, Miss, Begin, End, Start}
use Rattle.history.proofs.Stages.{AreStaged, last_stage, stage_after, stage_before}

-- ---- a thread's own entries

abbrev AreOf : ℕ → List Entry → Type 0
AreOf t [] = Unit {0}
AreOf t (e ∷ es) = (thread_of e ≡ t) × AreOf t es

entries_of-AreOf : (t : ℕ) (history : List Entry) → AreOf t (entries_of t history)
entries_of-AreOf t [] = tt
entries_of-AreOf t (e ∷ es) = elim (cases_Bool (nat_eq (thread_of e) t)) [
  | inl own ↦ rw own (eqb-true (thread_of e) t own, entries_of-AreOf t es)
  | inr other ↦ rw other (entries_of-AreOf t es)
]

-- ---- what is left of an operation at a stage

record IsLoad (t : ℕ) (place : Place) (tail : List Entry) : Type 0 where
  value : ℕ
  is : tail ≡ Read t place value true ∷ []

record IsStore (t : ℕ) (place : Place) (tail : List Entry) : Type 0 where
  value : ℕ
  ex : Bool
  is : tail ≡ Write t place value ex ∷ End t place ∷ []

abbrev IsTail : ℕ → Stage → List Entry → Type 0
IsTail t rests tail = tail ≡ []
IsTail t (looked place) tail = IsLoad t place tail
IsTail t (begun place) tail = IsStore t place tail
IsTail t (written place) tail = tail ≡ End t place ∷ []

abbrev all_entries : ℕ → List Operation → List Entry
all_entries t operations = flat_map (entries_of_operation t) operations

-- ---- staged entries are operations

record Split (t : ℕ) (stage : Stage) (es : List Entry) : Type 0 where
  tail : List Entry
  is_tail : IsTail t stage tail
  operations : List Operation
  missing : List Entry
  ends : IsTail t (last_stage stage es) missing
  are : es ++ missing ≡ tail ++ all_entries t operations

split_none : (t : ℕ) (stage : Stage) → Split t stage []
split_none t rests = record { tail = []; is_tail = refl; operations = []; missing = []; ends = refl; are = refl }
split_none t (looked place) = record {
  tail = Read t place 0 true ∷ [];
  is_tail = record { value = 0; is = refl };
  operations = [];
  missing = Read t place 0 true ∷ [];
  ends = record { value = 0; is = refl };
  are = refl;
}
split_none t (begun place) = record {
  tail = Write t place 0 false ∷ End t place ∷ [];
  is_tail = record { value = 0; ex = false; is = refl };
  operations = [];
  missing = Write t place 0 false ∷ End t place ∷ [];
  ends = record { value = 0; ex = false; is = refl };
  are = refl;
}
split_none t (written place) = record {
  tail = End t place ∷ [];
  is_tail = refl;
  operations = [];
  missing = End t place ∷ [];
  ends = refl;
  are = refl;
}

-- an entry that begins an operation, which goes on with the tail
split_first : (t : ℕ) (e : Entry) (es : List Entry) (operation : Operation) (rest : Split t (stage_after e) es)
    → e ∷ rest.tail ≡ entries_of_operation t operation → Split t rests (e ∷ es)
split_first t e es operation rest whole = record {
  tail = [];
  is_tail = refl;
  operations = operation ∷ rest.operations;
  missing = rest.missing;
  ends = rest.ends;
  are = ap (λ (xs : List Entry). e ∷ xs) rest.are ∙ ap (λ (xs : List Entry). xs ++ all_entries t rest.operations) whole;
}

-- an entry that goes on with an operation
split_on : (t : ℕ) (stage : Stage) (e : Entry) (es : List Entry) (rest : Split t (stage_after e) es) → IsTail t stage (e ∷ rest.tail)
    → Split t stage (e ∷ es)
split_on t stage e es rest is = record {
  tail = e ∷ rest.tail;
  is_tail = is;
  operations = rest.operations;
  missing = rest.missing;
  ends = rest.ends;
  are = ap (λ (xs : List Entry). e ∷ xs) rest.are;
}

split_entry : (t : ℕ) (e : Entry) (es : List Entry) → thread_of e ≡ t → Split t (stage_after e) es → Split t (stage_before e) (e ∷ es)
split_entry t (Read thread place value true) es own rest =
    split_on t (looked place) (Read thread place value true) es rest
    (record { value = value; is = ap (λ (xs : List Entry). Read thread place value true ∷ xs) rest.is_tail ∙ ap (λ (u : ℕ). Read u place value true ∷ []) own })
split_entry t (Read thread place value false) es own rest =
    split_first t (Read thread place value false) es (load place value) rest
    (ap (λ (xs : List Entry). Read thread place value false ∷ xs) rest.is_tail ∙ ap (λ (u : ℕ). Read u place value false ∷ []) own)
split_entry t (Write thread place value ex) es own rest =
    split_on t (begun place) (Write thread place value ex) es rest
    (record { value = value; ex = ex; is = ap (λ (xs : List Entry). Write thread place value ex ∷ xs) rest.is_tail ∙ ap (λ (u : ℕ). Write u place value ex ∷ End t place ∷ []) own })
split_entry t (Fail thread place value cause) es own rest =
    split_first t (Fail thread place value cause) es (fail place value cause) rest
    (ap (λ (xs : List Entry). Fail thread place value cause ∷ xs) rest.is_tail ∙ ap (λ (u : ℕ). Fail u place value cause ∷ []) own)
split_entry t (Clear thread) es own rest =
    split_first t (Clear thread) es clear rest
    (ap (λ (xs : List Entry). Clear thread ∷ xs) rest.is_tail ∙ ap (λ (u : ℕ). Clear u ∷ []) own)
split_entry t (Watch thread place) es own rest =
    split_first t (Watch thread place) es (load_watched place rest.is_tail.value) rest
    (ap (λ (xs : List Entry). Watch thread place ∷ xs) rest.is_tail.is ∙ ap (λ (u : ℕ). Watch u place ∷ Read t place rest.is_tail.value true ∷ []) own)
split_entry t (Miss thread place) es own rest =
    split_first t (Miss thread place) es (load_missed place rest.is_tail.value) rest
    (ap (λ (xs : List Entry). Miss thread place ∷ xs) rest.is_tail.is ∙ ap (λ (u : ℕ). Miss u place ∷ Read t place rest.is_tail.value true ∷ []) own)
split_entry t (Begin thread place) es own rest =
    split_first t (Begin thread place) es (store place rest.is_tail.value rest.is_tail.ex) rest
    (ap (λ (xs : List Entry). Begin thread place ∷ xs) rest.is_tail.is ∙ ap (λ (u : ℕ). Begin u place ∷ Write t place rest.is_tail.value rest.is_tail.ex ∷ End t place ∷ []) own)
split_entry t (End thread place) es own rest =
    split_on t (written place) (End thread place) es rest
    (ap (λ (xs : List Entry). End thread place ∷ xs) rest.is_tail ∙ ap (λ (u : ℕ). End u place ∷ []) own)
split_entry t (Start thread child entry arg) es own rest =
    split_first t (Start thread child entry arg) es (start child entry arg) rest
    (ap (λ (xs : List Entry). Start thread child entry arg ∷ xs) rest.is_tail ∙ ap (λ (u : ℕ). Start u child entry arg ∷ []) own)

split : (t : ℕ) (stage : Stage) (es : List Entry) → AreOf t es → AreStaged stage es → Split t stage es
split t stage [] own staged = split_none t stage
split t stage (e ∷ es) own staged =
    subst (λ (x : Stage). Split t x (e ∷ es)) (sym staged.0) (split_entry t e es own.0 (split t (stage_after e) es own.1 staged.1))

pub AreOperations-AreStaged : (t : ℕ) (history : List Entry) → AreStaged rests (entries_of t history) → AreOperations t (entries_of t history)
AreOperations-AreStaged t history staged =
    let parts = split t rests (entries_of t history) (entries_of-AreOf t history) staged in
    record {
      missing = parts.missing;
      finished = record { operations = parts.operations; are = parts.are ∙ ap (λ (xs : List Entry). xs ++ all_entries t parts.operations) parts.is_tail };
    }

-- where they end at rest each is finished
pub AreFinished-AreStaged : (t : ℕ) (history : List Entry) → AreStaged rests (entries_of t history)
    → last_stage rests (entries_of t history) ≡ rests → AreFinished t (entries_of t history)
AreFinished-AreStaged t history staged ends =
    let parts = split t rests (entries_of t history) (entries_of-AreOf t history) staged in
    let none : parts.missing ≡ [] = subst (λ (x : Stage). IsTail t x parts.missing) ends parts.ends in
    record {
      operations = parts.operations;
      are =
          sym (append-nil (entries_of t history))
          ∙ ap (λ (xs : List Entry). entries_of t history ++ xs) (sym none)
          ∙ parts.are
          ∙ ap (λ (xs : List Entry). xs ++ all_entries t parts.operations) parts.is_tail;
    }

-- ---- operations are staged

record Rejoined (stage : Stage) (es missing : List Entry) : Type 0 where
  staged : AreStaged stage es
  ends : missing ≡ [] → last_stage stage es ≡ rests

head_of : (x y : Entry) (xs ys : List Entry) → x ∷ xs ≡ y ∷ ys → x ≡ y
head_of x y xs ys h = cc

tail_of : (x y : Entry) (xs ys : List Entry) → x ∷ xs ≡ y ∷ ys → xs ≡ ys
tail_of x y xs ys h = cc

no_entries : (x : Entry) (xs : List Entry) (stage : Stage) (es : List Entry) (missing : List Entry) → x ∷ xs ≡ [] → Rejoined stage es missing
no_entries x xs stage es missing h = absurd (let f : ⊥ = cc in f)

none_left : (x : Entry) (missing xs : List Entry) (stage : Stage) → missing ≡ x ∷ xs → missing ≡ [] → stage ≡ rests
none_left x missing xs stage h none = absurd (let f : ⊥ = (let same : [] ≡ x ∷ xs = sym none ∙ h in cc) in f)

ended_rest : (t : ℕ) (stage : Stage) (tail : List Entry) (operations : List Operation) (missing : List Entry) → IsTail t stage tail
    → missing ≡ tail ++ all_entries t operations → missing ≡ [] → stage ≡ rests
ended_rest t rests tail operations missing is are none = refl
ended_rest t (looked place) tail operations missing is are none =
    none_left (Read t place is.value true) missing (all_entries t operations) (looked place)
    (are ∙ ap (λ (xs : List Entry). xs ++ all_entries t operations) is.is) none
ended_rest t (begun place) tail operations missing is are none =
    none_left (Write t place is.value is.ex) missing (End t place ∷ all_entries t operations) (begun place)
    (are ∙ ap (λ (xs : List Entry). xs ++ all_entries t operations) is.is) none
ended_rest t (written place) tail operations missing is are none =
    none_left (End t place) missing (all_entries t operations) (written place)
    (are ∙ ap (λ (xs : List Entry). xs ++ all_entries t operations) is) none

-- an entry that comes at its stage, and the rest
next : (stage : Stage) (e known : Entry) (es missing : List Entry) → e ≡ known → stage ≡ stage_before known
    → Rejoined (stage_after known) es missing → Rejoined stage (e ∷ es) missing
next stage e known es missing is at rest =
    let put : Rejoined stage (known ∷ es) missing = record { staged = (at, rest.staged); ends = rest.ends } in
    let P : Entry → Type 0 = λ x. Rejoined stage (x ∷ es) missing in subst P (sym is) put

rejoin : (t : ℕ) (stage : Stage) (es tail : List Entry) (operations : List Operation) (missing : List Entry) → IsTail t stage tail
    → es ++ missing ≡ tail ++ all_entries t operations → Rejoined stage es missing
rejoin t stage [] tail operations missing is are = record { staged = tt; ends = ended_rest t stage tail operations missing is are }
rejoin t (looked place) (e ∷ es) tail operations missing is are =
    let head = Read t place is.value true in
    let all : e ∷ (es ++ missing) ≡ head ∷ all_entries t operations = are ∙ ap (λ (xs : List Entry). xs ++ all_entries t operations) is.is in
    next (looked place) e head es missing (head_of _ _ _ _ all) refl (rejoin t rests es [] operations missing refl (tail_of _ _ _ _ all))
rejoin t (begun place) (e ∷ es) tail operations missing is are =
    let head = Write t place is.value is.ex in
    let all : e ∷ (es ++ missing) ≡ head ∷ End t place ∷ all_entries t operations = are ∙ ap (λ (xs : List Entry). xs ++ all_entries t operations) is.is in
    next (begun place) e head es missing (head_of _ _ _ _ all) refl (rejoin t (written place) es (End t place ∷ []) operations missing refl (tail_of _ _ _ _ all))
rejoin t (written place) (e ∷ es) tail operations missing is are =
    let head = End t place in
    let all : e ∷ (es ++ missing) ≡ head ∷ all_entries t operations = are ∙ ap (λ (xs : List Entry). xs ++ all_entries t operations) is in
    next (written place) e head es missing (head_of _ _ _ _ all) refl (rejoin t rests es [] operations missing refl (tail_of _ _ _ _ all))
rejoin t rests (e ∷ es) tail [] missing is are =
    no_entries e (es ++ missing) rests (e ∷ es) missing (are ∙ ap (λ (xs : List Entry). xs ++ []) is)
rejoin t rests (e ∷ es) tail (load place value ∷ operations) missing is are =
    let head = Read t place value false in
    let all : e ∷ (es ++ missing) ≡ head ∷ all_entries t operations = are ∙ ap (λ (xs : List Entry). xs ++ all_entries t (load place value ∷ operations)) is in
    next rests e head es missing (head_of _ _ _ _ all) refl (rejoin t rests es [] operations missing refl (tail_of _ _ _ _ all))
rejoin t rests (e ∷ es) tail (load_watched place value ∷ operations) missing is are =
    let head = Watch t place in
    let all : e ∷ (es ++ missing) ≡ head ∷ Read t place value true ∷ all_entries t operations = are ∙ ap (λ (xs : List Entry). xs ++ all_entries t (load_watched place value ∷ operations)) is in
    next rests e head es missing (head_of _ _ _ _ all) refl
    (rejoin t (looked place) es (Read t place value true ∷ []) operations missing (record { value = value; is = refl }) (tail_of _ _ _ _ all))
rejoin t rests (e ∷ es) tail (load_missed place value ∷ operations) missing is are =
    let head = Miss t place in
    let all : e ∷ (es ++ missing) ≡ head ∷ Read t place value true ∷ all_entries t operations = are ∙ ap (λ (xs : List Entry). xs ++ all_entries t (load_missed place value ∷ operations)) is in
    next rests e head es missing (head_of _ _ _ _ all) refl
    (rejoin t (looked place) es (Read t place value true ∷ []) operations missing (record { value = value; is = refl }) (tail_of _ _ _ _ all))
rejoin t rests (e ∷ es) tail (store place value ex ∷ operations) missing is are =
    let head = Begin t place in
    let all : e ∷ (es ++ missing) ≡ head ∷ Write t place value ex ∷ End t place ∷ all_entries t operations = are ∙ ap (λ (xs : List Entry). xs ++ all_entries t (store place value ex ∷ operations)) is in
    next rests e head es missing (head_of _ _ _ _ all) refl
    (rejoin t (begun place) es (Write t place value ex ∷ End t place ∷ []) operations missing (record { value = value; ex = ex; is = refl }) (tail_of _ _ _ _ all))
rejoin t rests (e ∷ es) tail (fail place value cause ∷ operations) missing is are =
    let head = Fail t place value cause in
    let all : e ∷ (es ++ missing) ≡ head ∷ all_entries t operations = are ∙ ap (λ (xs : List Entry). xs ++ all_entries t (fail place value cause ∷ operations)) is in
    next rests e head es missing (head_of _ _ _ _ all) refl (rejoin t rests es [] operations missing refl (tail_of _ _ _ _ all))
rejoin t rests (e ∷ es) tail (clear ∷ operations) missing is are =
    let head = Clear t in
    let all : e ∷ (es ++ missing) ≡ head ∷ all_entries t operations = are ∙ ap (λ (xs : List Entry). xs ++ all_entries t (clear ∷ operations)) is in
    next rests e head es missing (head_of _ _ _ _ all) refl (rejoin t rests es [] operations missing refl (tail_of _ _ _ _ all))
rejoin t rests (e ∷ es) tail (start child entry arg ∷ operations) missing is are =
    let head = Start t child entry arg in
    let all : e ∷ (es ++ missing) ≡ head ∷ all_entries t operations = are ∙ ap (λ (xs : List Entry). xs ++ all_entries t (start child entry arg ∷ operations)) is in
    next rests e head es missing (head_of _ _ _ _ all) refl (rejoin t rests es [] operations missing refl (tail_of _ _ _ _ all))

pub AreStaged-AreOperations : (t : ℕ) (es : List Entry) → AreOperations t es → AreStaged rests es
AreStaged-AreOperations t es h = (rejoin t rests es [] h.finished.operations h.missing refl h.finished.are).staged

pub last_stage-AreFinished : (t : ℕ) (es : List Entry) → AreFinished t es → last_stage rests es ≡ rests
last_stage-AreFinished t es h = (rejoin t rests es [] h.operations [] refl (append-nil es ∙ h.are)).ends refl
