-- The first view of a memory, and what a pass that holds every number knows of the whole history.
use Rattle.std.proofs.Common.{◌≡◌, ℕ, zero, suc, ◌+◌, ◌*◌, ◌<◌, ◌≤◌, true, List, [], ◌∷◌, length, replicate, refl, ap, sym, ◌∙◌, subst, inl, inr, arith}
use mathlib.Core.Option.{some, some-injective, some-ne-none}
use lib.ListN.{get_elem?}
use Rattle.std.proofs.lemmas.Bool.{cases_lt}
use Rattle.llsc_base.specs.Sizes.{Numbers}
use Rattle.row_bytes.specs.Cell.{cell_at}
use Rattle.history.specs.Memory.{IsMemory}
use Rattle.history.specs.Parts.{accesses_of, entries_of}
use Rattle.history.specs.Legal.{IsComplete}
use Rattle.history.specs.Monitor.{Monitor, at_rest_by, monitor_after}
use Rattle.history.specs.Standing.{Standing, rests, standing_of}
use Rattle.history.specs.declared.entry.Entry.{Entry}
use Rattle.history.proofs.Appends.{monitor_after-accesses_of}
use Rattle.history.proofs.CellLaws.{CellsAre-standing}
use Rattle.history.proofs.Legality.{IsArmLegal-MayFollow, IsComplete-rests}
use Rattle.history.proofs.Marks.{IsAsLarge-monitor_after}
use Rattle.shared_memory.specs.declared.views.View.{View}
use Rattle.shared_memory.specs.Seen.{IsFront, IsOneOf}
use Rattle.shared_memory.specs.Passes.{first_view, marked}
use Rattle.shared_memory.specs.Rule.{Fits, Tells}
use Rattle.shared_memory.proofs.Fronts.{front-all, front-none, whole-front}
use Rattle.shared_memory.proofs.Grown.{part-nobody, within-nobody}
use Rattle.shared_memory.proofs.Split.{resting}

all-marked : (n t : ℕ) → t < n → IsOneOf t (marked (replicate n true))
all-marked zero t h = absurd (omega arith)
all-marked (suc n) zero h = refl
all-marked (suc n) (suc t) h = all-marked n t (omega arith)

marked-all : (n t : ℕ) → IsOneOf t (marked (replicate n true)) → t < n
marked-all zero t h = absurd (let f : ⊥ = cc in f)
marked-all (suc n) zero h = omega arith
marked-all (suc n) (suc t) h = let r = marked-all n t h in omega arith

module _ {D : Type 0} (knows : Standing → ℕ → D → Type 0) (size : Numbers) (bytes : List ℕ) where
  pub opened : (doing : D) → IsMemory size bytes → ((t : ℕ) → knows (standing_of bytes) t doing)
      → Tells knows size bytes (first_view size.threads doing ∷ []) [] (standing_of bytes)
  opened doing memory idle =
      let v = first_view size.threads doing in
      let owner : ℕ → ℕ = λ _. 0 in
      let fits : Fits knows size (standing_of bytes) [] owner 0 v = record {
        part = record { front = front-all []; all = λ t has. refl };
        left = part-nobody [];
        right = part-nobody [];
        left_within = within-nobody v.numbers;
        right_within = within-nobody v.numbers;
        owns = λ t has. refl;
        below = λ t has. marked-all size.threads t has;
        knows_it = λ t has. idle t;
      } in
      record {
        memory = memory;
        standing_is = refl;
        follows = tt;
        owner = owner;
        each = first_fits fits;
        held = λ t below. record { view = v; at = refl; has = all-marked size.threads t below };
        outside = λ t above. refl;
      }
    where
      first_fits : {v : View D} → Fits knows size (standing_of bytes) [] (λ _. 0) 0 v → (j : ℕ) (x : View D) → get_elem? (v ∷ []) j ≡ some x
          → Fits knows size (standing_of bytes) [] (λ _. 0) j x
      first_fits {v} fits zero x e = subst (λ (y : View D). Fits knows size (standing_of bytes) [] (λ _. 0) 0 y) (some-injective v x e) fits
      first_fits {v} fits (suc j) x e = absurd (some-ne-none x (sym e))

  module _ (views : List (View D)) (history : List Entry) (s : Standing) (seat : ℕ) (v : View D) (tells : Tells knows size bytes views history s) (at : get_elem? views seat ≡ some v)
      (all : (t : ℕ) → t < size.threads → IsOneOf t (marked v.numbers)) where
    -- it has seen all of it
    pub whole : v.seen ≡ history
    whole = let fits = tells.each seat v at in whole-front v.seen history fits.part.front (λ t. elim (cases_lt t size.threads) [
      | inl below ↦ fits.part.all t (all t below)
      | inr above ↦ tells.outside t above ∙ sym (nothing v.seen history t fits.part.front (tells.outside t above))
    ])
      where
        nothing : (xs l : List Entry) (t : ℕ) → IsFront xs l → entries_of t l ≡ [] → entries_of t xs ≡ []
        nothing xs l t front none = front-none xs front.0 t (ap (entries_of t) (sym front.1) ∙ none)

    -- and where it rests no operation is unfinished
    pub complete : ((t : ℕ) → knows s t v.doing → s.stage t ≡ rests) → IsComplete history
    complete rest = let fits = tells.each seat v at in IsComplete-rests size bytes history tells.follows (λ t. ap (λ (x : Standing). x.stage t) (sym tells.standing_is) ∙ elim (cases_lt t size.threads) [
      | inl below ↦ rest t (fits.knows_it t (all t below))
      | inr above ↦ ap (λ (x : Standing). x.stage t) tells.standing_is ∙ resting size t bytes history (tells.outside t above)
    ])

  -- the cells are those of the memory that the accesses leave
  pub cells : (views : List (View D)) (history : List Entry) (s : Standing) → Tells knows size bytes views history s → (i : ℕ) → 8 * i + 8 ≤ size.mem
      → s.cells i ≡ cell_at (monitor_after (at_rest_by size.granule bytes size.threads) (accesses_of history)).memory i
  cells views history s tells i inside =
      let start = at_rest_by size.granule bytes size.threads in
      let legal = IsArmLegal-MayFollow size bytes tells.memory history tells.follows in
      let large = IsAsLarge-monitor_after start history legal in
      let long : length (monitor_after start history).memory ≡ size.mem = large.bytes ∙ tells.memory.sized in
      ap (λ (x : Standing). x.cells i) tells.standing_is
      ∙ (CellsAre-standing size bytes size.threads history tells.memory.small legal).cells i (omega arith)
      ∙ ap (λ (m : Monitor). cell_at m.memory i) (sym (monitor_after-accesses_of start history))
