-- Where entries stand in what was seen, once more was seen.
use Rattle.std.proofs.Common.{◌≡◌, ℕ, ◌*◌, ◌/◌, ◌<◌, List, [], ◌∷◌, ◌++◌, ap, sym, ◌∙◌, append_assoc, arith}
use Rattle.llsc_base.specs.Memory.{class_of, row_of}
use Rattle.llsc_base.specs.Sizes.{Numbers}
use Rattle.llsc_base.specs.declared.access.Place.{Place}
use Rattle.history.specs.Cause.{writes_in_class}
use Rattle.history.specs.declared.entry.Entry.{Entry}
use Rattle.history.specs.declared.entry.Entry.TheVariants.{Watch}
use Rattle.history.specs.Standing.{Standing, standing_of}
use Rattle.history.proofs.Appends.{standing_after-push}
use Rattle.history.proofs.Flags.{writes_in_class-standing}
use Rattle.shared_memory.specs.Origin.{Origin}
use Rattle.shared_memory.specs.Seen.{IsFront, Sees}
use Rattle.shared_memory.proofs.Fronts.{front-trans}
use Rattle.version_rule.specs.declared.hands.Hand.{Hand}
use Rattle.version_rule.specs.Exact.{IsVersion}
use Rattle.shared_memory.specs.Told.{Goes}
use Rattle.version_rule.specs.Told.{Decides, Mine}
use Rattle.version_memory.specs.Stands.{Stands}

pub front-sees : (origin : Origin) (t : ℕ) (old es new : List Entry) → Sees origin t old es new → IsFront old new
front-sees origin t old es new sees = (sees.added, sees.longer)

pub front-goes : (origin : Origin) (a b : Mine) (es : List Entry) (h : Hand) → Goes origin a es h b → IsFront a.0.seen b.0.seen
front-goes origin a b es h goes = front-sees origin a.0.lead a.0.seen es b.0.seen goes.sees

-- of what stands where it does, more was seen later, and less before
pub stands-within : (about : List Entry → Type 0) (entry : Entry) (before old new after : List Entry) → IsFront before old → IsFront new after → Stands about entry old new → Stands about entry before after
stands-within about entry before old new after less more s = record {
  past = s.past;
  later = s.later ++ more.0;
  are = more.1 ∙ ap (λ (l : List Entry). l ++ more.0) s.are ∙ append_assoc s.past (entry ∷ s.later) more.0;
  since = front-trans before old s.past less s.since;
  fact = s.fact;
}

-- the entry of a step that decides stands there
pub stands-decides : (origin : Origin) (a b : Mine) (entry : Entry) (about to : List Entry → Type 0) (h : Hand) → Decides origin a (entry ∷ []) about h b → ((l : List Entry) → about l → to l) → Stands to entry a.0.seen b.0.seen
stands-decides origin a b entry about to h d so = record { past = d.past; later = []; are = d.is; since = d.since; fact = so d.past d.fact }

-- a version is twice the stamp
pub stamp-version : (size : Numbers) (p : Place) (version : ℕ) (l : List Entry) → IsVersion size p version l → writes_in_class size (row_of size.granule p) l ≡ version / 2
stamp-version size p version l is = omega arith

-- below twice the limit there is room
pub room-version : (size : Numbers) (p : Place) (version : ℕ) → version < 2 * size.limit → (l : List Entry) → IsVersion size p version l → writes_in_class size (row_of size.granule p) l < size.limit
room-version size p version room l is = omega arith

-- a Watch is no write
pub writes-watch : (size : Numbers) (past : List Entry) (t : ℕ) (p : Place) (row : ℕ) → writes_in_class size row (past ++ Watch t p ∷ []) ≡ writes_in_class size row past
writes-watch size past t p row =
    sym (writes_in_class-standing size row [] (past ++ Watch t p ∷ [])) ∙ ap (λ (s : Standing). s.writes (class_of size.classes row)) (standing_after-push size (standing_of []) past (Watch t p))
    ∙ writes_in_class-standing size row [] past
