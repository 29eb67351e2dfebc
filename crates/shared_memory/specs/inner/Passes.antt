-- Only proofs and inner contracts need these words beside those of `specs/Passes`.
use Rattle.std.specs.Prelude.{ℕ, Bool, false, List, [], ◌++◌, ◌||◌, slice_set, ◌∷◌}
use Rattle.history.specs.declared.entry.Entry.{Entry}
use Rattle.shared_memory.specs.declared.views.View.{View}
use Rattle.shared_memory.specs.Seen.{longer}
use Rattle.shared_memory.specs.Passes.{one_mark, nobody}

-- each mark of one list or of the other
abbrev pub merged : List Bool → List Bool → List Bool
merged [] ys = ys
merged (x ∷ xs) [] = x ∷ xs
merged (x ∷ xs) (y ∷ ys) = (x || y) ∷ merged xs ys

module _ {D : Type 0} where
  -- the view of a seat that has just seen the whole history, which ends with these entries
  abbrev pub moved : View D → List Entry → List Entry → D → View D
  moved view history entries doing = record {
    numbers = view.numbers;
    lead = view.lead;
    seen = history ++ entries;
    left = nobody;
    right = nobody;
    doing = doing;
  }

  -- the view without a number, led by another of its numbers
  abbrev pub without_mark : ℕ → ℕ → D → View D → View D
  without_mark thread lead doing view = record view { numbers = slice_set view.numbers thread false; lead = lead; doing = doing }

  -- the view of the number alone
  abbrev pub alone_mark : ℕ → D → View D → View D
  alone_mark thread doing view = record view { numbers = one_mark thread; lead = thread; doing = doing }

  -- what two passes held and saw, as one pass, with what each of them had seen
  abbrev pub joined_view : D → View D → View D → View D
  joined_view doing one other = record {
    numbers = merged one.numbers other.numbers;
    lead = one.lead;
    seen = longer one.seen other.seen;
    left = record { numbers = one.numbers; seen = one.seen };
    right = record { numbers = other.numbers; seen = other.seen };
    doing = doing;
  }

  -- the view of a seat that is used up
  abbrev pub spent_view : D → View D
  spent_view doing = record { numbers = []; lead = 0; seen = []; left = nobody; right = nobody; doing = doing }
