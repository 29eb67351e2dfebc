-- Induction over a list from its end, and what a list with one more entry has.
use Rattle.std.proofs.Common.{List, [], ◌∷◌, ◌++◌, sym, subst, append-nil, append_assoc}
use Rattle.history.specs.declared.entry.Entry.{Entry}

-- what holds of no entries, and of one more entry where it holds of those before it, holds of every list
pub by_ends : (P : List Entry → Type 0) → P [] → ((entries : List Entry) (entry : Entry) → P entries → P (entries ++ entry ∷ []))
    → (entries : List Entry) → P entries
by_ends P none more entries = from_front [] entries none
  where
    from_front : (front back : List Entry) → P front → P (front ++ back)
    from_front front [] h = subst P (sym (append-nil front)) h
    from_front front (entry ∷ back) h = subst P (append_assoc front (entry ∷ []) back) (from_front (front ++ entry ∷ []) back (more front entry h))
