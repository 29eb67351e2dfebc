-- Accesses as they are read again of a record's text, where a CLREX has no place: they are the same entries of a history, and have
-- the same lines.
use Rattle.std.proofs.Common.{◌≡◌, ℕ, suc, List, [], ◌∷◌, ◌++◌, length, map, refl, sym, ap, ◌∙◌}
use Rattle.std.specs.Prelude.{flat_map}
use Rattle.llsc_base.specs.Sizes.{Numbers}
use Rattle.history.specs.Accesses.{entry_of, history_of}
use Rattle.history.specs.declared.entry.Access.{Access}
use Rattle.history.specs.declared.entry.Deed.{Deed}
use Rattle.history.specs.declared.entry.Deed.TheVariants as deed
use Rattle.history.specs.declared.entry.Entry.{Entry}
use Rattle.run_record.specs.Text.{header_text, line_text, record_text}
use Rattle.run_record.proofs.RecordTexts.{text_is}
use Rattle.run_merge.specs.Logs.{access_of, log_of}
use Rattle.run_merge.specs.Merge.{IsMerge}
use Rattle.llsc_call.specs.Record.{record_by}

-- ---- one access

abbrev written : Access → Access
written access = access_of (entry_of access)

entry_by_deed : (access : Access) (made : Deed) → entry_of (written (record access { deed = made })) ≡ entry_of (record access { deed = made })
entry_by_deed access deed.Load = refl
entry_by_deed access deed.LoadEx = refl
entry_by_deed access deed.Store = refl
entry_by_deed access deed.StoreEx = refl
entry_by_deed access deed.StoreFail = refl
entry_by_deed access deed.Clear = refl

line_by_deed : (access : Access) (made : Deed) → line_text (written (record access { deed = made })) ≡ line_text (record access { deed = made })
unfolding line_text
line_by_deed access deed.Load = refl
line_by_deed access deed.LoadEx = refl
line_by_deed access deed.Store = refl
line_by_deed access deed.StoreEx = refl
line_by_deed access deed.StoreFail = refl
line_by_deed access deed.Clear = refl

entry_written : (access : Access) → entry_of (written access) ≡ entry_of access
entry_written access = entry_by_deed access access.deed

line_written : (access : Access) → line_text (written access) ≡ line_text access
line_written access = line_by_deed access access.deed

-- ---- all of them

abbrev pub as_written : List Access → List Access
as_written merged = map access_of (history_of merged)

pub history_written : (merged : List Access) → history_of (as_written merged) ≡ history_of merged
history_written [] = refl
history_written (access ∷ merged) =
    ap (λ (e : Entry). e ∷ history_of (as_written merged)) (entry_written access) ∙ ap (λ (h : List Entry). entry_of access ∷ h) (history_written merged)

count_written : (merged : List Access) → length (as_written merged) ≡ length merged
count_written [] = refl
count_written (access ∷ merged) = ap suc (count_written merged)

lines_written : (merged : List Access) → flat_map line_text (as_written merged) ≡ flat_map line_text merged
lines_written [] = refl
lines_written (access ∷ merged) =
    ap (λ l. l ++ flat_map line_text (as_written merged)) (line_written access) ∙ ap (λ l. line_text access ++ l) (lines_written merged)

pub form_written : (merged : List Access) → as_written merged ≡ map access_of (history_of (as_written merged))
form_written merged = ap (map access_of) (sym (history_written merged))

-- they are a merge where those are
pub merge_written : (size : Numbers) (history : List Entry) (merged : List Access) → IsMerge size history merged → IsMerge size history (as_written merged)
merge_written size history merged merge thread = ap (log_of size thread) (history_written merged) ∙ merge thread

-- and their record has the text of those
pub text_written : (size : Numbers) (budget : ℕ) (merged : List Access) → record_text (record_by size budget (as_written merged)) ≡ record_text (record_by size budget merged)
text_written size budget merged =
    text_is (record_by size budget (as_written merged))
    ∙ ap (λ n. header_text size.threads size.granule budget n ++ flat_map line_text (as_written merged)) (count_written merged)
    ∙ ap (λ l. header_text size.threads size.granule budget (length merged) ++ l) (lines_written merged)
    ∙ sym (text_is (record_by size budget merged))
