-- Each kind of access, by which a thread is served in a memory that threads share.
use Rattle.std.proofs.Common.{◌∙◌, ◌+◌, ◌⊎◌, inl, inr, ℕ, true, false, List, [], ◌++◌, add-zero, ap, arith, refl, sym}
use Rattle.std.proofs.lemmas.List.{append-nil}
use Rattle.atomic_table.specs.Seated.{TableId}
use Rattle.llsc_base.specs.declared.access.Place.{Place}
use Rattle.history.specs.Parts.{entries_of}
use Rattle.history.specs.Operation.{clear, entries_of_operation, fail, load, load_missed, load_watched, store}
use Rattle.history.specs.declared.entry.Cause.{Cause}
use Rattle.history.specs.declared.entry.Entry.{Entry}
use Rattle.shared_memory.specs.Origin.{Origin}
use Rattle.shared_memory.specs.Seen.{Sees}
use Rattle.llsc_base.specs.declared.outside.Ask.TheVariants as ask
use Rattle.guest_thread.specs.inner.Sharing.{HasGoneOn, IsServedSharing, IsUnserved, SharingState}
use Rattle.guest_thread.specs.declared.counts.Counts.{Counts}
use Rattle.history.proofs.Appends.{entries_of-append}
use Rattle.guest_thread.proofs.Shared.{served_by}

abbrev pub part : TableId → Origin → ℕ → List Entry → Counts → SharingState
part memory origin t seen counts = record { memory = memory; origin = origin; thread = t; seen = seen; counts = counts }

abbrev pub one_read : Counts → Counts
one_read c = record { reads = c.reads + 1; writes = c.writes; fails = c.fails }

abbrev pub one_write : Counts → Counts
one_write c = record { reads = c.reads; writes = c.writes + 1; fails = c.fails }

abbrev pub one_fail : Counts → Counts
one_fail c = record { reads = c.reads; writes = c.writes; fails = c.fails + 1 }

module _ (memory : TableId) (origin : Origin) (t : ℕ) (old new : List Entry) (was : Counts) where
  further : (own : List Entry) (now : Counts) → Sees origin t old own new → HasGoneOn (part memory origin t old was) (part memory origin t new now)
  further own now sees = record { memory = refl; origin = refl; thread = refl; front = (sees.added, sees.longer) }

  pub load_served : (place : Place) (value : ℕ) → Sees origin t old (entries_of_operation t (load place value)) new
      → IsServedSharing (part memory origin t old was) (ask.Load place) value (part memory origin t new (one_read was))
  load_served place value sees =
      served_by origin (entries_of_operation t (load place value)) (part memory origin t old was) (part memory origin t new (one_read was)) (ask.Load place) value
      (further _ _ sees) sees refl refl refl (sym (add-zero was.writes)) (sym (add-zero was.fails)) (omega arith)

  pub load_ex_served : (place : Place) (value : ℕ) → Sees origin t old (entries_of_operation t (load_watched place value)) new
      → IsServedSharing (part memory origin t old was) (ask.LoadEx place) value (part memory origin t new (one_read was))
  load_ex_served place value sees =
      served_by origin (entries_of_operation t (load_watched place value)) (part memory origin t old was) (part memory origin t new (one_read was)) (ask.LoadEx place) value
      (further _ _ sees) sees refl refl refl (sym (add-zero was.writes)) (sym (add-zero was.fails)) (omega arith)

  pub load_missed_served : (place : Place) (value : ℕ) → Sees origin t old (entries_of_operation t (load_missed place value)) new
      → IsServedSharing (part memory origin t old was) (ask.LoadEx place) value (part memory origin t new (one_read was))
  load_missed_served place value sees =
      served_by origin (entries_of_operation t (load_missed place value)) (part memory origin t old was) (part memory origin t new (one_read was)) (ask.LoadEx place) value
      (further _ _ sees) sees refl refl refl (sym (add-zero was.writes)) (sym (add-zero was.fails)) (omega arith)

  pub load_either_served : (place : Place) (value : ℕ)
      → (Sees origin t old (entries_of_operation t (load_watched place value)) new ⊎ Sees origin t old (entries_of_operation t (load_missed place value)) new)
      → IsServedSharing (part memory origin t old was) (ask.LoadEx place) value (part memory origin t new (one_read was))
  load_either_served place value (inl sees) = load_ex_served place value sees
  load_either_served place value (inr sees) = load_missed_served place value sees

  pub store_served : (place : Place) (value : ℕ) → Sees origin t old (entries_of_operation t (store place value false)) new
      → IsServedSharing (part memory origin t old was) (ask.Store place value) 0 (part memory origin t new (one_write was))
  store_served place value sees =
      served_by origin (entries_of_operation t (store place value false)) (part memory origin t old was) (part memory origin t new (one_write was)) (ask.Store place value) 0
      (further _ _ sees) sees refl refl (sym (add-zero was.reads)) refl (sym (add-zero was.fails)) (omega arith)

  pub store_ex_served : (place : Place) (value : ℕ) → Sees origin t old (entries_of_operation t (store place value true)) new
      → IsServedSharing (part memory origin t old was) (ask.StoreEx place value) 0 (part memory origin t new (one_write was))
  store_ex_served place value sees =
      served_by origin (entries_of_operation t (store place value true)) (part memory origin t old was) (part memory origin t new (one_write was)) (ask.StoreEx place value) 0
      (further _ _ sees) sees refl refl (sym (add-zero was.reads)) refl (sym (add-zero was.fails)) (omega arith)

  pub fail_served : (place : Place) (value : ℕ) (cause : Cause) → Sees origin t old (entries_of_operation t (fail place value cause)) new
      → IsServedSharing (part memory origin t old was) (ask.StoreEx place value) 1 (part memory origin t new (one_fail was))
  fail_served place value cause sees =
      served_by origin (entries_of_operation t (fail place value cause)) (part memory origin t old was) (part memory origin t new (one_fail was)) (ask.StoreEx place value) 1
      (further _ _ sees) sees refl refl (sym (add-zero was.reads)) (sym (add-zero was.writes)) refl (omega arith)

  pub clear_served : Sees origin t old (entries_of_operation t clear) new
      → IsServedSharing (part memory origin t old was) ask.Clear 0 (part memory origin t new was)
  clear_served sees =
      served_by origin (entries_of_operation t clear) (part memory origin t old was) (part memory origin t new was) ask.Clear 0
      (further _ _ sees) sees refl refl (sym (add-zero was.reads)) (sym (add-zero was.writes)) (sym (add-zero was.fails)) (omega arith)

  pub none_served : Sees origin t old [] new → IsUnserved (part memory origin t old was) (part memory origin t new was)
  none_served sees = record {
    goes_on = further [] was sees;
    nothing = ap (entries_of t) sees.longer ∙ entries_of-append t old sees.added ∙ ap (λ l. entries_of t old ++ l) sees.mine ∙ append-nil (entries_of t old);
    counts = refl;
  }
