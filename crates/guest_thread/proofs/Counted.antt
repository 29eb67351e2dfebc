-- The counts of a thread after one more access, and after some more of the history.
use Rattle.std.proofs.Common.{◌≡◌, ℕ, ◌+◌, ◌==◌, true, List, [], ◌∷◌, ◌++◌, sum_by, refl, sym, ap, ◌∙◌, zero-add, eq-eqb, arith}
use Rattle.std.proofs.lemmas.List.Sums.{sum_by-append}
use Rattle.history.specs.Entry.{thread_of}
use Rattle.history.specs.Parts.{entries_of}
use Rattle.history.specs.declared.entry.Entry.{Entry}
use Rattle.history.proofs.Appends.{entries_of-append}
use Rattle.guest_thread.specs.Counts.{reads_in, writes_in, fails_in}
use Rattle.guest_thread.specs.Counting.{AreCounts, HaveGrownBy}
use Rattle.guest_thread.specs.declared.counts.Counts.{Counts}
use Rattle.guest_thread.specs.inner.Sharing.{HaveGrown}
use Rattle.shared_memory.specs.Seen.{IsFront}

-- the thread's own entry counts
own_more : (count : Entry → ℕ) (t : ℕ) (history : List Entry) (entry : Entry) → thread_of entry ≡ t
    → sum_by count (entries_of t (history ++ entry ∷ [])) ≡ sum_by count (entries_of t history) + count entry
own_more count t history entry own =
    let mine : (thread_of entry == t) ≡ true = eq-eqb (thread_of entry) t own in
    let last : entries_of t (entry ∷ []) ≡ entry ∷ [] = rw mine refl in
    ap (sum_by count) (entries_of-append t history (entry ∷ []))
    ∙ ap (λ l. sum_by count (entries_of t history ++ l)) last
    ∙ sum_by-append count (entries_of t history) (entry ∷ [])
    ∙ ap (λ n. sum_by count (entries_of t history) + n) (zero-add (count entry))

pub own_counted : (t : ℕ) (history : List Entry) (entry : Entry) (old new : Counts) → thread_of entry ≡ t → AreCounts t history old
    → new.reads ≡ old.reads + reads_in entry → new.writes ≡ old.writes + writes_in entry → new.fails ≡ old.fails + fails_in entry
    → AreCounts t (history ++ entry ∷ []) new
own_counted t history entry old new own were reads writes fails = record {
  reads = reads ∙ ap (λ n. n + reads_in entry) were.reads ∙ sym (own_more reads_in t history entry own);
  writes = writes ∙ ap (λ n. n + writes_in entry) were.writes ∙ sym (own_more writes_in t history entry own);
  fails = fails ∙ ap (λ n. n + fails_in entry) were.fails ∙ sym (own_more fails_in t history entry own);
}

-- ---- counts after some more of the history

-- a number that has grown with another, which a longer list has
grown_beyond : (before after past added now : ℕ) → after + past ≡ before + now → now ≡ past + added → after ≡ before + added
grown_beyond before after past added now grown more = omega (arith, grown, more)

more_of : (count : Entry → ℕ) (t : ℕ) (old new added : List Entry) → new ≡ old ++ added → sum_by count (entries_of t new) ≡ sum_by count (entries_of t old) + sum_by count (entries_of t added)
more_of count t old new added is =
    ap (λ es. sum_by count (entries_of t es)) is ∙ ap (sum_by count) (entries_of-append t old added) ∙ sum_by-append count (entries_of t old) (entries_of t added)

pub grown_by_added : (t : ℕ) (old new added : List Entry) (before after : Counts) → new ≡ old ++ added → HaveGrown t old new before after → HaveGrownBy t added before after
grown_by_added t old new added before after is grown = record {
  reads = grown_beyond before.reads after.reads (sum_by reads_in (entries_of t old)) (sum_by reads_in (entries_of t added)) (sum_by reads_in (entries_of t new)) grown.reads (more_of reads_in t old new added is);
  writes = grown_beyond before.writes after.writes (sum_by writes_in (entries_of t old)) (sum_by writes_in (entries_of t added)) (sum_by writes_in (entries_of t new)) grown.writes (more_of writes_in t old new added is);
  fails = grown_beyond before.fails after.fails (sum_by fails_in (entries_of t old)) (sum_by fails_in (entries_of t added)) (sum_by fails_in (entries_of t new)) grown.fails (more_of fails_in t old new added is);
}

-- where they were those of all accesses, they still are
pub still_counts : (t : ℕ) (old new : List Entry) (before after : Counts) (more : IsFront old new) → HaveGrownBy t more.0 before after → AreCounts t old before → AreCounts t new after
still_counts t old new before after more grown were = record {
  reads = grown.reads ∙ ap (λ n. n + sum_by reads_in (entries_of t more.0)) were.reads ∙ sym (more_of reads_in t old new more.0 more.1);
  writes = grown.writes ∙ ap (λ n. n + sum_by writes_in (entries_of t more.0)) were.writes ∙ sym (more_of writes_in t old new more.0 more.1);
  fails = grown.fails ∙ ap (λ n. n + sum_by fails_in (entries_of t more.0)) were.fails ∙ sym (more_of fails_in t old new more.0 more.1);
}
