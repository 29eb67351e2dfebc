-- A thread's part in a memory that threads share, from its start on.
use Rattle.std.proofs.Common.{◌≡◌, ◌≤◌, ℕ, List, [], ◌∷◌, ◌++◌, ◌+◌, map, sum_by, refl, sym, subst, ap, ◌∙◌, append-nil, append_assoc, arith}
use Rattle.std.proofs.lemmas.List.{map-append}
use Rattle.std.proofs.lemmas.List.Sums.{sum_by-append}
use Rattle.llsc_base.specs.Memory.{row_of}
use Rattle.llsc_base.specs.declared.access.Place.{Place}
use Rattle.history.specs.Cause.{writes_in_class}
use Rattle.history.specs.Marked.{byte_place}
use Rattle.history.specs.Parts.{accesses_of, entries_of}
use Rattle.history.specs.Started.{starts_of}
use Rattle.history.specs.Starts.{starts_from, starts_in}
use Rattle.history.specs.declared.entry.Entry.{Entry}
use Rattle.shared_memory.specs.Origin.{Origin}
use Rattle.history.proofs.Appends.{accesses_of-append, entries_of-append}
use Rattle.history.proofs.Starts.{starts_from-own, starts_in-same}
use Rattle.shared_memory.specs.Seen.{IsFront, IsUsedUp, Sees}
use Rattle.llsc_base.specs.declared.outside.Ask.{Ask}
use Rattle.guest_core.specs.Ports.{Leads, stays, goes, refused}
use Rattle.guest_calls.specs.Pairs.{pair_of, pairs_of}
use Rattle.guest_calls.specs.Run.{Pair}
use Rattle.guest_thread.specs.Counting.{AreCounts, accesses_counted}
use Rattle.guest_thread.specs.Counts.{reads_in, writes_in, fails_in, reads_of, writes_of, fails_of}
use Rattle.guest_thread.specs.Outcome.{IsSpent}
use Rattle.guest_thread.specs.declared.counts.Counts.{Counts}
use Rattle.guest_thread.specs.inner.Sharing.{SharingState, HasGoneOn, HaveGrown, IsServedSharing, IsUnserved, RepliesSharing}

-- ---- a store that is refused

same_row : (granule : ℕ) (place : Place) → row_of granule (byte_place place.addr) ≡ row_of granule place
unfolding row_of
same_row granule place = refl

pub is_spent : (origin : Origin) (place : Place) (class writes : ℕ) (seen : List Entry) → IsUsedUp origin place class writes seen → IsSpent origin.size seen place.addr
is_spent origin place class writes seen used =
    subst (λ row. origin.size.limit ≤ writes_in_class origin.size row seen) (sym (same_row origin.size.granule place)) used.used_up

-- ---- all accesses

front_on : (first at last : List Entry) → IsFront first at → IsFront at last → IsFront first last
front_on first at last early late =
    (early.0 ++ late.0, late.1 ∙ ap (λ l. l ++ late.0) early.1 ∙ append_assoc first early.0 late.0)

goes_on_still : (state : SharingState) → HasGoneOn state state
goes_on_still state = record { memory = refl; origin = refl; thread = refl; front = ([], sym (append-nil state.seen)) }

goes_further : (first at last : SharingState) → HasGoneOn first at → HasGoneOn at last → HasGoneOn first last
goes_further first at last early late = record {
  memory = late.memory ∙ early.memory;
  origin = late.origin ∙ early.origin;
  thread = late.thread ∙ early.thread;
  front = front_on first.seen at.seen last.seen early.front late.front;
}

-- ---- counts

grown_still : (thread : ℕ) (seen : List Entry) (counts : Counts) → HaveGrown thread seen seen counts counts
grown_still thread seen counts = record { reads = refl; writes = refl; fails = refl }

-- a number that has grown with another, twice
grown_twice : (first at next past here now : ℕ) → at + past ≡ first + here → next + here ≡ at + now → next + past ≡ first + now
grown_twice first at next past here now early late = omega (arith, early, late)

grown_further : (thread : ℕ) (past here now : List Entry) (first at next : Counts) → HaveGrown thread past here first at → HaveGrown thread here now at next
    → HaveGrown thread past now first next
grown_further thread past here now first at next early late = record {
  reads = grown_twice first.reads at.reads next.reads (reads_of (entries_of thread past)) (reads_of (entries_of thread here)) (reads_of (entries_of thread now)) early.reads late.reads;
  writes = grown_twice first.writes at.writes next.writes (writes_of (entries_of thread past)) (writes_of (entries_of thread here)) (writes_of (entries_of thread now)) early.writes late.writes;
  fails = grown_twice first.fails at.fails next.fails (fails_of (entries_of thread past)) (fails_of (entries_of thread here)) (fails_of (entries_of thread now)) early.fails late.fails;
}

-- the thread has made no access since
grown_unmade : (thread : ℕ) (past here now : List Entry) (first at : Counts) → entries_of thread now ≡ entries_of thread here → HaveGrown thread past here first at
    → HaveGrown thread past now first at
grown_unmade thread past here now first at same grown = record {
  reads = grown.reads ∙ ap (λ es. first.reads + reads_of es) (sym same);
  writes = grown.writes ∙ ap (λ es. first.writes + writes_of es) (sym same);
  fails = grown.fails ∙ ap (λ es. first.fails + fails_of es) (sym same);
}

-- a thread has come from a first state with these accesses and replies, and has started no other by itself
pub record HasShared (first : SharingState) (pairs : List Pair) (now : SharingState) : Type 0 where
  pub goes_on : HasGoneOn first now
  pub pairs_are : pairs_of first.thread now.seen ≡ pairs_of first.thread first.seen ++ pairs
  pub unstarted : starts_in first.thread now.seen ≡ starts_in first.thread first.seen
  pub counts : HaveGrown first.thread first.seen now.seen first.counts now.counts

served_on : (first at next : SharingState) (pairs : List Pair) (ask : Ask) (reply : ℕ) → HasShared first pairs at → IsServedSharing at ask reply next
    → HasShared first (pairs ++ (ask, reply) ∷ []) next
served_on first at next pairs ask reply shared served =
    let same = shared.goes_on.thread in
    record {
      goes_on = goes_further first at next shared.goes_on served.goes_on;
      pairs_are = subst (λ t. pairs_of t next.seen ≡ pairs_of t at.seen ++ (ask, reply) ∷ []) same served.pairs ∙ ap (λ l. l ++ (ask, reply) ∷ []) shared.pairs_are
          ∙ append_assoc (pairs_of first.thread first.seen) pairs ((ask, reply) ∷ []);
      unstarted = subst (λ t. starts_in t next.seen ≡ starts_in t at.seen) same served.unstarted ∙ shared.unstarted;
      counts = grown_further first.thread first.seen at.seen next.seen first.counts at.counts next.counts shared.counts
          (subst (λ t. HaveGrown t at.seen next.seen at.counts next.counts) same served.counts);
    }

refused_on : (first at next : SharingState) (pairs : List Pair) → HasShared first pairs at → IsUnserved at next → HasShared first pairs next
refused_on first at next pairs shared served =
    let same = shared.goes_on.thread in
    let entries : entries_of first.thread next.seen ≡ entries_of first.thread at.seen =
    subst (λ t. entries_of t next.seen ≡ entries_of t at.seen) same served.nothing in
    record {
      goes_on = goes_further first at next shared.goes_on served.goes_on;
      pairs_are = ap (λ l. map pair_of (accesses_of l)) entries ∙ shared.pairs_are;
      unstarted = starts_from-own first.thread 0 next.seen ∙ ap (starts_from first.thread 0) entries ∙ sym (starts_from-own first.thread 0 at.seen) ∙ shared.unstarted;
      counts = subst (HaveGrown first.thread first.seen next.seen first.counts) (sym served.counts)
          (grown_unmade first.thread first.seen at.seen next.seen first.counts at.counts entries shared.counts);
    }

-- all of them
pub after_all : (first : SharingState) (pairs : List Pair) (last : SharingState) → Leads RepliesSharing first pairs last → HasShared first pairs last
after_all first _ _ stays = record {
  goes_on = goes_on_still first;
  pairs_are = sym (append-nil (pairs_of first.thread first.seen));
  unstarted = refl;
  counts = grown_still first.thread first.seen first.counts;
}
after_all first _ _ (goes pairs at next ask reply leads served) =
    served_on first at next pairs ask reply (after_all first pairs at leads) served
after_all first _ _ (refused pairs at next ask leads served) =
    refused_on first at next pairs (after_all first pairs at leads) served

-- ---- from its first access on

-- all pairs are those of the way, where there were none before
pub pairs_alone : (first last : SharingState) (pairs : List Pair) → HasShared first pairs last → entries_of first.thread first.seen ≡ []
    → pairs_of first.thread last.seen ≡ pairs
pairs_alone first last pairs shared none = shared.pairs_are ∙ ap (λ l. map pair_of (accesses_of l) ++ pairs) none

grown_from_none : (last past first now : ℕ) → last + past ≡ first + now → past ≡ 0 → first ≡ 0 → last ≡ now
grown_from_none last past first now grown none zero = omega (arith, grown, none, zero)

pub counts_alone : (first last : SharingState) (pairs : List Pair) → HasShared first pairs last → entries_of first.thread first.seen ≡ []
    → first.counts ≡ record { reads = 0; writes = 0; fails = 0 } → AreCounts first.thread last.seen last.counts
counts_alone first last pairs shared none counts = record {
  reads = grown_from_none last.counts.reads (reads_of (entries_of first.thread first.seen)) first.counts.reads (reads_of (entries_of first.thread last.seen)) shared.counts.reads (ap reads_of none) (ap (λ (n : Counts). n.reads) counts);
  writes = grown_from_none last.counts.writes (writes_of (entries_of first.thread first.seen)) first.counts.writes (writes_of (entries_of first.thread last.seen)) shared.counts.writes (ap writes_of none) (ap (λ (n : Counts). n.writes) counts);
  fails = grown_from_none last.counts.fails (fails_of (entries_of first.thread first.seen)) first.counts.fails (fails_of (entries_of first.thread last.seen)) shared.counts.fails (ap fails_of none) (ap (λ (n : Counts). n.fails) counts);
}

-- ---- an access of a memory, by which a thread is served

grown_by : (old new own past now : ℕ) → new ≡ old + own → now ≡ past + own → new + past ≡ old + now
grown_by old new own past now counted more = omega (arith, counted, more)

-- by the entries of the thread that it adds, which start no other: what they are as an access and a reply, and how they count
pub served_by : (origin : Origin) (own : List Entry) (old new : SharingState) (ask : Ask) (reply : ℕ) → HasGoneOn old new
    → Sees origin old.thread old.seen own new.seen → map pair_of (accesses_of own) ≡ (ask, reply) ∷ [] → starts_of old.thread own ≡ 0
    → new.counts.reads ≡ old.counts.reads + reads_of own → new.counts.writes ≡ old.counts.writes + writes_of own → new.counts.fails ≡ old.counts.fails + fails_of own
    → accesses_counted new.counts ≤ accesses_counted old.counts + 1 → IsServedSharing old ask reply new
served_by origin own old new ask reply further sees pair none reads writes fails one =
    let t = old.thread in
    let entries : entries_of t new.seen ≡ entries_of t old.seen ++ own =
    ap (entries_of t) sees.longer ∙ entries_of-append t old.seen sees.added ∙ ap (λ l. entries_of t old.seen ++ l) sees.mine in
    let more : (count : Entry → ℕ) → sum_by count (entries_of t new.seen) ≡ sum_by count (entries_of t old.seen) + sum_by count own =
    λ count. ap (sum_by count) entries ∙ sum_by-append count (entries_of t old.seen) own in
    record {
      goes_on = further;
      pairs = ap (λ l. map pair_of (accesses_of l)) entries ∙ ap (map pair_of) (accesses_of-append (entries_of t old.seen) own)
          ∙ map-append pair_of (accesses_of (entries_of t old.seen)) (accesses_of own) ∙ ap (λ l. pairs_of t old.seen ++ l) pair;
      unstarted = subst (λ l. starts_in t l ≡ starts_in t old.seen) (sym sees.longer) (starts_in-same t old.seen sees.added own sees.mine none);
      counts = record {
        reads = grown_by old.counts.reads new.counts.reads (reads_of own) (reads_of (entries_of t old.seen)) (reads_of (entries_of t new.seen)) reads (more reads_in);
        writes = grown_by old.counts.writes new.counts.writes (writes_of own) (writes_of (entries_of t old.seen)) (writes_of (entries_of t new.seen)) writes (more writes_in);
        fails = grown_by old.counts.fails new.counts.fails (fails_of own) (fails_of (entries_of t old.seen)) (fails_of (entries_of t new.seen)) fails (more fails_in);
      };
      one = one;
    }
