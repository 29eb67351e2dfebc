-- What several calls on a host leave as it is and write, one after another.
use Rattle.std.proofs.Common.{List, [], ◌++◌, ℕ, Result, Ok, Err, refl, ◌∙◌}
use Rattle.std.specs.Result.{IsErrAnd}
use Rattle.llsc_host.specs.declared.host.Host.{Ghosts}
use Rattle.llsc_host.specs.Writes.{Broke, KeepsReads, KeepsWrites, Writes, Wrote}
use Rattle.llsc_host.proofs.Fronts.{adds_both, adds_nothing, front_less, front_more, rose_on}

pub reads_same : {S : Type 0} (host : Ghosts S) (here : S) → KeepsReads host here here
reads_same host here = record { files = refl; read_faults = refl; lost = refl }

pub reads_kept : {S : Type 0} (host : Ghosts S) (old mid new : S) → KeepsReads host old mid → KeepsReads host mid new → KeepsReads host old new
reads_kept host old mid new first second = record {
  files = second.files ∙ first.files;
  read_faults = second.read_faults ∙ first.read_faults;
  lost = second.lost ∙ first.lost;
}

pub writes_kept : {S : Type 0} (host : Ghosts S) (old mid new : S) → KeepsWrites host old mid → KeepsWrites host mid new → KeepsWrites host old new
writes_kept host old mid new first second = record { written = second.written ∙ first.written; write_faults = second.write_faults ∙ first.write_faults }

-- nothing was written
pub wrote_nothing : {S : Type 0} (host : Ghosts S) (here : S) → Wrote host here here []
wrote_nothing host here = record { whole = adds_nothing (host.written here); other = refl; reads = reads_same host here }

-- two texts, one after the other
pub wrote_both : {S : Type 0} (host : Ghosts S) (old mid new : S) (a b : List ℕ) → Wrote host old mid a → Wrote host mid new b → Wrote host old new (a ++ b)
wrote_both host old mid new a b first second = record {
  whole = adds_both (host.written old) (host.written mid) (host.written new) a b first.whole second.whole;
  other = second.other ∙ first.other;
  reads = reads_kept host old mid new first.reads second.reads;
}

-- the first of two texts was cut short, or the second
pub broke_first : {S : Type 0} (host : Ghosts S) (old new : S) (a b : List ℕ) → Broke host old new a → Broke host old new (a ++ b)
broke_first host old new a b first = record {
  front = front_less (host.written old) (host.written new) a b first.front;
  cause = first.cause;
  reads = first.reads;
}

pub broke_second : {S : Type 0} (host : Ghosts S) (old mid new : S) (a b : List ℕ) → Wrote host old mid a → Broke host mid new b → Broke host old new (a ++ b)
broke_second host old mid new a b first second = record {
  front = front_more (host.written old) (host.written mid) (host.written new) a b first.whole second.front;
  cause = rose_on (host.write_faults old) (host.write_faults mid) (host.write_faults new) first.other second.cause;
  reads = reads_kept host old mid new first.reads second.reads;
}

-- a text, and then another whole or cut short
pub writes_both : {S A B : Type 0} (host : Ghosts S) (old mid new : S) (a b : List ℕ) (result : Result A B)
    → Wrote host old mid a → Writes host mid new b result → Writes host old new (a ++ b) result
writes_both host old mid new a b (Ok done) first second = wrote_both host old mid new a b first second
writes_both host old mid new a b (Err fault) first second = broke_second host old mid new a b first second

-- a text was cut short, which is passed on, or the first of two
pub stopped : {S A B : Type 0} (host : Ghosts S) (old new : S) (text : List ℕ) (result : Result A B) (Q : B → Type 0)
    → IsErrAnd result Q → Broke host old new text → Writes host old new text result
stopped host old new text (Ok done) Q is broke = absurd is
stopped host old new text (Err fault) Q is broke = broke

pub stopped_first : {S A B : Type 0} (host : Ghosts S) (old new : S) (a b : List ℕ) (result : Result A B) (Q : B → Type 0)
    → IsErrAnd result Q → Broke host old new a → Writes host old new (a ++ b) result
stopped_first host old new a b result Q is first = stopped host old new (a ++ b) result Q is (broke_first host old new a b first)
