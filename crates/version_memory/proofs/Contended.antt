-- A store that is tried once is not done: a write of its class was in flight.
use Rattle.std.proofs.Common.{◌≢◌, ℕ, ◌%◌, [], ap, inl, inr, sym, ◌∙◌, append-nil, arith}
use Rattle.llsc_base.specs.Memory.{row_of}
use Rattle.llsc_base.specs.declared.access.Place.{Place}
use Rattle.history.specs.Class.{edges_of}
use Rattle.shared_memory.specs.Origin.{Origin}
use Rattle.shared_memory.specs.Told.{Goes}
use Rattle.shared_memory.specs.inner.Told.{ask}
use Rattle.version_rule.specs.Told.{HasFoundTag, Mine}
use Rattle.version_memory.specs.Exact.{IsContended}
use Rattle.version_memory.proofs.After.{front-goes}

module _ (origin : Origin) (p : Place) (value tag : ℕ) (old looked : Mine) (found : HasFoundTag (ask origin p value) old tag looked) where
  -- its tag was odd
  pub contended-odd : tag % 2 ≢ 0 → IsContended origin.size p old.0.seen looked.0.seen
  contended-odd odd = record {
    past = looked.0.seen;
    since = front-goes origin old looked [] old.0.doing found.goes;
    until = ([], sym (append-nil looked.0.seen));
    met = inl (ap (λ (n : ℕ). n % 2) found.edges ∙ omega (arith, odd));
  }

  -- its tag was even, and another when it was to be claimed
  pub contended-moved : (new : Mine) → Goes origin looked [] looked.0.doing new → edges_of origin.size (row_of origin.size.granule p) new.0.seen ≢ tag → IsContended origin.size p old.0.seen new.0.seen
  contended-moved new goes moved = record {
    past = looked.0.seen;
    since = front-goes origin old looked [] old.0.doing found.goes;
    until = front-goes origin looked new [] looked.0.doing goes;
    met = inr (λ same. moved (same ∙ found.edges));
  }
