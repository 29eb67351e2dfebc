-- The rule holds of a memory that is made.
use Rattle.std.proofs.Common.{◌≡◌, ◌+◌, ◌/◌, ◌<◌, ℕ, List, [], length, slice_index, refl, inl, arith}
use Rattle.row_bytes.specs.Cell.{cell_at}
use Rattle.atomic_table.specs.Table.{opening}
use Rattle.shared_memory.specs.Passes.{first_view}
use Rattle.shared_memory.proofs.Closed.{opened}
use Rattle.hst_memory.specs.declared.hands.Doing.TheVariants.{Rest}
use Rattle.hst_memory.specs.declared.hands.Reserve.TheVariants.{Nothing}
use Rattle.shared_memory.specs.declared.plans.Plan.{Plan}
use Rattle.hst_memory.specs.inner.Hands.{hand}
use Rattle.hst_memory.specs.inner.Knowledge.{Knows}
use Rattle.shared_memory.specs.Layout.{words_of}
use Rattle.hst_memory.specs.inner.Kept.{KeptBy}
use Rattle.history.specs.Memory.{IsMemory}
use Rattle.history.specs.Standing.{standing_of}
use Rattle.history.specs.Started.{MayStand}
use Rattle.history.proofs.Cuts.{each-none}

pub opens : (plan : Plan) (words : List ℕ) → IsMemory plan.size plan.image.value.bytes → length words ≡ words_of plan.size
    → ((i : ℕ) → i < 1 + plan.size.classes → slice_index words i ≡ 0)
    → ((i : ℕ) → i < plan.size.mem / 8 → slice_index words (1 + plan.size.classes + i) ≡ cell_at plan.image.value.bytes i)
    → KeptBy plan (opening words [] (first_view plan.size.threads (hand Rest Nothing)))
opens plan words memory long zeros cells = record {
  history = [];
  standing = standing_of plan.image.value.bytes;
  born = each-none (MayStand plan.size.threads 0);
  tells = opened (Knows plan.size) plan.size plan.image.value.bytes (hand Rest Nothing) memory (λ t. record { at = refl; reserve = refl; agrees = tt });
  laid = record { long = long; tags = λ c h. zeros (1 + c) (omega arith); cells = cells };
  section = record { counts = zeros 0 (omega arith); few = inl (omega arith) };
}
