-- The rule holds of a memory that is made.
use Rattle.std.proofs.Common.{◌≡◌, ◌+◌, ◌/◌, ◌<◌, ◌≤◌, ℕ, List, [], length, slice_index, refl, arith}
use Rattle.row_bytes.specs.Cell.{cell_at}
use Rattle.atomic_table.specs.Table.{opening}
use Rattle.shared_memory.specs.Passes.{first_view}
use Rattle.shared_memory.proofs.Closed.{opened}
use Rattle.history.specs.Memory.{IsMemory}
use Rattle.history.specs.Standing.{standing_of}
use Rattle.history.specs.Started.{MayStand}
use Rattle.history.specs.Steady.{IsSteady}
use Rattle.history.proofs.Cuts.{each-none}
use Rattle.llsc_base.specs.Sizes.{Numbers}
use Rattle.version_rule.specs.declared.hands.Doing.TheVariants.{Rest}
use Rattle.version_rule.specs.declared.hands.Reserve.TheVariants.{Nothing}
use Rattle.shared_memory.specs.declared.plans.Plan.{Plan}
use Rattle.version_rule.specs.Hands.{hand}
use Rattle.version_rule.specs.Knowledge.{Knows}
use Rattle.shared_memory.specs.Layout.{words_of}
use Rattle.version_rule.specs.Kept.{AreClasses, KeptBy}
use Rattle.version_rule.specs.StartWords.{all_words, start_word}
use Rattle.version_rule.proofs.Classes.{flies-none}

-- before the first entry no write is in flight, and no class has had one
classes-first : (size : Numbers) (bytes : List ℕ) → AreClasses size (standing_of bytes)
classes-first size bytes = record {
  busy = λ c odd. absurd (let f : ⊥ = cc in f);
  lone = λ t c flies. absurd (flies-none size (standing_of bytes) t c refl flies);
  quiet = λ c even. refl;
  most = λ c. omega arith;
}

pub opens : (plan : Plan) (words : List ℕ) → IsMemory plan.size plan.image.value.bytes → length words ≡ all_words plan
    → ((i : ℕ) → i < 1 + plan.size.classes → slice_index words i ≡ 0)
    → ((i : ℕ) → i < plan.size.mem / 8 → slice_index words (1 + plan.size.classes + i) ≡ cell_at plan.image.value.bytes i)
    → ((i : ℕ) → words_of plan.size ≤ i → slice_index words i ≡ 0)
    → KeptBy plan (opening words [] (first_view plan.size.threads (hand Rest Nothing)))
opens plan words memory long zeros cells behind = record {
  history = [];
  standing = standing_of plan.image.value.bytes;
  born = each-none (MayStand plan.first plan.spare);
  steady = each-none (IsSteady plan.size);
  tells = opened (Knows plan.size) plan.size plan.image.value.bytes (hand Rest Nothing) memory (λ t. record { at = refl; reserve = refl; agrees = tt });
  laid = record { long = omega arith; first = zeros 0 (omega arith); tags = λ c h. zeros (1 + c) (omega arith); cells = cells };
  starts = record { long = long; marks = λ child from below. behind (start_word plan child) (omega arith) };
  classes = classes-first plan.size plan.image.value.bytes;
}
