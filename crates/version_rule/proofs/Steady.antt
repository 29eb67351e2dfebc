-- A store-exclusive that has lost has lost to a write of another, by the history.
use Rattle.std.proofs.Common.{◌≡◌, ℕ, List, ap, sym, ◌∙◌}
use Rattle.llsc_base.specs.Memory.{row_of}
use Rattle.llsc_base.specs.Sizes.{Numbers}
use Rattle.history.specs.Steady.{IsSteady}
use Rattle.history.specs.Standing.{Standing, standing_after, standing_of}
use Rattle.history.specs.Follow.{MayJoin}
use Rattle.history.specs.declared.entry.Cause.TheVariants.{Absent, Lost, Limit}
use Rattle.history.specs.declared.entry.Entry.{Entry}
use Rattle.history.specs.declared.entry.Entry.TheVariants.{Read, Write, Fail, Clear, Watch, Miss, Begin, End, Start}
use Rattle.history.proofs.Flags.{overtaken-standing}
use Rattle.history.proofs.Steps.{reservation_of-standing}
use Rattle.version_rule.proofs.Classes.{IsOrderly}

-- an entry that may come as things stand, and is orderly, is steady behind what came before
pub steady-joins : (size : Numbers) (bytes : List ℕ) (past : List Entry) (s : Standing) (e : Entry) → s ≡ standing_after size (standing_of bytes) past
    → MayJoin size s e → IsOrderly size s e → IsSteady size past e
steady-joins size bytes past s (Fail thread place value Lost) is may orderly =
    overtaken-standing size thread (row_of size.granule place) bytes past
    (reservation_of-standing size thread bytes past ∙ ap (λ (x : Standing). x.reserved thread) (sym is) ∙ may.2.0)
    ∙ ap (λ (x : Standing). x.overtaken thread) (sym is) ∙ orderly
steady-joins size bytes past s (Fail thread place value Absent) is may orderly = tt
steady-joins size bytes past s (Fail thread place value Limit) is may orderly = tt
steady-joins size bytes past s (Read thread place value ex) is may orderly = tt
steady-joins size bytes past s (Write thread place value ex) is may orderly = tt
steady-joins size bytes past s (Clear thread) is may orderly = tt
steady-joins size bytes past s (Watch thread place) is may orderly = tt
steady-joins size bytes past s (Miss thread place) is may orderly = tt
steady-joins size bytes past s (Begin thread place) is may orderly = tt
steady-joins size bytes past s (End thread place) is may orderly = tt
steady-joins size bytes past s (Start thread child entry arg) is may orderly = tt
