-- Only proofs and inner contracts need these words beside those of `specs/Pieces`.
use Rattle.std.specs.Prelude.{ℕ}
use Rattle.llsc_base.specs.declared.outside.Stop.{Stop}
use Rattle.guest_core.specs.Machine.{MachineOf, InstructionSet}
use Rattle.guest_calls.specs.Run.{PointOf}
use Rattle.guest_thread.specs.ThreadState.{ThreadStateOf}
use Rattle.guest_thread.specs.declared.counts.Counts.{Counts}
use Rattle.guest_thread.specs.declared.pieces.Part.{Part}
use Rattle.guest_thread.specs.declared.running.Finished.{Finished}

-- a thread that has come so far, with its pass and its counts
abbrev pub part_at : {P C : Type 0} → ThreadStateOf C → P → Counts → Part P C
part_at standing pass counts =
    record { cpu = standing.cpu; pass = pass; out = standing.output; steps = standing.steps; reads = counts.reads; writes = counts.writes; fails = counts.fails }

-- the end of a thread that has come so far
abbrev pub ended_at : {P C : Type 0} → (thread : ℕ) → Stop → Part P C → Finished P
ended_at thread stop part = record {
  pass = part.pass;
  end = record { thread = thread; stop = stop; steps = part.steps; reads = part.reads; writes = part.writes; fails = part.fails; out = part.out };
}

-- the threads of an instruction set on cores that stand for its machines
module _ {I S : Type 0} (set : InstructionSet I S) {C : Type 0} (machine : C → MachineOf I S) where
  -- how far a part has come
  abbrev pub point_of : {P : Type 0} → Part P C → PointOf I S
  point_of part = record { machine = machine part.cpu; steps = part.steps; output = part.out }
