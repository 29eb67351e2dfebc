-- A handle that C holds may go to another thread, since a handle may: it has no key of its thread, nor has its block.
use Rattle.std.specs.Prelude.{Option, Some, None}
use mir.Raw.{raw}
use base.Fraction.{full_share}
use base.Shift.{Keyless}
use denote.Exit.{Exit, unchanged, leaves, hidden, under}
use denote.Memory.{lone}
use denote.RawPtr.{Ptr, block_ptr, null_ptr, lies_at}
use denote.Struct.Struct.{exits_of}
use denote.Struct.Owning.{shape, fields, to}
use denote.Param.Send.{IsSend, Quiet, AllSend, part_keyless, owning_send, struct_send, sendable}
use Rattle.std.proofs.Crossing.{frees}
use Rattle.memory_handle.specs.declared.handles.Handle.{Handle}
use Rattle.memory_handle.specs.contracts.handles.Handle as handle
use Rattle.memory_handle.proofs.handles.Handle.TheSendSync.{the_send}
use Rattle.llsc_c.specs.inner.Holds.{heap, holds}
use Rattle.llsc_c.specs.contracts.held.Held.{the_row, the_type}

quiet : {D X : Type 0} (to : D → X) (e : Exit X) → Quiet e → Quiet (hidden (under to e))
quiet to unchanged q = λ x w. tt
quiet to (leaves L l S s r₀) q = λ d. q (to d)

lies : (p : Ptr) (x : Handle) → Keyless (lies_at handle.the_row full_share p x)
lies (block_ptr b o) x = part_keyless handle.the_row the_send full_share x b o
lies null_ptr x = tt

held : (p : Ptr) (o : Option Handle) → Keyless (holds p o)
held p None = tt
held p (Some x) = (lies p x, frees.frees heap (raw (lone handle.the_row.mir)) p)

pub send : IsSend the_row
send =
    let all : AllSend (fields the_type) = (search sendable, tt) in
    owning_send the_type all (λ d. held d.at d.handle)
    (λ k. quiet (to the_type) (exits_of k (fields the_type)) ((struct_send (shape the_type) all).leaving k))
