-- Only proofs and inner contracts need these words.
-- What is owned behind the pointer that C holds. This project's own.
use Rattle.std.specs.Prelude.{Option, Some, None}
use base.Fml.{Fml, ftrue}
use denote.RawPtr.{Ptr}
use Rattle.std.specs.Box.Ownership.{box_owns}
use Rattle.std.specs.Global.{Global}
use Rattle.std.specs.contracts.impls.GlobalAllocator.TheImpl.{ghosts}
use Rattle.memory_handle.specs.declared.handles.Handle.{Handle}
use Rattle.memory_handle.specs.contracts.handles.Handle.{the_row}

-- the C library's heap, of which there is one
abbrev pub heap : Global
heap = record { memory = record { seal = tt } }

-- a handle's box there, or nothing
abbrev pub holds : Ptr → Option Handle → Fml
holds at None = ftrue
holds at (Some handle) = box_owns (ghosts.dealloc_token heap) the_row at handle
