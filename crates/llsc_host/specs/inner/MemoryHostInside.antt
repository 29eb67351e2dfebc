-- Only proofs and inner contracts need these words beside those of `specs/MemoryHostInside`.
use Rattle.std.specs.Prelude.{string_bytes}
use Rattle.llsc_host.specs.MemoryHost.{Held}
use Rattle.llsc_host.specs.declared.memory_host.MemoryHost.TheInside.{Inside}

-- what the host holds
abbrev pub held_of : Inside → Held
held_of h = record {
  files = h.files.items;
  failing = h.failing.items;
  space = h.space;
  calls = h.calls;
  written = h.written.items;
  read_faults = h.read_faults;
  write_faults = h.write_faults;
  lost = string_bytes h.lost;
}
