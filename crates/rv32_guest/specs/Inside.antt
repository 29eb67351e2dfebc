-- What the fields of an `RvCpu` stand for, and what holds of them.
use Rattle.std.specs.Prelude.{◌≡◌, ℕ, Option, None}
use Rattle.rv32_guest.specs.declared.cpu.Stage.{Stage}
use Rattle.rv32_guest.specs.declared.cpu.Stage.TheVariants.{Between, Inside, Awaiting, Calling, Stopped}
use Rattle.rv32_guest.specs.declared.cpu.RvCpu.TheInside as fields

-- an instruction has had no reply before it begins, nor where it waits for the one that it asks for
abbrev pub HasRoom : Stage → Option ℕ → Type 0
HasRoom Between reply = reply ≡ None
HasRoom Inside reply = Unit {0}
HasRoom (Awaiting ask) reply = reply ≡ None
HasRoom (Calling call) reply = Unit {0}
HasRoom (Stopped stop) reply = Unit {0}

abbrev pub IsSound : fields.Inside → Type 0
IsSound cpu = HasRoom cpu.stage cpu.reply
