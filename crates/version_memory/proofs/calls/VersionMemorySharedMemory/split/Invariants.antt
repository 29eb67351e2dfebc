use Rattle.version_memory.proofs.calls.VersionMemorySharedMemory.split.Given as goal

abbrev pub ghosts-split_number : goal.ghosts-split_number
ghosts-split_number a = record { thread = a.t; lead = a.lead }
