use Rattle.hst_memory.proofs.calls.HstMemorySharedMemory.split.Given as goal

abbrev pub ghosts-split_number : goal.ghosts-split_number
ghosts-split_number a = record { thread = a.t; lead = a.lead }
