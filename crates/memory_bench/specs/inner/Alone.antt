-- Only proofs and inner contracts need these words.
-- A memory of one thread, and its pass.
use Rattle.std.specs.Prelude.{◌≡◌}
use Rattle.shared_memory.specs.Seen.{IsSingle}
use Rattle.hst_memory.specs.declared.memory.HstMemory.{HstMemory}
use Rattle.hst_memory.specs.declared.passes.HstPass.{HstPass}
use Rattle.hst_memory.specs.Memory.{memory_id, memory_origin, pass_home, pass_numbers}

-- the pass holds number 0 alone, of a machine of 65,536 bytes and one thread
pub record IsAlone (memory : HstMemory) (pass : HstPass) : Type 0 where
  pub mem : (memory_origin memory).size.mem ≡ 65536
  pub first : (memory_origin memory).first ≡ 1
  pub home_is : pass_home pass ≡ memory_id memory
  pub single : IsSingle 0 (pass_numbers pass)
