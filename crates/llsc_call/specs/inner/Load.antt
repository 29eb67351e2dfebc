-- Only proofs and inner contracts need these words beside those of `specs/Load`.
use Rattle.std.specs.Prelude.{◌≡◌, ℕ, None, length}
use Rattle.llsc_files.specs.declared.files.Loaded.{Loaded}
use Rattle.llsc_call.specs.Load.{load_size, load_program, load_refusal}

-- the machine of a load was made, against which nothing stands, and the image of its guest on it
pub record IsPrepared (seed threads rounds : ℕ) (loaded : Loaded) : Type 0 where
  pub sized : loaded.size ≡ load_size threads
  pub sound : load_refusal threads rounds ≡ None
  pub image : loaded.image ≡ load_program seed threads rounds
  pub whole : length loaded.image.bytes ≡ loaded.size.mem
