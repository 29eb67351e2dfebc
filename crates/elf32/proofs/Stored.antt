-- Memory while segments that don't overlap are copied to it, one after another.
use Rattle.std.proofs.Common.{◌≡◌, ℕ, zero, suc, ◌+◌, ◌-◌, ◌<◌, ◌≤◌, Bool, true, false, List, [], ◌∷◌, length, get_or, take, slice_index, refl, arith, if◌then◌else◌}
use Rattle.std.specs.Prelude.{All}
use Rattle.std.proofs.lemmas.List.Elements.{All-tail}
use Rattle.elf32.specs.declared.headers.ProgramHeader.{ProgramHeader}
use Rattle.elf32.specs.Faults.{overlap, share}
use Rattle.elf32.specs.Image.{byte_at, stores}
use Rattle.elf32.specs.inner.Image.{IsPlaced}
use Rattle.elf32.proofs.Sound.{overlap-first, overlap-others}

swapped : (p q : Bool) (x y z : ℕ) → (p ≡ true → q ≡ true → ⊥)
    → (if p then x else if q then y else z) ≡ (if q then y else if p then x else z)
swapped true true x y z never = absurd (never refl refl)
swapped true false x y z never = refl
swapped false q x y z never = refl

-- an address that two segments have bytes for is shared
both : (one other : ProgramHeader) (addr : ℕ) → one.file_size ≤ one.memory_size → other.file_size ≤ other.memory_size
    → share one other ≡ false → stores one addr ≡ true → stores other addr ≡ true → ⊥
both one other addr short shorter e f g = grind arith

-- the byte at an address once one more segment is copied
pub byte_at-more : (file : List ℕ) (count mem : ℕ) (segments : List ProgramHeader) (i : ℕ) (d : ProgramHeader) (addr : ℕ)
    → i < length segments → All (IsPlaced count mem) segments → overlap segments ≡ false
    → byte_at file (take (i + 1) segments) addr ≡ (if stores (get_or segments i d) addr
    then slice_index file ((get_or segments i d).offset + (addr - (get_or segments i d).address))
    else byte_at file (take i segments) addr)
byte_at-more file count mem [] i d addr h sound apart = absurd (omega arith)
byte_at-more file count mem (segment ∷ segments) zero d addr h sound apart = refl
byte_at-more file count mem (segment ∷ segments) (suc i) d addr h sound apart =
    let there : IsPlaced count mem (get_or segments i d) = sound (suc i) d h in
    let here : IsPlaced count mem segment = sound 0 d (omega arith) in
    let rest : All (IsPlaced count mem) segments = All-tail (IsPlaced count mem) segment segments sound in
    let below : i < length segments = omega arith in
    let next : suc i + 1 ≡ suc (i + 1) = omega arith in
    let before = byte_at-more file count mem segments i d addr below rest (overlap-others segment segments apart) in
    rw (next, before) (swapped (stores segment addr) (stores (get_or segments i d) addr) _ _ _
    (both segment (get_or segments i d) addr here.short there.short (overlap-first segment segments apart i d below)))
