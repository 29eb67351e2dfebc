-- What a host that never fails tells of its writes, and what its one file answers.
use Rattle.std.proofs.Common.{◌≡◌, ℕ, ◌+◌, ◌-◌, ◌^◌, ◌==◌, min, Bool, true, false, if◌then◌else◌, List, [], ◌∷◌, ◌++◌, length, take, map, inl, inr, Option, Some, None, refl, ap, sym, ◌∙◌, arith}
use Rattle.std.proofs.Math.Seq.{take-length}
use Rattle.std.proofs.lemmas.Bool.{eqb-true}
use Rattle.std.proofs.lemmas.List.{take_min}
use Rattle.llsc_host.specs.Host.{Adds, Rose}
use Rattle.llsc_host.specs.SteadyHost.{Steady, after_write, space_left, written_of}

told_before : (new : Bool) (kept part bytes : List ℕ) → (new ≡ true → part ≡ bytes) → Adds (Some kept) (if new then Some (kept ++ part) else None) bytes
told_before true kept part bytes whole = ap (λ (p : List ℕ). kept ++ p) (whole refl)
told_before false kept part bytes whole = tt

-- what is told before and after a write that is whole, or no longer, or never again
told_on : (old new : Bool) (kept part bytes : List ℕ) → (new ≡ true → old ≡ true) → (new ≡ true → part ≡ bytes)
    → Adds (if old then Some kept else None) (if new then Some (kept ++ part) else None) bytes
told_on true new kept part bytes before whole = told_before new kept part bytes whole
told_on false true kept part bytes before whole = let wrong : ⊥ = cc (before refl) in absurd wrong
told_on false false kept part bytes before whole = tt

none_past : (past more : ℕ) → (min (past + more) (2 ^ 64 - 1) == 0) ≡ true → (past ≡ 0) × (more ≡ 0)
none_past past more none =
    let is : min (past + more) (2 ^ 64 - 1) ≡ 0 = eqb-true (min (past + more) (2 ^ 64 - 1)) 0 none in
    (omega arith, omega arith)

-- a write adds its bytes to what is told
pub adds : (held : Steady) (bytes : List ℕ) → Adds (written_of held) (written_of (after_write held bytes)) bytes
adds held bytes =
    told_on (held.past == 0) (min (held.past + (length bytes - space_left held)) (2 ^ 64 - 1) == 0) held.kept (take (space_left held) bytes) bytes
    (λ none. ap (λ (n : ℕ). n == 0) (none_past held.past (length bytes - space_left held) none).0)
    (λ none.
    let fits : length bytes - space_left held ≡ 0 = (none_past held.past (length bytes - space_left held) none).1 in
    let whole : min (space_left held) (length bytes) ≡ length bytes = omega arith in
    sym (take_min (space_left held) bytes) ∙ ap (λ (n : ℕ). take n bytes) whole ∙ take-length bytes)

-- a file by every name, as the files of these names are told
pub one_file : (file : List ℕ) (names : List (List ℕ)) → map (λ name. Some file) names ≡ map Some (map (λ name. file) names)
one_file file [] = refl
one_file file (name ∷ names) = ap (λ (rest : List (Option (List ℕ))). Some file ∷ rest) (one_file file names)

-- a count that is always 0 has not risen
pub unrisen : Rose 0 0 → ⊥
unrisen (inl less) = omega (arith, less)
unrisen (inr last) = omega (arith, last)
