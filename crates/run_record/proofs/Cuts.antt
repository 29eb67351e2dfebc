-- A word that is cut at the first of a byte.
use Rattle.std.proofs.Common.{◌≡◌, ℕ, ◌+◌, ◌-◌, ◌<◌, ◌≤◌, ◌==◌, not, Bool, true, false, zero, suc, List, [], ◌∷◌, ◌++◌, length, take, drop, get_or, Some, None, option_map, refl, sym, ap, ◌∙◌, arith, inl, inr}
use Rattle.std.specs.List.{list_all}
use Rattle.std.proofs.lemmas.Bool.{and_parts, cases_eq, eq-eqb, ne_eqb}
use Rattle.std.proofs.lemmas.List.{length-drop, take_all}
use Rattle.run_record.specs.Fields.{Read, cut}
use Rattle.run_record.proofs.Options.{not_true, some_same}

-- a word with a byte in front
abbrev grown : ℕ → Read (List ℕ) → Read (List ℕ)
grown byte read = option_map (λ r. (byte ∷ r.0, r.1)) read

-- the byte is in front, or it isn't

cut_here : (code byte : ℕ) (bytes : List ℕ) → (byte == code) ≡ true → cut code (byte ∷ bytes) ≡ Some ([], bytes)
unfolding cut
cut_here code byte bytes h = rw h refl

cut_later : (code byte : ℕ) (bytes : List ℕ) → (byte == code) ≡ false → cut code (byte ∷ bytes) ≡ grown byte (cut code bytes)
unfolding cut
cut_later code byte bytes h = rw h refl

nothing : (code : ℕ) → cut code [] ≡ None
unfolding cut
nothing code = refl

-- the first place at which the byte stands
pub cut_at : (code : ℕ) (bytes : List ℕ) (i : ℕ) → i < length bytes
    → ((k : ℕ) → k < i → get_or bytes k 0 ≡ code → ⊥) → get_or bytes i 0 ≡ code
    → cut code bytes ≡ Some (take i bytes, drop (suc i) bytes)
cut_at code [] i h before here = absurd (omega (arith, h))
cut_at code (byte ∷ bytes) zero h before here = cut_here code byte bytes (eq-eqb byte code here)
cut_at code (byte ∷ bytes) (suc i) h before here =
    let other : (byte == code) ≡ false = ne_eqb byte code (before 0 (omega arith)) in
    let later = cut_at code bytes i (omega (arith, h)) (λ k less. before (suc k) (omega (arith, less))) here in
    cut_later code byte bytes other ∙ ap (grown byte) later

-- the byte stands nowhere
pub cut_none : (code : ℕ) (bytes : List ℕ) → ((k : ℕ) → k < length bytes → get_or bytes k 0 ≡ code → ⊥) → cut code bytes ≡ None
cut_none code [] none = nothing code
cut_none code (byte ∷ bytes) none =
    let other : (byte == code) ≡ false = ne_eqb byte code (none 0 (omega arith)) in
    cut_later code byte bytes other ∙ ap (grown byte) (cut_none code bytes (λ k less. none (suc k) (omega (arith, less))))

-- what is cut is the bytes again

grown_some : (byte : ℕ) (read : Read (List ℕ)) (r : List ℕ × List ℕ) → grown byte read ≡ Some r
    → (front : List ℕ × List ℕ) × (read ≡ Some front) × (r.0 ≡ byte ∷ front.0) × (r.1 ≡ front.1)
grown_some byte None r h = cc
grown_some byte (Some front) r h =
    let same = some_same (byte ∷ front.0, front.1) r h in
    (front, refl, ap (λ p. p.0) (sym same), ap (λ p. p.1) (sym same))

grown_text : (code byte : ℕ) (r front : List ℕ × List ℕ) → r.0 ≡ byte ∷ front.0 → r.1 ≡ front.1
    → r.0 ++ code ∷ r.1 ≡ byte ∷ (front.0 ++ code ∷ front.1)
grown_text code byte r front word rest = ap (λ w. w ++ code ∷ r.1) word ∙ ap (λ t. byte ∷ (front.0 ++ code ∷ t)) rest

pub cut_takes : (code : ℕ) (bytes : List ℕ) (r : List ℕ × List ℕ) → cut code bytes ≡ Some r → bytes ≡ r.0 ++ code ∷ r.1
cut_takes code [] r h = let e : ◌≡◌ {A = Read (List ℕ)} None (Some r) = sym (nothing code) ∙ h in cc
cut_takes code (byte ∷ bytes) r h =
    elim (cases_eq byte code) [
      | inl same ↦
          let e = some_same ([], bytes) r (sym (cut_here code byte bytes (eq-eqb byte code same)) ∙ h) in
          let parts : ◌≡◌ {A = List ℕ} (byte ∷ bytes) (code ∷ bytes) = ap (λ b. b ∷ bytes) same in
          parts ∙ ap (λ p. p.0 ++ code ∷ p.1) e
      | inr other ↦
          let grows = grown_some byte (cut code bytes) r (sym (cut_later code byte bytes (ne_eqb byte code other)) ∙ h) in
          let front = cut_takes code bytes grows.0 grows.1 in
          ap (λ t. byte ∷ t) front ∙ sym (grown_text code byte r grows.0 grows.2 grows.3)
    ]

-- a word without the byte
abbrev pub lacks : ℕ → List ℕ → Bool
lacks code word = list_all (λ byte. not (byte == code)) word

-- such a word is cut again
pub cut_again : (code : ℕ) (word rest : List ℕ) → lacks code word ≡ true → cut code (word ++ code ∷ rest) ≡ Some (word, rest)
cut_again code [] rest h = cut_here code code rest (eq-eqb code code refl)
cut_again code (byte ∷ word) rest h =
    let both = and_parts (not (byte == code)) (lacks code word) h in
    cut_later code byte (word ++ code ∷ rest) (not_true (byte == code) both.0) ∙ ap (grown byte) (cut_again code word rest both.1)

-- in the words of a slice
pub cut_slice : (code : ℕ) (bytes : List ℕ) (i : ℕ) → i < length bytes
    → ((k : ℕ) → k < i → get_or bytes k 0 ≡ code → ⊥) → get_or bytes i 0 ≡ code
    → Some (take i bytes, take (length bytes - (i + 1)) (drop (i + 1) bytes)) ≡ cut code bytes
cut_slice code bytes i h before here =
    let next : i + 1 ≡ suc i = omega arith in
    let many : length (drop (i + 1) bytes) ≤ length bytes - (i + 1) = omega (arith, length-drop (i + 1) bytes) in
    let rest = take_all (length bytes - (i + 1)) (drop (i + 1) bytes) many ∙ ap (λ k. drop k bytes) next in
    ap (λ rest. Some (take i bytes, rest)) rest ∙ sym (cut_at code bytes i h before here)
