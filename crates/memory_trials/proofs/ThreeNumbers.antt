-- Three numbers, of which two are given away.
use Rattle.std.proofs.Common.{◌≡◌, ◌≢◌, ◌&&◌, ◌==◌, not, ℕ, Bool, true, false, nat_lt, ap, sym, ◌∙◌, arith}
use Rattle.std.proofs.lemmas.Bool.{eq-eqb, ltb-true}
use Rattle.shared_memory.specs.Seen.{IsOneOf, IsSingle, all_but}

and-left : (a b : Bool) → (a && b) ≡ true → a ≡ true
and-left true b both = let t : true ≡ true = cc in t
and-left false b both = both

no-and : (b : Bool) → (b && false) ≡ true → ⊥
no-and true h = let f : ⊥ = cc in f
no-and false h = let f : ⊥ = cc in f

not-that : (u k : ℕ) (b : Bool) → (b && not (u == k)) ≡ true → u ≢ k
not-that u k b h same = no-and b (ap (λ (x : Bool). b && not x) (sym (eq-eqb u k same)) ∙ h)

module _ (all some : ℕ → Bool) (three : (t : ℕ) → all t ≡ nat_lt t 3) (less : some ≡ all_but 2 all) where
  pub has-zero : IsOneOf 0 some
  has-zero = ap (λ (f : ℕ → Bool). f 0) less ∙ ap (λ (b : Bool). b && true) (three 0)

  pub has-one : IsOneOf 1 some
  has-one = ap (λ (f : ℕ → Bool). f 1) less ∙ ap (λ (b : Bool). b && true) (three 1)

  -- and once 1 is given away too, 0 is left
  pub single-zero : (last : ℕ → Bool) → last ≡ all_but 1 some → IsSingle 0 last
  single-zero last lesser = record {
    has = ap (λ (f : ℕ → Bool). f 0) lesser ∙ ap (λ (b : Bool). b && true) has-zero;
    only = λ u one.
        let here : (some u && not (u == 1)) ≡ true = sym (ap (λ (f : ℕ → Bool). f u) lesser) ∙ one in
        let there : (all u && not (u == 2)) ≡ true = sym (ap (λ (f : ℕ → Bool). f u) less) ∙ and-left (some u) (not (u == 1)) here in
        let below = ltb-true u 3 (sym (three u) ∙ and-left (all u) (not (u == 2)) there) in
        let ne_one = not-that u 1 (some u) here in
        let ne_two = not-that u 2 (all u) there in
        omega (arith, below, ne_one, ne_two);
  }
