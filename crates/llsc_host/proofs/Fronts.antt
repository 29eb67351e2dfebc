-- What was written by some of several writes.
use Rattle.std.proofs.Common.{◌≡◌, ℕ, ◌+◌, List, ◌++◌, Option, Some, None, length, take, drop, sym, ◌∙◌, ap, subst, append_assoc, [], append-nil}
use Rattle.std.proofs.lemmas.List.{take-append-drop}
use Rattle.std.proofs.Math.Seq.{take-append_seam, take-append-add}
use Rattle.llsc_host.specs.Host.{Adds, AddsFront, Rose}

-- two writes, one after the other
pub adds_both : (old mid new : Option (List ℕ)) (a b : List ℕ) → Adds old mid a → Adds mid new b → Adds old new (a ++ b)
adds_both (Some x) (Some y) (Some z) a b first second = second ∙ ap (λ w. w ++ b) first ∙ append_assoc x a b
adds_both (Some x) None (Some z) a b first second = absurd second
adds_both (Some x) mid None a b first second = tt
adds_both None (Some y) new a b first second = absurd first
adds_both None None (Some z) a b first second = absurd second
adds_both None None None a b first second = tt

-- the front of a text is a front of a longer one
pub front_less : (old new : Option (List ℕ)) (a b : List ℕ) → AddsFront old new a → AddsFront old new (a ++ b)
front_less old new a b front =
    let k : ℕ = front.0 in
    let split : a ++ b ≡ take front.0 a ++ (drop front.0 a ++ b) = ap (λ x. x ++ b) (sym (take-append-drop front.0 a)) ∙ append_assoc (take front.0 a) (drop front.0 a) b in
    let same : take (length (take front.0 a)) (a ++ b) ≡ take front.0 a = ap (λ x. take (length (take front.0 a)) x) split ∙ take-append_seam (take front.0 a) (drop front.0 a ++ b) in
    (length (take front.0 a), subst (λ x. Adds old new x) (sym same) front.1)

-- after a whole write, the front of the next text is a front of both
pub front_more : (old mid new : Option (List ℕ)) (a b : List ℕ) → Adds old mid a → AddsFront mid new b → AddsFront old new (a ++ b)
front_more old mid new a b whole front =
    (length a + front.0, subst (λ x. Adds old new x) (sym (take-append-add a b front.0)) (adds_both old mid new a (take front.0 b) whole front.1))

-- nothing is written
pub adds_nothing : (old : Option (List ℕ)) → Adds old old []
adds_nothing (Some old) = sym (append-nil old)
adds_nothing None = tt

-- a count that rose from what it was before
pub rose_on : (old mid new : ℕ) → mid ≡ old → Rose mid new → Rose old new
rose_on old mid new same rose = subst (λ n. Rose n new) same rose
