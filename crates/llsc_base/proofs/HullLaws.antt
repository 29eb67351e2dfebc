-- What a hull says of its spans.
use Rattle.std.proofs.Common.{◌≡◌, ℕ, Bool, true, false, List, [], ◌∷◌, nat_lt, max, min, not, ◌&&◌, refl, arith}
use Rattle.std.specs.Prelude.{fold}
use Rattle.std.proofs.lemmas.Bool.{or_from}
use Rattle.llsc_base.specs.Hulls.{hull_of, hull_with}
use Rattle.llsc_base.specs.inner.Hulls.{meets}
use Rattle.llsc_base.specs.Images.{touches_read_only}
use Rattle.llsc_base.specs.declared.hulls.Hull.{Hull}
use Rattle.llsc_base.specs.declared.images.Span.{Span}

-- as below, of a span that isn't written, by its numbers
less_and : (low end start to first last : ℕ) → (nat_lt low (max end last) && nat_lt (min start first) to) ≡ false
    → ((nat_lt low end && nat_lt start to) ≡ false) × (nat_lt (max first low) (min last to) ≡ false)
less_and low end start to first last h = (grind arith, grind arith)

-- where a hull with a span isn't met, neither is the hull without it, and the span isn't touched
one_less : (hull : Hull) (span : Span) (write : Bool) (from to : ℕ) → span.write ≡ write
    → meets (hull_with hull span) from to ≡ false
    → (meets hull from to ≡ false) × ((not span.write && nat_lt (max span.start from) (min span.end to)) ≡ false)
one_less hull span true from to e h = (rw e at h, rw e refl)
one_less hull span false from to e h = rw e (less_and from hull.end hull.start to span.start span.end (rw e at h))

-- as above, with one span after another
parts : (hull : Hull) (spans : List Span) (from to : ℕ) → meets (fold hull_with hull spans) from to ≡ false
    → (meets hull from to ≡ false) × (touches_read_only spans from to ≡ false)
parts hull [] from to h = (h, refl)
parts hull (span ∷ spans) from to h =
    let rest = parts (hull_with hull span) spans from to h in
    let one = one_less hull span span.write from to refl rest.0 in
    (one.0, or_from _ _ one.1 rest.1)

-- addresses that the hull of some spans doesn't meet touch none of them that isn't written
pub hull_apart : (spans : List Span) (from to : ℕ) → meets (hull_of spans) from to ≡ false → touches_read_only spans from to ≡ false
unfolding hull_of
hull_apart spans from to h = (parts _ spans from to h).1
