-- Where no test holds of a file's segments, they lie in the file and in memory, and their spans are sound.
use Rattle.std.proofs.Common.{◌≡◌, ℕ, ◌<◌, ◌≤◌, Bool, true, false, List, [], ◌∷◌, get_or, map, filter, refl, arith, ◌&&◌, ◌||◌}
use Rattle.std.specs.Prelude.{All, AllPairs}
use Rattle.std.specs.List.{list_any}
use Rattle.std.proofs.lemmas.List.Folds.{list_any_at}
use Rattle.std.proofs.lemmas.List.Elements.{All-map, filter_passes}
use Rattle.std.proofs.lemmas.List.Kept.{AllPairs-cons}
use Rattle.llsc_base.specs.Images.{IsSpan, AreApart}
use Rattle.elf32.specs.declared.headers.ProgramHeader.{ProgramHeader}
use Rattle.elf32.specs.Headers.{end_of, is_segment, runs, writes}
use Rattle.elf32.specs.Faults.{is_past, is_unstored, is_writable_code, overlap, share}
use Rattle.elf32.specs.Image.{span_of}
use Rattle.elf32.specs.inner.Image.{IsPlaced}

not_true : (b : Bool) → (b ≡ true → ⊥) → b ≡ false
not_true true never = absurd (never refl)
not_true false never = refl

false_true : (b : Bool) → b ≡ false → b ≡ true → ⊥
false_true true e f = cc
false_true false e f = cc

-- a test that holds of no element fails at each
pub none-at : {X : Type 0} (p : X → Bool) (xs : List X) → list_any p xs ≡ false → All (λ x. p x ≡ false) xs
none-at p xs e = λ k d h. not_true _ (λ yes. false_true _ e (list_any_at p xs k d h yes))

or-left : (a b : Bool) → (a || b) ≡ false → a ≡ false
or-left true b e = e
or-left false b e = refl

or-right : (a b : Bool) → (a || b) ≡ false → b ≡ false
or-right true b e = absurd (let h : ⊥ = cc in h)
or-right false b e = e

-- of segments that don't overlap the first shares no address with another, and the others don't overlap
pub overlap-first : (segment : ProgramHeader) (segments : List ProgramHeader)
    → overlap (segment ∷ segments) ≡ false → All (λ other. share segment other ≡ false) segments
overlap-first segment segments e = none-at (share segment) segments (or-left _ _ e)

pub overlap-others : (segment : ProgramHeader) (segments : List ProgramHeader)
    → overlap (segment ∷ segments) ≡ false → overlap segments ≡ false
overlap-others segment segments e = or-right (list_any (share segment) segments) _ e

placed : (count room mem : ℕ) (segment : ProgramHeader) → room ≤ mem
    → is_past room segment ≡ false → is_unstored count segment ≡ false → IsPlaced count mem segment
placed count room mem segment fits past unstored = record {
  short = grind arith;
  stored = grind arith;
  inside = grind arith;
}

-- segments that end within the room, with their bytes in the file, are placed
pub all-placed : (count room mem : ℕ) (segments : List ProgramHeader) → room ≤ mem
    → list_any (is_past room) segments ≡ false → list_any (is_unstored count) segments ≡ false
    → All (IsPlaced count mem) segments
all-placed count room mem segments fits past unstored =
    λ k d h. placed count room mem (get_or segments k d) fits (none-at _ _ past k d h) (none-at _ _ unstored k d h)

filled : (segment : ProgramHeader) → is_segment segment ≡ true → segment.address < end_of segment
filled segment e = grind arith

apart : (one other : Bool) → (one && other) ≡ false → one ≡ true → other ≡ false
apart true other e f = e
apart false other e f = cc

-- the spans of placed segments, none of which is both run and written, are sound
pub all-spans : (count mem : ℕ) (headers : List ProgramHeader) → All (IsPlaced count mem) (filter is_segment headers)
    → list_any is_writable_code (filter is_segment headers) ≡ false
    → All (IsSpan mem) (map span_of (filter is_segment headers))
all-spans count mem headers sound writable = All-map (IsSpan mem) span_of (filter is_segment headers) (λ k d h.
    let here : IsPlaced count mem (get_or (filter is_segment headers) k d) = sound k d h in
    record {
      filled = filled (get_or (filter is_segment headers) k d) (filter_passes is_segment headers k d h);
      inside = here.inside;
      apart = apart (runs (get_or (filter is_segment headers) k d)) (writes (get_or (filter is_segment headers) k d)) (none-at _ _ writable k d h);
    })

apart-of : (one other : ProgramHeader) → share one other ≡ false → AreApart (span_of one) (span_of other)
apart-of one other e = λ h. grind arith

-- the spans of segments that don't overlap are disjoint
pub spans-apart : (segments : List ProgramHeader) → overlap segments ≡ false → AllPairs AreApart (map span_of segments)
spans-apart [] e = λ i j d low high. absurd (omega arith)
spans-apart (segment ∷ segments) e = AllPairs-cons AreApart (span_of segment) (map span_of segments)
    (All-map (AreApart (span_of segment)) span_of segments (λ k d h. apart-of segment (get_or segments k d) (overlap-first segment segments e k d h)))
    (spans-apart segments (overlap-others segment segments e))
