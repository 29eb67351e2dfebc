-- Which files a request has, and when they are read.
use Rattle.std.proofs.Common.{◌≡◌, ◌≢◌, ℕ, inl, inr, List, [], ◌∷◌, Option, Some, None, refl}
use Rattle.std.proofs.lemmas.List.Elements.{recursion_from_All}
use Rattle.llsc_host.specs.Host.{AreBytes}
use Rattle.llsc_words.specs.Request.{Request, Solo, Run, Pool, Record, Assemble, Disassemble, Trace, Check, Explain, Load, files_of}
use Rattle.llsc_call.specs.Answer.{AreFiles, AreTold, IsDue, IsNoneOf}

-- files that are told
told_one : (told : Option (List ℕ)) (file other : List ℕ) → AreBytes told file → told ≡ Some other → file ≡ other
told_one (Some bytes) file other may is = cc
told_one None file other may is = absurd cc

pub told_are : (held : List ℕ → Option (List ℕ)) (names files others : List (List ℕ)) → AreFiles held names files → AreTold held names others → files ≡ others
told_are held [] [] [] may told = refl
told_are held [] [] (other ∷ others) may told = absurd cc
told_are held [] (file ∷ files) others may told = absurd may
told_are held (name ∷ names) [] others may told = absurd may
told_are held (name ∷ names) (file ∷ files) [] may told = absurd cc
told_are held (name ∷ names) (file ∷ files) (other ∷ others) may told =
    let head : held name ≡ Some other = cc in
    let tail : AreTold held names others = cc in
    let here : file ≡ other = told_one (held name) file other may.0 head in
    let behind : files ≡ others = told_are held names files others may.1 tail in
    cc

-- a read that is due is one of a request's files
not_first : (name other : List ℕ) (names : List (List ℕ)) → IsNoneOf (other ∷ names) name → name ≡ other → ⊥
not_first name other names none is = (recursion_from_All (λ x. name ≢ x) (other ∷ names) none).0 is

pub due_named : (held : List ℕ → Option (List ℕ)) (asked : Request) (name : List ℕ) → IsNoneOf (files_of asked) name → IsDue held asked name → ⊥
due_named held (Solo file format mem budget) name none due = not_first name file [] none due.0
due_named held (Run file format set first spare size budget) name none due = not_first name file [] none due.0
due_named held (Pool file format size workers slice budget) name none due = not_first name file [] none due.0
due_named held (Record file format size budget) name none due = not_first name file [] none due.0
due_named held (Assemble file format) name none due = not_first name file [] none due
due_named held (Disassemble file format mem) name none due = not_first name file [] none due.0
due_named held (Trace file format threads mem granule seed budget) name none due = not_first name file [] none due.0
due_named held (Check file recorded format mem) name none (inl is) = not_first name file (recorded ∷ []) none is
due_named held (Check file recorded format mem) name none (inr due) =
    (recursion_from_All (λ x. name ≢ x) (file ∷ recorded ∷ []) none).1.0 due.0
due_named held (Explain file recorded format mem) name none (inl is) = not_first name file (recorded ∷ []) none is
due_named held (Explain file recorded format mem) name none (inr due) =
    (recursion_from_All (λ x. name ≢ x) (file ∷ recorded ∷ []) none).1.0 due.0
due_named held (Load seed threads rounds budget) name none due = due
