-- What a loop over reads has taken from its reader, and what a loop over writes has added to its writer.
use Rattle.std.proofs.Common.{◌≡◌, ℕ, ◌+◌, ◌-◌, ◌<◌, List, ◌++◌, length, take, drop, Option, Some, None, refl, ◌∙◌, ap, append_assoc, arith, length-append, length-drop}
use Rattle.std.proofs.Math.Seq.{take-add, take-length}
use Rattle.std.specs.Io.KnownBytes.{Appends, Consumes, Keeps}
use Rattle.llsc_host.specs.Host.{AreBytes}

-- two reads took what the first gave and then what the second gave
pub consumes_on : (a b c : Option (List ℕ)) (xs ys : List ℕ) → Consumes a b xs → Consumes b c ys → Consumes a c (xs ++ ys)
consumes_on None b c xs ys f s = tt
consumes_on (Some t) None c xs ys f s = elim f [ ]
consumes_on (Some t) (Some u) None xs ys f s = elim s [ ]
consumes_on (Some t) (Some u) (Some v) xs ys f s = rw append_assoc (f ∙ ap (λ l. xs ++ l) s)

-- a read that failed took nothing
pub consumes_kept : (a b c : Option (List ℕ)) (xs : List ℕ) → Consumes a b xs → Keeps b c → Consumes a c xs
consumes_kept None b c xs f k = tt
consumes_kept (Some t) None c xs f k = elim f [ ]
consumes_kept (Some t) (Some u) None xs f k = elim k [ ]
consumes_kept (Some t) (Some u) (Some v) xs f k = rw k f

-- a reader that gave more bytes than that had more
pub longer : (a b c : Option (List ℕ)) (xs ys : List ℕ) (most : ℕ) → Consumes a b xs → Consumes b c ys → most < length xs + length ys
    → (bytes : List ℕ) × AreBytes a bytes × (most < length bytes)
longer None b c xs ys most f s h = (xs ++ ys, tt, omega (arith, length-append xs ys))
longer (Some t) None c xs ys most f s h = elim f [ ]
longer (Some t) (Some u) None xs ys most f s h = elim s [ ]
longer (Some t) (Some u) (Some v) xs ys most f s h =
    let e : length t ≡ length xs + length u = ap length f ∙ length-append xs u in
    let d : length u ≡ length ys + length v = ap length s ∙ length-append ys v in
    (t, refl, omega arith)

-- a write took the next bytes
pub appends_on : (a b c : Option (List ℕ)) (text : List ℕ) (done n : ℕ) → Appends a b (take done text)
    → Appends b c (take n (take (length text - done) (drop done text))) → Appends a c (take (done + n) text)
appends_on None b c text done n f s = tt
appends_on (Some t) None c text done n f s = absurd f
appends_on (Some t) (Some u) None text done n f s = absurd s
appends_on (Some t) (Some u) (Some v) text done n f s =
    let all : take (length text - done) (drop done text) ≡ drop done text = rw (← length-drop done text) (take-length (drop done text)) in
    let more : take (done + n) text ≡ take done text ++ take n (drop done text) = take-add done n text in
    let next : v ≡ u ++ take n (drop done text) = rw all at s in
    let whole : (t ++ take done text) ++ take n (drop done text) ≡ t ++ (take done text ++ take n (drop done text)) = append_assoc t (take done text) (take n (drop done text)) in
    cc

-- a write that failed took nothing
pub appends_kept : (a b c : Option (List ℕ)) (xs : List ℕ) → Appends a b xs → Keeps b c → Appends a c xs
appends_kept None b c xs f k = tt
appends_kept (Some t) None c xs f k = absurd f
appends_kept (Some t) (Some u) None xs f k = absurd k
appends_kept (Some t) (Some u) (Some v) xs f k = cc
