-- Threads that may act, and whose number a started thread has.
use Rattle.std.proofs.Common.{◌≡◌, ℕ, suc, ◌+◌, ◌*◌, ◌<◌, ◌≤◌, ◌||◌, Bool, true, false, List, [], ◌∷◌, ◌++◌, refl, sym, ap, ◌∙◌, inl, inr, arith}
use Rattle.std.proofs.Math.Nat.{mul-le-mul_right, suc-mul}
use Rattle.std.proofs.lemmas.Bool.{cases_lt, or_from}
use Rattle.std.specs.List.{list_any}
use Rattle.std.proofs.lemmas.List.Folds.{list_any-append}
use Rattle.history.specs.Entry.{thread_of}
use Rattle.history.specs.Started.{AreBorn, MayAct, MayStand, child_of, is_start_of, is_started}
use Rattle.history.specs.declared.entry.Entry.{Entry}
use Rattle.history.specs.declared.entry.Entry.TheVariants.{Read, Write, Fail, Clear, Watch, Miss, Begin, End, Start}
use Rattle.history.proofs.Ends.{by_ends}
use Rattle.history.proofs.Cuts.{each-front, each-last}
use Rattle.history.proofs.Steps.{any-push}

-- ---- threads that may act

-- who may act may act later on
pub may-act-later : (first thread : ℕ) (past later : List Entry) → MayAct first thread past → MayAct first thread (past ++ later)
may-act-later first thread past later (inl below) = inl below
may-act-later first thread past later (inr started) = inr (list_any-append (is_start_of thread) past later ∙ ap (λ (b : Bool). b || list_any (is_start_of thread) later) started)

-- a thread that is none of the first, and wasn't started, may not
pub may-not_act : (first thread : ℕ) (past : List Entry) → first ≤ thread → is_started thread past ≡ false → MayAct first thread past → ⊥
may-not_act first thread past above none (inl below) = omega (arith, above, below)
may-not_act first thread past above none (inr started) = let wrong : false ≡ true = sym none ∙ started in cc

-- an entry starts a thread
abbrev pub is_start : Entry → Bool
is_start (Start thread child entry arg) = true
is_start _ = false

-- one that starts none may stand where its thread may act
pub may-stand : (first spare : ℕ) (past : List Entry) (entry : Entry) → is_start entry ≡ false → MayAct first (thread_of entry) past
    → MayStand first spare past entry
may-stand first spare past (Read thread place value ex) plain acts = acts
may-stand first spare past (Write thread place value ex) plain acts = acts
may-stand first spare past (Fail thread place value cause) plain acts = acts
may-stand first spare past (Clear thread) plain acts = acts
may-stand first spare past (Watch thread place) plain acts = acts
may-stand first spare past (Miss thread place) plain acts = acts
may-stand first spare past (Begin thread place) plain acts = acts
may-stand first spare past (End thread place) plain acts = acts
may-stand first spare past (Start thread child entry arg) plain acts = absurd (let f : ⊥ = cc in f)

-- ---- where none is spare

starts_none : (first child : ℕ) (past : List Entry) (entry : Entry) → MayStand first 0 past entry → is_start_of child entry ≡ false
starts_none first child past (Read thread place value ex) may = refl
starts_none first child past (Write thread place value ex) may = refl
starts_none first child past (Fail thread place value cause) may = refl
starts_none first child past (Clear thread) may = refl
starts_none first child past (Watch thread place) may = refl
starts_none first child past (Miss thread place) may = refl
starts_none first child past (Begin thread place) may = refl
starts_none first child past (End thread place) may = refl
starts_none first child past (Start thread started entry arg) may = let few = may.1 in absurd (omega arith)

-- no thread is started
pub none-started : (first child : ℕ) (history : List Entry) → AreBorn first 0 history → is_started child history ≡ false
none-started first child history = by_ends (λ es. AreBorn first 0 es → is_started child es ≡ false) (λ born. refl) more history
  where
    more : (entries : List Entry) (e : Entry) → (AreBorn first 0 entries → is_started child entries ≡ false)
        → AreBorn first 0 (entries ++ e ∷ []) → is_started child (entries ++ e ∷ []) ≡ false
    more entries e before born =
        any-push (is_start_of child) entries e
        ∙ or_from _ _ (before (each-front (MayStand first 0) entries (e ∷ []) born)) (starts_none first child entries e (each-last (MayStand first 0) entries e born))

-- so who may act is one of the first
pub first-alone : (first thread : ℕ) (history : List Entry) → AreBorn first 0 history → MayAct first thread history → thread < first
first-alone first thread history born (inl below) = below
first-alone first thread history born (inr started) = absurd (let wrong : false ≡ true = sym (none-started first thread history born) ∙ started in let f : ⊥ = cc in f)

-- ---- numbers of started threads

-- they are below the number of all threads
pub child-below : (first spare thread started : ℕ) → thread < first → started < spare → child_of first spare thread started < first + first * spare
child-below first spare thread started below few =
    let up : suc thread * spare ≤ first * spare = mul-le-mul_right spare (omega arith) in
    let one = suc-mul thread spare in
    omega (arith, few, up, one)

-- the number is that of one thread and of one of its starts
pub child-apart : (first spare one other some more : ℕ) → some < spare → more < spare
    → child_of first spare one some ≡ child_of first spare other more → (one ≡ other) × (some ≡ more)
child-apart first spare one other some more few_one few_other same = elim (cases_lt one other) [
  | inl less ↦
      let up : suc one * spare ≤ other * spare = mul-le-mul_right spare (omega arith) in
      let next = suc-mul one spare in
      absurd (omega (arith, few_one, up, next, same))
  | inr from ↦ elim (cases_lt other one) [
    | inl less ↦
        let up : suc other * spare ≤ one * spare = mul-le-mul_right spare (omega arith) in
        let next = suc-mul other spare in
        absurd (omega (arith, few_other, up, next, same))
    | inr to ↦
        let is : one ≡ other = omega arith in
        let times : one * spare ≡ other * spare = ap (λ (t : ℕ). t * spare) is in
        (is, omega (arith, times, same))
  ]
]
