-- The loops over lines: what is left of them gives what all of them give.
use Rattle.std.proofs.Common.{◌≡◌, ◌≢◌, ◌≤◌, ℕ, ◌+◌, ◌-◌, ◌<◌, ◌^◌, ◌==◌, true, false, zero, suc, List, [], ◌∷◌, ◌++◌, append_assoc, append-nil, length, take, Some, None, ◌⊎◌, refl, sym, ap, ◌∙◌, arith, inl, inr}
use Rattle.std.specs.Prelude.{flat_map, IfErr, IfOk, Result, Ok, Err}
use Rattle.std.proofs.lemmas.Bool.{eqb-true}
use Rattle.std.proofs.lemmas.List.{take_all}
use Rattle.history.specs.declared.entry.Access.{Access}
use Rattle.run_record.specs.declared.faults.RecordFault.{RecordFault}
use Rattle.run_record.specs.declared.faults.RecordFault.TheVariants as fault
use Rattle.run_record.specs.declared.headers.Header.{Header}
use Rattle.run_record.specs.declared.records.RunRecord.{RunRecord}
use Rattle.run_record.specs.Fault.{HasFault}
use Rattle.run_record.specs.Limits.{IsRecord, most_accesses}
use Rattle.run_record.specs.Reading.{accesses_from, behind_header, followed, header_of, in_front, made, next_access, record_of}
use Rattle.run_record.specs.inner.Seen.{fault_or_memory}
use Rattle.run_record.specs.Text.{header_text, line_text, record_text}
use Rattle.run_record.proofs.HeaderTexts.{header_takes}
use Rattle.run_record.proofs.RecordTexts.{Outcome, fault_first, joined, left_fault, lines_end, lines_more, long, more_fault, record_takes, run_of, short, steps, text_is}

-- what stands in front of a fault doesn't change it

front_same : (access : Access) (later : Outcome) → fault_or_memory (in_front access later) ≡ fault_or_memory later
front_same access (Ok accesses) = refl
front_same access (Err cause) = refl

joined_same : (accesses : List Access) (later : Outcome) → fault_or_memory (joined accesses later) ≡ fault_or_memory later
joined_same accesses (Ok later) = refl
joined_same accesses (Err cause) = refl

made_same : (header : Header) (lines : Outcome) → fault_or_memory (made header lines) ≡ fault_or_memory lines
made_same header (Ok accesses) = refl
made_same header (Err cause) = refl

joined_front : (accesses : List Access) (access : Access) (later : Outcome) → joined accesses (in_front access later) ≡ joined (accesses ++ access ∷ []) later
joined_front accesses access (Ok later) = ap Ok (sym (append_assoc accesses (access ∷ []) later))
joined_front accesses access (Err cause) = refl

-- one line more of those that are left

goes : (threads left number : ℕ) (rest : List ℕ) (r : Access × List ℕ) → 0 < left → next_access threads number rest ≡ Ok r
    → accesses_from threads left number rest ≡ in_front r.0 (accesses_from threads (left - 1) (number + 1) r.1)
goes threads zero number rest r h e = absurd (omega (arith, h))
goes threads (suc left) number rest r h e =
    let less : left ≡ suc left - 1 = omega arith in
    lines_more threads left number rest ∙ ap (λ n. followed n (accesses_from threads left (number + 1))) e
    ∙ ap (λ k. in_front r.0 (accesses_from threads k (number + 1) r.1)) less

nothing_left : (threads left number : ℕ) (rest : List ℕ) → left ≡ 0 → (length rest == 0) ≡ true → accesses_from threads left number rest ≡ Ok []
nothing_left threads left number [] e none = ap (λ k. accesses_from threads k number []) e ∙ lines_end threads number []
nothing_left threads left number (byte ∷ rest) e none = absurd (let same = eqb-true (length (byte ∷ rest)) 0 none in omega (arith, same))

not_nothing : (rest : List ℕ) → (length rest == 0) ≡ false → rest ≢ []
not_nothing [] h e = cc
not_nothing (byte ∷ rest) h e = cc

-- the first fault of lines

pub fault_here : (threads count number i : ℕ) (rest : List ℕ) (cause whole : RecordFault) → i < count → Err cause ≡ next_access threads (number + i) rest
    → fault_or_memory (accesses_from threads (count - i) (number + i) rest) ≡ whole → cause ≡ whole
fault_here threads count number i rest cause whole h e all =
    ap fault_or_memory (sym (more_fault threads (count - i) (number + i) rest cause (omega (arith, h)) (sym e))) ∙ all

pub fault_later : (threads count number i : ℕ) (rest : List ℕ) (r : Access × List ℕ) (whole : RecordFault) → i < count
    → Ok r ≡ next_access threads (number + i) rest → fault_or_memory (accesses_from threads (count - i) (number + i) rest) ≡ whole
    → fault_or_memory (accesses_from threads (count - (i + 1)) (number + (i + 1)) r.1) ≡ whole
fault_later threads count number i rest r whole h e all =
    let left : count - (i + 1) ≡ count - i - 1 = omega arith in
    let place : number + (i + 1) ≡ number + i + 1 = omega arith in
    ap (λ k. fault_or_memory (accesses_from threads k (number + (i + 1)) r.1)) left
    ∙ ap (λ n. fault_or_memory (accesses_from threads (count - i - 1) n r.1)) place
    ∙ sym (front_same r.0 (accesses_from threads (count - i - 1) (number + i + 1) r.1))
    ∙ ap fault_or_memory (sym (goes threads (count - i) (number + i) rest r (omega (arith, h)) (sym e)))
    ∙ all

pub fault_left : (threads count number i : ℕ) (rest : List ℕ) (whole : RecordFault) → count ≤ i → i ≤ count → (length rest == 0) ≡ false
    → fault_or_memory (accesses_from threads (count - i) (number + i) rest) ≡ whole → fault.Line (number + count) ≡ whole
fault_left threads count number i rest whole more most some all =
    ap fault.Line (omega (arith, more, most))
    ∙ ap fault_or_memory (sym (left_fault threads (count - i) (number + i) rest (omega (arith, more)) (not_nothing rest some))) ∙ all

pub fault_none : (threads count number i : ℕ) (rest : List ℕ) (whole : RecordFault) → count ≤ i → (length rest == 0) ≡ true
    → fault_or_memory (accesses_from threads (count - i) (number + i) rest) ≡ whole → fault.Memory ≡ whole
fault_none threads count number i rest whole more none all =
    ap fault_or_memory (sym (nothing_left threads (count - i) (number + i) rest (omega (arith, more)) none)) ∙ all

-- the accesses of lines

pub read_here : (threads count i : ℕ) (rest : List ℕ) (accesses : List Access) (cause : RecordFault) (whole : Outcome) → i < count
    → Err cause ≡ next_access threads (i + 2) rest → joined accesses (accesses_from threads (count - i) (i + 2) rest) ≡ whole → cause ≡ fault_or_memory whole
read_here threads count i rest accesses cause whole h e all =
    ap (λ later. fault_or_memory (joined accesses later)) (sym (more_fault threads (count - i) (i + 2) rest cause (omega (arith, h)) (sym e)))
    ∙ ap fault_or_memory all

pub read_full : (threads count i : ℕ) (rest : List ℕ) (accesses : List Access) (r : Access × List ℕ) (cause : RecordFault) (whole : Outcome) → i < count
    → Ok r ≡ next_access threads (i + 2) rest → joined accesses (accesses_from threads (count - i) (i + 2) rest) ≡ whole
    → cause ≡ fault_or_memory (accesses_from threads (count - i - 1) (i + 3) r.1) → cause ≡ fault_or_memory whole
read_full threads count i rest accesses r cause whole h e all is =
    let place : i + 3 ≡ i + 2 + 1 = omega arith in
    is ∙ ap (λ n. fault_or_memory (accesses_from threads (count - i - 1) n r.1)) place
    ∙ sym (front_same r.0 (accesses_from threads (count - i - 1) (i + 2 + 1) r.1))
    ∙ ap fault_or_memory (sym (goes threads (count - i) (i + 2) rest r (omega (arith, h)) (sym e)))
    ∙ sym (joined_same accesses (accesses_from threads (count - i) (i + 2) rest))
    ∙ ap fault_or_memory all

pub read_later : (threads count i : ℕ) (rest : List ℕ) (accesses more : List Access) (r : Access × List ℕ) (whole : Outcome) → i < count
    → Ok r ≡ next_access threads (i + 2) rest → more ≡ accesses ++ r.0 ∷ [] → joined accesses (accesses_from threads (count - i) (i + 2) rest) ≡ whole
    → joined more (accesses_from threads (count - (i + 1)) (i + 1 + 2) r.1) ≡ whole
read_later threads count i rest accesses more r whole h e push all =
    let left : count - (i + 1) ≡ count - i - 1 = omega arith in
    let place : i + 1 + 2 ≡ i + 2 + 1 = omega arith in
    ap (λ xs. joined xs (accesses_from threads (count - (i + 1)) (i + 1 + 2) r.1)) push
    ∙ ap (λ k. joined (accesses ++ r.0 ∷ []) (accesses_from threads k (i + 1 + 2) r.1)) left
    ∙ ap (λ n. joined (accesses ++ r.0 ∷ []) (accesses_from threads (count - i - 1) n r.1)) place
    ∙ sym (joined_front accesses r.0 (accesses_from threads (count - i - 1) (i + 2 + 1) r.1))
    ∙ ap (joined accesses) (sym (goes threads (count - i) (i + 2) rest r (omega (arith, h)) (sym e)))
    ∙ all

pub read_left : (threads count i : ℕ) (rest : List ℕ) (accesses : List Access) (whole : Outcome) → count ≤ i → i ≤ count → (length rest == 0) ≡ false
    → joined accesses (accesses_from threads (count - i) (i + 2) rest) ≡ whole → fault.Line (count + 2) ≡ fault_or_memory whole
read_left threads count i rest accesses whole more most some all =
    ap fault.Line (omega (arith, more, most))
    ∙ ap (λ later. fault_or_memory (joined accesses later)) (sym (left_fault threads (count - i) (i + 2) rest (omega (arith, more)) (not_nothing rest some)))
    ∙ ap fault_or_memory all

pub read_all : (threads count i : ℕ) (rest : List ℕ) (accesses : List Access) (whole : Outcome) → count ≤ i → (length rest == 0) ≡ true
    → joined accesses (accesses_from threads (count - i) (i + 2) rest) ≡ whole → whole ≡ Ok accesses
read_all threads count i rest accesses whole more none all =
    sym all ∙ ap (joined accesses) (nothing_left threads (count - i) (i + 2) rest (omega (arith, more)) none) ∙ ap Ok (append-nil accesses)

-- the header

pub no_header : (bytes : List ℕ) → None ≡ header_of bytes → fault.Header ≡ fault_or_memory (record_of bytes)
no_header bytes e = ap fault_or_memory (sym (steps bytes ∙ ap behind_header (sym e)))

pub long_header : (bytes : List ℕ) (line : Header × List ℕ) → Some line ≡ header_of bytes → most_accesses < line.0.count
    → fault.TooLong ≡ fault_or_memory (record_of bytes)
long_header bytes line e more =
    ap fault_or_memory (sym (steps bytes ∙ ap behind_header (sym e) ∙ long line.0.threads line.0.granule line.0.budget line.0.count line.1 more))

pub few_threads : (bytes : List ℕ) (line : Header × List ℕ) → Some line ≡ header_of bytes → line.0.threads < 2 ^ 32
few_threads bytes line e = let has = header_takes bytes line (sym e) in omega (arith, has.numbers.few)

pub small_granule : (bytes : List ℕ) (line : Header × List ℕ) → Some line ≡ header_of bytes → line.0.granule < 2 ^ 32
small_granule bytes line e = let has = header_takes bytes line (sym e) in omega (arith, has.numbers.rows)

behind : (bytes : List ℕ) (line : Header × List ℕ) → Some line ≡ header_of bytes → line.0.count ≤ most_accesses
    → record_of bytes ≡ made line.0 (accesses_from line.0.threads line.0.count 2 line.1)
behind bytes line e few = steps bytes ∙ ap behind_header (sym e) ∙ short line.0.threads line.0.granule line.0.budget line.0.count line.1 few

pub header_read : (bytes : List ℕ) (line : Header × List ℕ) (accesses : List Access) → Some line ≡ header_of bytes → line.0.count ≤ most_accesses
    → accesses_from line.0.threads line.0.count 2 line.1 ≡ Ok accesses → record_of bytes ≡ Ok (run_of line.0.threads line.0.granule line.0.budget accesses)
header_read bytes line accesses e few h = behind bytes line e few ∙ ap (made line.0) h

pub header_fault : (bytes : List ℕ) (line : Header × List ℕ) (cause : RecordFault) → Some line ≡ header_of bytes → line.0.count ≤ most_accesses
    → cause ≡ fault_or_memory (accesses_from line.0.threads line.0.count 2 line.1) → cause ≡ fault_or_memory (record_of bytes)
header_fault bytes line cause e few is =
    is ∙ sym (made_same line.0 (accesses_from line.0.threads line.0.count 2 line.1)) ∙ ap fault_or_memory (sym (behind bytes line e few))

-- what is read, in the words of the text

pub text_read : (bytes : List ℕ) (result : Result RunRecord RecordFault) → IfOk result (λ run. record_of bytes ≡ Ok run)
    → IfOk result (λ run. (record_text run ≡ bytes) × IsRecord run)
text_read bytes (Ok run) h = record_takes bytes run h
text_read bytes (Err cause) h = tt

cause_of : (bytes : List ℕ) (whole : Result RunRecord RecordFault) (cause : RecordFault) → record_of bytes ≡ whole → cause ≡ fault_or_memory whole
    → HasFault bytes cause ⊎ (cause ≡ fault.Memory)
cause_of bytes (Ok run) cause e is = inr is
cause_of bytes (Err other) cause e is = inl (fault_first bytes cause (e ∙ ap Err (sym is)))

pub cause_read : (bytes : List ℕ) (result : Result RunRecord RecordFault) → IfErr result (λ cause. cause ≡ fault_or_memory (record_of bytes))
    → IfErr result (λ cause. HasFault bytes cause ⊎ (cause ≡ fault.Memory))
cause_read bytes (Ok run) h = tt
cause_read bytes (Err cause) h = cause_of bytes (record_of bytes) cause refl h

-- what is printed

pub printed : (run : RunRecord) (accesses : List Access) (text : List ℕ) (i : ℕ) → accesses ≡ run.accesses → length accesses ≤ i
    → text ≡ header_text run.threads run.granule run.budget (length accesses) ++ flat_map line_text (take i accesses) → text ≡ record_text run
printed run accesses text i is all h =
    h ∙ ap (λ xs. header_text run.threads run.granule run.budget (length accesses) ++ flat_map line_text xs) (take_all i accesses all)
    ∙ ap (λ xs. header_text run.threads run.granule run.budget (length xs) ++ flat_map line_text xs) is
    ∙ sym (text_is run)
