-- The header line: its text, and the text read again.
use Rattle.std.proofs.Common.{◌≡◌, ℕ, ◌<◌, ◌^◌, ◌==◌, ◌&&◌, nat_le, if◌then◌else◌, true, false, List, ◌∷◌, ◌++◌, append_assoc, Some, None, refl, sym, ap, subst, ◌∙◌, arith, inl, inr}
use Rattle.std.specs.Prelude.{codes}
use Rattle.std.specs.Fmt.{decimal}
use Rattle.std.proofs.lemmas.Bool.{and_parts, cases_eq, eqb-true, le-leb, leb-true, ne_eqb}
use Rattle.std.proofs.lemmas.Fmt.{decimal_digit}
use Rattle.number_text.specs.Decimal.{plain_number}
use Rattle.number_text.proofs.PlainTexts.{plain_text, text_plain}
use Rattle.run_record.specs.declared.headers.Header.{Header}
use Rattle.run_record.specs.Fault.{HasHeader}
use Rattle.run_record.specs.Fields.{Read, ◌>>=◌, after, field}
use Rattle.llsc_base.specs.Limits.{most_budget}
use Rattle.run_record.specs.Limits.{IsRun, most_granule, most_threads}
use Rattle.run_record.specs.Reading.{granule_of, header_numbers, header_of, is_run, labelled, named_granule}
use Rattle.run_record.specs.Text.{front_text, header_text}
use Rattle.run_record.proofs.Options.{bind_goes, bind_some, else_only, if_only, if_read, if_some, some_same}
use Rattle.run_record.proofs.FieldTexts.{after_again, after_takes, decimal_lacks, field_again, field_takes}

-- a number behind a label

labelled_takes : (label : List ℕ) (code : ℕ) (bytes : List ℕ) (r : ℕ × List ℕ) → labelled label code bytes ≡ Some r
    → (bytes ≡ label ++ (decimal r.0 ++ code ∷ r.1)) × (r.0 < 2 ^ 64)
labelled_takes label code bytes r h =
    let front = bind_some (after label bytes) (field plain_number code) r h in
    let is = field_takes plain_number code front.0 r front.2 in
    let read = plain_text is.word r.0 is.means in
    (after_takes label bytes front.0 front.1 ∙ ap (λ t. label ++ t) (is.text ∙ ap (λ w. w ++ code ∷ r.1) read.0), read.1)

labelled_again : (label : List ℕ) (code n : ℕ) (rest : List ℕ) → code < 48 → n < 2 ^ 64 → labelled label code (label ++ (decimal n ++ code ∷ rest)) ≡ Some (n, rest)
labelled_again label code n rest h small =
    bind_goes (after label (label ++ (decimal n ++ code ∷ rest))) (field plain_number code) (decimal n ++ code ∷ rest) (after_again label (decimal n ++ code ∷ rest))
    ∙ field_again plain_number code (decimal n) rest n (text_plain n small) (decimal_lacks code n h small)

-- a header line, part by part

flat : (f b m a k z rest : List ℕ) → (f ++ b ++ m ++ a ++ k ++ z) ++ rest ≡ f ++ (b ++ (m ++ (a ++ (k ++ (z ++ rest)))))
flat f b m a k z rest =
    append_assoc (f ++ b ++ m ++ a ++ k) z rest
    ∙ append_assoc (f ++ b ++ m ++ a) k (z ++ rest)
    ∙ append_assoc (f ++ b ++ m) a (k ++ (z ++ rest))
    ∙ append_assoc (f ++ b) m (a ++ (k ++ (z ++ rest)))
    ∙ append_assoc f b (m ++ (a ++ (k ++ (z ++ rest))))

abbrev count_text : ℕ → List ℕ → List ℕ
count_text count rest = codes "accesses " ++ (decimal count ++ 10 ∷ rest)

abbrev budget_text : ℕ → List ℕ → List ℕ
budget_text budget rest = codes "budget " ++ (decimal budget ++ 32 ∷ rest)

abbrev granule_text : ℕ → List ℕ → List ℕ
granule_text granule rest = codes "granule " ++ (decimal granule ++ 32 ∷ rest)

abbrev threads_text : ℕ → List ℕ → List ℕ
threads_text threads rest = codes "threads " ++ (decimal threads ++ 32 ∷ rest)

abbrev format_text : ℕ → List ℕ → List ℕ
format_text format rest = codes "llsc-run " ++ (decimal format ++ 32 ∷ rest)

header_parts : (threads granule budget count : ℕ) (rest : List ℕ)
    → header_text threads granule budget count ++ rest ≡ front_text threads granule ++ 32 ∷ budget_text budget (count_text count rest)
unfolding header_text
header_parts threads granule budget count rest =
    flat (front_text threads granule) (codes " budget ") (decimal budget) (codes " accesses ") (decimal count) (codes "\n") rest

-- the front of either format

first_front : (threads : ℕ) (rest : List ℕ) → front_text threads 0 ++ 32 ∷ rest ≡ format_text 1 (threads_text threads rest)
first_front threads rest =
    append_assoc (codes "llsc-run 1 threads ") (decimal threads) (32 ∷ rest)
    ∙ ap (λ one. codes "llsc-run " ++ (one ++ 32 ∷ threads_text threads rest)) (sym (decimal_digit 1 (omega arith)))

named_front : (threads granule : ℕ) → (granule == 0) ≡ false
    → front_text threads granule ≡ codes "llsc-run 2 threads " ++ decimal threads ++ codes " granule " ++ decimal granule
named_front threads granule named = rw named refl

second_front : (threads granule : ℕ) (rest : List ℕ) → (granule == 0) ≡ false
    → front_text threads granule ++ 32 ∷ rest ≡ format_text 2 (threads_text threads (granule_text granule rest))
second_front threads granule rest named =
    let two : List ℕ = codes "llsc-run 2 threads " in
    let word : List ℕ = codes " granule " in
    ap (λ front. front ++ 32 ∷ rest) (named_front threads granule named)
    ∙ append_assoc (two ++ decimal threads ++ word) (decimal granule) (32 ∷ rest)
    ∙ append_assoc (two ++ decimal threads) word (decimal granule ++ 32 ∷ rest)
    ∙ append_assoc two (decimal threads) (word ++ (decimal granule ++ 32 ∷ rest))
    ∙ ap (λ two. codes "llsc-run " ++ (two ++ 32 ∷ threads_text threads (granule_text granule rest))) (sym (decimal_digit 2 (omega arith)))

-- the granule that is read has this text

abbrev if_named : ℕ × List ℕ → Read ℕ
if_named granule = if granule.0 == 0 then None else Some granule

named_takes : (bytes : List ℕ) (r : ℕ × List ℕ) → named_granule bytes ≡ Some r → (bytes ≡ granule_text r.0 r.1) × ((r.0 == 0) ≡ false)
named_takes bytes r h =
    let line = bind_some (labelled (codes "granule ") 32 bytes) if_named r h in
    let check = else_only (line.0.0 == 0) line.0 r line.2 in
    let is = labelled_takes (codes "granule ") 32 bytes line.0 line.1 in
    subst (λ p. (bytes ≡ granule_text p.0 p.1) × ((p.0 == 0) ≡ false)) check.1 (is.0, check.0)

granule_takes : (format threads : ℕ) (bytes : List ℕ) (r : ℕ × List ℕ) → granule_of format bytes ≡ Some r
    → format_text format (threads_text threads bytes) ≡ front_text threads r.0 ++ 32 ∷ r.1
granule_takes format threads bytes r h =
    elim (if_some (format == 1) (0, bytes) r (if format == 2 then named_granule bytes else None) h) [
      | inl first ↦
          ap (λ f. format_text f (threads_text threads bytes)) (eqb-true format 1 first.0)
          ∙ sym (first_front threads bytes)
          ∙ ap (λ p. front_text threads p.0 ++ 32 ∷ p.1) first.1
      | inr later ↦
          let second = if_read (format == 2) (named_granule bytes) r later in
          let named = named_takes bytes r second.1 in
          ap (λ f. format_text f (threads_text threads bytes)) (eqb-true format 2 second.0)
          ∙ ap (λ t. format_text 2 (threads_text threads t)) named.0
          ∙ sym (second_front threads r.0 r.1 named.1)
    ]

-- the front of a header line is read

record IsFront (threads granule : ℕ) (rest : List ℕ) : Type 0 where
  format : ℕ
  behind : List ℕ
  small : format < 2 ^ 64
  text : front_text threads granule ++ 32 ∷ rest ≡ format_text format (threads_text threads behind)
  reads : granule_of format behind ≡ Some (granule, rest)

named_again : (granule : ℕ) (rest : List ℕ) → granule < 2 ^ 64 → (granule == 0) ≡ false → named_granule (granule_text granule rest) ≡ Some (granule, rest)
named_again granule rest small named =
    bind_goes (labelled (codes "granule ") 32 (granule_text granule rest)) if_named (granule, rest) (labelled_again (codes "granule ") 32 granule rest (omega arith) small)
    ∙ ap (λ t. if t then None else Some (granule, rest)) named

front_again : (threads granule : ℕ) (rest : List ℕ) → granule < 2 ^ 64 → IsFront threads granule rest
front_again threads granule rest small =
    elim (cases_eq granule 0) [
      | inl least ↦
          subst (λ g. IsFront threads g rest) (sym least)
          (record { format = 1; behind = rest; small = omega arith; text = first_front threads rest; reads = refl })
      | inr other ↦
          let named = ne_eqb granule 0 other in
          record {
            format = 2;
            behind = granule_text granule rest;
            small = omega arith;
            text = second_front threads granule rest named;
            reads = named_again granule rest small named;
          }
    ]

-- the steps of reading a header

abbrev at_count : ℕ → ℕ → ℕ → ℕ × List ℕ → Read Header
at_count threads granule budget count = Some (record { threads = threads; granule = granule; budget = budget; count = count.0 }, count.1)

abbrev at_budget : ℕ → ℕ → ℕ × List ℕ → Read Header
at_budget threads granule budget = labelled (codes "accesses ") 10 budget.1 >>= at_count threads granule budget.0

abbrev at_granule : ℕ → ℕ × List ℕ → Read Header
at_granule threads granule = labelled (codes "budget ") 32 granule.1 >>= at_budget threads granule.0

abbrev at_threads : ℕ → ℕ × List ℕ → Read Header
at_threads format threads = granule_of format threads.1 >>= at_granule threads.0

abbrev at_format : ℕ × List ℕ → Read Header
at_format format = labelled (codes "threads ") 32 format.1 >>= at_threads format.0

abbrev at_line : Header × List ℕ → Read Header
at_line line = if is_run line.0 then Some line else None

run_steps : (bytes : List ℕ) → header_of bytes ≡ (header_numbers bytes >>= at_line)
unfolding header_of
run_steps bytes = refl

-- the numbers of a run

is_run_so : (header : Header) → is_run header ≡ true → IsRun header.threads header.granule header.budget
is_run_so header h =
    let most = and_parts
    ((nat_le 1 header.threads && nat_le header.threads most_threads) && nat_le header.granule most_granule)
    (nat_le 1 header.budget && nat_le header.budget most_budget) h in
    let both = and_parts (nat_le 1 header.threads && nat_le header.threads most_threads) (nat_le header.granule most_granule) most.0 in
    let threads = and_parts (nat_le 1 header.threads) (nat_le header.threads most_threads) both.0 in
    let budget = and_parts (nat_le 1 header.budget) (nat_le header.budget most_budget) most.1 in
    record {
      thread = leb-true 1 header.threads threads.0;
      few = leb-true header.threads most_threads threads.1;
      rows = leb-true header.granule most_granule both.1;
      step = leb-true 1 header.budget budget.0;
      bounded = leb-true header.budget most_budget budget.1;
    }

run_is : (header : Header) → IsRun header.threads header.granule header.budget → is_run header ≡ true
run_is header is =
    rw (
      le-leb 1 header.threads is.thread,
      le-leb header.threads most_threads is.few,
      le-leb header.granule most_granule is.rows,
      le-leb 1 header.budget is.step,
      le-leb header.budget most_budget is.bounded,
    ) refl

-- the header that is read has this text, and a header's text is read

texts_join : (bytes : List ℕ) (format threads granule budget count : ℕ × List ℕ) → bytes ≡ format_text format.0 format.1
    → format.1 ≡ threads_text threads.0 threads.1
    → format_text format.0 (threads_text threads.0 threads.1) ≡ front_text threads.0 granule.0 ++ 32 ∷ granule.1
    → granule.1 ≡ budget_text budget.0 budget.1 → budget.1 ≡ count_text count.0 count.1
    → bytes ≡ header_text threads.0 granule.0 budget.0 count.0 ++ count.1
texts_join bytes format threads granule budget count h1 h2 h3 h4 h5 =
    h1 ∙ ap (format_text format.0) h2 ∙ h3
    ∙ ap (λ t. front_text threads.0 granule.0 ++ 32 ∷ t) (h4 ∙ ap (budget_text budget.0) h5)
    ∙ sym (header_parts threads.0 granule.0 budget.0 count.0 count.1)

pub header_takes : (bytes : List ℕ) (r : Header × List ℕ) → header_of bytes ≡ Some r
    → HasHeader bytes r.0.threads r.0.granule r.0.budget r.0.count r.1
header_takes bytes r h =
    let line = bind_some (header_numbers bytes) at_line r (sym (run_steps bytes) ∙ h) in
    let format = bind_some (labelled (codes "llsc-run ") 32 bytes) at_format line.0 line.1 in
    let threads = bind_some (labelled (codes "threads ") 32 format.0.1) (at_threads format.0.0) line.0 format.2 in
    let granule = bind_some (granule_of format.0.0 threads.0.1) (at_granule threads.0.0) line.0 threads.2 in
    let budget = bind_some (labelled (codes "budget ") 32 granule.0.1) (at_budget threads.0.0 granule.0.0) line.0 granule.2 in
    let count = bind_some (labelled (codes "accesses ") 10 budget.0.1) (at_count threads.0.0 granule.0.0 budget.0.0) line.0 budget.2 in
    let header : Header = record { threads = threads.0.0; granule = granule.0.0; budget = budget.0.0; count = count.0.0 } in
    let same : (header, count.0.1) ≡ line.0 = some_same (header, count.0.1) line.0 count.2 in
    let check = if_only (is_run line.0.0) line.0 r line.2 in
    let is = same ∙ check.1 in
    let runs : IsRun threads.0.0 granule.0.0 budget.0.0 = is_run_so header (ap (λ p. is_run p.0) same ∙ check.0) in
    let one = labelled_takes (codes "llsc-run ") 32 bytes format.0 format.1 in
    let two = labelled_takes (codes "threads ") 32 format.0.1 threads.0 threads.1 in
    let three = granule_takes format.0.0 threads.0.0 threads.0.1 granule.0 granule.1 in
    let four = labelled_takes (codes "budget ") 32 granule.0.1 budget.0 budget.1 in
    let five = labelled_takes (codes "accesses ") 10 budget.0.1 count.0 count.1 in
    let has : HasHeader bytes threads.0.0 granule.0.0 budget.0.0 count.0.0 count.0.1 = record {
      numbers = runs;
      small = five.1;
      text = texts_join bytes format.0 threads.0 granule.0 budget.0 count.0 one.0 two.0 three four.0 five.0;
    } in
    subst (λ p. HasHeader bytes p.0.threads p.0.granule p.0.budget p.0.count p.1) is has

pub header_again : (bytes : List ℕ) (threads granule budget count : ℕ) (rest : List ℕ) → HasHeader bytes threads granule budget count rest
    → header_of bytes ≡ Some (record { threads = threads; granule = granule; budget = budget; count = count }, rest)
header_again bytes threads granule budget count rest has =
    let counts : List ℕ = count_text count rest in
    let budgets : List ℕ = budget_text budget counts in
    let small : granule < 2 ^ 64 = omega (arith, has.numbers.rows) in
    let front = front_again threads granule budgets small in
    let others : List ℕ = threads_text threads front.behind in
    let text : List ℕ = format_text front.format others in
    let header : Header = record { threads = threads; granule = granule; budget = budget; count = count } in
    let few : threads < 2 ^ 64 = omega (arith, has.numbers.few) in
    let bounded : budget < 2 ^ 64 = omega (arith, has.numbers.bounded) in
    let read : header_numbers text ≡ Some (header, rest) =
    bind_goes (labelled (codes "llsc-run ") 32 text) at_format (front.format, others) (labelled_again (codes "llsc-run ") 32 front.format others (omega arith) front.small)
    ∙ bind_goes (labelled (codes "threads ") 32 others) (at_threads front.format) (threads, front.behind) (labelled_again (codes "threads ") 32 threads front.behind (omega arith) few)
    ∙ bind_goes (granule_of front.format front.behind) (at_granule threads) (granule, budgets) front.reads
    ∙ bind_goes (labelled (codes "budget ") 32 budgets) (at_budget threads granule) (budget, counts) (labelled_again (codes "budget ") 32 budget counts (omega arith) bounded)
    ∙ bind_goes (labelled (codes "accesses ") 10 counts) (at_count threads granule budget) (count, rest) (labelled_again (codes "accesses ") 10 count rest (omega arith) has.small)
    in
    ap header_of (has.text ∙ header_parts threads granule budget count rest ∙ front.text) ∙ run_steps text
    ∙ bind_goes (header_numbers text) at_line (header, rest) read
    ∙ ap (λ t. if t then Some (header, rest) else None) (run_is header has.numbers)
