-- What a load is answered with.
use Rattle.std.proofs.Common.{◌≡◌, ◌⊎◌, inl, inr, ℕ, zero, suc, ◌==◌, ◌≤◌, [], ◌∷◌, ◌&&◌, Bool, true, false, if◌then◌else◌, List, Option, Some, None, codes, length, lit≤, eqb-true, arith, refl, sym, ◌∙◌, ap, subst}
use Rattle.std.specs.Option.{option_or}
use Rattle.std.proofs.lemmas.Bool.{and_parts}
use Rattle.llsc_base.specs.Images.{Program}
use Rattle.llsc_base.specs.Sizes.{Numbers, is_threads}
use Rattle.llsc_base.proofs.Values.{length-values_below}
use Rattle.elf32.specs.Units.{unit_byte, unit_image}
use Rattle.elf32.specs.declared.units.Unit.{Unit}
use Rattle.guest_gen.specs.Counters.{AreInRange, fault_of, is_rounds}
use Rattle.counter_runs.proofs.Counted.{counters_hold, most}
use Rattle.llsc_base.specs.declared.outside.Stop.{Stop}
use Rattle.llsc_base.specs.declared.outside.Stop.TheVariants as stop
use Rattle.guest_gen.specs.declared.faults.GenFault.{GenFault}
use Rattle.guest_gen.specs.declared.faults.GenFault.TheVariants as gen
use Rattle.history.specs.declared.entry.Entry.{Entry}
use Rattle.guest_thread.specs.Outcome.{HaveLeft, IsOutcome}
use Rattle.guest_thread.specs.declared.ends.GuestEnd.{GuestEnd}
use Rattle.a32_step.specs.Machine.{a32}
use Rattle.llsc_call.specs.Beside.{HaveRun}
use Rattle.llsc_call.specs.Versions.{KeepsVersions}
use Rattle.llsc_report.specs.Summary.{counter_of, load_summary, summary_by}
use Rattle.llsc_call.specs.Load.{AnswersLoad, CountsEveryRound, TellsLoad, guest_refusal, load_program, load_refusal, load_size, load_text}
use Rattle.llsc_files.specs.declared.refusals.Refusal.{Refusal}
use Rattle.llsc_files.specs.declared.refusals.Refusal.TheVariants as refusal
use Rattle.llsc_files.specs.Refusals.{IsRefusal, size_refusal}
use Rattle.llsc_report.specs.Report.{report_of}
use Rattle.llsc_call.specs.Run.{UnlessRun}
use Rattle.llsc_report.specs.Status.{have_left, status_of, status_of_all}
use Rattle.llsc_files.proofs.Answering.{refused_by}
use Rattle.llsc_report.proofs.Counted.{summary_named}
use Rattle.llsc_call.proofs.Left.{counters_left}

-- ---- what is printed

pub left-all : (b : Bool) → ◌≡◌ {A = ℕ} (if b then 0 else 1) 0 → b ≡ true
left-all true is = refl
left-all false is = absurd (omega (arith, is))

tested : (b : Bool) → ((if b then 0 else 1) == 0) ≡ true → b ≡ true
tested true is = refl
tested false is = absurd (let e : false ≡ true = is in let f : ⊥ = cc in f)

-- a thread left with code 0
left_0 : (why : Stop) → (status_of why == 0) ≡ true → why ≡ stop.Exit 0
left_0 (stop.Exit code) is = ap (λ (n : ℕ). stop.Exit n) (eqb-true code 0 (tested (code == 0) is))
left_0 (stop.Undefined addr) is = absurd (let e : false ≡ true = is in let f : ⊥ = cc in f)
left_0 (stop.Unpredictable addr) is = absurd (let e : false ≡ true = is in let f : ⊥ = cc in f)
left_0 (stop.Alignment addr) is = absurd (let e : false ≡ true = is in let f : ⊥ = cc in f)
left_0 (stop.Outside addr) is = absurd (let e : false ≡ true = is in let f : ⊥ = cc in f)
left_0 (stop.ReadOnly addr) is = absurd (let e : false ≡ true = is in let f : ⊥ = cc in f)
left_0 (stop.Thumb addr) is = absurd (let e : false ≡ true = is in let f : ⊥ = cc in f)
left_0 (stop.TagLimit addr) is = absurd (let e : false ≡ true = is in let f : ⊥ = cc in f)
left_0 stop.Budget is = absurd (let e : false ≡ true = is in let f : ⊥ = cc in f)

pub have_each : (ends : List GuestEnd) → have_left ends ≡ true → HaveLeft ends
have_each [] all t end got = absurd (let f : ⊥ = cc in f)
have_each (first ∷ ends) all zero end got =
    let same : first ≡ end = cc in
    let mine = (and_parts (status_of first.stop == 0) (have_left ends) all).0 in
    subst (λ (e : GuestEnd). e.stop ≡ stop.Exit 0) same (left_0 first.stop mine)
have_each (first ∷ ends) all (suc t) end got =
    have_each ends (and_parts (status_of first.stop == 0) (have_left ends) all).1 t end got

-- the numbers of a guest that there is
guest_few : (threads rounds : ℕ) → guest_refusal threads rounds ≡ None → AreInRange threads rounds
guest_few threads rounds clean = by_range (is_threads threads && is_rounds rounds) refl clean
  where
    by_range : (fits : Bool) → (is_threads threads && is_rounds rounds) ≡ fits → (if fits then None else Some (codes "Range")) ≡ None
        → (is_threads threads && is_rounds rounds) ≡ true
    by_range true same clean = same
    by_range false same clean = absurd (let f : ⊥ = cc in f)

-- the summary, where all threads left with code 0
pub loaded_all : (seed threads rounds budget : ℕ) (history : List Entry) (ends : List GuestEnd) (cells : List ℕ)
    → guest_refusal threads rounds ≡ None → HaveRun a32 (load_program seed threads rounds) (load_size threads) budget history ends cells → have_left ends ≡ true
    → TellsLoad (Some history) seed threads rounds budget 0 (summary_by seed threads rounds (counter_of cells))
loaded_all seed threads rounds budget history ends cells clean ran left =
    let few = most threads rounds (guest_few threads rounds clean) in
    let holds = counters_hold seed rounds budget (load_size threads) history ends (lit≤ tt) few.0 few.1 ran.outcome (have_each ends left) in
    let same : summary_by seed threads rounds (counter_of cells) ≡ load_summary seed threads rounds =
    summary_named seed threads rounds (counter_of cells) (λ i known.
    counters_left seed threads rounds history cells ran.outcome.legal ran.left i known ∙ holds i known) in
    (ends, (ran.outcome, (ran.versions, (ap (λ b. if b then 0 else 1) (sym left), same ∙ ap (λ b. if b then load_summary seed threads rounds else report_of budget ends) (sym left)))))

-- the report, where one didn't
pub loaded_some : (seed threads rounds budget : ℕ) (history : List Entry) (ends : List GuestEnd) (cells : List ℕ)
    → HaveRun a32 (load_program seed threads rounds) (load_size threads) budget history ends cells → have_left ends ≡ false
    → TellsLoad (Some history) seed threads rounds budget (status_of_all ends) (report_of budget ends)
loaded_some seed threads rounds budget history ends cells ran none =
    (ends, (ran.outcome, (ran.versions, (refl, ap (λ b. if b then load_summary seed threads rounds else report_of budget ends) (sym none)))))

-- there are cells where the counters stand
pub rows_enough : (seed threads rounds budget : ℕ) (history : List Entry) (ends : List GuestEnd) (cells : List ℕ)
    → HaveRun a32 (load_program seed threads rounds) (load_size threads) budget history ends cells → 2000 ≤ length cells
rows_enough seed threads rounds budget history ends cells ran = omega (arith, ran.left.count)

-- ---- the answer

-- the image of a program is as long as the machine's memory
pub unit_sized : (unit : Unit) (size : Numbers) (image : Program) → image ≡ unit_image unit size → length image.bytes ≡ size.mem
unit_sized unit size image is = ap (λ (i : Program). length i.bytes) is ∙ length-values_below size.mem (unit_byte unit)

-- numbers that no guest has, or want of memory for it
pub guest_unmade : (threads rounds : ℕ) (fault : GenFault) (r : Refusal) → fault ≡ fault_of threads rounds
    → (fault ≡ gen.Memory → r ≡ refusal.Memory) → IsRefusal (Some (codes "Range")) r → IsRefusal (guest_refusal threads rounds) r
guest_unmade threads rounds fault r is alone named = by_range (is_threads threads && is_rounds rounds) refl is
  where
    by_range : (fits : Bool) → (is_threads threads && is_rounds rounds) ≡ fits → fault ≡ (if fits then gen.Memory else gen.Range)
        → IsRefusal (guest_refusal threads rounds) r
    by_range true same wanting = subst (IsRefusal (guest_refusal threads rounds)) (sym (alone wanting)) tt
    by_range false same range = refused_by (Some (codes "Range")) (guest_refusal threads rounds) r
        (λ name stands. ap (λ b. if b then None else Some (codes "Range")) same ∙ stands) named

-- ---- the history of an answer

outcome_by : (against : Option (List ℕ)) (story : Option (List Entry)) (seed threads rounds budget status : ℕ) (text : List ℕ)
    → UnlessRun against story (TellsLoad story seed threads rounds budget) status text → (status ≡ 0) ⊎ (status ≡ 1)
    → (history : List Entry) × (ends : List GuestEnd) × ((story ≡ Some history)
    × (IsOutcome a32 (load_program seed threads rounds) (load_size threads) budget history ends × (KeepsVersions (load_size threads) history
    × (text ≡ load_text seed threads rounds budget ends))))
outcome_by (Some name) story seed threads rounds budget status text stands (inl is) = cc (stands.1.0, is)
outcome_by (Some name) story seed threads rounds budget status text stands (inr is) = cc (stands.1.0, is)
outcome_by None None seed threads rounds budget status text tells ran = absurd tells
outcome_by None (Some history) seed threads rounds budget status text tells ran = (history, tells.0, (refl, (tells.1.0, (tells.1.1.0, tells.1.1.1.1))))

pub load_outcome : (seed threads rounds budget : ℕ) (story : Option (List Entry)) (status : ℕ) (text : List ℕ)
    → AnswersLoad seed threads rounds budget story status text → (status ≡ 0) ⊎ (status ≡ 1)
    → (history : List Entry) × (ends : List GuestEnd) × ((story ≡ Some history)
    × (IsOutcome a32 (load_program seed threads rounds) (load_size threads) budget history ends × (KeepsVersions (load_size threads) history
    × (text ≡ load_text seed threads rounds budget ends))))
load_outcome seed threads rounds budget story status text answers ran =
    outcome_by (load_refusal threads rounds) story seed threads rounds budget status text answers ran

-- ---- a load that has counted every round

no_guest_refusal : (threads rounds : ℕ) → load_refusal threads rounds ≡ None → guest_refusal threads rounds ≡ None
no_guest_refusal threads rounds clean = last_none (size_refusal (load_size threads)) (guest_refusal threads rounds) clean
  where
    last_none : (first last : Option (List ℕ)) → option_or first last ≡ None → last ≡ None
    last_none None last none = none
    last_none (Some name) last none = absurd (let f : ⊥ = cc in f)

pub every_round : (seed threads rounds budget : ℕ) (story : Option (List Entry)) (text : List ℕ)
    → AnswersLoad seed threads rounds budget story 0 text
    → (history : List Entry) × ((story ≡ Some history) × (CountsEveryRound seed threads rounds history × (text ≡ load_summary seed threads rounds)))
every_round seed threads rounds budget story text answers = by_refusal (load_refusal threads rounds) refl story answers
  where
    by_refusal : (against : Option (List ℕ)) → load_refusal threads rounds ≡ against → (told : Option (List Entry))
        → UnlessRun against told (TellsLoad told seed threads rounds budget) 0 text
        → (history : List Entry) × ((told ≡ Some history) × (CountsEveryRound seed threads rounds history × (text ≡ load_summary seed threads rounds)))
    by_refusal (Some name) is told stands = absurd (let four = stands.1.0 in omega (arith, four))
    by_refusal None is None tells = absurd tells
    by_refusal None is (Some history) tells =
        let ends = tells.0 in
        let left : have_left ends ≡ true = left-all (have_left ends) (sym tells.1.1.1.0) in
        let few = most threads rounds (guest_few threads rounds (no_guest_refusal threads rounds is)) in (
          history,
          (
            refl,
            (
              counters_hold seed rounds budget (load_size threads) history ends (lit≤ tt) few.0 few.1 tells.1.0 (have_each ends left),
              tells.1.1.1.1 ∙ ap (λ b. if b then load_summary seed threads rounds else report_of budget ends) left,
            ),
          ),
        )
