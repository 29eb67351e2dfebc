-- From an answer to the outcome that it tells, and what holds of that.
use Rattle.std.proofs.Common.{◌≡◌, ◌⊎◌, ℕ, ◌+◌, ◌*◌, ◌<◌, ◌≤◌, List, [], ◌∷◌, Option, Some, None, refl, sym, subst, arith, inl, inr}
use Rattle.std.proofs.lemmas.Bool.Decides.{nat_tests}
use Rattle.llsc_base.specs.Images.{Program}
use Rattle.llsc_base.specs.Sizes.{Numbers, room_of, size_fault}
use Rattle.elf32.specs.Written.{written_file}
use Rattle.history.specs.declared.entry.Entry.{Entry}
use Rattle.guest_thread.specs.Outcome.{IsOutcome}
use Rattle.guest_thread.specs.declared.ends.GuestEnd.{GuestEnd}
use Rattle.guest_thread.proofs.Unspared.{outcome_unspared}
use Rattle.a32_step.specs.Machine.{a32}
use Rattle.llsc_words.specs.Request.{Request}
use Rattle.llsc_words.specs.declared.formats.Format.TheVariants.{Elf}
use Rattle.llsc_words.specs.declared.sets.SetName.TheVariants.{A32}
use Rattle.llsc_words.proofs.Counted.{few_threads}
use Rattle.llsc_files.specs.Programs.{image_of, program_refusal_as}
use Rattle.llsc_report.specs.Status.{have_left, status_of_all}
use Rattle.llsc_call.specs.Answer.{Answers}
use Rattle.llsc_call.specs.Run.{AnswersRun, ReportsRun, UnlessRun}
use Rattle.llsc_call.proofs.LoadAnswers.{have_each, left-all}
use Rattle.llsc_call.proofs.RunMachine.{sound_size}
use Rattle.stack_runs.specs.Guest.{AreInRange, stack_image, stack_unit}
use Rattle.stack_runs.proofs.Outcomes.{all_ended, all_somewhere}
use Rattle.stack_runs.proofs.WrittenFile.{filed}
use Rattle.stack_answers.specs.Told.{AreNeverLost, HaveComeBack, RunsThreads, beside, on_workers}

-- by both commands it is answered as a run
as_run : (size : Numbers) (budget : ℕ) (asked : Request) (file : List ℕ) (story : Option (List Entry)) (status : ℕ) (text : List ℕ)
    → RunsThreads size budget asked → Answers asked (file ∷ []) story status text → AnswersRun A32 Elf size.threads 0 size budget file story status text
as_run size budget _ file story status text (beside name) answers = answers
as_run size budget _ file story status text (on_workers name workers slice) answers = answers

-- a machine that there is has so much memory
enough : (size : Numbers) → size_fault size ≡ None → 65536 ≤ size.mem
enough size clean = grind (arith, nat_tests)

in_range : (nodes rounds : ℕ) (size : Numbers) → nodes ≤ 64 → 1 ≤ rounds → rounds < 65536 → size_fault size ≡ None → AreInRange nodes rounds size
in_range nodes rounds size few some small sound = record {
  few_nodes = few;
  some_rounds = some;
  few_rounds = small;
  few_threads = (few_threads size sound).1;
  room = enough size sound;
}

-- the outcome that an answer tells
record IsTold (nodes rounds budget : ℕ) (size : Numbers) (story : Option (List Entry)) (status : ℕ) : Type 0 where
  history : List Entry
  ends : List GuestEnd
  told : story ≡ Some history
  outcome : IsOutcome a32 (stack_image nodes rounds size) size budget history ends
  stopped : status ≡ status_of_all ends
  sound : size_fault size ≡ None

ran : (status : ℕ) → status ≡ 4 → (status ≡ 0) ⊎ (status ≡ 1) → ⊥
ran status four (inl zero_is) = absurd (omega (arith, four, zero_is))
ran status four (inr one_is) = absurd (omega (arith, four, one_is))

module _ (nodes rounds budget : ℕ) (size : Numbers) (story : Option (List Entry)) (status : ℕ) (text : List ℕ) where
  told_by : (against : Option (List ℕ)) (story : Option (List Entry)) (program : Program) → program ≡ stack_image nodes rounds size
      → (against ≡ None → size_fault size ≡ None)
      → UnlessRun against story (ReportsRun A32 story program size size.threads 0 budget) status text → (status ≡ 0) ⊎ (status ≡ 1)
      → IsTold nodes rounds budget size story status
  told_by (Some name) other program image sound stands ended = absurd (ran status stands.1.0 ended)
  told_by None None program image sound reports ended = absurd reports
  told_by None (Some history) program image sound reports ended = record {
    history = history;
    ends = reports.0;
    told = refl;
    outcome = subst (λ p. IsOutcome a32 p size budget history reports.0) image (outcome_unspared a32 program size budget history reports.0 reports.1.0);
    stopped = reports.1.1.1.0;
    sound = sound refl;
  }

  told_of : (asked : Request) → nodes ≤ 64 → 8256 + 8 * nodes ≤ room_of size → RunsThreads size budget asked
      → Answers asked (written_file (stack_unit nodes rounds) ∷ []) story status text → (status ≡ 0) ⊎ (status ≡ 1)
      → IsTold nodes rounds budget size story status
  told_of asked few room runs answers ended =
      let file = written_file (stack_unit nodes rounds) in
      told_by (program_refusal_as A32 Elf size file) story (image_of Elf file size) (filed nodes rounds size few room)
      (sound_size A32 Elf size file) (as_run size budget asked file story status text runs answers) ended

pub never_lost : (nodes rounds budget : ℕ) (size : Numbers) (asked : Request) (story : Option (List Entry)) (status : ℕ) (text : List ℕ)
    → nodes ≤ 64 → 1 ≤ rounds → rounds < 65536 → 8256 + 8 * nodes ≤ room_of size → RunsThreads size budget asked
    → Answers asked (written_file (stack_unit nodes rounds) ∷ []) story status text → (status ≡ 0) ⊎ (status ≡ 1)
    → (history : List Entry) × ((story ≡ Some history) × AreNeverLost nodes rounds size history)
never_lost nodes rounds budget size asked story status text few some small room runs answers ended =
    let is = told_of nodes rounds budget size story status text asked few room runs answers ended in
    let range = in_range nodes rounds size few some small is.sound in
    (is.history, (is.told, all_somewhere nodes rounds budget size is.history is.ends range is.outcome))

pub come_back : (nodes rounds budget : ℕ) (size : Numbers) (asked : Request) (story : Option (List Entry)) (text : List ℕ)
    → nodes ≤ 64 → 1 ≤ rounds → rounds < 65536 → 8256 + 8 * nodes ≤ room_of size → RunsThreads size budget asked
    → Answers asked (written_file (stack_unit nodes rounds) ∷ []) story 0 text
    → (history : List Entry) × ((story ≡ Some history) × HaveComeBack nodes rounds size history)
come_back nodes rounds budget size asked story text few some small room runs answers =
    let is = told_of nodes rounds budget size story 0 text asked few room runs answers (inl refl) in
    let left = have_each is.ends (left-all (have_left is.ends) (sym is.stopped)) in
    let end = all_ended nodes rounds budget size is.history is.ends (in_range nodes rounds size few some small is.sound) is.outcome left in
    (is.history, (is.told, record { each_once = end.holds_each; all_counted = end.sum }))
