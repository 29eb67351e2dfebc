-- What `explain` answers for the bytes of a program's file and of a record's.
use Rattle.std.specs.Prelude.{◌≡◌, ℕ, List}
use Rattle.llsc_base.specs.Images.{Program}
use Rattle.llsc_base.specs.Sizes.{Numbers}
use Rattle.run_record.specs.declared.records.RunRecord.{RunRecord}
use Rattle.run_checker.specs.Sighted.{AreSighted}
use Rattle.run_checker.specs.Verdict.{Judges}
use Rattle.run_checker.specs.declared.sightings.Sighting.{Sighting}
use Rattle.run_checker.specs.declared.verdicts.Verdict.{Verdict}
use Rattle.run_checker.specs.declared.verdicts.Verdict.TheVariants as verdict
use Rattle.run_explainer.specs.Text.{explanation}
use Rattle.llsc_words.specs.declared.formats.Format.{Format}
use Rattle.llsc_call.specs.Check.{verdict_text, AnswersFiles}
use Rattle.a32_step.specs.Machine.{a32}

-- a good record is explained by where each of its accesses stands
abbrev pub IsExplanation : Program → Numbers → RunRecord → ℕ → List ℕ → Type 0
IsExplanation program size run status text =
    (sightings : List Sighting) × (AreSighted a32 program size run.budget run.accesses sightings
    × ((status ≡ 0) × (text ≡ explanation run.granule program run.accesses sightings)))

-- and of a bad one it is said, as by `check`, where it is bad and why
abbrev pub IsExplainedBy : Program → Numbers → RunRecord → Verdict → ℕ → List ℕ → Type 0
IsExplainedBy program size run verdict.Good status text = IsExplanation program size run status text
IsExplainedBy program size run (verdict.Bad index reason) status text = (status ≡ 7) × (text ≡ verdict_text (verdict.Bad index reason))

-- a record of a program's run is explained by the verdict on it
abbrev pub IsExplained : Program → Numbers → RunRecord → ℕ → List ℕ → Type 0
IsExplained program size run status text =
    (verdict : Verdict) × (Judges a32 program size run.budget run.accesses verdict × IsExplainedBy program size run verdict status text)

-- the status and the text for a format, so much memory, and the bytes of both files
abbrev pub AnswersExplain : Format → ℕ → (file recorded : List ℕ) → ℕ → List ℕ → Type 0
AnswersExplain format mem file recorded status text = AnswersFiles IsExplained format mem file recorded status text
