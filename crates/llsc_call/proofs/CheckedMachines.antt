-- The machine on which `check` judges a record of another: it has as much memory, as many threads and such rows, and as many classes
-- and writes as `check` has. A program is refused there as on the other, and a good record is good there.
use Rattle.std.proofs.Common.{◌≡◌, ℕ, Bool, true, false, not, if◌then◌else◌, List, Option, Some, None, refl, ◌∙◌}
use Rattle.std.specs.Option.{option_or}
use lib.Count.{ones}
use Rattle.llsc_base.specs.Images.{Program}
use Rattle.llsc_base.specs.Sizes.{Numbers, is_classes, is_granule, is_limit, is_mem, is_threads, size_fault}
use Rattle.llsc_base.specs.declared.sizes.SizeFault.{SizeFault}
use Rattle.llsc_base.specs.declared.sizes.SizeFault.TheVariants.{Mem, Threads, Classes, Limit, Granule}
use Rattle.history.specs.declared.entry.Access.{Access}
use Rattle.a32_step.specs.Machine.{a32}
use Rattle.guest_thread.specs.Ended.{HasEnded}
use Rattle.run_checker.specs.Verdict.{IsRight, Judges, good, wrong, unfinished}
use Rattle.run_checker.specs.declared.verdicts.Verdict.{Verdict}
use Rattle.run_checker.specs.declared.verdicts.Verdict.TheVariants as verdict
use Rattle.elf32.specs.Faults.{first_fault_as}
use Rattle.elf32.specs.Image.{image_of as elf_image}
use Rattle.llsc_words.specs.declared.formats.Format.{Format}
use Rattle.llsc_words.specs.declared.formats.Format.TheVariants.{Elf, Flat}
use Rattle.llsc_words.specs.declared.sets.SetName.TheVariants.{A32}
use Rattle.llsc_files.specs.Programs.{image_of, program_refusal, refusal_on}
use Rattle.llsc_files.specs.Refusals.{machine_of, most_program, size_refusal, too_long}
use Rattle.llsc_call.proofs.RunMachine.{sound_size}

-- ---- there is such a machine

abbrev pub checked : Numbers → Numbers
checked size = machine_of size.mem size.threads size.granule

so_far : (b : Bool) (fault : SizeFault) (rest : Option SizeFault) → (if not b then Some fault else rest) ≡ None → (b ≡ true) × (rest ≡ None)
so_far true fault rest none = (refl, none)
so_far false fault rest none = absurd (let f : ⊥ = cc in f)

checked_clean : (size : Numbers) → size_fault size ≡ None → size_fault (checked size) ≡ None
unfolding ones
checked_clean size clean =
    let mem = so_far (is_mem size.mem) Mem _ clean in
    let threads = so_far (is_threads size.threads) Threads _ mem.1 in
    let classes = so_far (is_classes size.classes) Classes _ threads.1 in
    let limit = so_far (is_limit size.limit) Limit _ classes.1 in
    let granule = so_far (is_granule size.granule) Granule _ limit.1 in
    rw (mem.0, threads.0, granule.0) refl

-- ---- the program

second_none : (first second third : Option (List ℕ)) → option_or first (option_or second third) ≡ None → second ≡ None
second_none None None third none = refl
second_none None (Some name) third none = absurd (let f : ⊥ = cc in f)
second_none (Some name) second third none = absurd (let f : ⊥ = cc in f)

pub short_file : (format : Format) (size : Numbers) (file : List ℕ) → program_refusal format size file ≡ None → too_long most_program file ≡ None
short_file format size file sound = second_none (size_refusal size) (too_long most_program file) (refusal_on format size file) sound

third_none : (first second third : Option (List ℕ)) → option_or first (option_or second third) ≡ None → third ≡ None
third_none None None third none = none
third_none None (Some name) third none = absurd (let f : ⊥ = cc in f)
third_none (Some name) second third none = absurd (let f : ⊥ = cc in f)

refusal_checked : (format : Format) (size : Numbers) (file : List ℕ) → refusal_on format (checked size) file ≡ refusal_on format size file
unfolding first_fault_as
refusal_checked Elf size file = refl
refusal_checked Flat size file = refl

pub image_checked : (format : Format) (size : Numbers) (file : List ℕ) → image_of format file (checked size) ≡ image_of format file size
unfolding elf_image
image_checked Elf size file = refl
image_checked Flat size file = refl

pub sound_checked : (format : Format) (size : Numbers) (file : List ℕ) → program_refusal format size file ≡ None → program_refusal format (checked size) file ≡ None
sound_checked format size file sound =
    let none = checked_clean size (sound_size A32 format size file sound) in
    let third : refusal_on format (checked size) file ≡ None = refusal_checked format size file ∙ third_none (size_refusal size) (too_long most_program file) (refusal_on format size file) sound in
    rw (none, short_file format size file sound, third) refl

-- ---- the record

right_checked : (program : Program) (size : Numbers) (budget : ℕ) (before : List Access) (access : Access) → IsRight a32 program size budget before access
    → IsRight a32 program (checked size) budget before access
right_checked program size budget before access is = record { ask = is.ask; next = is.next; asked = is.asked; value = is.value; reserved = is.reserved }

ended_checked : (program : Program) (size : Numbers) (budget : ℕ) (accesses : List Access) (t : ℕ) → HasEnded a32 program size budget accesses t
    → HasEnded a32 program (checked size) budget accesses t
ended_checked program size budget accesses t has = record { stop = has.stop; steps = has.steps; output = has.output; ends = has.ends }

pub by_verdict : (program : Program) (size : Numbers) (budget : ℕ) (accesses : List Access) (given : Verdict) → Judges a32 program size budget accesses given → given ≡ verdict.Good
    → Judges a32 program (checked size) budget accesses verdict.Good
by_verdict program size budget accesses _ (good right ended) is =
    good (λ before after access at. right_checked program size budget before access (right before after access at)) (λ t known. ended_checked program size budget accesses t (ended t known))
by_verdict program size budget accesses _ (wrong before after access why at right is_wrong) is = absurd (let f : ⊥ = cc in f)
by_verdict program size budget accesses _ (unfinished t ask right known asks) is = absurd (let f : ⊥ = cc in f)
