use Rattle.std.proofs.Common.{◌≡◌, None, refl, sym, subst, ◌∙◌, ap}
use Rattle.llsc_base.specs.Sizes.{Numbers}
use Rattle.elf32.specs.Units.{unit_image}
use Rattle.elf32.specs.declared.units.Unit.{Unit}
use Rattle.guest_gen.specs.Counters.{counter_unit}
use Rattle.llsc_files.specs.Refusals.{size_refusal, IsRefusal}
use Rattle.llsc_files.proofs.Answering.{passed_on, refused_by}
use Rattle.llsc_call.specs.Load.{guest_refusal, load_refusal, load_size}
use Rattle.llsc_call.proofs.LoadAnswers.{unit_sized}
use Rattle.llsc_call.proofs.commands.load.prepare.Goals as goal

pub returns-clause-loaded : goal.returns-clause-loaded
returns-clause-loaded c =
    let n = c.args.numbers.now in
    let machine = c.in_ok-size.ensures.size in
    let size : c.in_ok-size.size ≡ load_size n.threads = machine.0 ∙ c.numbers_of-machine_numbers.ensures in
    let none : size_refusal (load_size n.threads) ≡ None = subst (λ m. size_refusal m ≡ None) c.numbers_of-machine_numbers.ensures machine.1 in
    let clean : guest_refusal n.threads n.rounds ≡ None = c.in_ok-unit.ensures.sound in
    record {
      sized = size;
      sound = rw (none, clean) refl;
      image = c.in-Ok.ensures ∙ ap (λ (u : Unit). unit_image u c.in_ok-size.size) c.in_ok-unit.ensures.unit ∙ ap (λ (s : Numbers). unit_image (counter_unit n.seed n.rounds) s) size;
      whole = unit_sized c.in_ok-unit.unit c.in_ok-size.size c.in-Ok.image c.in-Ok.ensures;
    }

pub returns-in_err-size-clause-refused : goal.returns-in_err-size-clause-refused
returns-in_err-size-clause-refused c =
    let n = c.args.numbers.now in
    passed_on c.from_residual.result c.from_residual.ensures.1
    (λ r same. subst (IsRefusal (load_refusal n.threads n.rounds)) (sym same)
    (refused_by (size_refusal (load_size n.threads)) (load_refusal n.threads n.rounds) c.in_err-size.field-0.0 (λ name is. rw is refl)
    (subst (λ m. IsRefusal (size_refusal m) c.in_err-size.field-0.0) c.numbers_of-machine_numbers.ensures c.in_err-size.ensures.refused)))

pub returns-in_err-unit-clause-refused : goal.returns-in_err-unit-clause-refused
returns-in_err-unit-clause-refused c =
    let n = c.args.numbers.now in
    let none : size_refusal (load_size n.threads) ≡ None = subst (λ m. size_refusal m ≡ None) c.numbers_of-machine_numbers.ensures c.in_ok-size.ensures.size.1 in
    passed_on c.from_residual-in_err-unit.result c.from_residual-in_err-unit.ensures.1
    (λ r same. subst (IsRefusal (load_refusal n.threads n.rounds)) (sym same)
    (refused_by (guest_refusal n.threads n.rounds) (load_refusal n.threads n.rounds) c.in_err-unit.field-0.0 (λ name is. rw (none, is) refl) c.in_err-unit.ensures.refused))
