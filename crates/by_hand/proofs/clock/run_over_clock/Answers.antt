use Rattle.std.proofs.Common.{◌∙◌, [], length, refl, sym, ap, subst, arith}
use Rattle.llsc_base.specs.Flat.{flat_byte}
use Rattle.llsc_base.specs.Images.{Program}
use Rattle.llsc_base.proofs.Values.{length-values_below}
use Rattle.a32_step.specs.Machine.{a32}
use Rattle.guest_thread.specs.Ports.{EndsBy}
use Rattle.guest_thread.specs.Start.{thread_start}
use Rattle.guest_thread.specs.ThreadState.{thread_in}
use Rattle.guest_thread.specs.Under.{HasCome}
use Rattle.by_hand.proofs.clock.run_over_clock.Goals as goal

pub run-requires-clause-mem : goal.run-requires-clause-mem
run-requires-clause-mem c κs =
    c.mem-mem.ensures.number
    ∙ sym (ap (λ (p : Program). length p.bytes) (c.in-Ok-new.ensures ∙ c.in_ok-image.ensures.ok.1) ∙ length-values_below c.args.size.now.mem (flat_byte c.args.file.now))

pub run-requires-clause-small : goal.run-requires-clause-small
run-requires-clause-small c κs =
    let long = ap (λ (p : Program). length p.bytes) (c.in-Ok-new.ensures ∙ c.in_ok-image.ensures.ok.1) ∙ length-values_below c.args.size.now.mem (flat_byte c.args.file.now) in
    omega (arith, long, c.mem-mem.ensures.number, c.mem-mem.ensures.most)

pub returns-clause-ran : goal.returns-clause-ran
returns-clause-ran c =
    let size = c.args.size.now in
    let file_is = c.in_ok-image.ensures.ok in
    let start = λ (p : Program). thread_start a32 p size size.threads 0 in
    let come = subst (λ (p : Program). HasCome a32 p 1000 (start p) [] (thread_in (λ m. m) c.in-Ok.guest)) (sym c.in-Ok-new.ensures) (c.in-Ok.ensures.comes 1000) in
    let ran = c.run.ensures.ends (start c.in-Ok-new.code.program) come in (
      file_is.0,
      record {
        pairs = ran.0;
        first = record { mem = c.mem-mem.result; reads = 0 };
        last = c.run.new.port;
        steps = c.run.new.self.steps;
        output = c.run.new.self.output;
        begins = refl;
        replied = ran.1.0;
        ends = subst (λ (p : Program). EndsBy a32 (λ addr. ⊥) p 1000 (start p) ran.0 c.run.result c.run.new.self.steps c.run.new.self.output)
            (c.in-Ok-new.ensures ∙ file_is.1) ran.1.1;
      },
    )
