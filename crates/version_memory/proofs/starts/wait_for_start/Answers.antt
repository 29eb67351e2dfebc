use Rattle.std.proofs.Common.{◌≡◌, ◌<◌, ℕ, true, ap, sym, ◌∙◌, subst}
use Rattle.history.specs.Started.{is_started}
use Rattle.version_rule.specs.Kept.{origin_of}
use Rattle.version_rule.specs.StartWords.{start_word}
use Rattle.version_memory.proofs.Waited.{none-waits}
use Rattle.shared_memory.proofs.Waits.{waits-more, waits-not}
use Rattle.version_memory.proofs.starts.wait_for_start.Goals as goal

pub loop-init : goal.loop-init
loop-init g c =
    let me = c.args.seat.now.me in
    record {
      waits = waits-more (origin_of c.args.shared.now.key) me me c.know_own.new.seat.me (waits-not me) c.know_own.ensures.goes;
      awaiting = c.know_own.ensures.awaiting;
      below = c.know_own.ensures.below;
      home = c.know_own.ensures.home;
    }

pub look_at_start-requires-clause-word : goal.look_at_start-requires-clause-word
look_at_start-requires-clause-word g c = c.requires.word ∙ ap (start_word c.args.shared.now.key) (sym c.loop.invariant.waits.lead)

pub returns-then-look_at_start-clause-goes : goal.returns-then-look_at_start-clause-goes
returns-then-look_at_start-clause-goes g c = none-waits (origin_of c.args.shared.now.key) c.args.seat.now.me c.loop.seat.me c.look_at_start.new.seat.me c.loop.invariant.waits c.look_at_start.ensures.goes

pub returns-then-look_at_start-clause-started : goal.returns-then-look_at_start-clause-started
returns-then-look_at_start-clause-started g c = subst (λ (t : ℕ). is_started t c.look_at_start.new.seat.me.0.seen ≡ true) c.loop.invariant.waits.lead c.if-look_at_start.ensures.started

pub loop-preserved : goal.loop-preserved
loop-preserved g c = record {
  waits = waits-more (origin_of c.args.shared.now.key) c.args.seat.now.me c.loop.seat.me c.look_at_start.new.seat.me c.loop.invariant.waits c.look_at_start.ensures.goes;
  awaiting = c.look_at_start.ensures.awaiting;
  below = subst (λ (t : ℕ). t < c.args.shared.now.key.size.threads) (sym c.look_at_start.ensures.goes.lead) c.loop.invariant.below;
  home = c.look_at_start.ensures.home ∙ c.loop.invariant.home;
}
