-- Each word is the one that the block asks for next.
use Rattle.std.proofs.Common.{rules, ◌≡◌, ◌+◌, [], ◌∷◌, ◌++◌, List, ℕ, length, refl, sym, ap, subst, ◌∙◌, arith}
use Rattle.std.proofs.lemmas.List.{length-append}
use Rattle.a32_instr.specs.State.{State}
use Rattle.llsc_base.specs.Effects.{asks}
use Rattle.a32_instr.specs.Block.{block_at, count_of}
use Rattle.llsc_base.specs.declared.outside.Ask.{Ask}
use Rattle.a32_compute.specs.Lists.{AreLeft}
use Rattle.a32_compute.proofs.Lists.{left_end, left_listed, left_unlisted}
use Rattle.a32_step.specs.inner.Acting.{IsGiven, begins, none_made, one_more}
use Rattle.a32_step.specs.inner.ExecutionState.{ExecutionState, Awaiting}
use Rattle.guest_core.specs.Ports.{IsAskIn}
use Rattle.a32_step.proofs.BlockPassages.{asked, may, next_at}
use Rattle.a32_step.proofs.execution.Execution.access_each.Goals as goal

pub returns-then-count-had-clause-given : goal.returns-then-count-had-clause-given
returns-then-count-had-clause-given g c = λ back. subst (λ rs. IsGiven g.S.Source.replies (λ all. block_at c.args.image.now c.args.load c.args.lowest c.args.list back all c.args.self.now.state) c.args.self.now.replies c.args.source.now rs c.args.source.now) (search rules) begins

pub loop-r-init : goal.loop-r-init
loop-r-init g c = record {
  left = subst (AreLeft c.args.list c.first_left-r.result) (search rules) c.first_left-r.ensures;
  at = search rules;
  given = λ back. begins;
  state = refl;
  mem = refl;
  counted = search rules;
}

pub loop-r-preserved-then-not-is_listed : goal.loop-r-preserved-then-not-is_listed
loop-r-preserved-then-not-is_listed g c =
    let inv = c.loop-r.invariant in
    record {
      left = left_unlisted c.args.list c.loop-r.r (length c.loop-r.self.replies) (search rules) (search rules) inv.left;
      at = inv.at;
      given = inv.given;
      state = inv.state;
      mem = inv.mem;
      counted = inv.counted;
    }

pub reply-requires-clause-may : goal.reply-requires-clause-may
reply-requires-clause-may g c =
    let inv = c.loop-r.invariant in
    let had : List ℕ = c.loop-r.self.replies in
    subst (λ m. IsAskIn m c.word_ask-ask.result) (sym (inv.mem ∙ c.requires.mem))
    (may c.args.image.now c.args.load c.args.lowest c.args.list c.args.self.now.state had (search rules) (search rules) (search rules) inv.left inv.at c.requires.passes (search rules))

pub returns-in_default-clause-given : goal.returns-in_default-clause-given
returns-in_default-clause-given g c = λ back.
    let inv = c.loop-r.invariant in
    let had : List ℕ = c.loop-r.self.replies in
    subst (λ rs. IsGiven g.S.Source.replies (λ all. block_at c.args.image.now c.args.load c.args.lowest c.args.list back all c.args.self.now.state) c.args.self.now.replies c.args.source.now rs c.reply.new.self)
    (sym (ap (λ (s : ExecutionState). s.replies) c.wait.ensures))
    (none_made had c.loop-r.source c.reply.new.self c.word_ask-ask.result (inv.given back)
    (asked c.args.image.now c.args.load c.args.lowest c.args.list c.args.self.now.state had (search rules) (search rules) (search rules) inv.left inv.at c.requires.passes back)
    (subst (λ r. g.S.Source.replies c.loop-r.source c.word_ask-ask.result r c.reply.new.self) c.in_default.is c.reply.ensures.replied))

pub returns-in_default-clause-held : goal.returns-in_default-clause-held
returns-in_default-clause-held g c = λ no.
    let inv = c.loop-r.invariant in
    let had : List ℕ = c.loop-r.self.replies in
    subst (λ rs. (ask : Ask) × ((back : State) → block_at c.args.image.now c.args.load c.args.lowest c.args.list back rs c.args.self.now.state ≡ asks ask)
    × (c.wait.new.self ≡ record c.args.self.now { stage = Awaiting ask; replies = rs }))
    (sym (ap (λ (s : ExecutionState). s.replies) c.wait.ensures)) (
      c.word_ask-ask.result,
      asked c.args.image.now c.args.load c.args.lowest c.args.list c.args.self.now.state had (search rules) (search rules) (search rules) inv.left inv.at c.requires.passes,
      c.wait.ensures ∙ ap (λ (s : ExecutionState). record s { stage = Awaiting c.word_ask-ask.result }) inv.state,
    )

pub loop-r-preserved : goal.loop-r-preserved
loop-r-preserved g c =
    let inv = c.loop-r.invariant in
    let had : List ℕ = c.loop-r.self.replies in
    let pushed : c.push.new.self ≡ had ++ c.in-Some.reply ∷ [] = c.push.ensures ∙ ap (λ (s : ExecutionState). s.replies ++ c.in-Some.reply ∷ []) c.self-in-loop-r.view_is in
    let longer : length c.push.new.self ≡ length had + 1 = ap (λ rs. length rs) pushed ∙ length-append had (c.in-Some.reply ∷ []) in
    record {
      left = subst (λ n. AreLeft c.args.list (c.loop-r.r + 1) n) (sym longer) (left_listed c.args.list c.loop-r.r (length had) (search rules) (search rules) inv.left);
      at = next_at c.args.lowest (length had) (length c.push.new.self) c.loop-r.addr inv.at longer;
      given = λ back. subst (λ rs. IsGiven g.S.Source.replies (λ all. block_at c.args.image.now c.args.load c.args.lowest c.args.list back all c.args.self.now.state) c.args.self.now.replies c.args.source.now rs c.reply.new.self) (sym pushed)
          (one_more had c.loop-r.source c.reply.new.self c.word_ask-ask.result c.in-Some.reply (inv.given back)
          (asked c.args.image.now c.args.load c.args.lowest c.args.list c.args.self.now.state had (search rules) (search rules) (search rules) inv.left inv.at c.requires.passes back)
          (subst (λ r. g.S.Source.replies c.loop-r.source c.word_ask-ask.result r c.reply.new.self) c.in-Some.is c.reply.ensures.replied));
      state = ap (λ (s : ExecutionState). record s { replies = c.push.new.self }) (c.self-in-loop-r.view_is ∙ inv.state);
      mem = c.reply.ensures.mem ∙ inv.mem;
      counted = omega (arith, longer, inv.counted, c.reply.ensures.counted);
    }

pub returns-clause-all : goal.returns-clause-all
returns-clause-all g c = λ done.
    let all : length c.loop-r.self.replies ≡ count_of c.args.list = left_end c.args.list c.loop-r.r (length c.loop-r.self.replies) (search rules) c.loop-r.invariant.left in
    (c.loop-r.invariant.state, omega (arith, all))
