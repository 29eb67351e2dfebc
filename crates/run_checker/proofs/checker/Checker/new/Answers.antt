use Rattle.std.proofs.Common.{◌≡◌, ℕ, ◌+◌, None, [], ◌∷◌, ◌++◌, All, length, sym, ap, subst, ◌∙◌, length-append, arith, rules}
use Rattle.std.proofs.lemmas.List.{length-replicate}
use Rattle.std.proofs.lemmas.List.Elements.{All-push}
use Rattle.history.specs.Monitor.{at_rest_by}
use Rattle.guest_thread.specs.ThreadState.{ThreadStateOf, IsReadyIn, thread_in}
use Rattle.guest_thread.specs.Start.{thread_start}
use Rattle.guest_thread.specs.Under.{HasCome}
use Rattle.run_checker.proofs.EachThread.{EachAt, at_push}
use Rattle.run_checker.proofs.checker.Checker.new.Goals as goal

pub loop-t-preserved : goal.loop-t-preserved
loop-t-preserved g c =
    let was = c.loop-t.invariant in
    let guests = c.loop-t.guests.items in
    let guest = c.in_ok-start.field-0 in
    let is : c.push.new.self.items ≡ guests ++ guest ∷ [] = c.in_ok-push.ensures.items in
    let more : length (guests ++ guest ∷ []) ≡ length guests + 1 = length-append guests (guest ∷ []) in
    record {
      count = ap length is ∙ more ∙ ap (λ n. n + 1) was.count;
      ready = λ mem budget.
          let P : ThreadStateOf g.row.C.Denot → Type 0 = λ guest. IsReadyIn mem budget (thread_in g.C.Core.machine guest) in
          subst (All P) (sym is) (All-push P guests guest (was.ready mem budget) (c.in_ok-start.ensures.ready mem budget));
      start = λ budget.
          let P : ℕ → ThreadStateOf g.row.C.Denot → Type 0 = λ t guest. HasCome g.C.Core.set c.args.image.now budget (thread_start g.C.Core.set c.args.image.now c.args.size.now c.args.size.now.threads t) [] (thread_in g.C.Core.machine guest) in
          subst (EachAt P) (sym is)
          (at_push P guests guest (was.start budget)
          (subst (λ t. P t guest) (sym was.count) (c.in_ok-start.ensures.comes budget)));
    }

pub returns-clause-ready : goal.returns-clause-ready
returns-clause-ready g c budget =
    let memory : c.in_ok-memory.memory ≡ at_rest_by c.args.size.now.granule c.bytes.result.now c.args.size.now.threads = c.in_ok-memory.ensures in
    let count = c.loop-t.invariant.count in
    let all : c.threads-threads.result ≡ length c.loop-t.guests.items = omega (arith, count) in
    record {
      small = search rules;
      ready = c.loop-t.invariant.ready (length c.args.image.now.bytes) budget;
      bytes = ap (λ m. length m.memory) memory ∙ ap length c.bytes.ensures.items;
      marks = ap (λ m. length m.marks) memory ∙ length-replicate c.args.size.now.threads None ∙ sym c.threads-threads.ensures.number ∙ all;
    }

pub returns-clause-brought : goal.returns-clause-brought
returns-clause-brought g c budget =
    record {
      guests = c.loop-t.invariant.start budget;
      memory = c.in_ok-memory.ensures ∙ ap (λ b. at_rest_by c.args.size.now.granule b c.args.size.now.threads) c.bytes.ensures.items;
    }
