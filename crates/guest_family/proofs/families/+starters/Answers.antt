use Rattle.std.proofs.Common.{◌≡◌, ◌∷◌, ◌+◌, ◌*◌, ◌<◌, ℕ, List, [], ap, arith, rules, subst, sym, ◌∙◌, vec_len}
use Rattle.std.proofs.lemmas.List.{map-append}
use denote.Param.{param}
use mir.Syntax.{of_param}
use denote.Param.Send.{IsSend, IsSync, Quiet-if}
use Rattle.guest_family.specs.inner.EndedStarters.{HaveEndedWithAll}
use Rattle.guest_family.specs.Kin.{heads_of}
use Rattle.guest_family.proofs.Gathering.{gathered_first, gathered_more}
use Rattle.guest_family.proofs.GoingOn.{front_on}
use Rattle.guest_family.proofs.Pushed.{runs_without_last, starters_split}
use Rattle.guest_family.proofs.families.+starters.Goals as goal

pub run_starters-returns-in_default-clause-ended : goal.run_starters-returns-in_default-clause-ended
run_starters-returns-in_default-clause-ended g t c =
    let home = g.M.SharedMemory.home in
    let numbers = g.M.SharedMemory.numbers in
    let seen = g.M.SharedMemory.seen in
    let mem = g.M.SharedMemory.id c.args.mem.now in
    let origin = g.M.SharedMemory.origin c.args.mem.now in
    let thread = c.args.kin.first.job.thread in
    let none : c.args.kin.others.items ≡ [] = search rules in
    subst (λ (us : List ℕ). HaveEndedWithAll home numbers seen mem origin c.args.image.now c.args.budget (thread ∷ us) c.begin.result) (sym (ap heads_of none))
    (gathered_first home numbers seen mem origin c.args.image.now c.args.budget thread c.run_starter.result c.begin.result c.run_starter.ensures.ended c.begin.ensures.pass c.begin.ensures.ends
    c.begin.ensures.children)

pub run_starters-returns-clause-ended : goal.run_starters-returns-clause-ended
run_starters-returns-clause-ended g t c =
    let home = g.M.SharedMemory.home in
    let numbers = g.M.SharedMemory.numbers in
    let seen = g.M.SharedMemory.seen in
    let mem = g.M.SharedMemory.id c.args.mem.now in
    let origin = g.M.SharedMemory.origin c.args.mem.now in
    let rest = c.args.kin.first ∷ c.pop.new.self.items in
    let threads : heads_of (c.args.kin.first ∷ c.args.kin.others.items) ≡ _ =
    ap (λ hs. heads_of (c.args.kin.first ∷ hs)) c.in-Some.ensures.items ∙ map-append (λ h. h.job.thread) rest (c.in-Some.last ∷ []) in
    subst (λ (us : List ℕ). HaveEndedWithAll home numbers seen mem origin c.args.image.now c.args.budget us c.take_in.result) (sym threads)
    (gathered_more home numbers seen mem origin c.args.image.now c.args.budget c.in-Some.last.job.thread (heads_of rest) c.run_both-gathered.result.0 c.take_in.result c.run_both-gathered.result.1
    c.run_both-gathered.ensures.gathered c.run_both-gathered.ensures.ended c.take_in.ensures.memory c.take_in.ensures.numbers c.take_in.ensures.fronts c.take_in.ensures.mine c.take_in.ensures.yours
    c.take_in.ensures.ends c.take_in.ensures.children)

pub run_starters-returns-clause-front : goal.run_starters-returns-clause-front
run_starters-returns-clause-front g t c =
    let seen = g.M.SharedMemory.seen in
    front_on (seen c.args.kin.first.job.pass) (seen c.run_both-gathered.result.0.pass) (seen c.take_in.result.pass) c.run_both-gathered.ensures.front c.take_in.ensures.fronts.0

pub run_starters-run_both-gathered-requires-clause-kin : goal.run_starters-run_both-gathered-requires-clause-kin
run_starters-run_both-gathered-requires-clause-kin g t c κs outlives =
    runs_without_last g.M.SharedMemory.home g.M.SharedMemory.numbers g.M.SharedMemory.seen (g.M.SharedMemory.id c.args.mem.now) (g.M.SharedMemory.origin c.args.mem.now) c.args.image.now
    c.args.kin c.pop.new.self c.in-Some.last c.requires.kin c.in-Some.ensures.items c.in-Some.ensures.cases

pub run_starters-run_both-gathered-requires-clause-last : goal.run_starters-run_both-gathered-requires-clause-last
run_starters-run_both-gathered-requires-clause-last g t c κs outlives =
    (starters_split g.M.SharedMemory.home g.M.SharedMemory.numbers g.M.SharedMemory.seen (g.M.SharedMemory.id c.args.mem.now) (g.M.SharedMemory.origin c.args.mem.now) c.args.image.now
    c.args.kin.others.items c.pop.new.self.items c.in-Some.last c.in-Some.ensures.items c.requires.kin.others).1

pub run_both-join-requires-after_bounds : goal.run_both-join-requires-after_bounds
run_both-join-requires-after_bounds g t c κs outlives =
    let fewer : 3 * vec_len c.args.kin.others + 1 < t = omega (arith, c.decreases) in
    let pass : IsSend (param 2 g.row.M-Pass) = search rules in
    let story : IsSend (param 3 g.row.M-Story) = search rules in
    let memory : IsSync (param 0 g.row.M) = search rules in
    let host : IsSync (param 1 g.row.R) = search rules in (
      (
        fewer,
        (
          search rules,
          (
            search rules,
            (
              search rules,
              (
                search rules,
                (
                  (host, c.requires.kin, c.requires.whole, c.requires.budget),
                  (pass, story, memory, host),
                ),
              ),
            ),
          ),
        ),
      ),
      (
        (record { shared = host.shared }, c.requires.last, c.requires.whole, c.requires.budget),
        (
          record { owned = pass.owned; leaving = λ k. Quiet-if (k (of_param 2)) _ _ (λ x w. tt) (λ x w. tt) },
          record { owned = story.owned; leaving = λ k. Quiet-if (k (of_param 3)) _ _ (λ x w. tt) (λ x w. tt) },
          record { shared = memory.shared },
          record { shared = host.shared },
        ),
      ),
    )
