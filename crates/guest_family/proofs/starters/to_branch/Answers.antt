use Rattle.std.proofs.Common.{◌≤◌, ℕ, List, ◌∷◌, length, vec_len, refl, subst, sym, ◌∙◌, arith}
use Rattle.std.proofs.lemmas.List.Elements.{All-nil}
use Rattle.llsc_base.specs.Images.{Program}
use Rattle.history.specs.Starts.{starts_in}
use Rattle.history.proofs.Starts.{starts_from-length}
use Rattle.shared_memory.specs.Seen.{IsFront, IsOneOf}
use Rattle.guest_thread.specs.Begun.{stock_of}
use Rattle.guest_thread.specs.inner.Crews.{AreTaken}
use Rattle.guest_thread.specs.Start.{thread_start}
use Rattle.guest_family.specs.inner.EndedStarters.{IsLater}
use Rattle.guest_family.specs.Kin.{spares_of}
use Rattle.guest_family.specs.inner.Next.{HasNoneLeft}
use Rattle.guest_family.specs.inner.UnderWay.{HasCalled, HasReachedEnd, IsPartUnderWay}
use Rattle.guest_family.specs.declared.kin.Spare.{Spare}
use Rattle.guest_family.specs.declared.starters.StarterPart.{StarterPart}
use Rattle.guest_family.proofs.GoingOn.{front_on}
use Rattle.guest_family.proofs.JoinUnstarted.{later_none}
use Rattle.guest_family.proofs.StarterParts.{branched, called_few, head_has_none, ended_alone, next_spare}
use Rattle.guest_family.proofs.starters.to_branch.Goals as goal
use Rattle.a32_step.specs.Machine.{a32}

pub run_out-done-requires-clause-none : goal.run_out-done-requires-clause-none
run_out-done-requires-clause-none g c κs outlives u single =
    let home = g.M.SharedMemory.home in
    let numbers = g.M.SharedMemory.numbers in
    let seen = g.M.SharedMemory.seen in
    let mem = g.M.SharedMemory.id c.args.mem.now in
    let origin = g.M.SharedMemory.origin c.args.mem.now in
    let program = c.args.image.now in
    let starter = c.args.starter in
    let t = c.requires.starter.0 in
    let is = c.requires.starter.1 in
    let many = is.many in
    let len = c.in_default.ensures.len in
    let count = starts_from-length t 0 (seen starter.part.pass) in
    let all : origin.spare ≤ length (starts_in t (seen starter.part.pass)) = omega (arith, many, len, count) in
    subst (λ (v : ℕ). HasNoneLeft (stock_of origin.first origin.spare v) (starts_in v (seen starter.part.pass))) (sym (is.goes.single.only u single.has))
    (head_has_none origin.first origin.spare t (starts_in t (seen starter.part.pass)) all)

pub returns-in_default-clause-branches : goal.returns-in_default-clause-branches
returns-in_default-clause-branches g c t is =
    let home = g.M.SharedMemory.home in
    let numbers = g.M.SharedMemory.numbers in
    let seen = g.M.SharedMemory.seen in
    let mem = g.M.SharedMemory.id c.args.mem.now in
    let origin = g.M.SharedMemory.origin c.args.mem.now in
    let program = c.args.image.now in
    let starter = c.args.starter in
    let start = thread_start a32 program origin.size origin.first t in
    let done = subst (λ (p : Program). HasReachedEnd home numbers seen mem origin p c.args.budget t start starter.part.pass c.run_out-done.result) is.code
    (c.run_out-done.ensures.ended t start (subst (λ (p : Program). IsPartUnderWay home numbers seen mem origin p c.args.budget t start starter.part) (sym is.code) is.goes)) in
    let ended = c.with_ends.result in
    let pass = sym c.with_ends.ensures.pass in
    let later = subst (IsLater home numbers seen c.run_out-done.result.pass) pass (later_none home numbers seen c.run_out-done.result.pass) in
    let taken = subst (λ (ss : List (Spare _)). AreTaken (numbers ended.ran.pass) (spares_of ss)) (sym c.in_default.ensures.items) (All-nil (λ u. IsOneOf u (numbers ended.ran.pass))) in (
      ended_alone home numbers seen mem origin program c.args.budget t starter c.run_out-done.result ended is done later taken c.with_ends.ensures.ends c.with_ends.ensures.end,
      subst (λ p. IsFront (seen starter.part.pass) (seen p)) pass done.front,
    )

pub returns-in-Ended-clause-branches : goal.returns-in-Ended-clause-branches
returns-in-Ended-clause-branches g c t is =
    let home = g.M.SharedMemory.home in
    let numbers = g.M.SharedMemory.numbers in
    let seen = g.M.SharedMemory.seen in
    let mem = g.M.SharedMemory.id c.args.mem.now in
    let origin = g.M.SharedMemory.origin c.args.mem.now in
    let program = c.args.image.now in
    let starter = c.args.starter in
    let start = thread_start a32 program origin.size origin.first t in
    let done = subst (λ (p : Program). HasReachedEnd home numbers seen mem origin p c.args.budget t start starter.part.pass c.in-Ended.field-0) is.code
    (c.in-Ended.ensures.next t start (subst (λ (p : Program). IsPartUnderWay home numbers seen mem origin p c.args.budget t start starter.part) (sym is.code) is.goes)) in
    let ended = c.with_ends-in-Ended.result in
    let pass = sym c.with_ends-in-Ended.ensures.pass in
    let later = subst (IsLater home numbers seen c.in-Ended.field-0.pass) pass c.join_unstarted-pass.ensures.later in
    let taken = subst (λ (ss : List (Spare _)). AreTaken (numbers ended.ran.pass) (spares_of ss)) (sym c.in-Some.ensures.items)
    (subst (λ p. AreTaken (numbers p) (spares_of (c.in-Some.spare ∷ c.take_next.new.spares.items))) pass c.join_unstarted-pass.ensures.taken) in (
      ended_alone home numbers seen mem origin program c.args.budget t starter c.in-Ended.field-0 ended is done later taken c.with_ends-in-Ended.ensures.ends c.with_ends-in-Ended.ensures.end,
      front_on (seen starter.part.pass) (seen c.in-Ended.field-0.pass) (seen ended.ran.pass) done.front later.front,
    )

pub started-part-requires-clause-single : goal.started-part-requires-clause-single
started-part-requires-clause-single g c κs outlives =
    let home = g.M.SharedMemory.home in
    let numbers = g.M.SharedMemory.numbers in
    let seen = g.M.SharedMemory.seen in
    let mem = g.M.SharedMemory.id c.args.mem.now in
    let origin = g.M.SharedMemory.origin c.args.mem.now in
    let program = c.args.image.now in
    let starter = c.args.starter in
    let t = c.requires.starter.0 in
    let is = c.requires.starter.1 in
    let start = thread_start a32 program origin.size origin.first t in
    let called = subst (λ (p : Program). HasCalled home numbers seen mem origin p c.args.budget t start starter.part.pass c.in-Calls.part c.in-Calls.entry c.in-Calls.arg) is.code
    (c.in-Calls.ensures.next t start (subst (λ (p : Program). IsPartUnderWay home numbers seen mem origin p c.args.budget t start starter.part) (sym is.code) is.goes)).0 in
    let next = next_spare home numbers seen mem origin program c.args.budget t starter c.in-Some.spare c.take_next.new.spares.items (vec_len c.take_next.new.spares) is c.in-Some.ensures.items c.in-Some.ensures.len in (
      t,
      called.single,
      is.first,
      called_few home numbers seen mem origin program c.args.budget t starter c.in-Some.spare c.take_next.new.spares.items (vec_len c.take_next.new.spares)
          c.in-Calls.part c.in-Calls.entry c.in-Calls.arg next called,
    )

pub returns-clause-branches : goal.returns-clause-branches
returns-clause-branches g c t is =
    let home = g.M.SharedMemory.home in
    let numbers = g.M.SharedMemory.numbers in
    let seen = g.M.SharedMemory.seen in
    let mem = g.M.SharedMemory.id c.args.mem.now in
    let origin = g.M.SharedMemory.origin c.args.mem.now in
    let program = c.args.image.now in
    let starter = c.args.starter in
    let start = thread_start a32 program origin.size origin.first t in
    let called = subst (λ (p : Program). HasCalled home numbers seen mem origin p c.args.budget t start starter.part.pass c.in-Calls.part c.in-Calls.entry c.in-Calls.arg) is.code
    (c.in-Calls.ensures.next t start (subst (λ (p : Program). IsPartUnderWay home numbers seen mem origin p c.args.budget t start starter.part) (sym is.code) is.goes)).0 in
    let next = next_spare home numbers seen mem origin program c.args.budget t starter c.in-Some.spare c.take_next.new.spares.items (vec_len c.take_next.new.spares) is c.in-Some.ensures.items c.in-Some.ensures.len in
    let few = called_few home numbers seen mem origin program c.args.budget t starter c.in-Some.spare c.take_next.new.spares.items (vec_len c.take_next.new.spares)
    c.in-Calls.part c.in-Calls.entry c.in-Calls.arg next called in
    let rest : StarterPart _ = record { part = c.started-part.result; code = c.to_start.new.code; spares = c.take_next.new.spares; ends = starter.ends } in
    branched home numbers seen mem origin program c.args.budget t starter rest c.in-Some.spare c.in-Calls.part c.in-Calls.entry c.in-Calls.arg next called
    (c.started-part.ensures.starts t called.single) is (c.started-part.ensures.goes program c.args.budget t start starter.part.pass is.first few c.in-Calls.ensures.aligned called)
    (c.in-Calls.ensures.program ∙ is.code) refl c.in-Some.ensures.len c.in-Some.ensures.items c.started-part.ensures.front

pub returns-clause-goes : goal.returns-clause-goes
returns-clause-goes g c =
    let home = g.M.SharedMemory.home in
    let numbers = g.M.SharedMemory.numbers in
    let seen = g.M.SharedMemory.seen in
    let mem = g.M.SharedMemory.id c.args.mem.now in
    let origin = g.M.SharedMemory.origin c.args.mem.now in
    let program = c.args.image.now in
    let starter = c.args.starter in
    let t = c.requires.starter.0 in
    let is = c.requires.starter.1 in
    let start = thread_start a32 program origin.size origin.first t in
    let called = subst (λ (p : Program). HasCalled home numbers seen mem origin p c.args.budget t start starter.part.pass c.in-Calls.part c.in-Calls.entry c.in-Calls.arg) is.code
    (c.in-Calls.ensures.next t start (subst (λ (p : Program). IsPartUnderWay home numbers seen mem origin p c.args.budget t start starter.part) (sym is.code) is.goes)).0 in
    let next = next_spare home numbers seen mem origin program c.args.budget t starter c.in-Some.spare c.take_next.new.spares.items (vec_len c.take_next.new.spares) is c.in-Some.ensures.items c.in-Some.ensures.len in
    let few = called_few home numbers seen mem origin program c.args.budget t starter c.in-Some.spare c.take_next.new.spares.items (vec_len c.take_next.new.spares)
    c.in-Calls.part c.in-Calls.entry c.in-Calls.arg next called in
    let rest : StarterPart _ = record { part = c.started-part.result; code = c.to_start.new.code; spares = c.take_next.new.spares; ends = starter.ends } in (
      t,
      (branched home numbers seen mem origin program c.args.budget t starter rest c.in-Some.spare c.in-Calls.part c.in-Calls.entry c.in-Calls.arg next called
          (c.started-part.ensures.starts t called.single) is (c.started-part.ensures.goes program c.args.budget t start starter.part.pass is.first few c.in-Calls.ensures.aligned called)
          (c.in-Calls.ensures.program ∙ is.code) refl c.in-Some.ensures.len c.in-Some.ensures.items c.started-part.ensures.front).goes,
    )
