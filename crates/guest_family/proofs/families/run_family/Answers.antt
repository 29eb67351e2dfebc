use Rattle.std.proofs.Common.{◌≡◌, ◌+◌, ◌*◌, ◌<◌, ◌^◌, ◌∷◌, All, ℕ, true, ap, arith, subst, sym, vec_len}
use Rattle.llsc_base.specs.declared.outside.Stop.TheVariants.{TagLimit}
use Rattle.guest_thread.specs.BegunOutcome.{AreBegunEnds}
use Rattle.guest_thread.specs.Counting.{accesses_counted, counts_in}
use Rattle.guest_thread.specs.declared.ends.GuestEnd.{GuestEnd}
use Rattle.guest_family.specs.Kin.{heads_of}
use Rattle.guest_family.proofs.AllNumbers.{all_numbers}
use Rattle.guest_family.proofs.Outcome.{all_hold, are_begun}
use Rattle.guest_family.proofs.Unbegun.{unbegun}
use Rattle.shared_memory.specs.Seen.{IsOneOf}
use Rattle.guest_family.proofs.families.run_family.Goals as goal
use Rattle.a32_step.specs.Machine.{a32}

pub run_starters-pass-requires-clause-kin : goal.run_starters-pass-requires-clause-kin
run_starters-pass-requires-clause-kin g c κs outlives =
    let origin = g.M.SharedMemory.origin c.args.mem.now in
    let is = c.requires.kin in
    let many = is.many in
    let all = is.first.all in
    let ends = is.ends_room in
    let children = is.children_room in
    let times : (vec_len c.args.kin.others + 1) * origin.spare ≡ origin.first * origin.spare = ap (λ (n : ℕ). n * origin.spare) many in
    record {
      first = is.first;
      others = is.others;
      ends_empty = is.ends_empty;
      children_empty = is.children_empty;
      ends_room = omega (arith, many, all, ends);
      children_room = omega (arith, times, all, children);
    }

pub all_ends-requires : goal.all_ends-requires
all_ends-requires g c =
    let origin = g.M.SharedMemory.origin c.args.mem.now in
    let ran = c.run_starters-pass.ensures in
    let many = c.requires.kin.many in
    let times : (vec_len c.args.kin.others + 1) * origin.spare ≡ origin.first * origin.spare = ap (λ (n : ℕ). n * origin.spare) many in
    let all = c.requires.kin.first.all in
    let room = c.requires.kin.ends_room in
    let heads = ran.ends_len in
    let children = ran.children_len in
    let capacity = ran.ends_capacity in
    record { room = omega (arith, heads, children, capacity, many, times, all, room) }

pub returns-clause-ends : goal.returns-clause-ends
returns-clause-ends g c =
    let origin = g.M.SharedMemory.origin c.args.mem.now in
    let history = g.M.SharedMemory.seen c.run_starters-pass.result.pass in
    let ended = c.run_starters-pass.ensures.ended in
    subst (λ seen. AreBegunEnds a32 c.args.image.now origin.size origin.first origin.spare c.args.budget seen c.all_ends.result.items) (sym c.vouch.ensures.seen)
    (subst (AreBegunEnds a32 c.args.image.now origin.size origin.first origin.spare c.args.budget history) (sym c.all_ends.ensures.items)
    (are_begun c.args.image.now origin c.args.budget history (heads_of (c.args.kin.first ∷ c.args.kin.others.items)) c.run_starters-pass.result.ends.items c.run_starters-pass.result.children.items
    c.requires.kin.threads ended.heads ended.children))

pub returns-clause-spends : goal.returns-clause-spends
returns-clause-spends g c =
    let origin = g.M.SharedMemory.origin c.args.mem.now in
    let ended = c.run_starters-pass.ensures.ended in
    subst (All (λ (end : GuestEnd). (addr : ℕ) → end.stop ≡ TagLimit addr → origin.spends ≡ true)) (sym c.all_ends.ensures.items)
    (all_hold c.args.image.now origin c.args.budget (g.M.SharedMemory.seen c.run_starters-pass.result.pass) (λ (end : GuestEnd). (addr : ℕ) → end.stop ≡ TagLimit addr → origin.spends ≡ true)
    (heads_of (c.args.kin.first ∷ c.args.kin.others.items)) c.run_starters-pass.result.ends.items c.run_starters-pass.result.children.items (λ t start end is. is.spends) ended.heads ended.children)

pub returns-clause-few : goal.returns-clause-few
returns-clause-few g c =
    let origin = g.M.SharedMemory.origin c.args.mem.now in
    let ended = c.run_starters-pass.ensures.ended in
    subst (All (λ (end : GuestEnd). accesses_counted (counts_in end) < 2 ^ 45)) (sym c.all_ends.ensures.items)
    (all_hold c.args.image.now origin c.args.budget (g.M.SharedMemory.seen c.run_starters-pass.result.pass) (λ (end : GuestEnd). accesses_counted (counts_in end) < 2 ^ 45)
    (heads_of (c.args.kin.first ∷ c.args.kin.others.items)) c.run_starters-pass.result.ends.items c.run_starters-pass.result.children.items (λ t start end is. is.few) ended.heads ended.children)

pub returns-clause-many : goal.returns-clause-many
returns-clause-many g c =
    let origin = g.M.SharedMemory.origin c.args.mem.now in
    let heads = c.run_starters-pass.ensures.ends_len in
    let children = c.run_starters-pass.ensures.children_len in
    let many = c.requires.kin.many in
    let times : (vec_len c.args.kin.others + 1) * origin.spare ≡ origin.first * origin.spare = ap (λ (n : ℕ). n * origin.spare) many in
    let all = c.requires.kin.first.all in
    let len = c.all_ends.ensures.len in
    omega (arith, heads, children, many, times, all, len)

pub returns-clause-numbers : goal.returns-clause-numbers
returns-clause-numbers g c u below =
    let origin = g.M.SharedMemory.origin c.args.mem.now in
    let ended = c.run_starters-pass.ensures.ended in
    subst (IsOneOf u) (sym c.vouch.ensures.numbers)
    (all_numbers (g.M.SharedMemory.numbers c.run_starters-pass.result.pass) origin.first origin.spare origin.size.threads u (heads_of (c.args.kin.first ∷ c.args.kin.others.items)) c.requires.kin.threads
    ended.own ended.taken c.requires.kin.first.all below)

pub returns-clause-others : goal.returns-clause-others
returns-clause-others g c t not_begun =
    let origin = g.M.SharedMemory.origin c.args.mem.now in
    unbegun origin.first origin.spare t (g.M.SharedMemory.seen c.vouch.new.pass) c.vouch.ensures.legal.born not_begun
