use Rattle.std.proofs.Common.{All, ap, arith, rules, subst, sym, ◌+◌, ◌-◌, ◌∙◌, ◌≡◌, suc, []}
use Rattle.std.proofs.lemmas.List.Elements.{All-nil}
use Rattle.shared_memory.specs.Seen.{IsSingle}
use Rattle.slice_pool.specs.Hands.{downto}
use Rattle.slice_pool.specs.Pools.{IsFreshGuest}
use Rattle.slice_pool.specs.Rule.{last_first}
use Rattle.slice_pool.proofs.Made.{all_from, has_one, numbers_more, one_less, single_left}
use Rattle.slice_pool.proofs.Moves.{all_more}
use Rattle.slice_pool.proofs.making.guests_of.Goals as goal

pub loop-t-init : goal.loop-t-init
loop-t-init g c = record {
  memory = search rules;
  seen = search rules;
  left = all_from (g.M.SharedMemory.origin c.args.mem.now).size.threads (g.M.SharedMemory.numbers c.args.first) c.requires.numbers;
  fresh = subst (All (IsFreshGuest g.M.SharedMemory.home g.M.SharedMemory.numbers g.M.SharedMemory.seen (g.M.SharedMemory.id c.args.mem.now) (g.M.SharedMemory.origin c.args.mem.now) c.args.image.now))
      (sym c.in_ok-guests.ensures.items)
      (All-nil (IsFreshGuest g.M.SharedMemory.home g.M.SharedMemory.numbers g.M.SharedMemory.seen (g.M.SharedMemory.id c.args.mem.now) (g.M.SharedMemory.origin c.args.mem.now) c.args.image.now));
  numbers = ap (λ l. last_first l []) c.in_ok-guests.ensures.items;
}

pub split-pass-requires-clause-several : goal.split-pass-requires-clause-several
split-pass-requires-clause-several g c =
    let count = (g.M.SharedMemory.origin c.args.mem.now).size.threads in
    let number : c.threads-last.result ≡ count = c.threads-last.ensures.number ∙ ap (λ s. s.threads) c.size-size.ensures in
    let test = c.loop-t-test.true in (
      c.loop-t.t + 1,
      (λ same. omega (arith, same)),
      has_one c.loop-t.t count (g.M.SharedMemory.numbers c.loop-t.first) c.loop-t.invariant.left (c.loop-t.t + 1) (omega arith) (omega (arith, test, number)),
    )

pub split-pass-requires-clause-one : goal.split-pass-requires-clause-one
split-pass-requires-clause-one g c =
    let count = (g.M.SharedMemory.origin c.args.mem.now).size.threads in
    let number : c.threads-last.result ≡ count = c.threads-last.ensures.number ∙ ap (λ s. s.threads) c.size-size.ensures in
    let test = c.loop-t-test.true in
    has_one c.loop-t.t count (g.M.SharedMemory.numbers c.loop-t.first) c.loop-t.invariant.left c.loop-t.t (omega arith) (omega (arith, test, number))

pub loop-t-preserved : goal.loop-t-preserved
loop-t-preserved g c =
    let guest = c.in_ok-guest_of.field-0 in
    let fresh = IsFreshGuest g.M.SharedMemory.home g.M.SharedMemory.numbers g.M.SharedMemory.seen (g.M.SharedMemory.id c.args.mem.now) (g.M.SharedMemory.origin c.args.mem.now) c.args.image.now in
    let next : suc c.loop-t.t ≡ c.loop-t.t + 1 = omega arith in
    record {
      memory = c.split-pass.ensures.memory.0 ∙ c.loop-t.invariant.memory;
      seen = c.split-pass.ensures.seen.0 ∙ c.loop-t.invariant.seen;
      left = one_less c.loop-t.t (g.M.SharedMemory.origin c.args.mem.now).size.threads (g.M.SharedMemory.numbers c.loop-t.first) c.loop-t.invariant.left
          (g.M.SharedMemory.numbers c.split-pass.new.pass) c.split-pass.ensures.rest;
      fresh = subst (All fresh) (sym c.in_ok-push.ensures.items) (all_more fresh c.loop-t.guests.items guest c.loop-t.invariant.fresh c.in_ok-guest_of.ensures.fresh);
      numbers = numbers_more c.loop-t.guests.items c.push.new.self.items guest c.loop-t.t c.in_ok-push.ensures.items c.in_ok-guest_of.ensures.thread c.loop-t.invariant.numbers ∙ ap downto next;
    }

pub guest_of-requires-2-clause-single : goal.guest_of-requires-2-clause-single
guest_of-requires-2-clause-single g c κs within =
    let count = (g.M.SharedMemory.origin c.args.mem.now).size.threads in
    let number : c.threads-last.result ≡ count = c.threads-last.ensures.number ∙ ap (λ s. s.threads) c.size-size.ensures in
    let least = c.threads-last.ensures.least in
    let test = c.loop-t-test.false in
    let upper = c.loop-t.auto.t-end in
    let here : c.loop-t.t ≡ c.threads-last.result - 1 = omega (arith, test, upper) in
    subst (λ t. IsSingle t (g.M.SharedMemory.numbers c.loop-t.first)) here
    (single_left c.loop-t.t count (g.M.SharedMemory.numbers c.loop-t.first) c.loop-t.invariant.left (omega (arith, here, number, least)))

pub returns-clause-fresh : goal.returns-clause-fresh
returns-clause-fresh g c =
    let fresh = IsFreshGuest g.M.SharedMemory.home g.M.SharedMemory.numbers g.M.SharedMemory.seen (g.M.SharedMemory.id c.args.mem.now) (g.M.SharedMemory.origin c.args.mem.now) c.args.image.now in
    subst (All fresh) (sym c.in_ok-push-2.ensures.items) (all_more fresh c.loop-t.guests.items c.in_ok-guest_of-2.field-0 c.loop-t.invariant.fresh c.in_ok-guest_of-2.ensures.fresh)

pub returns-clause-numbers : goal.returns-clause-numbers
returns-clause-numbers g c =
    let count = (g.M.SharedMemory.origin c.args.mem.now).size.threads in
    let number : c.threads-last.result ≡ count = c.threads-last.ensures.number ∙ ap (λ s. s.threads) c.size-size.ensures in
    let least = c.threads-last.ensures.least in
    let test = c.loop-t-test.false in
    let upper = c.loop-t.auto.t-end in
    let thread = c.in_ok-guest_of-2.ensures.thread in
    let here : c.in_ok-guest_of-2.field-0.thread ≡ c.loop-t.t = omega (arith, test, upper, thread) in
    let all : suc c.loop-t.t ≡ count = omega (arith, test, upper, number, least) in
    numbers_more c.loop-t.guests.items c.push-2.new.self.items c.in_ok-guest_of-2.field-0 c.loop-t.t c.in_ok-push-2.ensures.items here c.loop-t.invariant.numbers ∙ ap downto all
