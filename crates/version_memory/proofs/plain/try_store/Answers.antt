use Rattle.std.proofs.Common.{◌≡◌, ℕ, ◌/◌, ◌*◌, ◌<◌, [], ap, ◌∙◌, subst, arith}
use Rattle.version_rule.specs.declared.hands.Hand.{Hand}
use Rattle.version_rule.specs.Kept.{origin_of}
use Rattle.shared_memory.proofs.Sequences.{goes-then_by}
use Rattle.version_memory.specs.inner.Stored.{HasStored}
use Rattle.version_memory.proofs.Contended.{contended-moved, contended-odd}
use Rattle.version_memory.proofs.Ready.{ready-goes}
use Rattle.version_memory.proofs.Whole.{stored}
use Rattle.version_memory.proofs.plain.try_store.Goals as goal

pub claim-requires-clause-rest : goal.claim-requires-clause-rest
claim-requires-clause-rest g c = ap (λ (h : Hand). h.doing) c.look_at_tag-tag.ensures.found.goes.doing_is ∙ c.requires.rest

pub returns-then-tag-limit-clause-spent : goal.returns-then-tag-limit-clause-spent
returns-then-tag-limit-clause-spent g c is =
    let found = c.look_at_tag-tag.ensures.found in
    let limit : c.args.limit ≡ c.args.shared.now.key.size.limit = c.requires.limit in
    (found.goes, found.spent (let above = c.if-tag-limit.true in let most = found.most in omega arith))

pub write_held-requires-clause-claimed : goal.write_held-requires-clause-claimed
write_held-requires-clause-claimed g c = ap (λ (h : Hand). h.doing) c.if-not-claim.ensures.claimed.goes.doing_is

pub returns-then-not-claim-clause-waits : goal.returns-then-not-claim-clause-waits
returns-then-not-claim-clause-waits g c is = goes-then_by (origin_of c.args.shared.now.key) c.args.seat.now.me c.look_at_tag-tag.new.seat.me c.claim.new.seat.me
    [] c.args.seat.now.me.0.doing (λ (t : ℕ). []) (λ (h : Hand). h) c.look_at_tag-tag.ensures.found.goes c.if-not-claim.ensures.not_yet

pub returns-clause-done : goal.returns-clause-done
returns-clause-done g c stamp is =
    let origin = origin_of c.args.shared.now.key in
    let t = c.args.target in
    let tag = c.look_at_tag-tag.result in
    let same : tag / 2 ≡ stamp = cc in
    let limit : c.args.limit ≡ c.args.shared.now.key.size.limit = c.requires.limit in
    let room : tag < 2 * c.args.shared.now.key.size.limit = (let below = c.if-tag-limit.false in let even = c.if-tag-ne0.false in omega arith) in
    subst (λ (n : ℕ). HasStored origin t.place t.value n c.args.seat.now.me c.write_held.new.seat.me) same
    (stored origin t.place c.args.seat.now.me c.look_at_tag-tag.new.seat.me c.claim.new.seat.me c.write_held.new.seat.me t.value tag room
    c.look_at_tag-tag.ensures.found.goes (c.if-not-claim.ensures.claimed) c.write_held.ensures.goes c.write_held.ensures.stamped)

pub returns-clause-ready : goal.returns-clause-ready
returns-clause-ready g c = ready-goes _ _ _ _ _ _ _ _ _ c.claim.ensures.ready c.write_held.ensures.home c.write_held.ensures.goes

pub returns-then-tag-ne0-clause-contended : goal.returns-then-tag-ne0-clause-contended
returns-then-tag-ne0-clause-contended g c is =
    let found = c.look_at_tag-tag.ensures.found in
    contended-odd (origin_of c.args.shared.now.key) c.args.target.place c.args.target.value c.look_at_tag-tag.result c.args.seat.now.me c.look_at_tag-tag.new.seat.me found c.if-tag-ne0.true

pub returns-then-not-claim-clause-contended : goal.returns-then-not-claim-clause-contended
returns-then-not-claim-clause-contended g c is =
    contended-moved (origin_of c.args.shared.now.key) c.args.target.place c.args.target.value c.look_at_tag-tag.result c.args.seat.now.me c.look_at_tag-tag.new.seat.me c.look_at_tag-tag.ensures.found c.claim.new.seat.me c.if-not-claim.ensures.not_yet c.if-not-claim.ensures.moved
