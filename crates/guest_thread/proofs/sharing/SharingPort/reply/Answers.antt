use Rattle.std.proofs.Common.{subst, sym}
use Rattle.guest_thread.specs.inner.Sharing.{IsServedSharing, RefusesAt}
use Rattle.guest_thread.proofs.Served.{clear_served, fail_served, load_either_served, load_served, one_fail, one_read, one_write, part, store_ex_served, store_served}
use Rattle.guest_core.specs.Ports.{IsRefused}
use Rattle.guest_thread.proofs.Shared.{is_spent}
use Rattle.guest_thread.proofs.sharing.SharingPort.reply.Goals as goal

pub returns-in-Load-clause-replied : goal.returns-in-Load-clause-replied
returns-in-Load-clause-replied g c =
    let s = c.self.inside in
    let memory = g.M.SharedMemory.id s.mem.now in
    let origin = g.M.SharedMemory.origin s.mem.now in
    let old = g.M.SharedMemory.seen s.pass in
    let new = g.M.SharedMemory.seen c.load-value.new.pass in
    subst (λ st. IsServedSharing st c.args.ask c.load-value.result (part memory origin s.thread new (one_read s.counts))) c.self.view_is
    (subst (λ a. IsServedSharing (part memory origin s.thread old s.counts) a c.load-value.result (part memory origin s.thread new (one_read s.counts))) (sym c.in-Load.is)
    (load_served memory origin s.thread old new s.counts c.in-Load.place c.load-value.result (c.load-value.ensures.seen s.thread c.self.invariant.1)))

pub returns-in-LoadEx-clause-replied : goal.returns-in-LoadEx-clause-replied
returns-in-LoadEx-clause-replied g c =
    let s = c.self.inside in
    let memory = g.M.SharedMemory.id s.mem.now in
    let origin = g.M.SharedMemory.origin s.mem.now in
    let old = g.M.SharedMemory.seen s.pass in
    let new = g.M.SharedMemory.seen c.load_ex-value.new.pass in
    subst (λ st. IsServedSharing st c.args.ask c.load_ex-value.result (part memory origin s.thread new (one_read s.counts))) c.self.view_is
    (subst (λ a. IsServedSharing (part memory origin s.thread old s.counts) a c.load_ex-value.result (part memory origin s.thread new (one_read s.counts))) (sym c.in-LoadEx.is)
    (load_either_served memory origin s.thread old new s.counts c.in-LoadEx.place c.load_ex-value.result (c.load_ex-value.ensures.seen s.thread c.self.invariant.1)))

pub returns-in-Ok-clause-replied : goal.returns-in-Ok-clause-replied
returns-in-Ok-clause-replied g c =
    let s = c.self.inside in
    let memory = g.M.SharedMemory.id s.mem.now in
    let origin = g.M.SharedMemory.origin s.mem.now in
    let old = g.M.SharedMemory.seen s.pass in
    let new = g.M.SharedMemory.seen c.store.new.pass in
    subst (λ st. IsServedSharing st c.args.ask 0 (part memory origin s.thread new (one_write s.counts))) c.self.view_is
    (subst (λ a. IsServedSharing (part memory origin s.thread old s.counts) a 0 (part memory origin s.thread new (one_write s.counts))) (sym c.in-Store.is)
    (store_served memory origin s.thread old new s.counts c.in-Store.place c.in-Store.value (c.in-Ok.ensures.done s.thread c.self.invariant.1)))

pub returns-in_default-clause-refused : goal.returns-in_default-clause-refused
returns-in_default-clause-refused g c =
    let s = c.self.inside in
    let memory = g.M.SharedMemory.id s.mem.now in
    let origin = g.M.SharedMemory.origin s.mem.now in
    let old = g.M.SharedMemory.seen s.pass in
    let new = g.M.SharedMemory.seen c.store.new.pass in
    let used = c.in_default.ensures.spent in
    subst (IsRefused (RefusesAt (part memory origin s.thread new s.counts))) (sym c.in-Store.is)
    (used.spends, is_spent origin c.in-Store.place c.in_default.field-0.class c.in_default.field-0.writes new used)

pub returns-then-store_ex-clause-replied : goal.returns-then-store_ex-clause-replied
returns-then-store_ex-clause-replied g c =
    let s = c.self.inside in
    let memory = g.M.SharedMemory.id s.mem.now in
    let origin = g.M.SharedMemory.origin s.mem.now in
    let old = g.M.SharedMemory.seen s.pass in
    let new = g.M.SharedMemory.seen c.store_ex.new.pass in
    subst (λ st. IsServedSharing st c.args.ask 0 (part memory origin s.thread new (one_write s.counts))) c.self.view_is
    (subst (λ a. IsServedSharing (part memory origin s.thread old s.counts) a 0 (part memory origin s.thread new (one_write s.counts))) (sym c.in-StoreEx.is)
    (store_ex_served memory origin s.thread old new s.counts c.in-StoreEx.place c.in-StoreEx.value (c.if-store_ex.ensures.done s.thread c.self.invariant.1)))

pub returns-else-store_ex-clause-replied : goal.returns-else-store_ex-clause-replied
returns-else-store_ex-clause-replied g c =
    let s = c.self.inside in
    let memory = g.M.SharedMemory.id s.mem.now in
    let origin = g.M.SharedMemory.origin s.mem.now in
    let old = g.M.SharedMemory.seen s.pass in
    let new = g.M.SharedMemory.seen c.store_ex.new.pass in
    let sees = c.if-store_ex.ensures.failed s.thread c.self.invariant.1 in
    subst (λ st. IsServedSharing st c.args.ask 1 (part memory origin s.thread new (one_fail s.counts))) c.self.view_is
    (subst (λ a. IsServedSharing (part memory origin s.thread old s.counts) a 1 (part memory origin s.thread new (one_fail s.counts))) (sym c.in-StoreEx.is)
    (fail_served memory origin s.thread old new s.counts c.in-StoreEx.place c.in-StoreEx.value sees.0 sees.1))

pub returns-in-Clear-clause-replied : goal.returns-in-Clear-clause-replied
returns-in-Clear-clause-replied g c =
    let s = c.self.inside in
    let memory = g.M.SharedMemory.id s.mem.now in
    let origin = g.M.SharedMemory.origin s.mem.now in
    let old = g.M.SharedMemory.seen s.pass in
    let new = g.M.SharedMemory.seen c.clear_ex.new.pass in
    subst (λ st. IsServedSharing st c.args.ask 0 (part memory origin s.thread new (s.counts))) c.self.view_is
    (subst (λ a. IsServedSharing (part memory origin s.thread old s.counts) a 0 (part memory origin s.thread new (s.counts))) (sym c.in-Clear.is)
    (clear_served memory origin s.thread old new s.counts (c.clear_ex.ensures.seen s.thread c.self.invariant.1)))
