use Rattle.std.proofs.Common.{ℕ, true, refl, sym, subst}
use Rattle.history.specs.Operation.{entries_of_operation, fail, store}
use Rattle.history.specs.declared.entry.Entry.TheVariants as entry
use Rattle.version_memory.specs.Memory.{memory_id, memory_origin, pass_seen}
use Rattle.llsc_base.specs.declared.outside.Ask.TheVariants as ask
use Rattle.guest_thread.specs.inner.Sharing.{IsServedSharing}
use Rattle.run_merge.specs.inner.Logging.{IsLogged, LoggingState}
use Rattle.run_merge.specs.Logs.{access_of}
use Rattle.run_merge.proofs.Grown.{grown_by_plain, grown_by_stamped, logged_on, made}
use Rattle.guest_thread.proofs.Served.{fail_served, one_fail, one_write, part, store_ex_served}
use Rattle.run_merge.proofs.logging.Logging.store_ex.Goals as goal

pub returns-in_default-clause-legal : goal.returns-in_default-clause-legal
returns-in_default-clause-legal g c = (c.in_default.ensures.failed refl c.self.inside.thread c.self.invariant.1).1.legal

pub returns-clause-legal : goal.returns-clause-legal
returns-clause-legal g c = (c.in-Some.ensures.done c.self.inside.thread c.self.invariant.1).legal

pub returns-in_default-clause-served : goal.returns-in_default-clause-served
returns-in_default-clause-served g c =
    let s = c.self.inside in
    let new = pass_seen c.store_ex_stamped.new.pass in
    subst (λ (st : LoggingState). IsServedSharing st.sharing (ask.StoreEx c.args.place c.args.value) 1 (part (memory_id s.mem.now) (memory_origin s.mem.now) s.thread new (one_fail s.counts))) c.self.view_is
    (fail_served (memory_id s.mem.now) (memory_origin s.mem.now) s.thread (pass_seen s.pass) new s.counts c.args.place c.args.value (c.in_default.ensures.failed refl s.thread c.self.invariant.1).0 (c.in_default.ensures.failed refl s.thread c.self.invariant.1).1)

pub returns-in_default-clause-log : goal.returns-in_default-clause-log
returns-in_default-clause-log g c = λ is.
    let s = c.self.inside in
    let new = pass_seen c.store_ex_stamped.new.pass in
    let stamp : ℕ = 0 in
    let e = entry.Fail s.thread c.args.place c.args.value (c.in_default.ensures.failed refl s.thread c.self.invariant.1).0 in
    let sees = (c.in_default.ensures.failed refl s.thread c.self.invariant.1).1 in
    logged_on (memory_origin s.mem.now).size s.thread (pass_seen s.pass) new (made (access_of e) stamp) c.stamped.result s.log.entries.items c.add.new.self.entries.items
    s.log.count c.add.new.self.count c.stamped.ensures
    (grown_by_plain (memory_origin s.mem.now).size s.thread (pass_seen s.pass) new sees.added sees.longer (entries_of_operation s.thread (fail c.args.place c.args.value (c.in_default.ensures.failed refl s.thread c.self.invariant.1).0)) e sees.mine refl (λ past. refl))
    c.add.ensures.more (subst IsLogged (sym c.self.view_is) is)

pub returns-clause-served : goal.returns-clause-served
returns-clause-served g c =
    let s = c.self.inside in
    let new = pass_seen c.store_ex_stamped.new.pass in
    subst (λ (st : LoggingState). IsServedSharing st.sharing (ask.StoreEx c.args.place c.args.value) 0 (part (memory_id s.mem.now) (memory_origin s.mem.now) s.thread new (one_write s.counts))) c.self.view_is
    (store_ex_served (memory_id s.mem.now) (memory_origin s.mem.now) s.thread (pass_seen s.pass) new s.counts c.args.place c.args.value (c.in-Some.ensures.done s.thread c.self.invariant.1))

pub returns-clause-log : goal.returns-clause-log
returns-clause-log g c = λ is.
    let s = c.self.inside in
    let new = pass_seen c.store_ex_stamped.new.pass in
    let stamp : ℕ = c.in-Some.stamp in
    let e = entry.Write s.thread c.args.place c.args.value true in
    let sees = c.in-Some.ensures.done s.thread c.self.invariant.1 in
    logged_on (memory_origin s.mem.now).size s.thread (pass_seen s.pass) new (made (access_of e) stamp) c.stamped-2.result s.log.entries.items c.add-2.new.self.entries.items
    s.log.count c.add-2.new.self.count c.stamped-2.ensures
    (grown_by_stamped (memory_origin s.mem.now).size s.thread (pass_seen s.pass) new sees.added sees.longer (entries_of_operation s.thread (store c.args.place c.args.value true)) e sees.mine refl c.args.place stamp (λ past. refl) (c.in-Some.ensures.stamp s.thread c.self.invariant.1))
    c.add-2.ensures.more (subst IsLogged (sym c.self.view_is) is)
