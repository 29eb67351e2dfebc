use Rattle.std.proofs.Common.{ℕ, false, refl, sym, subst}
use Rattle.history.specs.Operation.{entries_of_operation, store}
use Rattle.history.specs.declared.entry.Entry.TheVariants as entry
use Rattle.version_memory.specs.Memory.{memory_id, memory_origin, pass_seen}
use Rattle.llsc_base.specs.declared.outside.Ask.TheVariants as ask
use Rattle.guest_thread.specs.inner.Sharing.{IsServedSharing, IsUnserved}
use Rattle.guest_thread.proofs.Shared.{is_spent}
use Rattle.run_merge.specs.inner.Logging.{IsLogged, LoggingState}
use Rattle.run_merge.specs.Logs.{access_of}
use Rattle.run_merge.proofs.Grown.{grown_by_none, grown_by_stamped, logged_on, made}
use Rattle.guest_thread.proofs.Served.{none_served, one_write, part, store_served}
use Rattle.run_merge.proofs.logging.Logging.store.Goals as goal

pub returns-in_default-clause-unserved : goal.returns-in_default-clause-unserved
returns-in_default-clause-unserved g c =
    let s = c.self.inside in
    let new = pass_seen c.store_stamped.new.pass in
    subst (λ (st : LoggingState). IsUnserved st.sharing (part (memory_id s.mem.now) (memory_origin s.mem.now) s.thread new s.counts)) c.self.view_is
    (none_served (memory_id s.mem.now) (memory_origin s.mem.now) s.thread (pass_seen s.pass) new s.counts (c.in_default.ensures.refused s.thread c.self.invariant.1))

pub returns-in_default-clause-legal : goal.returns-in_default-clause-legal
returns-in_default-clause-legal g c = (c.in_default.ensures.refused c.self.inside.thread c.self.invariant.1).legal

pub returns-clause-legal : goal.returns-clause-legal
returns-clause-legal g c = (c.in-Ok.ensures.done c.self.inside.thread c.self.invariant.1).legal

pub returns-in_default-clause-refused : goal.returns-in_default-clause-refused
returns-in_default-clause-refused g c =
    let s = c.self.inside in
    (refl, is_spent (memory_origin s.mem.now) c.args.place c.in_default.field-0.class c.in_default.field-0.writes (pass_seen c.store_stamped.new.pass) c.in_default.ensures.spent)

pub returns-in_default-clause-log : goal.returns-in_default-clause-log
returns-in_default-clause-log g c = λ is.
    let s = c.self.inside in
    let new = pass_seen c.store_stamped.new.pass in
    let sees = c.in_default.ensures.refused s.thread c.self.invariant.1 in
    let size = (memory_origin s.mem.now).size in
    rw (grown_by_none size s.thread (pass_seen s.pass) new sees.added sees.longer sees.mine) (subst IsLogged (sym c.self.view_is) is)

pub returns-clause-served : goal.returns-clause-served
returns-clause-served g c =
    let s = c.self.inside in
    let new = pass_seen c.store_stamped.new.pass in (
      refl,
      subst (λ (st : LoggingState). IsServedSharing st.sharing (ask.Store c.args.place c.args.value) 0 (part (memory_id s.mem.now) (memory_origin s.mem.now) s.thread new (one_write s.counts))) c.self.view_is
          (store_served (memory_id s.mem.now) (memory_origin s.mem.now) s.thread (pass_seen s.pass) new s.counts c.args.place c.args.value (c.in-Ok.ensures.done s.thread c.self.invariant.1)),
    )

pub returns-clause-log : goal.returns-clause-log
returns-clause-log g c = λ is.
    let s = c.self.inside in
    let new = pass_seen c.store_stamped.new.pass in
    let stamp : ℕ = c.in-Ok.stamp in
    let e = entry.Write s.thread c.args.place c.args.value false in
    let sees = c.in-Ok.ensures.done s.thread c.self.invariant.1 in
    logged_on (memory_origin s.mem.now).size s.thread (pass_seen s.pass) new (made (access_of e) stamp) c.stamped.result s.log.entries.items c.add.new.self.entries.items
    s.log.count c.add.new.self.count c.stamped.ensures
    (grown_by_stamped (memory_origin s.mem.now).size s.thread (pass_seen s.pass) new sees.added sees.longer (entries_of_operation s.thread (store c.args.place c.args.value false)) e sees.mine refl c.args.place stamp (λ past. refl) (c.in-Ok.ensures.stamp s.thread c.self.invariant.1))
    c.add.ensures.more (subst IsLogged (sym c.self.view_is) is)
