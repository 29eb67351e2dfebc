use Rattle.std.proofs.Common.{ℕ, true, refl, sym, subst}
use Rattle.history.specs.Operation.{entries_of_operation, load_watched}
use Rattle.history.specs.declared.entry.Entry.TheVariants as entry
use Rattle.version_memory.specs.Memory.{memory_id, memory_origin, pass_seen}
use Rattle.llsc_base.specs.declared.outside.Ask.TheVariants as ask
use Rattle.guest_thread.specs.inner.Sharing.{IsServedSharing}
use Rattle.run_merge.specs.inner.Logging.{IsLogged, LoggingState}
use Rattle.run_merge.specs.Logs.{access_of}
use Rattle.run_merge.proofs.Grown.{grown_by_stamped, logged_on, made}
use Rattle.guest_thread.proofs.Served.{load_ex_served, one_read, part}
use Rattle.run_merge.proofs.logging.Logging.load_ex.Goals as goal

pub returns-clause-served : goal.returns-clause-served
returns-clause-served g c =
    let s = c.self.inside in
    let new = pass_seen c.load_ex_stamped-value.new.pass in
    subst (λ (st : LoggingState). IsServedSharing st.sharing (ask.LoadEx c.args.place) c.load_ex_stamped-value.result.0 (part (memory_id s.mem.now) (memory_origin s.mem.now) s.thread new (one_read s.counts))) c.self.view_is
    (load_ex_served (memory_id s.mem.now) (memory_origin s.mem.now) s.thread (pass_seen s.pass) new s.counts c.args.place c.load_ex_stamped-value.result.0 (c.load_ex_stamped-value.ensures.seen s.thread c.self.invariant.1))

pub returns-clause-log : goal.returns-clause-log
returns-clause-log g c = λ is.
    let s = c.self.inside in
    let new = pass_seen c.load_ex_stamped-value.new.pass in
    let stamp : ℕ = c.load_ex_stamped-value.result.1 in
    let e = entry.Read s.thread c.args.place c.load_ex_stamped-value.result.0 true in
    let sees = c.load_ex_stamped-value.ensures.seen s.thread c.self.invariant.1 in
    logged_on (memory_origin s.mem.now).size s.thread (pass_seen s.pass) new (made (access_of e) stamp) c.stamped.result s.log.entries.items c.add.new.self.entries.items
    s.log.count c.add.new.self.count c.stamped.ensures
    (grown_by_stamped (memory_origin s.mem.now).size s.thread (pass_seen s.pass) new sees.added sees.longer (entries_of_operation s.thread (load_watched c.args.place c.load_ex_stamped-value.result.0)) e sees.mine refl c.args.place stamp (λ past. refl) (c.load_ex_stamped-value.ensures.stamp s.thread c.self.invariant.1))
    c.add.ensures.more (subst IsLogged (sym c.self.view_is) is)
