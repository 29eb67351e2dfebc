use Rattle.std.proofs.Common.{◌∷◌, [], false, refl, sym, subst}
use Rattle.history.specs.declared.entry.Entry.TheVariants.{Read}
use Rattle.version_memory.specs.Memory.{memory_id, memory_origin, pass_seen}
use Rattle.llsc_base.specs.declared.outside.Ask.TheVariants.{Load}
use Rattle.guest_thread.specs.inner.Sharing.{IsServedSharing}
use Rattle.run_merge.specs.inner.Logging.{IsLogged, LoggingState}
use Rattle.run_merge.specs.Logs.{access_of}
use Rattle.run_merge.proofs.Grown.{grown_by_stamped, logged_on, made}
use Rattle.guest_thread.proofs.Served.{load_served, one_read, part}
use Rattle.run_merge.proofs.logging.Logging.load.Goals as goal

pub returns-clause-served : goal.returns-clause-served
returns-clause-served g c =
    let s = c.self.inside in
    let value = c.load_stamped-value.result.0 in
    subst (λ (st : LoggingState). IsServedSharing st.sharing (Load c.args.place) value (part (memory_id s.mem.now) (memory_origin s.mem.now) s.thread (pass_seen c.load_stamped-value.new.pass) (one_read s.counts))) c.self.view_is
    (load_served (memory_id s.mem.now) (memory_origin s.mem.now) s.thread (pass_seen s.pass) (pass_seen c.load_stamped-value.new.pass) s.counts c.args.place value
    (c.load_stamped-value.ensures.seen s.thread c.self.invariant.1))

pub returns-clause-log : goal.returns-clause-log
returns-clause-log g c = λ is.
    let s = c.self.inside in
    let value = c.load_stamped-value.result.0 in
    let stamp = c.load_stamped-value.result.1 in
    let e = Read s.thread c.args.place value false in
    let sees = c.load_stamped-value.ensures.seen s.thread c.self.invariant.1 in
    logged_on (memory_origin s.mem.now).size s.thread (pass_seen s.pass) (pass_seen c.load_stamped-value.new.pass) (made (access_of e) stamp) c.stamped.result s.log.entries.items c.add.new.self.entries.items
    s.log.count c.add.new.self.count c.stamped.ensures
    (grown_by_stamped (memory_origin s.mem.now).size s.thread (pass_seen s.pass) (pass_seen c.load_stamped-value.new.pass) sees.added sees.longer (e ∷ []) e sees.mine refl c.args.place stamp
    (λ past. refl) (c.load_stamped-value.ensures.stamp s.thread c.self.invariant.1))
    c.add.ensures.more (subst IsLogged (sym c.self.view_is) is)
