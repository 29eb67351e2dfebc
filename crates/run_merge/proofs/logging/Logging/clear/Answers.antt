use Rattle.std.proofs.Common.{ℕ, refl, sym, subst}
use Rattle.history.specs.Operation.{clear, entries_of_operation}
use Rattle.history.specs.declared.entry.Entry.TheVariants as entry
use Rattle.version_memory.specs.Memory.{memory_id, memory_origin, pass_seen}
use Rattle.llsc_base.specs.declared.outside.Ask.TheVariants as ask
use Rattle.guest_thread.specs.inner.Sharing.{IsServedSharing}
use Rattle.run_merge.specs.inner.Logging.{IsLogged, LoggingState}
use Rattle.run_merge.specs.Logs.{access_of}
use Rattle.run_merge.proofs.Grown.{grown_by_plain, logged_on, made}
use Rattle.guest_thread.proofs.Served.{clear_served, part}
use Rattle.run_merge.proofs.logging.Logging.clear.Goals as goal

pub returns-clause-served : goal.returns-clause-served
returns-clause-served g c =
    let s = c.self.inside in
    let new = pass_seen c.clear_ex.new.pass in
    subst (λ (st : LoggingState). IsServedSharing st.sharing ask.Clear 0 (part (memory_id s.mem.now) (memory_origin s.mem.now) s.thread new s.counts)) c.self.view_is
    (clear_served (memory_id s.mem.now) (memory_origin s.mem.now) s.thread (pass_seen s.pass) new s.counts (c.clear_ex.ensures.seen s.thread c.self.invariant.1))

pub returns-clause-log : goal.returns-clause-log
returns-clause-log g c = λ is.
    let s = c.self.inside in
    let new = pass_seen c.clear_ex.new.pass in
    let stamp : ℕ = 0 in
    let e = entry.Clear s.thread in
    let sees = c.clear_ex.ensures.seen s.thread c.self.invariant.1 in
    logged_on (memory_origin s.mem.now).size s.thread (pass_seen s.pass) new (made (access_of e) stamp) c.stamped.result s.log.entries.items c.add.new.self.entries.items
    s.log.count c.add.new.self.count c.stamped.ensures
    (grown_by_plain (memory_origin s.mem.now).size s.thread (pass_seen s.pass) new sees.added sees.longer (entries_of_operation s.thread clear) e sees.mine refl (λ past. refl))
    c.add.ensures.more (subst IsLogged (sym c.self.view_is) is)
