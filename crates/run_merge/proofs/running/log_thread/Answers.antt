use Rattle.std.proofs.Common.{◌∙◌, [], ℕ, List, ap, refl, sym, subst}
use Rattle.history.specs.declared.entry.Entry.{Entry}
use Rattle.history.specs.Parts.{entries_of}
use Rattle.version_memory.specs.Memory.{memory_id, memory_origin, pass_numbers, pass_seen}
use Rattle.shared_memory.specs.Origin.{IsLegalFrom}
use Rattle.shared_memory.specs.Seen.{IsSingle}
use Rattle.guest_thread.specs.Outcome.{IsEndOn}
use Rattle.guest_thread.specs.inner.Sharing.{RefusesAt}
use Rattle.guest_thread.specs.ThreadState.{thread_in}
use Rattle.guest_thread.specs.declared.ends.GuestEnd.{GuestEnd}
use Rattle.guest_thread.proofs.FewAccesses.{few_in_history}
use Rattle.guest_thread.proofs.Finishing.{at_start, end_on, ends_as, spends_at}
use Rattle.run_merge.specs.inner.Logging.{IsLogged, LoggingState}
use Rattle.run_merge.specs.Logs.{IsLogOf}
use Rattle.run_merge.specs.declared.logs.Stamped.{Stamped}
use Rattle.run_merge.proofs.AllLogged.{legal_none}
use Rattle.run_merge.proofs.Led.{legal_leads, logged_leads, no_log, shared_logged}
use Rattle.run_merge.proofs.running.log_thread.Goals as goal

pub returns-clause-end : goal.returns-clause-end
returns-clause-end g c =
    let mem = c.args.mem.now in
    let origin = memory_origin mem in
    let t = c.thread-thread.result in
    let first = c.new-logging.result in
    let last = c.run-stop.new.port in
    let ran = c.run-stop.ensures.ends (g.C.Core.machine c.args.cpu) (c.new-guest.ensures.comes c.requires.empty c.args.code.program c.args.budget) in
    let shared = shared_logged (memory_id mem) origin t (pass_seen c.args.pass) first last ran.0 (ap (λ (s : LoggingState). s.sharing) c.new-logging.ensures.state) ran.1.0 in
    let end : GuestEnd = record {
      thread = t;
      stop = c.run-stop.result;
      steps = c.steps.result;
      reads = c.counts-counts.result.reads;
      writes = c.counts-counts.result.writes;
      fails = c.counts-counts.result.fails;
      out = c.into_output.result;
    } in
    let ends = ends_as g.C.Core.set (RefusesAt last.sharing) c.args.code.program c.args.budget (g.C.Core.machine c.args.cpu) ran.0 c.run-stop.result c.steps.result c.into_output.result (thread_in g.C.Core.machine c.run-stop.new.self)
    c.steps.ensures c.into_output.ensures ran.1.1 in
    subst (λ s. IsEndOn g.C.Core.set c.args.code.program origin.size c.args.budget (g.C.Core.machine c.args.cpu) s end) (sym c.into_parts-pass.ensures.seen)
    (end_on g.C.Core.set c.is_sound.ensures.passes c.is_sound.ensures.own c.args.code.program c.args.budget (g.C.Core.machine c.args.cpu) c.requires.between (at_start (memory_id mem) origin t (pass_seen c.args.pass)) last.sharing ran.0 end shared
    (ap (entries_of t) c.requires.none) refl refl c.counts-counts.ensures ends)

pub returns-clause-spends : goal.returns-clause-spends
returns-clause-spends g c = λ addr is.
    let mem = c.args.mem.now in
    let origin = memory_origin mem in
    let t = c.thread-thread.result in
    let first = c.new-logging.result in
    let last = c.run-stop.new.port in
    let ran = c.run-stop.ensures.ends (g.C.Core.machine c.args.cpu) (c.new-guest.ensures.comes c.requires.empty c.args.code.program c.args.budget) in
    let shared = shared_logged (memory_id mem) origin t (pass_seen c.args.pass) first last ran.0 (ap (λ (s : LoggingState). s.sharing) c.new-logging.ensures.state) ran.1.0 in
    spends_at g.C.Core.set c.is_sound.ensures.passes c.is_sound.ensures.own c.args.code.program c.args.budget (g.C.Core.machine c.args.cpu) c.requires.between (at_start (memory_id mem) origin t (pass_seen c.args.pass)) last.sharing ran.0 c.run-stop.result
    c.run-stop.new.self.steps c.run-stop.new.self.output addr shared ran.1.1 is

pub returns-clause-single : goal.returns-clause-single
returns-clause-single g c =
    let mem = c.args.mem.now in
    let origin = memory_origin mem in
    let t = c.thread-thread.result in
    let first = c.new-logging.result in
    let last = c.run-stop.new.port in
    let ran = c.run-stop.ensures.ends (g.C.Core.machine c.args.cpu) (c.new-guest.ensures.comes c.requires.empty c.args.code.program c.args.budget) in
    let shared = shared_logged (memory_id mem) origin t (pass_seen c.args.pass) first last ran.0 (ap (λ (s : LoggingState). s.sharing) c.new-logging.ensures.state) ran.1.0 in
    subst (λ n. IsSingle n (pass_numbers c.into_parts-pass.result.0)) shared.goes_on.thread c.into_parts-pass.ensures.single

pub returns-clause-memory : goal.returns-clause-memory
returns-clause-memory g c =
    let mem = c.args.mem.now in
    let origin = memory_origin mem in
    let t = c.thread-thread.result in
    let first = c.new-logging.result in
    let last = c.run-stop.new.port in
    let ran = c.run-stop.ensures.ends (g.C.Core.machine c.args.cpu) (c.new-guest.ensures.comes c.requires.empty c.args.code.program c.args.budget) in
    let shared = shared_logged (memory_id mem) origin t (pass_seen c.args.pass) first last ran.0 (ap (λ (s : LoggingState). s.sharing) c.new-logging.ensures.state) ran.1.0 in
    c.into_parts-pass.ensures.memory ∙ shared.goes_on.memory ∙ sym c.requires.memory

pub returns-clause-few : goal.returns-clause-few
returns-clause-few g c =
    few_in_history g.C.Core.set c.is_sound.ensures.room c.args.code.program (memory_origin c.args.mem.now).size c.args.budget (g.C.Core.machine c.args.cpu)
    (pass_seen c.into_parts-pass.result.0) _ c.requires.between (returns-clause-end g c)

pub returns-clause-legal : goal.returns-clause-legal
returns-clause-legal g c =
    let mem = c.args.mem.now in
    let origin = memory_origin mem in
    let t = c.thread-thread.result in
    let first = c.new-logging.result in
    let last = c.run-stop.new.port in
    let ran = c.run-stop.ensures.ends (g.C.Core.machine c.args.cpu) (c.new-guest.ensures.comes c.requires.empty c.args.code.program c.args.budget) in
    let shared = shared_logged (memory_id mem) origin t (pass_seen c.args.pass) first last ran.0 (ap (λ (s : LoggingState). s.sharing) c.new-logging.ensures.state) ran.1.0 in
    let begins : IsLegalFrom origin (pass_seen c.args.pass) = subst (IsLegalFrom origin) (sym c.requires.none) (legal_none origin) in
    let before : IsLegalFrom first.sharing.origin first.sharing.seen = subst (λ (s : LoggingState). IsLegalFrom s.sharing.origin s.sharing.seen) (sym c.new-logging.ensures.state) begins in
    subst (IsLegalFrom origin) (sym c.into_parts-pass.ensures.seen)
    (subst (λ o. IsLegalFrom o last.sharing.seen) shared.goes_on.origin (legal_leads first last ran.0 ran.1.0 before))

pub returns-clause-log : goal.returns-clause-log
returns-clause-log g c =
    let mem = c.args.mem.now in
    let origin = memory_origin mem in
    let t = c.thread-thread.result in
    let first = c.new-logging.result in
    let last = c.run-stop.new.port in
    let ran = c.run-stop.ensures.ends (g.C.Core.machine c.args.cpu) (c.new-guest.ensures.comes c.requires.empty c.args.code.program c.args.budget) in
    let shared = shared_logged (memory_id mem) origin t (pass_seen c.args.pass) first last ran.0 (ap (λ (s : LoggingState). s.sharing) c.new-logging.ensures.state) ran.1.0 in
    let begins : IsLogged (record { sharing = at_start (memory_id mem) origin t (pass_seen c.args.pass); entries = c.args.log.entries.items; count = c.args.log.count }) =
    subst (λ (s : List Entry). IsLogOf origin.size t s c.args.log.entries.items c.args.log.count) (sym c.requires.none)
    (subst (λ (n : ℕ). IsLogOf origin.size t [] c.args.log.entries.items n) (sym c.requires.unused.zero)
    (subst (λ (l : List Stamped). IsLogOf origin.size t [] l 0) (sym c.requires.unused.none) (no_log origin.size t))) in
    let whole : IsLogged last = logged_leads first last ran.0 ran.1.0 (subst IsLogged (sym c.new-logging.ensures.state) begins) in
    let pass = c.into_parts-pass.result.0 in
    subst (λ (n : ℕ). IsLogOf origin.size t (pass_seen pass) c.into_parts-pass.result.1.entries.items n) (sym c.into_parts-pass.ensures.count)
    (subst (λ (l : List Stamped). IsLogOf origin.size t (pass_seen pass) l last.count) (sym c.into_parts-pass.ensures.entries)
    (subst (λ s. IsLogOf origin.size t s last.entries last.count) (sym c.into_parts-pass.ensures.seen)
    (subst (λ n. IsLogOf origin.size n last.sharing.seen last.entries last.count) shared.goes_on.thread
    (subst (λ o. IsLogOf o.size last.sharing.thread last.sharing.seen last.entries last.count) shared.goes_on.origin whole))))
