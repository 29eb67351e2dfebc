use Rattle.std.proofs.Common.{◌∙◌, ℕ, sym, ap, arith, get_or, length, length-set, List, set, ◌+◌}
use Rattle.std.proofs.lemmas.List.{length-map}
use Rattle.std.proofs.lemmas.List.Sums.{count_by-le-length}
use Rattle.llsc_base.proofs.Cells.{class_of-lt}
use Rattle.llsc_base.specs.declared.access.Size.TheVariants.{B1}
use Rattle.history.specs.Accesses.{entry_of, history_of}
use Rattle.history.specs.Cause.{is_write}
use Rattle.history.specs.declared.entry.Deed.TheVariants as deed
use Rattle.version_memory.specs.Memory.{pass_seen}
use Rattle.run_merge.specs.inner.Merging.{tables_of}
use Rattle.run_merge.specs.Taking.{row_at}
use Rattle.run_merge.specs.declared.logs.Log.{Log}
use Rattle.run_merge.specs.declared.logs.Stamped.{Stamped}
use Rattle.run_merge.specs.declared.reservations.Reservations.{Reservations}
use Rattle.run_merge.proofs.Merged.{free_may, goes_on, next_found, none_may, some_left}
use Rattle.run_merge.proofs.merging.Merging.take.Goals as goal

no_access : Stamped
no_access = record { access = record { thread = 0; deed = deed.Load; place = record { addr = 0; size = B1 }; value = 0 }; stamp = 0 }

pub may_take-requires-clause-spot : goal.may_take-requires-clause-spot
unfolding no_access
may_take-requires-clause-spot c =
    let size = c.args.size.now in
    let seen = pass_seen c.args.pass.now in
    let old = c.args.self.now in
    let entries_are = c.as_slice-entries.ensures.value ∙ ap (λ (l : Log). l.entries.items) (sym c.index-logs-t.is) in
    let next : Stamped = get_or c.as_slice-entries.result.now (get_or c.as_slice.result.now c.args.t 0) no_access in
    let at = next_found size seen old c.requires.state c.args.logs.now c.requires.logs c.args.t c.index-logs-t.result c.as_slice.result.now c.as_slice-entries.result.now
    no_access c.requires.known c.index-logs-t.is c.as_slice.ensures.value entries_are c.if-at-entries.false in
    c.requires.state.room.spots c.args.t _ next at.after at.is

pub count_one-requires-clause-spot : goal.count_one-requires-clause-spot
unfolding no_access
count_one-requires-clause-spot c =
    let size = c.args.size.now in
    let seen = pass_seen c.args.pass.now in
    let old = c.args.self.now in
    let entries_are = c.as_slice-entries.ensures.value ∙ ap (λ (l : Log). l.entries.items) (sym c.index-logs-t.is) in
    let next : Stamped = get_or c.as_slice-entries.result.now (get_or c.as_slice.result.now c.args.t 0) no_access in
    let at = next_found size seen old c.requires.state c.args.logs.now c.requires.logs c.args.t c.index-logs-t.result c.as_slice.result.now c.as_slice-entries.result.now
    no_access c.requires.known c.index-logs-t.is c.as_slice.ensures.value entries_are c.if-at-entries.false in
    c.requires.state.room.spots c.args.t _ next at.after at.is

pub returns-then-not-may_take-clause-none : goal.returns-then-not-may_take-clause-none
unfolding no_access
returns-then-not-may_take-clause-none c = λ _ _ other may.
    let size = c.args.size.now in
    let seen = pass_seen c.args.pass.now in
    let old = c.args.self.now in
    let entries_are = c.as_slice-entries.ensures.value ∙ ap (λ (l : Log). l.entries.items) (sym c.index-logs-t.is) in
    let next : Stamped = get_or c.as_slice-entries.result.now (get_or c.as_slice.result.now c.args.t 0) no_access in
    let at = next_found size seen old c.requires.state c.args.logs.now c.requires.logs c.args.t c.index-logs-t.result c.as_slice.result.now c.as_slice-entries.result.now
    no_access c.requires.known c.index-logs-t.is c.as_slice.ensures.value entries_are c.if-at-entries.false in
    none_may size seen (history_of old.out.items) (tables_of old) c.requires.state.tables c.requires.state.apart c.args.t next other at (sym c.may_take.ensures ∙ c.if-not-may_take.true) may

pub count_one-requires-clause-read : goal.count_one-requires-clause-read
unfolding no_access
count_one-requires-clause-read c = λ read.
    let size = c.args.size.now in
    let seen = pass_seen c.args.pass.now in
    let old = c.args.self.now in
    let entries_are = c.as_slice-entries.ensures.value ∙ ap (λ (l : Log). l.entries.items) (sym c.index-logs-t.is) in
    let next : Stamped = get_or c.as_slice-entries.result.now (get_or c.as_slice.result.now c.args.t 0) no_access in
    let at = next_found size seen old c.requires.state c.args.logs.now c.requires.logs c.args.t c.index-logs-t.result c.as_slice.result.now c.as_slice-entries.result.now
    no_access c.requires.known c.index-logs-t.is c.as_slice.ensures.value entries_are c.if-at-entries.false in
    let may = free_may size seen (history_of old.out.items) (tables_of old) c.requires.state.tables c.requires.state.apart c.args.t next at (sym c.may_take.ensures ∙ c.if-not-may_take.false) in
    let within = class_of-lt size.classes (row_at size next) c.requires.state.room.some in
    some_left size seen old c.requires.state c.args.t next may c.requires.known within read

pub count_one-requires-clause-few : goal.count_one-requires-clause-few
unfolding no_access
count_one-requires-clause-few c = λ _.
    let size = c.args.size.now in
    let out = c.args.self.now.out in
    let next : Stamped = get_or c.as_slice-entries.result.now (get_or c.as_slice.result.now c.args.t 0) no_access in
    let row = row_at size next in
    omega (arith, c.requires.state.tables.counts row, count_by-le-length (is_write size row) (history_of out.items), length-map out.items entry_of, out.ok.0, out.ok.1, out.small)

pub returns-clause-state : goal.returns-clause-state
unfolding no_access
returns-clause-state c =
    let size = c.args.size.now in
    let seen = pass_seen c.args.pass.now in
    let old = c.args.self.now in
    let entries_are = c.as_slice-entries.ensures.value ∙ ap (λ (l : Log). l.entries.items) (sym c.index-logs-t.is) in
    let next : Stamped = get_or c.as_slice-entries.result.now (get_or c.as_slice.result.now c.args.t 0) no_access in
    let at = next_found size seen old c.requires.state c.args.logs.now c.requires.logs c.args.t c.index-logs-t.result c.as_slice.result.now c.as_slice-entries.result.now
    no_access c.requires.known c.index-logs-t.is c.as_slice.ensures.value entries_are c.if-at-entries.false in
    let may = free_may size seen (history_of old.out.items) (tables_of old) c.requires.state.tables c.requires.state.apart c.args.t next at (sym c.may_take.ensures ∙ c.if-not-may_take.false) in
    let within = class_of-lt size.classes (row_at size next) c.requires.state.room.some in
    goes_on size seen old c.requires.state c.args.t next may c.requires.known within _ (get_or c.as_slice.result.now c.args.t 0) c.count_one.ensures.tables
    (c.count_one.ensures.out ∙ c.in_ok-push.ensures.items) (ap (λ (l : List ℕ). set l c.args.t (get_or c.as_slice.result.now c.args.t 0 + 1)) c.count_one.ensures.at) (ap (λ l. get_or l c.args.t 0) c.as_slice.ensures.value)
    (ap length c.note.ensures ∙ length-set c.count_one.new.self.reservations.loads.items c.args.t _ ∙ ap (λ (r : Reservations). length r.loads.items) c.count_one.ensures.reservations)
