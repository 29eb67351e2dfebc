-- All accesses of a thread's run, logged.
use Rattle.std.proofs.Common.{◌≡◌, ℕ, List, [], refl, sym, arith}
use Rattle.std.proofs.lemmas.List.{take_all}
use Rattle.llsc_base.specs.Sizes.{Numbers}
use Rattle.guest_core.specs.Ports.{Leads, stays, goes, refused}
use Rattle.atomic_table.specs.Seated.{TableId}
use Rattle.history.specs.declared.entry.Entry.{Entry}
use Rattle.shared_memory.specs.Origin.{IsLegalFrom, Origin}
use Rattle.guest_calls.specs.Run.{Pair}
use Rattle.guest_thread.specs.inner.Sharing.{RepliesSharing}
use Rattle.guest_thread.proofs.Finishing.{at_start, shared_from}
use Rattle.guest_thread.proofs.Shared.{HasShared}
use Rattle.run_merge.specs.inner.Logging.{IsLogged, RepliesLogging, LoggingState}
use Rattle.run_merge.specs.Logs.{IsLogOf, most_logged}

-- they are accesses as any are
shared_leads : (first last : LoggingState) (pairs : List Pair) → Leads RepliesLogging first pairs last → Leads RepliesSharing first.sharing pairs last.sharing
shared_leads first _ _ stays = stays
shared_leads first _ _ (goes pairs at next ask reply leads recorded) = goes pairs at.sharing next.sharing ask reply (shared_leads first at pairs leads) recorded.served
shared_leads first _ _ (refused pairs at next ask leads recorded) = refused pairs at.sharing next.sharing ask (shared_leads first at pairs leads) recorded.unserved

-- so that a thread has come from its first state with them
pub shared_logged : (mem : TableId) (origin : Origin) (t : ℕ) (seen : List Entry) (first last : LoggingState) (pairs : List Pair) → first.sharing ≡ at_start mem origin t seen
    → Leads RepliesLogging first pairs last → HasShared (at_start mem origin t seen) pairs last.sharing
shared_logged mem origin t seen first last pairs is leads = shared_from mem origin t seen first.sharing last.sharing pairs is (shared_leads first last pairs leads)

-- and each is logged
pub logged_leads : (first last : LoggingState) (pairs : List Pair) → Leads RepliesLogging first pairs last → IsLogged first → IsLogged last
logged_leads first _ _ stays is = is
logged_leads first _ _ (goes pairs at next ask reply leads recorded) is = recorded.log (logged_leads first at pairs leads is)
logged_leads first _ _ (refused pairs at next ask leads recorded) is = recorded.log (logged_leads first at pairs leads is)

-- before anything was seen a thread's log is empty
pub no_log : (size : Numbers) (t : ℕ) → IsLogOf size t [] [] 0
no_log size t = record { count_is = refl; first_are = sym (take_all most_logged [] (omega arith)) }

-- what was seen stays legal
pub legal_leads : (first last : LoggingState) (pairs : List Pair) → Leads RepliesLogging first pairs last → IsLegalFrom first.sharing.origin first.sharing.seen → IsLegalFrom last.sharing.origin last.sharing.seen
legal_leads first _ _ stays legal = legal
legal_leads first _ _ (goes pairs at next ask reply leads recorded) legal = recorded.legal
legal_leads first _ _ (refused pairs at next ask leads recorded) legal = recorded.legal
