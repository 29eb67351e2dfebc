-- One port leads to another by all accesses of a way between them.
use Rattle.std.proofs.Common.{ℕ, Option, List, [], ◌∷◌, ◌++◌, sym, subst, append_assoc, append-nil}
use Rattle.llsc_base.specs.declared.outside.Ask.{Ask}
use Rattle.guest_calls.specs.Run.{Pair}
use Rattle.guest_core.specs.Ports.{Leads, goes, refused, stays}

pub leads_on : {S : Type 0} (replies : S → Ask → Option ℕ → S → Type 0) (from at next : S) (pairs more : List Pair)
    → Leads replies from pairs at → Leads replies at more next → Leads replies from (pairs ++ more) next
leads_on replies from at _ pairs _ leads stays = subst (λ all. Leads replies from all at) (sym (append-nil pairs)) leads
leads_on replies from at _ pairs _ leads (goes more between next ask reply further replied) =
    subst (λ all. Leads replies from all next) (append_assoc pairs more ((ask, reply) ∷ []))
    (goes (pairs ++ more) between next ask reply (leads_on replies from at between pairs more leads further) replied)
leads_on replies from at _ pairs more leads (refused _ between next ask further served) =
    refused (pairs ++ more) between next ask (leads_on replies from at between pairs more leads further) served
