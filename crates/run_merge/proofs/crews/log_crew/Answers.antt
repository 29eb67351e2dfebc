use Rattle.std.proofs.Common.{◌≡◌, [], ◌∙◌, List, arith, subst}
use Rattle.history.specs.declared.entry.Entry.{Entry}
use Rattle.version_memory.specs.Memory.{pass_seen}
use Rattle.guest_thread.specs.Crews.{HaveSeen}
use Rattle.run_merge.proofs.AllLogged.{nothing_seen}
use Rattle.run_merge.proofs.crews.log_crew.Goals as goal

pub returns : goal.returns
returns g c =
    let none : pass_seen c.args.first ≡ [] = nothing_seen (pass_seen c.args.first) c.requires.none in
    record {
      ready = c.in_ok-crew.ensures.ready;
      first = c.in_ok-crew.ensures.seen ∙ none;
      others = subst (λ (h : List Entry). HaveSeen pass_seen h c.in_ok-crew.crew.jobs.items) none c.in_ok-crew.ensures.unseen;
      unused = c.in_ok-logs.ensures.unused;
      many = omega (arith, c.in_ok-logs.ensures.len, c.len.ensures);
    }
