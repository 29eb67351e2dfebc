use Rattle.std.proofs.Common.{List, refl, sym, subst}
use Rattle.llsc_base.specs.declared.access.Size.TheVariants.{B8}
use Rattle.history.specs.declared.entry.Entry.{Entry}
use Rattle.by_hand.specs.inner.Counting.{HasAdded, none, accesses_by}
use Rattle.by_hand.proofs.counting.add_all.Goals as goal

pub loop-round-init : goal.loop-round-init
loop-round-init g c = record {
  home = refl;
  numbers = refl;
  added = λ t single empty. subst (λ (seen : List Entry). HasAdded t (record { addr = 8192; size = B8 }) 0 (accesses_by t seen)) (sym empty) none;
}
