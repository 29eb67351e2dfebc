use Rattle.std.proofs.Common.{◌≡◌, ◌≤◌, ◌<◌, ◌+◌, ℕ, List, get_or, length, take, slice_index, arith, length-take, ap}
use Rattle.std.proofs.lemmas.List.{get_or_default}
use Rattle.std.proofs.lemmas.List.Sums.{count_by-le-length}
use Rattle.llsc_base.specs.declared.access.Size.TheVariants.{B1}
use Rattle.history.specs.declared.entry.Deed.TheVariants as deed
use Rattle.run_merge.specs.inner.Tables.{is_read_at, spot}
use Rattle.run_merge.specs.declared.logs.Stamped.{Stamped}
use Rattle.run_merge.proofs.filling.counted.Goals as goal

short : {A : Type 0} (n : ℕ) (all : List A) → length (take n all) ≤ length all
short n all = omega (arith, length-take n all)

no_access : Stamped
no_access = record { access = record { thread = 0; deed = deed.Load; place = record { addr = 0; size = B1 }; value = 0 }; stamp = 0 }

pub overflow_add-index_mut : goal.overflow_add-index_mut
unfolding no_access
overflow_add-index_mut c =
    let inv = c.loop-i.invariant in
    let front = take c.loop-i.i c.args.entries.now in
    let k = get_or c.args.base.now c.class_of.result 0 + (get_or c.args.entries.now c.loop-i.i no_access).stamp in
    let one = get_or c.args.entries.now c.loop-i.i no_access in
    let same : k ≡ spot c.args.size.now c.args.base.now one = ap (λ n. slice_index c.args.base.now n + one.stamp) c.class_of.ensures.class in
    let inside : k < length c.loop-i.left.items = omega (arith, same, c.requires.spots c.loop-i.i no_access (omega (arith, c.loop-i-test.true)), inv.len) in
    omega (arith, c.index_mut.ensures.value, get_or_default c.loop-i.left.items k c.index_mut.result.now 0 inside, inv.left k, count_by-le-length (is_read_at c.args.size.now c.args.base.now k) front, short c.loop-i.i c.args.entries.now, c.requires.few k)
