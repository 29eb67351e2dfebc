-- What two structs hold is the same where both hold it.
use Rattle.std.proofs.Common.{◌≡◌, Option, Some, subst}
use Rattle.memory_handle.specs.declared.handles.Handle.{Handle}
use Rattle.llsc_c.specs.Threads.{Becomes, IsAsBefore}

pub same_handle : (one other : Handle) → Some one ≡ Some other → other ≡ one
same_handle one other same = cc

-- what is so of three handles is so of those that the structs hold which hold them
pub of_held : (about : Handle → Handle → Handle → Type 0) (one two three first second third : Handle)
    → Some one ≡ Some first → Some two ≡ Some second → Some three ≡ Some third → about first second third → about one two three
of_held about one two three first second third is_first is_second is_third so =
    subst (λ h. about one two h) (same_handle three third is_third)
    (subst (λ h. about one h third) (same_handle two second is_second)
    (subst (λ h. about h second third) (same_handle one first is_first) so))

-- a struct whose handle is as before holds it still
pub as_before : (old new : Option Handle) (from to : Handle) → old ≡ Some from → new ≡ Some to → IsAsBefore from to → Becomes IsAsBefore old new
as_before old new from to was is before = record {
  from = from;
  to = to;
  was = was;
  is = is;
  alike = record { memory = before.memory; first = before.numbers.0; upto = before.numbers.1; fresh = before.fresh };
  does = before;
}
