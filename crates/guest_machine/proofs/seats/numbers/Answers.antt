use Rattle.std.proofs.Common.{◌+◌, ◌++◌, [], ◌∷◌, sym, ap, ◌∙◌, zero-add}
use Rattle.std.specs.List.{range_with_len}
use Rattle.std.proofs.lemmas.List.{map-id}
use Rattle.std.proofs.lemmas.List.FromFn.{map-range_with_len_more}
use Rattle.guest_machine.proofs.seats.numbers.Goals as goal

pub loop-t-preserved : goal.loop-t-preserved
loop-t-preserved c =
    c.in_ok-push.ensures.items ∙ ap (λ l. l ++ c.loop-t.t ∷ []) c.loop-t.invariant
    ∙ ap (λ l. l ++ c.loop-t.t ∷ []) (sym (map-id (range_with_len 0 c.loop-t.t)))
    ∙ sym (map-range_with_len_more (λ x. x) 0 c.loop-t.t c.loop-t.t (zero-add c.loop-t.t))
    ∙ map-id (range_with_len 0 (c.loop-t.t + 1))
