-- The names that are left have the word where all of them have it.
use Rattle.std.proofs.Common.{◌≡◌, ◌≤◌, ◌+◌, length}
use Rattle.a32_forms.specs.Names.{names_in, place_from}
use Rattle.a32_forms.proofs.names.place.Given as goal

abbrev pub invariant-loop-word : goal.invariant-loop-word
invariant-loop-word l =
    (place_from l.place (names_in l.rest) l.word ≡ place_from l.start (names_in l.names) l.word)
    × (l.place + length l.rest ≤ l.start + length l.names)

abbrev pub decreases-loop-word : goal.decreases-loop-word
decreases-loop-word l = length l.rest
