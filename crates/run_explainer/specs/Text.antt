-- The text that explains a record: why each of its store-exclusives failed, and how those of each instruction came out.
use Rattle.std.specs.Prelude.{ℕ, ◌-◌, ◌*◌, ◌/◌, ◌%◌, ◌==◌, Bool, true, false, nat_lt, if◌then◌else◌, Option, Some, None, List, [], ◌∷◌, ◌++◌, codes, drop, length}
use Rattle.std.specs.Fmt.{decimal}
use Rattle.std.specs.List.{flat_map, range_with_len}
use Rattle.llsc_base.specs.Images.{Program, word_at}
use Rattle.llsc_base.specs.Memory.{size_bytes}
use Rattle.llsc_base.specs.declared.access.Size.{Size}
use Rattle.history.specs.declared.entry.Access.{Access}
use Rattle.history.specs.declared.entry.Deed.{Deed}
use Rattle.history.specs.declared.entry.Deed.TheVariants as deed
use Rattle.number_text.specs.Hexadecimal.{long_text, word_text}
use Rattle.a32_asm.specs.Shown.{shown_word}
use Rattle.run_checker.specs.declared.sightings.Sighting.{Sighting}
use Rattle.run_explainer.specs.Attempts.{attempts_at, attempts_of, tally_of}
use Rattle.run_explainer.specs.Events.{events_of}
use Rattle.run_explainer.specs.declared.attempts.Attempt.{Attempt}
use Rattle.run_explainer.specs.declared.attempts.Outcome.{Outcome}
use Rattle.run_explainer.specs.declared.attempts.Outcome.TheVariants.{Stored, Failed}
use Rattle.run_explainer.specs.declared.events.Event.{Event}
use Rattle.run_explainer.specs.declared.reasons.Why.{Why}
use Rattle.run_explainer.specs.declared.reasons.Why.TheVariants.{NoLoadExclusive, AnotherRow, EndedItself, Written, Otherwise}
use Rattle.run_explainer.specs.declared.reservations.Writes.{Writes}
use Rattle.run_explainer.specs.declared.tallies.Tally.{Tally}

-- ---- an access

-- a value in two digits for each byte of its size
abbrev pub value_text : Size → ℕ → List ℕ
value_text size value = drop (16 - 2 * size_bytes size) (long_text value)

-- what an access did
abbrev pub deed_text : Deed → Size → ℕ → List ℕ
deed_text deed.Load size value = codes " read " ++ value_text size value
deed_text deed.LoadEx size value = codes " read " ++ value_text size value
deed_text deed.Store size value = codes " wrote " ++ value_text size value
deed_text deed.StoreEx size value = codes " wrote " ++ value_text size value
deed_text deed.StoreFail size value = codes " failed"
deed_text deed.Clear size value = []

-- the instruction at an address, as it is shown: one stands only at a multiple of 4
abbrev pub shown_if : ℕ → Option ℕ → List ℕ
shown_if addr None = []
shown_if addr (Some word) = shown_word word addr

abbrev pub shown_at : Program → ℕ → List ℕ
shown_at program addr = if addr % 4 == 0 then shown_if addr (word_at program addr) else []

-- an access by its index, its thread, the thread's steps before its instruction, and the address of that
abbrev pub place_text : Event → List ℕ
place_text event =
    decimal event.index ++ (codes " thread " ++ (decimal event.access.thread ++ (codes " step " ++ (decimal event.sighting.steps ++ (codes " " ++ (word_text event.sighting.pc ++ codes " "))))))

abbrev pub done_text : Access → List ℕ
done_text access = deed_text access.deed access.place.size access.value ++ codes "\n"

-- the line of an access, and the same behind two blanks
abbrev pub line_of : Program → Event → List ℕ
line_of program event = place_text event ++ (shown_at program event.sighting.pc ++ done_text event.access)

abbrev pub indented : Program → Event → List ℕ
indented program event = codes "  " ++ line_of program event

-- ---- a reason

-- how many writes there are beside the first and the last, where there are any
abbrev pub more_text : ℕ → List ℕ
more_text count = if nat_lt 2 count then codes "  and " ++ (decimal (count - 2) ++ codes " more\n") else []

-- the first write, how many more, and the last where it is another
abbrev pub last_text : Program → Writes → List ℕ
last_text program writes = if nat_lt 1 writes.count then indented program writes.last else []

abbrev pub writes_text : Program → Writes → List ℕ
writes_text program writes = indented program writes.first ++ (more_text writes.count ++ last_text program writes)

abbrev pub came_back_text : Bool → List ℕ
came_back_text true = codes "  the value is as it was read: a comparison of values would have let it succeed\n"
came_back_text false = []

abbrev pub why_text : Program → Why → List ℕ
why_text program NoLoadExclusive = codes "  no load-exclusive came before\n"
why_text program (AnotherRow load) = indented program load ++ codes "  the reservation is on another row\n"
why_text program (EndedItself load own) = indented program load ++ (indented program own ++ codes "  the thread had ended its reservation itself\n")
why_text program (Written load writes came_back) = indented program load ++ (writes_text program writes ++ came_back_text came_back)
why_text program (Otherwise load) =
    indented program load ++ codes "  nobody wrote the row since: another row of its class was written, or the class takes no more writes\n"

-- what is said of an attempt: nothing where it succeeded
abbrev pub outcome_text : Program → Event → Outcome → List ℕ
outcome_text program event Stored = []
outcome_text program event (Failed why) = line_of program event ++ why_text program why

abbrev pub attempt_text : Program → Attempt → List ℕ
attempt_text program attempt = outcome_text program attempt.event attempt.outcome

-- ---- how the attempts came out

abbrev pub tally_text : Tally → List ℕ
tally_text tally =
    codes ": succeeded " ++ (decimal tally.stored ++ (codes ", failed to others' writes " ++ (decimal tally.written ++ (codes ", without a reservation " ++ (decimal tally.without
    ++ (codes ", otherwise " ++ (decimal tally.otherwise ++ (codes ", values came back " ++ (decimal tally.came_back ++ codes "\n")))))))))

-- the line of an instruction, where any attempt is its
abbrev pub instruction_text : Program → ℕ → List Attempt → List ℕ
instruction_text program addr [] = []
instruction_text program addr (attempt ∷ attempts) =
    word_text addr ++ (codes " " ++ (shown_at program addr ++ tally_text (tally_of (attempt ∷ attempts))))

-- the lines of the instructions at the addresses 0, 4, 8 and so on, so many of them
abbrev pub instructions_text : Program → List Attempt → ℕ → List ℕ
instructions_text program attempts count = flat_map (λ i. instruction_text program (4 * i) (attempts_at (4 * i) attempts)) (range_with_len 0 count)

abbrev pub attempts_text : Program → List Attempt → List ℕ
attempts_text program attempts =
    flat_map (attempt_text program) attempts
    ++ (instructions_text program attempts (length program.bytes / 4) ++ (codes "all" ++ tally_text (tally_of attempts)))

-- the text that explains accesses with these sightings
abbrev pub explanation : (granule : ℕ) → Program → List Access → List Sighting → List ℕ
explanation granule program accesses sightings = attempts_text program (attempts_of granule (events_of accesses sightings))
