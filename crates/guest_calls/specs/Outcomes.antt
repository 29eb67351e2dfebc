-- What the code makes of the table of guest calls.
use Rattle.guest_calls.specs.declared.calls.CallOutcome.{CallOutcome}
use Rattle.guest_calls.specs.declared.calls.CallOutcome.TheVariants.{Exit, Answer, Bytes}
use Rattle.guest_calls.specs.Calls.{CallEffect, exits, answers, writes_bytes}

abbrev pub effect_of_outcome : CallOutcome → CallEffect
effect_of_outcome (Exit code) = exits code
effect_of_outcome (Answer value) = answers value
effect_of_outcome (Bytes from len) = writes_bytes from len
