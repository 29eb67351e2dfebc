-- The segments before the index have their spans.
use Rattle.std.proofs.Common.{◌≡◌, ◌++◌, drop, map}
use Rattle.elf32.specs.Image.{span_of}
use Rattle.elf32.proofs.segments.spans.Given as goal

abbrev pub invariant-loop-segment : goal.invariant-loop-segment
invariant-loop-segment l = l.spans.items ++ map span_of (drop l.segment-index l.segments) ≡ map span_of l.segments
