use Rattle.std.proofs.Common.{◌≤◌, vec_len}
use Rattle.std.specs.Io.KnownBytes.{Consumes}
use Rattle.llsc_host.proofs.real_host.read_within.Given as goal

-- what was read so far is within `most`, and is what the reader has given up
abbrev pub invariant-loop : goal.invariant-loop
invariant-loop g l = (vec_len l.bytes ≤ l.most) × Consumes (g.R.Read.remaining l.initial.file) (g.R.Read.remaining l.file) l.bytes.items
