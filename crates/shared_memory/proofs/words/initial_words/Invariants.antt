use Rattle.std.proofs.Common.{◌≡◌, ◌⊎◌, ◌+◌, ◌<◌, ◌≤◌, ℕ, length, get_or}
use Rattle.row_bytes.specs.Cell.{cell_at}
use Rattle.shared_memory.proofs.words.initial_words.Given as goal

abbrev pub invariant-loop-i : goal.invariant-loop-i
invariant-loop-i l = record {
  long : length l.words.items ≡ l.zeros + l.cells + l.behind;
  else_zero : (k : ℕ) → (k < l.zeros) ⊎ (l.zeros + l.i ≤ k) → get_or l.words.items k 0 ≡ 0;
  cells : (k : ℕ) → k < l.i → get_or l.words.items (l.zeros + k) 0 ≡ cell_at l.bytes k;
}
