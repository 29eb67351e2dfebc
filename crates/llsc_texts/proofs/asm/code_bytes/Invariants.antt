-- The bytes of the words so far.
use Rattle.std.proofs.Common.{◌≡◌, take}
use Rattle.elf32.specs.Units.{code_bytes}
use Rattle.llsc_texts.proofs.asm.code_bytes.Given as goal

abbrev pub invariant-loop-word : goal.invariant-loop-word
invariant-loop-word l = l.bytes.items ≡ code_bytes (take l.word-index l.words)
