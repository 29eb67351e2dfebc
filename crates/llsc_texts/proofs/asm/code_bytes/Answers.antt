use Rattle.llsc_texts.proofs.CodeBytes.{code_more}
use Rattle.llsc_texts.proofs.asm.code_bytes.Goals as goal

pub loop-word-preserved : goal.loop-word-preserved
loop-word-preserved c =
    let more = code_more c.args.words.now c.loop-word.bytes.items c.loop-word.word-index c.loop-word-test.true c.loop-word.invariant in
    cc (c.in_ok-extend_from_slice.ensures.items, c.to_le_bytes.ensures, more)
