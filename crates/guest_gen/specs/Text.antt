-- The text of the counter guest, for the assembler.
use Rattle.std.specs.Prelude.{◌++◌, List, codes, ℕ}

-- The two lines that bring a number of 32 bits into a register: the texts of the register, and of the number's low and high 16
-- bits.
abbrev pub wide_move : (register low high : List ℕ) → List ℕ
wide_move register low high = codes "movw " ++ register ++ codes ", #" ++ low ++ codes "\nmovt " ++ register ++ codes ", #" ++ high ++ codes "\n"

-- The program's text, where the draws begin at a number whose halves have these texts, and a thread has so many rounds as the
-- last text says.
abbrev pub counter_text : (low high rounds : List ℕ) → List ℕ
counter_text low high rounds =
    wide_move (codes "r4") low high ++
    codes "add r4, r4, r0\n" ++
    wide_move (codes "r5") (codes "26125") (codes "25") ++
    wide_move (codes "r6") (codes "62303") (codes "15470") ++
    wide_move (codes "r8") rounds (codes "0") ++
    codes "mov r9, #8192\n" ++
    codes "loop: cmp r8, #0\n" ++
    codes "beq done\n" ++
    codes "mla r4, r4, r5, r6\n" ++
    codes "mov r10, r4, lsr #28\n" ++
    codes "add r10, r9, r10, lsl #3\n" ++
    codes "try: ldrex r11, [r10]\n" ++
    codes "add r11, r11, #1\n" ++
    codes "strex r12, r11, [r10]\n" ++
    codes "cmp r12, #0\n" ++
    codes "bne try\n" ++
    codes "sub r8, r8, #1\n" ++
    codes "b loop\n" ++
    codes "done: mov r0, #0\n" ++
    codes "mov r7, #1\n" ++
    codes "svc #0\n" ++
    codes ".data\n" ++
    codes ".space 128\n"
