-- The text of the stack guest, for the assembler.
use Rattle.std.specs.Prelude.{◌++◌, List, [], codes, ℕ, zero, suc}
use Rattle.std.specs.Fmt.{decimal}
use Rattle.stack_runs.specs.Guest.{next_at}

-- the lines of so many nodes from an index on
abbrev pub node_lines : (left index : ℕ) → List ℕ
node_lines zero index = []
node_lines (suc left) index = codes ".word " ++ decimal (next_at left (suc index)) ++ codes "\n.word 0\n" ++ node_lines left (suc index)

-- The program's text, with so many nodes, where a thread has so many rounds. `examples/proved_stack/check` reads it here.
abbrev pub stack_text : (nodes rounds : ℕ) → List ℕ
stack_text nodes rounds =
    codes "mov r8, #8192\n" ++
    codes "movw r9, #" ++ decimal rounds ++ codes "\n" ++
    codes "pop: ldrex r0, [r8]\n" ++
    codes "cmp r0, #0\n" ++
    codes "beq pop\n" ++
    codes "ldr r1, [r0]\n" ++
    codes "strex r2, r1, [r8]\n" ++
    codes "cmp r2, #0\nbne pop\n" ++
    codes "ldr r1, [r0, #4]\n" ++
    codes "add r1, r1, #1\n" ++
    codes "str r1, [r0, #4]\n" ++
    codes "push: ldrex r1, [r8]\n" ++
    codes "str r1, [r0]\n" ++
    codes "strex r2, r0, [r8]\n" ++
    codes "cmp r2, #0\nbne push\n" ++
    codes "sub r9, r9, #1\n" ++
    codes "cmp r9, #0\nbne pop\n" ++
    codes "mov r0, #0\n" ++
    codes "mov r7, #1\n" ++
    codes "svc #0\n" ++
    codes ".data\n" ++
    codes ".word " ++ decimal (next_at nodes 0) ++ codes "\n" ++
    codes ".word 0\n.word 0\n.word 0\n.word 0\n.word 0\n.word 0\n.word 0\n.word 0\n" ++
    codes ".word 0\n.word 0\n.word 0\n.word 0\n.word 0\n.word 0\n.word 0\n" ++
    node_lines nodes 0
