-- The condition codes (DDI 0406C A8.3, table A8-1).
use Rattle.std.specs.Prelude.{ℕ, ◌==◌, ◌&&◌, ◌||◌, not, if◌then◌else◌, Bool, true}
use Rattle.a32_instr.specs.declared.conditions.Flags.{Flags}

-- the condition that always holds (AL)
abbrev pub always : ℕ
always = 14

-- one flag is as the other
abbrev pub agree : Bool → Bool → Bool
agree a b = (a && b) || (not a && not b)

-- the flags meet a condition: EQ NE CS CC MI PL VS VC HI LS GE LT GT LE AL, in this order
unfoldable pub passes : ℕ → Flags → Bool
passes cond f =
    if cond == 0 then f.z else
    if cond == 1 then not f.z else
    if cond == 2 then f.c else
    if cond == 3 then not f.c else
    if cond == 4 then f.n else
    if cond == 5 then not f.n else
    if cond == 6 then f.v else
    if cond == 7 then not f.v else
    if cond == 8 then f.c && not f.z else
    if cond == 9 then not f.c || f.z else
    if cond == 10 then agree f.n f.v else
    if cond == 11 then not (agree f.n f.v) else
    if cond == 12 then not f.z && agree f.n f.v else
    if cond == 13 then f.z || not (agree f.n f.v) else
    true
