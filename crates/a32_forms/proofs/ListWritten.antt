-- A list of registers, written one register after another.
use Rattle.std.proofs.Common.{◌≡◌, ℕ, suc, ◌+◌, ◌-◌, ◌<◌, ◌≤◌, Bool, true, false, List, [], ◌∷◌, ◌++◌, length, refl, sym, ap, ◌∙◌, arith, codes, append_assoc, append-nil, length-append}
use Rattle.std.specs.Prelude.{filter}
use Rattle.a32_instr.specs.Block.{is_listed, registers_of}
use Rattle.a32_forms.specs.Names.{register_name}
use Rattle.a32_forms.specs.Registers.{list_text}
use Rattle.a32_forms.specs.inner.Registers.{separator}
use Rattle.a32_forms.proofs.ListsAgain.{up, listed}

-- registers as they are written where others may stand in front
rest_text : Bool → List ℕ → List ℕ
rest_text is_first [] = []
rest_text is_first (register ∷ registers) = separator is_first ++ (register_name register ++ rest_text false registers)

rest_behind : (register : ℕ) (registers : List ℕ) → rest_text false (register ∷ registers) ≡ codes ", " ++ list_text (register ∷ registers)
unfolding rest_text list_text
rest_behind register [] = rw (append-nil (register_name register)) refl
rest_behind register (next ∷ registers) = rw (rest_behind next registers) refl

rest_all : (registers : List ℕ) → list_text registers ≡ rest_text true registers
unfolding rest_text list_text
rest_all [] = refl
rest_all (register ∷ []) = rw (append-nil (register_name register)) refl
rest_all (register ∷ next ∷ registers) = rw (rest_behind next registers) refl

-- what is left to be written of a list from a register on
pub left_text : ℕ → Bool → ℕ → List ℕ
left_text list is_first register = rest_text is_first (filter (is_listed list) (up (16 - register) register))

up_more : (register : ℕ) → register < 16 → up (16 - register) register ≡ register ∷ up (16 - (register + 1)) (register + 1)
unfolding up
up_more register h = let more : 16 - register ≡ suc (16 - (register + 1)) = omega (arith, h) in rw more refl

pub left_whole : (list : ℕ) → list_text (registers_of list) ≡ left_text list true 0
unfolding left_text
left_whole list = rw (listed list) (rest_all (filter (is_listed list) (up 16 0)))

pub left_none : (list register : ℕ) (is_first : Bool) → register < 16 → is_listed list register ≡ false → left_text list is_first register ≡ left_text list is_first (register + 1)
unfolding left_text
left_none list register is_first h e = rw (up_more register h, e) refl

pub left_some : (list register : ℕ) (is_first : Bool) → register < 16 → is_listed list register ≡ true → left_text list is_first register ≡ separator is_first ++ (register_name register ++ left_text list false (register + 1))
unfolding left_text rest_text
left_some list register is_first h e = rw (up_more register h, e) refl

pub left_over : (list : ℕ) (is_first : Bool) → left_text list is_first 16 ≡ []
unfolding left_text rest_text up
left_over list is_first = refl

-- One turn: a register of the list, with what stands in front of it.
pub record Turn (line whole : List ℕ) (list register : ℕ) (is_first : Bool) : Type 0 where
  pub small : register < 16
  pub listed : is_listed list register ≡ true
  pub text : line ++ left_text list is_first register ≡ whole
  pub room : length line + length (left_text list is_first register) ≤ 96

pub turn_room : (line whole : List ℕ) (list register : ℕ) (is_first : Bool) → Turn line whole list register is_first → length line + (length (separator is_first) + (length (register_name register) + length (left_text list false (register + 1)))) ≤ 96
turn_room line whole list register is_first t =
    let e = left_some list register is_first t.small t.listed in
    let l = length-append (separator is_first) (register_name register ++ left_text list false (register + 1)) in
    let k = length-append (register_name register) (left_text list false (register + 1)) in
    omega (arith, t.room, ap length e, l, k)

pub turn_whole : (line whole : List ℕ) (list register : ℕ) (is_first : Bool) → Turn line whole list register is_first → ((line ++ separator is_first) ++ register_name register) ++ left_text list false (register + 1) ≡ whole
turn_whole line whole list register is_first t =
    simp append_assoc (ap (λ text. line ++ text) (sym (left_some list register is_first t.small t.listed)) ∙ t.text)
