-- The tables of operands: what each form shows is read again as that form with those numbers.
use Rattle.std.proofs.Common.{◌≡◌, ℕ, ◌<◌, ◌^◌, Some, List, [], ◌∷◌, refl, codes}
use Rattle.std.proofs.lemmas.Bool.{lt-ltb}
use Rattle.a32_forms.specs.Text.{parts}
use Rattle.a32_forms.specs.Forms.{chosen}
use Rattle.a32_forms.specs.Written.{written}
use Rattle.a32_forms.proofs.ChosenAgain.{chosen_again}

-- three operands

abbrev pub three : List ℕ
three = codes "r, r, #n|r, r, #n, #n|r, r, r|r, r, r, k #n|r, r, r, X|r, r, r, k r"

pub chosen_three_0 : (d e n : ℕ) → d < 16 → e < 16 → n < 2 ^ 32 → chosen three (parts (written (codes "r, r, #n") (d ∷ e ∷ n ∷ []))) ≡ Some (record { form = 0; fields = record { numbers = (d ∷ e ∷ n ∷ []); name = [] } })
chosen_three_0 d e n h_d h_e h_n = chosen_again three 0 (d ∷ e ∷ n ∷ []) refl (rw (lt-ltb d 16 h_d, lt-ltb e 16 h_e, lt-ltb n (2 ^ 32) h_n) refl)

pub chosen_three_1 : (d e n p : ℕ) → d < 16 → e < 16 → n < 2 ^ 32 → p < 2 ^ 32 → chosen three (parts (written (codes "r, r, #n, #n") (d ∷ e ∷ n ∷ p ∷ []))) ≡ Some (record { form = 1; fields = record { numbers = (d ∷ e ∷ n ∷ p ∷ []); name = [] } })
chosen_three_1 d e n p h_d h_e h_n h_p = chosen_again three 1 (d ∷ e ∷ n ∷ p ∷ []) refl (rw (lt-ltb d 16 h_d, lt-ltb e 16 h_e, lt-ltb n (2 ^ 32) h_n, lt-ltb p (2 ^ 32) h_p) refl)

pub chosen_three_2 : (d e f : ℕ) → d < 16 → e < 16 → f < 16 → chosen three (parts (written (codes "r, r, r") (d ∷ e ∷ f ∷ []))) ≡ Some (record { form = 2; fields = record { numbers = (d ∷ e ∷ f ∷ []); name = [] } })
chosen_three_2 d e f h_d h_e h_f = chosen_again three 2 (d ∷ e ∷ f ∷ []) refl (rw (lt-ltb d 16 h_d, lt-ltb e 16 h_e, lt-ltb f 16 h_f) refl)

pub chosen_three_3 : (d e f k n : ℕ) → d < 16 → e < 16 → f < 16 → k < 4 → n < 2 ^ 32 → chosen three (parts (written (codes "r, r, r, k #n") (d ∷ e ∷ f ∷ k ∷ n ∷ []))) ≡ Some (record { form = 3; fields = record { numbers = (d ∷ e ∷ f ∷ k ∷ n ∷ []); name = [] } })
chosen_three_3 d e f k n h_d h_e h_f h_k h_n = chosen_again three 3 (d ∷ e ∷ f ∷ k ∷ n ∷ []) refl (rw (lt-ltb d 16 h_d, lt-ltb e 16 h_e, lt-ltb f 16 h_f, lt-ltb k 4 h_k, lt-ltb n (2 ^ 32) h_n) refl)

pub chosen_three_4 : (d e f : ℕ) → d < 16 → e < 16 → f < 16 → chosen three (parts (written (codes "r, r, r, X") (d ∷ e ∷ f ∷ []))) ≡ Some (record { form = 4; fields = record { numbers = (d ∷ e ∷ f ∷ []); name = [] } })
chosen_three_4 d e f h_d h_e h_f = chosen_again three 4 (d ∷ e ∷ f ∷ []) refl (rw (lt-ltb d 16 h_d, lt-ltb e 16 h_e, lt-ltb f 16 h_f) refl)

pub chosen_three_5 : (d e f k g : ℕ) → d < 16 → e < 16 → f < 16 → k < 4 → g < 16 → chosen three (parts (written (codes "r, r, r, k r") (d ∷ e ∷ f ∷ k ∷ g ∷ []))) ≡ Some (record { form = 5; fields = record { numbers = (d ∷ e ∷ f ∷ k ∷ g ∷ []); name = [] } })
chosen_three_5 d e f k g h_d h_e h_f h_k h_g = chosen_again three 5 (d ∷ e ∷ f ∷ k ∷ g ∷ []) refl (rw (lt-ltb d 16 h_d, lt-ltb e 16 h_e, lt-ltb f 16 h_f, lt-ltb k 4 h_k, lt-ltb g 16 h_g) refl)

-- two operands

abbrev pub two : List ℕ
two = codes "r, #n|r, #n, #n|r, r|r, r, k #n|r, r, X|r, r, k r"

pub chosen_two_0 : (d n : ℕ) → d < 16 → n < 2 ^ 32 → chosen two (parts (written (codes "r, #n") (d ∷ n ∷ []))) ≡ Some (record { form = 0; fields = record { numbers = (d ∷ n ∷ []); name = [] } })
chosen_two_0 d n h_d h_n = chosen_again two 0 (d ∷ n ∷ []) refl (rw (lt-ltb d 16 h_d, lt-ltb n (2 ^ 32) h_n) refl)

pub chosen_two_1 : (d n p : ℕ) → d < 16 → n < 2 ^ 32 → p < 2 ^ 32 → chosen two (parts (written (codes "r, #n, #n") (d ∷ n ∷ p ∷ []))) ≡ Some (record { form = 1; fields = record { numbers = (d ∷ n ∷ p ∷ []); name = [] } })
chosen_two_1 d n p h_d h_n h_p = chosen_again two 1 (d ∷ n ∷ p ∷ []) refl (rw (lt-ltb d 16 h_d, lt-ltb n (2 ^ 32) h_n, lt-ltb p (2 ^ 32) h_p) refl)

pub chosen_two_2 : (d e : ℕ) → d < 16 → e < 16 → chosen two (parts (written (codes "r, r") (d ∷ e ∷ []))) ≡ Some (record { form = 2; fields = record { numbers = (d ∷ e ∷ []); name = [] } })
chosen_two_2 d e h_d h_e = chosen_again two 2 (d ∷ e ∷ []) refl (rw (lt-ltb d 16 h_d, lt-ltb e 16 h_e) refl)

pub chosen_two_3 : (d e k n : ℕ) → d < 16 → e < 16 → k < 4 → n < 2 ^ 32 → chosen two (parts (written (codes "r, r, k #n") (d ∷ e ∷ k ∷ n ∷ []))) ≡ Some (record { form = 3; fields = record { numbers = (d ∷ e ∷ k ∷ n ∷ []); name = [] } })
chosen_two_3 d e k n h_d h_e h_k h_n = chosen_again two 3 (d ∷ e ∷ k ∷ n ∷ []) refl (rw (lt-ltb d 16 h_d, lt-ltb e 16 h_e, lt-ltb k 4 h_k, lt-ltb n (2 ^ 32) h_n) refl)

pub chosen_two_4 : (d e : ℕ) → d < 16 → e < 16 → chosen two (parts (written (codes "r, r, X") (d ∷ e ∷ []))) ≡ Some (record { form = 4; fields = record { numbers = (d ∷ e ∷ []); name = [] } })
chosen_two_4 d e h_d h_e = chosen_again two 4 (d ∷ e ∷ []) refl (rw (lt-ltb d 16 h_d, lt-ltb e 16 h_e) refl)

pub chosen_two_5 : (d e k f : ℕ) → d < 16 → e < 16 → k < 4 → f < 16 → chosen two (parts (written (codes "r, r, k r") (d ∷ e ∷ k ∷ f ∷ []))) ≡ Some (record { form = 5; fields = record { numbers = (d ∷ e ∷ k ∷ f ∷ []); name = [] } })
chosen_two_5 d e k f h_d h_e h_k h_f = chosen_again two 5 (d ∷ e ∷ k ∷ f ∷ []) refl (rw (lt-ltb d 16 h_d, lt-ltb e 16 h_e, lt-ltb k 4 h_k, lt-ltb f 16 h_f) refl)

-- the address of a word or a byte

abbrev pub word : List ℕ
word = codes "r, [r]|r, [r, #~n]!|r, [r, ~r]!|r, [r, ~r, k #n]!|r, [r, ~r, X]!|r, [r], #~n|r, [r], ~r|r, [r], ~r, k #n|r, [r], ~r, X"

pub chosen_word_0 : (d e : ℕ) → d < 16 → e < 16 → chosen word (parts (written (codes "r, [r]") (d ∷ e ∷ []))) ≡ Some (record { form = 0; fields = record { numbers = (d ∷ e ∷ []); name = [] } })
chosen_word_0 d e h_d h_e = chosen_again word 0 (d ∷ e ∷ []) refl (rw (lt-ltb d 16 h_d, lt-ltb e 16 h_e) refl)

pub chosen_word_1 : (d e minus n back : ℕ) → d < 16 → e < 16 → minus < 2 → n < 2 ^ 32 → back < 2 → chosen word (parts (written (codes "r, [r, #~n]!") (d ∷ e ∷ minus ∷ n ∷ back ∷ []))) ≡ Some (record { form = 1; fields = record { numbers = (d ∷ e ∷ minus ∷ n ∷ back ∷ []); name = [] } })
chosen_word_1 d e minus n back h_d h_e h_minus h_n h_back = chosen_again word 1 (d ∷ e ∷ minus ∷ n ∷ back ∷ []) refl (rw (lt-ltb d 16 h_d, lt-ltb e 16 h_e, lt-ltb minus 2 h_minus, lt-ltb n (2 ^ 32) h_n, lt-ltb back 2 h_back) refl)

pub chosen_word_2 : (d e minus f back : ℕ) → d < 16 → e < 16 → minus < 2 → f < 16 → back < 2 → chosen word (parts (written (codes "r, [r, ~r]!") (d ∷ e ∷ minus ∷ f ∷ back ∷ []))) ≡ Some (record { form = 2; fields = record { numbers = (d ∷ e ∷ minus ∷ f ∷ back ∷ []); name = [] } })
chosen_word_2 d e minus f back h_d h_e h_minus h_f h_back = chosen_again word 2 (d ∷ e ∷ minus ∷ f ∷ back ∷ []) refl (rw (lt-ltb d 16 h_d, lt-ltb e 16 h_e, lt-ltb minus 2 h_minus, lt-ltb f 16 h_f, lt-ltb back 2 h_back) refl)

pub chosen_word_3 : (d e minus f k n back : ℕ) → d < 16 → e < 16 → minus < 2 → f < 16 → k < 4 → n < 2 ^ 32 → back < 2 → chosen word (parts (written (codes "r, [r, ~r, k #n]!") (d ∷ e ∷ minus ∷ f ∷ k ∷ n ∷ back ∷ []))) ≡ Some (record { form = 3; fields = record { numbers = (d ∷ e ∷ minus ∷ f ∷ k ∷ n ∷ back ∷ []); name = [] } })
chosen_word_3 d e minus f k n back h_d h_e h_minus h_f h_k h_n h_back = chosen_again word 3 (d ∷ e ∷ minus ∷ f ∷ k ∷ n ∷ back ∷ []) refl (rw (lt-ltb d 16 h_d, lt-ltb e 16 h_e, lt-ltb minus 2 h_minus, lt-ltb f 16 h_f, lt-ltb k 4 h_k, lt-ltb n (2 ^ 32) h_n, lt-ltb back 2 h_back) refl)

pub chosen_word_4 : (d e minus f back : ℕ) → d < 16 → e < 16 → minus < 2 → f < 16 → back < 2 → chosen word (parts (written (codes "r, [r, ~r, X]!") (d ∷ e ∷ minus ∷ f ∷ back ∷ []))) ≡ Some (record { form = 4; fields = record { numbers = (d ∷ e ∷ minus ∷ f ∷ back ∷ []); name = [] } })
chosen_word_4 d e minus f back h_d h_e h_minus h_f h_back = chosen_again word 4 (d ∷ e ∷ minus ∷ f ∷ back ∷ []) refl (rw (lt-ltb d 16 h_d, lt-ltb e 16 h_e, lt-ltb minus 2 h_minus, lt-ltb f 16 h_f, lt-ltb back 2 h_back) refl)

pub chosen_word_5 : (d e minus n : ℕ) → d < 16 → e < 16 → minus < 2 → n < 2 ^ 32 → chosen word (parts (written (codes "r, [r], #~n") (d ∷ e ∷ minus ∷ n ∷ []))) ≡ Some (record { form = 5; fields = record { numbers = (d ∷ e ∷ minus ∷ n ∷ []); name = [] } })
chosen_word_5 d e minus n h_d h_e h_minus h_n = chosen_again word 5 (d ∷ e ∷ minus ∷ n ∷ []) refl (rw (lt-ltb d 16 h_d, lt-ltb e 16 h_e, lt-ltb minus 2 h_minus, lt-ltb n (2 ^ 32) h_n) refl)

pub chosen_word_6 : (d e minus f : ℕ) → d < 16 → e < 16 → minus < 2 → f < 16 → chosen word (parts (written (codes "r, [r], ~r") (d ∷ e ∷ minus ∷ f ∷ []))) ≡ Some (record { form = 6; fields = record { numbers = (d ∷ e ∷ minus ∷ f ∷ []); name = [] } })
chosen_word_6 d e minus f h_d h_e h_minus h_f = chosen_again word 6 (d ∷ e ∷ minus ∷ f ∷ []) refl (rw (lt-ltb d 16 h_d, lt-ltb e 16 h_e, lt-ltb minus 2 h_minus, lt-ltb f 16 h_f) refl)

pub chosen_word_7 : (d e minus f k n : ℕ) → d < 16 → e < 16 → minus < 2 → f < 16 → k < 4 → n < 2 ^ 32 → chosen word (parts (written (codes "r, [r], ~r, k #n") (d ∷ e ∷ minus ∷ f ∷ k ∷ n ∷ []))) ≡ Some (record { form = 7; fields = record { numbers = (d ∷ e ∷ minus ∷ f ∷ k ∷ n ∷ []); name = [] } })
chosen_word_7 d e minus f k n h_d h_e h_minus h_f h_k h_n = chosen_again word 7 (d ∷ e ∷ minus ∷ f ∷ k ∷ n ∷ []) refl (rw (lt-ltb d 16 h_d, lt-ltb e 16 h_e, lt-ltb minus 2 h_minus, lt-ltb f 16 h_f, lt-ltb k 4 h_k, lt-ltb n (2 ^ 32) h_n) refl)

pub chosen_word_8 : (d e minus f : ℕ) → d < 16 → e < 16 → minus < 2 → f < 16 → chosen word (parts (written (codes "r, [r], ~r, X") (d ∷ e ∷ minus ∷ f ∷ []))) ≡ Some (record { form = 8; fields = record { numbers = (d ∷ e ∷ minus ∷ f ∷ []); name = [] } })
chosen_word_8 d e minus f h_d h_e h_minus h_f = chosen_again word 8 (d ∷ e ∷ minus ∷ f ∷ []) refl (rw (lt-ltb d 16 h_d, lt-ltb e 16 h_e, lt-ltb minus 2 h_minus, lt-ltb f 16 h_f) refl)

-- the address of a halfword or a signed byte

abbrev pub half : List ℕ
half = codes "r, [r]|r, [r, #~n]!|r, [r, ~r]!|r, [r], #~n|r, [r], ~r"

pub chosen_half_0 : (d e : ℕ) → d < 16 → e < 16 → chosen half (parts (written (codes "r, [r]") (d ∷ e ∷ []))) ≡ Some (record { form = 0; fields = record { numbers = (d ∷ e ∷ []); name = [] } })
chosen_half_0 d e h_d h_e = chosen_again half 0 (d ∷ e ∷ []) refl (rw (lt-ltb d 16 h_d, lt-ltb e 16 h_e) refl)

pub chosen_half_1 : (d e minus n back : ℕ) → d < 16 → e < 16 → minus < 2 → n < 2 ^ 32 → back < 2 → chosen half (parts (written (codes "r, [r, #~n]!") (d ∷ e ∷ minus ∷ n ∷ back ∷ []))) ≡ Some (record { form = 1; fields = record { numbers = (d ∷ e ∷ minus ∷ n ∷ back ∷ []); name = [] } })
chosen_half_1 d e minus n back h_d h_e h_minus h_n h_back = chosen_again half 1 (d ∷ e ∷ minus ∷ n ∷ back ∷ []) refl (rw (lt-ltb d 16 h_d, lt-ltb e 16 h_e, lt-ltb minus 2 h_minus, lt-ltb n (2 ^ 32) h_n, lt-ltb back 2 h_back) refl)

pub chosen_half_2 : (d e minus f back : ℕ) → d < 16 → e < 16 → minus < 2 → f < 16 → back < 2 → chosen half (parts (written (codes "r, [r, ~r]!") (d ∷ e ∷ minus ∷ f ∷ back ∷ []))) ≡ Some (record { form = 2; fields = record { numbers = (d ∷ e ∷ minus ∷ f ∷ back ∷ []); name = [] } })
chosen_half_2 d e minus f back h_d h_e h_minus h_f h_back = chosen_again half 2 (d ∷ e ∷ minus ∷ f ∷ back ∷ []) refl (rw (lt-ltb d 16 h_d, lt-ltb e 16 h_e, lt-ltb minus 2 h_minus, lt-ltb f 16 h_f, lt-ltb back 2 h_back) refl)

pub chosen_half_3 : (d e minus n : ℕ) → d < 16 → e < 16 → minus < 2 → n < 2 ^ 32 → chosen half (parts (written (codes "r, [r], #~n") (d ∷ e ∷ minus ∷ n ∷ []))) ≡ Some (record { form = 3; fields = record { numbers = (d ∷ e ∷ minus ∷ n ∷ []); name = [] } })
chosen_half_3 d e minus n h_d h_e h_minus h_n = chosen_again half 3 (d ∷ e ∷ minus ∷ n ∷ []) refl (rw (lt-ltb d 16 h_d, lt-ltb e 16 h_e, lt-ltb minus 2 h_minus, lt-ltb n (2 ^ 32) h_n) refl)

pub chosen_half_4 : (d e minus f : ℕ) → d < 16 → e < 16 → minus < 2 → f < 16 → chosen half (parts (written (codes "r, [r], ~r") (d ∷ e ∷ minus ∷ f ∷ []))) ≡ Some (record { form = 4; fields = record { numbers = (d ∷ e ∷ minus ∷ f ∷ []); name = [] } })
chosen_half_4 d e minus f h_d h_e h_minus h_f = chosen_again half 4 (d ∷ e ∷ minus ∷ f ∷ []) refl (rw (lt-ltb d 16 h_d, lt-ltb e 16 h_e, lt-ltb minus 2 h_minus, lt-ltb f 16 h_f) refl)

-- a register that is turned before it is extended

abbrev pub extend : List ℕ
extend = codes "r, r|r, r, O #n"

pub chosen_extend_0 : (d e : ℕ) → d < 16 → e < 16 → chosen extend (parts (written (codes "r, r") (d ∷ e ∷ []))) ≡ Some (record { form = 0; fields = record { numbers = (d ∷ e ∷ []); name = [] } })
chosen_extend_0 d e h_d h_e = chosen_again extend 0 (d ∷ e ∷ []) refl (rw (lt-ltb d 16 h_d, lt-ltb e 16 h_e) refl)

pub chosen_extend_1 : (d e n : ℕ) → d < 16 → e < 16 → n < 2 ^ 32 → chosen extend (parts (written (codes "r, r, O #n") (d ∷ e ∷ n ∷ []))) ≡ Some (record { form = 1; fields = record { numbers = (d ∷ e ∷ n ∷ []); name = [] } })
chosen_extend_1 d e n h_d h_e h_n = chosen_again extend 1 (d ∷ e ∷ n ∷ []) refl (rw (lt-ltb d 16 h_d, lt-ltb e 16 h_e, lt-ltb n (2 ^ 32) h_n) refl)

-- the target of a branch, which is shown as an address

abbrev pub branch : List ℕ
branch = codes "x|l"

pub chosen_branch_0 : (n : ℕ) → n < 2 ^ 32 → chosen branch (parts (written (codes "x") (n ∷ []))) ≡ Some (record { form = 0; fields = record { numbers = (n ∷ []); name = [] } })
chosen_branch_0 n h_n = chosen_again branch 0 (n ∷ []) refl (rw (lt-ltb n (2 ^ 32) h_n) refl)

-- the low half of a register, which is shown as a number

abbrev pub low_half : List ℕ
low_half = codes "r, #n|r, #L(l)"

pub chosen_low_half_0 : (d n : ℕ) → d < 16 → n < 2 ^ 32 → chosen low_half (parts (written (codes "r, #n") (d ∷ n ∷ []))) ≡ Some (record { form = 0; fields = record { numbers = (d ∷ n ∷ []); name = [] } })
chosen_low_half_0 d n h_d h_n = chosen_again low_half 0 (d ∷ n ∷ []) refl (rw (lt-ltb d 16 h_d, lt-ltb n (2 ^ 32) h_n) refl)

-- the high half of a register, which is shown as a number

abbrev pub high_half : List ℕ
high_half = codes "r, #n|r, #H(l)"

pub chosen_high_half_0 : (d n : ℕ) → d < 16 → n < 2 ^ 32 → chosen high_half (parts (written (codes "r, #n") (d ∷ n ∷ []))) ≡ Some (record { form = 0; fields = record { numbers = (d ∷ n ∷ []); name = [] } })
chosen_high_half_0 d n h_d h_n = chosen_again high_half 0 (d ∷ n ∷ []) refl (rw (lt-ltb d 16 h_d, lt-ltb n (2 ^ 32) h_n) refl)

-- what a barrier is for, which is shown as a number

abbrev pub barrier : List ℕ
barrier = codes "#n|"

pub chosen_barrier_0 : (n : ℕ) → n < 2 ^ 32 → chosen barrier (parts (written (codes "#n") (n ∷ []))) ≡ Some (record { form = 0; fields = record { numbers = (n ∷ []); name = [] } })
chosen_barrier_0 n h_n = chosen_again barrier 0 (n ∷ []) refl (rw (lt-ltb n (2 ^ 32) h_n) refl)

-- no operand

abbrev pub nothing : List ℕ
nothing = codes ""

pub chosen_nothing_0 : chosen nothing (parts (written (codes "") [])) ≡ Some (record { form = 0; fields = record { numbers = []; name = [] } })
chosen_nothing_0 = chosen_again nothing 0 [] refl refl

-- one register

abbrev pub one_register : List ℕ
one_register = codes "r"

pub chosen_one_register_0 : (d : ℕ) → d < 16 → chosen one_register (parts (written (codes "r") (d ∷ []))) ≡ Some (record { form = 0; fields = record { numbers = (d ∷ []); name = [] } })
chosen_one_register_0 d h_d = chosen_again one_register 0 (d ∷ []) refl (rw (lt-ltb d 16 h_d) refl)

-- two registers

abbrev pub two_registers : List ℕ
two_registers = codes "r, r"

pub chosen_two_registers_0 : (d e : ℕ) → d < 16 → e < 16 → chosen two_registers (parts (written (codes "r, r") (d ∷ e ∷ []))) ≡ Some (record { form = 0; fields = record { numbers = (d ∷ e ∷ []); name = [] } })
chosen_two_registers_0 d e h_d h_e = chosen_again two_registers 0 (d ∷ e ∷ []) refl (rw (lt-ltb d 16 h_d, lt-ltb e 16 h_e) refl)

-- three registers

abbrev pub three_registers : List ℕ
three_registers = codes "r, r, r"

pub chosen_three_registers_0 : (d e f : ℕ) → d < 16 → e < 16 → f < 16 → chosen three_registers (parts (written (codes "r, r, r") (d ∷ e ∷ f ∷ []))) ≡ Some (record { form = 0; fields = record { numbers = (d ∷ e ∷ f ∷ []); name = [] } })
chosen_three_registers_0 d e f h_d h_e h_f = chosen_again three_registers 0 (d ∷ e ∷ f ∷ []) refl (rw (lt-ltb d 16 h_d, lt-ltb e 16 h_e, lt-ltb f 16 h_f) refl)

-- four registers

abbrev pub four_registers : List ℕ
four_registers = codes "r, r, r, r"

pub chosen_four_registers_0 : (d e f g : ℕ) → d < 16 → e < 16 → f < 16 → g < 16 → chosen four_registers (parts (written (codes "r, r, r, r") (d ∷ e ∷ f ∷ g ∷ []))) ≡ Some (record { form = 0; fields = record { numbers = (d ∷ e ∷ f ∷ g ∷ []); name = [] } })
chosen_four_registers_0 d e f g h_d h_e h_f h_g = chosen_again four_registers 0 (d ∷ e ∷ f ∷ g ∷ []) refl (rw (lt-ltb d 16 h_d, lt-ltb e 16 h_e, lt-ltb f 16 h_f, lt-ltb g 16 h_g) refl)

-- a number

abbrev pub number : List ℕ
number = codes "#n"

pub chosen_number_0 : (n : ℕ) → n < 2 ^ 32 → chosen number (parts (written (codes "#n") (n ∷ []))) ≡ Some (record { form = 0; fields = record { numbers = (n ∷ []); name = [] } })
chosen_number_0 n h_n = chosen_again number 0 (n ∷ []) refl (rw (lt-ltb n (2 ^ 32) h_n) refl)

-- a register, and an address

abbrev pub at_base : List ℕ
at_base = codes "r, [r]"

pub chosen_at_base_0 : (d e : ℕ) → d < 16 → e < 16 → chosen at_base (parts (written (codes "r, [r]") (d ∷ e ∷ []))) ≡ Some (record { form = 0; fields = record { numbers = (d ∷ e ∷ []); name = [] } })
chosen_at_base_0 d e h_d h_e = chosen_again at_base 0 (d ∷ e ∷ []) refl (rw (lt-ltb d 16 h_d, lt-ltb e 16 h_e) refl)

-- two registers, and an address

abbrev pub two_at_base : List ℕ
two_at_base = codes "r, r, [r]"

pub chosen_two_at_base_0 : (d e f : ℕ) → d < 16 → e < 16 → f < 16 → chosen two_at_base (parts (written (codes "r, r, [r]") (d ∷ e ∷ f ∷ []))) ≡ Some (record { form = 0; fields = record { numbers = (d ∷ e ∷ f ∷ []); name = [] } })
chosen_two_at_base_0 d e f h_d h_e h_f = chosen_again two_at_base 0 (d ∷ e ∷ f ∷ []) refl (rw (lt-ltb d 16 h_d, lt-ltb e 16 h_e, lt-ltb f 16 h_f) refl)

-- three registers, and an address

abbrev pub three_at_base : List ℕ
three_at_base = codes "r, r, r, [r]"

pub chosen_three_at_base_0 : (d e f g : ℕ) → d < 16 → e < 16 → f < 16 → g < 16 → chosen three_at_base (parts (written (codes "r, r, r, [r]") (d ∷ e ∷ f ∷ g ∷ []))) ≡ Some (record { form = 0; fields = record { numbers = (d ∷ e ∷ f ∷ g ∷ []); name = [] } })
chosen_three_at_base_0 d e f g h_d h_e h_f h_g = chosen_again three_at_base 0 (d ∷ e ∷ f ∷ g ∷ []) refl (rw (lt-ltb d 16 h_d, lt-ltb e 16 h_e, lt-ltb f 16 h_f, lt-ltb g 16 h_g) refl)

-- a base and a list of registers

abbrev pub block : List ℕ
block = codes "r!, {b}"

pub chosen_block_0 : (d back l : ℕ) → d < 16 → back < 2 → 0 < l → l < 2 ^ 16 → chosen block (parts (written (codes "r!, {b}") (d ∷ back ∷ l ∷ []))) ≡ Some (record { form = 0; fields = record { numbers = (d ∷ back ∷ l ∷ []); name = [] } })
chosen_block_0 d back l h_d h_back some_l h_l = chosen_again block 0 (d ∷ back ∷ l ∷ []) refl (rw (lt-ltb d 16 h_d, lt-ltb back 2 h_back, lt-ltb 0 l some_l, lt-ltb l (2 ^ 16) h_l) refl)
