-- A shown word is a line of the code whose word it is.
use Rattle.std.proofs.Common.{◌≡◌, ◌<◌, ◌^◌, ◌/◌, ◌%◌, ℕ, Bool, true, false, ◌==◌, ◌&&◌, not, nat_lt, if◌then◌else◌, List, [], ◌∷◌, ◌++◌, drop, Some, Ok, refl, sym, ap, ◌∙◌, arith, codes}
use Rattle.std.specs.List.{list_all}
use Rattle.number_text.specs.Hexadecimal.{hex_digit, half_text, word_text}
use Rattle.a32_instr.specs.declared.instructions.Instr.{Instr}
use Rattle.a32_instr.specs.Table.{meaning, table}
use Rattle.a32_encode.proofs.Encodings.{means_encoding}
use Rattle.a32_forms.specs.Text.{Word, parts, is_wordy, is_blank, front_word, after_word, after_blanks}
use Rattle.a32_forms.specs.Cuts.{before_code}
use Rattle.a32_forms.specs.Forms.{form_in}
use Rattle.a32_forms.specs.Written.{written}
use Rattle.a32_forms.specs.Shown.{pieces, number_parts}
use Rattle.a32_forms.proofs.Again.{parts_alone}
use Rattle.a32_syntax.specs.Operands.{operands_of}
use Rattle.a32_syntax.specs.Formed.{IsFormed}
use Rattle.a32_syntax.specs.Shown.{showing_of, instruction_text, operands_shown, is_shown_code}
use Rattle.a32_syntax.proofs.ShownAgain.{shown_rest, shown_name}
use Rattle.a32_syntax.proofs.ShownCodes.{text_shown}
use Rattle.std.proofs.Common.{append-nil, lt-ltb}
use Rattle.a32_forms.specs.Numbers.{number_of}
use Rattle.a32_forms.specs.Forms.{chosen, chosen_from, takes_from, takes_sign, takes_at_word}
use Rattle.a32_forms.specs.Written.{number_text}
use Rattle.a32_forms.proofs.NumbersAgain.{word_again}
use Rattle.a32_forms.specs.Text.{is_name}
use Rattle.a32_syntax.specs.Meaning.{Site}
use Rattle.a32_syntax.specs.Mnemonics.{mnemonic_of}
use Rattle.a32_syntax.specs.Shown.{operands_text}
use Rattle.a32_syntax.proofs.Formed.{meant_is_formed}
use Rattle.a32_syntax.proofs.ShownAgain.{shown_front, mnemonic_again, formed_again}
use Rattle.a32_asm.specs.declared.layout.Spot.{Spot}
use Rattle.a32_asm.specs.declared.heads.Head.TheVariants as head
use Rattle.a32_asm.specs.Lines.{before_comment, is_ascii, begins_with, has_label, front_of, statement_of, head_of, operands_of as operands_in}
use Rattle.a32_asm.specs.Statements.{code_word, with_word, encoded, instruction_from, line_piece}
use Rattle.a32_asm.specs.Shown.{shown, shown_word, directive_text}

-- ---- texts without comments, in ASCII

abbrev pub is_plain : ℕ → Bool
is_plain code = nat_lt code 128 && not (code == 64)

both : {a b : Bool} → a ≡ true → b ≡ true → (a && b) ≡ true
both h k = rw (h, k) refl

false_end : (a : Bool) → (a && false) ≡ false
false_end true = refl
false_end false = refl

first_of : (a b : Bool) → (a && b) ≡ true → a ≡ true
first_of true b h = refl
first_of false b h = cc

second_of : (a b : Bool) → (a && b) ≡ true → b ≡ true
second_of true b h = h
second_of false b h = cc

shown_plain : (code : ℕ) → is_shown_code code ≡ true → is_plain code ≡ true
shown_plain code h = grind (arith, h)

all_plain : (text : List ℕ) → list_all is_shown_code text ≡ true → list_all is_plain text ≡ true
all_plain [] h = refl
all_plain (code ∷ text) h =
    both (shown_plain code (first_of (is_shown_code code) (list_all is_shown_code text) h))
    (all_plain text (second_of (is_shown_code code) (list_all is_shown_code text) h))

no_comment_cons : (c : Bool) (code : ℕ) (text before : List ℕ) → (code == 64) ≡ c → (nat_lt code 128 && not (code == 64)) ≡ true → before ≡ text
    → (if c then [] else code ∷ before) ≡ code ∷ text
no_comment_cons true code text before is plain later = let h : (nat_lt code 128 && not true) ≡ true = ap (λ c. nat_lt code 128 && not c) (sym is) ∙ plain in
    let e : not true ≡ true = second_of (nat_lt code 128) (not true) h in cc
no_comment_cons false code text before is plain later = ap (λ t. code ∷ t) later

no_comment : (text : List ℕ) → list_all is_plain text ≡ true → before_comment text ≡ text
unfolding before_code
no_comment [] h = refl
no_comment (code ∷ text) h =
    no_comment_cons (code == 64) code text (before_comment text) refl (first_of (is_plain code) (list_all is_plain text) h)
    (no_comment text (second_of (is_plain code) (list_all is_plain text) h))

plain_ascii : (text : List ℕ) → list_all is_plain text ≡ true → is_ascii text ≡ true
plain_ascii [] h = refl
plain_ascii (code ∷ text) h =
    both (first_of (nat_lt code 128) (not (code == 64)) (first_of (is_plain code) (list_all is_plain text) h))
    (plain_ascii text (second_of (is_plain code) (list_all is_plain text) h))

-- ---- a text that begins with a name, as a line

wordy_blank : (code : ℕ) → is_wordy code ≡ true → is_blank code ≡ false
wordy_blank code h = grind (arith, h)

wordy_point : (code : ℕ) → is_wordy code ≡ true → (code == 46) ≡ false
wordy_point code h = grind (arith, h)

named_wordy : (w : Bool) (code : ℕ) (word : List ℕ) → is_name (if w then code ∷ word else []) ≡ true → w ≡ true
named_wordy true code word h = refl
named_wordy false code word h = cc

begins : (code : ℕ) (text : List ℕ) → is_name (front_word (code ∷ text)) ≡ true → is_wordy code ≡ true
unfolding front_word
begins code text h = named_wordy (is_wordy code) code (front_word text) h

no_blanks : (text : List ℕ) → is_name (front_word text) ≡ true → after_blanks text ≡ text
unfolding after_blanks
no_blanks [] h = refl
no_blanks (code ∷ text) h = ap (λ b. if b then after_blanks text else code ∷ text) (wordy_blank code (begins code text h))

no_label : (text : List ℕ) → begins_with 58 (after_word text) ≡ false → has_label text ≡ false
no_label text h = ap (λ b. is_name (front_word text) && b) h ∙ false_end (is_name (front_word text))

instruction_head : (text : List ℕ) → is_name (front_word text) ≡ true → begins_with 58 (after_word text) ≡ false → head_of text ≡ head.Instruction
unfolding front_word
instruction_head [] h k = cc
instruction_head (code ∷ text) h k = rw (no_label (code ∷ text) k, wordy_point code (begins code text h), h) refl

behind_instruction : (text : List ℕ) → is_name (front_word text) ≡ true → operands_in text ≡ after_word text
unfolding front_word
behind_instruction [] h = cc
behind_instruction (code ∷ text) h = ap (λ b. if b then after_word text else after_word (code ∷ text)) (wordy_point code (begins code text h))

as_instruction : (site : Site) (spot : Spot) (text : List ℕ) → spot.in_data ≡ false → list_all is_plain text ≡ true → is_name (front_word text) ≡ true
    → begins_with 58 (after_word text) ≡ false
    → line_piece site spot text ≡ instruction_from site (parts (after_word text)) (mnemonic_of (front_word text))
as_instruction site spot text code plain named colon =
    let front : front_of text ≡ text = ap after_blanks (no_comment text plain) ∙ no_blanks text named in
    let statement : statement_of text ≡ text = ap (λ t. if has_label t then after_blanks (drop 1 (after_word t)) else t) front ∙ ap (λ b. if b then after_blanks (drop 1 (after_word text)) else text) (no_label text colon) in
    let ascii : is_ascii (before_comment text) ≡ true = ap is_ascii (no_comment text plain) ∙ plain_ascii text plain in
    rw (statement, ascii, instruction_head text named colon, code, behind_instruction text named) refl

-- ---- a shown instruction as a line

abbrev form_shown : Instr → ℕ → List ℕ
form_shown i here = form_in (operands_of (showing_of i here).mnemonic.operation) (showing_of i here).form

no_colon : (form numbers : List ℕ) → begins_with 58 (operands_text form numbers) ≡ false
no_colon [] numbers = refl
no_colon (sign ∷ form) numbers = refl

pub instruction_again : (word : ℕ) (i : Instr) (site : Site) (spot : Spot) → word < 2 ^ 32 → site.here % 4 ≡ 0 → site.here < 2 ^ 32 → spot.in_data ≡ false
    → meaning table word ≡ Ok i → line_piece site spot (shown_word word site.here) ≡ Ok (code_word word)
instruction_again word i site spot word_fits aligned here_fits code meant =
    let formed : IsFormed i = meant_is_formed word i word_fits meant in
    let text : List ℕ = instruction_text i site.here in
    let colon : begins_with 58 (after_word (instruction_text i site.here)) ≡ false =
    ap (begins_with 58) (shown_rest i site.here) ∙ no_colon (form_shown i site.here) (showing_of i site.here).numbers in
    ap (λ m. line_piece site spot (shown word site.here m)) meant
    ∙ as_instruction site spot (instruction_text i site.here) code (all_plain (instruction_text i site.here) (text_shown i site.here formed)) (shown_name i site.here) colon
    ∙ ap (λ rest. instruction_from site (parts rest) (mnemonic_of (front_word (instruction_text i site.here)))) (shown_rest i site.here)
    ∙ ap (instruction_from site (parts (operands_shown i site.here))) (ap mnemonic_of (shown_front i site.here) ∙ mnemonic_again i site.here formed)
    ∙ ap encoded (formed_again i site aligned here_fits formed)
    ∙ ap with_word (means_encoding i word word_fits meant)

-- ---- a word that means no instruction, as a line

hex_plain : (value : ℕ) → value < 16 → is_plain (hex_digit value) ≡ true
hex_plain value h = grind (arith, h)

plain_append : (xs ys : List ℕ) → list_all is_plain xs ≡ true → list_all is_plain ys ≡ true → list_all is_plain (xs ++ ys) ≡ true
plain_append [] ys h k = k
plain_append (code ∷ xs) ys h k =
    both (first_of (is_plain code) (list_all is_plain xs) h) (plain_append xs ys (second_of (is_plain code) (list_all is_plain xs) h) k)

plain_half : (half : ℕ) → half < 65536 → list_all is_plain (half_text half) ≡ true
unfolding half_text
plain_half half h =
    both (hex_plain (half / 4096) (omega (arith, h)))
    (both (hex_plain (half / 256 % 16) (omega (arith, h)))
    (both (hex_plain (half / 16 % 16) (omega (arith, h)))
    (both (hex_plain (half % 16) (omega (arith, h))) refl)))

plain_word : (word : ℕ) → word < 2 ^ 32 → list_all is_plain (word_text word) ≡ true
unfolding word_text
plain_word word h = plain_append (half_text (word / 65536)) (half_text (word % 65536)) (plain_half (word / 65536) (omega (arith, h))) (plain_half (word % 65536) (omega (arith, h)))

plain_directive : (word : ℕ) → word < 2 ^ 32 → list_all is_plain (directive_text word) ≡ true
plain_directive word h = plain_append (codes ".word 0x") (word_text word) refl (plain_word word h)

directive_front : (word : ℕ) → word < 2 ^ 32 → front_of (directive_text word) ≡ directive_text word
unfolding after_blanks
directive_front word h = ap after_blanks (no_comment (directive_text word) (plain_directive word h))

directive_no_label : (word : ℕ) → has_label (directive_text word) ≡ false
unfolding front_word
directive_no_label word = refl

directive_statement : (word : ℕ) → word < 2 ^ 32 → statement_of (directive_text word) ≡ directive_text word
directive_statement word h =
    ap (λ t. if has_label t then after_blanks (drop 1 (after_word t)) else t) (directive_front word h)
    ∙ ap (λ b. if b then after_blanks (drop 1 (after_word (directive_text word))) else directive_text word) (directive_no_label word)

directive_head : (word : ℕ) → head_of (directive_text word) ≡ head.Word
unfolding front_word
directive_head word = refl

directive_operands : (word : ℕ) → operands_in (directive_text word) ≡ 32 ∷ 48 ∷ 120 ∷ word_text word
unfolding after_word
directive_operands word = refl

number_parts_alone : (word : ℕ) → word < 2 ^ 32 → parts (48 ∷ 120 ∷ word_text word) ≡ Word (48 ∷ 120 ∷ word_text word) ∷ []
unfolding written number_text pieces number_parts
number_parts_alone word h =
    ap parts (sym (append-nil (48 ∷ 120 ∷ word_text word)))
    ∙ parts_alone (codes "x") (word ∷ []) refl (both (lt-ltb word (2 ^ 32) h) refl)

space_parts : (text : List ℕ) → parts (32 ∷ text) ≡ parts text
unfolding parts
space_parts text = refl

number_chosen : (word : ℕ) (text : List ℕ) → number_of text ≡ Some word
    → chosen (codes "n|l") (Word text ∷ []) ≡ Some (record { form = 0; fields = record { numbers = word ∷ []; name = [] } })
unfolding chosen_from takes_from takes_sign takes_at_word
number_chosen word text h = rw h refl

pub directive_again : (word : ℕ) (site : Site) (spot : Spot) → word < 2 ^ 32 → spot.in_data ≡ false
    → line_piece site spot (directive_text word) ≡ Ok (code_word word)
directive_again word site spot fits code =
    let ascii : is_ascii (before_comment (directive_text word)) ≡ true =
    ap is_ascii (no_comment (directive_text word) (plain_directive word fits)) ∙ plain_ascii (directive_text word) (plain_directive word fits) in
    let operands : parts (operands_in (directive_text word)) ≡ Word (48 ∷ 120 ∷ word_text word) ∷ [] =
    ap parts (directive_operands word) ∙ space_parts (48 ∷ 120 ∷ word_text word) ∙ number_parts_alone word fits in
    rw (directive_statement word fits, ascii, directive_head word, code, operands, number_chosen word (48 ∷ 120 ∷ word_text word) (word_again word fits), lt-ltb word (2 ^ 32) fits) refl
