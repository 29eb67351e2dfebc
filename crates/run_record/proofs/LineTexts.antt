-- The line of an access: its text, and the text read again.
use Rattle.std.proofs.Common.{◌≡◌, ℕ, ◌<◌, ◌^◌, nat_lt, if◌then◌else◌, true, List, [], ◌∷◌, ◌++◌, append_assoc, Option, Some, None, ◌⊎◌, refl, sym, ap, subst, ◌∙◌, arith, inl, inr, lit<}
use Rattle.std.specs.Prelude.{codes}
use Rattle.std.specs.Fmt.{decimal}
use Rattle.std.proofs.lemmas.Bool.{and_parts, lt-ltb, ltb-true}
use Rattle.llsc_base.specs.Memory.{is_aligned, size_bytes}
use Rattle.llsc_base.specs.declared.access.Size.{Size}
use Rattle.llsc_base.specs.declared.access.Size.TheVariants.{B1, B2, B4, B8}
use Rattle.llsc_base.specs.declared.access.Place.{Place}
use Rattle.history.specs.declared.entry.Access.{Access}
use Rattle.history.specs.declared.entry.Deed.{Deed}
use Rattle.history.specs.declared.entry.Deed.TheVariants.{Load, LoadEx, Store, StoreEx, StoreFail, Clear}
use Rattle.number_text.specs.Decimal.{plain_number}
use Rattle.number_text.specs.Hexadecimal.{long_number, long_text, word_number, word_text}
use Rattle.number_text.proofs.PlainTexts.{plain_text, text_plain}
use Rattle.number_text.proofs.HexTexts.{long_read, read_long, read_word, word_read}
use Rattle.run_record.specs.Fields.{Read, ◌>>=◌, after, field}
use Rattle.run_record.specs.Fault.{HasLine}
use Rattle.run_record.specs.Limits.{IsFormed}
use Rattle.history.specs.Accesses.{nowhere}
use Rattle.run_record.specs.Reading.{clear_of, clear_or, deed_of, is_whole, line_access, object_access, size_of}
use Rattle.run_record.specs.Text.{deed_text, deed_word, line_text, object_text, size_word}
use Rattle.run_record.proofs.Options.{bind_goes, bind_some, if_only, some_same}
use Rattle.run_record.proofs.FieldTexts.{after_again, after_takes, decimal_lacks, field_again, field_takes, long_lacks, word_lacks}
use Rattle.run_record.proofs.WordTexts.{HasObject, deed_again, deed_lacks, deed_takes, no_clear, object_is_no_clear, size_again, size_lacks, size_takes}

-- a deed with an object
pub with_object : (deed : Deed) (access : Access) → HasObject deed → deed_text deed access ≡ deed_word deed ++ object_text access
with_object Load access h = refl
with_object LoadEx access h = refl
with_object Store access h = refl
with_object StoreEx access h = refl
with_object StoreFail access h = refl
with_object Clear access h = elim h [ ]

-- parts behind one another
beside : (front back rest : List ℕ) (code : ℕ) → (front ++ code ∷ back) ++ rest ≡ front ++ code ∷ (back ++ rest)
beside front back rest code = append_assoc front (code ∷ back) rest

-- an object, part by part

object_flat : (size addr value : List ℕ) → 32 ∷ (size ++ (32 ∷ []) ++ addr ++ (32 ∷ []) ++ value) ≡ 32 ∷ (size ++ 32 ∷ (addr ++ 32 ∷ value))
object_flat size addr value =
    let c : List ℕ = 32 ∷ [] in
    ap (λ t. 32 ∷ t) (append_assoc (size ++ c ++ addr) c value ∙ append_assoc (size ++ c) addr (32 ∷ value) ∙ append_assoc size c (addr ++ 32 ∷ value))

-- the text of an access with an object, part by part
object_parts : (access : Access) (rest : List ℕ) → HasObject access.deed
    → deed_text access.deed access ++ 10 ∷ rest
    ≡ deed_word access.deed ++ 32 ∷ (size_word access.place.size ++ 32 ∷ (word_text access.place.addr ++ 32 ∷ (long_text access.value ++ 10 ∷ rest)))
object_parts access rest h =
    let d = deed_word access.deed in
    let s = size_word access.place.size in
    let a = word_text access.place.addr in
    let v = long_text access.value in
    let object : object_text access ≡ 32 ∷ (s ++ 32 ∷ (a ++ 32 ∷ v)) = object_flat s a v in
    ap (λ t. t ++ 10 ∷ rest) (with_object access.deed access h ∙ ap (λ t. d ++ t) object)
    ∙ beside d (s ++ 32 ∷ (a ++ 32 ∷ v)) (10 ∷ rest) 32
    ∙ ap (λ t. d ++ 32 ∷ t) (beside s (a ++ 32 ∷ v) (10 ∷ rest) 32 ∙ ap (λ t. s ++ 32 ∷ t) (beside a v (10 ∷ rest) 32))

-- the steps of reading an access with an object

abbrev checked : Access → List ℕ → Read Access
checked access rest = if is_whole access then Some (access, rest) else None

abbrev at_value : ℕ → Deed → Size → ℕ → ℕ × List ℕ → Read Access
at_value thread deed size addr value = checked (record { thread = thread; deed = deed; place = record { addr = addr; size = size }; value = value.0 }) value.1

abbrev at_addr : ℕ → Deed → Size → ℕ × List ℕ → Read Access
at_addr thread deed size addr = field long_number 10 addr.1 >>= at_value thread deed size addr.0

abbrev at_size : ℕ → Deed → Size × List ℕ → Read Access
at_size thread deed size = field word_number 32 size.1 >>= at_addr thread deed size.0

abbrev at_deed : ℕ → Deed × List ℕ → Read Access
at_deed thread deed = field size_of 32 deed.1 >>= at_size thread deed.0

object_steps : (thread : ℕ) (bytes : List ℕ) → object_access thread bytes ≡ (field deed_of 32 bytes >>= at_deed thread)
object_steps thread bytes = refl

-- an access of bytes behind a thread's number
pub record Tells (bytes : List ℕ) (number : ℕ) (r : Access × List ℕ) : Type 0 where
  pub thread : r.0.thread ≡ number
  pub formed : IsFormed r.0
  pub text : bytes ≡ deed_text r.0.deed r.0 ++ 10 ∷ r.1

words_join : (bytes d size s addr a value v rest : List ℕ) (one two three four : List ℕ)
    → bytes ≡ d ++ 32 ∷ size → d ≡ one → size ≡ s ++ 32 ∷ addr → s ≡ two → addr ≡ a ++ 32 ∷ value → a ≡ three → value ≡ v ++ 10 ∷ rest → v ≡ four
    → bytes ≡ one ++ 32 ∷ (two ++ 32 ∷ (three ++ 32 ∷ (four ++ 10 ∷ rest)))
words_join bytes d size s addr a value v rest one two three four h1 e1 h2 e2 h3 e3 h4 e4 =
    h1 ∙ ap (λ t. t ++ 32 ∷ size) e1 ∙ ap (λ t. one ++ 32 ∷ t) (h2 ∙ ap (λ t. t ++ 32 ∷ addr) e2 ∙ ap (λ t. two ++ 32 ∷ t)
    (h3 ∙ ap (λ t. t ++ 32 ∷ value) e3 ∙ ap (λ t. three ++ 32 ∷ t) (h4 ∙ ap (λ t. t ++ 10 ∷ rest) e4)))

pub object_takes : (thread : ℕ) (bytes : List ℕ) (r : Access × List ℕ) → object_access thread bytes ≡ Some r → Tells bytes thread r
object_takes thread bytes r h =
    let deed = bind_some (field deed_of 32 bytes) (at_deed thread) r h in
    let size = bind_some (field size_of 32 deed.0.1) (at_size thread deed.0.0) r deed.2 in
    let addr = bind_some (field word_number 32 size.0.1) (at_addr thread deed.0.0 size.0.0) r size.2 in
    let value = bind_some (field long_number 10 addr.0.1) (at_value thread deed.0.0 size.0.0 addr.0.0) r addr.2 in
    let access : Access = record { thread = thread; deed = deed.0.0; place = record { addr = addr.0.0; size = size.0.0 }; value = value.0.0 } in
    let check = if_only (is_whole access) (access, value.0.1) r value.2 in
    let both = and_parts (is_aligned access.place) (nat_lt access.value (256 ^ size_bytes access.place.size)) check.0 in
    let deed_is = field_takes deed_of 32 bytes deed.0 deed.1 in
    let size_is = field_takes size_of 32 deed.0.1 size.0 size.1 in
    let addr_is = field_takes word_number 32 size.0.1 addr.0 addr.1 in
    let value_is = field_takes long_number 10 addr.0.1 value.0 value.1 in
    let deed_named = deed_takes deed_is.word deed.0.0 deed_is.means in
    let addr_read = word_read addr_is.word addr.0.0 addr_is.means in
    let value_read = long_read value_is.word value.0.0 value_is.means in
    let join = words_join bytes deed_is.word deed.0.1 size_is.word size.0.1 addr_is.word addr.0.1 value_is.word value.0.1
    (deed_word deed.0.0) (size_word size.0.0) (word_text addr.0.0) (long_text value.0.0)
    deed_is.text deed_named.0 size_is.text (size_takes size_is.word size.0.0 size_is.means) addr_is.text addr_read.0 value_is.text value_read.0 in
    let told : Tells bytes thread (access, value.0.1) = record {
      thread = refl;
      formed = record {
        addr = addr_read.1;
        aligned = both.0;
        fits = ltb-true access.value (256 ^ size_bytes access.place.size) both.1;
        clear = λ e. absurd (object_is_no_clear deed.0.0 deed_named.1 e);
      };
      text = join ∙ sym (object_parts access value.0.1 deed_named.1);
    } in
    subst (Tells bytes thread) check.1 told

-- a value that fits its size has 64 bits
pub fits_long : (size : Size) (value : ℕ) → value < 256 ^ size_bytes size → value < 2 ^ 64
fits_long B1 value h = omega (arith, h)
fits_long B2 value h = omega (arith, h)
fits_long B4 value h = omega (arith, h)
fits_long B8 value h = omega (arith, h)

pub whole : (access : Access) → IsFormed access → is_whole access ≡ true
whole access formed = rw (formed.aligned, lt-ltb access.value (256 ^ size_bytes access.place.size) formed.fits) refl

pub object_again : (access : Access) (rest : List ℕ) → HasObject access.deed → IsFormed access
    → object_access access.thread (deed_text access.deed access ++ 10 ∷ rest) ≡ Some (access, rest)
object_again access rest has formed =
    let s = size_word access.place.size in
    let a = word_text access.place.addr in
    let v = long_text access.value in
    let at_v : List ℕ = v ++ 10 ∷ rest in
    let at_a : List ℕ = a ++ 32 ∷ at_v in
    let at_s : List ℕ = s ++ 32 ∷ at_a in
    let d : List ℕ = deed_word access.deed ++ 32 ∷ at_s in
    let long = fits_long access.place.size access.value formed.fits in
    ap (object_access access.thread) (object_parts access rest has)
    ∙ bind_goes (field deed_of 32 d) (at_deed access.thread) (access.deed, at_s)
    (field_again deed_of 32 (deed_word access.deed) at_s access.deed (deed_again access.deed has) (deed_lacks access.deed))
    ∙ bind_goes (field size_of 32 at_s) (at_size access.thread access.deed) (access.place.size, at_a)
    (field_again size_of 32 s at_a access.place.size (size_again access.place.size) (size_lacks access.place.size))
    ∙ bind_goes (field word_number 32 at_a) (at_addr access.thread access.deed access.place.size) (access.place.addr, at_v)
    (field_again word_number 32 a at_v access.place.addr (read_word access.place.addr formed.addr) (word_lacks 32 access.place.addr (omega arith) formed.addr))
    ∙ bind_goes (field long_number 10 at_v) (at_value access.thread access.deed access.place.size access.place.addr) (access.value, rest)
    (field_again long_number 10 v rest access.value (read_long access.value long) (long_lacks 10 access.value (omega arith) long))
    ∙ ap (λ t. if t then Some (access, rest) else None) (whole access formed)

-- a line, part by part

line_flat : (thread deed rest : List ℕ) → (thread ++ (32 ∷ []) ++ deed ++ (10 ∷ [])) ++ rest ≡ thread ++ 32 ∷ (deed ++ 10 ∷ rest)
line_flat thread deed rest =
    let c : List ℕ = 32 ∷ [] in
    append_assoc (thread ++ c ++ deed) (10 ∷ []) rest ∙ append_assoc (thread ++ c) deed (10 ∷ rest) ∙ append_assoc thread c (deed ++ 10 ∷ rest)

pub line_parts : (access : Access) (rest : List ℕ) → line_text access ++ rest ≡ decimal access.thread ++ 32 ∷ (deed_text access.deed access ++ 10 ∷ rest)
unfolding line_text
line_parts access rest = line_flat (decimal access.thread) (deed_text access.deed access) rest

abbrev at_thread : ℕ × List ℕ → Read Access
at_thread thread = clear_or thread.0 (after (codes "clear\n") thread.1) thread.1

line_steps : (bytes : List ℕ) → line_access bytes ≡ (field plain_number 32 bytes >>= at_thread)
unfolding line_access
line_steps bytes = refl

-- a clear

clear_formed : (thread : ℕ) → IsFormed (clear_of thread)
clear_formed thread = record { addr = lit< tt; aligned = refl; fits = lit< tt; clear = λ e. (refl, refl) }

clear_takes : (thread : ℕ) (front : Option (List ℕ)) (bytes : List ℕ) (r : Access × List ℕ) → after (codes "clear\n") bytes ≡ front
    → clear_or thread front bytes ≡ Some r → Tells bytes thread r
clear_takes thread None bytes r e h = object_takes thread bytes r h
clear_takes thread (Some rest) bytes r e h =
    let told : Tells bytes thread (clear_of thread, rest) =
    record { thread = refl; formed = clear_formed thread; text = after_takes (codes "clear\n") bytes rest e } in
    subst (Tells bytes thread) (some_same (clear_of thread, rest) r h) told

of_parts : ℕ → Deed → Place → ℕ → Access
of_parts thread deed place value = record { thread = thread; deed = deed; place = place; value = value }

clear_is : (access : Access) → IsFormed access → access.deed ≡ Clear → access ≡ clear_of access.thread
unfolding of_parts
clear_is access formed e =
    let parts = formed.clear e in
    ap (λ d. of_parts access.thread d access.place access.value) e
    ∙ ap (λ p. of_parts access.thread Clear p access.value) parts.0
    ∙ ap (λ v. of_parts access.thread Clear nowhere v) parts.1

deed_cases : (deed : Deed) → (deed ≡ Clear) ⊎ HasObject deed
deed_cases Clear = inl refl
deed_cases Load = inr (no_clear Load (λ e. cc))
deed_cases LoadEx = inr (no_clear LoadEx (λ e. cc))
deed_cases Store = inr (no_clear Store (λ e. cc))
deed_cases StoreEx = inr (no_clear StoreEx (λ e. cc))
deed_cases StoreFail = inr (no_clear StoreFail (λ e. cc))

no_clear_here : (deed : Deed) (access : Access) (rest : List ℕ) → HasObject deed → after (codes "clear\n") (deed_text deed access ++ rest) ≡ None
no_clear_here Load access rest h = refl
no_clear_here LoadEx access rest h = refl
no_clear_here Store access rest h = refl
no_clear_here StoreEx access rest h = refl
no_clear_here StoreFail access rest h = refl
no_clear_here Clear access rest h = elim h [ ]

deed_again_here : (access : Access) (rest : List ℕ) → IsFormed access → at_thread (access.thread, deed_text access.deed access ++ 10 ∷ rest) ≡ Some (access, rest)
deed_again_here access rest formed =
    elim (deed_cases access.deed) [
      | inl e ↦
          let is = clear_is access formed e in
          let text : List ℕ = codes "clear\n" ++ rest in
          let same : deed_text access.deed access ++ 10 ∷ rest ≡ text = ap (λ a. deed_text a.deed a ++ 10 ∷ rest) is in
          ap (λ t. at_thread (access.thread, t)) same
          ∙ ap (λ front. clear_or access.thread front text) (after_again (codes "clear\n") rest)
          ∙ ap (λ a. Some (a, rest)) (sym is)
      | inr has ↦
          let text : List ℕ = deed_text access.deed access ++ 10 ∷ rest in
          ap (λ front. clear_or access.thread front text) (no_clear_here access.deed access (10 ∷ rest) has) ∙ object_again access rest has formed
    ]

-- the line that is read has this text, and a line's text is read

thread_joins : (bytes word later text : List ℕ) (read number : ℕ) → bytes ≡ word ++ 32 ∷ later → word ≡ decimal read → number ≡ read → later ≡ text
    → bytes ≡ decimal number ++ 32 ∷ text
thread_joins bytes word later text read number h e n l =
    h ∙ ap (λ w. w ++ 32 ∷ later) (e ∙ ap decimal (sym n)) ∙ ap (λ t. decimal number ++ 32 ∷ t) l

pub line_takes : (bytes : List ℕ) (r : Access × List ℕ) → line_access bytes ≡ Some r → HasLine bytes r.0 r.1
line_takes bytes r h =
    let thread = bind_some (field plain_number 32 bytes) at_thread r (sym (line_steps bytes) ∙ h) in
    let is = field_takes plain_number 32 bytes thread.0 thread.1 in
    let read = plain_text is.word thread.0.0 is.means in
    let told = clear_takes thread.0.0 (after (codes "clear\n") thread.0.1) thread.0.1 r refl thread.2 in
    record {
      thread = omega (arith, told.thread, read.1);
      formed = told.formed;
      text = thread_joins bytes is.word thread.0.1 (deed_text r.0.deed r.0 ++ 10 ∷ r.1) thread.0.0 r.0.thread is.text read.0 told.thread told.text ∙ sym (line_parts r.0 r.1);
    }

pub line_again : (bytes : List ℕ) (access : Access) (rest : List ℕ) → HasLine bytes access rest → line_access bytes ≡ Some (access, rest)
line_again bytes access rest has =
    let later : List ℕ = deed_text access.deed access ++ 10 ∷ rest in
    let text : List ℕ = decimal access.thread ++ 32 ∷ later in
    ap line_access (has.text ∙ line_parts access rest) ∙ line_steps text
    ∙ bind_goes (field plain_number 32 text) at_thread (access.thread, later)
    (field_again plain_number 32 (decimal access.thread) later access.thread (text_plain access.thread has.thread) (decimal_lacks 32 access.thread (omega arith) has.thread))
    ∙ deed_again_here access rest has.formed
