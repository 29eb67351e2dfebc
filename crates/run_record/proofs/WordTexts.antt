-- The words of deeds and sizes, read again.
use Rattle.std.proofs.Common.{◌≡◌, ℕ, true, List, Some, refl, ap, subst, ◌∙◌, inl, inr}
use Rattle.std.specs.Prelude.{codes}
use Rattle.std.specs.Str.{bytes_eq}
use Rattle.llsc_base.specs.declared.access.Size.{Size}
use Rattle.llsc_base.specs.declared.access.Size.TheVariants.{B1, B2, B4, B8}
use Rattle.history.specs.declared.entry.Deed.{Deed}
use Rattle.history.specs.declared.entry.Deed.TheVariants.{Load, LoadEx, Store, StoreEx, StoreFail, Clear}
use Rattle.run_record.specs.Reading.{deed_of, size_of}
use Rattle.run_record.specs.Text.{deed_word, size_word}
use Rattle.run_record.proofs.Options.{if_some}
use Rattle.run_record.proofs.Cuts.{lacks}
use Rattle.run_record.proofs.FieldTexts.{same_bytes}

-- a deed that has an object
pub data HasObject : Deed → Type 0 where
  load : HasObject Load
  load_ex : HasObject LoadEx
  store : HasObject Store
  store_ex : HasObject StoreEx
  store_fail : HasObject StoreFail

pub no_clear : (deed : Deed) → (deed ≡ Clear → ⊥) → HasObject deed
no_clear Load h = load
no_clear LoadEx h = load_ex
no_clear Store h = store
no_clear StoreEx h = store_ex
no_clear StoreFail h = store_fail
no_clear Clear h = absurd (h refl)

pub object_is_no_clear : (deed : Deed) → HasObject deed → deed ≡ Clear → ⊥
object_is_no_clear Load h e = cc
object_is_no_clear LoadEx h e = cc
object_is_no_clear Store h e = cc
object_is_no_clear StoreEx h e = cc
object_is_no_clear StoreFail h e = cc
object_is_no_clear Clear h e = elim h [ ]

-- the word of a deed

deed_named : (word : List ℕ) (name : List ℕ) (named deed : Deed) → HasObject named → name ≡ deed_word named
    → (bytes_eq word name ≡ true) × (named ≡ deed) → (word ≡ deed_word deed) × HasObject deed
deed_named word name named deed has is h =
    (same_bytes word name h.0 ∙ is ∙ ap deed_word h.1, subst HasObject h.1 has)

pub deed_takes : (word : List ℕ) (deed : Deed) → deed_of word ≡ Some deed → (word ≡ deed_word deed) × HasObject deed
deed_takes word deed h =
    elim (if_some (bytes_eq word (codes "load")) Load deed _ h) [
      | inl is ↦ deed_named word (codes "load") Load deed load refl is
      | inr h2 ↦ elim (if_some (bytes_eq word (codes "loadex")) LoadEx deed _ h2) [
        | inl is ↦ deed_named word (codes "loadex") LoadEx deed load_ex refl is
        | inr h3 ↦ elim (if_some (bytes_eq word (codes "store")) Store deed _ h3) [
          | inl is ↦ deed_named word (codes "store") Store deed store refl is
          | inr h4 ↦ elim (if_some (bytes_eq word (codes "storeex")) StoreEx deed _ h4) [
            | inl is ↦ deed_named word (codes "storeex") StoreEx deed store_ex refl is
            | inr h5 ↦ elim (if_some (bytes_eq word (codes "fail")) StoreFail deed _ h5) [
              | inl is ↦ deed_named word (codes "fail") StoreFail deed store_fail refl is
              | inr h6 ↦ cc
            ]
          ]
        ]
      ]
    ]

pub deed_again : (deed : Deed) → HasObject deed → deed_of (deed_word deed) ≡ Some deed
deed_again Load h = refl
deed_again LoadEx h = refl
deed_again Store h = refl
deed_again StoreEx h = refl
deed_again StoreFail h = refl
deed_again Clear h = elim h [ ]

pub deed_lacks : (deed : Deed) → lacks 32 (deed_word deed) ≡ true
deed_lacks Load = refl
deed_lacks LoadEx = refl
deed_lacks Store = refl
deed_lacks StoreEx = refl
deed_lacks StoreFail = refl
deed_lacks Clear = refl

-- the word of a size

size_named : (word name : List ℕ) (named size : Size) → name ≡ size_word named
    → (bytes_eq word name ≡ true) × (named ≡ size) → word ≡ size_word size
size_named word name named size is h = same_bytes word name h.0 ∙ is ∙ ap size_word h.1

pub size_takes : (word : List ℕ) (size : Size) → size_of word ≡ Some size → word ≡ size_word size
size_takes word size h =
    elim (if_some (bytes_eq word (codes "1")) B1 size _ h) [
      | inl is ↦ size_named word (codes "1") B1 size refl is
      | inr h2 ↦ elim (if_some (bytes_eq word (codes "2")) B2 size _ h2) [
        | inl is ↦ size_named word (codes "2") B2 size refl is
        | inr h3 ↦ elim (if_some (bytes_eq word (codes "4")) B4 size _ h3) [
          | inl is ↦ size_named word (codes "4") B4 size refl is
          | inr h4 ↦ elim (if_some (bytes_eq word (codes "8")) B8 size _ h4) [
            | inl is ↦ size_named word (codes "8") B8 size refl is
            | inr h5 ↦ cc
          ]
        ]
      ]
    ]

pub size_again : (size : Size) → size_of (size_word size) ≡ Some size
size_again B1 = refl
size_again B2 = refl
size_again B4 = refl
size_again B8 = refl

pub size_lacks : (size : Size) → lacks 32 (size_word size) ≡ true
size_lacks B1 = refl
size_lacks B2 = refl
size_lacks B4 = refl
size_lacks B8 = refl
