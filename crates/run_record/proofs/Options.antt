-- What is known of an option that has a value.
use Rattle.std.proofs.Common.{◌≡◌, if◌then◌else◌, Bool, true, false, not, Option, Some, None, refl, ap, ◌⊎◌, inl, inr}
use Rattle.run_record.specs.Fields.{◌>>=◌}

pub some_same : {A : Type 0} (x y : A) → Some x ≡ Some y → x ≡ y
some_same x y h = cc

-- each of two steps has a value
pub bind_some : {A B : Type 0} (read : Option A) (next : A → Option B) (y : B) → (read >>= next) ≡ Some y → (x : A) × (read ≡ Some x) × (next x ≡ Some y)
bind_some None next y h = cc
bind_some (Some x) next y h = (x, refl, h)

pub bind_goes : {A B : Type 0} (read : Option A) (next : A → Option B) (x : A) → read ≡ Some x → (read >>= next) ≡ next x
bind_goes read next x h = ap (λ o. o >>= next) h

-- a choice has a value
pub if_some : {A : Type 0} (test : Bool) (x y : A) (other : Option A) → (if test then Some x else other) ≡ Some y
    → ((test ≡ true) × (x ≡ y)) ⊎ (other ≡ Some y)
if_some true x y other h = inl (refl, some_same x y h)
if_some false x y other h = inr h

pub if_only : {A : Type 0} (test : Bool) (x y : A) → (if test then Some x else None) ≡ Some y → (test ≡ true) × (x ≡ y)
if_only true x y h = (refl, some_same x y h)
if_only false x y h = cc

-- what is read where the test holds, and what where it fails

pub if_read : {A : Type 0} (test : Bool) (read : Option A) (y : A) → (if test then read else None) ≡ Some y → (test ≡ true) × (read ≡ Some y)
if_read true read y h = (refl, h)
if_read false read y h = cc

pub else_only : {A : Type 0} (test : Bool) (x y : A) → (if test then None else Some x) ≡ Some y → (test ≡ false) × (x ≡ y)
else_only true x y h = cc
else_only false x y h = (refl, some_same x y h)

pub not_true : (test : Bool) → not test ≡ true → test ≡ false
not_true true h = cc
not_true false h = refl
