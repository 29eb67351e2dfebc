-- A command has one name.
use Rattle.std.proofs.Common.{◌≡◌, ◌∙◌, ◌⊎◌, ℕ, Bool, true, false, List, Option, Some, if◌then◌else◌, codes, refl, subst, inl, inr}
use Rattle.std.specs.Str.{bytes_eq}
use Rattle.std.proofs.lemmas.Slice.Eq.{bytes_eq-Decides}
use Rattle.clap.proofs.OnLiterals.{clap_on_literals}
use Rattle.llsc_words.specs.declared.names.CommandName.{CommandName}
use Rattle.llsc_words.specs.declared.names.CommandName.TheVariants.{Solo, Run, Pool, Record, Asm, Dis, Trace, Check, Explain, Load}
use Rattle.llsc_words.specs.Names.{command_named}
use Rattle.llsc_words.specs.Worked.{name_of}

pub own_name : (command : CommandName) → command_named (name_of command) ≡ Some command
unfolding clap_on_literals
own_name Solo = refl
own_name Run = refl
own_name Pool = refl
own_name Record = refl
own_name Asm = refl
own_name Dis = refl
own_name Trace = refl
own_name Check = refl
own_name Explain = refl
own_name Load = refl

-- a test gives its command, or those behind it give theirs
given_by : (holds : Bool) (own command : CommandName) (others : Option CommandName) → (if holds then Some own else others) ≡ Some command
    → ((holds ≡ true) × (own ≡ command)) ⊎ (others ≡ Some command)
given_by true own command others is = inl (refl, cc)
given_by false own command others is = inr is

-- a word is the name of the command that it gives, where the tests behind this one say so of theirs
named_by : (word name : List ℕ) (own command : CommandName) (others : Option CommandName) → name ≡ name_of own
    → (others ≡ Some command → word ≡ name_of command)
    → (if bytes_eq word name then Some own else others) ≡ Some command → word ≡ name_of command
named_by word name own command others names behind is = elim (given_by (bytes_eq word name) own command others is) [
  | inl here ↦ let same : word ≡ name = (bytes_eq-Decides word name).0 here.0 in subst (λ c. word ≡ name_of c) here.1 (same ∙ names)
  | inr there ↦ behind there
]

pub no_other_name : (word : List ℕ) (command : CommandName) → command_named word ≡ Some command → word ≡ name_of command
no_other_name word command =
    named_by word (codes "solo") Solo command _ refl (
    named_by word (codes "run") Run command _ refl (
    named_by word (codes "pool") Pool command _ refl (
    named_by word (codes "record") Record command _ refl (
    named_by word (codes "asm") Asm command _ refl (
    named_by word (codes "dis") Dis command _ refl (
    named_by word (codes "trace") Trace command _ refl (
    named_by word (codes "check") Check command _ refl (
    named_by word (codes "explain") Explain command _ refl (
    named_by word (codes "load") Load command _ refl (λ none. absurd cc))))))))))
