-- What stands against a program's file.
use Rattle.std.proofs.Common.{◌≡◌, ℕ, ◌<◌, ◌≤◌, List, length, Option, Some, None, Result, Ok, Err, IfErr, IfOk, refl, subst, arith, codes, nat_lt, true, false, Vec}
use Rattle.std.specs.Global.{Global}
use Rattle.std.specs.Result.{IsErrAnd}
use Rattle.std.proofs.lemmas.Bool.Decides.{nat_tests}
use Rattle.llsc_base.specs.Sizes.{Numbers}
use Rattle.llsc_host.specs.Host.{AreBytes, Rose}
use Rattle.llsc_host.specs.declared.host.Host.{Ghosts}
use Rattle.llsc_host.specs.declared.host.ReadFault.{ReadFault}
use Rattle.llsc_host.specs.declared.host.ReadFault.TheVariants as read
use Rattle.llsc_files.specs.Refusals.{most_program, too_long, size_refusal, IsRefusal}
use Rattle.llsc_files.specs.Programs.{program_refusal_as, refusal_as}
use Rattle.llsc_files.specs.Reads.{Had}
use Rattle.llsc_files.specs.declared.refusals.Refusal.{Refusal}
use Rattle.llsc_files.specs.declared.refusals.Refusal.TheVariants as refusal
use Rattle.llsc_words.specs.declared.formats.Format.{Format}
use Rattle.llsc_words.specs.declared.sets.SetName.{SetName}

-- what is known of an error that is passed on
pub passed_on : {A B : Type 0} {Q P : B → Type 0} → (r : Result A B) → IsErrAnd r Q → ((e : B) → Q e → P e) → IfErr r P
passed_on (Ok x) is more = tt
passed_on (Err e) is more = more e is

-- a refusal by something is one by what that is
pub refused_by : (one two : Option (List ℕ)) (r : Refusal) → ((name : List ℕ) → one ≡ Some name → two ≡ Some name) → IsRefusal one r → IsRefusal two r
refused_by one two (refusal.Said text) more said = (said.0, (more said.0 said.1.0, said.1.1))
refused_by one two refusal.Memory more said = tt

-- a machine that can't be, whatever the file
pub refused_unsized : (set : SetName) (format : Format) (size : Numbers) (file : List ℕ) (r : Refusal) → IsRefusal (size_refusal size) r → IsRefusal (program_refusal_as set format size file) r
refused_unsized set format size file r refused = refused_by (size_refusal size) (program_refusal_as set format size file) r (λ name is. rw is refl) refused

-- a file that is not too long on a machine that can be, which has a fault or has none
pub program_refusal_is : (set : SetName) (format : Format) (size wanted : Numbers) (file : List ℕ) (fault : Option (List ℕ)) → size_refusal wanted ≡ None → size ≡ wanted
    → too_long most_program file ≡ None → refusal_as set format size file ≡ fault → program_refusal_as set format wanted file ≡ fault
program_refusal_is set format size wanted file fault none same short is = rw (none, short) (subst (λ s. refusal_as set format s file ≡ fault) same is)

pub refused_short : (set : SetName) (format : Format) (size wanted : Numbers) (file : List ℕ) (r : Refusal) → size_refusal wanted ≡ None → size ≡ wanted → too_long most_program file ≡ None
    → IsRefusal (refusal_as set format size file) r → IsRefusal (program_refusal_as set format wanted file) r
refused_short set format size wanted file r none same short refused =
    refused_by (refusal_as set format size file) (program_refusal_as set format wanted file) r (λ name is. program_refusal_is set format size wanted file (Some name) none same short is) refused

-- a file of more bytes than that is too long
is_long : (most : ℕ) (file : List ℕ) → most < length file → too_long most file ≡ Some (codes "FileTooLong")
is_long most file long = let test : nat_lt most (length file) ≡ true = grind (arith, nat_tests) in rw test refl

is_short : (most : ℕ) (file : List ℕ) → length file ≤ most → too_long most file ≡ None
is_short most file short = let test : nat_lt most (length file) ≡ false = grind (arith, nat_tests) in rw test refl

-- what a read that the host made came to
pub had_by : {S : Type 0} (host : Ghosts S) (old new : S) (name : List ℕ) (most : ℕ) (result : Result (Vec ℕ Global) ReadFault)
    → IfOk result (λ file. AreBytes (host.file old name) file.items) → IfOk result (λ file. length file.items ≤ most)
    → (result ≡ Err read.FileTooLong → (bytes : List ℕ) × AreBytes (host.file old name) bytes × (most < length bytes))
    → (result ≡ Err read.Failed → Rose (host.read_faults old) (host.read_faults new) × (host.lost new ≡ name))
    → ((result ≡ Err read.Failed → ⊥) → (host.read_faults new ≡ host.read_faults old) × (host.lost new ≡ host.lost old))
    → host.file new ≡ host.file old
    → Had host old new name most result
had_by host old new name most (Ok file) whole fits long cause other same =
    let kept = other (λ is. absurd cc) in
    (record { files = same; read_faults = kept.0; lost = kept.1 }, (whole, is_short most file.items fits))
had_by host old new name most (Err read.Failed) whole fits long cause other same = cause refl
had_by host old new name most (Err read.FileTooLong) whole fits long cause other same =
    let kept = other (λ is. absurd cc) in
    let file = long refl in
    (record { files = same; read_faults = kept.0; lost = kept.1 }, (file.0, (file.1, is_long most file.0 file.2)))
had_by host old new name most (Err read.Memory) whole fits long cause other same =
    let kept = other (λ is. absurd cc) in
    record { files = same; read_faults = kept.0; lost = kept.1 }
