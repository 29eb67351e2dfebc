-- A host in memory: what it holds, and what its two calls answer and make of it.
use Rattle.std.specs.Prelude.{◌≡◌, ℕ, ◌+◌, ◌-◌, ◌^◌, ◌==◌, ◌&&◌, nat_lt, nat_le, min, List, ◌++◌, length, take, find, string_bytes, Option, Some, None, is_some, is_none, unwrap_or, Result, Ok, Err, if◌then◌else◌, Bool, Vec, String}
use Rattle.std.specs.Global.{Global}
use Rattle.std.specs.Option.{option_map}
use Rattle.std.specs.Str.{bytes_eq}
use Rattle.llsc_host.specs.declared.host.ReadFault.{ReadFault}
use Rattle.llsc_host.specs.declared.host.ReadFault.TheVariants.{Failed, FileTooLong, Memory}

-- the files by name, the calls that fail with what they let through, the space for writes, and what happened so far
pub record Held : Type 0 where
  pub files : List (String Global × Vec ℕ Global)
  pub failing : List (ℕ × ℕ)
  pub space : ℕ
  pub calls : ℕ
  pub written : List ℕ
  pub read_faults : ℕ
  pub write_faults : ℕ
  pub lost : List ℕ

-- a count one higher, which stays at the end of its type
abbrev pub counted : ℕ → ℕ
counted n = min (n + 1) (2 ^ 64 - 1)

-- the bytes of the first file of that name
abbrev pub file_of : List (String Global × Vec ℕ Global) → List ℕ → Option (List ℕ)
file_of files name = option_map (λ file. file.1.items) (find (λ file. bytes_eq (string_bytes file.0) name) files)

-- how many bytes the call of that number lets through, where it is one that fails: the first pair for it counts
abbrev pub failure_at : List (ℕ × ℕ) → ℕ → Option ℕ
failure_at failing call = option_map (λ pair. pair.1) (find (λ pair. pair.0 == call) failing)

-- the bytes of a file that is there and not longer than that
abbrev pub bytes_within : ℕ → Option (List ℕ) → Result (List ℕ) ReadFault
bytes_within most None = Err Failed
bytes_within most (Some bytes) = if nat_lt most (length bytes) then Err FileTooLong else Ok bytes

-- what a read gives, where there is memory for it
abbrev pub read_of : Held → List ℕ → ℕ → Result (List ℕ) ReadFault
read_of held name most =
    if is_some (failure_at held.failing held.calls) then Err Failed else bytes_within most (file_of held.files name)

-- the answer is that one, or want of memory in place of bytes
abbrev pub IsReadAnswer : Result (List ℕ) ReadFault → Result (Vec ℕ Global) ReadFault → Type 0
IsReadAnswer (Ok bytes) (Ok given) = given.items ≡ bytes
IsReadAnswer (Ok bytes) (Err fault) = fault ≡ Memory
IsReadAnswer (Err fault) result = result ≡ Err fault

-- the host after a read that gave that
abbrev pub after_read : Held → List ℕ → Result (List ℕ) ReadFault → Held
after_read held name (Err Failed) =
    record held { calls = counted held.calls; read_faults = counted held.read_faults; lost = name }
after_read held name _ = record held { calls = counted held.calls }

-- a write of that many bytes succeeds: it is not one that fails, and there is space
abbrev pub goes_through : Held → ℕ → Bool
goes_through held n = is_none (failure_at held.failing held.calls) && nat_le n (held.space - length held.written)

-- how many of that many bytes a write lets through
abbrev pub passed : Held → ℕ → ℕ
passed held n = min (min n (held.space - length held.written)) (unwrap_or (failure_at held.failing held.calls) n)

-- the host after a write of the bytes
abbrev pub after_write : Held → List ℕ → Held
after_write held bytes = record held {
  calls = counted held.calls;
  written = held.written ++ take (passed held (length bytes)) bytes;
  write_faults = if goes_through held (length bytes) then held.write_faults else counted held.write_faults;
}
