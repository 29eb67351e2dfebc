-- Only proofs and inner contracts need these words.
-- What a call comes to, before anything is said of it.
use Rattle.std.specs.Prelude.{◌≡◌, Option, None, codes}
use Rattle.version_memory.specs.declared.passes.VersionStory.{VersionStory}
use Rattle.llsc_host.specs.Said.{refusal_text}
use Rattle.llsc_host.specs.declared.host.Host.{Ghosts}
use Rattle.llsc_host.specs.declared.host.ReadFault.{ReadFault}
use Rattle.llsc_host.specs.declared.host.ReadFault.TheVariants.{Failed, FileTooLong, Memory}
use Rattle.llsc_host.specs.Writes.{KeepsReads}
use Rattle.llsc_words.specs.Request.{Request}
use Rattle.llsc_call.specs.Answer.{IsAnswer, ReadFailed}
use Rattle.llsc_call.specs.inner.Outcome.{Gives, IsOneAnswer}
use Rattle.llsc_call.specs.Run.{told}
use Rattle.llsc_call.specs.declared.outcome.Outcome.{Outcome}
use Rattle.llsc_call.specs.declared.outcome.Outcome.TheVariants.{NoRequest, NoMemory, Unread}

-- what comes of a file that could not be had
abbrev pub IsUnread : ReadFault → Outcome → Type 0
IsUnread Failed outcome = outcome ≡ Unread
IsUnread FileTooLong outcome = Gives (λ status text. (status ≡ 4) × (text ≡ refusal_text (codes "FileTooLong"))) outcome
IsUnread Memory outcome = outcome ≡ NoMemory

-- what a call that asks for that, or for nothing, comes to with a story, or none: the words are refused, a read failed that was
-- due, memory is wanting, or the request is answered; and but for the failed read the host's reads are as they were
pub data Comes {S : Type 0} (host : Ghosts S) (old new : S) (request : Option Request) (outcome : Outcome) (story : Option VersionStory) : Type 0 where
  refused : request ≡ None → outcome ≡ NoRequest → story ≡ None → KeepsReads host old new → Comes host old new request outcome story
  unread : ReadFailed (host.file old) request (host.read_faults old) (host.read_faults new) (host.lost new) → outcome ≡ Unread → story ≡ None
      → Comes host old new request outcome story
  wanting : outcome ≡ NoMemory → story ≡ None → KeepsReads host old new → Comes host old new request outcome story
  answered : IsOneAnswer (IsAnswer (host.file old) request (told story)) outcome → KeepsReads host old new → Comes host old new request outcome story
