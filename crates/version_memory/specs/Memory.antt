-- What contracts see of the memory, its passes and its story. This project's own.
use Rattle.std.specs.Prelude.{ℕ, Bool, List}
use Rattle.history.specs.declared.entry.Entry.{Entry}
use Rattle.atomic_table.specs.Seated.{TableId}
use Rattle.shared_memory.specs.Origin.{Origin}
use Rattle.shared_memory.specs.Passes.{marked}
use Rattle.version_memory.specs.declared.memory.VersionMemory.{VersionMemory}
use Rattle.version_memory.specs.declared.passes.VersionPass.{VersionPass}
use Rattle.version_memory.specs.declared.passes.VersionStory.{VersionStory}
use Rattle.version_rule.specs.Kept.{origin_of}

-- what a memory was made with
abbrev pub memory_origin : VersionMemory → Origin
memory_origin memory = origin_of memory.table.shared.key

-- which memory it is
abbrev pub memory_id : VersionMemory → TableId
memory_id memory = memory.table.shared.table_id

-- the memory that made a pass
abbrev pub pass_home : VersionPass → TableId
pass_home pass = pass.seat.table_id

-- the numbers that a pass holds
abbrev pub pass_numbers : VersionPass → ℕ → Bool
pass_numbers pass = marked pass.seat.me.0.numbers

-- what a pass has seen
abbrev pub pass_seen : VersionPass → List Entry
pass_seen pass = pass.seat.me.0.seen

-- the history of a story
abbrev pub story_history : VersionStory → List Entry
story_history story = story.of.value.me.0.seen
