-- What a run comes to.
use Rattle.std.specs.Prelude.{ℕ, max, Bool, not, Ok, Err}
use Rattle.channel_laws.specs.declared.calls.Done.TheVariants.{Injected, Moved, Collected}
use Rattle.channel_laws.specs.declared.records.Record.{Record}
use Rattle.channel_laws.specs.Calls.{Answer}
use Rattle.channel_laws.specs.Table.{is_empty}

-- the moves of a packet that was handed out, and 0 where none was
abbrev pub moves_of : Answer → ℕ
moves_of (Ok Injected) = 0
moves_of (Ok Moved) = 0
moves_of (Ok (Collected x)) = x.moves
moves_of (Err x) = 0

-- the longer of a way and that of an answer's packet
abbrev pub longer : ℕ → Answer → ℕ
longer most a = max most (moves_of a)

-- a record with a packet
abbrev pub holds : Record → Bool
holds x = not (is_empty x)
