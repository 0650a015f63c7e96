-- The kinds of answers.
use Rattle.std.specs.Prelude.{Bool, true, false, Ok, Err}
use Rattle.channel_laws.specs.declared.calls.Done.TheVariants as done
use Rattle.channel_laws.specs.Calls.{Answer}
use Rattle.runs.specs.declared.counting.Kind.{Kind}
use Rattle.runs.specs.declared.counting.Kind.TheVariants as kinds

-- whether an answer is of a kind
abbrev pub of_kind : Kind → Answer → Bool
of_kind kinds.Injected (Ok done.Injected) = true
of_kind kinds.Injected (Ok done.Moved) = false
of_kind kinds.Injected (Ok (done.Collected x)) = false
of_kind kinds.Injected (Err x) = false
of_kind kinds.Moved (Ok done.Injected) = false
of_kind kinds.Moved (Ok done.Moved) = true
of_kind kinds.Moved (Ok (done.Collected x)) = false
of_kind kinds.Moved (Err x) = false
of_kind kinds.Collected (Ok done.Injected) = false
of_kind kinds.Collected (Ok done.Moved) = false
of_kind kinds.Collected (Ok (done.Collected x)) = true
of_kind kinds.Collected (Err x) = false
of_kind kinds.Refused (Ok done.Injected) = false
of_kind kinds.Refused (Ok done.Moved) = false
of_kind kinds.Refused (Ok (done.Collected x)) = false
of_kind kinds.Refused (Err x) = true

-- the kind of an answer
abbrev pub kind_of : Answer → Kind
kind_of (Ok done.Injected) = kinds.Injected
kind_of (Ok done.Moved) = kinds.Moved
kind_of (Ok (done.Collected x)) = kinds.Collected
kind_of (Err x) = kinds.Refused
