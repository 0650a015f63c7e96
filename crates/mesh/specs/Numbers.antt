-- The number of each refusal.
use Rattle.std.specs.Prelude.{◌≡◌, ◌≢◌, ℕ, Ok, Err, Result}
use Rattle.mesh.specs.declared.refusals.Refusal.{Refusal}
use Rattle.mesh.specs.declared.refusals.UnknownNumber.{UnknownNumber}
use Rattle.mesh.specs.declared.refusals.Refusal.TheVariants.{InputEnds, UnknownLetter, OutOfRange, OutOfPlace, OneSet, LinkOutside, LinkTwice, GapUnlinked, ShortBuffer, ZeroState, Outside, Occupied, EmptyBuffer, Damaged, Arrived, NotPermitted, LeavesStack, NotArrived}

abbrev pub number_of : Refusal → ℕ
number_of InputEnds = 1
number_of UnknownLetter = 2
number_of OutOfRange = 3
number_of OutOfPlace = 4
number_of OneSet = 5
number_of LinkOutside = 6
number_of LinkTwice = 7
number_of GapUnlinked = 8
number_of ShortBuffer = 9
number_of ZeroState = 10
number_of Outside = 11
number_of Occupied = 12
number_of EmptyBuffer = 13
number_of Damaged = 14
number_of Arrived = 15
number_of NotPermitted = 16
number_of LeavesStack = 17
number_of NotArrived = 18

-- what a number is: that of a refusal, or of none, and then it is handed back
abbrev pub NumberOf : ℕ → Result Refusal UnknownNumber → Type 0
NumberOf n (Ok x) = number_of x ≡ n
NumberOf n (Err e) = (e.0 ≡ n) × ((x : Refusal) → number_of x ≢ n)
