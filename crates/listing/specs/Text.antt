-- The text of a plan and of a fault, as the codes of its characters.
use Rattle.std.specs.Prelude.{ℕ, zero, suc, ◌+◌, ◌-◌, ◌*◌, ◌/◌, ◌%◌, cond, List, [], ◌∷◌, ◌++◌, take, drop, codes, decimal, nat_lt}
use Rattle.mesh.specs.declared.stack.Sizes.{Sizes}
use Rattle.mesh.specs.Numbers.{number_of}
use Rattle.description_laws.specs.declared.faults.Layer.{Layer}
use Rattle.description_laws.specs.declared.faults.Layer.TheVariants.{Byte, Record, Stack}
use Rattle.description_laws.specs.declared.faults.StackFault.{StackFault}
use Rattle.description_laws.specs.Faults.{layer_of, refusal_of, place_of}

-- a number below 16 as a digit: 48 is the code of 0, and 97 that of a
abbrev pub hex_digit : ℕ → ℕ
hex_digit n = cond (nat_lt n 10) (48 + n) (97 + (n - 10))

-- a byte as two digits, the higher one first
abbrev pub hex : ℕ → List ℕ
hex b = hex_digit (b / 16) ∷ hex_digit (b % 16) ∷ []

-- the one byte between two parts of a line
abbrev pub space : List ℕ
space = codes " "

-- the one byte that ends a line
abbrev pub newline : List ℕ
newline = 10 ∷ []

-- bytes with single spaces between them
abbrev pub spaced : List ℕ → List ℕ
spaced [] = []
spaced (b ∷ []) = hex b
spaced (b ∷ c ∷ bs) = hex b ++ space ++ spaced (c ∷ bs)

-- a row as a line
abbrev pub line : List ℕ → List ℕ
line row = spaced row ++ newline

-- the first n rows of w bytes each, a line to a row
abbrev pub lines : ℕ → ℕ → List ℕ → List ℕ
lines w zero bytes = []
lines w (suc n) bytes = line (take w bytes) ++ lines w n (drop w bytes)

-- the location bytes of a stack, plane by plane and row by row, both rising
abbrev pub plan_text : Sizes → List ℕ → List ℕ
plan_text sizes bytes = lines sizes.width (sizes.planes * sizes.height) bytes

-- the word for a layer
abbrev pub word : Layer → List ℕ
word Byte = codes "byte"
word Record = codes "record"
word Stack = codes "stack"

-- a layer, a number and a place as a line
abbrev pub fault_line : Layer → ℕ → ℕ → List ℕ
fault_line layer number place = word layer ++ space ++ decimal number ++ space ++ decimal place ++ newline

-- what a fault tells, as its line
abbrev pub fault_text : StackFault → List ℕ
fault_text fault = fault_line (layer_of fault) (number_of (refusal_of fault)) (place_of fault)
