-- Which bytes describe a stack, and what the first fault of any other bytes is.
use Rattle.std.specs.Prelude.{◌≡◌, ℕ, ◌+◌, ◌<◌, ◌≤◌, List, [], ◌∷◌, ◌++◌, length}
use Rattle.std.specs.List.{flat_map, Contains}
use Rattle.mesh.specs.declared.grid.Link.{Link}
use Rattle.mesh.specs.declared.refusals.Refusal.{Refusal}
use Rattle.mesh.specs.declared.refusals.Refusal.TheVariants.{InputEnds, UnknownLetter, OutOfRange, OutOfPlace, OneSet, LinkOutside, LinkTwice, GapUnlinked}
use Rattle.mesh.specs.Layout.{Range}
use Rattle.mesh.specs.Numbers.{number_of}
use Rattle.mesh.specs.Orders.{Alike, InSets}
use Rattle.description_laws.specs.declared.records.Extent.{Extent}
use Rattle.description_laws.specs.declared.records.Record.{Record}
use Rattle.description_laws.specs.declared.records.Record.TheVariants.{Stack, Order, Pillar, End}
use Rattle.description_laws.specs.declared.records.SetNumbers.{SetNumbers}

-- the kind letters S, O, L and Z, each with the length of the body that follows it
pub data Kind : ℕ → ℕ → Type 0 where
  kind_s : Kind 83 3
  kind_o : Kind 79 4
  kind_l : Kind 76 3
  kind_z : Kind 90 0

-- a record as bytes: its kind letter, then its body
abbrev pub spelled : Record → List ℕ
spelled (Stack e) = 83 ∷ e.width ∷ e.height ∷ e.planes ∷ []
spelled (Order s) = 79 ∷ s.north ∷ s.east ∷ s.south ∷ s.west ∷ []
spelled (Pillar l) = 76 ∷ l.x ∷ l.y ∷ l.gap ∷ []
spelled End = 90 ∷ []

-- links as bytes, oldest first
abbrev pub spelled_links : List Link → List ℕ
spelled_links ls = flat_map (λ l. spelled (Pillar l)) ls

-- the fields of a record are in range
abbrev pub InRange : Record → Type 0
InRange (Stack e) = Range e.width e.height e.planes
InRange (Order s) = InSets s.north s.east s.south s.west
InRange (Pillar l) = (l.x ≤ 23) × (l.y ≤ 23) × (l.gap ≤ 6)
InRange End = Unit {0}

-- all four directions are in one set
abbrev pub OneForAll : SetNumbers → Type 0
OneForAll s = Alike s.north s.east s.south s.west

-- a gap of a stack: it lies between planes g and g + 1
abbrev pub Gap : Extent → ℕ → Type 0
Gap e g = g + 1 < e.planes

-- a link that lies inside a stack
pub record Within (e : Extent) (l : Link) : Type 0 where
  pub column : l.x < e.width
  pub row : l.y < e.height
  pub gap : Gap e l.gap

-- a gap has a link
abbrev pub Linked : List Link → ℕ → Type 0
Linked ls g = (l : Link) × Contains ls l × (l.gap ≡ g)

-- no link is named twice
abbrev pub Once : List Link → Type 0
Once ls = (before after : List Link) (l : Link) → ls ≡ before ++ l ∷ after → Contains before l → ⊥

-- sizes, sets and links that belong together
pub record Sound (e : Extent) (s : SetNumbers) (ls : List Link) : Type 0 where
  pub sizes : InRange (Stack e)
  pub sets : InRange (Order s)
  pub mixed : OneForAll s → ⊥
  pub inside : (l : Link) → Contains ls l → Within e l
  pub once : Once ls

-- bytes that describe a stack: S, O, the links in any order, Z; and every gap has a link
pub record WellFormed (bytes : List ℕ) (e : Extent) (s : SetNumbers) (ls : List Link) : Type 0 where
  pub spelt : bytes ≡ spelled (Stack e) ++ (spelled (Order s) ++ (spelled_links ls ++ spelled End))
  pub sound : Sound e s ls
  pub gaps : (g : ℕ) → Gap e g → Linked ls g

-- what has been read so far
pub data Front : Type 0 where
  nothing : Front
  sized : Extent → Front
  listing : Extent → SetNumbers → List Link → Front
  ended : Extent → SetNumbers → List Link → Front

-- its bytes
abbrev pub text : Front → List ℕ
text nothing = []
text (sized e) = spelled (Stack e)
text (listing e s ls) = spelled (Stack e) ++ (spelled (Order s) ++ spelled_links ls)
text (ended e s ls) = spelled (Stack e) ++ (spelled (Order s) ++ (spelled_links ls ++ spelled End))

-- no fault in it
abbrev pub Faultless : Front → Type 0
Faultless nothing = Unit {0}
Faultless (sized e) = InRange (Stack e)
Faultless (listing e s ls) = Sound e s ls
Faultless (ended e s ls) = Sound e s ls × ((g : ℕ) → Gap e g → Linked ls g)

-- records in their places: S first, O second, then links, Z last
pub data InPlace : Front → Record → Type 0 where
  first : {e : Extent} → InPlace nothing (Stack e)
  second : {e : Extent} {s : SetNumbers} → InPlace (sized e) (Order s)
  link : {e : Extent} {s : SetNumbers} {ls : List Link} {l : Link} → InPlace (listing e s ls) (Pillar l)
  last : {e : Extent} {s : SetNumbers} {ls : List Link} → InPlace (listing e s ls) End

-- each refusal that applies to a record read next
pub data Wrong : Front → Record → Refusal → Type 0 where
  range : {f : Front} {r : Record} → (InRange r → ⊥) → Wrong f r OutOfRange
  place : {f : Front} {r : Record} → (InPlace f r → ⊥) → Wrong f r OutOfPlace
  one_set : {f : Front} {s : SetNumbers} → OneForAll s → Wrong f (Order s) OneSet
  outside : {e : Extent} {s : SetNumbers} {ls : List Link} {l : Link} → (Within e l → ⊥) → Wrong (listing e s ls) (Pillar l) LinkOutside
  twice : {e : Extent} {s : SetNumbers} {ls : List Link} {l : Link} → Contains ls l → Wrong (listing e s ls) (Pillar l) LinkTwice
  unlinked : {e : Extent} {s : SetNumbers} {ls : List Link} (g : ℕ) → Gap e g → (Linked ls g → ⊥) → Wrong (listing e s ls) End GapUnlinked

-- of the refusals that apply, the one tried first: they are tried in the order of their numbers
pub record First (f : Front) (r : Record) (x : Refusal) : Type 0 where
  pub applies : Wrong f r x
  pub least : (y : Refusal) → Wrong f r y → number_of x ≤ number_of y

-- not yet at Z
pub data Open : Front → Type 0 where
  at_start : Open nothing
  after_s : {e : Extent} → Open (sized e)
  after_o : {e : Extent} {s : SetNumbers} {ls : List Link} → Open (listing e s ls)

-- the refusal of what comes after a front without fault
pub data Fault : Front → List ℕ → Refusal → Type 0 where
  missing : {f : Front} → Open f → Fault f [] InputEnds
  unknown : {f : Front} {c : ℕ} {rest : List ℕ} → Open f → ((n : ℕ) → Kind c n → ⊥) → Fault f (c ∷ rest) UnknownLetter
  short : {f : Front} {c : ℕ} {rest : List ℕ} → Open f → (n : ℕ) → Kind c n → length rest < n → Fault f (c ∷ rest) InputEnds
  wrong : {f : Front} {rest : List ℕ} {x : Refusal} → Open f → (r : Record) (more : List ℕ) → rest ≡ spelled r ++ more → First f r x → Fault f rest x
  beyond : {e : Extent} {s : SetNumbers} {ls : List Link} {c : ℕ} {rest : List ℕ} → Fault (ended e s ls) (c ∷ rest) OutOfPlace

-- the first fault of bytes, and the place where its record starts
pub record Faulty (bytes : List ℕ) (x : Refusal) (at : ℕ) : Type 0 where
  pub front : Front
  pub rest : List ℕ
  pub split : bytes ≡ text front ++ rest
  pub faultless : Faultless front
  pub place : at ≡ length (text front)
  pub fault : Fault front rest x

-- no bytes have two readings
pub record OneReading (bytes : List ℕ) : Type 0 where
  pub one_stack : (e e' : Extent) (s s' : SetNumbers) (ls ls' : List Link) → WellFormed bytes e s ls → WellFormed bytes e' s' ls' → (e ≡ e') × (s ≡ s') × (ls ≡ ls')
  pub one_fault : (x x' : Refusal) (at at' : ℕ) → Faulty bytes x at → Faulty bytes x' at' → (x ≡ x') × (at ≡ at')
  pub not_both : (e : Extent) (s : SetNumbers) (ls : List Link) (x : Refusal) (at : ℕ) → WellFormed bytes e s ls → Faulty bytes x at → ⊥
