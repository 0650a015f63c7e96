-- The ranges of the sizes, and where things stand in the link map and among the routers.
use Rattle.std.specs.Prelude.{◌≡◌, ℕ, ◌+◌, ◌*◌, ◌/◌, ◌%◌, ◌<◌, ◌≤◌, Bool, ◌&&◌, List, Contains, nat_lt}
use Rattle.std.specs.List.{between}
use Rattle.mesh.specs.declared.grid.Link.{Link}
use Rattle.mesh.specs.declared.grid.Place.{Place}
use Rattle.mesh.specs.declared.grid.Router.{Router}
use Rattle.mesh.specs.declared.stack.Sizes.{Sizes}

-- the sizes that a stack may have: columns, rows, planes
pub record Range (w h k : ℕ) : Type 0 where
  pub some_columns : 1 ≤ w
  pub few_columns : w ≤ 24
  pub some_rows : 1 ≤ h
  pub few_rows : h ≤ 24
  pub some_planes : 1 ≤ k
  pub few_planes : k ≤ 8

-- sizes with these three numbers
pub record SameSizes (s : Sizes) (w h k : ℕ) : Type 0 where
  pub columns : s.width ≡ w
  pub rows : s.height ≡ h
  pub planes : s.planes ≡ k

-- a place of a plane with w columns and h rows
pub record Inside (w h : ℕ) (p : Place) : Type 0 where
  pub column : p.x < w
  pub row : p.y < h

-- plane by plane, row by row: the index of a place of plane z, or of gap z
abbrev pub cell : ℕ → ℕ → ℕ → Place → ℕ
cell w h z p = (z * h + p.y) * w + p.x

-- the place of the i-th router of the stack within its plane: the inverse of `cell`
abbrev pub place_at : ℕ → ℕ → ℕ → Place
place_at w h i = record { x = i % w; y = i / w % h }

-- the i-th router of the stack, plane by plane and row by row; past the last one the count starts anew
abbrev pub router_nth : ℕ → ℕ → ℕ → ℕ → Router
router_nth w h k i = record { x = i % w; y = i / w % h; z = i / w / h % k }

-- the place of a router within its plane
abbrev pub place_of : Router → Place
place_of r = record { x = r.x; y = r.y }

-- the place of a link within its gap
abbrev pub foot_of : Link → Place
foot_of l = record { x = l.x; y = l.y }

-- whether a router is one of the stack
abbrev pub in_stack : Sizes → Router → Bool
in_stack s r = nat_lt r.x s.width && (nat_lt r.y s.height && nat_lt r.z s.planes)

-- a gap has a link in the link map, where each gap takes `area` bytes and only byte 1 is a link
abbrev pub Shown : ℕ → List ℕ → ℕ → Type 0
Shown area links g = Contains (between (g * area) ((g + 1) * area) links) 1
