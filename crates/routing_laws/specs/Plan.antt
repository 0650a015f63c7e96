-- What planning writes, for any filler and any chooser.
use Rattle.std.specs.Prelude.{◌≡◌, ℕ, zero, suc, ◌+◌, ◌-◌, ◌*◌, ◌/◌, ◌%◌, ◌<◌, cond, ◌⊎◌, List, ◌++◌, map, length, drop, Ok, Err, Result, nat_lt, slice_index}
use Rattle.std.specs.List.{range_with_len}
use Rattle.mesh.specs.declared.compass.Way.TheVariants.{Up, Down}
use Rattle.mesh.specs.declared.grid.Place.{Place}
use Rattle.mesh.specs.declared.refusals.Refusal.{Refusal}
use Rattle.mesh.specs.declared.refusals.Refusal.TheVariants.{GapUnlinked, ShortBuffer}
use Rattle.mesh.specs.declared.stack.Sizes.{Sizes}
use Rattle.routing_laws.specs.Elevators.{Joined, elevators}
use Rattle.routing_laws.specs.Filling.{Task, put_plane, task}

-- a stack to plan, and the filler's meaning: the half it writes, and the chooser's next state
pub record Job (C : Type 0) : Type 0 where
  pub sizes : Sizes
  pub links : List ℕ
  pub half : Task → C → List ℕ
  pub next : Task → C → C

abbrev pub job : {C : Type 0} → Sizes → List ℕ → (Task → C → List ℕ) → (Task → C → C) → Job C
job s links half next = record { sizes = s; links = links; half = half; next = next }

module _ {C : Type 0} (j : Job C) where
  -- the number of routers of a plane, of the stack's routers, and of its gaps
  abbrev pub area : ℕ
  area = j.sizes.width * j.sizes.height

  abbrev pub routers : ℕ
  routers = j.sizes.planes * area

  abbrev pub gaps : ℕ
  gaps = j.sizes.planes - 1

  abbrev pub elevators_of : ℕ → List Place
  elevators_of g = elevators j.sizes.width j.sizes.height j.links g

  -- a gap with a link
  abbrev pub Linked : ℕ → Type 0
  Linked g = Joined j.sizes.width j.sizes.height j.links g

  -- the two halves of a gap: Up of the plane below it, Down of the plane above it
  abbrev pub up_task : ℕ → Task
  up_task g = task j.sizes g Up (elevators_of g)

  abbrev pub down_task : ℕ → Task
  down_task g = task j.sizes (g + 1) Down (elevators_of g)

  -- the chooser's state after the two halves of gap g, from state c before them
  abbrev pub chooser_after : C → ℕ → C
  chooser_after c g = j.next (down_task g) (j.next (up_task g) c)

  -- the chooser's state when gap g is begun, from state c at the start, and between its two halves
  abbrev pub begun : C → ℕ → C
  begun c zero = c
  begun c (suc g) = chooser_after (begun c g) g

  abbrev pub between : C → ℕ → C
  between c g = j.next (up_task g) (begun c g)

  -- the bytes after gap g is planned, from state c
  abbrev pub after_gap : C → ℕ → List ℕ → List ℕ
  after_gap c g bytes = put_plane area (g + 1) Down (put_plane area g Up bytes (j.half (up_task g) c)) (j.half (down_task g) (j.next (up_task g) c))

  -- with n gaps planned: the half for Up of router i of plane z, which gap z gives, and the half for Down, which
  -- gap z - 1 gives; 0 where there is no such gap
  abbrev pub up_half : C → ℕ → ℕ → ℕ → ℕ
  up_half c n z i = cond (nat_lt z n) (slice_index (j.half (up_task z) (begun c z)) i) 0

  abbrev pub down_half : C → ℕ → ℕ → ℕ → ℕ
  down_half c n zero i = 0
  down_half c n (suc g) i = cond (nat_lt g n) (slice_index (j.half (down_task g) (between c g)) i) 0

  -- the byte of router i of plane z
  abbrev pub location : C → ℕ → ℕ → ℕ → ℕ
  location c n z i = down_half c n z i * 16 + up_half c n z i

  -- all location bytes
  abbrev pub planned : C → List ℕ
  planned c = map (λ i. location c gaps (i / area) (i % area)) (range_with_len 0 routers)

  -- a buffer too short to plan
  abbrev pub Short : List ℕ → Type 0
  Short bytes = (length j.links < gaps * area) ⊎ (length bytes < routers)

  -- what plan answers, and what it leaves in the bytes and the chooser: first a short buffer is refused, then a
  -- gap without a link; a refusal leaves both as they were
  abbrev pub Planned : List ℕ → C → List ℕ → C → Result (Unit {0}) Refusal → Type 0
  Planned bytes c bytes' c' (Ok _) =
      (Short bytes → ⊥) × ((g : ℕ) → g < gaps → Linked g) × (bytes' ≡ planned c ++ drop routers bytes) × (c' ≡ begun c gaps)
  Planned bytes c bytes' c' (Err x) =
      ((Short bytes × (x ≡ ShortBuffer)) ⊎ ((Short bytes → ⊥) × ((g : ℕ) × (g < gaps) × (Linked g → ⊥)) × (x ≡ GapUnlinked))) × (bytes' ≡ bytes) × (c' ≡ c)
