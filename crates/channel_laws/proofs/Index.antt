-- Numbers of buffers and ports are taken back, and the record numbers of a stack fill its table, each once.
use Rattle.std.proofs.Common.{◌≡◌, ℕ, zero, suc, ◌+◌, ◌*◌, ◌/◌, ◌%◌, ◌<◌, ◌≤◌, sym, refl, ap, ◌∙◌, arith, lit<}
use Rattle.std.proofs.lemmas.Nat.{div-add-mod', div_below, div-mul-add, mod_below, mod-mul-add, mul-add-lt, mul-le}
use Rattle.mesh.specs.declared.compass.Direction.TheVariants.{North, East, South, West}
use Rattle.mesh.specs.declared.compass.Way.TheVariants.{Up, Down}
use Rattle.mesh.specs.declared.grid.Router.{Router}
use Rattle.mesh.specs.declared.stack.Sizes.{Sizes}
use Rattle.mesh.specs.Layout.{cell, place_of}
use Rattle.channel_laws.specs.declared.buffers.Buffer.{Buffer}
use Rattle.channel_laws.specs.declared.buffers.Buffer.TheVariants.{Local, Side, Below, Above}
use Rattle.channel_laws.specs.declared.buffers.Network.TheVariants.{Zero, One}
use Rattle.channel_laws.specs.declared.buffers.Port.{Port}
use Rattle.channel_laws.specs.declared.buffers.Port.TheVariants.{Planar, Vertical}
use Rattle.channel_laws.specs.Buffers.{Coded, buffer_number, buffer_of, port_number, port_of}
use Rattle.channel_laws.specs.Table.{InStack, Numbered, record_number, table_size}

-- a buffer is the one with its number
pub buffer_back : (b : Buffer) → buffer_of (buffer_number b) ≡ b
buffer_back Local = refl
buffer_back (Side Zero North) = refl
buffer_back (Side Zero East) = refl
buffer_back (Side Zero South) = refl
buffer_back (Side Zero West) = refl
buffer_back (Side One North) = refl
buffer_back (Side One East) = refl
buffer_back (Side One South) = refl
buffer_back (Side One West) = refl
buffer_back Below = refl
buffer_back Above = refl

pub buffer_below : (b : Buffer) → buffer_number b < 11
buffer_below Local = lit< tt
buffer_below (Side Zero North) = lit< tt
buffer_below (Side Zero East) = lit< tt
buffer_below (Side Zero South) = lit< tt
buffer_below (Side Zero West) = lit< tt
buffer_below (Side One North) = lit< tt
buffer_below (Side One East) = lit< tt
buffer_below (Side One South) = lit< tt
buffer_below (Side One West) = lit< tt
buffer_below Below = lit< tt
buffer_below Above = lit< tt

-- a number below eleven is that of its buffer
pub number_back : (n : ℕ) → n < 11 → buffer_number (buffer_of n) ≡ n
number_back zero l = refl
number_back (suc zero) l = refl
number_back (suc (suc zero)) l = refl
number_back (suc (suc (suc zero))) l = refl
number_back (suc (suc (suc (suc zero)))) l = refl
number_back (suc (suc (suc (suc (suc zero))))) l = refl
number_back (suc (suc (suc (suc (suc (suc zero)))))) l = refl
number_back (suc (suc (suc (suc (suc (suc (suc zero))))))) l = refl
number_back (suc (suc (suc (suc (suc (suc (suc (suc zero)))))))) l = refl
number_back (suc (suc (suc (suc (suc (suc (suc (suc (suc zero))))))))) l = refl
number_back (suc (suc (suc (suc (suc (suc (suc (suc (suc (suc zero)))))))))) l = refl
number_back (suc (suc (suc (suc (suc (suc (suc (suc (suc (suc (suc n))))))))))) l = absurd (omega arith)

-- a port is the one with its number
pub port_back : (p : Port) → port_of (port_number p) ≡ p
port_back (Planar North) = refl
port_back (Planar East) = refl
port_back (Planar South) = refl
port_back (Planar West) = refl
port_back (Vertical Up) = refl
port_back (Vertical Down) = refl

pub port_below : (p : Port) → port_number p < 6
port_below (Planar North) = lit< tt
port_below (Planar East) = lit< tt
port_below (Planar South) = lit< tt
port_below (Planar West) = lit< tt
port_below (Vertical Up) = lit< tt
port_below (Vertical Down) = lit< tt

number_of_port : (n : ℕ) → n < 6 → port_number (port_of n) ≡ n
number_of_port zero l = refl
number_of_port (suc zero) l = refl
number_of_port (suc (suc zero)) l = refl
number_of_port (suc (suc (suc zero))) l = refl
number_of_port (suc (suc (suc (suc zero)))) l = refl
number_of_port (suc (suc (suc (suc (suc zero))))) l = refl
number_of_port (suc (suc (suc (suc (suc (suc n)))))) l = absurd (omega arith)

-- the numbers of buffers and ports
pub coded : Coded
coded = record { buffer_back = buffer_back; buffer_below = buffer_below; buffer_reached = number_back; port_back = port_back; port_below = port_below; port_reached = number_of_port }

-- a row and a column are known by the place they make
same_parts : (a b w x y : ℕ) → x < w → y < w → a * w + x ≡ b * w + y → (a ≡ b) × (x ≡ y)
same_parts a b w x y l m e = (
  sym (div-mul-add a w x l) ∙ ap (λ n. n / w) e ∙ div-mul-add b w y m,
  sym (mod-mul-add a w x l) ∙ ap (λ n. n % w) e ∙ mod-mul-add b w y m,
)

cell_below : (w h k : ℕ) (r : Router) → r.x < w → r.y < h → r.z < k → cell w h r.z (place_of r) < k * (w * h)
cell_below w h k r l m n =
    let rows : r.z * h + r.y < h * k = mul-add-lt r.z h r.y k n m in
    let all : (r.z * h + r.y) * w + r.x < w * (h * k) = mul-add-lt (r.z * h + r.y) w r.x (h * k) rows l in
    omega arith

module _ (s : Sizes) where
  number_below : (r : Router) (b : Buffer) → InStack s r → record_number s r b < table_size s
  unfolding record_number table_size
  number_below r b i = omega (arith, buffer_below b, cell_below s.width s.height s.planes r i.column i.row i.plane)

  -- the largest table: 8 planes of 24 columns and 24 rows
  pub size_most : table_size s ≤ 50688
  unfolding table_size
  size_most =
      let area : s.width * s.height ≤ 24 * 24 = mul-le s.width s.height 24 24 (omega arith) (omega arith) in
      let all : s.planes * (s.width * s.height) ≤ 8 * 576 = mul-le s.planes (s.width * s.height) 8 576 (omega arith) area in
      omega arith

  number_apart : (r q : Router) (b c : Buffer) → InStack s r → InStack s q → record_number s r b ≡ record_number s q c → (r ≡ q) × (b ≡ c)
  unfolding record_number
  number_apart r q b c i j e =
      let w = s.width in
      let h = s.height in
      let split = same_parts (cell w h r.z (place_of r)) (cell w h q.z (place_of q)) 11 (buffer_number b) (buffer_number c) (buffer_below b) (buffer_below c) (omega arith) in
      let row = same_parts (r.z * h + r.y) (q.z * h + q.y) w r.x q.x i.column j.column split.0 in
      let plane = same_parts r.z q.z h r.y q.y i.row j.row row.0 in
      (λ k. record { x = row.1 k; y = plane.1 k; z = plane.0 k }, sym (buffer_back b) ∙ ap buffer_of split.1 ∙ buffer_back c)

  -- the router and the buffer of a record number
  abbrev pub router_of : ℕ → Router
  router_of i = record { x = i / 11 % s.width; y = i / 11 / s.width % s.height; z = i / 11 / s.width / s.height }

  abbrev pub buffer_in : ℕ → Buffer
  buffer_in i = buffer_of (i % 11)

  pub number_spot : (i : ℕ) → i < table_size s → InStack s (router_of i) × (record_number s (router_of i) (buffer_in i) ≡ i)
  unfolding record_number table_size
  number_spot i l =
      let w = s.width in
      let h = s.height in
      let j = i / 11 in
      let within : j < s.planes * (w * h) = div_below i 11 (s.planes * (w * h)) (lit< tt) (omega arith) in
      let rows : j / w < s.planes * h = div_below j w (s.planes * h) (omega arith) (omega arith) in
      let whole : cell w h (j / w / h) record { x = j % w; y = j / w % h } ≡ j = ap (λ n. n * w + j % w) (div-add-mod' (j / w) h) ∙ div-add-mod' j w in
      let low : i % 11 < 11 = mod_below i 11 (lit< tt) in (
        record { column = mod_below j w (omega arith); row = mod_below (j / w) h (omega arith); plane = div_below (j / w) h s.planes (omega arith) rows },
        omega (arith, whole, number_back (i % 11) low, div-add-mod' i 11),
      )

  number_reached : (i : ℕ) → i < table_size s → (r : Router) × (b : Buffer) × InStack s r × (record_number s r b ≡ i)
  number_reached i l = (router_of i, buffer_in i, (number_spot i l).0, (number_spot i l).1)

  -- the record numbers of a stack
  pub numbered : Numbered s
  numbered = record { below = number_below; apart = number_apart; reached = number_reached }
