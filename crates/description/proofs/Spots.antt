-- Where links stand in the link map.
use Rattle.std.proofs.Common.{◌≡◌, ℕ, ◌+◌, ◌*◌, ◌/◌, ◌%◌, ◌<◌, ◌≤◌, sym, ap, ◌∙◌, mul-le-mul, arith}
use Rattle.std.proofs.lemmas.Nat.{div-mul-add, mod-mul-add, mul-add-lt}
use Rattle.mesh.specs.declared.grid.Link.{Link}
use Rattle.description_laws.specs.declared.records.Extent.{Extent}
use Rattle.description_laws.specs.declared.records.Record.TheVariants.{Stack}
use Rattle.description_laws.specs.Description.{InRange, Within}
use Rattle.description.specs.Reading.{spot}

-- two digits to the base m
same_high : (m a r b q : ℕ) → r < m → q < m → a * m + r ≡ b * m + q → a ≡ b
same_high m a r b q h k e = sym (div-mul-add a m r h) ∙ (ap (λ n. n / m) e ∙ div-mul-add b m q k)

same_low : (m a r b q : ℕ) → r < m → q < m → a * m + r ≡ b * m + q → r ≡ q
same_low m a r b q h k e = sym (mod-mul-add a m r h) ∙ (ap (λ n. n % m) e ∙ mod-mul-add b m q k)

-- a place of a gap, counted within the gap
abbrev pub inner : Extent → Link → ℕ
inner e l = l.y * e.width + l.x

pub inner_below : (e : Extent) (l : Link) → Within e l → inner e l < e.width * e.height
inner_below e l w = mul-add-lt l.y e.width l.x e.height w.row w.column

pub spot_inner : (e : Extent) (l : Link) → spot e l ≡ l.gap * (e.width * e.height) + inner e l
spot_inner e l = omega arith

-- a link inside the stack stands in a gap's bytes only if the gap is its own
pub own_gap : (e : Extent) (l : Link) (g i : ℕ) → Within e l → i < e.width * e.height → spot e l ≡ g * (e.width * e.height) + i → l.gap ≡ g
own_gap e l g i w h p =
    same_high (e.width * e.height) l.gap (inner e l) g i (inner_below e l w) h (sym (spot_inner e l) ∙ p)

-- different links stand at different places
pub same_link : (e : Extent) (l k : Link) → Within e l → Within e k → spot e l ≡ spot e k → l ≡ k
same_link e l k w v p =
    let rows = same_high e.width (l.gap * e.height + l.y) l.x (k.gap * e.height + k.y) k.x w.column v.column p in
    let column = same_low e.width (l.gap * e.height + l.y) l.x (k.gap * e.height + k.y) k.x w.column v.column p in
    let gap = same_high e.height l.gap l.y k.gap k.y w.row v.row rows in
    let row = same_low e.height l.gap l.y k.gap k.y w.row v.row rows in
    λ i. record { x = column i; y = row i; gap = gap i }

-- the bytes of the gaps before g + 1 lie within the map
pub gap_below : (w h g : ℕ) → w ≤ 24 → h ≤ 24 → g ≤ 6 → (g + 1) * (w * h) ≤ 4032
gap_below w h g a b c = mul-le-mul {n₂ = 7} {m₂ = 576} (omega arith) (mul-le-mul {n₂ = 24} {m₂ = 24} a b)

pub spot_below : (e : Extent) (l : Link) → InRange (Stack e) → Within e l → spot e l < 4032
spot_below e l r w =
    omega (arith, spot_inner e l, inner_below e l w, gap_below e.width e.height l.gap (omega arith) (omega arith) (omega arith))
