-- A described stack can be planned: the buffers are long enough, and every gap has a link in the map.
use Rattle.std.proofs.Common.{◌≡◌, ℕ, ◌-◌, ◌*◌, ◌<◌, ◌≤◌, min, ◌⊎◌, List, ◌++◌, length, get_or, take, sym, ap, ◌∙◌, subst, subst₂, ⊎_elim, arith}
use Rattle.std.proofs.lemmas.Nat.{mul-le}
use Rattle.std.proofs.lemmas.List.FromFn.{length-map-range_with_len}
use Rattle.std.proofs.lemmas.List.{take_all, take_at}
use Rattle.std.proofs.lemmas.Bool.{cases_lt}
use Rattle.mesh.specs.declared.stack.Sizes.{Sizes}
use Rattle.mesh.specs.Layout.{cell}
use Rattle.description.specs.declared.reader.Description.{Description}
use Rattle.description.specs.Reading.{Described}
use Rattle.routing_laws.specs.Elevators.{Joined}
use Rattle.plan.specs.Answering.{Says, safe_plan}

-- the largest plane has 576 routers
area_most : (s : Sizes) → s.width * s.height ≤ 576
area_most s = mul-le s.width s.height 24 24 s.few_columns s.few_rows

pub routers_most : (s : Sizes) → s.planes * (s.width * s.height) ≤ 4608
routers_most s = mul-le s.planes (s.width * s.height) 8 576 s.few_planes (area_most s)

-- no buffer is short
pub long_enough : (s : Sizes) (links bytes : List ℕ) → 4032 ≤ length links → 4608 ≤ length bytes → (length links < (s.planes - 1) * (s.width * s.height)) ⊎ (length bytes < s.planes * (s.width * s.height)) → ⊥
long_enough s links bytes l m =
    ⊎_elim
    (λ (h : length links < (s.planes - 1) * (s.width * s.height)). omega (arith, mul-le (s.planes - 1) (s.width * s.height) 7 576 (omega (arith, s.few_planes)) (area_most s)))
    (λ (h : length bytes < s.planes * (s.width * s.height)). omega (arith, routers_most s))

-- a link that is named stands in the map
pub all_joined : {bytes links : List ℕ} {d : Description} → Described bytes d links → (g : ℕ) → g < d.sizes.planes - 1 → Joined d.sizes.width d.sizes.height links g
all_joined {links = links} {d} h g l =
    let named = h.formed.gaps g (omega arith) in
    let link = named.0 in
    let inside = h.formed.sound.inside link named.1 in
    record { at = record { x = link.x; y = link.y }; inside = record { column = inside.column; row = inside.row }; link = subst (λ z. get_or links (cell d.sizes.width d.sizes.height z record { x = link.x; y = link.y }) 0 ≡ 1) named.2 (h.marked.linked link named.1) }

-- the bytes of the plan, without what lies beyond
pub plan_front : (s : Sizes) (links bytes beyond : List ℕ) (n : ℕ) → bytes ≡ safe_plan s links ++ beyond → n ≡ s.planes * (s.width * s.height) → (take n bytes ≡ safe_plan s links) × (s.planes * (s.width * s.height) ≤ length (take n bytes))
plan_front s links bytes beyond n e size =
    let long : length (safe_plan s links) ≡ s.planes * (s.width * s.height) = length-map-range_with_len _ 0 _ in
    let front : take n bytes ≡ safe_plan s links = ap (take n) e ∙ take_at (safe_plan s links) beyond n (omega arith) in
    (front, omega (arith, ap length front))

-- no more than so many of a list
take_most : (xs : List ℕ) (m k : ℕ) → k ≡ min (length xs) m → take k xs ≡ take m xs
take_most xs m k e =
    ⊎_elim
    (λ (l : length xs < m). take_all k xs (omega arith) ∙ sym (take_all m xs (omega arith)))
    (λ (l : m ≤ length xs). let same : k ≡ m = omega arith in ap (λ j. take j xs) same)
    (cases_lt (length xs) m)

-- the text that stands in front of a buffer, for the bytes of an input that count
pub front_says : (input text beyond out : List ℕ) (k count : ℕ) → k ≡ min (length input) 16142 → count ≡ length text → out ≡ text ++ beyond → Says (take k input) text → Says (take 16142 input) (take count out)
front_says input text beyond out k count most size over says =
    subst₂ Says (take_most input 16142 k most) (sym (ap (take count) over ∙ take_at text beyond count (omega arith))) says
