-- A stack that is planned by a filler, with the guide of that filler, is one that the certificate speaks of; so the
-- certificate holds once the table is clear.
use Rattle.std.proofs.Common.{◌≡◌, ℕ, ◌+◌, ◌*◌, ◌<◌, ◌≤◌, false, ◌||◌, ltb, List, [], ◌++◌, map, length, replicate, Ok, sym, ap, ◌∙◌, subst, arith, length-append, Contains}
use Rattle.std.proofs.lemmas.Nat.{mul-le}
use Rattle.std.proofs.lemmas.List.FromFn.{length-map-range_with_len}
use Rattle.std.proofs.lemmas.Bool.{le-ltb}
use Rattle.mesh.specs.declared.compass.Directions.{Directions}
use Rattle.mesh.specs.declared.compass.Way.TheVariants.{Up, Down}
use Rattle.mesh.specs.declared.grid.Place.{Place}
use Rattle.mesh.specs.Halves.{half}
use Rattle.mesh.specs.Layout.{Inside}
use Rattle.routing_laws.specs.Chains.{Rules, Told, plane_of}
use Rattle.routing_laws.specs.Elevators.{elevators}
use Rattle.routing_laws.specs.Filling.{Task, plane}
use Rattle.routing_laws.specs.Plan.{Job, Linked, area, begun, between, down_task, gaps, planned, routers, up_task}
use Rattle.routing_laws.proofs.Listing.{all_listed, joined_some}
use Rattle.routing_laws.proofs.Planning.{Fitting, planned_down, planned_up}
use Rattle.channel_laws.specs.declared.records.Record.{Record}
use Rattle.channel_laws.specs.Certificate.{Guided}
use Rattle.channel_laws.specs.Calls.{short, short_table}
use Rattle.channel_laws.proofs.Certified.{certified}
use Rattle.channel_laws.specs.Table.{state}
use Rattle.channels.specs.Running.{Certain, clear_table}

module _ {C : Type 0} (j : Job C) (c : C) (fit : Fitting j) (reply : Told → Directions) (lawful : ℕ → ℕ → List Place → List ℕ → Type 0)
    (rules : (w h : ℕ) (es : List Place) (filling : List ℕ) → 0 < w → 0 < h → ((e : Place) → Contains es e → Inside w h e) → lawful w h es filling → Rules (plane_of w h es filling reply))
    (none : (w h : ℕ) → lawful w h [] (replicate (w * h) 0))
    (fills : (t : Task) (d : C) → 0 < t.width → 0 < t.height → 0 < length t.elevators → ((e : Place) → Contains t.elevators e → Inside t.width t.height e) → lawful t.width t.height t.elevators (j.half t d))
    (joined : (g : ℕ) → g < gaps j → Linked j g) (rest : List ℕ) (table : List Record) where
  abbrev w : ℕ
  w = j.sizes.width

  abbrev h : ℕ
  h = j.sizes.height

  some : 0 < area j
  some = omega (arith, mul-le 1 1 w h j.sizes.some_columns j.sizes.some_rows)

  inside : (g : ℕ) (e : Place) → Contains (elevators w h j.links g) e → Inside w h e
  inside g = (all_listed w h j.sizes.some_columns j.sizes.some_rows j.links g).inside

  -- a half that the filler wrote for the elevators of a gap
  kept : (g : ℕ) → g < gaps j → (filling halves : List ℕ) → filling ≡ halves → lawful w h (elevators w h j.links g) halves → Rules (plane_of w h (elevators w h j.links g) filling reply)
  kept g l filling halves e law = rules w h (elevators w h j.links g) filling j.sizes.some_columns j.sizes.some_rows (inside g) (subst (lawful w h (elevators w h j.links g)) (sym e) law)

  offered : (g : ℕ) → g < gaps j → 0 < length (elevators w h j.links g)
  offered g l = joined_some w h j.sizes.some_columns j.sizes.some_rows j.links g (joined g l)

  pub guided : Guided reply (state j.sizes j.links (planned j c ++ rest) table)
  guided = record {
    joined = λ g l. joined g (omega arith);
    up = λ g l.
        let gap : g < gaps j = omega arith in
        kept g gap (map (half Up) (plane (area j) g (planned j c ++ rest))) (j.half (up_task j g) (begun j c g)) (planned_up j c fit some rest g gap)
        (fills (up_task j g) (begun j c g) j.sizes.some_columns j.sizes.some_rows (offered g gap) (inside g));
    down = λ g l.
        let gap : g < gaps j = omega arith in
        kept g gap (map (half Down) (plane (area j) (g + 1) (planned j c ++ rest))) (j.half (down_task j g) (between j c g)) (planned_down j c fit some rest g gap)
        (fills (down_task j g) (between j c g) j.sizes.some_columns j.sizes.some_rows (offered g gap) (inside g));
    none = rules w h [] (replicate (w * h) 0) j.sizes.some_columns j.sizes.some_rows (λ e has. absurd (omega (arith, has.1))) (none w h);
  }

  -- nothing is short: the plan has a byte for every router
  whole : gaps j * area j ≤ length j.links → short_table (state j.sizes [] [] table) ≡ false → short (state j.sizes j.links (planned j c ++ rest) table) ≡ false
  whole links fits =
      let long : length (planned j c) ≡ routers j = length-map-range_with_len _ 0 _ in
      let every : routers j ≤ length (planned j c ++ rest) = omega (arith, length-append (planned j c) rest) in
      ap (λ b. b || (ltb (length (planned j c ++ rest)) (routers j) || short_table (state j.sizes [] [] table))) (le-ltb (length j.links) (gaps j * area j) links)
      ∙ ap (λ b. b || short_table (state j.sizes [] [] table)) (le-ltb (length (planned j c ++ rest)) (routers j) every)
      ∙ fits

  pub certain : (bytes : List ℕ) (cleared_table : List Record) → bytes ≡ planned j c ++ rest → cleared_table ≡ clear_table j.sizes table → gaps j * area j ≤ length j.links → short_table (state j.sizes [] [] table) ≡ false → Certain reply (state j.sizes j.links bytes cleared_table) (Ok tt)
  certain bytes cleared_table e f links fits =
      subst (λ b. Certain reply (state j.sizes j.links b cleared_table) (Ok tt)) (sym e)
      (subst (λ t. Certain reply (state j.sizes j.links (planned j c ++ rest) t) (Ok tt)) (sym f)
      (certified reply (state j.sizes j.links (planned j c ++ rest) table) guided (whole links fits)))
