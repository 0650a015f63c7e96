-- The worked samples, by computation.
use Rattle.std.proofs.Common.{◌≡◌, true, map, is_ok, Ok, Err, Result, refl, ap, arith, lit≤}
use Rattle.mesh.specs.declared.refusals.Refusal.{Refusal}
use Rattle.mesh.specs.declared.refusals.Refusal.TheVariants.{OneSet}
use Rattle.mesh.specs.declared.turns.TurnOrder.{TurnOrder}
use Rattle.mesh.specs.Orders.{Decided}
use Rattle.mesh.specs.Orders.{xy}
use Rattle.routing_laws.specs.Guides.{pointing_reply}
use Rattle.channel_laws.specs.Runs.{events}
use Rattle.channel_laws.specs.Table.{record_number, table_size}
use Rattle.samples.specs.Facts.{Samples}
use Rattle.samples.specs.Journey.{arrivals, journey, loaded}

alike : (r : Result TurnOrder Refusal) → Decided 0 0 0 0 r → r ≡ Err OneSet
alike (Ok o) h = absurd (o.two_sets (omega arith) (omega arith) (omega arith))
alike (Err x) h = ap Err (h.0 (lit≤ tt, lit≤ tt, lit≤ tt, lit≤ tt)).0

mixed : (r : Result TurnOrder Refusal) → Decided 0 0 0 1 r → is_ok r ≡ true
mixed (Ok o) h = refl
mixed (Err x) h = absurd (omega (arith, (h.0 (lit≤ tt, lit≤ tt, lit≤ tt, lit≤ tt)).1.2))

travelled : map (λ e. e.answer) (events (pointing_reply xy) loaded journey) ≡ arrivals
unfolding table_size record_number
travelled = refl

pub samples : Samples
samples = record {
  safe_centre = refl;
  safe_corner = refl;
  tie_corner = refl;
  unasked = refl;
  tie_centre = refl;
  asked_with = refl;
  asked_there = refl;
  north_last_corner = refl;
  open_centre = refl;
  open_corner = refl;
  open_elevator = refl;
  first_state = refl;
  first_reply = refl;
  second_state = refl;
  second_reply = refl;
  one_set = alike;
  two_sets = mixed;
  laid_out = refl;
  five_moves = travelled;
}
