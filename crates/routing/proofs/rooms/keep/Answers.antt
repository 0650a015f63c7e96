use Rattle.std.proofs.Common.{length, sym, refl, arith}
use Rattle.std.proofs.lemmas.List.{set_past, take_more_set}
use Rattle.std.proofs.lemmas.Bool.{le-ltb, lt-ltb}
use Rattle.routing.proofs.rooms.keep.Goals as goal

pub returns-then-count-room : goal.returns-then-count-room
returns-then-count-room c =
    rw c.if-not-passes.false
    record {
      counts = rw (lt-ltb c.args.count (length c.args.room.now) (omega arith)) refl;
      after = refl;
      bound = omega arith;
      kept = λ _. take_more_set c.args.room.now c.args.count c.args.place (omega arith);
    }

pub returns-else-count-room : goal.returns-else-count-room
returns-else-count-room c =
    rw c.if-not-passes.false
    record {
      counts = rw (le-ltb c.args.count (length c.args.room.now) (omega arith)) refl;
      after = sym (set_past c.args.room.now c.args.count c.args.place (omega arith));
      bound = omega arith;
      kept = λ h. absurd (omega arith);
    }
