use Rattle.std.proofs.Common.{rules, ◌≡◌, false, Err, ◌∙◌}
use Rattle.channel_laws.specs.Calls.{entered_by, short}
use Rattle.channel_laws.specs.Ports.{neighbour}
use Rattle.channel_laws.specs.Table.{record_number}
use Rattle.channels.specs.Results.{Found, state_of}
use Rattle.channels.proofs.Reasons.{move_goes, move_stops, port_known}
use Rattle.channels.proofs.stacks.PlannedStack.checked_step.Goals as goal

pub returns-in_err-held : goal.returns-in_err-held
returns-in_err-held g c =
    let x = c.in_err-held.field-0.0 in
    let answer : c.from_residual-in_err-held.result ≡ Err x = search rules in
    let port = port_known c.args.port c.in_ok-port.port (search rules) in
    rw answer (move_stops (g.G.Guide.reply c.args.guide.now) (state_of c.args.self.now c.args.table.now) c.args.router c.args.buffer c.args.port x (search rules) port.0 (search rules))

pub returns : goal.returns
returns g c =
    let s = state_of c.args.self.now c.args.table.now in
    let found : Found s c.args.router c.args.buffer c.in_ok-held.held = search rules in
    let port = port_known c.args.port c.in_ok-port.port (search rules) in
    let long : short s ≡ false = search rules in
    let next : c.in_ok-neighbour.neighbour ≡ neighbour c.in_ok-port.port c.args.router = search rules in
    record {
      allowed = move_goes (g.G.Guide.reply c.args.guide.now) s c.args.router c.args.buffer c.args.port c.in_ok-held.held c.in_ok-port.port found port.1 long port.0 (search rules) (search rules) (search rules) (search rules);
      source = found.index;
      target = c.record_number-to.ensures.value ∙ (λ i. record_number s.sizes (next i) (c.entered_by.ensures i)) ∙ (λ i. record_number s.sizes (neighbour (port.1 i) c.args.router) (entered_by (found.packet i) (port.1 i)));
      packet = search rules;
      source_below = search rules;
      target_below = search rules;
    }
