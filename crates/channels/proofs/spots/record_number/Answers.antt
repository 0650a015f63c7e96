use Rattle.std.proofs.Common.{◌≡◌, ◌+◌, ◌*◌, ◌<◌, sym, ap, ◌∙◌, subst}
use Rattle.mesh.specs.Layout.{cell}
use Rattle.channel_laws.specs.Table.{record_number, table_size}
use Rattle.channel_laws.proofs.Accepting.{stack_in}
use Rattle.channel_laws.proofs.Index.{numbered}
use Rattle.channels.proofs.spots.record_number.Goals as goal
use Rattle.channels.proofs.spots.record_number.Goals.{After-number}

number : (c : After-number) → 11 * c.index.result + c.number.result ≡ record_number c.args.sizes c.args.router c.args.buffer
unfolding record_number
number c = let s = c.args.sizes in λ i. 11 * (c.index.ensures ∙ ap (cell s.width s.height c.args.router.z) c.from.ensures) i + c.number.ensures i

pub returns : goal.returns
returns c =
    let s = c.args.sizes in
    let e = number (goal.at.returns c).After-number in
    record { value = e; below = subst (λ n. n < table_size s) (sym e) ((numbered s).below c.args.router c.args.buffer (stack_in s c.args.router c.requires)) }
