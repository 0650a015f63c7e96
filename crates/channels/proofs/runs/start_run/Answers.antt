use Rattle.std.proofs.Common.{◌≡◌, rules, ◌*◌, ◌<◌, ◌≤◌, false, cond, [], length, drop, Some, None, Ok, sym, ap, ◌∙◌, subst, inl, ⊎_elim, arith}
use Rattle.std.proofs.lemmas.Bool.{cases_lt, le-ltb}
use Rattle.mesh.specs.declared.refusals.Refusal.TheVariants.{ShortBuffer}
use Rattle.routing_laws.specs.Plan.{Planned, area, gaps, job, routers}
use Rattle.channel_laws.specs.Calls.{clear_refusal, short_table}
use Rattle.channel_laws.specs.Table.{state, table_size}
use Rattle.channels.specs.Results.{clearing, result_of}
use Rattle.channels.specs.Running.{Certain, Started}
use Rattle.channels.proofs.Guided.{certain}
use Rattle.channels.proofs.runs.start_run.Goals as goal

-- the table is long enough and the stack planned, so the table is cleared
pub returns : goal.returns
returns g c =
    let s = c.args.sizes in
    let f = c.args.filler.now in
    let j = job s c.args.map.now (g.F.Filler.half f) (g.F.Filler.next f) in
    let table = c.args.table.now in
    let bytes = c.args.bytes.now in
    let ask = c.args.chooser.now in
    let fits : short_table (state s [] [] table) ≡ false = le-ltb (length table) (table_size s) (omega (arith, c.table_size.ensures)) in
    let accepted : c.plan.result ≡ Ok tt = search rules in
    let done : Planned j bytes ask c.plan.new.bytes c.plan.new.chooser (Ok tt) = subst (Planned j bytes ask c.plan.new.bytes c.plan.new.chooser) accepted c.plan.ensures in
    let none : clear_refusal (state s [] [] table) ≡ None = ap (λ b. cond b (Some ShortBuffer) None) fits in
    let answer : c.clear.result ≡ Ok tt = c.clear.ensures.answers ∙ ap result_of none in
    let cleared = c.clear.ensures.leaves ∙ ap (clearing s table) none in
    let links : gaps j * area j ≤ length c.args.map.now = ⊎_elim (λ (h : length c.args.map.now < gaps j * area j). absurd (done.0 (inl h))) (λ h. h) (cases_lt (length c.args.map.now) (gaps j * area j)) in
    let reply = g.F.Guide.Guide.reply (g.F.Filler.partner f) in
    record {
      starts = subst (Started j bytes ask table c.plan.new.bytes c.plan.new.chooser c.clear.new.table) (sym answer) (fits, done, cleared);
      certified = subst (Certain reply (state s c.args.map.now c.plan.new.bytes c.clear.new.table)) (sym answer)
          (certain j ask record { long = g.met.F.Filler.long f; small = g.met.F.Filler.small f } reply (g.F.Guide.Guide.lawful (g.F.Filler.partner f))
          (g.met.F.Guide.Guide.rules (g.F.Filler.partner f)) (g.met.F.Guide.Guide.none (g.F.Filler.partner f)) (g.met.F.Filler.lawful f) done.1 (drop (routers j) bytes) table
          c.plan.new.bytes c.clear.new.table done.2 cleared links fits);
    }
