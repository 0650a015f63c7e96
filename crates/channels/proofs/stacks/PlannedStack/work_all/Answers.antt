use Rattle.std.proofs.Common.{◌≡◌, ◌+◌, [], ◌∷◌, ◌++◌, reverse, length, get_or, take, drop, set, sym, refl, ap, ◌∙◌, add-one, arith, take-append-drop, take_all, drop-drop, take-suc-set, drop-set-lt}
use Rattle.channel_laws.specs.declared.calls.Call.{Call}
use Rattle.channel_laws.specs.declared.calls.Call.TheVariants.{Inject}
use Rattle.channel_laws.specs.Calls.{outcome}
use Rattle.channels.specs.Results.{state_of}
use Rattle.channels.specs.Running.{answered, ran}
use Rattle.channels.proofs.Stepping.{after_table, answered_next, ran_next}
use Rattle.channels.proofs.stacks.PlannedStack.work_all.Goals as goal

-- the call that stands where a list has none
abbrev blank : Call
blank = Inject record { x = 0; y = 0; z = 0 } record { x = 0; y = 0; z = 0 } 0

pub loop-i-init : goal.loop-i-init
loop-i-init g c = (refl, refl, refl)

pub loop-i-preserved : goal.loop-i-preserved
loop-i-preserved g c =
    let reply = g.G.Guide.reply c.args.guide.now in
    let s = state_of c.args.self.now c.args.table.now in
    let calls = c.args.calls.now in
    let i = c.loop-i.i in
    let filled = c.loop-i.answers in
    let call = get_or calls i blank in
    let before : state_of c.args.self.now c.loop-i.table ≡ ran reply s (take i calls) =
    ap (state_of c.args.self.now) c.loop-i.invariant.0 ∙ sym (after_table reply s (reverse (take i calls))) in (
      c.work.ensures.leaves ∙ ap (λ b. (outcome reply b call).after.table) before ∙ ap (λ b. b.table) (sym (ran_next reply s calls i blank c.loop-i-test.true)),
      ap (λ n. take n (set filled i c.work.result)) (add-one i)
          ∙ take-suc-set filled i c.work.result (omega arith)
          ∙ (λ k. c.loop-i.invariant.1 k ++ ((c.work.ensures.answers ∙ ap (λ b. (outcome reply b call).answer) before) k ∷ []))
          ∙ sym (answered_next reply s calls i blank c.loop-i-test.true),
      drop-set-lt (i + 1) filled i c.work.result (omega arith) ∙ sym (drop-drop 1 i filled) ∙ ap (drop 1) c.loop-i.invariant.2 ∙ drop-drop 1 i c.args.answers.now,
    )

pub returns : goal.returns
returns g c =
    let reply = g.G.Guide.reply c.args.guide.now in
    let s = state_of c.args.self.now c.args.table.now in
    let calls = c.args.calls.now in
    let i = c.loop-i.i in
    let all : take i calls ≡ calls = take_all i calls c.loop-i-test.false in
    let end : i ≡ length calls = omega arith in
    record {
      leaves = c.loop-i.invariant.0 ∙ ap (λ l. (ran reply s l).table) all;
      replies = sym (take-append-drop i c.loop-i.answers) ∙ (λ k. (c.loop-i.invariant.1 ∙ ap (answered reply s) all) k ++ (c.loop-i.invariant.2 ∙ ap (λ n. drop n c.args.answers.now) end) k);
    }
