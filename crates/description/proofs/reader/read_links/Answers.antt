use Rattle.std.proofs.Common.{ℕ, refl, arith, sym, ◌∙◌}
use Rattle.std.proofs.lemmas.Bool.{eqb-false, eqb-true}
use Rattle.std.proofs.lemmas.List.{length-set, nil_from_length}
use Rattle.std.proofs.lemmas.Result.{MatchResult-at_err, MatchResult-at_ok}
use Rattle.description_laws.specs.Description.{after_o}
use Rattle.description_laws.proofs.Firsts.{first_place}
use Rattle.description.proofs.Ends.{bare_gap, complete, follows}
use Rattle.description.proofs.Exits.{exit}
use Rattle.description.proofs.Marks.{another, gaps_below}
use Rattle.description.proofs.Steps.{unmarked}
use Rattle.description.proofs.Stops.{not_listed, refused, unread}
use Rattle.description.proofs.reader.read_links.Goals as goal

pub returns-in_err-record : goal.returns-in_err-record
returns-in_err-record c =
    let r = c.loop-record.invariant in
    exit _ _ _ c.from_residual.ensures.1 (unread r.1.split r.1.sound _ (rw r.0 refl) _ after_o c.in_err-record.ensures)

pub returns-in_err-or_fault-in-Pillar : goal.returns-in_err-or_fault-in-Pillar
returns-in_err-or_fault-in-Pillar c =
    let r = c.loop-record.invariant in
    let h = c.in_ok-record.ensures in
    let f = c.in_err-or_fault-in-Pillar.ensures in
    let w = MatchResult-at_err _ _ _ f.1 c.mark.ensures in
    exit _ _ _ c.from_residual-in_err-or_fault-in-Pillar.ensures.1
    (rw (f.2, r.0) (unmarked _ _ _ r.1 (omega arith) (rw c.in-Pillar.is at h.1) (rw c.in-Pillar.is at h.2) w))

pub returns-then-not-all_linked : goal.returns-then-not-all_linked
returns-then-not-all_linked c =
    let r = c.loop-record.invariant in
    rw (c.refuse.ensures, r.0) (bare_gap r.1 (rw c.in-End.is at c.in_ok-record.ensures.1) (omega arith) (c.if-not-all_linked.ensures.linked (omega (arith, gaps_below c.args.description.sizes, length-set {A = ℕ}))))

pub returns-then-not-is_empty : goal.returns-then-not-is_empty
returns-then-not-is_empty c =
    let r = c.loop-record.invariant in
    let h = c.in_ok-record.ensures in
    rw (c.refuse-then-not-is_empty.ensures, h.0, r.0) (follows r.1 (rw c.in-End.is at h.1) (omega arith) (c.if-not-all_linked.ensures.linked (omega (arith, gaps_below c.args.description.sizes, length-set {A = ℕ}))) (eqb-false _ _ (sym c.if-not-is_empty.ensures)))

pub returns-in-End : goal.returns-in-End
returns-in-End c =
    let r = c.loop-record.invariant in
    let h = c.in_ok-record.ensures in
    complete r.1 (rw c.in-End.is at h.1) (omega arith) (c.if-not-all_linked.ensures.linked (omega (arith, gaps_below c.args.description.sizes, length-set {A = ℕ}))) (nil_from_length _ (eqb-true _ _ (sym c.if-not-is_empty.ensures)))

pub returns-in_default : goal.returns-in_default
returns-in_default c =
    let h = c.in_ok-record.ensures in
    let r = c.loop-record.invariant in
    rw c.refuse-in_default.ensures (refused r.1.split r.1.sound _ (rw r.0 refl) after_o _ _ h.1 (first_place h.2 (not_listed c.in_default.not-Pillar c.in_default.not-End)) refl)

pub loop-record-preserved : goal.loop-record-preserved
loop-record-preserved c =
    let r = c.loop-record.invariant in
    let h = c.in_ok-record.ensures in
    let m = MatchResult-at_ok _ _ _ c.in_ok-or_fault-in-Pillar.ensures c.mark.ensures in
    (h.0 ∙ r.0, rw m.2 (another r.1 (omega arith) c.in-Pillar.link _ (rw c.in-Pillar.is at h.1) m.0 m.1), omega (arith, length-set {A = ℕ}))
