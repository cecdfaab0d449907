use Rattle.std.proofs.Common.{◌≡◌, ◌+◌, ◌<◌, not, length, sym, ap, ◌∙◌, arith}
use Rattle.node_grid.specs.Count.{bit}
use Rattle.omh_paths.specs.Wrapped.{is_error, same}
use Rattle.omh_paths.proofs.Candidates.{has_majority_from}
use Rattle.omh_paths.proofs.voting.has_majority.Goals as goal
use Rattle.omh_paths.proofs.voting.has_majority.Goals.{then-not-is_error, else-not-is_error, then-is, else-is}
use Rattle.node_grid.specs.ListLaws.{bit_le, count_next}

pub loop-other-preserved : goal.loop-other-preserved
loop-other-preserved g c =
    let all = c.args.values.now in
    let i = c.loop-other.other-index in
    let here : i < length all = omega arith in
    let v = count_next (λ y. not (is_error y)) all i c.other-item.result here c.other-item.is in
    let s = count_next (same g.V.PartialEq.eq c.args.value) all i c.other-item.result here c.other-item.is in
    let is_v = c.is_error.ensures in
    let is_s = c.is.ensures in
    let voted : c.if-not-is_error.votes ≡ c.loop-other.votes + bit (not (is_error c.other-item.result)) =
    elim c.if-not-is_error.branch [
      | then-not-is_error w ↦ let b : bit (not (is_error c.other-item.result)) ≡ 1 = ap (λ x. bit (not x)) (sym is_v ∙ w.if-not-is_error.true) in omega (arith, w.votes-is)
      | else-not-is_error w ↦ let b : bit (not (is_error c.other-item.result)) ≡ 0 = ap (λ x. bit (not x)) (sym is_v ∙ w.if-not-is_error.false) in omega (arith, w.votes-is)
    ] in
    let supported : c.if-is.support ≡ c.loop-other.support + bit (same g.V.PartialEq.eq c.args.value c.other-item.result) =
    elim c.if-is.branch [
      | then-is w ↦ let b : bit (same g.V.PartialEq.eq c.args.value c.other-item.result) ≡ 1 = ap bit (sym is_s ∙ w.if-is.true) in omega (arith, w.support-is)
      | else-is w ↦ let b : bit (same g.V.PartialEq.eq c.args.value c.other-item.result) ≡ 0 = ap bit (sym is_s ∙ w.if-is.false) in omega (arith, w.support-is)
    ] in
    record {
      votes = omega (arith, voted, v, c.loop-other.invariant.votes);
      support = omega (arith, supported, s, c.loop-other.invariant.support);
      few_votes = omega (arith, voted, bit_le (not (is_error c.other-item.result)), c.loop-other.invariant.few_votes);
      few_support = omega (arith, supported, bit_le (same g.V.PartialEq.eq c.args.value c.other-item.result), c.loop-other.invariant.few_support);
    }

pub returns : goal.returns
returns g c =
    has_majority_from g.V.PartialEq.eq c.args.values.now c.args.value c.loop-other.votes c.loop-other.support c.loop-other.other-index c.requires.good
    (omega (arith, c.loop-other-test.false)) c.loop-other.invariant.votes c.loop-other.invariant.support
