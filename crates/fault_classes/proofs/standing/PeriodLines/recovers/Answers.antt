use Rattle.std.proofs.Common.{◌≡◌, ℕ, ◌+◌, Bool, not, ◌&&◌, length, sym, ap, ap₂, ◌∙◌, arith}
use Rattle.std.specs.Prelude.{◌==◌, nat_lt}
use Rattle.node_grid.specs.NodeSet.{has_id, ids_below}
use Rattle.node_grid.specs.Count.{bit, count}
use Rattle.node_grid.specs.SetFacts.{count_ids}
use Rattle.fault_classes.specs.Change.{is_manifest}
use Rattle.fault_classes.specs.Line.{effect_at}
use Rattle.fault_classes.specs.Plan.{sound_before, steady}
use Rattle.node_grid.specs.NodeSetLaws.{count-below}
use Rattle.fault_classes.proofs.Sets.{has_in, length_where}
use Rattle.fault_classes.proofs.standing.PeriodLines.recovers.Goals as goal
use Rattle.fault_classes.proofs.standing.PeriodLines.recovers.Goals.{then-is_stray, else-is_stray}

pub loop-other-preserved : goal.loop-other-preserved
loop-other-preserved g c =
    let k = c.loop-other.other in
    let stray : ℕ → Bool = λ j. not (j == c.args.node) && (not (has_id c.args.good.now j) && not (is_manifest (effect_at c.args.self.now.index.now.lines c.args.self.now.period 0 j c.args.node))) in
    let more : count stray (ids_below (k + 1)) ≡ count stray (ids_below k) + bit (stray k) = count-below stray k in
    elim c.if-is_stray.branch [
      | then-is_stray w ↦
          let on : bit (stray k) ≡ 1 = ap bit (sym c.is_stray.ensures ∙ w.if-is_stray.true) in
          record { counted = w.strays-is ∙ omega (arith, more, on, c.loop-other.invariant.counted); few = omega (arith, w.strays-is, c.loop-other.invariant.few) }
      | else-is_stray w ↦
          let off : bit (stray k) ≡ 0 = ap bit (sym c.is_stray.ensures ∙ w.if-is_stray.false) in
          record { counted = w.strays-is ∙ omega (arith, more, off, c.loop-other.invariant.counted); few = omega (arith, w.strays-is, c.loop-other.invariant.few) }
    ]

pub returns : goal.returns
returns g c =
    let plan = c.args.self.now.index.now in
    let p = c.args.self.now.period in
    let n = plan.nodes in
    let good : ℕ → Bool = steady plan p (sound_before plan p) in
    let end : c.loop-other.other ≡ n = omega arith in
    let by : (ℕ → Bool) → ℕ → Bool = λ has j. not (j == c.args.node) && (not (has j) && not (is_manifest (effect_at plan.lines p 0 j c.args.node))) in
    let strays : c.loop-other.strays ≡ count (by good) (ids_below n) =
    c.loop-other.invariant.counted ∙ ap (λ m. count (by (has_id c.args.good.now)) (ids_below m)) end
    ∙ count_ids (by (has_id c.args.good.now)) (by good) n (λ k h. ap (λ b. not (k == c.args.node) && (not b && not (is_manifest (effect_at plan.lines p 0 k c.args.node)))) (has_in c.args.good.now good n k c.requires.good h))
    in
    let many : c.len.result ≡ count good (ids_below n) = c.len.ensures.count ∙ ap length c.requires.good ∙ length_where good n in
    ap₂ nat_lt strays many
