use Rattle.std.proofs.Common.{◌≢◌, ◌<◌, ◌/◌, ℕ, List, length, length-set, get_or-set_other, get_or-set_same, below_more, ap, ◌∙◌, arith, lit<, inl, inr}
use Rattle.node_grid.specs.Capacity.{IsCapacity}
use Rattle.std.proofs.lemmas.List.{length-replicate, get_or-replicate}
use Rattle.error_reports.proofs.charge_all.limits.Goals as goal

pub loop-node-init : goal.loop-node-init
loop-node-init g c =
    record {
      wide = length-replicate g.row.N 31;
      voters = λ j low. absurd (omega arith);
      rest = λ j high low. get_or-replicate g.row.N j 31 0 low;
    }

pub voters-requires : goal.voters-requires
voters-requires g c =
    let cap : IsCapacity g.row.N = g.bound-1.eight_or_sixteen in (
      elim cap [ inl e ↦ rw e (lit< tt) | inr e ↦ rw e (lit< tt) ],
      (lit< tt, (c.requires.members, c.requires.senders)),
    )

pub overflow_cast-limits : goal.overflow_cast-limits
overflow_cast-limits g c = let t = c.loop-node-test.true in let n = c.requires.nodes in let f = g.N.fits in omega arith

pub bounds-limits-node : goal.bounds-limits-node
bounds-limits-node g c = let t = c.loop-node-test.true in let n = c.requires.nodes in omega arith

pub loop-node-smaller : goal.loop-node-smaller
loop-node-smaller g c = let t = c.loop-node-test.true in omega arith

pub loop-node-preserved : goal.loop-node-preserved
loop-node-preserved g c =
    let limits : List ℕ = c.loop-node.limits in
    let i : ℕ = c.loop-node.node in
    let half : ℕ = c.voters.result / 2 in
    let was = c.loop-node.invariant in
    let room : i < length limits = (let t = c.loop-node-test.true in let n = c.requires.nodes in let w = c.loop-node.invariant.wide in omega arith) in
    record {
      wide = length-set limits i half ∙ was.wide;
      voters = below_more _ _
          (λ j l. let ne : j ≢ i = omega arith in get_or-set_other limits i j half 0 ne ∙ was.voters j l)
          (get_or-set_same limits i half 0 room ∙ ap (λ (n : ℕ). n / 2) c.voters.ensures);
      rest = λ j high low. let ne : j ≢ i = omega arith in get_or-set_other limits i j half 0 ne ∙ was.rest j (omega arith) low;
    }

pub returns-clause-voters : goal.returns-clause-voters
returns-clause-voters g c j low = let t = c.loop-node-test.false in c.loop-node.invariant.voters j (omega arith)

pub returns-clause-rest : goal.returns-clause-rest
returns-clause-rest g c j high low = let e = c.loop-node.auto.node-end in c.loop-node.invariant.rest j (omega arith) low
