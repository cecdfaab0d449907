use Rattle.std.proofs.Common.{◌≡◌, ℕ, map, subst, sym, arith, inl, inr, lit<}
use Rattle.node_grid.specs.NodeSet.{ids_below}
use Rattle.run_print.specs.Printing.{Prints}
use Rattle.run_print.proofs.Joining.{then, nothing}
use Rattle.run_print.proofs.Lists.{joined_next}
use Rattle.std.specs.Prelude.{codes}
use Rattle.list_scheduler.specs.Copies.{works}
use Rattle.run_text.specs.Text.{separated, running_text}
use Rattle.run_print.proofs.printer.Printer.runs_among.Goals as goal

pub loop-node-preserved : goal.loop-node-preserved
loop-node-preserved g c =
    rw (joined_next (codes ",") (λ q. running_text (works c.args.copies.now q)) c.loop-node.node)
    (then c.loop-node.invariant (rw (sym c.running_among.ensures) c.run_at.ensures))

pub run_at-requires : goal.run_at-requires
run_at-requires g c = assumption

pub running_among-requires : goal.running_among-requires
running_among-requires g c =
    (elim g.bound-2.eight_or_sixteen [ inl e ↦ rw e (lit< tt) | inr e ↦ rw e (lit< tt) ], (c.requires.tasks, c.requires.idle))

pub loop-node-init : goal.loop-node-init
loop-node-init g c = nothing g.K.Sink.written g.K.Sink.faults c.args.self.now c.args.sink.now

pub loop-node-smaller : goal.loop-node-smaller
loop-node-smaller g c = omega (arith, c.loop-node-test.true)

pub returns : goal.returns
returns g c =
    let last : c.loop-node.node ≡ c.args.nodes = omega (arith, c.loop-node-test.false, c.loop-node.auto.node-end) in
    subst (λ (n : ℕ). Prints g.K.Sink.written g.K.Sink.faults c.args.self.now c.args.sink.now c.loop-node.self c.loop-node.sink
    (separated (codes ",") (map (λ q. running_text (works c.args.copies.now q)) (ids_below n)))) last c.loop-node.invariant
