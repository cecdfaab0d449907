use Rattle.std.proofs.Common.{map, ap, ◌∙◌, arith}
use Rattle.std.proofs.lemmas.List.{get_or-map, length-map, length-set}
use Rattle.std.proofs.lemmas.List.FromFn.{length-range_with_len, get_or-range_with_len}
use Rattle.node_grid.specs.NodeSet.{ids_below}
use Rattle.omh_paths.specs.declared.wrapped.Wrapped.TheVariants.{Fault}
use Rattle.relay_terms.specs.Terms.{said}
use Rattle.relay_table.specs.Settling.{settled_at_place}
use Rattle.relay_table.proofs.Filling.{set_more, set_all}
use Rattle.relay_table.proofs.station.Station.hand_out.Goals as goal

pub loop-node-preserved : goal.loop-node-preserved
loop-node-preserved g c =
    let s = c.args.self.now in
    let f = settled_at_place s.members s.others s.me s.full (said c.args.own.now) (map said c.args.settled.now) in
    record {
      items = set_more f c.loop-node.items c.loop-node.node c.settled_item.result (omega (arith, c.loop-node.invariant.long, c.requires.room, c.loop-node-test.true)) c.settled_item.ensures c.loop-node.invariant.items;
      long = length-set c.loop-node.items c.loop-node.node c.settled_item.result ∙ c.loop-node.invariant.long;
    }

pub returns : goal.returns
returns g c =
    let s = c.args.self.now in
    let n = g.row.N in
    let i = c.loop-node.invariant in
    let f = settled_at_place s.members s.others s.me s.full (said c.args.own.now) (map said c.args.settled.now) in
    let many = length-map (ids_below n) f in
    let below = length-range_with_len 0 n in
    set_all f c.loop-node.items c.loop-node.node (map f (ids_below n)) (omega (arith, many, below, i.long, c.requires.room)) (omega (arith, i.long, c.requires.room, c.loop-node-test.false)) i.items
    (λ k low. get_or-map f (ids_below n) k 0 (Fault 0) (omega (arith, many)) ∙ ap f (get_or-range_with_len 0 n k 0 (omega (arith, many, below)) ∙ omega arith))
