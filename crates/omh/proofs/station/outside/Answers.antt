use Rattle.std.proofs.Common.{◌≡◌, ◌<◌, length, sym, ap, ◌∙◌, true, arith}
use Rattle.std.proofs.lemmas.List.{take_all}
use Rattle.node_grid.specs.NodeSet.{has_id}
use Rattle.omh_paths.specs.Paths.{outside}
use Rattle.omh_paths.specs.PathLists.{outside_nothing, has-at}
use Rattle.omh.proofs.Flats.{outside_more}
use Rattle.omh.proofs.station.outside.Goals as goal

pub loop-k-init : goal.loop-k-init
loop-k-init g c = sym (outside_nothing c.args.members.now)

pub cut-requires : goal.cut-requires
cut-requires g c =
    let here : c.loop-k.k < length c.args.path.now = omega (arith, c.loop-k-test.true, c.len-k-end.ensures.count) in
    let on : has_id c.args.path.now c.at.result ≡ true = ap (has_id c.args.path.now) c.at.ensures ∙ has-at c.args.path.now c.loop-k.k 0 here in
    (omega arith, c.requires c.at.result on)

pub loop-k-preserved : goal.loop-k-preserved
loop-k-preserved g c =
    let here : c.loop-k.k < length c.args.path.now = omega (arith, c.loop-k-test.true, c.len-k-end.ensures.count) in
    outside_more c.args.members.now c.args.path.now c.loop-k.left c.cut.new.self c.loop-k.k c.at.result here c.at.ensures c.loop-k.invariant c.cut.ensures

pub returns : goal.returns
returns g c = c.loop-k.invariant ∙ ap (outside c.args.members.now) (take_all c.loop-k.k c.args.path.now (omega (arith, c.loop-k-test.false, c.len-k-end.ensures.count)))
