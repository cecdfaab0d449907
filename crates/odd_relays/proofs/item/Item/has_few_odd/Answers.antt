use Rattle.std.proofs.Common.{◌&&◌, not, refl, ℕ, arith, lt-ltb, ltb-true}
use Rattle.node_grid.specs.NodeSet.{has_id}
use Rattle.node_grid.specs.Count.{count}
use Rattle.node_grid.specs.NodeSetLaws.{length-ids}
use Rattle.node_grid.specs.ListFacts.{few_nodes}
use Rattle.node_grid.specs.SetFacts.{sides, regular_fewer}
use Rattle.odd_relays.proofs.item.Item.has_few_odd.Goals as goal

pub overflow_sub-odd : goal.overflow_sub-odd
overflow_sub-odd g c = regular_fewer c.args.self.now.phase.members c.args.self.now.odd c.minus-regular.result c.len.result c.len-2.result c.len.ensures.count c.len-2.ensures.count c.minus-regular.ensures

pub overflow_mul-result : goal.overflow_mul-result
overflow_mul-result g c =
    let f = few_nodes g.row.N c.len.result c.args.self.now.phase.members c.args.self.now.fits c.len.ensures.count (length-ids g.row.N c.args.self.now.phase.members c.len.ensures.ids) in omega arith

pub overflow_add-result : goal.overflow_add-result
overflow_add-result g c =
    let f = few_nodes g.row.N c.len.result c.args.self.now.phase.members c.args.self.now.fits c.len.ensures.count (length-ids g.row.N c.args.self.now.phase.members c.len.ensures.ids) in
    let h = few_nodes g.row.N c.len-idle.result c.minus.result c.args.self.now.fits c.len-idle.ensures.count (length-ids g.row.N c.minus.result c.len-idle.ensures.ids) in omega arith

pub overflow_add-result-2 : goal.overflow_add-result-2
overflow_add-result-2 g c =
    let f = few_nodes g.row.N c.len.result c.args.self.now.phase.members c.args.self.now.fits c.len.ensures.count (length-ids g.row.N c.args.self.now.phase.members c.len.ensures.ids) in
    let h = few_nodes g.row.N c.len-idle.result c.minus.result c.args.self.now.fits c.len-idle.ensures.count (length-ids g.row.N c.minus.result c.len-idle.ensures.ids) in
    let m = c.args.self.now.short in omega arith

pub returns : goal.returns
returns g c =
    let s = c.args.self.now.phase in
    let odd = c.args.self.now.odd in
    let o : ℕ = count (λ q. has_id odd q) s.members in
    let z : ℕ = count (λ q. not (has_id odd q) && not (has_id s.full q)) s.members in
    let e = sides s.members s.full odd c.minus-regular.result c.minus.result c.len.result c.len-2.result c.len-idle.result s.rounds o z refl refl c.len.ensures.count c.len-2.ensures.count c.len-idle.ensures.count c.minus-regular.ensures c.minus.ensures in
    let n = c.len-3.ensures.count in (
      (λ yes. let l = ltb-true _ _ yes in omega arith),
      (λ few. lt-ltb _ _ (omega (arith, few))),
    )
