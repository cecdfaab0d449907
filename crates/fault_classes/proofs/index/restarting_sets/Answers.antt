use Rattle.std.proofs.Common.{◌≡◌, ℕ, ◌<◌, ◌≤◌, List, [], length, get_or, take, replicate, true, false, None, refl, sym, ap, ◌∙◌, arith, subst, lit<}
use Rattle.std.proofs.lemmas.Result.{IfOk-from_err}
use Rattle.std.proofs.lemmas.List.{take_more, take_all, get_or_read}
use Rattle.node_grid.specs.CapacityLaws.{capacity-le}
use Rattle.node_grid.specs.NodeSetLaws.{filter_none}
use Rattle.node_grid.specs.NodeSet.{with_id}
use Rattle.fault_classes.specs.declared.line.Restart.{Restart}
use Rattle.fault_classes.specs.Rules.{is_restart}
use Rattle.fault_classes.specs.Index.{IsRestarting}
use Rattle.fault_classes.proofs.Places.{none_there, long_as}
use Rattle.fault_classes.proofs.Restarting.{restart_ok, restart_parts, restarting_push}
use Rattle.fault_classes.proofs.index.restarting_sets.Goals as goal

-- nobody restarts
none_restarts : (n t : ℕ) (x : List ℕ) (sets : List (List ℕ)) → sets ≡ replicate t x → x ≡ [] → IsRestarting n t [] sets
none_restarts n t x sets e z = record {
  long = ap length e ∙ long_as t x;
  members = λ p low. ap (λ v. get_or v p []) (e ∙ ap (replicate t) z) ∙ none_there t p ∙ sym (filter_none (λ i. false) 0 n (λ k l u. refl));
}

pub index_mut-set-requires : goal.index_mut-set-requires
index_mut-set-requires g c =
    let d : Restart = record { node = 0; period = 0 } in
    let r : Restart = get_or c.args.restarts.now c.loop-restart.restart-index d in
    let ok : is_restart c.args.size.nodes c.args.size.periods r ≡ true = restart_ok c.args.size.nodes c.args.size.periods None 0 c.args.restarts.now c.loop-restart.restart-index d c.loop-restart-test.true c.requires.in_order in
    let p = restart_parts c.args.size.nodes c.args.size.periods r ok in
    omega (arith, p.1, c.loop-restart.invariant.long, c.loop-restart.sets.ok)

pub put-requires : goal.put-requires
put-requires g c =
    let d : Restart = record { node = 0; period = 0 } in
    let r : Restart = get_or c.args.restarts.now c.loop-restart.restart-index d in
    let ok : is_restart c.args.size.nodes c.args.size.periods r ≡ true = restart_ok c.args.size.nodes c.args.size.periods None 0 c.args.restarts.now c.loop-restart.restart-index d c.loop-restart-test.true c.requires.in_order in
    let p = restart_parts c.args.size.nodes c.args.size.periods r ok in
    let low : r.node < g.row.N = omega (arith, p.0, c.requires.size.few_nodes) in
    (lit< tt, low)

pub loop-restart-preserved : goal.loop-restart-preserved
loop-restart-preserved g c =
    let d : Restart = record { node = 0; period = 0 } in
    let k = c.loop-restart.restart-index in
    let xs = c.args.restarts.now in
    let r : Restart = get_or xs k d in
    let ok : is_restart c.args.size.nodes c.args.size.periods r ≡ true = restart_ok c.args.size.nodes c.args.size.periods None 0 xs k d c.loop-restart-test.true c.requires.in_order in
    let p = restart_parts c.args.size.nodes c.args.size.periods r ok in
    let sets = c.loop-restart.sets.items in
    let within : r.period < length sets = omega (arith, p.1, c.loop-restart.invariant.long) in
    let old : c.index_mut-set.result.now ≡ get_or sets r.period [] = get_or_read sets r.period c.index_mut-set.result.now within c.index_mut-set.ensures.value [] in
    let new : c.put.new.self ≡ with_id g.row.N (get_or sets r.period []) r.node = c.put.ensures ∙ ap (λ s. with_id g.row.N s r.node) old in
    rw (take_more xs k d c.loop-restart-test.true) (restarting_push g.row.N c.args.size.periods (take k xs) r sets c.put.new.self c.loop-restart.invariant p.1 new)

pub bounds-restarts-restart-index : goal.bounds-restarts-restart-index
bounds-restarts-restart-index g c = c.loop-restart-test.true

pub loop-restart-smaller : goal.loop-restart-smaller
loop-restart-smaller g c = let t = c.loop-restart-test.true in omega arith

pub returns-in_err-sets : goal.returns-in_err-sets
returns-in_err-sets g c = IfOk-from_err c.from_residual.result _ c.from_residual.ensures.0

pub empty-requires : goal.empty-requires
empty-requires g c = (lit< tt, capacity-le g.row.N c.requires.size.capacity)

pub loop-restart-init : goal.loop-restart-init
loop-restart-init g c = none_restarts g.row.N c.args.size.periods c.empty.result c.in_ok-sets.sets.items (c.in_ok-sets.ensures.items_if_clones_equal (λ y e. e)) c.empty.ensures

pub returns : goal.returns
returns g c =
    let all : List Restart = c.args.restarts.now in
    let end : length all ≤ c.loop-restart.restart-index = omega (arith, c.loop-restart-test.false) in
    subst (λ (rs : List Restart). IsRestarting g.row.N c.args.size.periods rs c.loop-restart.sets.items) (take_all c.loop-restart.restart-index all end) c.loop-restart.invariant
