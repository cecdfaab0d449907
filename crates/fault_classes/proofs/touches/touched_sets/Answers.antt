use Rattle.std.proofs.Common.{◌≡◌, ℕ, false, replicate, refl, ◌≤◌, ◌^◌, ◌<◌, ◌+◌, ◌++◌, ◌∷◌, [], true, List, map, length, take, drop, get_or, sym, ap, ◌∙◌, arith, lit<, subst}
use Rattle.std.proofs.lemmas.Result.{IfOk-from_err}
use Rattle.std.proofs.lemmas.List.{length-map, take-append-le, take_all}
use Rattle.node_grid.specs.CapacityLaws.{capacity-le}
use Rattle.node_grid.specs.NodeSetLaws.{filter_none}
use Rattle.fault_classes.specs.Line.{Line, line_of}
use Rattle.fault_classes.specs.Rules.{is_line}
use Rattle.fault_classes.specs.Touches.{IsTouched}
use Rattle.fault_classes.proofs.Entries.{all_here}
use Rattle.fault_classes.proofs.Places.{line_at, front_at, none_there, long_as}
use Rattle.fault_classes.proofs.Ranges.{line_facts}
use Rattle.fault_classes.proofs.Sending.{touched_push}
use Rattle.fault_classes.proofs.touches.touched_sets.Goals as goal

written : (new old : List (List ℕ)) (n : ℕ) → length new ≡ length old → length old ≡ n → take n (new ++ drop (length new) old) ≡ new
written new old n a b = take-append-le n new (drop (length new) old) (omega arith) ∙ take_all n new (omega arith)

-- no line touches anything
none_touched : (n t : ℕ) (x : List ℕ) (sets : List (List ℕ)) → sets ≡ replicate t x → x ≡ [] → IsTouched n t [] sets
none_touched n t x sets e z = record {
  long = ap length e ∙ long_as t x;
  members = λ p low. ap (λ v. get_or v p []) (e ∙ ap (replicate t) z) ∙ none_there t p ∙ sym (filter_none (λ i. false) 0 n (λ k l u. refl));
}

pub put_sender-requires : goal.put_sender-requires
put_sender-requires g c =
    let n = c.args.shape.now.nodes in
    let s = c.args.shape.now.slots in
    let t = c.args.shape.now.periods in
    let x = c.line-item.result in
    let k = c.loop-line.line-index in
    let all : List Line = map line_of c.args.lines.now in
    let many : k < length all = omega (arith, length-map c.args.lines.now (line_of {n = g.row.N})) in
    let at : get_or all k (line_of x) ≡ line_of x = line_at c.args.lines.now k x c.loop-line-test.true c.line-item.is in
    let ok : is_line n s t (line_of x) ≡ true = ap (is_line n s t) (sym at) ∙ all_here (is_line n s t) all k (line_of x) many c.requires.lines in
    let f = line_facts n s t (line_of x) ok in
    let long : length c.as_mut_slice.result.now ≡ t = ap length c.as_mut_slice.ensures.value ∙ c.loop-line.invariant.long in
    let few : t < 2 ^ 32 = omega (arith, c.requires.shape.few_periods) in
    (lit< tt, (lit< tt, (omega (arith, f.from, c.requires.shape.few_nodes), (f.ordered, (omega (arith, f.last, long), omega (arith, few, long))))))

pub loop-line-preserved : goal.loop-line-preserved
loop-line-preserved g c =
    let t = c.args.shape.now.periods in
    let x = c.line-item.result in
    let k = c.loop-line.line-index in
    let all : List Line = map line_of c.args.lines.now in
    let front : take (k + 1) all ≡ take k all ++ line_of x ∷ [] = front_at c.args.lines.now k x c.loop-line-test.true c.line-item.is in
    let old = c.as_mut_slice.result.now in
    let new = c.put_sender.new.sets in
    let before : IsTouched g.row.N t (take k all) old = subst (λ v. IsTouched g.row.N t (take k all) v) (sym c.as_mut_slice.ensures.value) c.loop-line.invariant in
    let items : take c.loop-line.sets.len (new ++ drop (length new) c.loop-line.sets.items) ≡ new =
    written new c.loop-line.sets.items c.loop-line.sets.len (omega (arith, c.put_sender.ensures.long, ap length c.as_mut_slice.ensures.value)) (omega (arith, c.as_mut_slice.ensures.len, ap length c.as_mut_slice.ensures.value))
    in
    rw (items, front) (touched_push g.row.N t (take k all) (line_of x) old new before c.put_sender.ensures)

pub bounds-lines-line-index : goal.bounds-lines-line-index
bounds-lines-line-index g c = c.loop-line-test.true

pub loop-line-smaller : goal.loop-line-smaller
loop-line-smaller g c = let t = c.loop-line-test.true in omega arith

pub returns-in_err-sets : goal.returns-in_err-sets
returns-in_err-sets g c = IfOk-from_err c.from_residual.result _ c.from_residual.ensures.0

pub empty-requires : goal.empty-requires
empty-requires g c = (lit< tt, capacity-le g.row.N c.requires.shape.capacity)

pub loop-line-init : goal.loop-line-init
loop-line-init g c = none_touched g.row.N c.args.shape.now.periods c.empty.result c.in_ok-sets.sets.items (c.in_ok-sets.ensures.items_if_clones_equal (λ y e. e)) c.empty.ensures

pub returns : goal.returns
returns g c =
    let all : List Line = map (line_of {n = g.row.N}) c.args.lines.now in
    let end : length all ≤ c.loop-line.line-index = omega (arith, c.loop-line-test.false, length-map c.args.lines.now (line_of {n = g.row.N})) in
    subst (λ (ls : List Line). IsTouched g.row.N c.args.shape.now.periods ls c.loop-line.sets.items) (take_all c.loop-line.line-index all end) c.loop-line.invariant
