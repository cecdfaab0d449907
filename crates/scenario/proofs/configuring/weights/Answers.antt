use Rattle.std.proofs.Common.{◌≡◌, ◌-◌, ◌++◌, length, replicate, ap, sym, ◌∙◌, map, set, pos, rules, arith, refl, w64, to_z-of_z}
use Rattle.std.specs.Prelude.{FitsSigned, slice_index_or}
use Rattle.std.proofs.lemmas.List.{take_all, length-map}
use Rattle.std.proofs.lemmas.List as list
use Rattle.scenario.specs.Numbers.{natural, is_between}
use Rattle.scenario.proofs.Ranges.{naturals, passes}
use Rattle.scenario.proofs.Filled.{filled_next}
use Rattle.scenario.proofs.configuring.weights.Goals as goal

pub bounds-given-kind : goal.bounds-given-kind
bounds-given-kind c = c.loop-kind-test.true

pub bounds-weights-kind : goal.bounds-weights-kind
bounds-weights-kind c = omega (arith, c.loop-kind-test.true, c.requires.few)

pub offset_bounds-given-kind : goal.offset_bounds-given-kind
offset_bounds-given-kind c = omega (arith, c.loop-kind-test.true, c.requires.few)

pub offset_bounds-weights-kind : goal.offset_bounds-weights-kind
offset_bounds-weights-kind c = omega (arith, c.loop-kind-test.true, c.requires.few)

pub loop-kind-init : goal.loop-kind-init
loop-kind-init c = refl

pub overflow_cast-weights : goal.overflow_cast-weights
overflow_cast-weights c =
    let weight = slice_index_or c.args.given.now c.loop-kind.kind (pos 0) in
    let fits : FitsSigned w64 weight = search rules in
    let e = simp to_z-of_z at c.natural.ensures in
    let small = naturals 0 1000 weight (passes (is_between (pos 0) (pos 1000)) c.args.given.now c.loop-kind.kind (pos 0) c.requires.small c.loop-kind-test.true) in
    omega (arith, e, small.high)

pub loop-kind-preserved : goal.loop-kind-preserved
loop-kind-preserved c =
    let given = c.args.given.now in
    let kind = c.loop-kind.kind in
    let fits : FitsSigned w64 (slice_index_or given kind (pos 0)) = search rules in
    let e = simp to_z-of_z at c.natural.ensures in
    let long = length-map given natural in
    let here = e ∙ sym (list.get_or-map natural given kind (pos 0) 0 c.loop-kind-test.true) in
    ap (λ xs. set xs kind c.natural.result) c.loop-kind.invariant
    ∙ filled_next (map natural given) kind 16 0 c.natural.result (omega (arith, c.loop-kind-test.true, long)) (omega (arith, c.requires.few, long)) here

pub returns : goal.returns
returns c =
    let given = c.args.given.now in
    let kind = c.loop-kind.kind in
    let last : kind ≡ length given = omega (arith, c.loop-kind-test.false, c.loop-kind.auto.kind-end) in
    c.loop-kind.invariant
    ∙ ap (λ xs. xs ++ replicate (16 - kind) 0) (take_all kind (map natural given) (omega (arith, c.loop-kind-test.false, length-map given natural)))
    ∙ ap (λ n. map natural given ++ replicate (16 - n) 0) last
