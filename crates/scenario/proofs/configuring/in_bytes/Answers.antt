use Rattle.std.proofs.Common.{◌≡◌, ap, arith, ◌∙◌, map, refl, rules, pos, w64, to_z-of_z}
use Rattle.std.specs.Prelude.{FitsSigned, slice_index_or}
use Rattle.std.proofs.lemmas.List.{take_all}
use Rattle.scenario.specs.Numbers.{natural, is_below}
use Rattle.scenario.proofs.Ranges.{passes, below}
use Rattle.scenario.proofs.Filled.{next_map}
use Rattle.scenario.proofs.configuring.in_bytes.Goals as goal

pub loop-number-init : goal.loop-number-init
loop-number-init c = c.new-bytes.ensures.items

pub loop-number-preserved : goal.loop-number-preserved
loop-number-preserved c =
    let number = slice_index_or c.args.numbers.now c.loop-number.number-index (pos 0) in
    let fits : FitsSigned w64 number = search rules in
    next_map natural c.args.numbers.now c.loop-number.number-index (pos 0) number c.natural.result c.loop-number.bytes.items c.push.new.self.items c.loop-number-test.true refl (simp to_z-of_z at c.natural.ensures)
    c.in_ok-push.ensures.items c.loop-number.invariant

pub returns : goal.returns
returns c = c.loop-number.invariant ∙ ap (map natural) (take_all c.loop-number.number-index c.args.numbers.now c.loop-number-test.false)

pub overflow_cast-natural : goal.overflow_cast-natural
overflow_cast-natural c =
    let number = slice_index_or c.args.numbers.now c.loop-number.number-index (pos 0) in
    let fits : FitsSigned w64 number = search rules in
    let e : c.natural.result ≡ natural number = simp to_z-of_z at c.natural.ensures in
    let small = (below 256 number (passes (is_below 256) c.args.numbers.now c.loop-number.number-index (pos 0) c.requires c.loop-number-test.true)).small in
    omega (arith, e, small)
