use Rattle.std.proofs.Common.{rules, ◌≡◌, ◌*◌, ℕ, ℤ, pos, List, length, map, get_or, sym, ap, ◌∙◌, arith}
use Rattle.std.specs.List.{flat_map}
use mir.Syntax.{w64}
use mir.Val.{SFits}
use Rattle.std.proofs.lemmas.Int.{to_z-of_z}
use Rattle.frames.specs.Spelling.{value_spelling}
use Rattle.frames.specs.Writing.{pasted}
use Rattle.frames.specs.PieceLaws.{pasted_nothing}
use Rattle.protocol.specs.View.{own_in}
use Rattle.data_slot.proofs.Spelling.{value_more}
use Rattle.std.proofs.lemmas.List.{get_or-map, length-map, take_all}
use Rattle.data_slot.proofs.own.put_values.Goals as goal

pub loop-k-init : goal.loop-k-init
loop-k-init c = sym (pasted_nothing 0 c.args.out.now)

pub loop-k-preserved : goal.loop-k-preserved
loop-k-preserved c =
    let due : List ℕ = c.args.due.now in
    let xs : List ℤ = map (own_in c.args.own.now) due in
    let k : ℕ = c.loop-k.k in
    let f : SFits w64 c.own_in.result = search rules in
    let wide : length xs ≡ length due = length-map due (own_in c.args.own.now) in
    value_more xs k (own_in c.args.own.now (get_or due k 0)) c.args.out.now c.loop-k.out c.put_value.new.out (let t = c.loop-k-test.true in omega arith)
    (sym (get_or-map (own_in c.args.own.now) due k 0 (pos 0) c.loop-k-test.true))
    (let r = c.requires in let t = c.loop-k-test.true in omega arith)
    c.loop-k.invariant
    (c.put_value.ensures ∙ ap (λ (v : ℤ). pasted (8 * k) (value_spelling v) c.loop-k.out) (to_z-of_z w64 c.own_in.result f ∙ c.own_in.ensures))

pub returns : goal.returns
returns c =
    let xs : List ℤ = map (own_in c.args.own.now) c.args.due.now in
    c.loop-k.invariant ∙ ap (λ (ys : List ℤ). pasted 0 (flat_map value_spelling ys) c.args.out.now) (take_all c.loop-k.k xs (let w = length-map c.args.due.now (own_in c.args.own.now) in let t = c.loop-k-test.false in omega arith))
