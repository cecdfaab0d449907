use Rattle.std.proofs.Common.{rules, ◌<◌, ℕ, ℤ, List, length, map, pos, refl, sym, ap, ◌∙◌, arith}
use mir.Syntax.{w64}
use mir.Val.{SFits}
use Rattle.std.proofs.lemmas.Int.{to_z-of_z}
use Rattle.std.proofs.lemmas.List.{get_or-map, take_all}
use Rattle.node_grid.specs.NodeSet.{has_id}
use Rattle.node_grid.specs.NodeSetLaws.{All-ids}
use Rattle.omh_paths.specs.MemberLaws.{Distinct-ids}
use Rattle.protocol.specs.View.{own_in, value_of}
use Rattle.protocol.specs.Facts.{value_of_at}
use Rattle.told_values.proofs.ByPlace.{has_more}
use Rattle.told_values.proofs.places.Due.own_by_place.Goals as goal

pub loop-k-init : goal.loop-k-init
loop-k-init c = record { wide = refl; each = λ x on. cc }

pub loop-k-preserved : goal.loop-k-preserved
loop-k-preserved c =
    let due : List ℕ = c.args.self.now.channels.now in
    let said : List ℕ = c.args.said.now in
    let xs : List ℤ = map (own_in c.args.own.now) said in
    let k : ℕ = c.loop-k.k in
    let f : SFits w64 c.own_in.result = search rules in
    let low : k < length said = (let t = c.loop-k-test.true in let e = c.requires.as_many in omega arith) in
    has_more due (value_of due xs) c.loop-k.told k _ c.loop-k-test.true (All-ids 8 due c.args.self.now.set)
    (to_z-of_z w64 c.own_in.result f ∙ c.own_in.ensures ∙ sym (get_or-map (own_in c.args.own.now) said k 0 (pos 0) low) ∙ value_of_at due xs k 0 (Distinct-ids 8 due c.args.self.now.set) c.loop-k-test.true) c.loop-k.invariant

pub bounds-told-self : goal.bounds-told-self
bounds-told-self c = All-ids 8 c.args.self.now.channels.now c.args.self.now.set c.loop-k.k 0 c.loop-k-test.true

pub returns : goal.returns
returns c x on = c.loop-k.invariant.each x (ap (λ (ds : List ℕ). has_id ds x) (take_all c.loop-k.k c.args.self.now.channels.now c.loop-k-test.false) ∙ on)
