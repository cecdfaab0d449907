use Rattle.std.proofs.Common.{rules, ℕ, ℤ, List, refl, ap, ◌∙◌}
use mir.Syntax.{w64}
use mir.Val.{SFits}
use Rattle.std.proofs.lemmas.Int.{to_z-of_z}
use Rattle.std.proofs.lemmas.List.{take_all}
use Rattle.node_grid.specs.NodeSet.{has_id}
use Rattle.node_grid.specs.NodeSetLaws.{All-ids}
use Rattle.omh_paths.specs.MemberLaws.{Distinct-ids}
use Rattle.frames.specs.Reading.{content_values}
use Rattle.protocol.specs.View.{value_of}
use Rattle.protocol.specs.Facts.{value_of_at}
use Rattle.told_values.proofs.ByPlace.{has_more}
use Rattle.told_values.proofs.places.Due.read_by_place.Goals as goal

pub loop-k-init : goal.loop-k-init
loop-k-init c = record { wide = refl; each = λ x on. cc }

pub loop-k-preserved : goal.loop-k-preserved
loop-k-preserved c =
    let due : List ℕ = c.args.self.now.channels.now in
    let xs : List ℤ = content_values c.args.values.now.bytes.now in
    let k : ℕ = c.loop-k.k in
    let f : SFits w64 c.value_or_zero.result = search rules in
    has_more due (value_of due xs) c.loop-k.told k _ c.loop-k-test.true (All-ids 8 due c.args.self.now.set)
    (to_z-of_z w64 c.value_or_zero.result f ∙ c.value_or_zero.ensures ∙ value_of_at due xs k 0 (Distinct-ids 8 due c.args.self.now.set) c.loop-k-test.true) c.loop-k.invariant

pub bounds-told-self : goal.bounds-told-self
bounds-told-self c = All-ids 8 c.args.self.now.channels.now c.args.self.now.set c.loop-k.k 0 c.loop-k-test.true

pub returns : goal.returns
returns c x on = c.loop-k.invariant.each x (ap (λ (ds : List ℕ). has_id ds x) (take_all c.loop-k.k c.args.self.now.channels.now c.loop-k-test.false) ∙ on)
