use Rattle.std.proofs.Common.{rules, ◌<◌, ◌+◌, ◌*◌, length, inl, inr, arith, lit<, sym, ◌∙◌, eq-eqb}
use Rattle.std.proofs.lemmas.Bool.{both_ways}
use Rattle.std.proofs.lemmas.List.{get_or_read}
use Rattle.omh_paths.specs.declared.wrapped.Wrapped.TheVariants.{Fault}
use Rattle.item_phase.proofs.Standing.{low_i, low_c, place_low, as_own, as_said, as_laid}
use Rattle.item_phase.proofs.item_phase.ItemPhase.settled.Goals.{then-c-i, else-c-i}
use Rattle.item_phase.proofs.item_phase.ItemPhase.settled.Goals as goal

pub own-requires : goal.own-requires
own-requires g c =
    let a = c.args in (
      search rules,
      (
        elim c.requires.settled.heard.set.capacity [ inl e ↦ rw e (lit< tt) | inr e ↦ rw e (lit< tt) ],
        low_c g.V.PartialEq.eq g.V.Item.form g.V.Item.first_slot g.V.Item.tells a.phase.now a.self.now c.requires.settled a.i c.requires.node a.c c.requires.member,
      ),
    )

pub index-requires : goal.index-requires
index-requires g c =
    let a = c.args in
    let li = low_i g.V.PartialEq.eq g.V.Item.form g.V.Item.first_slot g.V.Item.tells a.phase.now a.self.now c.requires.settled a.i c.requires.node in
    let lc = low_c g.V.PartialEq.eq g.V.Item.form g.V.Item.first_slot g.V.Item.tells a.phase.now a.self.now c.requires.settled a.i c.requires.node a.c c.requires.member in
    let place = place_low g.row.N a.c a.i lc li in
    let room = a.self.now.each_room in
    let long = a.self.now.each.ok.0 in
    omega arith

pub returns-then-has : goal.returns-then-has
returns-then-has g c =
    let a = c.args in
    elim c.if-c-i.branch [
      | then-c-i w ↦ c.own.ensures ∙ as_own g.V.PartialEq.eq g.V.Item.form g.V.Item.first_slot g.V.Item.tells a.phase.now a.self.now c.requires.settled a.i c.requires.node a.c w.if-c-i.true
      | else-c-i w ↦
          c.own.ensures
          ∙ as_said g.V.PartialEq.eq g.V.Item.form g.V.Item.first_slot g.V.Item.tells a.phase.now a.self.now c.requires.settled a.i c.requires.node a.c c.requires.member
          (sym w.has.ensures ∙ sym w.value-is ∙ c.if-has.true)
    ]

pub returns-else-has : goal.returns-else-has
returns-else-has g c =
    let a = c.args in
    let li = low_i g.V.PartialEq.eq g.V.Item.form g.V.Item.first_slot g.V.Item.tells a.phase.now a.self.now c.requires.settled a.i c.requires.node in
    let lc = low_c g.V.PartialEq.eq g.V.Item.form g.V.Item.first_slot g.V.Item.tells a.phase.now a.self.now c.requires.settled a.i c.requires.node a.c c.requires.member in
    let place = place_low g.row.N a.c a.i lc li in
    let room = a.self.now.each_room in
    let within : a.c * g.row.N + a.i < length a.self.now.each.items = omega arith in
    elim c.if-c-i.branch [
      | then-c-i w ↦ absurd (both_ways _ c.if-has.false (w.value-is ∙ eq-eqb a.c a.i w.if-c-i.true))
      | else-c-i w ↦
          get_or_read a.self.now.each.items (a.c * g.row.N + a.i) c.index.result.now within c.index.ensures (Fault 0)
          ∙ as_laid g.V.PartialEq.eq g.V.Item.form g.V.Item.first_slot g.V.Item.tells a.phase.now a.self.now c.requires.settled a.i c.requires.node a.c c.requires.member w.if-c-i.false
          (sym w.has.ensures ∙ sym w.value-is ∙ c.if-has.false)
    ]
