use Rattle.std.proofs.Common.{ℕ, ◌≡◌, ◌≢◌, ◌<◌, ◌==◌, ◌&&◌, Bool, true, false, not, [], ◌∷◌, map, refl, sym, ap, subst, ◌∙◌, lit<, arith}
use Rattle.node_grid.specs.NodeSet.{has_id, without_id}
use Rattle.node_grid.specs.NodeSetLaws.{has-without_id}
use Rattle.omh.specs.Heard.{Hearing, with_heard}
use Rattle.omh_paths.specs.declared.wrapped.Wrapped.{Wrapped}
use Rattle.omh_paths.specs.PathLists.{has-without-left}
use Rattle.error_detect.specs.Watching.{told_at}
use Rattle.protocol.specs.Heard.{heard}
use Rattle.relay_rules.specs.Hearing.{slot_rounds, after_round}
use Rattle.relay_table.specs.Tabled.{term_of}
use Rattle.relaying.proofs.Putting.{told_nothing, all_more, all_same, first_put}
use Rattle.relaying.proofs.Told.{term_said}
use Rattle.relaying.proofs.hearing.hear_items.Goals as goal
use Rattle.relaying.proofs.hearing.hear_items.Goals.{then-has, else-has}

swapped : (a b : Bool) → (a && b) ≡ false → (b && a) ≡ false
swapped true true h = h
swapped true false h = refl
swapped false true h = refl
swapped false false h = refl

pub loop-node-init : goal.loop-node-init
loop-node-init g c = told_nothing (heard (slot_rounds g.V.RelayedItem.form c.args.table.now.members c.args.watch.now)) c.args.table.now

pub loop-node-preserved : goal.loop-node-preserved
loop-node-preserved g c =
    let was = c.args.table.now in
    let w = c.args.watch.now in
    let q : ℕ = c.loop-node.node in
    let form = g.V.RelayedItem.form in
    let f = heard (slot_rounds form was.members w) in
    let others : c.without-others.result ≡ without_id was.members was.me = c.without-others.ensures ∙ ap (λ ms. without_id ms c.me.result) c.members.ensures.members ∙ ap (without_id was.members) c.me.ensures.me in
    let has : c.has.result ≡ has_id (without_id was.members was.me) q = c.has.ensures ∙ ap (λ ms. has_id ms q) others in
    elim c.if-has.branch [
      | then-has x ↦
          let o = has-without-left was.members was.me q (sym has ∙ x.if-has.true) in
          all_more was.members was.me 0 q f was c.loop-node.table c.if-has.table o.1 o.0 c.loop-node.invariant
          (x.table-is ∙ x.hear_item.ensures
          ∙ ap (λ (v : Wrapped g.row.V.Denot). record c.loop-node.table { heard = map (with_heard (q ∷ []) v) c.loop-node.table.heard }) (ap term_of x.item_told.ensures ∙ term_said form.item_in (told_at w q))
          ∙ first_put form was.members was.me q w c.loop-node.table o.0)
      | else-has x ↦
          all_same was.members was.me 0 q f was c.if-has.table (swapped (not (q == was.me)) (has_id was.members q) (sym (has-without_id was.members was.me q) ∙ sym has ∙ x.if-has.false))
          (x.table-is ∙ c.loop-node.invariant)
    ]

pub hear_item-requires : goal.hear_item-requires
hear_item-requires g c =
    let was = c.args.table.now in
    let q : ℕ = c.loop-node.node in
    let others : c.without-others.result ≡ without_id was.members was.me = c.without-others.ensures ∙ ap (λ ms. without_id ms c.me.result) c.members.ensures.members ∙ ap (without_id was.members) c.me.ensures.me in
    let on : has_id (without_id was.members was.me) q ≡ true = sym (c.has.ensures ∙ ap (λ ms. has_id ms q) others) ∙ c.if-has.true in
    (assumption, subst (λ (h : Hearing g.row.V.Denot). has_id (without_id h.members h.me) q ≡ true) (sym c.loop-node.invariant) on)

pub item_told-requires : goal.item_told-requires
item_told-requires g c =
    let was = c.args.table.now in
    let by = c.requires.closed in
    let q : ℕ = c.loop-node.node in
    let others : c.without-others.result ≡ without_id was.members was.me = c.without-others.ensures ∙ ap (λ ms. without_id ms c.me.result) c.members.ensures.members ∙ ap (without_id was.members) c.me.ensures.me in
    let on : has_id (without_id was.members was.me) q ≡ true = sym (c.has.ensures ∙ ap (λ ms. has_id ms q) others) ∙ c.if-has.true in
    let low : q < c.args.watch.now.nodes = omega (arith, c.loop-node-test.true, by.nodes_are, c.nodes-node-end.ensures.nodes) in
    let ne : q ≢ c.args.watch.now.me = λ same. (has-without-left was.members was.me q on).0 (same ∙ by.me_is) in (
      lit< tt,
      (low, (record { nodes_are = refl; me_is = refl; closed = by.closed; some_slot = by.some_slot }, ne)),
    )

pub without-others-requires : goal.without-others-requires
without-others-requires g c = (lit< tt, c.me.ensures.low)

pub returns : goal.returns
returns g c =
    let end : c.loop-node.node ≡ c.args.table.now.nodes = omega (arith, c.loop-node-test.false, c.loop-node.auto.node-end, c.nodes-node-end.ensures.nodes) in
    c.loop-node.invariant ∙ ap (λ (n : ℕ). after_round g.V.RelayedItem.form n c.args.watch.now 0 c.args.table.now) end
