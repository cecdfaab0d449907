use Rattle.std.proofs.Common.{◌≡◌, ◌&&◌, ◌==◌, not, false, Bool, ℕ, sym, ap, ◌∙◌, arith, eq-eqb, ne_eqb, lit<, inl, inr, ◌<◌}
use Rattle.node_grid.specs.Capacity.{IsCapacity}
use Rattle.std.proofs.Math.Bool.{and-false}
use Rattle.std.proofs.lemmas.Bool.{and_from}
use Rattle.node_grid.specs.NodeSet.{ids_where_below, with_id}
use Rattle.node_grid.specs.NodeSetLaws.{ids_where_more_no, ids_where_more_yes, ids_where-within, ids_where_none}
use Rattle.data_slot.specs.Votes.{is_off}
use Rattle.data_slot.proofs.vote.DataSlot.deviating.Goals as goal
use Rattle.data_slot.proofs.vote.DataSlot.deviating.Goals.{then-node-self+then-is_off, else-node-self, else-node-self-via-then-node-self+else-is_off, else-node-self-via-else-node-self}

pub loop-node-preserved : goal.loop-node-preserved
loop-node-preserved g c =
    let slot = c.args.self.now in
    let node : ℕ = c.loop-node.node in
    let far : ℕ → Bool = is_off c.args.config.now slot.due.now c.args.told.now c.args.votes.now in
    let off : ℕ → Bool = λ j. not (j == slot.me) && far j in
    elim c.if-node-self.branch [
      | then-node-self+then-is_off w ↦
          w.off-is ∙ w.put.ensures ∙ ap (λ s. with_id g.row.N s node) c.loop-node.invariant
          ∙ sym (ids_where_more_yes off g.row.N node (and_from _ _ (ap not (ne_eqb node slot.me w.if-node-self.true)) (sym w.is_off.ensures ∙ w.if-is_off.true)))
      | else-node-self w ↦
          let none : off node ≡ false = elim w.else-node-self.branch [
            | else-node-self-via-then-node-self+else-is_off u ↦ ap (λ (b : Bool). not (node == slot.me) && b) (sym u.is_off.ensures ∙ u.if-is_off.false) ∙ and-false (not (node == slot.me))
            | else-node-self-via-else-node-self u ↦ ap (λ (b : Bool). not b && far node) (eq-eqb node slot.me u.if-node-self.false)
          ] in
          w.off-is ∙ c.loop-node.invariant ∙ sym (ids_where_more_no off g.row.N node none)
    ]

pub returns : goal.returns
returns g c =
    let slot = c.args.self.now in
    let off : ℕ → Bool = λ j. not (j == slot.me) && is_off c.args.config.now slot.due.now c.args.told.now c.args.votes.now j in
    let all : c.loop-node.node ≡ c.args.config.now.nodes = (let e = c.loop-node.auto.node-end in let t = c.loop-node-test.false in omega arith) in
    c.loop-node.invariant ∙ ap (λ (n : ℕ). ids_where_below off g.row.N n) all ∙ ids_where-within off g.row.N c.args.config.now.nodes c.requires.config.few_nodes

pub empty-off-requires : goal.empty-off-requires
empty-off-requires g c = let cap : IsCapacity g.row.N = g.bound-1.eight_or_sixteen in (lit< tt, omega arith)

pub loop-node-init : goal.loop-node-init
loop-node-init g c =
    let slot = c.args.self.now in
    c.empty-off.ensures ∙ sym (ids_where_none (λ j. not (j == slot.me) && is_off c.args.config.now slot.due.now c.args.told.now c.args.votes.now j) g.row.N)

pub is_off-requires : goal.is_off-requires
is_off-requires g c =
    let room : c.loop-node.node < g.row.N = (let t = c.loop-node-test.true in let f = c.requires.config.few_nodes in omega arith) in
    let cap : IsCapacity g.row.N = g.bound-1.eight_or_sixteen in (
      elim cap [ inl e ↦ rw e (lit< tt) | inr e ↦ rw e (lit< tt) ],
      (
        elim cap [ inl e ↦ rw e (lit< tt) | inr e ↦ rw e (lit< tt) ],
        (c.requires.config, (c.requires.channels, room)),
      ),
    )

pub put-requires : goal.put-requires
put-requires g c = let t = c.loop-node-test.true in let f = c.requires.config.few_nodes in (lit< tt, omega arith)

pub loop-node-smaller : goal.loop-node-smaller
loop-node-smaller g c = let t = c.loop-node-test.true in omega arith
