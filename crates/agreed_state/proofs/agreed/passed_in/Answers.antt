use Rattle.std.proofs.Common.{◌&&◌, ℕ, Bool, ap, ◌∙◌, arith, ◌<◌, inl, inr, lit<, sym, ◌≡◌, true, false}
use Rattle.node_grid.specs.NodeSet.{has_id, with_id}
use Rattle.node_grid.specs.NodeSetLaws.{hasnt-above, ids_where_none, ids_where_more_yes, ids_where_more_no}
use Rattle.list_scheduler.specs.Copies.{copy_at, is_passed}
use Rattle.agreed_state.proofs.Stepping.{none_behind}
use Rattle.agreed_state.proofs.Pieces.{capacity_small}
use Rattle.std.proofs.Math.Bool.{and-false}
use Rattle.std.proofs.lemmas.Bool.{and_from}
use Rattle.agreed_state.proofs.agreed.passed_in.Goals.{then-has+then-is_passed, else-has, else-has-via-then-has+else-is_passed, else-has-via-else-has}
use Rattle.agreed_state.proofs.agreed.passed_in.Goals as goal

pub returns : goal.returns
returns g c =
    let members = c.args.members.now in
    let passed : ℕ → Bool = λ q. is_passed (copy_at c.args.copies.now c.args.task q) in
    c.loop-node.invariant
    ∙ none_behind (λ q. has_id members q && passed q) g.row.N c.loop-node.node (λ k high. ap (λ (b : Bool). b && passed k) (hasnt-above c.args.nodes members k c.requires.members (let l = c.loop-node-test.false in omega arith)))

pub has-requires : goal.has-requires
has-requires g c = lit< tt

pub is_passed-requires : goal.is_passed-requires
is_passed-requires g c =
    let within : c.loop-node.node < g.row.N = (let n = c.requires.nodes in let t = c.loop-node-test.true in omega arith) in
    (elim g.bound-1.eight_or_sixteen [ inl e ↦ rw e (lit< tt) | inr e ↦ rw e (lit< tt) ], (c.requires.task, within))

pub put-requires : goal.put-requires
put-requires g c = (lit< tt, (let n = c.requires.nodes in let t = c.loop-node-test.true in omega arith))

pub empty-passed-requires : goal.empty-passed-requires
empty-passed-requires g c = (lit< tt, capacity_small g.row.N g.bound-1.eight_or_sixteen)

pub loop-node-init : goal.loop-node-init
loop-node-init g c = c.empty-passed.ensures ∙ sym (ids_where_none _ g.row.N)

pub loop-node-smaller : goal.loop-node-smaller
loop-node-smaller g c = omega (arith, c.loop-node-test.true)

pub loop-node-preserved : goal.loop-node-preserved
loop-node-preserved g c =
    let n = g.row.N in
    let i = c.loop-node.node in
    let member : ℕ → Bool = has_id c.args.members.now in
    let passed : ℕ → Bool = λ q. is_passed (copy_at c.args.copies.now c.args.task q) in
    let p : ℕ → Bool = λ q. member q && passed q in
    elim c.if-has.branch [
      | then-has+then-is_passed w ↦
          let yes : p i ≡ true = and_from (member i) (passed i) (sym c.has.ensures ∙ w.if-has.true) (sym w.is_passed.ensures ∙ w.if-is_passed.true) in
          w.passed-is ∙ w.put.ensures ∙ ap (λ s. with_id n s i) c.loop-node.invariant ∙ sym (ids_where_more_yes p n i yes)
      | else-has w ↦
          let no : p i ≡ false = elim w.else-has.branch [
            | else-has-via-then-has+else-is_passed v ↦ ap (λ b. member i && b) (sym v.is_passed.ensures ∙ v.if-is_passed.false) ∙ and-false (member i)
            | else-has-via-else-has v ↦ ap (λ b. b && passed i) (sym c.has.ensures ∙ v.if-has.false)
          ] in
          w.passed-is ∙ c.loop-node.invariant ∙ sym (ids_where_more_no p n i no)
    ]
