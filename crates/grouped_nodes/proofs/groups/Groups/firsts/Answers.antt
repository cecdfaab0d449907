use Rattle.std.proofs.Common.{ℕ, ◌≡◌, ◌==◌, Bool, true, false, List, sym, ap, ◌∙◌, eq-eqb, ne_eqb}
use Rattle.node_grid.specs.NodeSet.{with_id}
use Rattle.node_grid.specs.NodeSetLaws.{ids_where_more_no, ids_where_more_yes}
use Rattle.grouped_nodes.specs.Grouping.{first_of}
use Rattle.grouped_nodes.proofs.groups.Groups.firsts.Goals.{then-self-i, else-self-i}
use Rattle.grouped_nodes.proofs.groups.Groups.firsts.Goals as goal

pub loop-i-preserved : goal.loop-i-preserved
loop-i-preserved g c =
    let i : ℕ = c.loop-i.i in
    let test : ℕ → Bool = λ (j : ℕ). first_of c.args.self.now j == j in
    let same : first_of c.args.self.now i ≡ first_of c.self.inside.first i = ap (λ (xs : List ℕ). first_of xs i) (sym c.self.view_is) in
    elim c.if-self-i.branch [
      | then-self-i w ↦
          let yes : test i ≡ true = eq-eqb (first_of c.args.self.now i) c.loop-i.i (same ∙ w.if-self-i.true) in
          w.firsts-is ∙ w.put.ensures ∙ ap (λ (s : List ℕ). with_id g.row.N s i) c.loop-i.invariant ∙ sym (ids_where_more_yes test g.row.N i yes)
      | else-self-i w ↦
          let no : test i ≡ false = ne_eqb (first_of c.args.self.now i) c.loop-i.i (λ e. w.if-self-i.false (sym same ∙ e)) in
          w.firsts-is ∙ c.loop-i.invariant ∙ sym (ids_where_more_no test g.row.N i no)
    ]
