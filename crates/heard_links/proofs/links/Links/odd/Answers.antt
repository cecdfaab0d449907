use Rattle.std.proofs.Common.{ℕ, ◌||◌, List, sym, ap, ◌∙◌, inl, inr, arith}
use Rattle.std.proofs.lemmas.Bool.{cases_eq, or_parts}
use Rattle.node_grid.specs.NodeSet.{has_id}
use Rattle.node_grid.specs.NodeSetLaws.{has-filter}
use Rattle.heard_links.specs.Hearing.{talk_in, is_even}
use Rattle.heard_links.proofs.links.Links.odd.Goals as goal

pub loop-round-preserved : goal.loop-round-preserved
loop-round-preserved g c = record {
  even = λ r j i some low off used on ne.
      let few = c.requires.heard.set.config.few_nodes in
      let p = or_parts (has_id c.loop-round.odd j) (has_id c.touched.result j)
      (sym (has-filter (λ k. has_id c.loop-round.odd k || has_id c.touched.result k) g.row.N j (omega arith)) ∙ ap (λ (s : List ℕ). has_id s j) (sym c.union-odd.ensures) ∙ off) in
      elim (cases_eq r c.loop-round.round) [
        | inl e ↦
            ap (λ (n : ℕ). is_even (talk_in g.V.Item.form c.args.phase.now c.args.self.now) n j i) e
            ∙ c.touched.ensures j i p.1 used on ne
        | inr other ↦ c.loop-round.invariant.even r j i some (omega arith) p.0 used on ne
      ];
}
