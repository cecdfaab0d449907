use Rattle.std.proofs.Common.{ℕ, ◌<◌, ◌+◌, ◌==◌, refl, sym, ap, subst, ◌∙◌, inl, inr, eqb-true}
use Rattle.std.proofs.lemmas.Bool.{or_cases}
use Rattle.node_grid.specs.NodeSet.{has_id}
use Rattle.node_grid.specs.ListLaws.{has_push}
use Rattle.node_grid.specs.ListFacts.{split_more}
use Rattle.node_grid.specs.SetFacts.{member-lt, next_on}
use Rattle.settled_paths.specs.Passing.{HearAlike}
use Rattle.settled_paths.proofs.Loops.{put_has, put_on}
use Rattle.settled_paths.proofs.exchange.Exchange.alike.Goals as goal
use Rattle.settled_paths.proofs.exchange.Exchange.alike.Goals.{then-i-first-via-then-i-first, then-i-first-via-else-i-first+then-is_alike}

pub loop-i-preserved-in-loop-i : goal.loop-i-preserved-in-loop-i
loop-i-preserved-in-loop-i g c =
    let i = c.loop-i.invariant in
    let q = c.in-Some.i in
    let nodes = c.args.nodes.now in
    let says = g.T.Touched.says c.args.touched.now in
    let on = next_on nodes c.loop-i.yielded c.next.new.self c.loop-i.i-iterator q i.split c.in-Some.ensures.steps in
    let low : c.args.first < g.row.N = member-lt g.row.N nodes c.args.first c.iter-i-items.ensures.ids c.requires.first in
    let here : HearAlike says c.args.first q (c.args.self.now.rounds + 1) =
    elim c.then-i-first.branch [
      | then-i-first-via-then-i-first w ↦ subst (λ (k : ℕ). HearAlike says c.args.first k (c.args.self.now.rounds + 1)) (sym w.if-i-first.true) (λ path n long. refl)
      | then-i-first-via-else-i-first+then-is_alike w ↦ w.is_alike.ensures w.if-is_alike.true
    ]
    in
    record {
      can = tt;
      ends = tt;
      split = split_more nodes c.loop-i.yielded c.next.new.self c.loop-i.i-iterator q i.split c.in-Some.ensures.steps;
      first = λ h. put_on g.row.N c.loop-i.alike c.put.new.self q c.args.first c.put.ensures low (elim (or_cases (has_id c.loop-i.yielded c.args.first) (q == c.args.first) (sym (has_push c.loop-i.yielded q c.args.first) ∙ h)) [
        | inl was ↦ inr (i.first was)
        | inr is ↦ inl (sym (eqb-true q c.args.first is))
      ]);
      within = λ k h. elim (put_has g.row.N c.loop-i.alike c.put.new.self q k c.put.ensures h) [ inl e ↦ ap (has_id nodes) e ∙ on | inr was ↦ i.within k was ];
      alike = λ k h. elim (put_has g.row.N c.loop-i.alike c.put.new.self q k c.put.ensures h) [
        | inl e ↦ subst (λ (n : ℕ). HearAlike says c.args.first n (c.args.self.now.rounds + 1)) (sym e) here
        | inr was ↦ i.alike k was
      ];
    }
