use Rattle.std.proofs.Common.{rules, ℕ, ◌≢◌, ◌<◌, length, sym, ap, subst, ◌∙◌, inl, inr, arith, lit<, get_or, set}
use Rattle.std.proofs.lemmas.Bool.{cases_eq}
use Rattle.node_grid.specs.NodeSet.{has_id}
use Rattle.protocol.specs.Talk.{Talk}
use Rattle.heard_links.specs.declared.came.Came.TheVariants as came
use Rattle.heard_links.specs.Hearing.{IsCame, link_at, talk_in}
use Rattle.heard_links.proofs.Laying.{laid_here, laid_beside, laid_apart, heard_beside}
use Rattle.heard_links.proofs.Sets.{few_m, node_low}
use Rattle.heard_links.proofs.Tables.{same_talk}
use Rattle.heard_links.proofs.links.Links.judge_frames.Goals as goal

pub came_to-came-requires : goal.came_to-came-requires
came_to-came-requires g c = (
  search rules,
  (
    elim c.requires.heard.set.capacity [ inl e ↦ rw e (lit< tt) | inr e ↦ rw e (lit< tt) ],
    (
      lit< tt,
      (
        heard_beside g.V.Item.form g.V.Item.first_slot g.V.Item.tells c.args.phase.now c.args.self.now c.loop-to.self c.args.round c.args.from c.requires.heard c.loop-to.invariant.told c.loop-to.invariant.blank c.loop-to.invariant.touched c.loop-to.invariant.kept,
        (c.requires.few, (c.requires.from, (c.loop-to-test.true, c.requires.uneven))),
      ),
    ),
  ),
)

pub loop-to-preserved : goal.loop-to-preserved
loop-to-preserved g c =
    let a = c.args.self.now in
    let x = c.args.phase.now in
    let round = c.args.round in
    let from = c.args.from in
    let to = c.loop-to.to in
    let l = c.loop-to.self in
    let inv = c.loop-to.invariant in
    let st = c.requires.heard.set in
    let t = talk_in g.V.Item.form x a in
    let m = x.config.now.m in
    let low_from = node_low x st from c.requires.from in
    let low_to = node_low x st to c.loop-to-test.true in
    let new = c.came_to-came.result in
    let at = c.link_at.ensures.place in
    let room : link_at g.row.N round from to < length l.came.items = subst (λ (k : ℕ). k < length l.came.items) at (subst (λ (n : ℕ). c.link_at.result < n) (sym l.came_room) c.link_at.ensures.within) in
    let laid = λ (i : ℕ). ap (λ (k : ℕ). get_or (set l.came.items k new) (link_at g.row.N round from i) came.Untouched) at in
    record {
      told = inv.told;
      blank = inv.blank;
      touched = inv.touched;
      kept = λ r j i low_j low_i ne.
          ap (λ (k : ℕ). get_or (set l.came.items k new) (link_at g.row.N r j i) came.Untouched) at
          ∙ laid_apart g.row.N st.capacity l.came.items round from to new r j i low_from low_to low_j low_i ne
          ∙ inv.kept r j i low_j low_i ne;
      here = λ i low on ne. elim (cases_eq i to) [
        | inl e ↦
            subst (λ (k : ℕ). IsCame t m round from k (get_or (set l.came.items c.link_at.result new) (link_at g.row.N round from k) came.Untouched)) (sym e)
            (subst (IsCame t m round from to) (sym (laid to ∙ laid_here g.row.N st.capacity l.came.items round from to new room))
            (subst (λ (u : Talk g.row.V.Denot). IsCame u m round from to new) (same_talk g.V.Item.form x a l inv.told inv.blank)
            (c.came_to-came.ensures (ap (has_id x.awake) (sym e) ∙ on) (subst (λ (n : ℕ). n ≢ from) e ne))))
        | inr other ↦
            subst (IsCame t m round from i)
            (sym (laid i ∙ laid_beside g.row.N st.capacity l.came.items round from to new i low_from low_to (node_low x st i (st.awake i on)) other))
            (inv.here i (omega arith) on ne)
      ];
    }

pub link_at-requires-clause-round : goal.link_at-requires-clause-round
link_at-requires-clause-round g c = let few = few_m c.args.phase.now c.requires.heard.set in omega (arith, few, c.requires.few)

pub link_at-requires-clause-from : goal.link_at-requires-clause-from
link_at-requires-clause-from g c = node_low c.args.phase.now c.requires.heard.set c.args.from c.requires.from

pub link_at-requires-clause-to : goal.link_at-requires-clause-to
link_at-requires-clause-to g c = node_low c.args.phase.now c.requires.heard.set c.loop-to.to c.loop-to-test.true

pub touch-requires : goal.touch-requires
touch-requires g c =
    let set = c.requires.heard.set in
    let few = few_m c.args.phase.now set in
    (lit< tt, (omega (arith, few, c.requires.few), node_low c.args.phase.now set c.args.from c.requires.from))
