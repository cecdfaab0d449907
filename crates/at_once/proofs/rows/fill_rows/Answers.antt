use Rattle.std.proofs.Common.{ℕ, ◌+◌, List, Option, get_or, lit<, inl, inr, sym, ap, subst, ◌∙◌, arith, eq-eqb}
use Rattle.std.proofs.lemmas.Bool.{false≢true}
use Rattle.node_grid.specs.Capacity.{IsCapacity}
use Rattle.shared_states.specs.declared.belief.Belief.{Belief}
use Rattle.grouped_nodes.specs.Grouping.{first_of}
use Rattle.at_once.specs.Kept.{of_node}
use Rattle.at_once.specs.Phases.{node_rows}
use Rattle.at_once.proofs.FilledBeliefs.{AreFilled, filled_none, filled_put, filled_skip}
use Rattle.at_once.proofs.rows.fill_rows.Goals.{then-has+then-is_first, else-has, else-has-via-then-has+else-is_first, else-has-via-else-has}
use Rattle.at_once.proofs.rows.fill_rows.Goals as goal

pub loop-first-init : goal.loop-first-init
loop-first-init g c = filled_none c.args.phase.now.awake c.args.groups.now (λ f b. record b { votes = of_node c.args.votes.now f; rows = node_rows c.args.phase.now c.args.rows.now f }) c.args.beliefs.now c.requires.many

pub rows_settled-belief-requires : goal.rows_settled-belief-requires
rows_settled-belief-requires g c =
    let cap : IsCapacity g.row.N = g.bound-1.eight_or_sixteen in
    (elim cap [ inl e ↦ rw e (lit< tt) | inr e ↦ rw e (lit< tt) ], (elim cap [ inl e ↦ rw e (lit< tt) | inr e ↦ rw e (lit< tt) ], (elim cap [ inl e ↦ rw e (lit< tt) | inr e ↦ rw e (lit< tt) ], (elim cap [ inl e ↦ rw e (lit< tt) | inr e ↦ rw e (lit< tt) ], (c.requires.settled, (sym c.has.ensures ∙ c.if-has.true, c.loop-first-test.true))))))

pub loop-first-preserved : goal.loop-first-preserved
loop-first-preserved g c =
    let nodes : List ℕ = c.args.phase.now.awake in
    let groups : List ℕ = c.args.groups.now in
    let value : ℕ → Belief g.row.N → Belief g.row.N = λ f b. record b { votes = of_node c.args.votes.now f; rows = node_rows c.args.phase.now c.args.rows.now f } in
    let old : List (Belief g.row.N) = c.args.beliefs.now in
    let xs : List (Belief g.row.N) = c.loop-first.beliefs in
    let f : ℕ = c.loop-first.first in
    elim c.if-has.branch [
      | then-has+then-is_first w ↦
          subst (AreFilled nodes groups value old (f + 1)) (sym w.beliefs-is)
          (filled_put nodes groups value old f xs w.index-beliefs-first.result _ c.loop-first-test.true (sym c.has.ensures ∙ w.if-has.true) c.loop-first.invariant
          (ap (λ (rows : List (Option (List ℕ))). record (get_or xs f w.index-beliefs-first.result) { votes = of_node c.args.votes.now f; rows = rows }) w.rows_settled-belief.ensures))
      | else-has w ↦
          subst (AreFilled nodes groups value old (f + 1)) (sym w.beliefs-is)
          (filled_skip nodes groups value old f xs
          (λ on own. elim w.else-has.branch [
            | else-has-via-then-has+else-is_first w' ↦ false≢true (sym w'.if-is_first.false ∙ w'.is_first.ensures ∙ eq-eqb (first_of groups f) f own)
            | else-has-via-else-has w' ↦ false≢true (sym w'.if-has.false ∙ c.has.ensures ∙ on)
          ])
          c.loop-first.invariant)
    ]

pub returns-clause-filled : goal.returns-clause-filled
returns-clause-filled g c f b low on own = c.loop-first.invariant.so_far f b (let t = c.loop-first-test.false in omega arith) on own

pub returns-clause-others : goal.returns-clause-others
returns-clause-others g c f b off = c.loop-first.invariant.others f b off

pub returns-clause-many : goal.returns-clause-many
returns-clause-many g c = c.loop-first.invariant.wide

pub is_first-requires : goal.is_first-requires
is_first-requires g c = (elim g.bound-1.eight_or_sixteen [ inl e ↦ rw e (lit< tt) | inr e ↦ rw e (lit< tt) ], c.loop-first-test.true)

pub bounds-beliefs-first : goal.bounds-beliefs-first
bounds-beliefs-first g c = let w = c.loop-first.invariant.wide in let t = c.loop-first-test.true in omega arith
