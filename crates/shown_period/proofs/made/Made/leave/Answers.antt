use Rattle.std.proofs.Common.{◌<◌, length, set, Option, ap, ◌∙◌, arith}
use Rattle.std.specs.Prelude.{slice_get}
use Rattle.std.proofs.lemmas.List.{get_or-set_same}
use Rattle.node_grid.specs.ListFacts.{got_set, got_other}
use Rattle.shared_states.specs.declared.belief.Belief.{Belief}
use Rattle.shown_period.specs.Outcomes.{done_in, rows_in, due_in, votes_in}
use Rattle.shown_period.proofs.made.Made.leave.Goals as goal

pub returns-clause-nothing : goal.returns-clause-nothing
returns-clause-nothing g c =
    let alone : c.args.i < length c.args.self.now.group = omega (arith, c.requires.node) in
    let placed : c.args.i < length c.args.self.now.beliefs.items = omega (arith, c.requires.node, c.requires.beliefs.many) in
    let at = ap (slice_get (set c.args.self.now.beliefs.items c.args.i c.none.result)) (get_or-set_same c.args.self.now.group c.args.i c.args.i 0 alone) ∙ got_set c.args.self.now.beliefs.items c.args.i c.none.result placed in record {
      done = ap (λ (o : Option (Belief g.row.N)). done_in o) at ∙ c.none.ensures.done;
      rows = ap (λ (o : Option (Belief g.row.N)). rows_in o) at ∙ c.none.ensures.rows;
      due = ap (λ (o : Option (Belief g.row.N)). due_in o) at ∙ c.none.ensures.due;
      votes = ap (λ (o : Option (Belief g.row.N)). votes_in o) at ∙ c.none.ensures.votes;
    }

pub returns-clause-places : goal.returns-clause-places
returns-clause-places g c = λ k other. got_other c.args.self.now.beliefs.items c.args.i k c.none.result other
