use Rattle.std.proofs.Common.{◌≡◌, ◌<◌, length, get_or, Some, Option, sym, ap, ◌∙◌, arith}
use Rattle.std.proofs.lemmas.Option.{slice_get-get_or}
use Rattle.shared_states.specs.declared.belief.Belief.{Belief}
use Rattle.shown_period.specs.Outcomes.{belief_at, done_in, rows_in, due_in, votes_in}
use Rattle.shown_period.proofs.shown.Shown.belief.Goals as goal

pub returns : goal.returns
returns g c =
    let made = c.args.self.now.made in
    let low : get_or made.group c.args.i 0 < length made.beliefs.items = omega (arith, c.requires.beliefs.placed c.args.i c.requires.node, c.requires.beliefs.many) in
    let at : belief_at made c.args.i ≡ Some c.index.result.now = slice_get-get_or made.beliefs.items (get_or made.group c.args.i 0) c.index.result.now low ∙ ap Some (sym c.index.ensures) in record {
      done = ap (λ (o : Option (Belief g.row.N)). done_in o) at;
      rows = ap (λ (o : Option (Belief g.row.N)). rows_in o) at;
      due = ap (λ (o : Option (Belief g.row.N)). due_in o) at;
      votes = ap (λ (o : Option (Belief g.row.N)). votes_in o) at;
    }
