use Rattle.std.proofs.Common.{sym, ◌∙◌}
use Rattle.cluster_step.proofs.Cleaning.{clean_at}
use Rattle.cluster_step.proofs.links.Link.is_touched.Goals as goal
use Rattle.cluster_step.proofs.links.Link.is_touched.Goals.{then-self-to-via-then-self-to, then-self-to-via-else-self-to+then-clean}

pub returns-then-self-to-clause-untouched : goal.returns-then-self-to-clause-untouched
returns-then-self-to-clause-untouched g c = λ no ne. elim c.then-self-to.branch [
  | then-self-to-via-then-self-to w ↦ absurd (ne w.if-self-to.true)
  | then-self-to-via-else-self-to+then-clean w ↦
      let link = c.args.self.now in
      clean_at link.plan.now link.period link.slot link.from c.args.to (sym w.clean.ensures ∙ w.if-clean.true) link.in_period c.requires.to ne
]
