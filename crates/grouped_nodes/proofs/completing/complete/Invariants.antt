use Rattle.grouped_nodes.proofs.Completion.{AreDone, AreJudged}
use Rattle.grouped_nodes.proofs.completing.complete.Given as goal

abbrev pub invariant-loop-first : goal.invariant-loop-first
invariant-loop-first g l = AreDone l.config l.states l.groups l.fn.beliefs l.first l.beliefs × AreJudged l.config l.states l.groups l.fn.beliefs l.fn.notes l.first l.notes
