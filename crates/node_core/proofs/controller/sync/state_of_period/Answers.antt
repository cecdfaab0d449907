use Rattle.std.proofs.Common.{inl, inr, lit<, sym, ◌∙◌}
use Rattle.std.proofs.lemmas.Bool.{cond-true, cond-false}
use Rattle.node_core.proofs.controller.sync.state_of_period.Goals as goal

pub returns-else-phase-clause-agreed : goal.returns-else-phase-clause-agreed
returns-else-phase-clause-agreed g c = c.adopt.ensures.agreed

pub returns-then-phase-clause-agreed : goal.returns-then-phase-clause-agreed
returns-then-phase-clause-agreed g c = c.requires.kept

pub returns-else-phase-clause-state : goal.returns-else-phase-clause-state
returns-else-phase-clause-state g c = c.adopt.ensures.adopted ∙ sym (cond-false _ _ _ c.if-phase.false)

pub returns-then-phase-clause-state : goal.returns-then-phase-clause-state
returns-then-phase-clause-state g c = sym (cond-true _ _ _ c.if-phase.true)

pub adopt-requires : goal.adopt-requires
adopt-requires g c = (elim g.bound-1.eight_or_sixteen [ inl e ↦ rw e (lit< tt) | inr e ↦ rw e (lit< tt) ], (lit< tt, (elim g.bound-1.eight_or_sixteen [ inl e ↦ rw e (lit< tt) | inr e ↦ rw e (lit< tt) ], (c.requires.config, (c.requires.watching, c.requires.sized)))))
