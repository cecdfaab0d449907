use Rattle.std.proofs.Common.{sym, ap, subst, ◌∙◌, lit<, inl, inr}
use Rattle.node_grid.specs.Capacity.{IsCapacity}
use Rattle.scenario.specs.Scenario.{system_of}
use Rattle.heard_states.specs.declared.slot.SyncSlot.{SyncSlot}
use Rattle.heard_states.specs.Slot.{IsSlotOf}
use Rattle.shown_period.specs.declared.made.Made.{Made}
use Rattle.shown_period.specs.Outcomes.{HasBeliefs}
use Rattle.at_once.specs.declared.keeping.Keeping.{Keeping}
use Rattle.at_once.proofs.Hearings.{is_slot, are_ready, of_run, all_synced}
use Rattle.at_once.proofs.period.Period.hear.Goals as goal

pub hear-made-requires : goal.hear-made-requires
hear-made-requires g c =
    let sc = c.args.self.now.scenario.now in
    let slot : SyncSlot g.row.N = record { config = c.config.result; plan = c.plan.result; period = c.args.self.now.number } in
    let cap : IsCapacity g.row.N = c.requires.beliefs.capacity in
    let ok = c.config.ensures.scenario in (
      lit< tt,
      (
        elim cap [ inl e ↦ rw e (lit< tt) | inr e ↦ rw e (lit< tt) ],
        (
          elim cap [ inl e ↦ rw e (lit< tt) | inr e ↦ rw e (lit< tt) ],
          (
            elim cap [ inl e ↦ rw e (lit< tt) | inr e ↦ rw e (lit< tt) ],
            (
              lit< tt,
              (
                is_slot sc slot cap ok c.config.ensures.config c.plan.ensures.plan c.args.self.now.in_run,
                are_ready sc slot cap ok c.config.ensures.config c.plan.ensures.plan c.args.made.now.states c.args.keeping.now c.requires.begun c.awake-full.ensures.length,
              ),
            ),
          ),
        ),
      ),
    )

pub leave_cold-requires : goal.leave_cold-requires
leave_cold-requires g c = (
  lit< tt,
  (
    elim g.bound-1.eight_or_sixteen [ inl e ↦ rw e (lit< tt) | inr e ↦ rw e (lit< tt) ],
    subst (λ (m : Made g.row.N). HasBeliefs m) (sym c.go_through.ensures)
        (record { capacity = c.requires.beliefs.capacity; many = c.requires.beliefs.many; placed = c.requires.beliefs.placed }),
  ),
)

pub returns-clause-synced : goal.returns-clause-synced
returns-clause-synced g c =
    let sc = c.args.self.now.scenario.now in
    let slot : SyncSlot g.row.N = record { config = c.config.result; plan = c.plan.result; period = c.args.self.now.number } in
    let k : Keeping g.row.N = c.args.keeping.now in
    let cap = c.requires.beliefs.capacity in
    let ok = c.config.ensures.scenario in
    let old = c.args.made.now.states in
    let l : Keeping g.row.N = record k { notes = c.hear-made.new.notes } in
    let of : IsSlotOf slot old k.notes (system_of sc) = of_run sc slot cap ok c.config.ensures.config c.plan.ensures.plan old k c.requires.begun in
    all_synced sc slot cap ok c.config.ensures.config c.plan.ensures.plan old k c.requires.begun c.awake-full.result c.awake-full.ensures.nodes c.hear-made.new.states l c.hear-made.result
    c.hear-made.ensures.ready (c.hear-made.ensures.heard (system_of sc) of)
    (c.hear-made.auto.notes ∙ c.requires.begun.shaped.many) c.go_through.new.self c.leave_cold.new.made
    (ap (λ (m : Made g.row.N). m.modes) c.go_through.ensures) (ap (λ (m : Made g.row.N). m.members) c.go_through.ensures)
    (ap (λ (m : Made g.row.N). m.states) c.go_through.ensures) (ap (λ (m : Made g.row.N). m.sync) c.go_through.ensures)
    c.leave_cold.ensures

pub returns-clause-unvoted : goal.returns-clause-unvoted
returns-clause-unvoted g c = record { votes = c.requires.begun.votes; owns = c.requires.begun.owns }

pub returns-clause-beliefs : goal.returns-clause-beliefs
returns-clause-beliefs g c = c.leave_cold.ensures.beliefs

pub config-requires : goal.config-requires
config-requires g c = elim g.bound-1.eight_or_sixteen [ inl e ↦ rw e (lit< tt, lit< tt) | inr e ↦ rw e (lit< tt, lit< tt) ]

pub plan-requires : goal.plan-requires
plan-requires g c = elim g.bound-1.eight_or_sixteen [ inl e ↦ rw e (lit< tt, lit< tt) | inr e ↦ rw e (lit< tt, lit< tt) ]

pub awake-full-requires : goal.awake-full-requires
awake-full-requires g c = elim g.bound-1.eight_or_sixteen [ inl e ↦ rw e (lit< tt, lit< tt) | inr e ↦ rw e (lit< tt, lit< tt) ]

pub go_through-requires : goal.go_through-requires
go_through-requires g c = elim g.bound-1.eight_or_sixteen [ inl e ↦ rw e (lit< tt, lit< tt) | inr e ↦ rw e (lit< tt, lit< tt) ]
