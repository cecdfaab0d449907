use Rattle.std.proofs.Common.{◌≡◌, sym, ap, subst, ◌∙◌, arith, inl, inr, lit<, drop}
use Rattle.agreed_state.specs.declared.config.Config.{Config}
use Rattle.agreed_state.specs.ConfigLaws.{few_rounds}
use Rattle.node_alone.specs.Seen.{Ascends}
use Rattle.node_alone.specs.Stepping.{from_slot}
use Rattle.node_alone.proofs.Stepped.{ready_here, after_here, shown_here, rest_here}
use Rattle.node_alone.proofs.alone.step.Goals as goal

pub run_slots-requires : goal.run_slots-requires
run_slots-requires g c =
    let log = c.args.input.now in
    let es = c.entries.result.now in
    let same : es ≡ log.entries = c.entries.ensures.entries in
    let m : c.config.result.now.m ≡ log.scenario.config.m = ap (λ (y : Config g.row.N). y.m) c.config.ensures.config in (
      elim g.bound-1.eight_or_sixteen [ inl e ↦ rw e (lit< tt) | inr e ↦ rw e (lit< tt) ],
      (
        λ t low. ready_here log c.config.ensures.log c.period.ensures c.args.period c.args.node.now c.begin.new.node c.requires.before c.begin.ensures es same t (omega (arith, low, c.slot_count-count.ensures, m)),
        (
          subst Ascends (sym same) c.config.ensures.log.ascends,
          ap (drop c.args.next) same ∙ c.requires.rest ∙ ap (from_slot c.args.period 0) (sym same),
        ),
      ),
    )

pub returns-clause-after : goal.returns-clause-after
returns-clause-after g c =
    let log = c.args.input.now in
    let m : c.config.result.now.m ≡ log.scenario.config.m = ap (λ (y : Config g.row.N). y.m) c.config.ensures.config in
    after_here log c.config.ensures.log c.period.ensures c.args.period c.args.node.now c.begin.new.node c.requires.before c.begin.ensures c.entries.result.now c.entries.ensures.entries c.run_slots.new.node c.slot_count-count.result
    (omega (arith, c.slot_count-count.ensures, m)) c.run_slots.ensures.after

pub returns-clause-shown : goal.returns-clause-shown
returns-clause-shown g c =
    let log = c.args.input.now in
    let m : c.config.result.now.m ≡ log.scenario.config.m = ap (λ (y : Config g.row.N). y.m) c.config.ensures.config in
    shown_here log c.config.ensures.log c.period.ensures c.args.period c.args.node.now c.begin.new.node c.requires.before c.begin.ensures c.entries.result.now c.entries.ensures.entries c.run_slots.new.node c.slot_count-count.result
    (omega (arith, c.slot_count-count.ensures, m)) c.run_slots.ensures.after

pub returns-clause-rest : goal.returns-clause-rest
returns-clause-rest g c =
    let log = c.args.input.now in
    let m : c.config.result.now.m ≡ log.scenario.config.m = ap (λ (y : Config g.row.N). y.m) c.config.ensures.config in
    rest_here log c.config.ensures.log c.period.ensures c.args.period c.args.node.now c.begin.new.node c.requires.before c.begin.ensures c.entries.result.now c.entries.ensures.entries c.run_slots.result c.slot_count-count.result
    (omega (arith, c.slot_count-count.ensures, m)) c.run_slots.ensures.rest

pub config-requires : goal.config-requires
config-requires g c = (elim g.bound-1.eight_or_sixteen [ inl e ↦ rw e (lit< tt) | inr e ↦ rw e (lit< tt) ], elim g.bound-1.eight_or_sixteen [ inl e ↦ rw e (lit< tt) | inr e ↦ rw e (lit< tt) ])

pub slot_count-count-requires : goal.slot_count-count-requires
slot_count-count-requires g c =
    let m : c.config.result.now.m ≡ c.args.input.now.scenario.config.m = ap (λ (y : Config g.row.N). y.m) c.config.ensures.config in
    omega (arith, m, few_rounds g.row.N c.args.input.now.scenario.config c.config.ensures.log.scenario.system.config)

pub period-requires : goal.period-requires
period-requires g c = tt

pub begin-requires : goal.begin-requires
begin-requires g c =
    (elim g.bound-1.eight_or_sixteen [ inl e ↦ rw e (lit< tt) | inr e ↦ rw e (lit< tt) ], (elim g.bound-1.eight_or_sixteen [ inl e ↦ rw e (lit< tt) | inr e ↦ rw e (lit< tt) ], (c.requires.before.shut, c.requires.period)))

pub entries-requires : goal.entries-requires
entries-requires g c = elim g.bound-1.eight_or_sixteen [ inl e ↦ rw e (lit< tt) | inr e ↦ rw e (lit< tt) ]
