use Rattle.std.proofs.Common.{ℕ, ◌≡◌, inl, inr, lit<, sym, ap, ap₂, subst, ◌∙◌, arith}
use Rattle.std.specs.Prelude.{All}
use Rattle.frames.specs.Content.{IsValue}
use Rattle.fault_classes.specs.Plan.{restarts_at}
use Rattle.agreed_state.specs.declared.config.Inputs.{Inputs}
use Rattle.node_steps.specs.Parts.{NodeView}
use Rattle.node_steps.specs.Steps.{begun}
use Rattle.scenario.specs.Scenario.{ScenarioView, inputs_of}
use Rattle.node_steps.specs.Facts.{shut_if}
use Rattle.node_alone.specs.Log.{RecordView}
use Rattle.node_alone.proofs.alone.begin.Goals as goal

pub scenario-requires : goal.scenario-requires
scenario-requires g c = (elim g.bound-1.eight_or_sixteen [ inl e ↦ rw e (lit< tt) | inr e ↦ rw e (lit< tt) ], elim g.bound-1.eight_or_sixteen [ inl e ↦ rw e (lit< tt) | inr e ↦ rw e (lit< tt) ])

pub inputs-requires : goal.inputs-requires
inputs-requires g c =
    let is = c.scenario.ensures.scenario in
    let nodes : c.scenario.result.now.config.nodes ≡ c.args.input.now.scenario.config.nodes = ap (λ (s : ScenarioView g.row.N). s.config.nodes) is in
    let id = c.id.ensures.id in
    let low = c.id.ensures.log.id in
    (elim g.bound-1.eight_or_sixteen [ inl e ↦ rw e (lit< tt) | inr e ↦ rw e (lit< tt) ], omega (arith, nodes, id, low))

pub begin-requires : goal.begin-requires
begin-requires g c =
    let log : RecordView g.row.N = c.args.input.now in
    let given : c.inputs.result ≡ inputs_of log.scenario log.id c.args.period = c.inputs.ensures ∙ ap₂ (λ (s : ScenarioView g.row.N) (i : ℕ). inputs_of s i c.args.period) c.scenario.ensures.scenario c.id.ensures.id in (
      elim g.bound-1.eight_or_sixteen [ inl e ↦ rw e (lit< tt) | inr e ↦ rw e (lit< tt) ],
      (
        ap (λ (y : NodeView g.row.N). y.phase.is_open) c.wake.ensures ∙ shut_if (restarts_at log.scenario.plan log.id c.args.period) c.args.node.now ∙ c.requires.closed,
        subst (λ (x : Inputs). All IsValue x.reading) (sym given) (c.id.ensures.log.scenario.system.inputs log.id c.args.period c.id.ensures.log.id).readings,
      ),
    )

pub wake-requires : goal.wake-requires
wake-requires g c =
    (elim g.bound-1.eight_or_sixteen [ inl e ↦ rw e (lit< tt) | inr e ↦ rw e (lit< tt) ], (elim g.bound-1.eight_or_sixteen [ inl e ↦ rw e (lit< tt) | inr e ↦ rw e (lit< tt) ], (c.requires.closed, c.requires.period)))

pub id-requires : goal.id-requires
id-requires g c = elim g.bound-1.eight_or_sixteen [ inl e ↦ rw e (lit< tt) | inr e ↦ rw e (lit< tt) ]

pub returns : goal.returns
returns g c =
    let given : c.inputs.result ≡ inputs_of c.args.input.now.scenario c.args.input.now.id c.args.period =
    c.inputs.ensures ∙ ap₂ (λ (s : ScenarioView g.row.N) (i : ℕ). inputs_of s i c.args.period) c.scenario.ensures.scenario c.id.ensures.id in
    c.begin.ensures ∙ ap₂ (λ (v : NodeView g.row.N) (i : Inputs). begun v c.args.period i) c.wake.ensures given
