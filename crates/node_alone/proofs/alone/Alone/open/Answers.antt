use Rattle.std.proofs.Common.{◌≡◌, refl, sym, ap, subst, arith, inl, inr, lit<}
use Rattle.agreed_state.specs.declared.config.Config.{Config}
use Rattle.agreed_state.specs.Config.{IsConfig}
use Rattle.node_steps.specs.Fresh.{IsFresh}
use Rattle.node_alone.proofs.Ordering.{from_first}
use Rattle.node_alone.proofs.Stepped.{at_start}
use Rattle.node_alone.proofs.alone.Alone.open.Goals as goal

pub open-requires : goal.open-requires
open-requires g c =
    let is = c.config.ensures.config in
    let nodes : c.config.result.now.nodes ≡ c.args.input.now.scenario.config.nodes = ap (λ (y : Config g.row.N). y.nodes) is in (
      elim g.bound-1.eight_or_sixteen [ inl e ↦ rw e (lit< tt) | inr e ↦ rw e (lit< tt) ],
      (
        elim g.bound-1.eight_or_sixteen [ inl e ↦ rw e (lit< tt) | inr e ↦ rw e (lit< tt) ],
        (subst (IsConfig g.row.N) (sym is) c.config.ensures.log.scenario.system.config, let id = c.id.ensures.id in let low = c.id.ensures.log.id in omega (arith, id, low, nodes)),
      ),
    )

pub record-shown-requires : goal.record-shown-requires
record-shown-requires g c = (elim g.bound-1.eight_or_sixteen [ inl e ↦ rw e (lit< tt) | inr e ↦ rw e (lit< tt) ], (elim g.bound-1.eight_or_sixteen [ inl e ↦ rw e (lit< tt) | inr e ↦ rw e (lit< tt) ], c.in_ok-node.ensures.shut))

pub invariant_of-result : goal.invariant_of-result
invariant_of-result g c = record {
  input = c.config.ensures.log;
  node = at_start c.args.input.now c.in_ok-node.node
      (subst (λ (y : Config g.row.N). IsFresh y c.args.input.now.id c.in_ok-node.node) c.config.ensures.config (subst (λ n. IsFresh c.config.result.now n c.in_ok-node.node) c.id.ensures.id c.in_ok-node.ensures));
  rest = sym (from_first c.args.input.now.entries);
  last = λ q e. cc;
}

pub config-requires : goal.config-requires
config-requires g c = (elim g.bound-1.eight_or_sixteen [ inl e ↦ rw e (lit< tt) | inr e ↦ rw e (lit< tt) ], elim g.bound-1.eight_or_sixteen [ inl e ↦ rw e (lit< tt) | inr e ↦ rw e (lit< tt) ])

pub id-requires : goal.id-requires
id-requires g c = elim g.bound-1.eight_or_sixteen [ inl e ↦ rw e (lit< tt) | inr e ↦ rw e (lit< tt) ]

pub returns : goal.returns
returns g c = refl
