use Rattle.std.proofs.Common.{ℕ, ◌≡◌, ◌≤◌, ap, sym, subst, ◌∙◌, inl, inr, lit<}
use Rattle.settled_paths.specs.Rooms.{Room}
use Rattle.agreed_state.specs.declared.config.Config.{Config}
use Rattle.agreed_state.specs.ConfigLaws.{few_rounds}
use Rattle.at_once.proofs.run.phases.Goals as goal

-- room for so many nodes and rounds
abbrev room_of : {N : ℕ} → Config N → Room
room_of x = record { nodes = x.nodes; rounds = x.m }

pub config-config-requires : goal.config-config-requires
config-config-requires g c = elim g.bound-1.eight_or_sixteen [ inl e ↦ rw e (lit< tt, lit< tt) | inr e ↦ rw e (lit< tt, lit< tt) ]

pub open-requires : goal.open-requires
open-requires g c =
    let is = c.config-config.ensures.config in
    let ok = c.config-config.ensures.scenario.system.config in (
      elim g.bound-1.eight_or_sixteen [ inl e ↦ rw e (lit< tt) | inr e ↦ rw e (lit< tt) ],
      (
        subst (λ (x : Config g.row.N). x.nodes ≤ g.row.N) (sym is) ok.few_nodes,
        subst (λ (x : Config g.row.N). x.m ≤ 3) (sym is) (few_rounds g.row.N c.args.scenario.now.config ok),
      ),
    )

pub open-requires-2 : goal.open-requires-2
open-requires-2 g c =
    let is = c.config-config.ensures.config in
    let ok = c.config-config.ensures.scenario.system.config in (
      elim g.bound-1.eight_or_sixteen [ inl e ↦ rw e (lit< tt) | inr e ↦ rw e (lit< tt) ],
      (
        subst (λ (x : Config g.row.N). x.nodes ≤ g.row.N) (sym is) ok.few_nodes,
        subst (λ (x : Config g.row.N). x.m ≤ 3) (sym is) (few_rounds g.row.N c.args.scenario.now.config ok),
      ),
    )

pub zero-requires : goal.zero-requires
zero-requires g c = elim g.bound-1.eight_or_sixteen [ inl e ↦ rw e (lit< tt) | inr e ↦ rw e (lit< tt) ]

pub returns : goal.returns
returns g c =
    let room : room_of c.config-config.result.now ≡ room_of c.args.scenario.now.config = ap (λ (x : Config g.row.N). room_of x) c.config-config.ensures.config in
    (c.in_ok-claims.ensures ∙ room, c.in_ok-rows.ensures ∙ room)
