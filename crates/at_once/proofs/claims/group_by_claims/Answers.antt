use Rattle.std.proofs.Common.{ℕ, ◌≡◌, List, Option, refl, sym, lit<, inl, inr}
use Rattle.std.specs.Prelude.{nat_eq}
use Rattle.node_grid.specs.Capacity.{IsCapacity}
use Rattle.agreed_state.specs.Agreed.{AgreedView}
use Rattle.protocol.specs.Arrival.{claim_form}
use Rattle.shared_states.specs.Sharing.{state_at}
use Rattle.at_once.specs.Phases.{SettleAlike}
use Rattle.at_once.proofs.GroupedBy.{of_first}
use Rattle.at_once.proofs.claims.group_by_claims.Goals as goal

pub by-groups-requires : goal.by-groups-requires
by-groups-requires g c =
    let cap : IsCapacity g.row.N = c.requires.settled.heard.set.capacity in
    (lit< tt, (elim cap [ inl e ↦ rw e (lit< tt) | inr e ↦ rw e (lit< tt) ], λ r i before less. (elim cap [ inl e ↦ rw e (lit< tt) | inr e ↦ rw e (lit< tt) ], (elim cap [ inl e ↦ rw e (lit< tt) | inr e ↦ rw e (lit< tt) ], (elim cap [ inl e ↦ rw e (lit< tt) | inr e ↦ rw e (lit< tt) ], c.requires.settled)))))

pub returns-clause-firsts : goal.returns-clause-firsts
returns-clause-firsts g c = c.of.ensures.all

pub returns-clause-cold : goal.returns-clause-cold
returns-clause-cold g c i low off = c.by-groups.ensures.others i low off

pub returns-clause-among : goal.returns-clause-among
returns-clause-among g c i low on = c.by-groups.ensures.among i low on

pub returns-clause-shared : goal.returns-clause-shared
returns-clause-shared g c i low =
    let states : List (Option AgreedView) = c.args.states.now in
    of_first g.row.N c.args.phase.now.awake c.by-groups.result _ (λ (r j : ℕ). state_at states r ≡ state_at states j) c.of.ensures.all c.by-groups.ensures (λ j. refl)
    (λ r j low_r low_j t. sym (t.0 refl).1) i low

pub returns-clause-alike : goal.returns-clause-alike
returns-clause-alike g c i low on =
    of_first g.row.N c.args.phase.now.awake c.by-groups.result _ (SettleAlike nat_eq claim_form c.args.phase.now c.args.claims.now) c.of.ensures.all c.by-groups.ensures (λ j. (refl, λ k among. refl))
    (λ r j low_r low_j t. t.1 refl) i low

pub of-requires : goal.of-requires
of-requires g c = elim c.requires.settled.heard.set.capacity [ inl e ↦ rw e (lit< tt, lit< tt) | inr e ↦ rw e (lit< tt, lit< tt) ]
