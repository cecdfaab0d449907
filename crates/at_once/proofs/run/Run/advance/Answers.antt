use Rattle.std.proofs.Common.{ℕ, ◌≡◌, ◌<◌, ◌+◌, sym, ap, subst, ◌∙◌, arith, inl, inr, lit<}
use Rattle.node_grid.specs.Capacity.{IsCapacity}
use Rattle.scenario.specs.Scenario.{ScenarioView}
use Rattle.shown_period.specs.declared.made.Made.{Made}
use Rattle.shown_period.specs.Outcomes.{HasBeliefs}
use Rattle.at_once.specs.Kept.{AreBegun, AreKept}
use Rattle.at_once.specs.Run.{RunView, ShowsPeriod}
use Rattle.at_once.proofs.Goings.{beliefs_stay, begun_in_run}
use Rattle.at_once.proofs.run.Run.advance.Goals as goal

pub begin-requires : goal.begin-requires
begin-requires g c =
    let cap : IsCapacity g.row.N = g.bound-1.eight_or_sixteen in
    let more : c.self.inside.run < c.self.inside.scenario.now.periods = subst (λ (v : RunView g.row.N). v.run < v.scenario.periods) (sym c.self.view_is) c.requires.more in (
      lit< tt,
      (
        elim cap [ inl e ↦ rw e (lit< tt) | inr e ↦ rw e (lit< tt) ],
        (
          elim cap [ inl e ↦ rw e (lit< tt) | inr e ↦ rw e (lit< tt) ],
          c.self.invariant.kept,
        ),
      ),
    )

pub begin-requires-2 : goal.begin-requires-2
begin-requires-2 g c =
    let cap : IsCapacity g.row.N = g.bound-1.eight_or_sixteen in
    let sc : ScenarioView g.row.N = c.self.inside.scenario.now in
    let more : c.self.inside.run < sc.periods = subst (λ (v : RunView g.row.N). v.run < v.scenario.periods) (sym c.self.view_is) c.requires.more in (
      elim cap [ inl e ↦ rw e (lit< tt) | inr e ↦ rw e (lit< tt) ],
      (
        elim cap [ inl e ↦ rw e (lit< tt) | inr e ↦ rw e (lit< tt) ],
        (more, (c.self.invariant.before, begun_in_run sc c.self.inside.run c.begin.new.states c.begin.new.keeping c.begin.ensures)),
      ),
    )

pub invariant_of-period : goal.invariant_of-period
invariant_of-period g c = record { in_run = subst (λ (v : RunView g.row.N). v.run < v.scenario.periods) (sym c.self.view_is) c.requires.more }

pub go-requires : goal.go-requires
go-requires g c =
    let cap : IsCapacity g.row.N = g.bound-1.eight_or_sixteen in
    let sc : ScenarioView g.row.N = c.self.inside.scenario.now in
    let more : c.self.inside.run < sc.periods = subst (λ (v : RunView g.row.N). v.run < v.scenario.periods) (sym c.self.view_is) c.requires.more in
    let made = c.begin-2.ensures.made in (
      lit< tt,
      (
        elim cap [ inl e ↦ rw e (lit< tt) | inr e ↦ rw e (lit< tt) ],
        (
          elim cap [ inl e ↦ rw e (lit< tt) | inr e ↦ rw e (lit< tt) ],
          (
            elim cap [ inl e ↦ rw e (lit< tt) | inr e ↦ rw e (lit< tt) ],
            (
              elim cap [ inl e ↦ rw e (lit< tt) | inr e ↦ rw e (lit< tt) ],
              (
                elim cap [ inl e ↦ rw e (lit< tt) | inr e ↦ rw e (lit< tt) ],
                (
                  subst (λ (m : Made g.row.N). AreBegun sc c.self.inside.run m.states c.begin.new.keeping) (sym made) c.begin.ensures,
                  (
                    subst (λ (m : Made g.row.N). HasBeliefs m) (sym made) (beliefs_stay c.self.inside.shown.made c.begin.new.states c.self.invariant.beliefs),
                    (c.self.invariant.claims_room, c.self.invariant.rows_room),
                  ),
                ),
              ),
            ),
          ),
        ),
      ),
    )

pub end-requires : goal.end-requires
end-requires g c =
    let cap : IsCapacity g.row.N = g.bound-1.eight_or_sixteen in (
      elim cap [ inl e ↦ rw e (lit< tt) | inr e ↦ rw e (lit< tt) ],
      (
        elim cap [ inl e ↦ rw e (lit< tt) | inr e ↦ rw e (lit< tt) ],
        (c.begin-2.ensures.begun, c.go.ensures.made),
      ),
    )

pub overflow_add-self : goal.overflow_add-self
overflow_add-self g c =
    let more : c.self.inside.run < c.self.inside.scenario.now.periods = subst (λ (v : RunView g.row.N). v.run < v.scenario.periods) (sym c.self.view_is) c.requires.more in
    let few = c.self.invariant.scenario.few_periods in
    omega (arith, more, few)

pub invariant_of-self : goal.invariant_of-self
invariant_of-self g c =
    let sc : ScenarioView g.row.N = c.self.inside.scenario.now in
    let p : ℕ = c.self.inside.run in
    let more : p < sc.periods = subst (λ (v : RunView g.row.N). v.run < v.scenario.periods) (sym c.self.view_is) c.requires.more in
    let made = c.end.ensures.made in
    record {
      scenario = c.self.invariant.scenario;
      in_run = omega (arith, more);
      kept = subst (λ (m : Made g.row.N). AreKept sc (p + 1) m.states c.go.new.keeping) (sym made) c.go.ensures.kept;
      beliefs = subst (λ (m : Made g.row.N). HasBeliefs m) (sym made) c.go.ensures.beliefs;
      before = c.end.ensures.before;
      claims_room = c.go.ensures.claims_room ∙ c.self.invariant.claims_room;
      rows_room = c.go.ensures.rows_room ∙ c.self.invariant.rows_room;
      last = λ q e. subst (λ (k : ℕ). ShowsPeriod sc k c.end.new.self) (let same : p ≡ q = omega (arith, e) in same) c.end.ensures.shows;
    }

pub returns : goal.returns
returns g c = ap (λ (v : RunView g.row.N). record v { run = v.run + 1 }) c.self.view_is
