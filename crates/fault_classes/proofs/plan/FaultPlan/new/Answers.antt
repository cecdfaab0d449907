use Rattle.std.proofs.Common.{sym, subst, lit<, inl, inr, refl}
use Rattle.fault_classes.specs.Plan.{Plan}
use Rattle.fault_classes.specs.Rules.{IsPlan}
use Rattle.std.proofs.lemmas.Result.{err_from_is_err_and}
use Rattle.fault_classes.proofs.plan.FaultPlan.new.Goals as goal

pub new-requires : goal.new-requires
new-requires g c = (lit< tt, (lit< tt, (c.requires.size, (c.requires.few_lines, c.requires.few_restarts))))

pub invariant_of-result : goal.invariant_of-result
invariant_of-result g c =
    let r = c.requires.size in
    let made = c.in_ok-index.ensures in (
      subst (λ (p : Plan). IsPlan g.row.N p) (sym made.0) (record {
        capacity = r.capacity;
        some_nodes = r.some_nodes;
        few_nodes = r.few_nodes;
        rounds = r.rounds;
        few_rounds = r.few_rounds;
        some_periods = r.some_periods;
        few_periods = r.few_periods;
        accepted = made.1;
      }),
      c.in-Ok.ensures,
    )

pub returns : goal.returns
returns g c = (c.in_ok-index.ensures.0, c.in_ok-index.ensures.1)

pub returns-in_err-index : goal.returns-in_err-index
returns-in_err-index g c = let p = err_from_is_err_and c.from_residual.result c.from_residual.ensures.1 in rw (p.1, p.2) c.in_err-index.ensures

pub returns-in_default : goal.returns-in_default
returns-in_default g c = inl refl

pub standings_of-requires : goal.standings_of-requires
standings_of-requires g c = elim c.requires.size.capacity [ inl n ↦ rw n (lit< tt, lit< tt) | inr n ↦ rw n (lit< tt, lit< tt) ]
