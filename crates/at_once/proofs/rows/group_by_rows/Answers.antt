use Rattle.std.proofs.Common.{ℕ, ◌≡◌, ◌==◌, refl}
use Rattle.std.specs.Cmp.Lexicographic.{pointwise}
use Rattle.protocol.specs.Arrival.{row_form}
use Rattle.grouped_nodes.specs.Grouping.{first_of}
use Rattle.at_once.specs.Kept.{of_node}
use Rattle.at_once.specs.Phases.{SettleAlike}
use Rattle.at_once.proofs.GroupedBy.{of_first}
use Rattle.at_once.proofs.rows.group_by_rows.Goals as goal

pub returns-clause-firsts : goal.returns-clause-firsts
returns-clause-firsts g c = c.of.ensures.all

pub returns-clause-cold : goal.returns-clause-cold
returns-clause-cold g c i low off = c.refine-finer.ensures.others i low off

pub returns-clause-among : goal.returns-clause-among
returns-clause-among g c i low on = c.refine-finer.ensures.among i low on

pub returns-clause-parted : goal.returns-clause-parted
returns-clause-parted g c i low =
    of_first g.row.N c.args.phase.now.awake c.refine-finer.result _ (λ (r j : ℕ). first_of c.args.groups.now r ≡ first_of c.args.groups.now j) c.of.ensures.all c.refine-finer.ensures (λ j. refl)
    (λ r j low_r low_j t. t.0) i low

pub returns-clause-votes : goal.returns-clause-votes
returns-clause-votes g c i low =
    of_first g.row.N c.args.phase.now.awake c.refine-finer.result _ (λ (r j : ℕ). of_node c.args.votes.now r ≡ of_node c.args.votes.now j) c.of.ensures.all c.refine-finer.ensures (λ j. refl)
    (λ r j low_r low_j t. t.1.0 refl) i low

pub returns-clause-alike : goal.returns-clause-alike
returns-clause-alike g c i low on =
    of_first g.row.N c.args.phase.now.awake c.refine-finer.result _ (SettleAlike (pointwise ◌==◌) row_form c.args.phase.now c.args.rows.now) c.of.ensures.all c.refine-finer.ensures (λ j. (refl, λ k among. refl))
    (λ r j low_r low_j t. t.1.1 refl) i low
