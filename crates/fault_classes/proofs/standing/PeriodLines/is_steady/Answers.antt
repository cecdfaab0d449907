use Rattle.std.proofs.Common.{◌≡◌, true, false, not, ◌&&◌, sym, ◌∙◌}
use Rattle.std.specs.Prelude.{nat_lt}
use Rattle.std.proofs.lemmas.Bool.{lt-ltb, not_from_false, not_from_true, both_ways}
use Rattle.fault_classes.specs.Plan.{is_clean, sound_before, restarts_at}
use Rattle.fault_classes.proofs.Loops.{fourth, third_fails, second_fails}
use Rattle.fault_classes.proofs.Sets.{has_in}
use Rattle.fault_classes.proofs.standing.PeriodLines.is_steady.Goals as goal
use Rattle.fault_classes.proofs.standing.PeriodLines.is_steady.Goals.{then-not-is_restarting, else-not-is_restarting}

pub returns-then-has : goal.returns-then-has
returns-then-has g c =
    let plan = c.args.self.now.index.now in
    let p = c.args.self.now.period in
    let j = c.args.node in
    elim c.if-not-is_restarting.branch [
      | then-not-is_restarting w ↦
          let stays : not (restarts_at plan j p) ≡ true = not_from_false (restarts_at plan j p) (sym c.is_restarting.ensures ∙ w.if-not-is_restarting.true) in
          let clean : is_clean plan p j ≡ true = sym (w.has.ensures ∙ has_in c.args.self.now.clean (is_clean plan p) plan.nodes j c.args.self.now.unharmed c.requires.node) ∙ sym w.value-is ∙ c.if-has.true in
          c.has-then-has.ensures ∙ has_in c.args.before.now (sound_before plan p) plan.nodes j c.requires.before c.requires.node
          ∙ fourth (nat_lt j plan.nodes) (not (restarts_at plan j p)) (is_clean plan p j) (sound_before plan p j) (lt-ltb j plan.nodes c.requires.node) stays clean
      | else-not-is_restarting w ↦ absurd (both_ways _ (w.value-is ∙ not_from_true _ w.if-not-is_restarting.false) c.if-has.true)
    ]

pub returns-else-has : goal.returns-else-has
returns-else-has g c =
    let plan = c.args.self.now.index.now in
    let p = c.args.self.now.period in
    let j = c.args.node in
    c.if-has.false ∙ sym (elim c.if-not-is_restarting.branch [
      | then-not-is_restarting w ↦
          let soiled : is_clean plan p j ≡ false = sym (w.has.ensures ∙ has_in c.args.self.now.clean (is_clean plan p) plan.nodes j c.args.self.now.unharmed c.requires.node) ∙ sym w.value-is ∙ c.if-has.false in
          third_fails (nat_lt j plan.nodes) (not (restarts_at plan j p)) (is_clean plan p j) (sound_before plan p j) soiled
      | else-not-is_restarting w ↦
          let stays : not (restarts_at plan j p) ≡ false = not_from_true (restarts_at plan j p) (sym c.is_restarting.ensures ∙ w.if-not-is_restarting.false) in
          second_fails (nat_lt j plan.nodes) (not (restarts_at plan j p)) (is_clean plan p j && sound_before plan p j) stays
    ])
