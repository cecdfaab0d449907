use Rattle.std.proofs.Common.{◌≡◌, Bool, true, false, ◌&&◌, sym, ◌∙◌}
use Rattle.std.specs.Prelude.{nat_lt}
use Rattle.std.proofs.lemmas.Bool.{lt-ltb, both_ways}
use Rattle.fault_classes.specs.Plan.{is_clean, sound_before, steady, recovers_in, restarts_at}
use Rattle.fault_classes.proofs.Loops.{fourth, third_fails, second_fails}
use Rattle.fault_classes.proofs.Sets.{has_in}
use Rattle.fault_classes.proofs.standing.PeriodLines.joins.Goals as goal
use Rattle.fault_classes.proofs.standing.PeriodLines.joins.Goals.{then-is_restarting, else-is_restarting}

pub returns-then-has : goal.returns-then-has
returns-then-has g c =
    let plan = c.args.self.now.index.now in
    let p = c.args.self.now.period in
    let j = c.args.node in
    elim c.if-is_restarting.branch [
      | then-is_restarting w ↦
          let restarts : restarts_at plan j p ≡ true = sym c.is_restarting.ensures ∙ w.if-is_restarting.true in
          let clean : is_clean plan p j ≡ true = sym (w.has.ensures ∙ has_in c.args.self.now.clean (is_clean plan p) plan.nodes j c.args.self.now.unharmed c.requires.node) ∙ sym w.value-is ∙ c.if-has.true in
          c.recovers.ensures
          ∙ fourth (nat_lt j plan.nodes) (restarts_at plan j p) (is_clean plan p j) (recovers_in plan p (steady plan p (sound_before plan p)) j) (lt-ltb j plan.nodes c.requires.node) restarts clean
      | else-is_restarting w ↦ absurd (both_ways _ (w.value-is ∙ w.if-is_restarting.false) c.if-has.true)
    ]

pub returns-else-has : goal.returns-else-has
returns-else-has g c =
    let plan = c.args.self.now.index.now in
    let p = c.args.self.now.period in
    let j = c.args.node in
    let recovers : Bool = recovers_in plan p (steady plan p (sound_before plan p)) j in
    c.if-has.false ∙ sym (elim c.if-is_restarting.branch [
      | then-is_restarting w ↦
          let soiled : is_clean plan p j ≡ false = sym (w.has.ensures ∙ has_in c.args.self.now.clean (is_clean plan p) plan.nodes j c.args.self.now.unharmed c.requires.node) ∙ sym w.value-is ∙ c.if-has.false in
          third_fails (nat_lt j plan.nodes) (restarts_at plan j p) (is_clean plan p j) recovers soiled
      | else-is_restarting w ↦
          let stays : restarts_at plan j p ≡ false = sym c.is_restarting.ensures ∙ w.if-is_restarting.false in
          second_fails (nat_lt j plan.nodes) (restarts_at plan j p) (is_clean plan p j && recovers) stays
    ])
