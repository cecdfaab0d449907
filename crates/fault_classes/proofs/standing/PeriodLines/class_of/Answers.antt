use Rattle.std.proofs.Common.{ℕ, ◌≤◌, sym, ◌∙◌, arith}
use Rattle.fault_classes.specs.Plan.{sound_before, steady, is_clean}
use Rattle.fault_classes.specs.ClassLaws.{class_by}
use Rattle.fault_classes.proofs.Classing.{class_N, class_J, class_B, class_S, class_A}
use Rattle.fault_classes.proofs.Sets.{has_in}
use Rattle.fault_classes.proofs.CleanClass.{clean_benign, clean_symmetric, some_other}
use Rattle.fault_classes.proofs.standing.PeriodLines.class_of.Goals as goal

some_two : (n : ℕ) → 3 ≤ n → 2 ≤ n
some_two n h = omega (arith, h)

pub returns-then-has : goal.returns-then-has
returns-then-has g c =
    let plan = c.args.self.now.index.now in
    let p = c.args.self.now.period in
    let good = has_in c.args.good.now (steady plan p (sound_before plan p)) plan.nodes c.args.node c.requires.good c.requires.node in
    sym (class_by plan p c.args.node c.requires.node ∙ class_N _ _ _ _ (sym (c.has.ensures ∙ good) ∙ c.if-has.true))

pub returns-then-joins : goal.returns-then-joins
returns-then-joins g c =
    let plan = c.args.self.now.index.now in
    let p = c.args.self.now.period in
    let good = has_in c.args.good.now (steady plan p (sound_before plan p)) plan.nodes c.args.node c.requires.good c.requires.node in
    sym (class_by plan p c.args.node c.requires.node ∙ class_J _ _ _ _ (sym (c.has.ensures ∙ good) ∙ c.if-has.false) (sym c.joins.ensures ∙ c.if-joins.true))

pub returns-then-has-2 : goal.returns-then-has-2
returns-then-has-2 g c =
    let plan = c.args.self.now.index.now in
    let p = c.args.self.now.period in
    let j = c.args.node in
    let good = has_in c.args.good.now (steady plan p (sound_before plan p)) plan.nodes j c.requires.good c.requires.node in
    let clean = sym (has_in c.args.self.now.clean (is_clean plan p) plan.nodes j c.args.self.now.unharmed c.requires.node) ∙ sym c.has-else-joins.ensures ∙ c.if-has-2.true in
    let other = some_other plan.nodes j (some_two plan.nodes c.nodes.ensures.shape.some_nodes) in
    sym (class_by plan p j c.requires.node
    ∙ class_S _ _ _ _ (sym (c.has.ensures ∙ good) ∙ c.if-has.false) (sym c.joins.ensures ∙ c.if-joins.false)
    (clean_benign plan p j clean other.0 other.1.0 other.1.1) (clean_symmetric plan p j clean))

pub returns-then-is_benign : goal.returns-then-is_benign
returns-then-is_benign g c =
    let plan = c.args.self.now.index.now in
    let p = c.args.self.now.period in
    let good = has_in c.args.good.now (steady plan p (sound_before plan p)) plan.nodes c.args.node c.requires.good c.requires.node in
    sym (class_by plan p c.args.node c.requires.node
    ∙ class_B _ _ _ _ (sym (c.has.ensures ∙ good) ∙ c.if-has.false) (sym c.joins.ensures ∙ c.if-joins.false) (sym c.is_benign.ensures ∙ c.if-is_benign.true))

pub returns-then-is_symmetric : goal.returns-then-is_symmetric
returns-then-is_symmetric g c =
    let plan = c.args.self.now.index.now in
    let p = c.args.self.now.period in
    let good = has_in c.args.good.now (steady plan p (sound_before plan p)) plan.nodes c.args.node c.requires.good c.requires.node in
    sym (class_by plan p c.args.node c.requires.node
    ∙ class_S _ _ _ _ (sym (c.has.ensures ∙ good) ∙ c.if-has.false) (sym c.joins.ensures ∙ c.if-joins.false) (sym c.is_benign.ensures ∙ c.if-is_benign.false)
    (sym c.is_symmetric.ensures ∙ c.if-is_symmetric.true))

pub returns-else-is_symmetric : goal.returns-else-is_symmetric
returns-else-is_symmetric g c =
    let plan = c.args.self.now.index.now in
    let p = c.args.self.now.period in
    let good = has_in c.args.good.now (steady plan p (sound_before plan p)) plan.nodes c.args.node c.requires.good c.requires.node in
    sym (class_by plan p c.args.node c.requires.node
    ∙ class_A _ _ _ _ (sym (c.has.ensures ∙ good) ∙ c.if-has.false) (sym c.joins.ensures ∙ c.if-joins.false) (sym c.is_benign.ensures ∙ c.if-is_benign.false)
    (sym c.is_symmetric.ensures ∙ c.if-is_symmetric.false))
