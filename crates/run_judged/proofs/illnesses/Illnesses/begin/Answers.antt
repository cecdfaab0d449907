use Rattle.std.proofs.Common.{◌≡◌, ◌+◌, ◌++◌, ◌&&◌, not, [], ◌∷◌, List, ℕ, length, vec_capacity, sym, ap, ◌∙◌, arith}
use Rattle.std.proofs.lemmas.List.{length_push}
use Rattle.node_grid.specs.NodeSet.{has_id}
use Rattle.run_judged.specs.declared.illness.Illness.{Illness}
use Rattle.run_judged.specs.declared.illnesses.Illnesses.{Illnesses}
use Rattle.run_judged.proofs.Loops.{begins, begins_not}
use Rattle.run_judged.proofs.illnesses.Illnesses.begin.Goals as goal
use Rattle.run_judged.proofs.illnesses.Illnesses.begin.Goals.{then-falls_ill, else-falls_ill}

pub loop-node-preserved : goal.loop-node-preserved
loop-node-preserved g c =
    let was = c.loop-node.invariant in
    let sound = c.args.findings.now.sound in
    let before = c.args.self.now in
    let j = c.loop-node.node in
    let told : c.falls_ill.result ≡ (has_id before.sound j && not (has_id sound j)) = c.falls_ill.ensures ∙ ap (λ (s : List ℕ). has_id s j && not (has_id sound j)) was.sound in
    elim c.if-falls_ill.branch [
      | then-falls_ill w ↦
          let items : c.if-falls_ill.self.list.items ≡ c.loop-node.self.list.items ++ w.begun.result ∷ [] = ap (λ (s : Illnesses g.row.N). s.list.items) w.self-is ∙ w.push_reserved.ensures.items in
          let room : vec_capacity c.if-falls_ill.self.list ≡ vec_capacity c.loop-node.self.list = ap (λ (s : Illnesses g.row.N). vec_capacity s.list) w.self-is ∙ w.push_reserved.ensures.capacity in
          let long : length c.if-falls_ill.self.list.items ≡ length c.loop-node.self.list.items + 1 = ap (λ (xs : List Illness). length xs) items ∙ length_push c.loop-node.self.list.items w.begun.result in
          record {
            list = begins c.args.findings.now (λ k. has_id before.sound k && not (has_id sound k)) before.list.items c.loop-node.self.list.items c.if-falls_ill.self.list.items j w.begun.result w.sign-sign.result
                was.list (sym told ∙ w.if-falls_ill.true) w.sign-sign.ensures w.begun.ensures items;
            sound = ap (λ (s : Illnesses g.row.N). s.sound) w.self-is ∙ was.sound;
            few = omega arith;
            room = omega arith;
          }
      | else-falls_ill w ↦
          let room : vec_capacity c.if-falls_ill.self.list ≡ vec_capacity c.loop-node.self.list = ap (λ (s : Illnesses g.row.N). vec_capacity s.list) w.self-is in
          let long : length c.if-falls_ill.self.list.items ≡ length c.loop-node.self.list.items = ap (λ (s : Illnesses g.row.N). length s.list.items) w.self-is in
          record {
            list = ap (λ (s : Illnesses g.row.N). s.list.items) w.self-is ∙ begins_not c.args.findings.now (λ k. has_id before.sound k && not (has_id sound k)) before.list.items c.loop-node.self.list.items j was.list (sym told ∙ w.if-falls_ill.false);
            sound = ap (λ (s : Illnesses g.row.N). s.sound) w.self-is ∙ was.sound;
            few = omega arith;
            room = omega arith;
          }
    ]
