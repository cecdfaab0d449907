use Rattle.std.proofs.Common.{◌<◌, ℕ, ℤ, List, Option, None, length, length-set, get_or-set_other, get_or-set_same, set, sym, ap, ◌∙◌, inl, inr, arith}
use Rattle.std.proofs.lemmas.List.{length-replicate}
use Rattle.std.proofs.lemmas.Bool.{cases_eq}
use Rattle.node_grid.specs.NodeSet.{has_id}
use Rattle.data_slot.specs.Told.{at_channel, value_told}
use Rattle.told_values.specs.Slot.{DataView, slot_of, own_told}
use Rattle.told_values.proofs.slot.DataSlot.own_told.Goals as goal

pub loop-node-init : goal.loop-node-init
loop-node-init g c = record { wide = length-replicate {A = Option (List ℤ)} g.row.N None; so_far = λ j k low room. absurd (omega arith) }

pub loop-node-preserved : goal.loop-node-preserved
loop-node-preserved g c =
    let d : DataView g.row.N = slot_of g.D.Dues.dues c.args.self.now in
    let told : List (Option (List ℤ)) = c.loop-node.told in
    let node : ℕ = c.loop-node.node in
    let values : Option (List ℤ) = c.own_values.result in
    let room : node < length told = (let w = c.loop-node.invariant.wide in let t = c.loop-node-test.true in let f = c.nodes-nodes.ensures.slot.config.few_nodes in let n = c.nodes-nodes.ensures.nodes in omega arith) in
    record {
      wide = length-set told node values ∙ c.loop-node.invariant.wide;
      so_far = λ j k low on. elim (cases_eq j node) [
        | inl e ↦
            ap (λ (n : ℕ). value_told (set told node values) n k) e ∙ ap (λ (o : Option (List ℤ)). at_channel o k) (get_or-set_same told node values None room) ∙ c.own_values.ensures k (λ full. ap (λ (n : ℕ). has_id (d.due n) k) (sym e) ∙ on (ap (has_id d.full) e ∙ full))
            ∙ ap (λ (n : ℕ). own_told d n k) (sym e)
        | inr ne ↦ ap (λ (o : Option (List ℤ)). at_channel o k) (get_or-set_other told node j values None ne) ∙ c.loop-node.invariant.so_far j k (omega arith) on
      ];
    }

pub returns : goal.returns
returns g c = λ j k low on. let n = c.nodes-nodes.ensures.nodes in let t = c.loop-node-test.false in c.loop-node.invariant.so_far j k (omega arith) on
