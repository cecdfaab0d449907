use Rattle.std.proofs.Common.{◌<◌, ℕ, ℤ, List, Option, None, length, length-set, get_or-set_other, get_or-set_same, set, sym, ap, ◌∙◌, inl, inr, arith}
use Rattle.std.proofs.lemmas.List.{length-replicate}
use Rattle.std.proofs.lemmas.Bool.{cases_eq}
use Rattle.node_grid.specs.NodeSet.{has_id}
use Rattle.protocol.specs.View.{value_from}
use Rattle.data_slot.specs.Told.{at_channel, value_told}
use Rattle.told_values.specs.Slot.{DataView, slot_of, own_of}
use Rattle.told_values.proofs.listener.Listener.told_by_each.Goals as goal

pub loop-from-init : goal.loop-from-init
loop-from-init g c = record { wide = length-replicate {A = Option (List ℤ)} g.row.N None; so_far = λ x hears q k low on. absurd (omega arith) }

pub loop-from-preserved : goal.loop-from-preserved
loop-from-preserved g c =
    let d : DataView g.row.N = slot_of g.D.Dues.dues c.args.self.now.slot.now in
    let i : ℕ = c.args.self.now.node in
    let told : List (Option (List ℤ)) = c.loop-from.told in
    let from : ℕ = c.loop-from.from in
    let values : Option (List ℤ) = c.values_from.result in
    let room : from < length told = (let w = c.loop-from.invariant.wide in let t = c.loop-from-test.true in let f = c.nodes-nodes.ensures.slot.config.few_nodes in let n = c.nodes-nodes.ensures.nodes in omega arith) in
    record {
      wide = length-set told from values ∙ c.loop-from.invariant.wide;
      so_far = λ x hears q k low on. elim (cases_eq q from) [
        | inl e ↦
            ap (λ (n : ℕ). value_told (set told from values) n k) e ∙ ap (λ (o : Option (List ℤ)). at_channel o k) (get_or-set_same told from values None room) ∙ c.values_from.ensures x hears k on
            ∙ ap (λ (n : ℕ). value_from i (has_id d.full i) (d.due i) (own_of d i) x k n) (sym e)
        | inr ne ↦ ap (λ (o : Option (List ℤ)). at_channel o k) (get_or-set_other told from q values None ne) ∙ c.loop-from.invariant.so_far x hears q k (omega arith) on
      ];
    }

pub returns : goal.returns
returns g c = λ x hears q k low on. let n = c.nodes-nodes.ensures.nodes in let t = c.loop-from-test.false in c.loop-from.invariant.so_far x hears q k (omega arith) on
