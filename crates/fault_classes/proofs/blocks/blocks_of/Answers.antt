use Rattle.std.proofs.Common.{Vec, Global, ◌≡◌, length, ℕ, ◌+◌, ◌*◌, ◌<◌, ◌/◌, ◌%◌, List, [], slice_index_or, sym, ap, ◌∙◌, arith, set, length-set}
use Rattle.std.proofs.lemmas.List.{get_or_read}
use Rattle.std.proofs.lemmas.Nat.{div-mul-add, mod-mul-add, mul-add-lt}
use Rattle.std.proofs.Math.Nat.{mul_comm}
use Rattle.node_grid.specs.NodeSet.{has_id}
use Rattle.fault_classes.specs.Blocks.{is_in}
use Rattle.fault_classes.proofs.Placing.{numbered_no, numbered_yes}
use Rattle.fault_classes.proofs.blocks.blocks_of.Goals as goal
use Rattle.fault_classes.proofs.blocks.blocks_of.Goals.{then-has, else-has}

-- whether the sender that the loop is at is wanted
wanted : (nodes : ℕ) (sets : List (List ℕ)) (p i : ℕ) (set : List ℕ) → i < nodes → p < length sets → set ≡ slice_index_or sets p set → is_in nodes sets (p * nodes + i) ≡ has_id set i
wanted nodes sets p i set hi hp e =
    let period : (p * nodes + i) / nodes ≡ p = div-mul-add p nodes i hi in
    let sender : (p * nodes + i) % nodes ≡ i = mod-mul-add p nodes i hi in
    rw (period, sender) (ap (λ s. has_id s i) (sym (get_or_read sets p set hp e [])))

-- the place of a sender
at_sender : (nodes periods p i : ℕ) → p < periods → i < nodes → p * nodes + i < periods * nodes
at_sender nodes periods p i hp hi = let low : p * nodes + i < nodes * periods = mul-add-lt p nodes i periods hp hi in omega (arith, low, mul_comm nodes periods)

pub loop-node-preserved : goal.loop-node-preserved
loop-node-preserved g c =
    let n = c.args.shape.now.nodes in
    let sets = c.args.senders.now in
    let p = c.loop-period.period in
    let i = c.loop-node.node in
    let h = c.loop-node.invariant in
    let senders = c.index-senders-period.result in
    let one : p * n + (i + 1) ≡ p * n + i + 1 = omega arith in
    let within : p < length sets = omega (arith, c.loop-period-test.true, c.requires.long) in
    let is : is_in n sets (p * n + i) ≡ has_id senders i = wanted n sets p i senders c.loop-node-test.true within c.index-senders-period.is in
    rw one (elim c.if-has.branch [
      | then-has w ↦
          let low : p * n + i < length c.loop-node.numbers.items = omega (arith, at_sender n c.args.shape.now.periods p i c.loop-period-test.true c.loop-node-test.true, h.long) in
          let items : c.if-has.numbers.items ≡ set c.loop-node.numbers.items (p * n + i) (c.loop-node.last + 1) = ap (λ (v : Vec ℕ Global). v.items) w.numbers-is in
          rw (items, w.last-is) (record {
            long = length-set c.loop-node.numbers.items (p * n + i) (c.loop-node.last + 1) ∙ h.long;
            numbered = numbered_yes (is_in n sets) (p * n + i) c.loop-node.numbers.items c.loop-node.last h.numbered low;
          })
      | else-has w ↦
          rw (w.numbers-is, w.last-is) (record {
            long = h.long;
            numbered = numbered_no (is_in n sets) (p * n + i) c.loop-node.numbers.items c.loop-node.last h.numbered (is ∙ sym (w.if-has.ensures));
          })
    ])
