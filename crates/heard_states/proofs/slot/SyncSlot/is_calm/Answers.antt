use Rattle.std.proofs.Common.{◌≡◌, ℕ, List, [], true, false, sym, ap, subst, ◌∙◌, arith}
use Rattle.std.proofs.lemmas.Slice.Eq.{bytes_eq-Decides}
use Rattle.node_grid.specs.NodeSet.{has_id, ids_below}
use Rattle.node_grid.specs.NodeSetLaws.{has-range}
use Rattle.heard_states.specs.Calm.{AreUntouched}
use Rattle.heard_states.proofs.slot.SyncSlot.is_calm.Goals.{then-is_empty, else-is_empty}
use Rattle.heard_states.proofs.slot.SyncSlot.is_calm.Goals as goal

pub returns-then-eq : goal.returns-then-eq
returns-then-eq g c = λ one. elim c.if-is_empty.branch [
  | then-is_empty w ↦
      let full : c.args.senders.now.full ≡ ids_below c.args.self.now.config.now.nodes = (bytes_eq-Decides c.args.senders.now.full w.full.result).0 (sym w.eq.ensures ∙ sym w.value-is ∙ c.if-eq.true) ∙ w.full.ensures in
      let none : c.args.senders.now.touched ≡ [] = c.is_empty.ensures.0 w.if-is_empty.true in
      record {
        untouched = subst (λ (s : List ℕ). AreUntouched c.args.self.now s) none c.requires.untouched;
        there = λ j low. c.requires.there j (ap (λ (s : List ℕ). has_id s j) full ∙ has-range 0 c.args.self.now.config.now.nodes j (omega arith) (omega arith));
        one = c.is_one.ensures one;
      }
  | else-is_empty w ↦ absurd (let z : false ≡ true = sym w.if-is_empty.false ∙ sym w.value-is ∙ c.if-eq.true in cc)
]
