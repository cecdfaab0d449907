use Rattle.std.proofs.Common.{◌≡◌, ◌<◌, ℕ, List, replicate, length, ◌⊎◌, inl, inr, sym, ap, ap₂, subst, ◌∙◌, arith}
use Rattle.std.proofs.lemmas.List.{length-replicate}
use Rattle.node_grid.specs.NodeSet.{IsIdSet}
use Rattle.node_grid.specs.NumberFacts.{get_or-zeros}
use Rattle.agreed_state.specs.Agreed.{AgreedView, first_agreed}
use Rattle.shared_states.specs.Places.{states_by}
use Rattle.shared_states.proofs.Free.{ids_ids}
use Rattle.shared_states.proofs.Views.{begun}
use Rattle.shared_states.proofs.states.SharedStates.open.Goals as goal

some_nodes : (n : ℕ) → (n ≡ 8) ⊎ (n ≡ 16) → 0 < n
some_nodes n (inl e) = omega arith
some_nodes n (inr e) = omega arith

pub invariant_of-result : goal.invariant_of-result
invariant_of-result g c =
    let n = g.row.N in
    record {
      capacity = g.bound-1.eight_or_sixteen;
      ids = subst (λ (s : List ℕ). IsIdSet n s) (sym c.full.ensures) (ids_ids c.args.config.now.nodes n c.requires.config.few_nodes);
      room = ap length c.in-Ok.ensures ∙ length-replicate n _;
      placed = λ i up. omega (arith, get_or-zeros n i, some_nodes n g.bound-1.eight_or_sixteen);
      at_one = λ yes' i j on other. get_or-zeros n j ∙ sym (get_or-zeros n i);
    }

pub returns : goal.returns
returns g c =
    let n = g.row.N in
    let nodes = c.args.config.now.nodes in
    ap₂ (λ (up : List ℕ) (xs : List AgreedView). states_by n up (replicate n 0) xs) c.full.ensures (c.in-Ok.ensures ∙ ap (λ (a : AgreedView). replicate n a) c.first.ensures.first)
    ∙ begun n nodes (first_agreed n c.args.config.now) (some_nodes n g.bound-1.eight_or_sixteen) c.requires.config.few_nodes
