use Rattle.std.proofs.Common.{◌≡◌, ◌≢◌, ◌<◌, ◌||◌, ℕ, List, Option, true, length, get_or, set, inl, inr, sym, ap, subst, ◌∙◌, arith, ne_eqb, get_or-set_same, get_or-set_other}
use Rattle.std.specs.Prelude.{is_some}
use Rattle.std.proofs.lemmas.Bool.{cases_eq}
use Rattle.node_grid.specs.NodeSet.{has_id, with_id, IsIdSet}
use Rattle.node_grid.specs.NodeSetLaws.{IsIdSet-filter, has-with_id}
use Rattle.node_grid.specs.SetFacts.{member-lt}
use Rattle.agreed_state.specs.Agreed.{AgreedView}
use Rattle.shared_states.specs.Sharing.{state_at}
use Rattle.shared_states.specs.Places.{ArePlaces, states_by}
use Rattle.shared_states.proofs.Views.{has_state, shared_after}
use Rattle.shared_states.proofs.states.SharedStates.share.Goals as goal

-- who is awake after node i was woken
woken : (n : ℕ) (s : List ℕ) (i k : ℕ) → IsIdSet n (with_id n s i) → has_id (with_id n s i) k ≡ true → k ≢ i → has_id s k ≡ true
woken n s i k ids up other = sym (has-with_id n s i k (member-lt n (with_id n s i) k ids up) ∙ ap (λ b. b || has_id s k) (ne_eqb k i other)) ∙ up

-- the place of a node after node i took that of node j
taken : (places : List ℕ) (i j k n : ℕ) → length places ≡ n → i < n → (k ≡ i → get_or (set places i (get_or places j 0)) k 0 ≡ get_or places j 0) × (k ≢ i → get_or (set places i (get_or places j 0)) k 0 ≡ get_or places k 0)
taken places i j k n long low = (
  λ e. ap (λ q. get_or (set places i (get_or places j 0)) q 0) e ∙ get_or-set_same places i (get_or places j 0) 0 (omega arith),
  λ ne. get_or-set_other places i k (get_or places j 0) 0 ne,
)

pub invariant_of-self : goal.invariant_of-self
invariant_of-self g c =
    let n = g.row.N in
    let s = c.self.inside in
    let ok = c.self.invariant in
    let i = c.args.i in
    let j = c.args.j in
    let up : List ℕ = with_id n s.awake i in
    let ids : IsIdSet n up = IsIdSet-filter _ n in
    let there : has_id s.awake j ≡ true = sym (has_state n s.awake s.places s.states.items ok.ids ok.room ok.placed j) ∙ ap (λ (v : List (Option AgreedView)). is_some (state_at v j)) c.self.view_is ∙ c.requires.other in
    let place : (k : ℕ) → has_id up k ≡ true → (m : ℕ) × (has_id s.awake m ≡ true) × (get_or (set s.places i (get_or s.places j 0)) k 0 ≡ get_or s.places m 0) = λ k on. elim (cases_eq k i) [
      | inl e ↦ (j, there, (taken s.places i j k n c.self.told c.requires.node).0 e)
      | inr ne ↦ (k, woken n s.awake i k ids on ne, (taken s.places i j k n c.self.told c.requires.node).1 ne)
    ] in
    subst (λ (xs : List ℕ). ArePlaces n xs (set s.places i (get_or s.places j 0)) s.states.items s.one) (sym c.put.ensures) (record {
      capacity = ok.capacity;
      ids = ids;
      room = ok.room;
      placed = λ k on. let m = place k on in omega (arith, m.2, ok.placed m.0 m.1);
      at_one = λ same k l on other. let m = place k on in let m' = place l other in m'.2 ∙ ok.at_one same m.0 m'.0 m.1 m'.1 ∙ sym m.2;
    })

pub returns : goal.returns
returns g c =
    let n = g.row.N in
    let s = c.self.inside in
    let ok = c.self.invariant in
    let there : has_id s.awake c.args.j ≡ true = sym (has_state n s.awake s.places s.states.items ok.ids ok.room ok.placed c.args.j) ∙ ap (λ (v : List (Option AgreedView)). is_some (state_at v c.args.j)) c.self.view_is ∙ c.requires.other in
    ap (λ (xs : List ℕ). states_by n xs (set s.places c.args.i (get_or s.places c.args.j 0)) s.states.items) c.put.ensures
    ∙ shared_after n s.awake s.places s.states.items c.args.self.now c.args.i c.args.j ok.ids c.self.told c.requires.node there c.self.view_is
