use Rattle.std.proofs.Common.{◌≡◌, ◌<◌, ◌⊎◌, ◌||◌, ◌&&◌, not, ℕ, Bool, List, [], Some, true, false, length, map, get_or, set, inl, inr, lit<, refl, sym, ap, subst, ◌∙◌, arith, length-set, eqb-true, if◌then◌else◌, ◌==◌}
use Rattle.std.proofs.lemmas.Bool.{cond-true, cond-false, or_cases}
use Rattle.std.proofs.lemmas.List.{nil_from_length}
use Rattle.node_grid.specs.NodeSet.{ids_below, has_id, minus_of, union_of, IsIdSet}
use Rattle.node_grid.specs.NodeSetLaws.{IsIdSet-filter, has-filter, has_filtered}
use Rattle.node_grid.specs.SetFacts.{member-lt}
use Rattle.agreed_state.specs.Agreed.{AgreedView}
use Rattle.shared_states.specs.Sharing.{state_at}
use Rattle.shared_states.specs.Places.{ArePlaces, ArePlaced, states_by}
use Rattle.shared_states.proofs.Free.{fewer_others, filtered_ids}
use Rattle.shared_states.proofs.Views.{whole, long_view, replaced}
use Rattle.shared_states.proofs.states.SharedStates.replace.Goals as goal

-- the others have their places
placed_others : (n : ℕ) (awake nodes places : List ℕ) → ArePlaced n awake places → ArePlaced n (minus_of awake nodes) places
placed_others n awake nodes places placed i up = placed i (was (has_id awake i) refl)
  where
    was : (b : Bool) → has_id awake i ≡ b → has_id awake i ≡ true
    was true e = e
    was false e = let off : has_id (minus_of awake nodes) i ≡ false = has_filtered (λ k. not (has_id nodes k)) awake i ∙ ap (λ b. not (has_id nodes i) && b) e ∙ and-off (not (has_id nodes i)) in absurd (let z : false ≡ true = sym off ∙ up in cc)
      where
        and-off : (b : Bool) → (b && false) ≡ false
        and-off true = refl
        and-off false = refl

-- where each is after the nodes were put at a place
put_places : (n : ℕ) (awake nodes places places' : List ℕ) (states : List AgreedView) (place : ℕ) (one : Bool) → (n ≡ 8) ⊎ (n ≡ 16) → IsIdSet n awake → length states ≡ n → ArePlaced n awake places → place < n
    → ((i : ℕ) → i < n → get_or places' i 0 ≡ (if has_id nodes i then place else get_or places i 0)) → (one ≡ true → length (minus_of awake nodes) ≡ 0)
    → ArePlaces n (union_of n (minus_of awake nodes) nodes) places' states one
put_places n awake nodes places places' states place one capacity ids room placed low put none = record {
  capacity = capacity;
  ids = IsIdSet-filter both n;
  room = room;
  placed = λ i up. at i (member-lt n joined i (IsIdSet-filter both n) up) up (has_id nodes i) refl;
  at_one = λ yes' i j on other. here yes' j other ∙ sym (here yes' i on);
}
  where
    both : ℕ → Bool
    both k = has_id (minus_of awake nodes) k || has_id nodes k

    joined : List ℕ
    joined = union_of n (minus_of awake nodes) nodes

    in_union : (i : ℕ) → i < n → has_id joined i ≡ true → both i ≡ true
    in_union i within up = sym (has-filter both n i within) ∙ up

    at : (i : ℕ) → i < n → has_id joined i ≡ true → (b : Bool) → has_id nodes i ≡ b → get_or places' i 0 < n
    at i within up true on = let e = put i within ∙ cond-true (has_id nodes i) place (get_or places i 0) on in omega arith
    at i within up false off =
        let e = put i within ∙ cond-false (has_id nodes i) place (get_or places i 0) off in
        elim (or_cases (has_id (minus_of awake nodes) i) (has_id nodes i) (in_union i within up)) [
          | inl other ↦ let l = placed_others n awake nodes places placed i other in omega arith
          | inr on ↦ absurd (let z : false ≡ true = sym off ∙ on in cc)
        ]

    here : one ≡ true → (i : ℕ) → has_id joined i ≡ true → get_or places' i 0 ≡ place
    here yes' i up =
        let within : i < n = member-lt n joined i (IsIdSet-filter both n) up in
        let empty : minus_of awake nodes ≡ [] = nil_from_length (minus_of awake nodes) (none yes') in
        elim (or_cases (has_id (minus_of awake nodes) i) (has_id nodes i) (in_union i within up)) [
          | inl other ↦ absurd (let z : false ≡ true = ap (λ (xs : List ℕ). has_id xs i) (sym empty) ∙ other in cc)
          | inr on ↦ put i within ∙ cond-true (has_id nodes i) place (get_or places i 0) on
        ]

pub returns-then-len-eq0 : goal.returns-then-len-eq0
returns-then-len-eq0 g c =
    let s = c.self.inside in
    let empty : c.args.nodes.now ≡ [] = nil_from_length c.args.nodes.now (sym c.len.ensures.count ∙ c.if-len-eq0.true) in
    sym (
    ap (λ (xs : List ℕ). map (λ j. if has_id xs j then Some c.args.state.now else state_at c.args.self.now j) (ids_below g.row.N)) empty
    ∙ whole g.row.N c.args.self.now (long_view g.row.N s.awake s.places s.states.items c.args.self.now c.self.view_is)
    )

pub free_place-place-requires : goal.free_place-place-requires
free_place-place-requires g c =
    let n = g.row.N in
    let s = c.self.inside in
    let ok = c.self.invariant in
    let nodes = c.args.nodes.now in (
      elim ok.capacity [ inl e ↦ rw e (lit< tt) | inr e ↦ rw e (lit< tt) ],
      (
        lit< tt,
        (
          subst (λ (xs : List ℕ). IsIdSet n xs) (sym c.minus-others.ensures) (filtered_ids (λ k. not (has_id nodes k)) n s.awake ok.ids),
          (
            subst (λ (xs : List ℕ). ArePlaced n xs s.places) (sym c.minus-others.ensures) (placed_others n s.awake nodes s.places ok.placed),
            omega (arith, ap length c.minus-others.ensures, fewer_others n s.awake nodes ok.ids c.len.ensures.ids (λ e. c.if-len-eq0.false (c.len.ensures.count ∙ e))),
          ),
        ),
      ),
    )

pub invariant_of-self : goal.invariant_of-self
invariant_of-self g c =
    let n = g.row.N in
    let s = c.self.inside in
    let ok = c.self.invariant in
    let nodes = c.args.nodes.now in
    subst (λ (xs : List ℕ). ArePlaces n xs c.put_at.new.places (set s.states.items c.free_place-place.result c.args.state.now) (c.len-count.result == 0)) (sym (c.union-self-inside.ensures ∙ ap (λ (xs : List ℕ). union_of n xs nodes) c.minus-others.ensures))
    (put_places n s.awake nodes s.places c.put_at.new.places (set s.states.items c.free_place-place.result c.args.state.now) c.free_place-place.result (c.len-count.result == 0) ok.capacity ok.ids (length-set s.states.items c.free_place-place.result c.args.state.now ∙ ok.room) ok.placed
    c.free_place-place.ensures.place c.put_at.ensures.put (λ one. ap length (sym c.minus-others.ensures) ∙ sym c.len-count.ensures.count ∙ eqb-true _ _ one))

pub returns : goal.returns
returns g c =
    let n = g.row.N in
    let s = c.self.inside in
    let ok = c.self.invariant in
    let nodes = c.args.nodes.now in
    let place = c.free_place-place.result in
    ap (λ (xs : List ℕ). states_by n xs c.put_at.new.places (set s.states.items place c.args.state.now)) (c.union-self-inside.ensures ∙ ap (λ (xs : List ℕ). union_of n xs nodes) c.minus-others.ensures)
    ∙ replaced n s.awake s.places c.put_at.new.places nodes s.states.items c.args.self.now place c.args.state.now ok.ids c.self.view_is (omega (arith, ok.room, c.free_place-place.ensures.place)) c.put_at.ensures.put
    (λ i up. c.free_place-place.ensures.free i (ap (λ (xs : List ℕ). has_id xs i) c.minus-others.ensures ∙ up))
