-- Votes of a group: where there is one, and how close two are.
use Rattle.std.proofs.Common.{ℕ, ◌≡◌, true, false, List, [], ◌∷◌, Option, None, Some, ℤ, ◌≤ℤ◌, refl, sym, ap, subst, ◌∙◌}
use Rattle.std.specs.Prelude.{IsNone, is_some}
use Rattle.std.specs.List.{filter_map, cons_option}
use Rattle.node_grid.specs.declared.class.Class.{Class}
use Rattle.node_grid.specs.declared.class.Class.TheVariants.{N, J, B, S, A}
use Rattle.node_grid.specs.Class.{is_nonfaulty}
use Rattle.node_grid.specs.NodeSet.{has_id}
use Rattle.mme_vote.specs.Vote.{vote_of}
use Rattle.mme_vote.specs.VoteLaws.{vote_of_some}
use Rattle.mme_vote.specs.Members.{Received, if_test, MembersLaw}
use Rattle.copy_vote.specs.Group.{value_of, group_vote_of, HasNoValue, GroupLaw}
use Rattle.mme_vote.specs.MemberValues.{has_first, has_later, some_nonfaulty, some_value, All-values, good_value}

-- ---- where there is no vote

no_values : (f : ℕ → Option ℤ) (ks : List ℕ) → ((k : ℕ) → has_id ks k ≡ true → f k ≡ None) → filter_map f ks ≡ []
no_values f [] h = refl
no_values f (k ∷ ks) h = ap (λ (o : Option ℤ). cons_option o (filter_map f ks)) (h k (has_first k ks)) ∙ no_values f ks (λ j on. h j (has_later j k ks on))

none_there : (group : List ℕ) (values : List (Option ℤ)) (lies k : ℕ) (o : Option ℤ) → value_of values k ≡ o → IsNone (group_vote_of group values lies) → has_id group k ≡ true → value_of values k ≡ None
none_there group values lies k None e none on = e
none_there group values lies k (Some v) e none on =
    let some = vote_of_some (filter_map (value_of values) group) lies (some_value (value_of values) group k v on e) in
    let clash : true ≡ false = sym (ap is_some some) ∙ none in
    absurd (cc)

pub no_vote : (group : List ℕ) (values : List (Option ℤ)) (lies : ℕ) → IsNone (group_vote_of group values lies) → HasNoValue group values
no_vote group values lies none k on = none_there group values lies k (value_of values k) refl none on

pub vote_on_nothing : (group : List ℕ) (values : List (Option ℤ)) (lies : ℕ) → HasNoValue group values → IsNone (group_vote_of group values lies)
vote_on_nothing group values lies h = ap (λ (xs : List ℤ). is_some (vote_of xs lies)) (no_values (value_of values) group h)

-- ---- the law

also : (c : Class) (v w : Option ℤ) → c ≡ N → Received c v w → v ≡ w
also N v w e r = r.1
also J v w e r = cc
also B v w e r = cc
also S v w e r = cc
also A v w e r = cc

pub group_law : MembersLaw → GroupLaw
group_law law lies class_of own u w group received told within =
    let s = some_nonfaulty class_of group lies within in
    let first : u s.0 ≡ Some (own s.0) = told s.0 s.1 s.2 in
    let second : w s.0 ≡ Some (own s.0) = sym (also (class_of s.0) (u s.0) (w s.0) s.2 (received s.0 s.1)) ∙ first in
    let v = vote_of_some (filter_map u group) lies (some_value u group s.0 (own s.0) s.1 first) in
    let v' = vote_of_some (filter_map w group) lies (some_value w group s.0 (own s.0) s.1 second) in
    record {
      first = _;
      second = _;
      votes = v;
      votes_too = v';
      close = λ low high bounds. law lies class_of u w group received within low high _ _
          (All-values (λ x. (low ≤ℤ x) × (x ≤ℤ high)) (λ k. if_test (is_nonfaulty (class_of k)) (u k)) group (λ k x on e.
          let g = good_value (class_of k) (u k) x (own k) (told k on) e in
          subst (λ (y : ℤ). (low ≤ℤ y) × (y ≤ℤ high)) g.1 (bounds k on g.0)))
          v v';
    }
