-- Nodes of a phase.
use Rattle.std.proofs.Common.{ℕ, ◌≡◌, ◌≢◌, ◌<◌, ◌≤◌, true, false, List, [], ◌∷◌, ◌++◌, length, Option, Some, None, refl, sym, ap, ◌∙◌, arith, eq-eqb, ◌==◌, slice_get}
use Rattle.std.proofs.lemmas.Bool.{or_left, or_right, both_ways}
use Rattle.std.proofs.lemmas.List.{length_push}
use Rattle.node_grid.specs.NodeSet.{has_id, without_id}
use Rattle.node_grid.specs.CapacityLaws.{capacity-le}
use Rattle.node_grid.specs.ListLaws.{has_push}
use Rattle.node_grid.specs.SetFacts.{member-lt, has-without}
use Rattle.omh.specs.Facts.{last_push}
use Rattle.agreed_state.specs.ConfigLaws.{few_rounds}
use Rattle.fault_classes.specs.Change.{Change}
use Rattle.frames.specs.Content.{Content, Expectation}
use Rattle.protocol.specs.Arrival.{arrival}
use Rattle.protocol.specs.Talk.{Talk, frame_by, arrives}
use Rattle.heard_links.specs.declared.phase.Phase.{Phase}
use Rattle.heard_links.specs.Talks.{members_at, IsSet}
use Rattle.heard_links.specs.Hearing.{ActsAs, IsAsked}

pub none_first : (xs : List ℕ) (i : ℕ) → None ≡ slice_get xs 0 → has_id xs i ≡ true → ⊥
none_first [] i h on = cc
none_first (x ∷ xs) i h on = cc

pub few_nodes : {N : ℕ} (x : Phase N) → IsSet x → x.config.now.nodes ≤ 16
few_nodes {N} x s = let c = capacity-le N s.capacity in let f = s.config.few_nodes in omega arith

pub few_m : {N : ℕ} (x : Phase N) → IsSet x → x.config.now.m ≤ 3
few_m {N} x s = few_rounds N x.config.now s.config

pub node_low : {N : ℕ} (x : Phase N) → IsSet x → (q : ℕ) → q < x.config.now.nodes → q < N
node_low x s q low = let f = s.config.few_nodes in omega arith

pub in_use : {N : ℕ} (x : Phase N) → IsSet x → (i q : ℕ) → has_id (members_at x i) q ≡ true → q < x.config.now.nodes
in_use x s i q on = member-lt x.config.now.nodes (members_at x i) q (s.members i) on

pub member_low : {N : ℕ} (x : Phase N) → IsSet x → (i q : ℕ) → has_id (members_at x i) q ≡ true → q < N
member_low x s i q on = node_low x s q (in_use x s i q on)

-- an effect brings what a change brings
pub acts_arrive : {C : Type 0} (part : Content → Option C) (c : Change) (change : Option Change) → ActsAs c change → (e : Expectation) (x : Content) → arrives part (Some c) e e x ≡ arrives part change e e x
acts_arrive part c change acts e x = ap (arrival part e) (acts (frame_by e x))

module _ {V : Type 0} (t : Talk V) (m : ℕ) (awake : List ℕ) (i q : ℕ) (front : List ℕ) (asked : IsAsked t m awake i (front ++ q ∷ [])) (off : has_id front q ≡ false) where
  pub last_on : has_id (t.members i) q ≡ true
  last_on = asked.within q (has_push front q q ∙ or_right (has_id front q) _ (eq-eqb q q refl))

  pub front_on : (x : ℕ) → has_id front x ≡ true → has_id (without_id (t.members i) q) x ≡ true
  front_on x on = has-without (t.members i) q x (λ e. both_ways _ off (ap (has_id front) (sym e) ∙ on)) (asked.within x (has_push front q x ∙ or_left (has_id front x) (q == x) on))

  pub front_short : length front ≤ m
  front_short = let s = asked.short in omega (arith, length_push front q)

  pub last_other : i ≢ q
  last_other e = asked.other (e ∙ sym (last_push front q))
