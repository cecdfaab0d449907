-- What all nodes settle, from what was laid down member by member.
use Rattle.std.proofs.Common.{ℕ, ◌≡◌, ◌≢◌, ◌<◌, ◌≤◌, ◌+◌, Bool, true, false, None, List, [], sym, ap, subst, ◌∙◌}
use Rattle.std.proofs.lemmas.Bool.{both_ways}
use Rattle.node_grid.specs.NodeSet.{has_id, minus_of}
use Rattle.node_grid.specs.SetFacts.{member-lt, all_within}
use Rattle.protocol.specs.Arrival.{ItemForm}
use Rattle.protocol.specs.Run.{System}
use Rattle.heard_links.specs.declared.links.Links.{Links}
use Rattle.heard_links.specs.declared.phase.Phase.{Phase}
use Rattle.heard_links.specs.Talks.{members_at}
use Rattle.heard_links.specs.Hearing.{IsHeard, frame_kind}
use Rattle.heard_links.proofs.Sets.{in_use}
use Rattle.item_phase.specs.declared.item_phase.ItemPhase.{ItemPhase}
use Rattle.item_phase.specs.declared.item_phase.Seen.{Seen}
use Rattle.item_phase.specs.Noted.{rounds_of}
use Rattle.item_phase.specs.Settled.{IsOfAll, IsPlain, IsLaid, IsSeen, IsSettled}

pub still_heard : {V : Type 0} {N : ℕ} (form : ItemForm V) (first : ℕ → ℕ) (tells : System → ℕ → ℕ → V) (x : Phase N) (upto : ℕ) (a b : Links V N) → a ≡ b → IsHeard form first tells x b upto → IsHeard form first tells x a upto
still_heard {V} {N} form first tells x upto a b same heard = subst (λ (l : Links V N). IsHeard form first tells x l upto) (sym same) heard

-- where all have these members
pub seen_of_all : {V : Type 0} {N : ℕ} (form : ItemForm V) (x : Phase N) (links : Links V N) (members : List ℕ) → IsOfAll x members → (seen : Seen N) → (seen.is_all ≡ true → minus_of members seen.plain ≡ [])
    → ((j : ℕ) → has_id seen.ill j ≡ true → j < x.config.now.nodes)
    → ((r j i : ℕ) → r ≤ x.config.now.m → j < x.config.now.nodes → has_id seen.ill j ≡ false → has_id x.awake i ≡ true → i ≢ j → frame_kind (rounds_of form x links i) r j ≡ None)
    → IsSeen form x links seen
seen_of_all form x links members all seen none used well = record {
  same = λ is i j on_i on_j. all.same i on_i ∙ sym (all.same j on_j);
  plain = λ is i c on member. all_within members seen.plain c (none is) (ap (λ (ids : List ℕ). has_id ids c) (sym (all.same i on)) ∙ member);
  used = used;
  well = well;
}

module _ {V : Type 0} {N : ℕ} (eq : V → V → Bool) (form : ItemForm V) (first : ℕ → ℕ) (tells : System → ℕ → ℕ → V) (x : Phase N) (links : Links V N) (heard : IsHeard form first tells x links (x.config.now.m + 1))
    (s : ItemPhase V N) (same : s.links ≡ links) where
  still_seen : (seen : Seen N) → s.seen ≡ seen → IsSeen form x links seen → IsSeen form x s.links s.seen
  still_seen seen seen_is is = subst (λ (l : Links V N). IsSeen form x l s.seen) (sym same) (subst (λ (those : Seen N). IsSeen form x links those) (sym seen_is) is)

  plain_of : (seen : Seen N) → s.seen ≡ seen → (c : ℕ) → has_id seen.plain c ≡ has_id s.seen.plain c
  plain_of seen seen_is c = ap (λ (those : Seen N). has_id those.plain c) (sym seen_is)

  -- where all have these members
  pub settled_as_one : (members : List ℕ) (seen : Seen N) → IsOfAll x members → s.seen ≡ seen → IsSeen form x links seen
      → ((i c : ℕ) → has_id x.awake i ≡ true → c ≢ i → has_id seen.plain c ≡ true → IsPlain eq form x links i c)
      → ((i c : ℕ) → c < x.config.now.nodes → has_id x.awake i ≡ true → has_id members c ≡ true → has_id seen.plain c ≡ false → c ≢ i → IsLaid eq form x s.links s.each.items s.convicting i c)
      → IsSettled eq form first tells x s
  settled_as_one members seen all seen_is is are_plain laid = record {
    heard = still_heard form first tells x (x.config.now.m + 1) s.links links same heard;
    plain = λ i c on member ne at. subst (λ (l : Links V N). IsPlain eq form x l i c) (sym same) (are_plain i c on ne (plain_of seen seen_is c ∙ at));
    laid = λ i c on member ne off.
        let at : has_id members c ≡ true = ap (λ (ids : List ℕ). has_id ids c) (sym (all.same i on)) ∙ member in
        laid i c (member-lt x.config.now.nodes members c all.ids at) on at (plain_of seen seen_is c ∙ off) ne;
    seen = still_seen seen seen_is is;
  }

  -- where each has its own
  pub settled_each : (seen : Seen N) → s.seen ≡ seen → IsSeen form x links seen → seen.plain ≡ [] → ((i c : ℕ) → c < x.config.now.nodes → has_id x.awake i ≡ true → has_id (members_at x i) c ≡ true → c ≢ i → IsLaid eq form x s.links s.each.items s.convicting i c)
      → IsSettled eq form first tells x s
  settled_each seen seen_is is none laid = record {
    heard = still_heard form first tells x (x.config.now.m + 1) s.links links same heard;
    plain = λ i c on member ne at. absurd (both_ways _ (ap (λ (ids : List ℕ). has_id ids c) none) (plain_of seen seen_is c ∙ at));
    laid = λ i c on member ne off. laid i c (in_use x heard.set i c member) on member ne;
    seen = still_seen seen seen_is is;
  }
