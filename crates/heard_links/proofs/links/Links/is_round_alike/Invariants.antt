use Rattle.std.proofs.Common.{ℕ, ◌≡◌, ◌≢◌, ◌⊎◌, true}
use Rattle.node_grid.specs.NodeSet.{has_id}
use Rattle.heard_links.specs.Talks.{members_at}
use Rattle.heard_links.specs.Hearing.{IsAlikeFrom, is_even, talk_in}
use Rattle.heard_links.proofs.links.Links.is_round_alike.Given as goal

abbrev pub invariant-loop-q : goal.invariant-loop-q
invariant-loop-q g l = record {
  can : (goal.iterator-loop-q g).can_next l.q-iterator;
  ends : (goal.iterator-loop-q g).is_finite l.q-iterator;
  alike : (q : ℕ) → has_id (members_at l.phase l.i) q ≡ true
      → (has_id l.q-iterator q ≡ true) ⊎ (IsAlikeFrom (talk_in g.V.Item.form l.phase l.self) l.round q l.i l.j
      ⊎ ((k : ℕ) → has_id l.phase.awake k ≡ true → k ≢ q → is_even (talk_in g.V.Item.form l.phase l.self) l.round q k ≡ true));
}
