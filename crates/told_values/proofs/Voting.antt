-- Votes and deviations by the values that were told are those of the protocol.
use Rattle.std.proofs.Common.{◌&&◌, ℕ, ◌≡◌, ◌≢◌, ◌<◌, ◌==◌, if◌then◌else◌, List, ap, ◌∙◌, ne_eqb, Option, None, Some, ℤ}
use Rattle.std.proofs.lemmas.Bool.{cond-false}
use Rattle.node_grid.specs.NodeSet.{has_id, ids_where, IsIdSet}
use Rattle.node_grid.specs.NodeSetLaws.{has-filter}
use Rattle.node_grid.specs.SetFacts.{filter_map_members, member-lt}
use Rattle.omh_paths.specs.declared.wrapped.Wrapped.{Wrapped}
use Rattle.mme_vote.specs.Channel.{delta_of, is_judged}
use Rattle.mme_vote.specs.Vote.{vote_of}
use Rattle.agreed_state.specs.Agreed.{AgreedView}
use Rattle.protocol.specs.Configured.{setting_of}
use Rattle.protocol.specs.View.{Received, Setting, channel, deviates, is_far, own_in, lies_tolerated, value_at, value_from, value_in, vote_on, voters, votes_on}
use Rattle.protocol.specs.Facts.{voter_member}
use Rattle.data_slot.specs.Told.{value_told}
use Rattle.data_slot.specs.Values.{by_channel}
use Rattle.data_slot.specs.VoteLaws.{by_alike, list_any_alike}
use Rattle.data_slot.specs.Votes.{is_off, vote_due}
use Rattle.told_values.specs.Slot.{DataView, own_of, IsTold}

module _ {N : ℕ} (d : DataView N) (j : ℕ) (y : Received) (told : List (Option (List ℤ))) (is : IsTold d j y told) where
  pub votes_are : (a : AgreedView) (done : List (Wrapped ℕ)) → IsIdSet d.config.nodes a.standing.members
      → by_channel (d.due j) (vote_due d.config a done told) ≡ votes_on (setting_of d.config) j (has_id d.full j) a done (d.due j) (own_of d j) y
  unfolding votes_on by_channel
  votes_are a done ids =
      let s : Setting = setting_of d.config in
      by_alike (d.due j) (vote_due d.config a done told) (λ c. vote_on s j (has_id d.full j) a done (d.due j) (own_of d j) y c)
      (λ c low on. ap (λ (vs : List ℤ). vote_of vs (lies_tolerated s (channel s c)))
      (filter_map_members (λ q. value_told told q c) (λ q. value_from j (has_id d.full j) (d.due j) (own_of d j) y c q) (voters s a done (channel s c))
      (λ q voter. is q c (member-lt d.config.nodes a.standing.members q ids (voter_member s a done (channel s c) q voter)) on)))

  off_is : (votes : List (Option ℤ)) (q : ℕ) → q < d.config.nodes → q ≢ j → is_off d.config (d.due j) told votes q ≡ deviates (setting_of d.config) (d.due j) votes y q
  off_is votes q low ne =
      let s : Setting = setting_of d.config in
      list_any_alike (λ c. is_judged (channel s c) && is_far (delta_of (channel s c)) (value_told told q c) (value_at votes c)) (λ c. is_judged (channel s c) && is_far (delta_of (channel s c)) (value_in (d.due j) (y.values q) c) (value_at votes c)) (d.due j)
      (λ c on. ap (λ (o : Option ℤ). is_judged (channel s c) && is_far (delta_of (channel s c)) o (value_at votes c))
      (is q c low on ∙ cond-false (q == j) (if has_id d.full j then Some (own_in (own_of d j) c) else None) (value_in (d.due j) (y.values q) c) (ne_eqb q j ne)))

  pub offs_are : (votes : List (Option ℤ)) (off : List ℕ) → off ≡ ids_where (is_off d.config (d.due j) told votes) d.config.nodes
      → (q : ℕ) → q < d.config.nodes → q ≢ j → has_id off q ≡ deviates (setting_of d.config) (d.due j) votes y q
  offs_are votes off are q low ne = ap (λ (s : List ℕ). has_id s q) are ∙ has-filter (is_off d.config (d.due j) told votes) d.config.nodes q low ∙ off_is votes q low ne
