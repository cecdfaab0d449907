-- Votes and deviations by the values that were told are those of the protocol.
use Rattle.std.proofs.Common.{not, ◌&&◌, ℕ, ◌≡◌, ◌≢◌, ◌<◌, ◌==◌, Bool, true, if◌then◌else◌, List, sym, ap, ◌∙◌, inl, inr, arith, eq-eqb, ne_eqb, Option, None, Some, ℤ}
use Rattle.std.specs.Prelude.{slice_index_or}
use Rattle.std.proofs.lemmas.Bool.{both_ways, cases_eq, cases_lt, cond-false}
use Rattle.node_grid.specs.NodeSet.{has_id, ids_where, IsIdSet}
use Rattle.node_grid.specs.NodeSetLaws.{filter_range, hasnt-filter}
use Rattle.node_grid.specs.SetFacts.{filter_map_members, member-lt}
use Rattle.omh_paths.specs.declared.wrapped.Wrapped.{Wrapped}
use Rattle.mme_vote.specs.Channel.{delta_of, is_judged}
use Rattle.mme_vote.specs.Vote.{vote_of}
use Rattle.copy_vote.specs.Group.{group_vote_of, value_of}
use Rattle.agreed_state.specs.declared.config.Config.{Config}
use Rattle.agreed_state.specs.Agreed.{AgreedView}
use Rattle.error_detect.specs.Watching.{Watch}
use Rattle.protocol.specs.Arrival.{values_in}
use Rattle.protocol.specs.Configured.{setting_of}
use Rattle.protocol.specs.View.{Setting, channel, deviates, is_far, own_in, lies_tolerated, value_at, value_from, value_in, vote_on, voters, votes_on}
use Rattle.protocol.specs.Facts.{voter_member}
use Rattle.noting.specs.Findings.{has_of}
use Rattle.data_slot.specs.Values.{only_values}
use Rattle.data_slot.specs.Told.{value_told}
use Rattle.data_slot.specs.Votes.{is_off, vote_among, vote_due}
use Rattle.data_slot.specs.Values.{by_channel}
use Rattle.data_slot.specs.VoteLaws.{by_alike, list_any_alike}

-- what a node has of the values of the due channels
pub record TellsValues (nodes me : ℕ) (full : Bool) (due : List ℕ) (own : List (Option ℤ)) (w : Watch) (told : List (Option (List ℤ))) : Type 0 where
  pub each : (q c : ℕ) → q < nodes → has_id due c ≡ true → value_told told q c ≡ value_from me full due own (only_values w) c q

-- the vote of a group over a list of the values of a channel that nodes told
pub grouped : (values : List (Option ℤ)) (told : List (Option (List ℤ))) (f : ℕ → Bool) (n lies c : ℕ) → ((q : ℕ) → q < n → slice_index_or values q None ≡ value_told told q c)
    → group_vote_of (ids_where f n) values lies ≡ vote_among told (ids_where f n) lies c
grouped values told f n lies c is =
    ap (λ (vs : List ℤ). vote_of vs lies) (filter_map_members (value_of values) (λ q. value_told told q c) (ids_where f n) (λ q on. is q (below q on)))
  where
    below : (q : ℕ) → has_id (ids_where f n) q ≡ true → q < n
    below q on = elim (cases_lt q n) [
      | inl low ↦ low
      | inr high ↦ absurd (both_ways _ (hasnt-filter f n q high) on)
    ]

-- the votes
pub votes_are : {N : ℕ} (config : Config N) (me : ℕ) (full : Bool) (a : AgreedView) (done : List (Wrapped ℕ)) (due : List ℕ) (own : List (Option ℤ)) (w : Watch) (told : List (Option (List ℤ))) → TellsValues config.nodes me full due own w told → IsIdSet config.nodes a.standing.members
    → by_channel due (vote_due config a done told) ≡ votes_on (setting_of config) me full a done due own (only_values w)
unfolding votes_on by_channel
votes_are {N} config me full a done due own w told t ids =
    let s : Setting = setting_of config in
    by_alike due (vote_due config a done told) (λ c. vote_on s me full a done due own (only_values w) c)
    (λ c low on. ap (λ (vs : List ℤ). vote_of vs (lies_tolerated s (channel s c)))
    (filter_map_members (λ q. value_told told q c) (λ q. value_from me full due own (only_values w) c q) (voters s a done (channel s c))
    (λ q voter. t.each q c (member-lt config.nodes a.standing.members q ids (voter_member s a done (channel s c) q voter)) on)))

-- whether a value of another node deviates
off_is : {N : ℕ} (config : Config N) (me : ℕ) (full : Bool) (due : List ℕ) (own : List (Option ℤ)) (w : Watch) (told : List (Option (List ℤ))) (votes : List (Option ℤ)) (j : ℕ) → TellsValues config.nodes me full due own w told → j < config.nodes → j ≢ me
    → is_off config due told votes j ≡ deviates (setting_of config) due votes (only_values w) j
off_is config me full due own w told votes j t low ne =
    let s : Setting = setting_of config in
    list_any_alike (λ c. is_judged (channel s c) && is_far (delta_of (channel s c)) (value_told told j c) (value_at votes c)) (λ c. is_judged (channel s c) && is_far (delta_of (channel s c)) (value_in due (has_of values_in w j) c) (value_at votes c)) due
    (λ c on. ap (λ (o : Option ℤ). is_judged (channel s c) && is_far (delta_of (channel s c)) o (value_at votes c))
    (t.each j c low on ∙ cond-false (j == me) (if full then Some (own_in own c) else None) (value_in due (has_of values_in w j) c) (ne_eqb j me ne)))

-- who is off
pub offs_are : {N : ℕ} (config : Config N) (me : ℕ) (full : Bool) (due : List ℕ) (own : List (Option ℤ)) (w : Watch) (told : List (Option (List ℤ))) (votes : List (Option ℤ)) → TellsValues config.nodes me full due own w told
    → ids_where (λ j. not (j == me) && is_off config due told votes j) config.nodes ≡ ids_where (λ j. not (j == me) && deviates (setting_of config) due votes (only_values w) j) config.nodes
offs_are config me full due own w told votes t = filter_range _ _ 0 config.nodes (λ j low high. elim (cases_eq j me) [
  | inl e ↦ ap (λ (b : Bool). not b && is_off config due told votes j) (eq-eqb j me e) ∙ sym (ap (λ (b : Bool). not b && deviates (setting_of config) due votes (only_values w) j) (eq-eqb j me e))
  | inr ne ↦ ap (λ (b : Bool). not (j == me) && b) (off_is config me full due own w told votes j t (omega arith) ne)
])
