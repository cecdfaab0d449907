-- Lemmas for callers: what votes and tests of the due channels depend on, and both where each node told a value of each channel.
use Rattle.std.proofs.Common.{◌&&◌, ◌||◌, ℕ, ◌≡◌, ◌<◌, ◌==◌, Bool, true, false, if◌then◌else◌, List, [], ◌∷◌, map, refl, ap, ap₂, ◌∙◌, arith, eq-eqb, Option, None, Some, ℤ}
use Rattle.std.specs.List.{filter_map, list_any, cons_option}
use Rattle.std.proofs.lemmas.Bool.{or_left, or_right}
use Rattle.std.proofs.lemmas.List.FromFn.{fill_by_all, get_or-map-range_with_len, length-map-range_with_len}
use Rattle.node_grid.specs.NodeSet.{has_id, ids_below, IsIdSet}
use Rattle.node_grid.specs.SetFacts.{member-lt}
use Rattle.omh_paths.specs.declared.wrapped.Wrapped.{Wrapped}
use Rattle.mme_vote.specs.Channel.{delta_of, is_judged}
use Rattle.mme_vote.specs.Vote.{vote_of}
use Rattle.agreed_state.specs.declared.config.Config.{Config}
use Rattle.agreed_state.specs.Agreed.{AgreedView}
use Rattle.protocol.specs.Configured.{setting_of}
use Rattle.protocol.specs.View.{Setting, channel, channel_room, is_far, lies_tolerated, value_at, voters}
use Rattle.protocol.specs.Facts.{voter_member}
use Rattle.data_slot.specs.Told.{value_told}
use Rattle.data_slot.specs.Values.{by_channel}
use Rattle.data_slot.specs.Votes.{is_off, vote_due}

-- functions that agree on the due channels
pub by_alike : (due : List ℕ) (f g : ℕ → Option ℤ) → ((c : ℕ) → c < channel_room → has_id due c ≡ true → f c ≡ g c) → by_channel due f ≡ by_channel due g
unfolding by_channel
by_alike due f g h =
    fill_by_all (λ c. if has_id due c then g c else None) (map (λ c. if has_id due c then f c else None) (ids_below channel_room)) channel_room None
    (length-map-range_with_len (λ c. if has_id due c then f c else None) 0 channel_room)
    (λ c low. get_or-map-range_with_len (λ k. if has_id due k then f k else None) 0 channel_room c c None low (omega arith) ∙ same c low (has_id due c) refl)
  where
    same : (c : ℕ) → c < channel_room → (b : Bool) → has_id due c ≡ b → (if b then f c else None) ≡ (if b then g c else None)
    same c low true on = h c low on
    same c low false off = refl

-- a test of the due channels
pub list_any_alike : (f g : ℕ → Bool) (due : List ℕ) → ((c : ℕ) → has_id due c ≡ true → f c ≡ g c) → list_any f due ≡ list_any g due
list_any_alike f g [] h = refl
list_any_alike f g (c ∷ due) h = ap₂ ◌||◌ (h c (or_left (c == c) (has_id due c) (eq-eqb c c refl))) (list_any_alike f g due (λ x on. h x (or_right (c == x) (has_id due x) on)))

filter_map_every : (f : ℕ → Option ℤ) (g : ℕ → ℤ) (ms : List ℕ) → ((q : ℕ) → has_id ms q ≡ true → f q ≡ Some (g q)) → filter_map f ms ≡ map g ms
filter_map_every f g [] h = refl
filter_map_every f g (q ∷ ms) h = ap₂ cons_option (h q (or_left (q == q) (has_id ms q) (eq-eqb q q refl))) (filter_map_every f g ms (λ x on. h x (or_right (q == x) (has_id ms x) on)))

-- each node told a value of each due channel, by a function
pub record TellAll (nodes : ℕ) (due : List ℕ) (value : ℕ → ℕ → ℤ) (told : List (Option (List ℤ))) : Type 0 where
  pub each : (q c : ℕ) → q < nodes → has_id due c ≡ true → value_told told q c ≡ Some (value q c)

-- then all voters' values are voted on
pub all_votes : {N : ℕ} (config : Config N) (a : AgreedView) (done : List (Wrapped ℕ)) (due : List ℕ) (value : ℕ → ℕ → ℤ) (told : List (Option (List ℤ))) → TellAll config.nodes due value told → IsIdSet config.nodes a.standing.members
    → let s = setting_of config in by_channel due (vote_due config a done told) ≡ by_channel due (λ c. vote_of (map (λ q. value q c) (voters s a done (channel s c))) (lies_tolerated s (channel s c)))
all_votes {N} config a done due value told t ids =
    let s : Setting = setting_of config in
    by_alike due (vote_due config a done told) (λ c. vote_of (map (λ q. value q c) (voters s a done (channel s c))) (lies_tolerated s (channel s c)))
    (λ c low on. ap (λ (vs : List ℤ). vote_of vs (lies_tolerated s (channel s c)))
    (filter_map_every (λ q. value_told told q c) (λ q. value q c) (voters s a done (channel s c))
    (λ q voter. t.each q c (member-lt config.nodes a.standing.members q ids (voter_member s a done (channel s c) q voter)) on)))

-- and a node is off by its value
pub all_off : {N : ℕ} (config : Config N) (due : List ℕ) (value : ℕ → ℕ → ℤ) (told : List (Option (List ℤ))) (votes : List (Option ℤ)) (j : ℕ) → TellAll config.nodes due value told → j < config.nodes
    → let s = setting_of config in is_off config due told votes j ≡ list_any (λ c. is_judged (channel s c) && is_far (delta_of (channel s c)) (Some (value j c)) (value_at votes c)) due
all_off config due value told votes j t low =
    let s : Setting = setting_of config in
    list_any_alike (λ c. is_judged (channel s c) && is_far (delta_of (channel s c)) (value_told told j c) (value_at votes c)) (λ c. is_judged (channel s c) && is_far (delta_of (channel s c)) (Some (value j c)) (value_at votes c)) due
    (λ c on. ap (λ (o : Option ℤ). is_judged (channel s c) && is_far (delta_of (channel s c)) o (value_at votes c)) (t.each j c low on))
