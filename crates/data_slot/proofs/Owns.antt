-- A node's own values, channel by channel, are those of the protocol.
use Rattle.std.proofs.Common.{ap, ◌∙◌, ℕ, zero, suc, ◌≡◌, ◌==◌, List, map, length, refl, arith, ne_eqb, Option, Some, None, if◌then◌else◌, ℤ, pos, ◌+ℤ◌}
use Rattle.std.specs.Prelude.{nat_lt, slice_index_or}
use Rattle.std.proofs.lemmas.Bool.{cond-false}
use Rattle.std.proofs.lemmas.List.FromFn.{fill_by_all, get_or-map-range_with_len, length-map-range_with_len}
use Rattle.node_grid.specs.NodeSet.{ids_below}
use Rattle.mme_vote.specs.declared.channel.Channel.{Channel}
use Rattle.mme_vote.specs.declared.channel.Channel.TheVariants.{State, Sensor, Copy}
use Rattle.agreed_state.specs.declared.config.Config.{Config}
use Rattle.agreed_state.specs.declared.config.Inputs.{Inputs}
use Rattle.protocol.specs.Configured.{setting_of}
use Rattle.protocol.specs.View.{Kept, channel_room, cut, first_there, value_at, own_from, own_value, own_values, no_channel}
use Rattle.data_slot.specs.Own.{own_by}

-- the own value of a channel by its number, by the votes and own values of the period before
abbrev pub own_at : {n : ℕ} → Config n → ℕ → ℕ → Inputs → List (Option ℤ) → List (Option ℤ) → ℕ → Option ℤ
own_at config i p g votes owns c =
    if nat_lt c (length config.channels.items) then Some (own_by (slice_index_or config.channels.items c no_channel) i p (slice_index_or g.reading c (pos 0)) (first_there (value_at votes c) (value_at owns c))) else None

own_is : {n : ℕ} (ch : Channel n) (i p : ℕ) (g : Inputs) (k : Kept) (c : ℕ) → own_by ch i p (slice_index_or g.reading c (pos 0)) (first_there (value_at k.votes c) (value_at k.owns c)) ≡ own_from i p g k c ch
own_is (State delta start step) i zero g k c = refl
own_is (State delta start step) i (suc p) g k c = cond-false (suc p == 0) (slice_index_or start i (pos 0)) (cut (first_there (value_at k.votes c) (value_at k.owns c) +ℤ step)) (ne_eqb (suc p) 0 (λ e. absurd (omega arith)))
own_is (Sensor delta task) i zero g k c = refl
own_is (Sensor delta task) i (suc p) g k c = refl
own_is (Copy delta task lies) i zero g k c = refl
own_is (Copy delta task lies) i (suc p) g k c = refl

pub owns_are : {N : ℕ} (config : Config N) (i p : ℕ) (g : Inputs) (k : Kept) → map (own_at config i p g k.votes k.owns) (ids_below channel_room) ≡ own_values (setting_of config) i p g k
unfolding own_value
owns_are config i p g k = fill_by_all _ _ channel_room None (length-map-range_with_len (own_at config i p g k.votes k.owns) 0 channel_room)
    (λ c l. get_or-map-range_with_len (own_at config i p g k.votes k.owns) 0 channel_room c c None l (omega arith)
    ∙ ap (λ (v : ℤ). if nat_lt c (length config.channels.items) then Some v else None) (own_is (slice_index_or config.channels.items c no_channel) i p g k c))
