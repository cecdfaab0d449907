-- The votes on the due channels, and whose values are too far from them, by the values that nodes told.
use Rattle.std.specs.Prelude.{ℕ, ℤ, Bool, ◌&&◌, List, Option}
use Rattle.std.specs.List.{list_any, filter_map}
use Rattle.omh_paths.specs.declared.wrapped.Wrapped.{Wrapped}
use Rattle.mme_vote.specs.declared.channel.Channel.{Channel}
use Rattle.mme_vote.specs.Channel.{delta_of, is_judged}
use Rattle.mme_vote.specs.Vote.{vote_of}
use Rattle.agreed_state.specs.declared.config.Config.{Config}
use Rattle.agreed_state.specs.Agreed.{AgreedView}
use Rattle.protocol.specs.Configured.{setting_of}
use Rattle.protocol.specs.View.{channel, is_far, lies_tolerated, value_at, voters}
use Rattle.data_slot.specs.Told.{value_told}

-- the vote on a channel over the values that these members told
abbrev pub vote_among : List (Option (List ℤ)) → List ℕ → ℕ → ℕ → Option ℤ
vote_among told members m c = vote_of (filter_map (λ q. value_told told q c) members) m

-- that on a channel, among those who vote on it
abbrev pub vote_over : {n : ℕ} → Config n → AgreedView → List (Wrapped ℕ) → List (Option (List ℤ)) → Channel n → ℕ → Option ℤ
vote_over config a done told ch c = vote_among told (voters (setting_of config) a done ch) (lies_tolerated (setting_of config) ch) c

-- and that on a channel by its number
abbrev pub vote_due : {n : ℕ} → Config n → AgreedView → List (Wrapped ℕ) → List (Option (List ℤ)) → ℕ → Option ℤ
vote_due config a done told c = vote_over config a done told (channel (setting_of config) c) c

-- whether a node told a value of a due channel that is too far from the vote
abbrev pub is_off : {n : ℕ} → Config n → List ℕ → List (Option (List ℤ)) → List (Option ℤ) → ℕ → Bool
is_off config due told votes j = let s = setting_of config in list_any (λ c. is_judged (channel s c) && is_far (delta_of (channel s c)) (value_told told j c) (value_at votes c)) due
