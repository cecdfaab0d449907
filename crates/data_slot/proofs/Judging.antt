-- Who is off, one due channel after another.
use Rattle.std.proofs.Common.{ℕ, ◌≡◌, ◌<◌, ◌+◌, ◌&&◌, ◌||◌, Bool, true, false, List, length, get_or, take, sym, ap, ap₂, ◌∙◌, Option, ℤ}
use Rattle.std.specs.Prelude.{slice_index_or}
use Rattle.std.proofs.lemmas.List.Folds.{list_any_at, list_any_more}
use Rattle.std.proofs.lemmas.List.{get_or_default}
use Rattle.mme_vote.specs.declared.channel.Channel.{Channel}
use Rattle.mme_vote.specs.Channel.{delta_of, is_judged, no_channel}
use Rattle.agreed_state.specs.declared.config.Config.{Config}
use Rattle.protocol.specs.Configured.{setting_of}
use Rattle.protocol.specs.View.{channel, is_far, value_at}
use Rattle.data_slot.specs.Told.{value_told}
use Rattle.data_slot.specs.Votes.{is_off}

-- a channel that is looked up is that of the configuration
pub channel_there : {N : ℕ} (config : Config N) (cs : List (Channel N)) (x : ℕ) (ch : Channel N) → cs ≡ config.channels.items → x < length cs → ch ≡ get_or cs x ch → ch ≡ channel (setting_of config) x
channel_there {N} config cs x ch same low is = is ∙ get_or_default cs x ch no_channel low ∙ ap (λ (ys : List (Channel N)). slice_index_or ys x no_channel) same

module _ {N : ℕ} (config : Config N) (told : List (Option (List ℤ))) (votes : List (Option ℤ)) (j : ℕ) (due : List ℕ) (k : ℕ) (low : k < length due) (ch : Channel N) (there : ch ≡ channel (setting_of config) (get_or due k 0)) where
  abbrev test : ℕ → Bool
  test c = is_judged (channel (setting_of config) c) && is_far (delta_of (channel (setting_of config) c)) (value_told told j c) (value_at votes c)

  none_more : is_off config (take k due) told votes j ≡ false → test (get_or due k 0) ≡ false → is_off config (take (k + 1) due) told votes j ≡ false
  none_more before here = list_any_more test due k 0 low ∙ ap₂ ◌||◌ before here

  pub not_judged : is_off config (take k due) told votes j ≡ false → is_judged ch ≡ false → is_off config (take (k + 1) due) told votes j ≡ false
  not_judged before off =
      none_more before (ap (λ (b : Bool). b && is_far (delta_of (channel (setting_of config) (get_or due k 0))) (value_told told j (get_or due k 0)) (value_at votes (get_or due k 0))) (ap is_judged (sym there) ∙ off))

  module _ (d : ℤ) (delta : d ≡ delta_of ch) (v : Option ℤ) (value : v ≡ value_told told j (get_or due k 0)) (r : Bool) (far : r ≡ is_far d v (value_at votes (get_or due k 0))) (yes : is_judged ch ≡ true) where
    tested : test (get_or due k 0) ≡ r
    tested =
        let vote : Option ℤ = value_at votes (get_or due k 0) in
        let now : Option ℤ = value_told told j (get_or due k 0) in
        ap₂ ◌&&◌ (ap is_judged (sym there) ∙ yes)
        (ap (λ (y : Channel N). is_far (delta_of y) now vote) (sym there) ∙ ap (λ (z : ℤ). is_far z now vote) (sym delta) ∙ ap (λ (o : Option ℤ). is_far d o vote) (sym value) ∙ sym far)

    pub one_off : r ≡ true → true ≡ is_off config due told votes j
    one_off on = sym (list_any_at test due k 0 low (tested ∙ on))

    pub not_far : is_off config (take k due) told votes j ≡ false → r ≡ false → is_off config (take (k + 1) due) told votes j ≡ false
    not_far before off = none_more before (tested ∙ off)
