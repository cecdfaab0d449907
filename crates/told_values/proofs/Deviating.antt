-- Who is off, one due channel after another.
use Rattle.std.proofs.Common.{ℕ, ◌≡◌, ◌<◌, ◌≤◌, ◌+◌, ◌&&◌, ◌||◌, Bool, true, false, List, [], ◌∷◌, length, get_or, take, sym, ap, ap₂, ◌∙◌, inl, inr, refl, arith, Option, ℤ}
use Rattle.std.specs.Prelude.{nat_lt}
use Rattle.std.proofs.Math.Bool.{or-false}
use Rattle.std.proofs.lemmas.Bool.{cases_lt}
use Rattle.std.proofs.lemmas.Bool.Decides.{nat_tests}
use Rattle.std.proofs.lemmas.List.Folds.{list_any_more}
use Rattle.node_grid.specs.NodeSet.{has_id, ids_where, union_of}
use Rattle.node_grid.specs.NodeSetLaws.{filter_range, filter_none, has-filter, hasnt-filter, ids_where-within}
use Rattle.mme_vote.specs.declared.channel.Channel.{Channel}
use Rattle.mme_vote.specs.Channel.{delta_of, is_judged}
use Rattle.agreed_state.specs.declared.config.Config.{Config}
use Rattle.protocol.specs.Configured.{setting_of}
use Rattle.protocol.specs.View.{channel, is_far, value_at}
use Rattle.data_slot.specs.Told.{value_told}
use Rattle.data_slot.specs.Votes.{is_off}

module _ {N : ℕ} (config : Config N) (told : List (Option (List ℤ))) (votes : List (Option ℤ)) where
  -- a node's value of a channel is held against it
  abbrev test : ℕ → ℕ → Bool
  test c j = is_judged (channel (setting_of config) c) && is_far (delta_of (channel (setting_of config) c)) (value_told told j c) (value_at votes c)

  module _ (c : ℕ) (ch : Channel N) (there : ch ≡ channel (setting_of config) c) where
    pub off_where_far : (delta : ℤ) (vote : Option ℤ) → is_judged ch ≡ true → delta ≡ delta_of ch → vote ≡ value_at votes c
        → ids_where (λ j. is_far delta (value_told told j c) vote) config.nodes ≡ ids_where (is_off config (c ∷ []) told votes) config.nodes
    off_where_far delta vote judged same is =
        filter_range (λ j. is_far delta (value_told told j c) vote) (is_off config (c ∷ []) told votes) 0 config.nodes (λ j from to.
        ap (λ (o : Option ℤ). is_far delta (value_told told j c) o) is
        ∙ ap (λ (d : ℤ). is_far d (value_told told j c) (value_at votes c)) (same ∙ ap delta_of there)
        ∙ ap (λ (b : Bool). b && is_far (delta_of (channel (setting_of config) c)) (value_told told j c) (value_at votes c)) (sym (ap is_judged (sym there) ∙ judged))
        ∙ sym (or-false (test c j)))

    pub none_off_unjudged : is_judged ch ≡ false → [] ≡ ids_where (is_off config (c ∷ []) told votes) config.nodes
    none_off_unjudged unjudged = sym (filter_none (is_off config (c ∷ []) told votes) 0 config.nodes (λ j from to.
        or-false (test c j) ∙ ap (λ (b : Bool). b && is_far (delta_of (channel (setting_of config) c)) (value_told told j c) (value_at votes c)) (ap is_judged (sym there) ∙ unjudged)))

  pub none_off : [] ≡ ids_where (is_off config [] told votes) config.nodes
  none_off = sym (filter_none (is_off config [] told votes) 0 config.nodes (λ j from to. refl))

  -- with a channel more
  pub off_more : (due : List ℕ) (k : ℕ) → k < length due → config.nodes ≤ N
      → union_of N (ids_where (is_off config (take k due) told votes) config.nodes) (ids_where (is_off config (get_or due k 0 ∷ []) told votes) config.nodes)
      ≡ ids_where (is_off config (take (k + 1) due) told votes) config.nodes
  off_more due k low room =
      let c : ℕ = get_or due k 0 in
      let before : ℕ → Bool = is_off config (take k due) told votes in
      let here : ℕ → Bool = is_off config (c ∷ []) told votes in
      let after : ℕ → Bool = is_off config (take (k + 1) due) told votes in
      filter_range (λ j. has_id (ids_where before config.nodes) j || has_id (ids_where here config.nodes) j) (λ j. nat_lt j config.nodes && after j) 0 N (λ j from to. elim (cases_lt j config.nodes) [
        | inl used ↦
            ap₂ ◌||◌ (has-filter before config.nodes j used) (has-filter here config.nodes j used)
            ∙ ap (λ (b : Bool). before j || b) (or-false (test c j))
            ∙ sym (list_any_more (λ (x : ℕ). test x j) due k 0 low)
            ∙ ap (λ (b : Bool). b && after j) (sym (let l : nat_lt j config.nodes ≡ true = grind (arith, used, nat_tests) in l))
        | inr past ↦
            ap₂ ◌||◌ (hasnt-filter before config.nodes j past) (hasnt-filter here config.nodes j past)
            ∙ ap (λ (b : Bool). b && after j) (sym (let l : nat_lt j config.nodes ≡ false = grind (arith, past, nat_tests) in l))
      ])
      ∙ ids_where-within after N config.nodes room
