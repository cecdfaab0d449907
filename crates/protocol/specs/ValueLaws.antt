-- Lemmas for callers: the cut of a value, and a node's own values, are in the range of the grammar.
use Rattle.std.proofs.Common.{ℕ, zero, suc, ◌≡◌, ◌<◌, Bool, true, false, List, map, length, Option, None, Some, ℤ, pos, ◌+ℤ◌, neg_ℤ, ◌≤ℤ◌, refl, sym, subst, inl, inr, arith, ltb-true}
use Rattle.std.specs.Prelude.{All, if◌then◌else◌, nat_lt, slice_index_or}
use Rattle.std.specs.List.{range_with_len}
use Rattle.std.proofs.lemmas.Int.{ints}
use Rattle.std.proofs.lemmas.Bool.{cases_lt}
use Rattle.std.proofs.lemmas.List.{get_or_past}
use Rattle.std.proofs.lemmas.List.FromFn.{get_or-map-range_with_len, length-map-range_with_len}
use Rattle.frames.specs.Content.{IsValue}
use Rattle.mme_vote.specs.declared.channel.Channel.{Channel}
use Rattle.mme_vote.specs.declared.channel.Channel.TheVariants as channel_kind
use Rattle.frames.specs.Facts.{zero_value}
use Rattle.agreed_state.specs.declared.config.Inputs.{Inputs}
use Rattle.agreed_state.specs.Config.{IsConfig, IsChannel}
use Rattle.protocol.specs.View.{Setting, Kept, cut, value_limit, channel, no_channel, value_at, first_there, own_from, own_value, own_values, own_in, channel_room}

pub cut_low : (v : ℤ) → neg_ℤ value_limit ≤ℤ cut v
cut_low v = grind (arith, ints)

pub cut_high : (v : ℤ) → cut v ≤ℤ value_limit
cut_high v = grind (arith, ints)

-- what stands in a list of values, and 0 behind it
value_there : (xs : List ℤ) (k : ℕ) → All IsValue xs → IsValue (slice_index_or xs k (pos 0))
value_there xs k all = elim (cases_lt k (length xs)) [
  | inl low ↦ all k (pos 0) low
  | inr high ↦ subst IsValue (sym (get_or_past xs k (pos 0) high)) zero_value
]

own_fits : {n : ℕ} (nodes tasks i p : ℕ) (g : Inputs) (k : Kept) (c : ℕ) (x : Channel n) → IsChannel nodes tasks x → All IsValue g.reading → IsValue (own_from i p g k c x)
own_fits nodes tasks i zero g k c (channel_kind.State delta start step) fit readings = value_there start i fit.1.values
own_fits nodes tasks i (suc p) g k c (channel_kind.State delta start step) fit readings = let v : ℤ = first_there (value_at k.votes c) (value_at k.owns c) +ℤ step in record { low = cut_low v; high = cut_high v }
own_fits nodes tasks i zero g k c (channel_kind.Sensor delta t) fit readings = value_there g.reading c readings
own_fits nodes tasks i (suc p) g k c (channel_kind.Sensor delta t) fit readings = value_there g.reading c readings
own_fits nodes tasks i zero g k c (channel_kind.Copy delta t lies) fit readings = value_there g.reading c readings
own_fits nodes tasks i (suc p) g k c (channel_kind.Copy delta t lies) fit readings = value_there g.reading c readings

module _ (s : Setting) (i p : ℕ) (g : Inputs) (k : Kept) (config : IsConfig s.capacity s.config) (readings : All IsValue g.reading) where
  value_fits : (c : ℕ) → c < length s.config.channels.items → IsValue (own_value s i p g k c)
  unfolding own_value
  value_fits c low = own_fits s.config.nodes (length s.config.graph.tasks) i p g k c (channel s c) (config.channels c no_channel low) readings

  -- each of a node's own values, also where there is none
  pub own_values_fit : (c : ℕ) → IsValue (own_in (own_values s i p g k) c)
  own_values_fit c = elim (cases_lt c channel_room) [
    | inl low ↦ subst (λ (o : Option ℤ). IsValue (first_there o None)) (sym (get_or-map-range_with_len F 0 channel_room c c None low (omega arith))) (each (nat_lt c (length s.config.channels.items)) refl)
    | inr high ↦ subst (λ (o : Option ℤ). IsValue (first_there o None)) (sym (get_or_past (map F (range_with_len 0 channel_room)) c None (let l = length-map-range_with_len F 0 channel_room in omega arith))) zero_value
  ]
    where
      F : ℕ → Option ℤ
      F j = if nat_lt j (length s.config.channels.items) then Some (own_value s i p g k j) else None

      each : (b : Bool) → nat_lt c (length s.config.channels.items) ≡ b → IsValue (first_there (if b then Some (own_value s i p g k c) else None) None)
      each true t = value_fits c (ltb-true c (length s.config.channels.items) t)
      each false t = zero_value
