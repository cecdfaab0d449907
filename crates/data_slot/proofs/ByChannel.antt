-- Values by channel: how they are filled, channel by channel, and what stands there.
use Rattle.std.proofs.Common.{ℕ, ◌≡◌, ◌<◌, ◌+◌, ◌==◌, ◌||◌, true, if◌then◌else◌, List, [], length, length-set, take, replicate, get_or, set, get_or-set_other, get_or-set_same, refl, sym, ap, ◌∙◌, inl, inr, arith, eq-eqb, ne_eqb, Option, None, ℤ, pos}
use Rattle.std.specs.Prelude.{All}
use Rattle.std.proofs.Math.Bool.{or-false}
use Rattle.std.proofs.lemmas.Bool.{cases_eq, cond-true, or_right}
use Rattle.std.proofs.lemmas.List.{take_more}
use Rattle.std.proofs.lemmas.List.FromFn.{fill_by_all, get_or-map-range_with_len, length-map-range_with_len}
use Rattle.node_grid.specs.ListLaws.{has_push}
use Rattle.node_grid.specs.NodeSet.{has_id}
use Rattle.node_grid.specs.SetFacts.{has_before}
use Rattle.protocol.specs.View.{channel_room, value_at}
use Rattle.data_slot.specs.Values.{by_channel}

-- ---- values of the due channels

-- a list of values by channel that has those of these channels
pub record HasValues (due : List ℕ) (f : ℕ → ℤ) (values : List ℤ) : Type 0 where
  pub wide : length values ≡ channel_room
  pub each : (c : ℕ) → has_id due c ≡ true → get_or values c (pos 0) ≡ f c

-- a channel more
pub has_more : (due : List ℕ) (f : ℕ → ℤ) (values : List ℤ) (k : ℕ) (v : ℤ) → k < length due → All (λ c. c < channel_room) due → v ≡ f (get_or due k 0) → HasValues (take k due) f values → HasValues (take (k + 1) due) f (set values (get_or due k 0) v)
has_more due f values k v low all value h =
    let c : ℕ = get_or due k 0 in
    record {
      wide = length-set values c v ∙ h.wide;
      each = λ x on. elim (cases_eq x c) [
        | inl e ↦
            let room : c < length values = (let w = h.wide in let l = all k 0 low in omega arith) in
            ap (λ n. get_or (set values c v) n (pos 0)) e ∙ get_or-set_same values c v (pos 0) room ∙ value ∙ ap f (sym e)
        | inr ne ↦ get_or-set_other values c x v (pos 0) ne ∙ h.each x (has_before due k x low on ne)
      ];
    }

-- ---- votes on the due channels

pub by_none : (f : ℕ → Option ℤ) → replicate channel_room None ≡ by_channel [] f
unfolding by_channel
by_none f = refl

pub by_at : (due : List ℕ) (f : ℕ → Option ℤ) (c : ℕ) → c < channel_room → has_id due c ≡ true → value_at (by_channel due f) c ≡ f c
unfolding by_channel
by_at due f c low on = get_or-map-range_with_len (λ k. if has_id due k then f k else None) 0 channel_room c c None low (omega arith) ∙ cond-true (has_id due c) (f c) None on

by_at_any : (due : List ℕ) (f : ℕ → Option ℤ) (c : ℕ) → c < channel_room → get_or (by_channel due f) c None ≡ (if has_id due c then f c else None)
unfolding by_channel
by_at_any due f c low = get_or-map-range_with_len (λ k. if has_id due k then f k else None) 0 channel_room c c None low (omega arith)

-- a list that has what a function says of each due channel, and nothing of the others
by_all : (due : List ℕ) (f : ℕ → Option ℤ) (xs : List (Option ℤ)) → length xs ≡ channel_room → ((c : ℕ) → c < channel_room → get_or xs c None ≡ (if has_id due c then f c else None)) → xs ≡ by_channel due f
unfolding by_channel
by_all due f xs wide each = fill_by_all (λ c. if has_id due c then f c else None) xs channel_room None wide each

by_wide : (due : List ℕ) (f : ℕ → Option ℤ) → length (by_channel due f) ≡ channel_room
unfolding by_channel
by_wide due f = length-map-range_with_len (λ c. if has_id due c then f c else None) 0 channel_room

-- a channel more
pub by_more : (due : List ℕ) (f : ℕ → Option ℤ) (xs : List (Option ℤ)) (k : ℕ) (v : Option ℤ) → k < length due → All (λ c. c < channel_room) due → v ≡ f (get_or due k 0) → xs ≡ by_channel (take k due) f → set xs (get_or due k 0) v ≡ by_channel (take (k + 1) due) f
by_more due f xs k v low all value is =
    let c : ℕ = get_or due k 0 in
    let more : List ℕ = take (k + 1) due in
    let push : (x : ℕ) → has_id more x ≡ (has_id (take k due) x || (c == x)) = λ x. ap (λ ds. has_id ds x) (take_more due k 0 low) ∙ has_push (take k due) c x in
    let wide : length xs ≡ channel_room = ap length is ∙ by_wide (take k due) f in
    by_all more f (set xs c v) (length-set xs c v ∙ wide)
    (λ x h. elim (cases_eq x c) [
      | inl e ↦
          let room : c < length xs = (let l = all k 0 low in omega arith) in
          let on : has_id more x ≡ true = push x ∙ or_right (has_id (take k due) x) (c == x) (eq-eqb c x (sym e)) in
          ap (λ n. get_or (set xs c v) n None) e ∙ get_or-set_same xs c v None room ∙ value ∙ ap f (sym e) ∙ sym (cond-true (has_id more x) (f x) None on)
      | inr ne ↦
          let same : has_id more x ≡ has_id (take k due) x = push x ∙ ap (λ b. has_id (take k due) x || b) (ne_eqb c x (λ e. ne (sym e))) ∙ or-false (has_id (take k due) x) in
          get_or-set_other xs c x v None ne ∙ ap (λ ys. get_or ys x None) is ∙ by_at_any (take k due) f x h ∙ ap (λ b. if b then f x else None) (sym same)
    ])
