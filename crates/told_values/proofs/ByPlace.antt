-- Values by channel: how they are filled, place by place of the due channels, and what stands there.
use Rattle.std.proofs.Common.{ℕ, ◌≡◌, ◌<◌, ◌+◌, true, List, length, length-set, take, get_or, set, get_or-set_other, get_or-set_same, sym, ap, ◌∙◌, inl, inr, arith, ℤ, pos}
use Rattle.std.specs.Prelude.{All}
use Rattle.std.proofs.lemmas.Bool.{cases_eq}
use Rattle.node_grid.specs.NodeSet.{has_id}
use Rattle.node_grid.specs.SetFacts.{has_before}
use Rattle.protocol.specs.View.{channel_room}

-- a list of values by channel that has those of these channels
pub record HasValues (due : List ℕ) (f : ℕ → ℤ) (values : List ℤ) : Type 0 where
  pub wide : length values ≡ channel_room
  pub each : (c : ℕ) → has_id due c ≡ true → get_or values c (pos 0) ≡ f c

-- a channel more
pub has_more : (due : List ℕ) (f : ℕ → ℤ) (values : List ℤ) (k : ℕ) (v : ℤ) → k < length due → All (λ c. c < channel_room) due → v ≡ f (get_or due k 0) → HasValues (take k due) f values → HasValues (take (k + 1) due) f (set values (get_or due k 0) v)
has_more due f values k v low all value h =
    let c : ℕ = get_or due k 0 in
    record {
      wide = length-set values c v ∙ h.wide;
      each = λ x on. elim (cases_eq x c) [
        | inl e ↦
            let room : c < length values = (let w = h.wide in let l = all k 0 low in omega arith) in
            ap (λ n. get_or (set values c v) n (pos 0)) e ∙ get_or-set_same values c v (pos 0) room ∙ value ∙ ap f (sym e)
        | inr ne ↦ get_or-set_other values c x v (pos 0) ne ∙ h.each x (has_before due k x low on ne)
      ];
    }
