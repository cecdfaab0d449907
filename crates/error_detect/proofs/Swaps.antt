-- Deliveries of two senders.
use Rattle.std.proofs.Common.{ℕ, zero, suc, ◌≡◌, ◌≢◌, List, [], ◌∷◌, get_or, set, refl, sym, ap, ◌∙◌}
use Rattle.std.proofs.lemmas.List.{get_or-set_other}
use Rattle.error_detect.specs.Watching.{Arrival, nothing, Watch, with_delivery}
use Rattle.error_detect.specs.Multiset.{SendersCommute}

set_swap : (xs : List Arrival) (i j : ℕ) (a b : Arrival) → i ≢ j → set (set xs i a) j b ≡ set (set xs j b) i a
set_swap [] i j a b h = refl
set_swap (x ∷ xs) zero zero a b h = absurd (h refl)
set_swap (x ∷ xs) zero (suc j) a b h = refl
set_swap (x ∷ xs) (suc i) zero a b h = refl
set_swap (x ∷ xs) (suc i) (suc j) a b h = ap (λ ys. x ∷ ys) (set_swap xs i j a b (λ e. h (ap suc e)))

pub senders_commute : SendersCommute
senders_commute w a b s t x y other =
    let room : ℕ = w.frame_max in
    let va : Arrival = with_delivery room (get_or w.arrived a nothing) s x in
    let vb : Arrival = with_delivery room (get_or w.arrived b nothing) t y in
    let with_arrived : List Arrival → Watch = λ r. record { nodes = w.nodes; me = w.me; frame_max = w.frame_max; expect = w.expect; is_open = w.is_open; arrived = r } in
    let seen_b : get_or (set w.arrived a va) b nothing ≡ get_or w.arrived b nothing = get_or-set_other w.arrived a b va nothing (λ e. other (sym e)) in
    let seen_a : get_or (set w.arrived b vb) a nothing ≡ get_or w.arrived a nothing = get_or-set_other w.arrived b a vb nothing other in
    ap (λ v. with_arrived (set (set w.arrived a va) b (with_delivery room v t y))) seen_b
    ∙ ap with_arrived (set_swap w.arrived a b va vb other)
    ∙ sym (ap (λ v. with_arrived (set (set w.arrived b vb) a (with_delivery room v s x))) seen_a)
