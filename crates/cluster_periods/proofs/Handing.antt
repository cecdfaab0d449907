-- Deliveries one after another.
use Rattle.std.proofs.Common.{ℕ, zero, suc, ◌≡◌, ◌<◌, ◌≤◌, ◌+◌, List, ◌++◌, map, replicate, length, take, drop, get_or, set, refl, sym, ap, ap₂, subst, ◌∙◌, arith}
use Rattle.std.proofs.lemmas.List.{append-nil, take_all}
use Rattle.std.proofs.Math.ListN.{drop_of_length-le}
use Rattle.std.proofs.lemmas.List.Edits.{map_over_more}
use Rattle.error_detect.specs.Finding.{Delivery}
use Rattle.error_detect.specs.Watching.{Watch, delivered}
use Rattle.error_detect.specs.Multiset.{all_delivered}
use Rattle.node_steps.specs.Parts.{NodeView}
use Rattle.node_steps.specs.Steps.{given_frame}
use Rattle.fault_classes.specs.Plan.{Plan}
use Rattle.cluster_periods.specs.Slots.{arriving, handed, IsReady, Takes}

all_more : (w : Watch) (j : ℕ) (d : Delivery) (n : ℕ) → delivered (all_delivered w (map (arriving j) (replicate n d))) j d.0 d.1 ≡ all_delivered w (map (arriving j) (replicate (n + 1) d))
all_more w j d zero = refl
all_more w j d (suc n) =
    all_more (delivered w j d.0 d.1) j d n ∙ ap (λ (k : ℕ). all_delivered w (map (arriving j) (replicate k d))) (let e : suc (n + 1) ≡ suc n + 1 = omega arith in e)

pub handed_more : {N : ℕ} (v w : NodeView N) (j : ℕ) (d : Delivery) (n : ℕ) → w ≡ handed v (map (arriving j) (replicate n d)) → given_frame w j d.0 d.1 ≡ handed v (map (arriving j) (replicate (n + 1) d))
handed_more {N} v w j d n e = ap (λ (y : NodeView N). given_frame y j d.0 d.1) e ∙ ap (λ (y : Watch). record v { arrived = y }) (all_more v.arrived j d n)

-- ---- nodes in use take frames

pub ready_takes : {N : ℕ} (plan : Plan) (j : ℕ) (v : NodeView N) → j < plan.nodes → IsReady plan v → Takes j v
ready_takes plan j v low ready = record { is_open = ready.is_open; in_use = subst (λ (n : ℕ). j < n) (sym ready.nodes) low }

-- ---- over all nodes

-- the step of a loop that replaces each element
pub put_over : {X : Type 0} (f : X → X) (xs ys : List X) (i : ℕ) (x new : X) → i < length xs → ys ≡ map f (take i xs) ++ drop i xs → x ≡ get_or ys i x → new ≡ f (get_or ys i x) → set ys i new ≡ map f (take (i + 1) xs) ++ drop (i + 1) xs
put_over f xs ys i x new low e is now = ap (set ys i) (now ∙ ap f (sym is)) ∙ map_over_more f xs ys i x low e is

-- and after the last place
pub all_put : {X : Type 0} (f : X → X) (xs ys : List X) (i : ℕ) → length xs ≤ i → ys ≡ map f (take i xs) ++ drop i xs → ys ≡ map f xs
all_put f xs ys i high e = e ∙ ap₂ (λ a b. map f a ++ b) (take_all i xs high) (drop_of_length-le xs high) ∙ append-nil (map f xs)
