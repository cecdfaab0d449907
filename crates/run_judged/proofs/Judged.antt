-- A judge before the first period, and after one more.
use Rattle.std.proofs.Common.{◌≡◌, ℕ, zero, suc, ◌+◌, ◌*◌, ◌<◌, ◌≤◌, true, not, List, [], ◌∷◌, ◌++◌, length, Option, None, Some, refl, sym, ap, subst, ◌∙◌, arith}
use Rattle.std.specs.Prelude.{All, option_map, MatchOption}
use Rattle.std.specs.List.{filter_map, cons_option, range_with_len}
use Rattle.std.proofs.lemmas.Nat.{mul-le}
use Rattle.std.proofs.lemmas.List.{append-nil}
use Rattle.node_grid.specs.NodeSet.{ids_below, has_id}
use Rattle.node_grid.specs.NodeSetLaws.{has-range}
use Rattle.scenario.specs.Scenario.{ScenarioView}
use Rattle.run_judged.specs.declared.illness.Illness.{Illness}
use Rattle.run_judged.specs.declared.illness.Sign.{Sign}
use Rattle.run_judged.specs.declared.tally.Tally.{Tally}
use Rattle.run_judged.specs.Numbers.{total, greatest, least}
use Rattle.run_judged.specs.Illnesses.{illnesses}
use Rattle.run_judged.specs.Growing.{IsOf}
use Rattle.run_judged.specs.Rows.{is_within, loss_at}
use Rattle.run_judged.specs.Sums.{AreSums}
use Rattle.run_judged.proofs.Spans.{first_none}
use Rattle.run_judged.proofs.Listed.{all_of, few_illnesses}
use Rattle.run_judged.proofs.Ranges.{given_more}

-- no period yet
abbrev pub nothing : {N : ℕ} → Tally N
nothing = record {
  claimed = 0;
  lost = None;
  margin = None;
  charges = 0;
  false_charges = 0;
  false_exclusions = 0;
  spread = None;
  skew = None;
  faulty = [];
}

first_sums : {N : ℕ} (sc : ScenarioView N) → AreSums sc 0 nothing
unfolding total least greatest
first_sums sc = record {
  claimed = refl;
  lost = ap (option_map (loss_at sc)) (sym (first_none (λ p. not (is_within sc p)) 0));
  margin = refl;
  charges = refl;
  false_charges = refl;
  false_exclusions = refl;
  spread = refl;
  skew = refl;
  faulty = λ j low. refl;
}

pub sums_none : {N : ℕ} (sc : ScenarioView N) (t : Tally N) → t ≡ nothing → AreSums sc 0 t
sums_none sc t e = subst (λ (x : Tally _). AreSums sc 0 x) (sym e) (first_sums sc)

pub all_sound : (n j : ℕ) (sound : List ℕ) → sound ≡ ids_below n → j < n → has_id sound j ≡ true
all_sound n j sound e low = ap (λ (xs : List ℕ). has_id xs j) e ∙ has-range 0 n j (omega arith) (omega arith)

-- the room for one period more
pub room_more : (seen : ℕ → ℕ → Sign) (nodes capacity n k : ℕ) (list : List Illness) → list ≡ illnesses seen nodes n → nodes ≤ capacity → n < 1024 → k ≡ nodes → length list + k ≤ capacity * 1024
room_more seen nodes capacity n k list is fits early e =
    let few = few_illnesses seen nodes n in
    let long : length list ≡ length (illnesses seen nodes n) = ap (λ (xs : List Illness). length xs) is in
    let most : nodes * suc n ≤ capacity * 1024 = mul-le nodes (suc n) capacity 1024 fits (omega arith) in
    omega arith

pub each_of : (seen : ℕ → ℕ → Sign) (nodes n k : ℕ) (list : List Illness) → list ≡ illnesses seen nodes n → k ≡ nodes → All (IsOf k n) list
each_of seen nodes n k list is e = subst (λ (m : ℕ). All (IsOf m n) list) (sym e) (subst (λ (xs : List Illness). All (IsOf nodes n) xs) (sym is) (all_of seen nodes n))

-- ---- the clocks

given_few : {X : Type 0} (f : ℕ → Option X) (a n : ℕ) → length (filter_map f (range_with_len a n)) ≤ n
given_few f a zero = omega arith
given_few f a (suc n) =
    elim (f a) as (λ o. length (cons_option o (filter_map f (range_with_len (a + 1) n))) ≤ suc n) [
      | None ↦ let few = given_few f (a + 1) n in omega arith
      | Some x ↦ let few = given_few f (a + 1) n in omega arith
    ]

pub few_skews : (f : ℕ → Option ℕ) (n : ℕ) (xs : List ℕ) → xs ≡ filter_map f (ids_below n) → length xs ≤ n
few_skews f n xs e = let long : length xs ≡ length (filter_map f (ids_below n)) = ap (λ (ys : List ℕ). length ys) e in omega (arith, given_few f 0 n)

skews_some : (f : ℕ → Option ℕ) (n x : ℕ) (xs ys : List ℕ) → xs ≡ filter_map f (ids_below n) → Some x ≡ f n → ys ≡ xs ++ x ∷ [] → ys ≡ filter_map f (ids_below (n + 1))
skews_some f n x xs ys e is added =
    added ∙ ap (λ (zs : List ℕ). zs ++ x ∷ []) e ∙ sym (given_more f n ∙ ap (λ (z : Option ℕ). filter_map f (ids_below n) ++ cons_option z []) (sym is))

skews_none : (f : ℕ → Option ℕ) (n : ℕ) (xs ys : List ℕ) → xs ≡ filter_map f (ids_below n) → None ≡ f n → ys ≡ xs → ys ≡ filter_map f (ids_below (n + 1))
skews_none f n xs ys e is kept =
    kept ∙ e ∙ sym (given_more f n ∙ ap (λ (z : Option ℕ). filter_map f (ids_below n) ++ cons_option z []) (sym is) ∙ append-nil (filter_map f (ids_below n)))

pub skews_more : (f : ℕ → Option ℕ) (n : ℕ) (o : Option ℕ) (xs ys : List ℕ) → xs ≡ filter_map f (ids_below n) → o ≡ f n → MatchOption o (ys ≡ xs) (λ x. ys ≡ xs ++ x ∷ [])
    → ys ≡ filter_map f (ids_below (n + 1))
skews_more f n None xs ys e is kept = skews_none f n xs ys e is kept
skews_more f n (Some x) xs ys e is added = skews_some f n x xs ys e is added
