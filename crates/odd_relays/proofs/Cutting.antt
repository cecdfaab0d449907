-- A path of odd members that all heard alike settles as it was heard.
use Rattle.std.proofs.Common.{ℕ, ◌≡◌, ◌<◌, ◌≤◌, ◌+◌, ◌-◌, ◌==◌, ◌&&◌, ◌||◌, Bool, true, false, List, [], ◌∷◌, ◌++◌, length, take, get_or, refl, sym, ap, subst, ◌∙◌, inl, inr, arith, eqb-true, eq-eqb}
use Rattle.std.proofs.lemmas.Bool.{and_from, and_parts, or_cases, or_left, or_right}
use Rattle.std.proofs.lemmas.List.{take_all, take_more}
use Rattle.node_grid.specs.NodeSet.{has_id, IsIdSet}
use Rattle.node_grid.specs.Count.{Distinct}
use Rattle.node_grid.specs.SetFacts.{member-lt}
use Rattle.omh_paths.specs.Wrapped.{IsExact}
use Rattle.omh_paths.specs.Paths.{outside, IsPath}
use Rattle.omh_paths.specs.PathLaws.{IsPath-push}
use Rattle.node_grid.specs.Class.{IsEnough}
use Rattle.omh_paths.specs.Facts.{root}
use Rattle.omh.specs.Omh.{World}
use Rattle.odd_relays.specs.Chains.{IsPassedOn, chain_within}
use Rattle.odd_relays.specs.Telling.{Telling, telling_world, HasFewOdd}
use Rattle.odd_relays.specs.Direct.{direct_heard, direct_world}
use Rattle.odd_relays.specs.Work.{IsChain, AreHeardAlike}
use Rattle.odd_relays.proofs.ChainLaws.{seat, enough_at, as_heard, by_chains}
use Rattle.odd_relays.proofs.Direct.{same_chain, same_push}
use Rattle.odd_relays.proofs.Tellings.{each_telling_passes}

split_last : (path : List ℕ) → 0 < length path → path ≡ take (length path - 1) path ++ get_or path (length path - 1) 0 ∷ []
split_last path some =
    let e : length path ≡ (length path - 1) + 1 = omega arith in
    sym (take_all (length path) path (omega arith)) ∙ ap (λ (k : ℕ). take k path) e ∙ take_more path (length path - 1) 0 (omega arith)

module _ {V : Type 0} (t : Telling V) where
  pub chain_root : (path : List ℕ) → Distinct t.members → has_id t.members t.commander ≡ true → path ≡ t.commander ∷ [] → IsChain t path
  chain_root path distinct member is = record { distinct = distinct; back = []; is = is; is_path = root t.commander member; same = λ k. refl }

  pub chain_push : (path longer : List ℕ) (q : ℕ) → IsChain t path → has_id t.members q ≡ true → has_id path q ≡ false → has_id t.odd q ≡ true → length path ≤ t.rounds → longer ≡ path ++ q ∷ [] → IsChain t longer
  chain_push path longer q chain member off odd room is =
      let p : List ℕ = t.commander ∷ chain.back in
      record {
        distinct = chain.distinct;
        back = chain.back ++ q ∷ [];
        is = is ∙ ap (λ (xs : List ℕ). xs ++ q ∷ []) chain.is;
        is_path = IsPath-push q chain.is_path member (ap (λ (xs : List ℕ). has_id xs q) (sym chain.is) ∙ off) (subst (λ (xs : List ℕ). length xs ≤ t.rounds) chain.is room);
        same = same_push t p q (omega arith) odd;
      }

  pub chain_low : (path : List ℕ) (n : ℕ) → IsIdSet n t.members → IsChain t path → (q : ℕ) → has_id path q ≡ true → q < n
  chain_low path n ids chain q on = member-lt n t.members q ids (chain.is_path.within q (ap (λ (xs : List ℕ). has_id xs q) (sym chain.is) ∙ on))

  pub chain_short : (path : List ℕ) → IsChain t path → length path ≤ t.rounds + 1
  chain_short path chain = subst (λ (xs : List ℕ). length xs ≤ t.rounds + 1) (sym chain.is) chain.is_path.short

  alike_at : (eq : V → V → Bool) → IsExact eq → Distinct t.members → HasFewOdd t → (i : ℕ) (back : List ℕ) → IsPath t.members t.rounds (t.commander ∷ back) → has_id (t.commander ∷ back) i ≡ false
      → ((k : ℕ) → direct_heard t k (t.commander ∷ back) ≡ (telling_world t).heard k (t.commander ∷ back))
      → ((k : ℕ) → has_id t.members k ≡ true → has_id t.full k ≡ true → has_id (t.commander ∷ back) k ≡ false → direct_heard t k (t.commander ∷ back) ≡ direct_heard t i (t.commander ∷ back))
      → chain_within eq (direct_world t) t.odd i (t.rounds + 1 - length (t.commander ∷ back)) (t.commander ∷ back) ≡ direct_heard t i (t.commander ∷ back)
  alike_at eq exact distinct few i back path off same alike =
      let c : ℕ = t.commander in
      let p : List ℕ = c ∷ back in
      let w : World V = telling_world t in
      let r : ℕ = t.rounds + 1 - length p in
      let front : List ℕ = take (length p - 1) p in
      let last : ℕ = get_or p (length p - 1) 0 in
      let split : p ≡ front ++ last ∷ [] = split_last p (omega arith) in
      let short = path.short in
      let long : r + length p ≡ t.rounds + 1 = omega arith in
      let enough : IsEnough (seat w t.odd i) (last ∷ outside t.members p) r =
      subst (λ (xs : List ℕ). IsEnough (seat w t.odd i) (last ∷ outside t.members xs) r) (sym split)
      (enough_at w t.odd i front last r distinct few (subst (IsPath t.members t.rounds) split path) (subst (λ (xs : List ℕ). r + length xs ≡ t.rounds + 1) split long))
      in
      let is_awake : ℕ → Bool = λ k. (k == i) || (has_id t.members k && has_id t.full k) in
      let passed : IsPassedOn w c t.odd is_awake = each_telling_passes V t is_awake distinct (λ q on f. or_right (q == i) (has_id t.members q && has_id t.full q) (and_from (has_id t.members q) (has_id t.full q) on f)) in
      let here : is_awake i ≡ true = or_left (i == i) (has_id t.members i && has_id t.full i) (eq-eqb i i refl) in
      let all : (k : ℕ) → is_awake k ≡ true → has_id p k ≡ false → w.heard k p ≡ w.heard i p =
      λ k ak apart. elim (or_cases (k == i) (has_id t.members k && has_id t.full k) ak) [
        | inl e ↦ ap (λ (j : ℕ). w.heard j p) (eqb-true k i e)
        | inr on ↦ let m = and_parts (has_id t.members k) (has_id t.full k) on in sym (same k) ∙ alike k m.0 m.1 apart ∙ same i
      ]
      in
      same_chain t eq i r p (omega arith) same
      ∙ sym (by_chains eq exact w c t.odd is_awake passed i here r back last path long off enough)
      ∙ as_heard eq exact w c t.odd is_awake passed i here r back last path long off all enough
      ∙ sym (same i)

  pub alike_settles : (eq : V → V → Bool) → IsExact eq → HasFewOdd t → (i : ℕ) (receivers path : List ℕ) → IsChain t path → has_id receivers i ≡ true → has_id path i ≡ false → AreHeardAlike t receivers path
      → direct_heard t i path ≡ chain_within eq (direct_world t) t.odd i (t.rounds + 1 - length path) path
  alike_settles eq exact few i receivers path chain on off alike =
      let p : List ℕ = t.commander ∷ chain.back in
      subst (λ (xs : List ℕ). direct_heard t i xs ≡ chain_within eq (direct_world t) t.odd i (t.rounds + 1 - length xs) xs) (sym chain.is)
      (sym (alike_at eq exact chain.distinct few i chain.back chain.is_path (ap (λ (xs : List ℕ). has_id xs i) (sym chain.is) ∙ off) chain.same
      (λ k member full apart. subst (λ (xs : List ℕ). direct_heard t k xs ≡ direct_heard t i xs) chain.is (alike i k on member full (ap (λ (xs : List ℕ). has_id xs k) chain.is ∙ apart)))))
