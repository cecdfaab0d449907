-- Counts, streaks and rows of accusations with places for further nodes.
use Rattle.std.proofs.Common.{ℕ, ◌≡◌, ◌<◌, ◌≤◌, ◌+◌, ◌*◌, Bool, not, ◌&&◌, ◌==◌, List, [], ◌∷◌, ◌++◌, map, length, replicate, get_or, Option, None, Some, refl, sym, ap, ◌∙◌, arith, le-ltb, length-append}
use Rattle.std.proofs.Math.Path.{fun_ext}
use Rattle.std.specs.Prelude.{if◌then◌else◌, nat_lt}
use Rattle.std.specs.Option.{option_map}
use Rattle.std.proofs.lemmas.List.{get_or_past, length-replicate, replicate-append-replicate}
use Rattle.std.proofs.lemmas.List.FromFn.{length-map-range_with_len}
use Rattle.node_grid.specs.NodeSet.{ids_below, ids_where, mask_of}
use Rattle.node_grid.specs.Matrix.{row_at}
use Rattle.node_grid.specs.Count.{count}
use Rattle.error_reports.specs.Charge.{kind_room, is_row, row_accuses, is_voter, is_accuser, charged, charged_mask}
use Rattle.penalty.specs.declared.Policy.{Policy}
use Rattle.penalty.specs.Step.{for_nodes, count_after, streak_after, counts_after, streaks_after}
use Rattle.membership.specs.Members.{members_after, leaves, times_after, left_after, Standing, first_standing, standing_after}
use Rattle.two_capacities.specs.Wider.{wide, wide_rows, wide_standing}
use Rattle.two_capacities.proofs.Lists.{get_padded, get_mapped, tab_padded, wide_long, wide_short, by_length, get_wide}

-- ---- rows

module _ (n k : ℕ) (rows : List (Option (List ℕ))) where
  pub row_wide : (q : ℕ) → row_at (wide_rows n k rows) q ≡ option_map (wide n k) (row_at rows q)
  row_wide q = get_padded (map (option_map (wide n k)) rows) k None q ∙ get_mapped (option_map (wide n k)) rows q None

  still_row : (o : Option (List ℕ)) → is_row (option_map (wide n k) o) ≡ is_row o
  still_row None = refl
  still_row (Some row) = refl

  still_accuses : (o : Option (List ℕ)) (j i : ℕ) → row_accuses (option_map (wide n k) o) j i ≡ row_accuses o j i
  still_accuses None j i = refl
  still_accuses (Some row) j i = ap (λ mask. row_accuses (Some (mask ∷ [])) 0 i) (get_wide n k row j)

  voter_same : (j q : ℕ) → is_voter (wide_rows n k rows) j q ≡ is_voter rows j q
  voter_same j q = ap (λ o. not (q == j) && is_row o) (row_wide q) ∙ ap (λ b. not (q == j) && b) (still_row (row_at rows q))

  accuser_same : (j i q : ℕ) → is_accuser (wide_rows n k rows) j i q ≡ is_accuser rows j i q
  accuser_same j i q = ap (λ o. not (q == j) && row_accuses o j i) (row_wide q) ∙ ap (λ b. not (q == j) && b) (still_accuses (row_at rows q) j i)

  pub charged_wide : (members : List ℕ) (j i : ℕ) → charged (wide_rows n k rows) members j i ≡ charged rows members j i
  unfolding charged
  charged_wide members j i =
      ap (λ (f : ℕ → Bool). nat_lt (count f members) (2 * count (is_accuser (wide_rows n k rows) j i) members)) (fun_ext (voter_same j))
      ∙ ap (λ (f : ℕ → Bool). nat_lt (count (is_voter rows j) members) (2 * count f members)) (fun_ext (accuser_same j i))

  pub mask_wide : (members : List ℕ) (j : ℕ) → charged_mask (wide_rows n k rows) members j ≡ charged_mask rows members j
  mask_wide members j = ap (λ (f : ℕ → Bool). mask_of (ids_where f kind_room)) (fun_ext (charged_wide members j))

-- ---- new values for the nodes in use

module _ (n k : ℕ) (v w : ℕ → ℕ) (same : (j : ℕ) → w j ≡ v j) where
  values_same : (xs : List ℕ) → for_nodes n w xs ≡ for_nodes n v xs
  values_same xs = ap (λ (f : ℕ → ℕ). for_nodes n f xs) (fun_ext same)

  values_short : (xs : List ℕ) → length xs < n → for_nodes n w (wide n k xs) ≡ wide n k (for_nodes n v xs)
  values_short xs h =
      ap (for_nodes n w) (wide_short n k xs h) ∙ values_same xs
      ∙ sym (wide_short n k (for_nodes n v xs) (omega (arith, length-map-range_with_len (λ j. if nat_lt j n then v j else get_or xs j 0) 0 (length xs))))

  values_long : (xs : List ℕ) → n ≤ length xs → for_nodes n w (wide n k xs) ≡ wide n k (for_nodes n v xs)
  values_long xs h =
      let longer : List ℕ = xs ++ replicate k 0 in
      let long : length longer ≡ length xs + k = length-append xs (replicate k 0) ∙ ap (λ x. length xs + x) (length-replicate k 0) in
      let tab : map (λ j. if nat_lt j n then w j else get_or longer j 0) (ids_below (length xs + k)) ≡ for_nodes n v xs ++ replicate k 0 =
      tab_padded (λ j. if nat_lt j n then v j else get_or xs j 0) (λ j. if nat_lt j n then w j else get_or longer j 0) 0 (length xs) k
      (λ j l. at j)
      (λ j l. at j ∙ ap (λ b. if b then v j else get_or xs j 0) (le-ltb j n (omega arith)) ∙ get_or_past xs j 0 l) in
      ap (for_nodes n w) (wide_long n k xs h)
      ∙ ap (λ x. map (λ j. if nat_lt j n then w j else get_or longer j 0) (ids_below x)) long
      ∙ tab
      ∙ sym (wide_long n k (for_nodes n v xs) (omega (arith, length-map-range_with_len (λ j. if nat_lt j n then v j else get_or xs j 0) 0 (length xs))))
    where
      at : (j : ℕ) → (if nat_lt j n then w j else get_or (xs ++ replicate k 0) j 0) ≡ (if nat_lt j n then v j else get_or xs j 0)
      at j = ap (λ x. if nat_lt j n then x else get_or (xs ++ replicate k 0) j 0) (same j) ∙ ap (λ x. if nat_lt j n then v j else x) (get_padded xs k 0 j)

  pub values_wide : (xs : List ℕ) → for_nodes n w (wide n k xs) ≡ wide n k (for_nodes n v xs)
  values_wide xs = by_length n k xs (values_short xs) (values_long xs)

-- ---- members, counts, streaks, and how often each node left

pub same_standing : {a b c d a' b' c' d' : List ℕ} → a ≡ a' → b ≡ b' → c ≡ c' → d ≡ d'
    → (let s : Standing = record { members = a; counts = b; streaks = c; left = d } in s) ≡ record { members = a'; counts = b'; streaks = c'; left = d' }
same_standing {a} {b} {c} {d} {a'} {b'} {c'} {d'} ea eb ec ed =
    ap (λ x. let s : Standing = record { members = x; counts = b; streaks = c; left = d } in s) ea
    ∙ ap (λ x. let s : Standing = record { members = a'; counts = x; streaks = c; left = d } in s) eb
    ∙ ap (λ x. let s : Standing = record { members = a'; counts = b'; streaks = x; left = d } in s) ec
    ∙ ap (λ x. let s : Standing = record { members = a'; counts = b'; streaks = c'; left = x } in s) ed

module _ (policy : Policy) (n k : ℕ) (s : Standing) (v w : ℕ → ℕ) (same : (j : ℕ) → w j ≡ v j) where
  counts_wide : counts_after policy n w (wide n k s.counts) (wide n k s.streaks) ≡ wide n k (counts_after policy n v s.counts s.streaks)
  counts_wide =
      values_wide n k (λ j. count_after policy (v j) (get_or s.counts j 0) (get_or s.streaks j 0)) (λ j. count_after policy (w j) (get_or (wide n k s.counts) j 0) (get_or (wide n k s.streaks) j 0))
      (λ j. ap (λ x. count_after policy x (get_or (wide n k s.counts) j 0) (get_or (wide n k s.streaks) j 0)) (same j)
      ∙ ap (λ x. count_after policy (v j) x (get_or (wide n k s.streaks) j 0)) (get_wide n k s.counts j)
      ∙ ap (count_after policy (v j) (get_or s.counts j 0)) (get_wide n k s.streaks j)) s.counts

  streaks_wide : streaks_after policy n w (wide n k s.streaks) ≡ wide n k (streaks_after policy n v s.streaks)
  streaks_wide =
      values_wide n k (λ j. streak_after policy (v j) (get_or s.streaks j 0)) (λ j. streak_after policy (w j) (get_or (wide n k s.streaks) j 0))
      (λ j. ap (λ x. streak_after policy x (get_or (wide n k s.streaks) j 0)) (same j) ∙ ap (streak_after policy (v j)) (get_wide n k s.streaks j)) s.streaks

  left_wide : (f g : ℕ → ℕ) → g ≡ f → left_after policy n s.members g (wide n k s.left) ≡ wide n k (left_after policy n s.members f s.left)
  left_wide f g e =
      values_wide n k (λ q. times_after policy (leaves policy s.members f q) (get_or s.left q 0)) (λ q. times_after policy (leaves policy s.members g q) (get_or (wide n k s.left) q 0))
      (λ q. ap (λ (h : ℕ → ℕ). times_after policy (leaves policy s.members h q) (get_or (wide n k s.left) q 0)) e ∙ ap (times_after policy (leaves policy s.members f q)) (get_wide n k s.left q)) s.left

  get_after : ◌≡◌ {A = ℕ → ℕ} (λ j. get_or (counts_after policy n w (wide n k s.counts) (wide n k s.streaks)) j 0) (λ j. get_or (counts_after policy n v s.counts s.streaks) j 0)
  get_after = fun_ext (λ j. ap (λ xs. get_or xs j 0) counts_wide ∙ get_wide n k (counts_after policy n v s.counts s.streaks) j)

  pub standing_wide : standing_after policy n w (wide_standing n k s) ≡ wide_standing n k (standing_after policy n v s)
  unfolding standing_after
  standing_wide =
      same_standing
      (ap (λ (f : ℕ → ℕ). members_after policy n s.members f (λ j. get_or (wide n k s.left) j 0)) get_after
      ∙ ap (λ (f : ℕ → ℕ). members_after policy n s.members (λ j. get_or (counts_after policy n v s.counts s.streaks) j 0) f) (fun_ext (get_wide n k s.left)))
      counts_wide streaks_wide (left_wide _ _ get_after)

pub first_standing_wide : (c n k : ℕ) → n ≤ c → first_standing (c + k) n ≡ wide_standing n k (first_standing c n)
first_standing_wide c n k h =
    let zeros : replicate (c + k) 0 ≡ wide n k (replicate c 0) = sym (replicate-append-replicate c k 0) ∙ sym (wide_long n k (replicate c 0) (omega (arith, length-replicate {A = ℕ} c 0))) in
    same_standing refl zeros zeros zeros
