-- Agreed states with places for further nodes have the same bodies, and bodies are read to the same states.
use Rattle.std.proofs.Common.{ℕ, zero, suc, ◌≡◌, ◌<◌, ◌≤◌, ◌+◌, ◌*◌, Bool, true, false, not, ◌&&◌, ◌==◌, List, [], ◌∷◌, ◌++◌, map, length, take, replicate, get_or, Option, None, Some, refl, sym, ap, subst, ◌∙◌, inl, inr, arith, le-ltb, ltb-true}
use Rattle.std.proofs.Math.Path.{fun_ext}
use Rattle.std.specs.Prelude.{if◌then◌else◌, nat_lt, nat_le}
use Rattle.std.specs.List.{flat_map, list_all}
use Rattle.std.specs.Option.{option_map}
use Rattle.std.specs.Int.{w16, to_be_bytes}
use Rattle.std.proofs.lemmas.Bool.{cases_Bool, and_parts, cond-true, cond-false}
use Rattle.std.proofs.lemmas.List.{map-append}
use Rattle.node_grid.specs.NodeSet.{ids_below, has_id, mask_of}
use Rattle.node_grid.specs.ListLaws.{all_at}
use Rattle.node_grid.specs.NumberFacts.{above_zero}
use Rattle.task_graph.specs.Graph.{task_at}
use Rattle.omh_paths.specs.declared.wrapped.Wrapped.{Wrapped}
use Rattle.omh_paths.specs.declared.wrapped.Wrapped.TheVariants.{Plain, Fault}
use Rattle.omh_paths.specs.Wrapped.{same, is_error}
use Rattle.omh_paths.specs.Majority.{has_majority, first_majority, majority}
use Rattle.omh_paths.specs.Paths.{same_nodes}
use Rattle.node_grid.specs.Count.{count, bit}
use Rattle.list_scheduler.specs.declared.copies.CopyState.{CopyState}
use Rattle.list_scheduler.specs.declared.copies.CopyState.TheVariants.{Idle}
use Rattle.list_scheduler.specs.Copies.{CopyTable, copy_at, table}
use Rattle.membership.specs.Members.{Standing}
use Rattle.agreed_state.specs.declared.config.Config.{Config}
use Rattle.agreed_state.specs.Agreed.{AgreedView}
use Rattle.agreed_state.specs.Body.{copy_word, copy_words, left_room, words, body, state_len, numbers_in, words_at, copy_in, copy_of, state_in, is_copy, is_running, is_counted, is_left_told, is_state, read_body}
use Rattle.agreed_state.specs.Adoption.{given, state_read, adopted}
use Rattle.two_capacities.specs.Wider.{wide, wide_copies, wide_config, wide_agreed}
use Rattle.two_capacities.proofs.Lists.{get_wide, take_wide, tab_wide}
use Rattle.two_capacities.proofs.Copies.{copies_wide, IsNarrow, table_wide, table_narrow, AreBelow}
use Rattle.two_capacities.proofs.Standings.{same_standing}

-- ---- a configuration, and a state

pub same_agreed : {s s' : Standing} {t t' : CopyTable} → s ≡ s' → t ≡ t' → (let a : AgreedView = record { standing = s; copies = t } in a) ≡ record { standing = s'; copies = t' }
same_agreed {s} {s'} {t} {t'} e f = ap (λ x. let a : AgreedView = record { standing = x; copies = t } in a) e ∙ ap (λ x. let a : AgreedView = record { standing = s'; copies = x } in a) f

-- no node from c on is a member, or has a copy that isn't idle
pub record IsBelow (c : ℕ) (a : AgreedView) : Type 0 where
  pub members : AreBelow c a.standing.members
  pub copies : IsNarrow c a.copies

abbrev pub IsBelowIf : ℕ → Option AgreedView → Type 0
IsBelowIf c None = Unit {0}
IsBelowIf c (Some a) = IsBelow c a

-- ---- errors behind a list change no majority

no_more : (test : Wrapped (List ℕ) → Bool) (xs : List (Wrapped (List ℕ))) (j : ℕ) → test (Fault 0) ≡ false → count test (xs ++ replicate j (Fault 0)) ≡ count test xs
no_more test [] zero h = refl
no_more test [] (suc j) h = ap (λ b. bit b + count test (replicate j (Fault 0))) h ∙ omega (arith, no_more test [] j h)
no_more test (x ∷ xs) j h = ap (λ n. bit (test x) + n) (no_more test xs j h)

never : (all : List (Wrapped (List ℕ))) → has_majority same_nodes all (Fault 0) ≡ false
never all = refl

still : (all : List (Wrapped (List ℕ))) (j : ℕ) (x : Wrapped (List ℕ)) → has_majority same_nodes (all ++ replicate j (Fault 0)) x ≡ has_majority same_nodes all x
still all j (Plain v) =
    ap (λ n. nat_lt n (2 * count (same same_nodes (Plain v)) (all ++ replicate j (Fault 0)))) (no_more (λ y. not (is_error y)) all j refl)
    ∙ ap (λ n. nat_lt (count (λ y. not (is_error y)) all) (2 * n)) (no_more (same same_nodes (Plain v)) all j refl)
still all j (Fault zero) = refl
still all j (Fault (suc i)) =
    ap (λ n. not (suc i == 0) && nat_lt n (2 * count (same same_nodes (Fault (suc i))) (all ++ replicate j (Fault 0)))) (no_more (λ y. not (is_error y)) all j refl)
    ∙ ap (λ n. not (suc i == 0) && nat_lt (count (λ y. not (is_error y)) all) (2 * n)) (no_more (same same_nodes (Fault (suc i))) all j (above_zero i))

past : (all : List (Wrapped (List ℕ))) (j : ℕ) → first_majority same_nodes all (replicate j (Fault 0)) ≡ Fault 1
past all zero = refl
past all (suc j) = past all j

first_still : (all : List (Wrapped (List ℕ))) (j : ℕ) (xs : List (Wrapped (List ℕ))) → first_majority same_nodes (all ++ replicate j (Fault 0)) (xs ++ replicate j (Fault 0)) ≡ first_majority same_nodes all xs
first_still all j [] = past (all ++ replicate j (Fault 0)) j
first_still all j (x ∷ xs) =
    ap (λ b. if b then x else first_majority same_nodes (all ++ replicate j (Fault 0)) (xs ++ replicate j (Fault 0))) (still all j x)
    ∙ ap (λ y. if has_majority same_nodes all x then x else y) (first_still all j xs)

more_errors : (all : List (Wrapped (List ℕ))) (k : ℕ) → majority same_nodes (all ++ replicate k (Fault 0)) ≡ majority same_nodes all
unfolding majority
more_errors all k = first_still all k all

-- ---- from a state to its body

module _ (c k : ℕ) (g : Config c) where
  take_left : (xs : List ℕ) (b : Bool) → take (if b then 0 else g.nodes) (wide g.nodes k xs) ≡ take (if b then 0 else g.nodes) xs
  take_left xs true = refl
  take_left xs false = take_wide g.nodes k xs

  pub words_wide : (a : AgreedView) → words (wide_config k g) (wide_agreed g.nodes k a) ≡ words g a
  unfolding words
  words_wide a =
      ap (λ xs. mask_of a.standing.members ∷ (xs ++ (take g.nodes (wide g.nodes k a.standing.streaks) ++ (take (left_room g) (wide g.nodes k a.standing.left) ++ copy_words g.graph (wide_copies k a.copies))))) (take_wide g.nodes k a.standing.counts)
      ∙ ap (λ xs. mask_of a.standing.members ∷ (take g.nodes a.standing.counts ++ (xs ++ (take (left_room g) (wide g.nodes k a.standing.left) ++ copy_words g.graph (wide_copies k a.copies))))) (take_wide g.nodes k a.standing.streaks)
      ∙ ap (λ xs. mask_of a.standing.members ∷ (take g.nodes a.standing.counts ++ (take g.nodes a.standing.streaks ++ (xs ++ copy_words g.graph (wide_copies k a.copies))))) (take_left a.standing.left (g.version == 1))
      ∙ ap (λ xs. mask_of a.standing.members ∷ (take g.nodes a.standing.counts ++ (take g.nodes a.standing.streaks ++ (take (left_room g) a.standing.left ++ xs)))) copies
    where
      copies : copy_words g.graph (wide_copies k a.copies) ≡ copy_words g.graph a.copies
      copies = ap (λ (f : ℕ → ℕ → CopyState). flat_map (λ t. map (λ q. copy_word (f t q)) (ids_below g.graph.nodes)) (ids_below (length g.graph.tasks))) (copies_wide k a.copies)

  pub body_wide : (a : AgreedView) → body (wide_config k g) (wide_agreed g.nodes k a) ≡ body g a
  body_wide a = ap (flat_map (to_be_bytes w16)) (words_wide a)

  -- ---- from bytes to a state

  module _ (few : g.nodes ≤ c) (few_graph : g.graph.nodes ≤ c) where
    few_left : (b : Bool) → (if b then 0 else g.nodes) ≤ c
    few_left true = omega arith
    few_left false = few

    words_padded : (room j : ℕ) (ws : List ℕ) → room ≤ c → words_at (c + k) room j ws ≡ wide g.nodes k (words_at c room j ws)
    words_padded room j ws h = tab_wide g.nodes k _ _ c few (λ i l. refl) (λ i l. ap (λ b. if b then get_or ws (j + i) 0 else 0) (le-ltb i room (omega arith)))

    copies_padded : (j : ℕ) (ws : List ℕ) → table (c + k) (copy_in g.graph j ws) ≡ wide_copies k (table c (copy_in g.graph j ws))
    copies_padded j ws = table_wide _ _ c k (λ t q h. refl) (λ t q h. idle t q (nat_lt t (length g.graph.tasks)) (le-ltb q g.graph.nodes (omega arith))) where
      idle : (t q : ℕ) (b : Bool) → nat_lt q g.graph.nodes ≡ false → (if b && nat_lt q g.graph.nodes then copy_of (get_or ws (j + t * g.graph.nodes + q) 0) else Idle) ≡ Idle
      idle t q true e = ap (λ x. if x then copy_of (get_or ws (j + t * g.graph.nodes + q) 0) else Idle) e
      idle t q false e = refl

    pub state_wide : (ws : List ℕ) → state_in (c + k) (wide_config k g) ws ≡ wide_agreed g.nodes k (state_in c g ws)
    unfolding state_in
    state_wide ws =
        same_agreed
        (same_standing refl (words_padded g.nodes 1 ws few) (words_padded g.nodes (1 + g.nodes) ws few) (words_padded (left_room g) (1 + 2 * g.nodes) ws (few_left (g.version == 1))))
        (copies_padded (1 + 2 * g.nodes + left_room g) ws)

    pub still_state : (a : AgreedView) → is_state (wide_config k g) (wide_agreed g.nodes k a) ≡ is_state g a
    unfolding is_state
    still_state a =
        ap (λ (left : ℕ → ℕ). start && list_all (λ q. nat_lt (left q) 65536) ids && list_all (is_counted g.policy (wide g.nodes k a.standing.counts) (wide g.nodes k a.standing.streaks)) ids && tasks (copy_at (wide_copies k a.copies)) && runs (copy_at (wide_copies k a.copies)))
        (fun_ext (get_wide g.nodes k a.standing.left))
        ∙ ap (λ (count : ℕ → ℕ). start && list_all (is_left_told a.standing.left) ids && list_all (λ q. nat_le (count q) g.policy.cap && nat_lt (get_or (wide g.nodes k a.standing.streaks) q 0) g.policy.streak) ids && tasks (copy_at (wide_copies k a.copies)) && runs (copy_at (wide_copies k a.copies)))
        (fun_ext (get_wide g.nodes k a.standing.counts))
        ∙ ap (λ (streak : ℕ → ℕ). start && list_all (is_left_told a.standing.left) ids && list_all (λ q. nat_le (get_or a.standing.counts q 0) g.policy.cap && nat_lt (streak q) g.policy.streak) ids && tasks (copy_at (wide_copies k a.copies)) && runs (copy_at (wide_copies k a.copies)))
        (fun_ext (get_wide g.nodes k a.standing.streaks))
        ∙ ap (λ (f : ℕ → ℕ → CopyState). start && list_all (is_left_told a.standing.left) ids && list_all (is_counted g.policy a.standing.counts a.standing.streaks) ids && tasks f && runs f) (copies_wide k a.copies)
      where
        start : Bool
        start = nat_lt 0 (length a.standing.members) && list_all (λ q. nat_lt q g.nodes) a.standing.members

        ids : List ℕ
        ids = ids_below g.nodes

        tasks : (ℕ → ℕ → CopyState) → Bool
        tasks f = list_all (λ t. list_all (λ q. is_copy (task_at g.graph.tasks t).max (has_id (task_at g.graph.tasks t).nodes q) (f t q)) ids) (ids_below (length g.graph.tasks))

        runs : (ℕ → ℕ → CopyState) → Bool
        runs f = list_all (λ q. nat_le (count (λ t. is_running (f t q)) (ids_below (length g.graph.tasks))) (bit (has_id a.standing.members q))) ids

    pub read_wide : (bytes : List ℕ) → read_body (c + k) (wide_config k g) bytes ≡ option_map (wide_agreed g.nodes k) (read_body c g bytes)
    unfolding read_body
    read_wide bytes =
        ap (λ a. if length bytes == state_len g && is_state (wide_config k g) a then Some a else None) (state_wide (numbers_in bytes))
        ∙ ap (λ b. if length bytes == state_len g && b then Some (wide_agreed g.nodes k (state_in c g (numbers_in bytes))) else None) (still_state (state_in c g (numbers_in bytes)))
        ∙ either (length bytes == state_len g && is_state g (state_in c g (numbers_in bytes))) (state_in c g (numbers_in bytes))
      where
        either : (b : Bool) (a : AgreedView) → (if b then Some (wide_agreed g.nodes k a) else None) ≡ option_map (wide_agreed g.nodes k) (if b then Some a else None)
        either true a = refl
        either false a = refl

    state_below : (a : AgreedView) → is_state g a ≡ true → AreBelow c a.standing.members
    unfolding is_state
    state_below a h q l =
        let start = (and_parts _ _ (and_parts _ _ (and_parts _ _ (and_parts _ _ h).0).0).0).0 in
        let all : list_all (λ q. nat_lt q g.nodes) a.standing.members ≡ true = (and_parts (nat_lt 0 (length a.standing.members)) (list_all (λ q. nat_lt q g.nodes) a.standing.members) start).1 in
        elim (cases_Bool (has_id a.standing.members q)) [
          | inl on ↦ let small : q < g.nodes = ltb-true _ _ (all_at (λ q. nat_lt q g.nodes) a.standing.members q all on) in absurd (omega arith)
          | inr off ↦ off
        ]

    state_narrow : (ws : List ℕ) → IsNarrow c (state_in c g ws).copies
    unfolding state_in
    state_narrow ws = table_narrow c _

    pub read_below : (bytes : List ℕ) → IsBelowIf c (read_body c g bytes)
    unfolding read_body
    read_below bytes = either (state_in c g (numbers_in bytes)) (length bytes == state_len g) (state_narrow (numbers_in bytes)) where
      either : (a : AgreedView) (b : Bool) → IsNarrow c a.copies → IsBelowIf c (if b && is_state g a then Some a else None)
      either a b narrow = elim (cases_Bool (b && is_state g a)) [
        | inl e ↦ subst (IsBelowIf c) (sym (cond-true (b && is_state g a) (Some a) None e)) (record { members = state_below a (and_parts b (is_state g a) e).1; copies = narrow })
        | inr e ↦ subst (IsBelowIf c) (sym (cond-false (b && is_state g a) (Some a) None e)) tt
      ]

    -- ---- adoption

    of_read : (w : Wrapped (List ℕ)) → state_read (c + k) (wide_config k g) w ≡ option_map (wide_agreed g.nodes k) (state_read c g w)
    of_read (Plain bytes) = read_wide bytes
    of_read (Fault j) = refl

    of_read_below : (w : Wrapped (List ℕ)) → IsBelowIf c (state_read c g w)
    of_read_below (Plain bytes) = read_below bytes
    of_read_below (Fault j) = tt

    pub adopted_below : (bodies : List (Option (List ℕ))) → IsBelowIf c (adopted c g bodies)
    unfolding adopted
    adopted_below bodies = of_read_below (majority same_nodes (map given bodies))

    pub adopted_wide : (bodies : List (Option (List ℕ))) → adopted (c + k) (wide_config k g) (bodies ++ replicate k None) ≡ option_map (wide_agreed g.nodes k) (adopted c g bodies)
    unfolding adopted
    adopted_wide bodies =
        ap (state_read (c + k) (wide_config k g)) (ap (majority same_nodes) (map-append given bodies (replicate k None) ∙ ap (λ xs. map given bodies ++ xs) (none_given k)) ∙ more_errors (map given bodies) k)
        ∙ of_read (majority same_nodes (map given bodies))
      where
        none_given : (j : ℕ) → map given (replicate j None) ≡ replicate j (Fault 0)
        none_given zero = refl
        none_given (suc j) = ap (λ xs. Fault 0 ∷ xs) (none_given j)
