-- What nodes keep before the first period.
use Rattle.std.proofs.Common.{ℕ, ℤ, ◌≡◌, ◌<◌, ◌≤◌, if◌then◌else◌, List, [], length, replicate, Option, None, Some, sym, ap, subst, ◌∙◌, inl, inr, arith, nat_lt, lt-ltb}
use Rattle.std.specs.Prelude.{is_some}
use Rattle.std.proofs.lemmas.Bool.{cases_lt, cond-true, cond-false, false≢true, le-ltb}
use Rattle.std.proofs.lemmas.List.{get_or-replicate}
use Rattle.std.proofs.lemmas.List.FromFn.{get_or-map-range_with_len, length-map-range_with_len}
use Rattle.node_grid.specs.Version.{kind_count}
use Rattle.error_reports.specs.Notes.{Notes}
use Rattle.agreed_state.specs.Config.{IsConfig}
use Rattle.agreed_state.specs.Agreed.{AgreedView, IsAgreed, first_agreed}
use Rattle.agreed_state.specs.AgreedLaws.{first-agreed}
use Rattle.scenario.specs.Scenario.{ScenarioView}
use Rattle.shared_states.specs.Sharing.{state_at, first_states}
use Rattle.at_once.specs.declared.keeping.Keeping.{Keeping}
use Rattle.at_once.specs.Kept.{notes_at, of_node, AreShaped, AreUsed, AreKept, IsBlank}
use Rattle.at_once.proofs.Beginnings.{none_past}

module _ {N : ℕ} (sc : ScenarioView N) (ok : IsConfig N sc.config) where
  -- ---- the states

  abbrev first_of_node : ℕ → Option AgreedView
  first_of_node i = if nat_lt i sc.config.nodes then Some (first_agreed N sc.config) else None

  state_within : (i : ℕ) → i < N → state_at (first_states N sc.config) i ≡ first_of_node i
  state_within i within = get_or-map-range_with_len first_of_node 0 N i i None within (omega arith)

  state_used : (i : ℕ) → i < sc.config.nodes → state_at (first_states N sc.config) i ≡ Some (first_agreed N sc.config)
  state_used i low =
      state_within i (let few = ok.few_nodes in omega arith)
      ∙ cond-true (nat_lt i sc.config.nodes) (Some (first_agreed N sc.config)) None (lt-ltb i sc.config.nodes low)

  state_unused : (i : ℕ) → sc.config.nodes ≤ i → state_at (first_states N sc.config) i ≡ None
  state_unused i high = elim (cases_lt i N) [
    | inl within ↦ state_within i within ∙ cond-false (nat_lt i sc.config.nodes) (Some (first_agreed N sc.config)) None (le-ltb i sc.config.nodes high)
    | inr beyond ↦ none_past (first_states N sc.config) i (let long = length-map-range_with_len first_of_node 0 N in omega (arith, long, beyond))
  ]

  some_same : (a b : AgreedView) → Some a ≡ Some b → a ≡ b
  some_same a b e = cc

  used_first : AreUsed sc.config (first_states N sc.config)
  used_first = record {
    agreed = λ i a e. elim (cases_lt i sc.config.nodes) [
      | inl low ↦ subst (λ (x : AgreedView). IsAgreed N sc.config x) (some_same (first_agreed N sc.config) a (sym (state_used i low) ∙ e)) (first-agreed N sc.config ok)
      | inr high ↦ absurd (let clash : None ≡ Some a = sym (state_unused i high) ∙ e in cc)
    ];
    used = λ i on. elim (cases_lt i sc.config.nodes) [
      | inl low ↦ low
      | inr high ↦ absurd (false≢true (ap is_some (sym (state_unused i high)) ∙ on))
    ];
  }

  -- ---- what they keep beside

  abbrev blank_note : ℕ → Notes
  blank_note i = record { nodes = sc.config.nodes; me = i; kinds = kind_count sc.config.version; row = replicate N 0; carried = replicate N 0 }

  module _ (k : Keeping N) (blank : IsBlank sc.config k) where
    noted_at : (i : ℕ) → i < sc.config.nodes → notes_at k.notes i ≡ blank_note i
    noted_at i low =
        ap (λ (xs : List Notes). notes_at xs i) blank.notes
        ∙ get_or-map-range_with_len blank_note 0 N i i _ (let few = ok.few_nodes in omega arith) (omega arith)

    valued_at : (values : List (List (Option ℤ))) → values ≡ replicate N (replicate 8 None) → (i : ℕ) → i < sc.config.nodes → of_node values i ≡ replicate 8 None
    valued_at values are i low =
        ap (λ (xs : List (List (Option ℤ))). of_node xs i) are ∙ get_or-replicate N i (replicate 8 None) [] (let few = ok.few_nodes in omega arith)

    shaped_first : AreShaped {N = N} sc.config k.notes
    shaped_first = record {
      many = ap length blank.notes ∙ length-map-range_with_len blank_note 0 N;
      nodes = λ i low. ap (λ (x : Notes). x.nodes) (noted_at i low);
      me = λ i low. ap (λ (x : Notes). x.me) (noted_at i low);
      kinds = λ i low. ap (λ (x : Notes). x.kinds) (noted_at i low);
    }

    first_kept : AreKept sc 0 (first_states N sc.config) k
    first_kept = record {
      used = used_first;
      shaped = shaped_first;
      states_are = state_used;
      carried = λ i low. ap (λ (x : Notes). x.carried) (noted_at i low);
      votes = valued_at k.votes blank.votes;
      owns = valued_at k.owns blank.owns;
    }

    -- all that they keep is what all begin with
    pub kept_first : (states : List (Option AgreedView)) → states ≡ first_states N sc.config → AreKept sc 0 states k
    kept_first states are = subst (λ (xs : List (Option AgreedView)). AreKept sc 0 xs k) (sym are) first_kept
