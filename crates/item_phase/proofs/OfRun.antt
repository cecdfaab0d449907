-- What a node hears in a phase of a run is what it hears in the run.
use Rattle.std.proofs.Common.{ℕ, ◌≡◌, ◌<◌, ◌==◌, ◌&&◌, ◌||◌, Bool, true, List, [], ◌∷◌, refl, sym, ap, ap₂, ◌∙◌, inl, inr, arith, eq-eqb, ne_eqb}
use Rattle.std.specs.Prelude.{if◌then◌else◌}
use Rattle.std.specs.List.{list_any, range_with_len}
use Rattle.std.proofs.lemmas.Bool.{cases_Bool, cases_eq, cond-true, cond-false}
use Rattle.node_grid.specs.NodeSet.{has_id}
use Rattle.omh_paths.specs.declared.wrapped.Wrapped.{Wrapped}
use Rattle.omh_paths.specs.declared.wrapped.Wrapped.TheVariants.{Fault}
use Rattle.omh.specs.Omh.{Ear, settled_from, settled_at}
use Rattle.omh.specs.HeardLaws.{settled_as, IsHeardPath-root}
use Rattle.equivocation.specs.Conviction.{convicts}
use Rattle.equivocation.specs.ConvictionLaws.{convicts_alike}
use Rattle.protocol.specs.Arrival.{Arrival, ItemForm, is_bad}
use Rattle.protocol.specs.FurtherKinds.{convicts_member}
use Rattle.protocol.specs.Heard.{heard, rounds_bad}
use Rattle.protocol.specs.Talk.{Talk, rounds_upto}
use Rattle.protocol.specs.Run.{System}
use Rattle.protocol.specs.Accepted.{IsAccepted}
use Rattle.safety.proofs.Talks.{FormFits}
use Rattle.touched_items.specs.Items.{talk_of, EntryForm, AreEntries, Sizes, sizes_in}
use Rattle.heard_links.specs.declared.links.Links.{Links}
use Rattle.heard_links.specs.declared.phase.Phase.{Phase}
use Rattle.heard_links.specs.Talks.{members_at, IsSet, IsPhaseOf}
use Rattle.heard_links.specs.Hearing.{item_of, talk_in}
use Rattle.heard_links.proofs.Runs.{heard_is, first_is, relay_same}
use Rattle.heard_links.proofs.Sets.{in_use}
use Rattle.item_phase.specs.Settled.{listener}
use Rattle.item_phase.specs.Laws.{heard_in, IsOfRun}
use Rattle.item_phase.proofs.Accounts.{one_within, two_within}

any_alike : (f g : ℕ → Bool) (xs : List ℕ) → ((r : ℕ) → f r ≡ g r) → list_any f xs ≡ list_any g xs
any_alike f g [] same = refl
any_alike f g (x ∷ xs) same = ap₂ ◌||◌ (same x) (any_alike f g xs same)

module _ {V : Type 0} {N : ℕ} (eq : V → V → Bool) (form : ItemForm V) (first : ℕ → ℕ) (tells : System → ℕ → ℕ → V) (cells : EntryForm V) (in_range : Sizes → V → Type 0) (made : AreEntries form cells in_range)
    (fits : (sys : System) → IsAccepted sys → (p : ℕ) → FormFits (in_range (sizes_in sys)) (talk_of form first tells sys p) sys.setting.config.m)
    (sys : System) (x : Phase N) (links : Links V N) (set : IsSet x) (run : IsPhaseOf form first tells sys x (item_of links)) (i : ℕ) (on : has_id x.awake i ≡ true) where
  abbrev t : Talk V
  t = talk_in form x links

  abbrev u : Talk V
  u = talk_of form first tells sys x.period

  abbrev m : ℕ
  m = x.config.now.m

  abbrev mine : Ear V
  mine = listener form x links i

  abbrev its : Ear V
  its = heard_in form first tells sys x i

  low_i : i < x.config.now.nodes
  low_i = set.awake i on

  hears_same : (path : List ℕ) → ((q : ℕ) → has_id path q ≡ true → has_id (members_at x i) q ≡ true) → heard (rounds_upto t m i) path ≡ heard (rounds_upto u m i) path
  hears_same path within = heard_is form first tells cells in_range made fits x (item_of links) set sys run m i path (omega arith) low_i (λ q at. in_use x set i q (within q at))

  settles_same : (own : Wrapped V) (c : ℕ) → has_id (members_at x i) c ≡ true → settled_from eq mine own c ≡ settled_from eq its own c
  settles_same own c member = elim (cases_eq c i) [
    | inl e ↦ cond-true (c == i) (if has_id x.full i then own else Fault 0) (settled_at eq mine (c ∷ [])) (eq-eqb c i e)
        ∙ sym (cond-true (c == i) (if has_id x.full i then own else Fault 0) (settled_at eq its (c ∷ [])) (eq-eqb c i e))
    | inr ne ↦ cond-false (c == i) (if has_id x.full i then own else Fault 0) (settled_at eq mine (c ∷ [])) (ne_eqb c i ne)
        ∙ settled_as eq mine (heard (rounds_upto u m i)) (λ p real. hears_same p real.within) (c ∷ []) (IsHeardPath-root m c member ne)
        ∙ sym (cond-false (c == i) (if has_id x.full i then own else Fault 0) (settled_at eq its (c ∷ [])) (ne_eqb c i ne))
  ]

  convicts_same : (c : ℕ) → convicts_member eq mine c ≡ convicts_member eq its c
  convicts_same c = elim (cases_Bool (has_id (members_at x i) c)) [
    | inl at ↦ ap (λ (b : Bool). has_id (members_at x i) c && b)
        (convicts_alike eq mine its c refl refl refl refl (hears_same (c ∷ []) (λ q h. one_within (members_at x i) c q at h))
        (λ b member off. hears_same (c ∷ b ∷ []) (λ q h. two_within (members_at x i) c b q at member h)))
    | inr none ↦ ap (λ (b : Bool). b && convicts eq mine c) none ∙ sym (ap (λ (b : Bool). b && convicts eq its c) none)
  ]

  finds_same : (j e : ℕ) → j < x.config.now.nodes → rounds_bad m (rounds_upto t m i) j e ≡ rounds_bad m (rounds_upto u m i) j e
  finds_same j e low =
      ap₂ ◌||◌ (ap (λ (a : Arrival V). is_bad a e) (first_is form first tells cells in_range made fits x (item_of links) set sys run i j low_i low))
      (any_alike (λ r. is_bad ((rounds_upto t m i).relay r j) e) (λ r. is_bad ((rounds_upto u m i).relay r j) e) (range_with_len 1 m)
      (λ r. ap (λ (a : Arrival (List ℕ → Wrapped V)). is_bad a e) (relay_same form first tells cells in_range made fits x (item_of links) set sys run r i j low_i low)))

  pub is_of_run : IsOfRun eq form first tells sys x links i
  is_of_run = record { settled = settles_same; convicted = λ c ne. convicts_same c; bad = λ j e low ne. finds_same j e low }
