-- What a sound node says is in the range of what is expected of it.
use Rattle.std.proofs.Common.{ℕ, ◌≡◌, ◌≢◌, ◌<◌, ◌≤◌, ◌+◌, ◌-◌, ◌*◌, ◌^◌, ◌==◌, Bool, true, false, List, [], map, length, Option, None, Some, refl, sym, ap, ap₂, subst, ◌∙◌, arith, eq-eqb, ne_eqb, eqb-true}
use Rattle.std.specs.Prelude.{All, IfSome, if◌then◌else◌, nat_le}
use Rattle.std.proofs.lemmas.Bool.{cond-true, cond-false, eqb-false}
use Rattle.std.proofs.lemmas.Bool.Decides.{nat_tests}
use Rattle.std.proofs.lemmas.List.{length-map}
use Rattle.node_grid.specs.NodeSet.{has_id}
use Rattle.node_grid.specs.NodeSetLaws.{length-ids}
use Rattle.node_grid.specs.Count.{Distinct}
use Rattle.node_grid.specs.NumberFacts.{le_from}
use Rattle.omh_paths.specs.Wrapped.{wrapped}
use Rattle.omh_paths.specs.Paths.{path_count}
use Rattle.omh.specs.Heard.{Hearing, heard_in}
use Rattle.frames.specs.Content.{Expectation, kind_in, round_in, entries_due, IsClaim, IsRow, IsEntry, IsValue}
use Rattle.frames.specs.Content.Content.{State, Done0, DoneRelay, Data, Report0, ReportRelay}
use Rattle.frames.specs.Spelling.{IsInRange}
use Rattle.frames.specs.Laws.{IsLaidOut}
use Rattle.frames.specs.ReadingLaws.{is_short, cold_in_range}
use Rattle.frames.specs.Facts.{value_kind}
use Rattle.agreed_state.specs.ConfigLaws.{few_rounds}
use Rattle.agreed_state.specs.Config.{IsConfig}
use Rattle.agreed_state.specs.Agreed.{AgreedView, IsAgreed}
use Rattle.agreed_state.specs.Body.{body}
use Rattle.agreed_state.specs.ReadLaws.{length-body, state_len-short}
use Rattle.protocol.specs.Heard.{paths_of}
use Rattle.protocol.specs.View.{own_claim, own_in}
use Rattle.protocol.specs.Run.{members_in}
use Rattle.node_steps.specs.Parts.{NodeView}
use Rattle.relay_rules.specs.Relaying.{relays}
use Rattle.node_steps.specs.Sound.{HasSizes, Hears, IsInSlot, IsSound}
use Rattle.node_steps.specs.Steps.{expected_in, own_in_slot, said_by}
use Rattle.node_steps.specs.PremiseLaws.{few_due, goes_agreed, goes_distinct, done_hears, rows_hears, claims_pass, rows_pass}
use Rattle.protocol.specs.ClaimLaws.{own_claim_fits}
use Rattle.protocol.specs.TalkLaws.{entries_number}
use Rattle.protocol.specs.Configured.{setting_of}
use Rattle.node_steps.specs.NoValueLaws.{all_sent}
use Rattle.node_steps.specs.SoundSteps.{gt_told}

pick : {X : Type 0} (P : X → Type 0) (b : Bool) (x y : X) → (b ≡ true → P x) → (b ≡ false → P y) → P (if b then x else y)
pick P true x y f g = f refl
pick P false x y f g = g refl

kind_3 : (m t : ℕ) → 1 < t → t ≤ m + 1 → kind_in m t ≡ 3
kind_3 m t a b = grind (arith, nat_tests)

kind_5 : (m : ℕ) → kind_in m (m + 3) ≡ 5
kind_5 m = grind (arith, nat_tests)

kind_6 : (m t : ℕ) → m + 3 < t → t ≤ 2 * m + 3 → kind_in m t ≡ 6
kind_6 m t a b = grind (arith, nat_tests)

round_3 : (m t : ℕ) → t ≤ m + 1 → round_in m t ≡ t - 1
round_3 m t h = cond-true (nat_le t (m + 1)) _ _ (early m t h) where
  early : (m t : ℕ) → t ≤ m + 1 → nat_le t (m + 1) ≡ true
  early m t h = grind (arith, nat_tests)

round_6 : (m t : ℕ) → m + 1 < t → round_in m t ≡ t - (m + 3)
round_6 m t h = cond-false (nat_le t (m + 1)) _ _ (late m t h) where
  late : (m t : ℕ) → m + 1 < t → nat_le t (m + 1) ≡ false
  late m t h = grind (arith, nat_tests)

-- how many entries it passes on
relays_number : {V : Type 0} (h : Hearing V) (a : AgreedView) (me r : ℕ) (e : Expectation) → Distinct a.standing.members → Hears h me a → e.members ≡ a.standing.members → e.sender ≡ me → round_in e.m e.slot ≡ r → length (relays h r) ≡ entries_due e
relays_number h a me r e d hears ms is round =
    length-map (paths_of h.members r h.me) (λ path. wrapped (heard_in h.heard path))
    ∙ ap₂ (λ (xs : List ℕ) (i : ℕ). length (paths_of xs r i)) hears.members hears.me_is
    ∙ entries_number a.standing.members r me d
    ∙ ap (λ (n : ℕ). if has_id a.standing.members me then path_count (length a.standing.members - 1) n else 0) (sym round)
    ∙ ap₂ (λ (xs : List ℕ) (i : ℕ). if has_id xs i then path_count (length xs - 1) (round_in e.m e.slot) else 0) (sym ms) (sym is)

module _ {N : ℕ} (v : NodeView N) (small : N ≤ 16) (ok : IsConfig N v.config) (sound : IsSound v) (open' : v.phase.is_open ≡ true) where
  laid_out : IsLaidOut (expected_in v v.phase.slot)
  laid_out = record {
    nodes = (let f = ok.few_nodes in omega arith);
    rounds = few_rounds N v.config ok;
    members = pick (λ (xs : List ℕ). length xs ≤ 16) (v.phase.slot == 0) [] (members_in v.phase.before) (λ y. omega arith) (λ n. few v.phase.before sound.sizes.before);
    state_len = (let l = state_len-short N v.config small ok in omega arith);
    due = pick (λ (n : ℕ). n < 2 ^ 8) (v.phase.slot == v.config.m + 2) (length v.found.due) 0 (λ y. (let f = few_due v ok sound.sizes in omega arith)) (λ n. omega arith);
  }
    where
      few : (o : Option AgreedView) → IfSome o (λ b. IsAgreed N v.config b) → length (members_in o) ≤ 16
      few None x = omega arith
      few (Some a) x = let l = length-ids v.config.nodes a.standing.members x.standing.set in let f = ok.few_nodes in omega arith

  -- what it says of itself and of what it heard, where its values are in range
  own_fits : (a : AgreedView) → v.phase.before ≡ Some a → (v.phase.slot ≡ v.config.m + 2 → All IsValue (map (own_in v.found.own) v.found.due)) → IsInRange (expected_in v v.phase.slot) (own_in_slot v a)
  own_fits a goes values =
      pick (IsInRange (expected_in v v.phase.slot)) (v.phase.slot == 0) _ _ (λ y. state (eqb-true v.phase.slot 0 y))
      (λ n0. pick (IsInRange (expected_in v v.phase.slot)) (v.phase.slot == 1) _ _ (λ y. claim (eqb-true v.phase.slot 1 y))
      (λ n1. pick (IsInRange (expected_in v v.phase.slot)) (nat_le v.phase.slot (v.config.m + 1)) _ _ (λ y. claims (eqb-false v.phase.slot 0 n0) (eqb-false v.phase.slot 1 n1) (le_from v.phase.slot (v.config.m + 1) y))
      (λ n2. pick (IsInRange (expected_in v v.phase.slot)) (v.phase.slot == v.config.m + 2) _ _ (λ y. data' (eqb-true v.phase.slot (v.config.m + 2) y))
      (λ n3. pick (IsInRange (expected_in v v.phase.slot)) (v.phase.slot == v.config.m + 3) _ _ (λ y. row (eqb-true v.phase.slot (v.config.m + 3) y))
      (λ n4. rows (gt_told v.phase.slot (v.config.m + 1) n2) (eqb-false v.phase.slot (v.config.m + 2) n3) (eqb-false v.phase.slot (v.config.m + 3) n4))))))
    where
      s : IsInSlot v
      s = sound.in_slot open'

      h : HasSizes v
      h = sound.sizes

      ex : Expectation
      ex = expected_in v v.phase.slot

      members : 0 < v.phase.slot → ex.members ≡ a.standing.members
      members later = cond-false (v.phase.slot == 0) [] (members_in v.phase.before) (ne_eqb v.phase.slot 0 (λ z. absurd (omega arith))) ∙ ap members_in goes

      state : v.phase.slot ≡ 0 → IsInRange ex (State (body v.config a))
      state z = is_short ex (State (body v.config a)) laid_out (sym (ap (kind_in v.config.m) z)) (length-body N v.config a small ok (goes_agreed v a h goes))

      claim : v.phase.slot ≡ 1 → IsInRange ex (Done0 (own_claim v.phase.me v.phase.inputs a))
      claim z = is_short ex (Done0 (own_claim v.phase.me v.phase.inputs a)) laid_out (sym (ap (kind_in v.config.m) z)) (own_claim_fits (setting_of v.config) v.phase.me v.phase.inputs a (goes_agreed v a h goes))

      claims : v.phase.slot ≢ 0 → v.phase.slot ≢ 1 → v.phase.slot ≤ v.config.m + 1 → IsInRange ex (DoneRelay (relays v.done (v.phase.slot - 1)))
      claims n0 n1 low =
          let later : 0 < v.phase.slot = omega arith in
          let round : round_in v.config.m v.phase.slot ≡ v.phase.slot - 1 = round_3 v.config.m v.phase.slot low in
          is_short ex (DoneRelay (relays v.done (v.phase.slot - 1))) laid_out (sym (kind_3 v.config.m v.phase.slot (omega arith) low)) (
            relays_number v.done a v.phase.me (v.phase.slot - 1) ex (goes_distinct v a h goes) (done_hears v a s later goes) (members later) refl round,
            subst (λ (n : ℕ). All (IsEntry (IsClaim (length v.config.graph.tasks)) n) (relays v.done (v.phase.slot - 1))) (sym round) (claims_pass v (v.phase.slot - 1) h (omega arith)),
          )

      data' : v.phase.slot ≡ v.config.m + 2 → IsInRange ex (Data (map (own_in v.found.own) v.found.due))
      data' z = is_short ex (Data (map (own_in v.found.own) v.found.due)) laid_out (sym (ap (kind_in v.config.m) z ∙ value_kind v.config.m)) (
        length-map v.found.due (own_in v.found.own) ∙ sym (cond-true (v.phase.slot == v.config.m + 2) (length v.found.due) 0 (eq-eqb v.phase.slot (v.config.m + 2) z)),
        values z,
      )

      row : v.phase.slot ≡ v.config.m + 3 → IsInRange ex (Report0 v.found.notes)
      row z = is_short ex (Report0 v.found.notes) laid_out (sym (ap (kind_in v.config.m) z ∙ kind_5 v.config.m)) h.found.notes

      rows : v.config.m + 1 < v.phase.slot → v.phase.slot ≢ v.config.m + 2 → v.phase.slot ≢ v.config.m + 3 → IsInRange ex (ReportRelay (relays v.rows (v.phase.slot - (v.config.m + 3))))
      rows high n2 n3 =
          let late : v.config.m + 3 ≤ v.phase.slot = omega arith in
          let later : 0 < v.phase.slot = omega arith in
          let round : round_in v.config.m v.phase.slot ≡ v.phase.slot - (v.config.m + 3) = round_6 v.config.m v.phase.slot high in
          is_short ex (ReportRelay (relays v.rows (v.phase.slot - (v.config.m + 3)))) laid_out (sym (kind_6 v.config.m v.phase.slot (omega arith) s.within)) (
            relays_number v.rows a v.phase.me (v.phase.slot - (v.config.m + 3)) ex (goes_distinct v a h goes) (rows_hears v a s late goes) (members later) refl round,
            subst (λ (n : ℕ). All (IsEntry (IsRow v.config.version N v.config.nodes) n) (relays v.rows (v.phase.slot - (v.config.m + 3)))) (sym round) (rows_pass v (v.phase.slot - (v.config.m + 3)) h (omega arith)),
          )

  -- so does its frame, whether it has a state or not
  pub said_fits : IsInRange (expected_in v v.phase.slot) (said_by v v.phase.before)
  said_fits = go v.phase.before refl where
    go : (o : Option AgreedView) → v.phase.before ≡ o → IsInRange (expected_in v v.phase.slot) (said_by v o)
    go None goes = cold_in_range (expected_in v v.phase.slot)
    go (Some a) goes = pick (IsInRange (expected_in v v.phase.slot)) v.phase.full _ _ (λ y. own_fits a goes (λ z. all_sent v.found.own v.found.due sound.sizes.found.values)) (λ n. cold_in_range (expected_in v v.phase.slot))
