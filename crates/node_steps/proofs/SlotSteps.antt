-- The steps of a node lead from stage to stage.
use Rattle.std.proofs.Common.{ℕ, zero, suc, ◌≡◌, ◌≢◌, ◌<◌, ◌≤◌, ◌+◌, ◌-◌, ◌*◌, ◌==◌, ◌||◌, ◌&&◌, Bool, true, false, if◌then◌else◌, List, length, map, refl, sym, ap, ap₂, ◌∙◌, inl, inr, arith, eq-eqb, ne_eqb, Option, None, Some, ℤ}
use Rattle.std.specs.Prelude.{nat_eq, nat_le, is_some}
use Rattle.std.specs.List.{range_with_len, list_any}
use Rattle.std.specs.Cmp.Lexicographic.{pointwise}
use Rattle.std.proofs.lemmas.Bool.{cases_Bool, cond-true, cond-false}
use Rattle.std.proofs.lemmas.Bool.Decides.{nat_tests}
use Rattle.node_grid.specs.Kinds.{state, claim, overrun, deviate, equivocate}
use Rattle.node_grid.specs.NodeSet.{IsIdSet}
use Rattle.node_grid.specs.ListFacts.{any_more}
use Rattle.node_grid.specs.TruthFacts.{or_assoc, or_false}
use Rattle.omh_paths.specs.declared.wrapped.Wrapped.{Wrapped}
use Rattle.omh_paths.specs.declared.wrapped.Wrapped.TheVariants.{Plain, Fault}
use Rattle.omh_paths.specs.MemberLaws.{Distinct-ids}
use Rattle.omh.specs.Heard.{Hearing, Entry, nothing_heard, forgotten}
use Rattle.omh.specs.HeardLaws.{entries_alike}
use Rattle.error_detect.specs.Finding.{kind_of}
use Rattle.error_detect.specs.Watching.{Watch, fresh, closed, opened, told_at, finding_at}
use Rattle.error_reports.specs.Charge.{accuses}
use Rattle.agreed_state.specs.declared.config.Config.{Config}
use Rattle.agreed_state.specs.declared.config.Inputs.{Inputs}
use Rattle.agreed_state.specs.Agreed.{AgreedView, agreed_after}
use Rattle.agreed_state.specs.Body.{body}
use Rattle.protocol.specs.Arrival.{Arrival, ItemForm, is_bad, claim_form, row_form, body_said, values_in}
use Rattle.protocol.specs.Arrival.Arrival.{Bad, Good}
use Rattle.protocol.specs.Heard.{Rounds, rounds_bad, with_entries, paths_of, heard}
use Rattle.protocol.specs.View.{Setting, Kept, Received, own_claim, as_claim, claims_settled, due_channels, votes_on, deviates, other_body, row_by, empty_row, noted, View, is_far, is_further, channel, value_in, value_at, carried_by, through, adopted_by, synced_by, goes_with}
use Rattle.protocol.specs.View.Mode.{Full, Joining}
use Rattle.protocol.specs.Settled.{settled_items, ear_of}
use Rattle.protocol.specs.FurtherKinds.{convicts_member}
use Rattle.mme_vote.specs.Channel.{delta_of, is_judged}
use Rattle.list_scheduler.specs.Schedule.{verdict}
use Rattle.protocol.specs.Facts.{further_is}
use Rattle.node_steps.specs.Outcome.{Outcome}
use Rattle.node_steps.specs.Parts.{Found, NodeView}
use Rattle.protocol.specs.Configured.{setting_of}
use Rattle.noting.specs.Findings.{has_of, bad_in}
use Rattle.data_slot.specs.Values.{only_values}
use Rattle.relay_rules.specs.Settling.{settled_in}
use Rattle.relay_rules.specs.Hearing.{after_round}
use Rattle.node_steps.specs.Steps.{by_conviction, claims_known, shut, slot_taken, next_open, started, synced, with_sync, expected_in}
use Rattle.node_steps.specs.At.{heard_upto, table_at, IsRound}
use Rattle.node_steps.specs.Stages.{rounds_closed, by_verdict, stage, notes_sync, notes_done, claims_of, due_of, own_of, votes_of, notes_verdicts, convicts_over_claims, notes_claims, row_of, done_table, row_table, found_done, found_data, found_report, in_done, in_data, in_report, outcome_of}
use Rattle.node_steps.proofs.TablesTold.{Agrees, round_more, settled_tabled, convicts_tabled}
use Rattle.node_steps.proofs.Alike.{Others, notes_more, row_alike, votes_alike, adopted_alike, synced_alike}

bad_entries : {V : Type 0} (ps : List (List ℕ)) (y : Arrival (List (Wrapped V))) (b : ℕ) → is_bad (with_entries ps y) b ≡ is_bad y b
bad_entries ps (Bad k) b = refl
bad_entries ps (Good xs) b = refl

-- one frame more of an item
closed_more : {V : Type 0} (form : ItemForm V) (members : List ℕ) (me nodes r : ℕ) (w : Watch) (x : Rounds V) → IsRound form members me nodes r w x → (j : ℕ) → j < nodes → j ≢ me → (b : ℕ)
    → (rounds_closed r x j b || bad_in form r w j b) ≡ rounds_closed (suc r) x j b
closed_more form members me nodes zero w x h j low ne b = ap (λ y. is_bad y b) (sym (h.first refl j low ne)) ∙ sym (or_false (is_bad (x.first j) b))
closed_more form members me nodes (suc r) w x h j low ne b =
    let bad : bad_in form (suc r) w j b ≡ is_bad (x.relay (suc r) j) b =
    cond-false (suc r == 0) (is_bad (has_of form.item_in w j) b) (is_bad (has_of form.relay_in w j) b) (ne_eqb (suc r) 0 (λ e. omega arith))
    ∙ sym (bad_entries (paths_of members (suc r) j) (has_of form.relay_in w j) b) ∙ ap (λ y. is_bad y b) (sym (h.relay (omega arith) j low ne)) in
    or_assoc (is_bad (x.first j) b) (list_any (λ n. is_bad (x.relay n j) b) (range_with_len 1 r)) (bad_in form (suc r) w j b)
    ∙ ap (λ (c : Bool). is_bad (x.first j) b || (list_any (λ n. is_bad (x.relay n j) b) (range_with_len 1 r) || c)) bad
    ∙ ap (λ (c : Bool). is_bad (x.first j) b || c) (sym (any_more (λ n. is_bad (x.relay n j) b) 1 r ∙ ap (λ (n : ℕ). list_any (λ n. is_bad (x.relay n j) b) (range_with_len 1 r) || is_bad (x.relay n j) b) (let e : 1 + r ≡ suc r = omega arith in e)))

-- a table of which nothing was heard
fresh_table : {V : Type 0} (h : Hearing V) (nodes m : ℕ) (members : List ℕ) (me : ℕ) (full : Bool) (own : V) (x : Rounds V) → IsIdSet nodes members → h.nodes ≡ nodes → h.rounds ≡ m
    → started h members me full (Plain own) ≡ table_at nodes m members me full own 0 x
fresh_table {V} h nodes m members me full own x ids en em =
    ap₂ (λ (n r : ℕ). record { nodes = n; rounds = r; members = members; me = me; full = full; own = Plain own; heard = nothing_heard members me r }) en em
    ∙ ap (λ (es : List (Entry V)). record { nodes = nodes; rounds = m; members = members; me = me; full = full; own = Plain own; heard = es })
    (entries_alike (λ _. Fault 0) (heard_upto 0 x) members me m (Distinct-ids nodes members ids) (λ p real. sym (cond-false (nat_le (length p) 0) (heard x p) (Fault 0) (none (length p) real.some))))
  where
    none : (n : ℕ) → 0 < n → nat_le n 0 ≡ false
    none n h = grind (arith, nat_tests)

-- so is one that let go of what was heard
forgotten_table : {V : Type 0} (nodes m : ℕ) (members : List ℕ) (me : ℕ) (full : Bool) (own : V) (n : ℕ) (x : Rounds V) → IsIdSet nodes members → forgotten (table_at nodes m members me full own n x) ≡ table_at nodes m members me full own 0 x
forgotten_table nodes m members me full own n x ids = fresh_table (table_at nodes m members me full own n x) nodes m members me full own x ids refl refl

module _ {N : ℕ} (config : Config N) (i p : ℕ) (g : Inputs) (k : Kept) (x : Received) (few : config.nodes ≤ N) (a : AgreedView) (ids : IsIdSet config.nodes a.standing.members) where
  abbrev s : Setting
  s = setting_of config

  abbrev full : Bool
  full = is_some k.state

  -- ---- the done slots

  notes_next : (r : ℕ) (w : Watch) → IsRound claim_form a.standing.members i config.nodes r w x.done
      → row_by s i (λ j b. accuses (row_by s i (notes_done config i p g k x a r)) j b || bad_in claim_form r w j b) ≡ row_by s i (notes_done config i p g k x a (suc r))
  notes_next r w round =
      notes_more s i (notes_done config i p g k x a r) (bad_in claim_form r w) (notes_done config i p g k x a (suc r)) few
      (record {
        each = λ j low ne b within. or_assoc (notes_sync config i p g k x a j b) (rounds_closed r x.done j b) (bad_in claim_form r w j b)
            ∙ ap (λ (c : Bool). notes_sync config i p g k x a j b || c) (closed_more claim_form a.standing.members i config.nodes r w x.done round j low ne b);
      })

  abbrev done_taken : ℕ → Hearing (List ℕ) → Found → Watch → Outcome → NodeView N
  done_taken r rows f w o = stage config i p g k x (suc r) (Some a) (done_table config i p g k x a (suc r)) rows (found_done config i p g k x a (suc r) f) (closed w) o

  -- what a done slot notes, and what is heard of claims after it
  noted_next : (r : ℕ) (w : Watch) → IsRound claim_form a.standing.members i config.nodes r w x.done
      → row_by s i (λ j b. accuses (row_by s i (notes_done config i p g k x a r)) j b || bad_in claim_form (suc r - 1) w j b) ≡ row_by s i (notes_done config i p g k x a (suc r))
  noted_next r w round =
      ap (λ (n : ℕ). row_by s i (λ j b. accuses (row_by s i (notes_done config i p g k x a r)) j b || bad_in claim_form n w j b)) (let e : suc r - 1 ≡ r = omega arith in e) ∙ notes_next r w round

  heard_next : (r : ℕ) (w : Watch) → ((j : ℕ) → Agrees (kind_of (finding_at w j)) (told_at w j)) → IsRound claim_form a.standing.members i config.nodes r w x.done
      → after_round claim_form config.nodes w (suc r - 1) (done_table config i p g k x a r) ≡ done_table config i p g k x a (suc r)
  heard_next r w agree round =
      ap (λ (n : ℕ). after_round claim_form config.nodes w n (done_table config i p g k x a r)) (let e : suc r - 1 ≡ r = omega arith in e)
      ∙ round_more claim_form a.standing.members i config.m config.nodes r full (own_claim i g a) w x.done ids agree round

  first_tests : (r : ℕ) → r ≤ config.m → (v : NodeView N) (y z : NodeView N) → (if suc r == 0 then v else (if nat_le (suc r) (config.m + 1) then y else z)) ≡ y
  first_tests r h v y z = cond-false (suc r == 0) v _ (ne_eqb (suc r) 0 (λ e. omega arith)) ∙ cond-true (nat_le (suc r) (config.m + 1)) y z (le (suc r) (config.m + 1) (omega arith)) where
    le : (a b : ℕ) → a ≤ b → nat_le a b ≡ true
    le a b h = grind (arith, nat_tests)

  -- a done slot before the last one
  pub step_done : (r : ℕ) (rows : Hearing (List ℕ)) (f : Found) (w : Watch) (o : Outcome) → r < config.m → ((j : ℕ) → Agrees (kind_of (finding_at (closed w) j)) (told_at (closed w) j))
      → IsRound claim_form a.standing.members i config.nodes r (closed w) x.done → slot_taken (shut (in_done config i p g k x a r rows f w o)) ≡ done_taken r rows f w o
  step_done r rows f w o low agree round =
      first_tests r (omega arith) _ _ _
      ∙ cond-false (suc r == config.m + 1) _ _ (ne_eqb (suc r) (config.m + 1) (λ e. omega arith))
      ∙ ap₂ (λ (d : Hearing ℕ) (notes : List ℕ). stage config i p g k x (suc r) (Some a) d rows (record f { sync = synced_by s i x; notes = notes }) (closed w) o)
      (heard_next r (closed w) agree round) (noted_next r (closed w) round)

  -- ---- the last done slot

  abbrev claims_taken : Hearing (List ℕ) → Found → Watch → Outcome → NodeView N
  claims_taken rows f w o = stage config i p g k x (suc config.m) (Some a) (done_table config i p g k x a 0) rows (found_data config i p g k x a f) (closed w) o

  -- the claims are settled by what was heard, where that was noted
  abbrev by_heard : Hearing (List ℕ) → Found → Watch → Outcome → Hearing ℕ → List ℕ → NodeView N
  by_heard rows f w o d notes =
      claims_known (stage config i p g k x (suc config.m) (Some a) (done_table config i p g k x a config.m) rows (record f { sync = synced_by s i x; notes = notes }) w o) d a

  claims_are : map as_claim (settled_in nat_eq N (done_table config i p g k x a (suc config.m))) ≡ claims_of config i p g k x a
  unfolding claims_settled
  claims_are = ap (map as_claim) (settled_tabled nat_eq N config.nodes config.m a.standing.members i full (own_claim i g a) x.done ids)

  pub step_claims : (rows : Hearing (List ℕ)) (f : Found) (w : Watch) (o : Outcome) → ((j : ℕ) → Agrees (kind_of (finding_at (closed w) j)) (told_at (closed w) j))
      → IsRound claim_form a.standing.members i config.nodes config.m (closed w) x.done → slot_taken (shut (in_done config i p g k x a config.m rows f w o)) ≡ claims_taken rows f w o
  step_claims rows f w o agree round =
      first_tests config.m (omega arith) _ _ _
      ∙ cond-true (suc config.m == config.m + 1) _ _ (eq-eqb (suc config.m) (config.m + 1) (omega arith))
      ∙ ap₂ (by_heard rows f (closed w) o) (heard_next config.m (closed w) agree round) (noted_next config.m (closed w) round)
      ∙ ap (λ claims. stage config i p g k x (suc config.m) (Some a) (forgotten (done_table config i p g k x a (suc config.m))) rows
      (record {
        sync = synced_by s i x;
        notes = row_by s i (λ j b. accuses (row_by s i (λ q kd. accuses (row_by s i (notes_done config i p g k x a (suc config.m))) q kd || by_verdict config a claims q kd)) j b || by_conviction nat_eq (done_table config i p g k x a (suc config.m)) j b);
        late = f.late;
        claims = claims;
        due = due_channels s a claims;
        own = own_of config i p g k x a;
        votes = f.votes;
      }) (closed w) o) claims_are
      ∙ ap₂ (λ (d : Hearing ℕ) (notes : List ℕ). stage config i p g k x (suc config.m) (Some a) d rows (record (found_data config i p g k x a f) { notes = notes }) (closed w) o)
      (forgotten_table config.nodes config.m a.standing.members i full (own_claim i g a) (suc config.m) x.done ids)
      (ap (λ (row : List ℕ). row_by s i (λ j b. accuses row j b || by_conviction nat_eq (done_table config i p g k x a (suc config.m)) j b))
      (notes_more s i (notes_done config i p g k x a (suc config.m)) (by_verdict config a (claims_of config i p g k x a)) (notes_verdicts config i p g k x a) few (record { each = λ j low ne b within. refl }))
      ∙ notes_more s i (notes_verdicts config i p g k x a) (by_conviction nat_eq (done_table config i p g k x a (suc config.m))) (notes_claims config i p g k x a) few (record {
        each = λ j low ne b within. ap (λ (c : Bool). notes_verdicts config i p g k x a j b || (c && b == equivocate)) (convicts_tabled nat_eq config.nodes config.m a.standing.members i full (own_claim i g a) x.done ids j ne);
      }))

  -- ---- the data slot

  -- what the slot's values are
  abbrev pub AreValues : Watch → Type 0
  AreValues w = Others config.nodes i (λ j. x.values j ≡ has_of values_in w j)

  votes_are : (w : Watch) → AreValues w → votes_on s i full a (claims_of config i p g k x a) (due_of config i p g k x a) (own_of config i p g k x a) (only_values w) ≡ votes_of config i p g k x a
  votes_are w h = votes_alike s i full a (claims_of config i p g k x a) (due_of config i p g k x a) (own_of config i p g k x a) (only_values w) x ids (record { each = λ j low ne. sym (h.each j low ne) })

  -- all that is noted, in the protocol's order
  all_noted : (carried sync other rounds claim overrun convicted values far : Bool)
      → (((((carried || (sync || other)) || rounds) || (claim || overrun)) || convicted) || (values || far)) ≡ (sync || (rounds || (values || (carried || (convicted || (other || (claim || (overrun || far))))))))
  all_noted true true o r c v g u f = refl
  all_noted true false o true c v g u f = refl
  all_noted true false o false c v g true f = refl
  all_noted true false o false c v g false f = refl
  all_noted false true o r c v g u f = refl
  all_noted false false true true c v g u f = refl
  all_noted false false true false c v g true f = refl
  all_noted false false true false c v true false f = refl
  all_noted false false true false c v false false f = refl
  all_noted false false false true c v g u f = refl
  all_noted false false false false true v g true f = refl
  all_noted false false false false true v true false f = refl
  all_noted false false false false true v false false f = refl
  all_noted false false false false false true g true f = refl
  all_noted false false false false false true true false f = refl
  all_noted false false false false false true false false f = refl
  all_noted false false false false false false true true f = refl
  all_noted false false false false false false true false f = refl
  all_noted false false false false false false false true f = refl
  all_noted false false false false false false false false f = refl

  abbrev data_taken : Hearing ℕ → Hearing (List ℕ) → Watch → Outcome → NodeView N
  data_taken d rows w o = stage config i p g k x (config.m + 2) (Some a) d (row_table config i p g k x a 0) (found_report config i p g k x a 0) (closed w) o

  noted_all : (w : Watch) → AreValues w → full ≡ true → (j : ℕ) → j < config.nodes → j ≢ i → (b : ℕ)
      → (notes_claims config i p g k x a j b || (is_bad (has_of values_in w j) b || (deviates s (due_of config i p g k x a) (votes_of config i p g k x a) (only_values w) j && b == deviate)))
      ≡ noted s i a k (claims_of config i p g k x a) (due_of config i p g k x a) (votes_of config i p g k x a) x j b
  unfolding noted
  noted_all w h is_full j low ne b =
      let v = verdict config.graph a.standing.members a.copies (claims_of config i p g k x a) j in
      ap (λ (y : Arrival (List ℤ)). notes_claims config i p g k x a j b
      || (is_bad y b || (list_any (λ c. is_judged (channel s c) && is_far (delta_of (channel s c)) (value_in (due_of config i p g k x a) y c) (value_at (votes_of config i p g k x a) c)) (due_of config i p g k x a) && b == deviate))) (sym (h.each j low ne))
      ∙ all_noted (accuses k.carried j b) (is_bad (x.sync j) b) (other_body (body config a) (x.sync j) && b == state) (rounds_bad config.m x.done j b) (v.claim && b == claim) (v.overrun && b == overrun)
      (convicts_over_claims config i p g k x a j && b == equivocate) (is_bad (x.values j) b)
      (deviates s (due_of config i p g k x a) (votes_of config i p g k x a) x j && b == deviate)
      ∙ ap (λ (c : Bool). is_bad (x.sync j) b || (rounds_bad config.m x.done j b || (is_bad (x.values j) b || (accuses k.carried j b || (c
      || ((other_body (body config a) (x.sync j) && b == state) || ((v.claim && b == claim) || ((v.overrun && b == overrun) || (deviates s (due_of config i p g k x a) (votes_of config i p g k x a) x j && b == deviate)))))))))
      (sym (further_is (convicts_over_claims config i p g k x a j) b)
      ∙ ap (λ (f : Bool). (b == equivocate && convicts_member nat_eq (ear_of config.m i f a.standing.members x.done) j) && is_further b) is_full)

  -- a node's own row
  row_is : (w : Watch) → AreValues w
      → (if full then row_by s i (λ j b. accuses (row_by s i (notes_claims config i p g k x a)) j b || (is_bad (has_of values_in w j) b || (deviates s (due_of config i p g k x a) (votes_of config i p g k x a) (only_values w) j && b == deviate))) else empty_row s)
      ≡ row_of config i p g k x a
  row_is w h = elim (cases_Bool full) [
    | inl is_full ↦
        ap (λ (r : List ℕ). if full then r else empty_row s)
        (notes_more s i (notes_claims config i p g k x a) (λ j b. is_bad (has_of values_in w j) b || (deviates s (due_of config i p g k x a) (votes_of config i p g k x a) (only_values w) j && b == deviate))
        (noted s i a k (claims_of config i p g k x a) (due_of config i p g k x a) (votes_of config i p g k x a) x) few (record { each = λ j low ne b within. noted_all w h is_full j low ne b }))
    | inr not_full ↦ cond-false full _ (empty_row s) not_full ∙ sym (cond-false full _ (empty_row s) not_full)
  ]

  data_tests : (u v y z : NodeView N) → (if config.m + 2 == 0 then u else (if nat_le (config.m + 2) (config.m + 1) then v else (if config.m + 2 == config.m + 2 then y else z))) ≡ y
  data_tests u v y z =
      cond-false (config.m + 2 == 0) u _ (ne_eqb (config.m + 2) 0 (λ e. omega arith))
      ∙ cond-false (nat_le (config.m + 2) (config.m + 1)) v _ (gt (config.m + 2) (config.m + 1) (omega arith))
      ∙ cond-true (config.m + 2 == config.m + 2) y z (eq-eqb (config.m + 2) (config.m + 2) refl)
    where
      gt : (m n : ℕ) → n < m → nat_le m n ≡ false
      gt m n h = grind (arith, nat_tests)

  -- what the data slot finds, by the votes and by the row
  abbrev by_votes : Hearing (List ℕ) → Found → Watch → Outcome → List (Option ℤ) → List ℕ → NodeView N
  by_votes rows f w o votes row =
      stage config i p g k x (config.m + 2) (Some a) (done_table config i p g k x a 0) (started rows a.standing.members i full (Plain row))
      (record { sync = synced_by s i x; notes = row; late = f.late; claims = claims_of config i p g k x a; due = due_of config i p g k x a; own = own_of config i p g k x a; votes = votes }) w o

  pub step_data : (rows : Hearing (List ℕ)) (f : Found) (w : Watch) (o : Outcome) → AreValues (closed w) → rows.nodes ≡ config.nodes → rows.rounds ≡ config.m → f.late ≡ row_by s i (rounds_closed 0 x.report)
      → slot_taken (shut (in_data config i p g k x a rows f w o)) ≡ data_taken (done_table config i p g k x a 0) rows w o
  step_data rows f w o h en em late =
      let cw : Watch = closed w in
      data_tests _ _ _ _
      ∙ ap (λ votes. by_votes rows f cw o votes
      (if full then row_by s i (λ j b. accuses (row_by s i (notes_claims config i p g k x a)) j b || (is_bad (has_of values_in cw j) b || (deviates s (due_of config i p g k x a) votes (only_values cw) j && b == deviate))) else empty_row s)) (votes_are cw h)
      ∙ ap (by_votes rows f cw o (votes_of config i p g k x a)) (row_is cw h)
      ∙ ap₂ (λ (t : Hearing (List ℕ)) (l : List ℕ). stage config i p g k x (config.m + 2) (Some a) (done_table config i p g k x a 0) t
      (record { sync = synced_by s i x; notes = row_of config i p g k x a; late = l; claims = claims_of config i p g k x a; due = due_of config i p g k x a; own = own_of config i p g k x a; votes = votes_of config i p g k x a }) cw o)
      (fresh_table rows config.nodes config.m a.standing.members i full (row_of config i p g k x a) x.report ids en em) late

  -- ---- the report slots

  abbrev report_taken : ℕ → Watch → Outcome → NodeView N
  report_taken r w o = stage config i p g k x (config.m + 3 + r) (Some a) (done_table config i p g k x a 0) (row_table config i p g k x a (suc r)) (found_report config i p g k x a (suc r)) (closed w) o

  report_tests : (r : ℕ) (u v y z : NodeView N) → (if config.m + 3 + r == 0 then u else (if nat_le (config.m + 3 + r) (config.m + 1) then v else (if config.m + 3 + r == config.m + 2 then y else z))) ≡ z
  report_tests r u v y z =
      cond-false (config.m + 3 + r == 0) u _ (ne_eqb (config.m + 3 + r) 0 (λ e. omega arith))
      ∙ cond-false (nat_le (config.m + 3 + r) (config.m + 1)) v _ (gt (config.m + 3 + r) (config.m + 1) (omega arith))
      ∙ cond-false (config.m + 3 + r == config.m + 2) y z (ne_eqb (config.m + 3 + r) (config.m + 2) (λ e. omega arith))
    where
      gt : (m n : ℕ) → n < m → nat_le m n ≡ false
      gt m n h = grind (arith, nat_tests)

  pub step_report : (r : ℕ) (w : Watch) (o : Outcome) → ((j : ℕ) → Agrees (kind_of (finding_at (closed w) j)) (told_at (closed w) j)) → IsRound row_form a.standing.members i config.nodes r (closed w) x.report
      → slot_taken (shut (in_report config i p g k x a r w o)) ≡ report_taken r w o
  step_report r w o agree round =
      let cw : Watch = closed w in
      let e : config.m + 3 + r - (config.m + 3) ≡ r = omega arith in
      report_tests r _ _ _ _
      ∙ ap (λ (n : ℕ). stage config i p g k x (config.m + 3 + r) (Some a) (done_table config i p g k x a 0) (after_round row_form config.nodes cw n (row_table config i p g k x a r))
      (record (found_report config i p g k x a r) { late = row_by s i (λ j b. accuses (row_by s i (rounds_closed r x.report)) j b || bad_in row_form n cw j b) }) cw o) e
      ∙ ap₂ (λ (t : Hearing (List ℕ)) (l : List ℕ). stage config i p g k x (config.m + 3 + r) (Some a) (done_table config i p g k x a 0) t (record (found_report config i p g k x a r) { late = l }) cw o)
      (round_more row_form a.standing.members i config.m config.nodes r full (row_of config i p g k x a) cw x.report ids agree round)
      (notes_more s i (rounds_closed r x.report) (bad_in row_form r cw) (rounds_closed (suc r) x.report) few (record { each = λ j low ne b within. closed_more row_form a.standing.members i config.nodes r cw x.report round j low ne b }))

  -- ---- the end

  -- the node after the period, of which this is the view
  abbrev pub over : ℕ → Hearing ℕ → Hearing (List ℕ) → Found → Watch → View → NodeView N
  over t d rows f w u = record {
    config = config;
    phase = record { me = i; period = p; slot = t; is_open = false; inputs = g; full = full; before = Some a };
    kept = u.kept;
    done = d;
    rows = rows;
    found = f;
    arrived = w;
    outcome = outcome_of u;
  }

  carried_is : row_by s i (λ j b. accuses (row_by s i (rounds_closed (suc config.m) x.report)) j b || by_conviction (pointwise ◌==◌) (row_table config i p g k x a (suc config.m)) j b) ≡ carried_by s i full a x
  carried_is =
      notes_more s i (rounds_closed (suc config.m) x.report) (by_conviction (pointwise ◌==◌) (row_table config i p g k x a (suc config.m)))
      (λ j b. rounds_bad config.m x.report j b || ((b == equivocate && convicts_member (pointwise ◌==◌) (ear_of config.m i full a.standing.members x.report) j) && is_further b)) few (record {
        each = λ j low ne b within. ap (λ (c : Bool). rounds_bad config.m x.report j b || c)
            (ap (λ (c : Bool). c && b == equivocate) (convicts_tabled (pointwise ◌==◌) config.nodes config.m a.standing.members i full (row_of config i p g k x a) x.report ids j ne)
            ∙ sym (further_is (convicts_member (pointwise ◌==◌) (ear_of config.m i full a.standing.members x.report) j) b));
      })

  rows_are : settled_in (pointwise ◌==◌) N (row_table config i p g k x a (suc config.m)) ≡ settled_items (pointwise ◌==◌) N config.m i full a.standing.members x.report (row_of config i p g k x a)
  rows_are = settled_tabled (pointwise ◌==◌) N config.nodes config.m a.standing.members i full (row_of config i p g k x a) x.report ids

  -- the end of the period, by the settled rows, what is carried over and what is left of the rows that were heard
  abbrev by_rows : ℕ → Watch → List (Option (List ℕ)) → List ℕ → Hearing (List ℕ) → NodeView N
  by_rows t w rows late h =
      let after = agreed_after N config p a (claims_of config i p g k x a) rows in
      record {
        config = config;
        phase = record { me = i; period = p; slot = t; is_open = false; inputs = g; full = full; before = Some a };
        kept = record { state = Some after; carried = late; votes = votes_of config i p g k x a; owns = own_of config i p g k x a };
        done = done_table config i p g k x a 0;
        rows = h;
        found = found_report config i p g k x a (suc config.m);
        arrived = w;
        outcome = record {
          mode = if full then Full else Joining;
          agreed = Some after;
          members = a.standing.members;
          done = claims_of config i p g k x a;
          rows = rows;
          due = due_of config i p g k x a;
          votes = votes_of config i p g k x a;
          found = row_of config i p g k x a;
          sync = synced_by s i x;
        };
      }

  pub step_end : (w : Watch) (o : Outcome) → next_open (report_taken config.m w o)
      ≡ over (config.m + 3 + config.m) (done_table config i p g k x a 0) (row_table config i p g k x a 0) (found_report config i p g k x a (suc config.m)) (fresh w.nodes w.me w.frame_max) (through s i p g k x full a)
  unfolding through
  step_end w o =
      cond-true (config.m + 3 + config.m == 2 * config.m + 3) _ _ (eq-eqb (config.m + 3 + config.m) (2 * config.m + 3) (omega arith))
      ∙ ap₂ (λ (rows : List (Option (List ℕ))) (late : List ℕ). by_rows (config.m + 3 + config.m) (fresh w.nodes w.me w.frame_max) rows late (forgotten (row_table config i p g k x a (suc config.m)))) rows_are carried_is
      ∙ ap (by_rows (config.m + 3 + config.m) (fresh w.nodes w.me w.frame_max) (settled_items (pointwise ◌==◌) N config.m i full a.standing.members x.report (row_of config i p g k x a)) (carried_by s i full a x))
      (forgotten_table config.nodes config.m a.standing.members i full (row_of config i p g k x a) (suc config.m) x.report ids)

  -- ---- the sync slot

  pub step_sync : (d : Hearing ℕ) (rows : Hearing (List ℕ)) (f : Found) (w : Watch) (o : Outcome) → Others config.nodes i (λ j. x.sync j ≡ has_of body_said (closed w) j) → d.nodes ≡ config.nodes → d.rounds ≡ config.m
      → f.notes ≡ k.carried → goes_with s i x k.state ≡ Some a
      → slot_taken (shut (stage config i p g k x 0 k.state d rows f w o)) ≡ stage config i p g k x 0 (Some a) (done_table config i p g k x a 0) rows (found_done config i p g k x a 0 f) (closed w) o
  step_sync d rows f w o h en em carried goes =
      let cw : Watch = closed w in
      ap (synced (with_sync (stage config i p g k x 0 k.state d rows f cw o))) (goes_by k.state ∙ goes)
      ∙ ap (λ (sync : List ℕ). stage config i p g k x 0 (Some a) (started d a.standing.members i full (Plain (own_claim i g a))) rows
      (record f { sync = sync; notes = row_by s i (λ j b. accuses f.notes j b || (is_bad (has_of body_said cw j) b || (other_body (body config a) (has_of body_said cw j) && b == state))) }) cw o)
      (synced_alike s i (has_of body_said cw) x (record { each = λ j low ne. sym (h.each j low ne) }))
      ∙ ap₂ (λ (t : Hearing ℕ) (notes : List ℕ). stage config i p g k x 0 (Some a) t rows (record f { sync = synced_by s i x; notes = notes }) cw o)
      (fresh_table d config.nodes config.m a.standing.members i full (own_claim i g a) x.done ids en em)
      (ap (λ (notes : List ℕ). row_by s i (λ j b. accuses notes j b || (is_bad (has_of body_said cw j) b || (other_body (body config a) (has_of body_said cw j) && b == state)))) carried
      ∙ row_alike s i (λ j b. accuses k.carried j b || (is_bad (has_of body_said cw j) b || (other_body (body config a) (has_of body_said cw j) && b == state))) (notes_done config i p g k x a 0) (record {
        each = λ j low ne b within.
            ap (λ (y : Arrival (List ℕ)). accuses k.carried j b || (is_bad y b || (other_body (body config a) y && b == state))) (sym (h.each j low ne)) ∙ sym (or_false (notes_sync config i p g k x a j b));
      }))
    where
      goes_by : (o : Option AgreedView) → (if is_some o then o else adopted_by s i (has_of body_said (closed w))) ≡ goes_with s i x o
      goes_by None = adopted_alike s i (has_of body_said (closed w)) x.sync (record { each = λ j low ne. sym (h.each j low ne) })
      goes_by (Some b) = refl

-- ---- the next slot is open

pub opens_next : {N : ℕ} (config : Config N) (i p : ℕ) (g : Inputs) (k : Kept) (x : Received) (t : ℕ) (b : Option AgreedView) (d : Hearing ℕ) (rows : Hearing (List ℕ)) (f : Found) (w : Watch) (o : Outcome) → t ≢ 2 * config.m + 3
    → next_open (stage config i p g k x t b d rows f w o) ≡ stage config i p g k x (t + 1) b d rows f (opened w (expected_in (stage config i p g k x t b d rows f w o) (t + 1))) o
opens_next config i p g k x t b d rows f w o h = cond-false (t == 2 * config.m + 3) _ _ (ne_eqb t (2 * config.m + 3) h)
