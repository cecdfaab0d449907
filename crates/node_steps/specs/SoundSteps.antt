-- What holds of a node between calls is kept by each step.
use Rattle.std.proofs.Common.{ℕ, ◌≡◌, ◌<◌, ◌≤◌, ◌+◌, ◌-◌, ◌*◌, ◌==◌, ◌||◌, ◌&&◌, Bool, true, false, if◌then◌else◌, List, map, length, Option, None, Some, refl, sym, subst, ◌∙◌, inl, inr, arith, eq-eqb, ne_eqb}
use Rattle.std.specs.Prelude.{All, IfSome, nat_le}
use Rattle.std.proofs.lemmas.Bool.{cases_Bool, cases_eq, cond-true, cond-false}
use Rattle.std.proofs.lemmas.Bool.Decides.{nat_tests}
use Rattle.node_grid.specs.Kinds.{deviate}
use Rattle.node_grid.specs.NodeSetLaws.{IsIdSet-filter}
use Rattle.node_grid.specs.Count.{Distinct}
use Rattle.node_grid.specs.NumberFacts.{le_from, le_yes, le_no}
use Rattle.node_grid.specs.SetFacts.{empty_set}
use Rattle.omh_paths.specs.MemberLaws.{Distinct-ids}
use Rattle.frames.specs.Content.{Expectation, IsClaim, IsRow, IsValue}
use Rattle.error_detect.specs.Watching.{closed, of_sender}
use Rattle.omh_paths.specs.declared.wrapped.Wrapped.{Wrapped}
use Rattle.omh_paths.specs.declared.wrapped.Wrapped.TheVariants.{Plain, Fault}
use Rattle.omh_paths.specs.Majority.{majority}
use Rattle.omh_paths.specs.Paths.{same_nodes}
use Rattle.omh.specs.Heard.{Hearing, forgotten}
use Rattle.agreed_state.specs.declared.config.Config.{Config}
use Rattle.agreed_state.specs.declared.config.Inputs.{Inputs}
use Rattle.agreed_state.specs.Config.{IsConfig}
use Rattle.agreed_state.specs.Agreed.{AgreedView, IsAgreed}
use Rattle.agreed_state.specs.AgreedLaws.{agreed-after}
use Rattle.agreed_state.specs.Adoption.{adopted, state_read, given}
use Rattle.agreed_state.specs.ReadLaws.{read_agreed}
use Rattle.protocol.specs.Arrival.{Arrival, body_said, claim_form, row_form, is_bad, values_in}
use Rattle.protocol.specs.View.{adopted_by, bodies_for, deviates, empty_row, channel_room}
use Rattle.node_steps.specs.Parts.{Found, NodeView}
use Rattle.protocol.specs.Configured.{setting_of}
use Rattle.node_steps.specs.Steps.{expected_in, with_notes, shut, synced, with_sync, after_sync, taken, slot_taken, after_done, after_data, after_report, done_noted, done_heard, claims_known, finished, period_over, next_open, after_slot, begun, restarted, given_frame}
use Rattle.data_slot.specs.Values.{only_values}
use Rattle.noting.specs.Findings.{has_of}
use Rattle.relay_rules.specs.Ranged.{IsRanged}
use Rattle.protocol.specs.ClaimLaws.{own_claim_fits}
use Rattle.protocol.specs.RowLaws.{row_by_is_row, empty_is_row}
use Rattle.protocol.specs.ValueLaws.{own_values_fit}
use Rattle.node_steps.specs.NoValueLaws.{no_values_fit}
use Rattle.node_steps.specs.HeardInRange.{claims_speak, rows_speak, round_ranged, nothing_ranged}
use Rattle.node_steps.specs.Sound.{FoundInRange, HasSizes, Hears, IsInSlot, IsSound, IsTaken}

if_some : {X : Type 0} (P : X → Type 0) (o : Option X) → ((x : X) → o ≡ Some x → P x) → IfSome o P
if_some P None h = tt
if_some P (Some x) h = h x refl

-- an adopted state is an agreed one
pub adopted_agreed : {N : ℕ} (config : Config N) (i : ℕ) (sync : ℕ → Arrival (List ℕ)) → N ≤ 16 → IsConfig N config → IfSome (adopted_by (setting_of config) i sync) (λ a. IsAgreed N config a)
unfolding adopted_by adopted
adopted_agreed {N} config i sync small ok = if_some (λ a. IsAgreed N config a) _ (λ a e. go a (majority same_nodes (map given (bodies_for (setting_of config) i sync))) e) where
  go : (a : AgreedView) (w : Wrapped (List ℕ)) → state_read N config w ≡ Some a → IsAgreed N config a
  go a (Plain b) h = read_agreed N config b a small ok h
  go a (Fault k) h = absurd (cc)

sizes_shut : {N : ℕ} (v : NodeView N) → HasSizes v → HasSizes (shut v)
sizes_shut v h = record { kept = h.kept; before = h.before; done = h.done; rows = h.rows; found = h.found; readings = h.readings }

hears_distinct : {N : ℕ} (v : NodeView N) (ms : List ℕ) (a : AgreedView) → HasSizes v → v.phase.before ≡ Some a → ms ≡ a.standing.members → Distinct ms
hears_distinct {N} v ms a h goes e = subst Distinct (sym e) (Distinct-ids v.config.nodes a.standing.members (subst (λ (o : Option AgreedView). IfSome o (λ b. IsAgreed N v.config b)) goes h.before).standing.set)

-- what was found, with the row of notes replaced
with_row : {N : ℕ} (config : Config N) (f : Found) (row : List ℕ) → FoundInRange config f → IsRow config.version N config.nodes row → FoundInRange config (record f { notes = row })
with_row config f row h r = record { due = h.due; notes = r; late = h.late; values = h.values }

found_synced : {N : ℕ} (v : NodeView N) → HasSizes v → FoundInRange v.config (with_sync (shut v)).found
found_synced v h = record { due = h.found.due; notes = h.found.notes; late = h.found.late; values = h.found.values }

-- the sync slot
sync_taken : {N : ℕ} (v : NodeView N) (o : Option AgreedView) → IsConfig N v.config → HasSizes v → v.phase.slot ≡ 0 → IfSome o (λ a. IsAgreed N v.config a) → IsTaken (synced (with_sync (shut v)) o)
sync_taken v None ok h zero' a = record {
  sizes = record { kept = h.kept; before = tt; done = h.done; rows = h.rows; found = found_synced v h; readings = h.readings };
  closed = refl;
  within = omega arith;
  done = tt;
  rows = λ l. tt;
}
sync_taken v (Some b) ok h zero' a = record {
  sizes = record {
    kept = h.kept;
    before = a;
    done = record {
      nodes_are = h.done.nodes_are;
      rounds_are = h.done.rounds_are;
      own_range = own_claim_fits (setting_of v.config) v.phase.me v.phase.inputs b a;
      range = nothing_ranged (IsClaim (length v.config.graph.tasks)) b.standing.members v.phase.me v.done.rounds;
    };
    rows = h.rows;
    found = with_row v.config (with_sync (shut v)).found _ (found_synced v h) (row_by_is_row (setting_of v.config) v.phase.me _ ok.few_nodes);
    readings = h.readings;
  };
  closed = refl;
  within = omega arith;
  done = record { members = refl; me_is = refl };
  rows = λ l. absurd (omega arith);
}

-- a done slot
done_taken : {N : ℕ} (v : NodeView N) (a : AgreedView) → IsConfig N v.config → HasSizes v → IsInSlot v → 0 < v.phase.slot → v.phase.slot ≤ v.config.m + 1 → v.phase.before ≡ Some a → IsTaken (after_done (shut v) a)
done_taken {N} v a ok h s some low goes = elim (cases_Bool (v.phase.slot == v.config.m + 1)) [
  | inl y ↦ subst (IsTaken {N = N}) (sym (cond-true (v.phase.slot == v.config.m + 1) settled heard y)) (record {
    sizes = record {
      kept = h.kept;
      before = h.before;
      done = record {
        nodes_are = h.done.nodes_are;
        rounds_are = h.done.rounds_are;
        own_range = h.done.own_range;
        range = nothing_ranged (IsClaim (length v.config.graph.tasks)) v.done.members v.done.me v.done.rounds;
      };
      rows = h.rows;
      found = record {
        due = IsIdSet-filter _ (length v.config.channels.items);
        notes = row_by_is_row (setting_of v.config) v.phase.me _ ok.few_nodes;
        late = h.found.late;
        values = own_values_fit (setting_of v.config) v.phase.me v.phase.period v.phase.inputs v.kept ok h.readings;
      };
      readings = h.readings;
    };
    closed = refl;
    within = s.within;
    done = hears (forgotten (done_heard (shut v))) refl refl v.phase.before (s.done some);
    rows = λ l. absurd (omega arith);
  })
  | inr n ↦ subst (IsTaken {N = N}) (sym (cond-false (v.phase.slot == v.config.m + 1) settled heard n)) (record {
    sizes = record { kept = h.kept; before = h.before; done = record { nodes_are = h.done.nodes_are; rounds_are = h.done.rounds_are; own_range = h.done.own_range; range = ranged }; rows = h.rows; found = with_row v.config v.found _ h.found (row_by_is_row (setting_of v.config) v.phase.me _ ok.few_nodes); readings = h.readings };
    closed = refl;
    within = s.within;
    done = hears (done_heard (shut v)) refl refl v.phase.before (s.done some);
    rows = λ l. absurd (omega arith);
  })
]
  where
    e : Expectation
    e = expected_in v v.phase.slot

    settled : NodeView N
    settled = claims_known (done_noted (shut v)) (done_heard (shut v)) a

    heard : NodeView N
    heard = record (done_noted (shut v)) { done = done_heard (shut v) }

    ranged : IsRanged (IsClaim (length v.config.graph.tasks)) (done_heard (shut v)).heard
    ranged = round_ranged claim_form (IsClaim (length v.config.graph.tasks)) (closed v.arrived) e v.config.nodes (v.phase.slot - 1) v.done s.expects (λ j. claims_speak (of_sender j e))
        (cond-true (nat_le v.phase.slot (v.config.m + 1)) (v.phase.slot - 1) (v.phase.slot - (v.config.m + 3)) (le_yes v.phase.slot (v.config.m + 1) low))
        (hears_distinct v v.done.members a h goes (subst (λ (o : Option AgreedView). IfSome o (λ b. Hears v.done v.phase.me b)) goes (s.done some)).members) h.done.range

    hears : (d : Hearing ℕ) → d.members ≡ v.done.members → d.me ≡ v.done.me → (o : Option AgreedView) → IfSome o (λ b. Hears v.done v.phase.me b) → IfSome o (λ b. Hears d v.phase.me b)
    hears d members me None x = tt
    hears d members me (Some b) x = record { members = members ∙ x.members; me_is = me ∙ x.me_is }

-- the data slot
data_taken : {N : ℕ} (v : NodeView N) (a : AgreedView) → IsConfig N v.config → HasSizes v → IsInSlot v → v.phase.slot ≡ v.config.m + 2 → v.phase.before ≡ Some a → IsTaken (after_data (shut v) a)
data_taken {N} v a ok h s at goes = record {
  sizes = record {
    kept = h.kept;
    before = h.before;
    done = h.done;
    rows = record { nodes_are = h.rows.nodes_are; rounds_are = h.rows.rounds_are; own_range = row v.phase.full; range = nothing_ranged (IsRow v.config.version N v.config.nodes) a.standing.members v.phase.me v.rows.rounds };
    found = record { due = h.found.due; notes = row v.phase.full; late = h.found.late; values = h.found.values };
    readings = h.readings;
  };
  closed = refl;
  within = s.within;
  done = s.done (omega arith);
  rows = λ l. subst (λ (o : Option AgreedView). IfSome o (λ b. Hears (after_data (shut v) a).rows v.phase.me b)) (sym goes) (record { members = refl; me_is = refl });
}
  where
    row : (b : Bool) → IsRow v.config.version N v.config.nodes (if b then (with_notes (shut v) (λ j k. is_bad (has_of values_in (shut v).arrived j) k || (deviates (setting_of v.config) v.found.due (after_data (shut v) a).found.votes (only_values (shut v).arrived) j && k == deviate))).found.notes else empty_row (setting_of v.config))
    row true = row_by_is_row (setting_of v.config) v.phase.me _ ok.few_nodes
    row false = empty_is_row (setting_of v.config) ok.few_nodes

-- a report slot
report_taken : {N : ℕ} (v : NodeView N) (a : AgreedView) → IsConfig N v.config → HasSizes v → IsInSlot v → v.config.m + 3 ≤ v.phase.slot → v.phase.before ≡ Some a → IsTaken (after_report (shut v))
report_taken {N} v a ok h s late goes = record {
  sizes = record {
    kept = h.kept;
    before = h.before;
    done = h.done;
    rows = record { nodes_are = h.rows.nodes_are; rounds_are = h.rows.rounds_are; own_range = h.rows.own_range; range = ranged };
    found = record { due = h.found.due; notes = h.found.notes; late = row_by_is_row (setting_of v.config) v.phase.me _ ok.few_nodes; values = h.found.values };
    readings = h.readings;
  };
  closed = refl;
  within = s.within;
  done = s.done (omega arith);
  rows = λ l. hears v.phase.before (s.rows late);
}
  where
    e : Expectation
    e = expected_in v v.phase.slot

    ranged : IsRanged (IsRow v.config.version N v.config.nodes) (after_report (shut v)).rows.heard
    ranged = round_ranged row_form (IsRow v.config.version N v.config.nodes) (closed v.arrived) e v.config.nodes (v.phase.slot - (v.config.m + 3)) v.rows s.expects (λ j. rows_speak (of_sender j e))
        (cond-false (nat_le v.phase.slot (v.config.m + 1)) (v.phase.slot - 1) (v.phase.slot - (v.config.m + 3)) (le_no v.phase.slot (v.config.m + 1) (omega arith)))
        (hears_distinct v v.rows.members a h goes (subst (λ (o : Option AgreedView). IfSome o (λ b. Hears v.rows v.phase.me b)) goes (s.rows late)).members) h.rows.range

    hears : (o : Option AgreedView) → IfSome o (λ b. Hears v.rows v.phase.me b) → IfSome o (λ b. Hears (after_report (shut v)).rows v.phase.me b)
    hears None x = tt
    hears (Some b) x = record { members = x.members; me_is = x.me_is }

pub gt_told : (a b : ℕ) → nat_le a b ≡ false → b < a
gt_told a b h = grind (arith, nat_tests)

later_taken : {N : ℕ} (v : NodeView N) (o : Option AgreedView) → IsConfig N v.config → HasSizes v → IsInSlot v → 0 < v.phase.slot → v.phase.before ≡ o → IsTaken (taken (shut v) o)
later_taken v None ok h s some goes = record {
  sizes = sizes_shut v h;
  closed = refl;
  within = s.within;
  done = s.done some;
  rows = λ l. subst (λ (o : Option AgreedView). IfSome o (λ b. Hears v.rows v.phase.me b)) (sym goes) tt;
}
later_taken {N} v (Some a) ok h s some goes = elim (cases_Bool (nat_le v.phase.slot (v.config.m + 1))) [
  | inl y ↦ subst (IsTaken {N = N}) (sym (cond-true (nat_le v.phase.slot (v.config.m + 1)) (after_done (shut v) a) rest y)) (done_taken v a ok h s some (le_from v.phase.slot (v.config.m + 1) y) goes)
  | inr n ↦ subst (IsTaken {N = N}) (sym (cond-false (nat_le v.phase.slot (v.config.m + 1)) (after_done (shut v) a) rest n)) (elim (cases_eq v.phase.slot (v.config.m + 2)) [
    | inl e ↦ subst (IsTaken {N = N}) (sym (cond-true (v.phase.slot == v.config.m + 2) (after_data (shut v) a) (after_report (shut v)) (eq-eqb _ _ e))) (data_taken v a ok h s e goes)
    | inr ne ↦ subst (IsTaken {N = N}) (sym (cond-false (v.phase.slot == v.config.m + 2) (after_data (shut v) a) (after_report (shut v)) (ne_eqb _ _ ne))) (report_taken v a ok h s (let l = gt_told v.phase.slot (v.config.m + 1) n in omega arith) goes)
  ])
]
  where
    rest : NodeView N
    rest = if v.phase.slot == v.config.m + 2 then after_data (shut v) a else after_report (shut v)

-- what a slot's end takes
pub slot_is_taken : {N : ℕ} (v : NodeView N) → N ≤ 16 → IsConfig N v.config → IsSound v → v.phase.is_open ≡ true → IsTaken (slot_taken (shut v))
slot_is_taken {N} v small ok h open' = elim (cases_eq v.phase.slot 0) [
  | inl e ↦ subst (IsTaken {N = N}) (sym (cond-true (v.phase.slot == 0) (after_sync (shut v)) (taken (shut v) v.phase.before) (eq-eqb _ _ e)))
      (sync_taken v (if v.phase.full then v.kept.state else adopted_by (setting_of v.config) v.phase.me (has_of body_said (shut v).arrived)) ok h.sizes e (state v.phase.full))
  | inr ne ↦ subst (IsTaken {N = N}) (sym (cond-false (v.phase.slot == 0) (after_sync (shut v)) (taken (shut v) v.phase.before) (ne_eqb _ _ ne)))
      (later_taken v v.phase.before ok h.sizes (h.in_slot open') (omega arith) refl)
]
  where
    state : (b : Bool) → IfSome (if b then v.kept.state else adopted_by (setting_of v.config) v.phase.me (has_of body_said (shut v).arrived)) (λ a. IsAgreed N v.config a)
    state true = h.sizes.kept.state
    state false = adopted_agreed v.config v.phase.me (has_of body_said (shut v).arrived) small ok

end_sound : {N : ℕ} (w : NodeView N) (o : Option AgreedView) → IsConfig N w.config → HasSizes w → w.phase.before ≡ o → IsSound (period_over (finished w o))
end_sound w None ok h goes = record {
  sizes = record { kept = record { state = tt; carried = empty_is_row (setting_of w.config) ok.few_nodes }; before = h.before; done = h.done; rows = h.rows; found = h.found; readings = h.readings };
  in_slot = λ e. absurd (cc);
}
end_sound {N} w (Some a) ok h goes = record {
  sizes = record {
    kept = record {
      state = agreed-after N w.config w.phase.period a w.found.claims _ ok (subst (λ (o : Option AgreedView). IfSome o (λ b. IsAgreed N w.config b)) goes h.before);
      carried = row_by_is_row (setting_of w.config) w.phase.me _ ok.few_nodes;
    };
    before = h.before;
    done = h.done;
    rows = record {
      nodes_are = h.rows.nodes_are;
      rounds_are = h.rows.rounds_are;
      own_range = h.rows.own_range;
      range = nothing_ranged (IsRow w.config.version N w.config.nodes) w.rows.members w.rows.me w.rows.rounds;
    };
    found = h.found;
    readings = h.readings;
  };
  in_slot = λ e. absurd (cc);
}

-- the next slot, or the end
pub next_sound : {N : ℕ} (w : NodeView N) → IsConfig N w.config → IsTaken w → IsSound (next_open w)
next_sound {N} w ok t = elim (cases_eq w.phase.slot (2 * w.config.m + 3)) [
  | inl e ↦ subst (IsSound {N = N}) (sym (cond-true (w.phase.slot == 2 * w.config.m + 3) _ _ (eq-eqb _ _ e))) (end_sound w w.phase.before ok t.sizes refl)
  | inr ne ↦ subst (IsSound {N = N}) (sym (cond-false (w.phase.slot == 2 * w.config.m + 3) _ _ (ne_eqb _ _ ne))) (record {
    sizes = record { kept = t.sizes.kept; before = t.sizes.before; done = t.sizes.done; rows = t.sizes.rows; found = t.sizes.found; readings = t.sizes.readings };
    in_slot = λ e. record {
      watching = refl;
      expects = refl;
      within = (let l = t.within in omega arith);
      done = λ l. t.done;
      rows = λ l. t.rows (omega arith);
    };
  })
]

pub sound_after_slot : {N : ℕ} (v : NodeView N) → N ≤ 16 → IsConfig N v.config → IsSound v → v.phase.is_open ≡ true → IsSound (after_slot v)
sound_after_slot v small ok h open' = next_sound (slot_taken (shut v)) (same v ok) (slot_is_taken v small ok h open') where
  is_same : {X : Type 0} (b : Bool) (x y : X) (P : X → Type 0) → P x → P y → P (if b then x else y)
  is_same true x y P p q = p
  is_same false x y P p q = q

  synced_same : {N : ℕ} (v : NodeView N) (o : Option AgreedView) → IsConfig N v.config → IsConfig N (synced v o).config
  synced_same v None ok = ok
  synced_same v (Some a) ok = ok

  taken_same : {N : ℕ} (v : NodeView N) (o : Option AgreedView) → IsConfig N v.config → IsConfig N (taken v o).config
  taken_same v None ok = ok
  taken_same {N} v (Some a) ok = is_same {X = NodeView N} (nat_le v.phase.slot (v.config.m + 1)) (after_done v a) _ (λ u. IsConfig N u.config) (is_same {X = NodeView N} (v.phase.slot == v.config.m + 1) _ _ (λ u. IsConfig N u.config) ok ok)
      (is_same {X = NodeView N} (v.phase.slot == v.config.m + 2) (after_data v a) (after_report v) (λ u. IsConfig N u.config) ok ok)

  same : {N : ℕ} (v : NodeView N) → IsConfig N v.config → IsConfig N (slot_taken (shut v)).config
  same {N} v ok = is_same {X = NodeView N} (v.phase.slot == 0) (after_sync (shut v)) (taken (shut v) v.phase.before) (λ u. IsConfig N u.config) (synced_same (with_sync (shut v)) _ ok) (taken_same (shut v) v.phase.before ok)

pub sound_begun : {N : ℕ} (v : NodeView N) (period : ℕ) (inputs : Inputs) → IsConfig N v.config → All IsValue inputs.reading → IsSound v → IsSound (begun v period inputs)
sound_begun v period inputs ok given h = record {
  sizes = record {
    kept = h.sizes.kept;
    before = h.sizes.kept.state;
    done = h.sizes.done;
    rows = h.sizes.rows;
    found = record { due = empty_set (length v.config.channels.items); notes = h.sizes.kept.carried; late = empty_is_row (setting_of v.config) ok.few_nodes; values = no_values_fit channel_room };
    readings = given;
  };
  in_slot = λ e. record { watching = refl; expects = refl; within = omega arith; done = λ l. absurd (omega arith); rows = λ l. absurd (omega arith) };
}

pub sound_restarted : {N : ℕ} (v : NodeView N) → IsConfig N v.config → v.phase.is_open ≡ false → IsSound v → IsSound (restarted v)
sound_restarted v ok shut' h = record {
  sizes = record { kept = record { state = tt; carried = empty_is_row (setting_of v.config) ok.few_nodes }; before = h.sizes.before; done = h.sizes.done; rows = h.sizes.rows; found = h.sizes.found; readings = h.sizes.readings };
  in_slot = λ e. absurd (let x = sym shut' ∙ e in cc);
}

pub sound_given : {N : ℕ} (v : NodeView N) (from tick : ℕ) (bytes : List ℕ) → IsSound v → IsSound (given_frame v from tick bytes)
sound_given v from tick bytes h = record {
  sizes = record { kept = h.sizes.kept; before = h.sizes.before; done = h.sizes.done; rows = h.sizes.rows; found = h.sizes.found; readings = h.sizes.readings };
  in_slot = λ e. let s = h.in_slot e in record { watching = s.watching; expects = s.expects; within = s.within; done = s.done; rows = s.rows };
}
