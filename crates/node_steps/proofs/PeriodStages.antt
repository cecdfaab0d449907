-- The slots of a period lead from stage to stage.
use Rattle.std.proofs.Common.{ℕ, zero, suc, ◌≡◌, ◌≢◌, ◌<◌, ◌≤◌, ◌+◌, ◌*◌, ◌==◌, ◌&&◌, not, map, Bool, true, false, if◌then◌else◌, List, [], ◌∷◌, length, refl, sym, ap, ap₂, subst, ◌∙◌, inl, inr, arith, eq-eqb, ne_eqb, Option, None, Some}
use Rattle.std.proofs.lemmas.Bool.{cases_eq, cond-true, cond-false}
use Rattle.std.specs.Prelude.{is_some, nat_lt, replicate}
use Rattle.node_grid.specs.NodeSet.{IsIdSet, ids_where, mask_of}
use Rattle.node_grid.specs.NodeSetLaws.{filter_none, length-ids, IsIdSet-filter}
use Rattle.omh.specs.Heard.{Hearing}
use Rattle.frames.specs.Content.{Content, Expectation}
use Rattle.error_detect.specs.Watching.{Watch, opened, closed, of_sender, HasRoom}
use Rattle.error_detect.specs.Multiset.{Arriving, from_sender, all_delivered, FindsEach}
use Rattle.agreed_state.specs.declared.config.Config.{Config}
use Rattle.agreed_state.specs.declared.config.Inputs.{Inputs}
use Rattle.agreed_state.specs.Agreed.{AgreedView}
use Rattle.protocol.specs.Arrival.{Arrival, arrival, claim_form, row_form, body_said, claim_in, claims_in, row_in, rows_in, values_in}
use Rattle.protocol.specs.Heard.{paths_of, with_entries}
use Rattle.node_grid.specs.Version.{kind_count}
use Rattle.protocol.specs.View.{Kept, Received, Setting, row_by, through, view_from, cold_view, adopted_by, empty_row, channel_room, due_channels, is_due, channel, goes_with}
use Rattle.std.specs.List.{range_with_len}
use Rattle.omh_paths.specs.declared.wrapped.Wrapped.{Wrapped}
use Rattle.omh_paths.specs.declared.wrapped.Wrapped.TheVariants.{Fault}
use Rattle.protocol.specs.Facts.{goes_none}
use Rattle.node_steps.specs.Outcome.{Outcome}
use Rattle.node_steps.specs.Parts.{Found, NodeView}
use Rattle.protocol.specs.Configured.{setting_of}
use Rattle.noting.specs.Findings.{has_of}
use Rattle.node_steps.specs.Steps.{after_slot, next_open, slot_taken, shut, expected_in, begun, synced, with_sync}
use Rattle.node_steps.specs.At.{IsRound}
use Rattle.node_steps.specs.Stages.{stage, claims_of, rounds_closed, due_of, done_table, row_table, found_cold, found_done, found_data, found_report, in_done, in_data, in_report}
use Rattle.node_steps.specs.Period.{slot_run, expect_at, goes, Told, IsWatch, Stands, IsOver, slots_run, resting, FoldIsView}
use Rattle.node_steps.proofs.Alike.{Others, row_by_is, adopted_alike, synced_alike}
use Rattle.node_steps.proofs.Arrived.{agrees, has_by_deliveries}
use Rattle.node_steps.specs.FixedLaws.{delivered_keeps, room_kept}
use Rattle.node_steps.proofs.SlotSteps.{step_done, step_claims, step_data, step_report, step_end, step_sync, opens_next}
use Rattle.protocol.specs.RowLaws.{mask-zero}
use Rattle.protocol.specs.ViewLaws.{goes_through as view_through}

module _ {N : ℕ} (config : Config N) (i p : ℕ) (g : Inputs) (k : Kept) (x : Received) (few : config.nodes ≤ N) (room : ℕ) (law : FindsEach) (ds : ℕ → List Arriving) (told : Told config i p g k x ds)
    (rooms : (t : ℕ) (ms : List ℕ) (due : ℕ) → IsIdSet config.nodes ms → due ≤ 8 → HasRoom room (expect_at config i p g k x t ms due))
    (o : Outcome) (a : AgreedView) (is : goes config i p g k x ≡ Some a) (ids : IsIdSet config.nodes a.standing.members) (few_due : length (due_of config i p g k x a) ≤ 8) where
  abbrev members : List ℕ
  members = a.standing.members

  -- the watch after a slot's deliveries
  next_watch : (w : Watch) (e : Expectation) (es : List Arriving) → IsWatch config i p g k x room w → IsWatch config i p g k x room (closed (all_delivered (opened w e) es))
  next_watch w e es h = let q = delivered_keeps (opened w e) es in record { nodes = q.1 ∙ h.nodes; me = q.0 ∙ h.me; room_is = room_kept (opened w e) es ∙ h.room_is }

  -- what a node has of another one's frame in a slot
  has_there : {C : Type 0} (part : Content → Option C) (w : Watch) (t due j : ℕ) → IsWatch config i p g k x room w → due ≤ 8 → j < config.nodes → j ≢ i
      → has_of part (closed (all_delivered (opened w (expect_at config i p g k x t members due)) (ds t))) j ≡ arrival part (of_sender j (expect_at config i p g k x t members due)) (from_sender j (ds t))
  has_there part w t due j h small low ne =
      has_by_deliveries part law w (expect_at config i p g k x t members due) (ds t) j
      (subst (λ (n : ℕ). HasRoom n (expect_at config i p g k x t members due)) (sym h.room_is) (rooms t members due ids small))
      (let e = h.nodes in omega arith) (λ e. ne (e ∙ h.me)) (λ es. delivered_keeps (opened w (expect_at config i p g k x t members due)) es)

  done_round : (r : ℕ) (w : Watch) → IsWatch config i p g k x room w → r ≤ config.m
      → IsRound claim_form members i config.nodes r (closed (all_delivered (opened w (expect_at config i p g k x (suc r) members 0)) (ds (suc r)))) x.done
  done_round r w h low = record {
    first = λ z j l ne. subst (λ (n : ℕ). x.done.first j ≡ has_of claim_in (closed (all_delivered (opened w (expect_at config i p g k x (suc n) members 0)) (ds (suc n)))) j) (sym z)
        ((told.first a is).each j l ne ∙ sym (has_there claim_in w 1 0 j h (omega arith) l ne));
    relay = λ some j l ne. (told.relay a is r some low).each j l ne ∙ ap (with_entries (paths_of members r j)) (sym (has_there claims_in w (suc r) 0 j h (omega arith) l ne));
  }

  report_round : (r : ℕ) (w : Watch) → IsWatch config i p g k x room w → r ≤ config.m
      → IsRound row_form members i config.nodes r (closed (all_delivered (opened w (expect_at config i p g k x (config.m + 3 + r) members 0)) (ds (config.m + 3 + r)))) x.report
  report_round r w h low = record {
    first = λ z j l ne.
        let e : config.m + 3 ≡ config.m + 3 + r = omega arith in
        subst (λ (n : ℕ). x.report.first j ≡ has_of row_in (closed (all_delivered (opened w (expect_at config i p g k x n members 0)) (ds n))) j) e
        ((told.row a is).each j l ne ∙ sym (has_there row_in w (config.m + 3) 0 j h (omega arith) l ne));
    relay = λ some j l ne. (told.rows a is r some low).each j l ne ∙ ap (with_entries (paths_of members r j)) (sym (has_there rows_in w (config.m + 3 + r) 0 j h (omega arith) l ne));
  }

  -- what is expected in the next slot
  expects : (t : ℕ) (d : Hearing ℕ) (rows : Hearing (List ℕ)) (f : Found) (w : Watch) (due : ℕ) → due ≡ (if t + 1 == config.m + 2 then length f.due else 0)
      → expected_in (stage config i p g k x t (Some a) d rows f w o) (t + 1) ≡ expect_at config i p g k x (t + 1) members due
  expects t d rows f w due e =
      ap₂ (λ (ms : List ℕ) (n : ℕ). expect_at config i p g k x (t + 1) ms n) (cond-false (t + 1 == 0) [] members (ne_eqb (t + 1) 0 (λ z. omega arith))) (sym e)

  -- the next slot is open, where this is what the slot was taken as
  opened_next : (v : NodeView N) (t : ℕ) (d : Hearing ℕ) (rows : Hearing (List ℕ)) (f : Found) (w : Watch) (due : ℕ) → slot_taken (shut v) ≡ stage config i p g k x t (Some a) d rows f w o → t ≢ 2 * config.m + 3
      → due ≡ (if t + 1 == config.m + 2 then length f.due else 0) → after_slot v ≡ stage config i p g k x (t + 1) (Some a) d rows f (opened w (expect_at config i p g k x (t + 1) members due)) o
  opened_next v t d rows f w due taken ne e =
      ap next_open taken ∙ opens_next config i p g k x t (Some a) d rows f w o ne
      ∙ ap (λ (y : Expectation). stage config i p g k x (t + 1) (Some a) d rows f (opened w y) o) (expects t d rows f w due e)

  after_hearing : (r : ℕ) (rows : Hearing (List ℕ)) (f : Found) (w : Watch) → r < config.m → IsWatch config i p g k x room w → rows.nodes ≡ config.nodes → rows.rounds ≡ config.m → f.late ≡ row_by (setting_of config) i (rounds_closed 0 x.report)
      → Stands config i p g k x room o a (suc r + 1) (slot_run (in_done config i p g k x a r rows f (opened w (expect_at config i p g k x (suc r) members 0)) o) (ds (suc r)))
  after_hearing r rows f w low base en em late =
      let e : Expectation = expect_at config i p g k x (suc r) members 0 in
      let cw : Watch = all_delivered (opened w e) (ds (suc r)) in
      let next : suc (suc r) ≡ suc r + 1 = omega arith in
      let there = subst (λ (n : ℕ). Stands config i p g k x room o a n (stage config i p g k x n (Some a) (done_table config i p g k x a (suc r)) rows (found_done config i p g k x a (suc r) f) (opened (closed cw) (expect_at config i p g k x n members 0)) o)) next
      (Stands.hearing (suc r) rows f (closed cw) (omega arith) (next_watch w e (ds (suc r)) base) en em late) in
      subst (Stands config i p g k x room o a (suc r + 1))
      (sym (opened_next (in_done config i p g k x a r rows f cw o) (suc r) (done_table config i p g k x a (suc r)) rows (found_done config i p g k x a (suc r) f) (closed cw) 0
      (step_done config i p g k x few a ids r rows f cw o low (agrees (closed cw)) (done_round r w base (omega arith))) (λ z. absurd (omega arith)) (sym (cond-false (suc r + 1 == config.m + 2) (length f.due) 0 (ne_eqb (suc r + 1) (config.m + 2) (λ z. absurd (omega arith)))))))
      there

  after_claims : (rows : Hearing (List ℕ)) (f : Found) (w : Watch) → IsWatch config i p g k x room w → rows.nodes ≡ config.nodes → rows.rounds ≡ config.m → f.late ≡ row_by (setting_of config) i (rounds_closed 0 x.report)
      → Stands config i p g k x room o a (suc config.m + 1) (slot_run (in_done config i p g k x a config.m rows f (opened w (expect_at config i p g k x (suc config.m) members 0)) o) (ds (suc config.m)))
  after_claims rows f w base en em late =
      let e : Expectation = expect_at config i p g k x (suc config.m) members 0 in
      let cw : Watch = all_delivered (opened w e) (ds (suc config.m)) in
      let due : ℕ = length (due_of config i p g k x a) in
      let next : config.m + 2 ≡ suc config.m + 1 = omega arith in
      let there = subst (λ (n : ℕ). Stands config i p g k x room o a n (stage config i p g k x n (Some a) (done_table config i p g k x a 0) rows (found_data config i p g k x a f) (opened (closed cw) (expect_at config i p g k x n members due)) o)) next
      (Stands.voting rows f (closed cw) (next_watch w e (ds (suc config.m)) base) en em late) in
      subst (Stands config i p g k x room o a (suc config.m + 1))
      (sym (opened_next (in_done config i p g k x a config.m rows f cw o) (suc config.m) (done_table config i p g k x a 0) rows (found_data config i p g k x a f) (closed cw) due
      (step_claims config i p g k x few a ids rows f cw o (agrees (closed cw)) (done_round config.m w base (omega arith))) (λ z. absurd (omega arith)) (sym (cond-true (suc config.m + 1 == config.m + 2) due 0 (eq-eqb (suc config.m + 1) (config.m + 2) (omega arith))))))
      there

  after_voting : (rows : Hearing (List ℕ)) (f : Found) (w : Watch) → IsWatch config i p g k x room w → rows.nodes ≡ config.nodes → rows.rounds ≡ config.m → f.late ≡ row_by (setting_of config) i (rounds_closed 0 x.report)
      → Stands config i p g k x room o a (config.m + 2 + 1) (slot_run (in_data config i p g k x a rows f (opened w (expect_at config i p g k x (config.m + 2) members (length (due_of config i p g k x a)))) o) (ds (config.m + 2)))
  after_voting rows f w base en em late =
      let due : ℕ = length (due_of config i p g k x a) in
      let e : Expectation = expect_at config i p g k x (config.m + 2) members due in
      let cw : Watch = all_delivered (opened w e) (ds (config.m + 2)) in
      let next : config.m + 3 + 0 ≡ config.m + 2 + 1 = omega arith in
      let there = subst (λ (n : ℕ). Stands config i p g k x room o a n (stage config i p g k x n (Some a) (done_table config i p g k x a 0) (row_table config i p g k x a 0) (found_report config i p g k x a 0) (opened (closed cw) (expect_at config i p g k x n members 0)) o)) next
      (Stands.reporting 0 (closed cw) (omega arith) (next_watch w e (ds (config.m + 2)) base)) in
      subst (Stands config i p g k x room o a (config.m + 2 + 1))
      (sym (opened_next (in_data config i p g k x a rows f cw o) (config.m + 2) (done_table config i p g k x a 0) (row_table config i p g k x a 0) (found_report config i p g k x a 0) (closed cw) 0
      (step_data config i p g k x few a ids rows f cw o (record { each = λ j l ne. (told.values a is).each j l ne ∙ sym (has_there values_in w (config.m + 2) due j base few_due l ne) }) en em late)
      (λ z. absurd (omega arith)) (sym (cond-false (config.m + 2 + 1 == config.m + 2) due 0 (ne_eqb (config.m + 2 + 1) (config.m + 2) (λ z. absurd (omega arith)))))))
      there

  after_reporting : (r : ℕ) (w : Watch) → r < config.m → IsWatch config i p g k x room w
      → Stands config i p g k x room o a (config.m + 3 + r + 1) (slot_run (in_report config i p g k x a r (opened w (expect_at config i p g k x (config.m + 3 + r) members 0)) o) (ds (config.m + 3 + r)))
  after_reporting r w low base =
      let e : Expectation = expect_at config i p g k x (config.m + 3 + r) members 0 in
      let cw : Watch = all_delivered (opened w e) (ds (config.m + 3 + r)) in
      let next : config.m + 3 + suc r ≡ config.m + 3 + r + 1 = omega arith in
      let there = subst (λ (n : ℕ). Stands config i p g k x room o a n (stage config i p g k x n (Some a) (done_table config i p g k x a 0) (row_table config i p g k x a (suc r)) (found_report config i p g k x a (suc r)) (opened (closed cw) (expect_at config i p g k x n members 0)) o)) next
      (Stands.reporting (suc r) (closed cw) (omega arith) (next_watch w e (ds (config.m + 3 + r)) base)) in
      subst (Stands config i p g k x room o a (config.m + 3 + r + 1))
      (sym (opened_next (in_report config i p g k x a r cw o) (config.m + 3 + r) (done_table config i p g k x a 0) (row_table config i p g k x a (suc r)) (found_report config i p g k x a (suc r)) (closed cw) 0
      (step_report config i p g k x few a ids r cw o (agrees (closed cw)) (report_round r w base (omega arith)))
      (λ z. absurd (omega arith)) (sym (cond-false (config.m + 3 + r + 1 == config.m + 2) (length (due_of config i p g k x a)) 0 (ne_eqb (config.m + 3 + r + 1) (config.m + 2) (λ z. absurd (omega arith)))))))
      there

  -- each slot but the last one leads on
  pub leads : (t : ℕ) (v : NodeView N) → t < 2 * config.m + 3 → Stands config i p g k x room o a t v → Stands config i p g k x room o a (t + 1) (slot_run v (ds t))
  leads t v low (Stands.hearing r rows f w short base en em late) = elim (cases_eq r config.m) [
    | inl last ↦ subst (λ (n : ℕ). Stands config i p g k x room o a (suc n + 1) (slot_run (in_done config i p g k x a n rows f (opened w (expect_at config i p g k x (suc n) members 0)) o) (ds (suc n)))) (sym last) (after_claims rows f w base en em late)
    | inr ne ↦ after_hearing r rows f w (omega arith) base en em late
  ]
  leads t v low (Stands.voting rows f w base en em late) = after_voting rows f w base en em late
  leads t v low (Stands.reporting r w short base) = after_reporting r w (omega arith) base

  -- the last slot ends the period
  ends_at : (r : ℕ) (w : Watch) → r ≡ config.m → IsWatch config i p g k x room w
      → IsOver (slot_run (in_report config i p g k x a r (opened w (expect_at config i p g k x (config.m + 3 + r) members 0)) o) (ds (config.m + 3 + r))) (through (setting_of config) i p g k x (is_some k.state) a)
  ends_at r w e base =
      subst (λ (n : ℕ). IsOver (slot_run (in_report config i p g k x a n (opened w (expect_at config i p g k x (config.m + 3 + n) members 0)) o) (ds (config.m + 3 + n))) (through (setting_of config) i p g k x (is_some k.state) a)) (sym e)
      (let cw : Watch = all_delivered (opened w (expect_at config i p g k x (config.m + 3 + config.m) members 0)) (ds (config.m + 3 + config.m)) in
      let done = ap next_open (step_report config i p g k x few a ids config.m cw o (agrees (closed cw)) (report_round config.m w base (omega arith))) ∙ step_end config i p g k x few a ids cw o in
      record { kept = ap (λ (v : NodeView N). v.kept) done; outcome = ap (λ (v : NodeView N). v.outcome) done; shut = ap (λ (v : NodeView N). v.phase.is_open) done })

  pub ends : (t : ℕ) (v : NodeView N) → t ≡ 2 * config.m + 3 → Stands config i p g k x room o a t v → IsOver (slot_run v (ds t)) (through (setting_of config) i p g k x (is_some k.state) a)
  ends t v e (Stands.hearing r rows f w short base en em late) = absurd (omega arith)
  ends t v e (Stands.voting rows f w base en em late) = absurd (omega arith)
  ends t v e (Stands.reporting r w short base) = ends_at r w (omega arith) base

  -- after the sync slot
  pub starts : (d : Hearing ℕ) (rows : Hearing (List ℕ)) (f : Found) (w : Watch) → IsWatch config i p g k x room w → d.nodes ≡ config.nodes → d.rounds ≡ config.m → rows.nodes ≡ config.nodes → rows.rounds ≡ config.m
      → f.notes ≡ k.carried → f.late ≡ row_by (setting_of config) i (rounds_closed 0 x.report)
      → Stands config i p g k x room o a 1 (slot_run (stage config i p g k x 0 k.state d rows f (opened w (expect_at config i p g k x 0 [] 0)) o) (ds 0))
  starts d rows f w base dn dm en em carried late =
      let e : Expectation = expect_at config i p g k x 0 [] 0 in
      let cw : Watch = all_delivered (opened w e) (ds 0) in
      subst (Stands config i p g k x room o a 1)
      (sym (opened_next (stage config i p g k x 0 k.state d rows f cw o) 0 (done_table config i p g k x a 0) rows (found_done config i p g k x a 0 f) (closed cw) 0
      (step_sync config i p g k x few a ids d rows f cw o (record { each = λ j l ne. told.sync.each j l ne ∙ sym (has_first w j base l ne) }) dn dm carried is)
      (λ z. absurd (omega arith)) (sym (cond-false (1 == config.m + 2) (length f.due) 0 (ne_eqb 1 (config.m + 2) (λ z. absurd (omega arith)))))))
      (Stands.hearing 0 rows f (closed cw) (omega arith) (next_watch w e (ds 0) base) en em late)
    where
      has_first : (w : Watch) (j : ℕ) → IsWatch config i p g k x room w → j < config.nodes → j ≢ i
          → has_of body_said (closed (all_delivered (opened w (expect_at config i p g k x 0 [] 0)) (ds 0))) j ≡ arrival body_said (of_sender j (expect_at config i p g k x 0 [] 0)) (from_sender j (ds 0))
      has_first w j h low ne =
          has_by_deliveries body_said law w (expect_at config i p g k x 0 [] 0) (ds 0) j
          (subst (λ (n : ℕ). HasRoom n (expect_at config i p g k x 0 [] 0)) (sym h.room_is) (rooms 0 [] 0 none (omega arith)))
          (let e = h.nodes in omega arith) (λ e. ne (e ∙ h.me)) (λ es. delivered_keeps (opened w (expect_at config i p g k x 0 [] 0)) es)
        where
          none : IsIdSet config.nodes []
          none = sym (filter_none (λ q. false) 0 config.nodes (λ q a b. refl))

  -- the slots of the period
  pub slots_stand : (v : NodeView N) (t : ℕ) → Stands config i p g k x room o a 1 (slots_run ds 1 v) → t ≤ 2 * config.m + 2 → Stands config i p g k x room o a (suc t) (slots_run ds (suc t) v)
  slots_stand v zero first low = first
  slots_stand v (suc t) first low =
      subst (λ (n : ℕ). Stands config i p g k x room o a n (slots_run ds (suc (suc t)) v)) (let e : suc t + 1 ≡ suc (suc t) = omega arith in e)
      (leads (suc t) (slots_run ds (suc t) v) (omega arith) (slots_stand v t first (omega arith)))

  -- the whole period
  pub period_ends : (v : NodeView N) → Stands config i p g k x room o a 1 (slots_run ds 1 v) → IsOver (slots_run ds (2 * config.m + 4) v) (through (setting_of config) i p g k x (is_some k.state) a)
  period_ends v first =
      subst (λ (n : ℕ). IsOver (slots_run ds n v) (through (setting_of config) i p g k x (is_some k.state) a)) (let e : suc (2 * config.m + 3) ≡ 2 * config.m + 4 = omega arith in e)
      (ends (2 * config.m + 3) (slots_run ds (2 * config.m + 3) v) refl
      (subst (λ (n : ℕ). Stands config i p g k x room o a n (slots_run ds n v)) (let e : suc (2 * config.m + 2) ≡ 2 * config.m + 3 = omega arith in e) (slots_stand v (2 * config.m + 2) first (omega arith))))

-- ---- the way of a node that stays Cold

pub data StandsCold {N : ℕ} (config : Config N) (i p : ℕ) (g : Inputs) (k : Kept) (x : Received) (o : Outcome) : ℕ → NodeView N → Type 0 where
  cold : (t : ℕ) (d : Hearing ℕ) (rows : Hearing (List ℕ)) (f : Found) (w : Watch) → 0 < t → StandsCold config i p g k x o t (stage config i p g k x t None d rows (found_cold config i p g k x f) w o)

module _ {N : ℕ} (config : Config N) (i p : ℕ) (g : Inputs) (k : Kept) (x : Received) (ds : ℕ → List Arriving) (o : Outcome) where
  cold_leads : (t : ℕ) (v : NodeView N) → t < 2 * config.m + 3 → StandsCold config i p g k x o t v → StandsCold config i p g k x o (t + 1) (slot_run v (ds t))
  cold_leads t v low (StandsCold.cold t' d rows f w later) =
      let cw : Watch = all_delivered w (ds t') in
      subst (StandsCold config i p g k x o (t' + 1))
      (sym (ap next_open (cond-false (t' == 0) _ (stage config i p g k x t' None d rows (found_cold config i p g k x f) (closed cw) o) (ne_eqb t' 0 (λ z. absurd (omega arith)))) ∙ opens_next config i p g k x t' None d rows (found_cold config i p g k x f) (closed cw) o (λ z. absurd (omega arith))))
      (StandsCold.cold (t' + 1) d rows f (opened (closed cw) (expected_in (stage config i p g k x t' None d rows (found_cold config i p g k x f) (closed cw) o) (t' + 1))) (omega arith))

  cold_ends : (t : ℕ) (v : NodeView N) → t ≡ 2 * config.m + 3 → StandsCold config i p g k x o t v → IsOver (slot_run v (ds t)) (cold_view (setting_of config) i x)
  cold_ends t v e (StandsCold.cold t' d rows f w later) =
      let cw : Watch = all_delivered w (ds t') in
      let done = ap next_open (cond-false (t' == 0) _ (stage config i p g k x t' None d rows (found_cold config i p g k x f) (closed cw) o) (ne_eqb t' 0 (λ z. absurd (omega arith)))) ∙ cond-true (t' == 2 * config.m + 3) _ _ (eq-eqb t' (2 * config.m + 3) e) in
      record { kept = ap (λ (v : NodeView N). v.kept) done; outcome = ap (λ (v : NodeView N). v.outcome) done; shut = ap (λ (v : NodeView N). v.phase.is_open) done }

  pub cold_stands : (v : NodeView N) (t : ℕ) → StandsCold config i p g k x o 1 (slots_run ds 1 v) → t ≤ 2 * config.m + 2 → StandsCold config i p g k x o (suc t) (slots_run ds (suc t) v)
  cold_stands v zero first low = first
  cold_stands v (suc t) first low =
      subst (λ (n : ℕ). StandsCold config i p g k x o n (slots_run ds (suc (suc t)) v)) (let e : suc t + 1 ≡ suc (suc t) = omega arith in e)
      (cold_leads (suc t) (slots_run ds (suc t) v) (omega arith) (cold_stands v t first (omega arith)))

  pub cold_period : (v : NodeView N) → StandsCold config i p g k x o 1 (slots_run ds 1 v) → IsOver (slots_run ds (2 * config.m + 4) v) (cold_view (setting_of config) i x)
  cold_period v first =
      subst (λ (n : ℕ). IsOver (slots_run ds n v) (cold_view (setting_of config) i x)) (let e : suc (2 * config.m + 3) ≡ 2 * config.m + 4 = omega arith in e)
      (cold_ends (2 * config.m + 3) (slots_run ds (2 * config.m + 3) v) refl
      (subst (λ (n : ℕ). StandsCold config i p g k x o n (slots_run ds n v)) (let e : suc (2 * config.m + 2) ≡ 2 * config.m + 3 = omega arith in e) (cold_stands v (2 * config.m + 2) first (omega arith))))

-- ---- the law

pub empty_is : (s : Setting) (i : ℕ) → empty_row s ≡ row_by s i (λ j b. false)
empty_is s i = zeros s.capacity 0 ∙ row_by_is s i (λ j b. false) where
  choice : (b : Bool) → 0 ≡ (if b then mask_of (ids_where (λ k. false) (kind_count s.config.version)) else 0)
  choice true = sym (mask-zero (λ k. false) (kind_count s.config.version) (λ k. refl))
  choice false = refl

  zeros : (n a : ℕ) → replicate {A = ℕ} n 0 ≡ map (λ j. if nat_lt j s.config.nodes && not (j == i) then mask_of (ids_where (λ k. false) (kind_count s.config.version)) else 0) (range_with_len a n)
  zeros zero a = refl
  zeros (suc n) a = ap₂ ◌∷◌ (choice (nat_lt a s.config.nodes && not (a == i))) (zeros n (a + 1))

pub few_dues : {N : ℕ} (config : Config N) (a : AgreedView) (done : List (Wrapped ℕ)) → length config.channels.items ≤ 8 → length (due_channels (setting_of config) a done) ≤ 8
few_dues config a done h =
    let l = length-ids (length config.channels.items) (due_channels (setting_of config) a done) (IsIdSet-filter (λ c. is_due (setting_of config) a done (channel (setting_of config) c)) (length config.channels.items)) in omega arith

pub first_has : {N : ℕ} (config : Config N) (i p : ℕ) (g : Inputs) (k : Kept) (x : Received) (room : ℕ) (law : FindsEach) (ds : ℕ → List Arriving)
    (rooms : (t : ℕ) (ms : List ℕ) (due : ℕ) → IsIdSet config.nodes ms → due ≤ 8 → HasRoom room (expect_at config i p g k x t ms due)) (w : Watch) (j : ℕ) → IsWatch config i p g k x room w → j < config.nodes → j ≢ i
    → has_of body_said (closed (all_delivered (opened w (expect_at config i p g k x 0 [] 0)) (ds 0))) j ≡ arrival body_said (of_sender j (expect_at config i p g k x 0 [] 0)) (from_sender j (ds 0))
first_has config i p g k x room law ds rooms w j h low ne =
    has_by_deliveries body_said law w (expect_at config i p g k x 0 [] 0) (ds 0) j
    (subst (λ (n : ℕ). HasRoom n (expect_at config i p g k x 0 [] 0)) (sym h.room_is) (rooms 0 [] 0 (sym (filter_none (λ q. false) 0 config.nodes (λ q a b. refl))) (omega arith)))
    (let e = h.nodes in omega arith) (λ e. ne (e ∙ h.me)) (λ es. delivered_keeps (opened w (expect_at config i p g k x 0 [] 0)) es)

pub goes_by : (s : Setting) (i : ℕ) (f : ℕ → Arrival (List ℕ)) (x : Received) (y : Option AgreedView) → Others s.config.nodes i (λ j. x.sync j ≡ f j) → (if is_some y then y else adopted_by s i f) ≡ goes_with s i x y
goes_by s i f x None h = adopted_alike s i f x.sync (record { each = λ j low ne. sym (h.each j low ne) })
goes_by s i f x (Some b) h = refl

-- the sync slot of a node that stays Cold
pub stays_cold : {N : ℕ} (config : Config N) (i p : ℕ) (g : Inputs) (k : Kept) (x : Received) (d : Hearing ℕ) (rows : Hearing (List ℕ)) (f : Found) (w : Watch) (o : Outcome)
    → Others config.nodes i (λ j. x.sync j ≡ has_of body_said (closed w) j) → goes config i p g k x ≡ None
    → slot_taken (shut (stage config i p g k x 0 k.state d rows f w o)) ≡ stage config i p g k x 0 None d rows (found_cold config i p g k x f) (closed w) o
stays_cold config i p g k x d rows f w o h e =
    ap (synced (with_sync (stage config i p g k x 0 k.state d rows f (closed w) o))) (goes_by (setting_of config) i (has_of body_said (closed w)) x k.state h ∙ e)
    ∙ ap (λ (sync : List ℕ). stage config i p g k x 0 None d rows (record f { sync = sync }) (closed w) o)
    (synced_alike (setting_of config) i (has_of body_said (closed w)) x (record { each = λ j low ne. sym (h.each j low ne) }))

pub fold_is_view : FindsEach → FoldIsView
fold_is_view law N config i p g k x room ds q d rows f w o given = go (goes config i p g k x) refl where
  begun_is : begun (resting config i k q d rows f w o) p g
      ≡ stage config i p g k x 0 k.state d rows (record { sync = []; notes = k.carried; late = empty_row (setting_of config); claims = replicate N (Fault 0); due = []; own = replicate channel_room None; votes = replicate channel_room None }) (opened w (expect_at config i p g k x 0 [] 0)) o
  begun_is =
      ap (λ (n : ℕ). stage config i p g k x 0 k.state d rows (record { sync = []; notes = k.carried; late = empty_row (setting_of config); claims = replicate N (Fault 0); due = []; own = replicate channel_room None; votes = replicate channel_room None }) (opened w (expect_at config i p g k x 0 [] n)) o)
      (cond-false (0 == config.m + 2) 0 0 (ne_eqb 0 (config.m + 2) (λ z. absurd (omega arith))))

  go : (y : Option AgreedView) → goes config i p g k x ≡ y → IsOver (slots_run ds (2 * config.m + 4) (begun (resting config i k q d rows f w o) p g)) (view_from (setting_of config) i p g k x k.state)
  go (Some a) e =
      let due : length (due_of config i p g k x a) ≤ 8 = few_dues config a (claims_of config i p g k x a) given.few_channels in
      let ids : IsIdSet config.nodes a.standing.members = given.members a e in
      subst (IsOver (slots_run ds (2 * config.m + 4) (begun (resting config i k q d rows f w o) p g))) (sym (view_through (setting_of config) i p g k x k.state a e))
      (period_ends config i p g k x given.few room law ds given.told given.rooms o a e ids due (begun (resting config i k q d rows f w o) p g)
      (subst (λ (v : NodeView N). Stands config i p g k x room o a 1 (slots_run ds 1 v)) (sym begun_is)
      (starts config i p g k x given.few room law ds given.told given.rooms o a e ids due d rows
      (record { sync = []; notes = k.carried; late = empty_row (setting_of config); claims = replicate N (Fault 0); due = []; own = replicate channel_room None; votes = replicate channel_room None }) w given.watch given.done_nodes given.done_rounds given.rows_nodes given.rows_rounds refl
      (empty_is (setting_of config) i))))
  go None e =
      let cw : Watch = all_delivered (opened w (expect_at config i p g k x 0 [] 0)) (ds 0) in
      let f1 : Found = record { sync = []; notes = k.carried; late = empty_row (setting_of config); claims = replicate N (Fault 0); due = []; own = replicate channel_room None; votes = replicate channel_room None } in
      let took = stays_cold config i p g k x d rows f1 cw o (record { each = λ j l ne. given.told.sync.each j l ne ∙ sym (first_has config i p g k x room law ds given.rooms w j given.watch l ne) }) e in
      let first = subst (λ (v : NodeView N). StandsCold config i p g k x o 1 (slots_run ds 1 v)) (sym begun_is)
      (subst (StandsCold config i p g k x o 1) (sym (ap next_open took ∙ opens_next config i p g k x 0 None d rows (found_cold config i p g k x f1) (closed cw) o (λ z. absurd (omega arith))))
      (StandsCold.cold 1 d rows f1 (opened (closed cw) (expected_in (stage config i p g k x 0 None d rows (found_cold config i p g k x f1) (closed cw) o) 1)) (omega arith))) in
      subst (IsOver (slots_run ds (2 * config.m + 4) (begun (resting config i k q d rows f w o) p g))) (sym (goes_none (setting_of config) i p g k x k.state e))
      (cold_period config i p g k x ds o (begun (resting config i k q d rows f w o) p g) first)
