-- A slot of claims or rows that was closed, as it is heard.
use Rattle.std.proofs.Common.{ℕ, ◌≡◌, ◌≢◌, ◌≤◌, ◌+◌, ◌-◌, ◌==◌, true, Some, sym, ap, ap₂, subst, ◌∙◌, arith, eq-eqb, ne_eqb}
use Rattle.std.specs.Prelude.{IsSome, nat_le, if◌then◌else◌}
use Rattle.std.proofs.lemmas.Bool.{cond-true, cond-false}
use Rattle.node_grid.specs.NumberFacts.{le_yes, le_no}
use Rattle.omh.specs.Heard.{Hearing}
use Rattle.frames.specs.Content.{Expectation, IsClaim, IsRow}
use Rattle.frames.specs.FrameKinds.{claim_relay_kind, row_relay_kind}
use Rattle.error_detect.specs.Watching.{Watch, closed, findings, IsHeardBy}
use Rattle.error_reports.specs.Notes.{Notes, also_noted, also_carried}
use Rattle.agreed_state.specs.Agreed.{AgreedView}
use Rattle.protocol.specs.Arrival.{claim_form, row_form}
use Rattle.relaying.specs.Hearing.{after_round}
use Rattle.relaying.specs.Round.{IsRoundOf}
use Rattle.relaying.specs.Told.{IsSlotOf, IsRoundHeard}
use Rattle.noting.specs.Findings.{found_bad, bad_in}
use Rattle.noting.specs.FoundLaws.{claims_found, rows_found}
use Rattle.node_steps.specs.Parts.{NodeView}
use Rattle.node_steps.specs.PremiseLaws.{done_hears, rows_hears}
use Rattle.node_steps.specs.Sound.{Hears, IsInSlot, IsSound}
use Rattle.node_steps.specs.Steps.{expected_in, shut, taken, done_noted, done_heard, report_noted, report_heard, after_done, after_data, after_report, claims_known, noting}
use Rattle.node_core.specs.declared.controller.Controller.TheInside.{Inside}
use Rattle.node_core.specs.Inside.{seen, IsController}
use Rattle.node_core.proofs.NotedRows.{noted_by, carried_by}
use Rattle.node_core.proofs.Rounds.{claims_round, rows_round}

-- a slot as the writers of relay frames know it is one as their readers do
slot_of : {V : Type 0} {P : Expectation → V → Type 0} {capacity kind r : ℕ} {h : Hearing V} {e : Expectation} → IsRoundOf capacity kind P r h e → IsSlotOf capacity kind r h e
slot_of round = record { capacity_is = round.capacity_is; kind_is = round.kind_is; round_is = round.round_is; nodes_are = round.nodes_are; members_are = round.members_are }

module _ {N : ℕ} (n : Inside N) (inv : IsController n) (sound : IsSound (seen n)) (open' : n.phase.is_open ≡ true) (u : Watch) (shut' : u ≡ closed n.watch) where
  abbrev v : NodeView N
  v = seen n

  slot : IsInSlot v
  slot = sound.in_slot open'

  is_closed : (nodes me : ℕ) → n.config.now.nodes ≡ nodes → n.phase.me ≡ me → IsHeardBy u nodes me
  is_closed nodes me same mine = record {
    nodes_are = ap (λ (w : Watch). w.nodes) shut' ∙ inv.watch.nodes ∙ same;
    me_is = ap (λ (w : Watch). w.me) shut' ∙ inv.watch.me_is ∙ mine;
    closed = ap (λ (w : Watch). w.is_open) shut';
    some_slot = subst IsSome (sym (ap (λ (w : Watch). w.expect) shut')) (inv.watch.expects slot.watching);
  }

  expects : u.expect ≡ Some (expected_in v v.phase.slot)
  expects = ap (λ (w : Watch). w.expect) shut' ∙ slot.expects

  expected_by : (x : Expectation) → u.expect ≡ Some x → expected_in v v.phase.slot ≡ x
  expected_by x is = let same = sym expects ∙ is in cc

  module _ (a : AgreedView) (goes : n.phase.before ≡ Some a) (r : ℕ) (low : r ≤ n.config.now.m) where
    -- ---- claims

    module _ (claims_number : v.phase.slot ≡ 1 + r) where
      pub claims_hears : Hears n.done n.phase.me a
      claims_hears = done_hears v a slot (omega (arith, claims_number)) goes

      pub claims_closed : IsRoundHeard N claim_relay_kind r n.done u
      claims_closed = record {
        closed = is_closed n.done.nodes n.done.me (sym sound.sizes.done.nodes_are) (sym claims_hears.me_is);
        slot = λ some x is. subst (IsSlotOf N claim_relay_kind r n.done) (expected_by x is) (slot_of (subst (λ (k : ℕ). IsRoundOf N claim_relay_kind (λ e. IsClaim e.tasks) r n.done (expected_in v k)) (sym claims_number) (claims_round v a r sound.sizes goes claims_hears some low)));
      }

      -- what is noted is what the definitions say
      pub claims_noted : (x : Notes) → x ≡ also_noted N n.found.notes (found_bad (findings N n.watch)) → record v { found = record v.found { notes = x.row; late = x.carried }; arrived = u } ≡ done_noted (shut v)
      claims_noted x noted =
          let less : r ≡ v.phase.slot - 1 = omega (arith, claims_number) in
          let found : also_noted N n.found.notes (found_bad (findings N n.watch)) ≡ also_noted N n.found.notes (bad_in claim_form r (closed n.watch)) =
          claims_found N n.found.notes (closed n.watch) (expected_in v v.phase.slot) r (record { nodes_are = inv.watch.nodes ∙ sym inv.notes.nodes; me_is = inv.watch.me_is ∙ sym inv.notes.me_is; expects = slot.expects })
          (omega (arith, claims_number)) low in
          let notes : x ≡ record n.found.notes { row = noting v (bad_in claim_form r (closed n.watch)) n.found.notes.row } = noted ∙ found ∙ noted_by n.config.now n.phase.me n.found.notes inv.notes (bad_in claim_form r (closed n.watch)) in
          ap₂ (λ (y : Notes) (w : Watch). record v { found = record v.found { notes = y.row; late = y.carried }; arrived = w }) notes shut'
          ∙ ap (λ (k : ℕ). record v { found = record v.found { notes = noting v (bad_in claim_form k (closed n.watch)) n.found.notes.row }; arrived = closed n.watch }) less

      -- and so is what was heard
      pub claims_heard : (k : ℕ) → k ≡ r → after_round claim_form n.done.nodes u k n.done ≡ done_heard (shut v)
      claims_heard k same =
          let less : k ≡ v.phase.slot - 1 = omega (arith, claims_number, same) in
          ap₂ (λ (j : ℕ) (w : Watch). after_round claim_form j w k n.done) sound.sizes.done.nodes_are shut' ∙ ap (λ (q : ℕ). after_round claim_form n.config.now.nodes (closed n.watch) q n.done) less

    -- ---- rows

    module _ (rows_number : v.phase.slot ≡ n.config.now.m + 3 + r) where
      pub rows_hear : Hears n.rows n.phase.me a
      rows_hear = rows_hears v a slot (omega (arith, rows_number)) goes

      pub rows_closed : IsRoundHeard N row_relay_kind r n.rows u
      rows_closed = record {
        closed = is_closed n.rows.nodes n.rows.me (sym sound.sizes.rows.nodes_are) (sym rows_hear.me_is);
        slot = λ some x is. subst (IsSlotOf N row_relay_kind r n.rows) (expected_by x is) (slot_of (subst (λ (k : ℕ). IsRoundOf N row_relay_kind (λ e. IsRow e.version N e.nodes) r n.rows (expected_in v k)) (sym rows_number) (rows_round v a r sound.sizes goes rows_hear some low)));
      }

      pub rows_noted : (x : Notes) → x ≡ also_carried N n.found.notes (found_bad (findings N n.watch)) → record v { found = record v.found { notes = x.row; late = x.carried }; arrived = u } ≡ report_noted (shut v)
      rows_noted x noted =
          let m : ℕ = n.config.now.m in
          let less : r ≡ v.phase.slot - (m + 3) = omega (arith, rows_number) in
          let found : also_carried N n.found.notes (found_bad (findings N n.watch)) ≡ also_carried N n.found.notes (bad_in row_form r (closed n.watch)) =
          rows_found N n.found.notes (closed n.watch) (expected_in v v.phase.slot) r (record { nodes_are = inv.watch.nodes ∙ sym inv.notes.nodes; me_is = inv.watch.me_is ∙ sym inv.notes.me_is; expects = slot.expects })
          (omega (arith, rows_number)) low in
          let notes : x ≡ record n.found.notes { carried = noting v (bad_in row_form r (closed n.watch)) n.found.notes.carried } = noted ∙ found ∙ carried_by n.config.now n.phase.me n.found.notes inv.notes (bad_in row_form r (closed n.watch)) in
          ap₂ (λ (y : Notes) (w : Watch). record v { found = record v.found { notes = y.row; late = y.carried }; arrived = w }) notes shut'
          ∙ ap (λ (k : ℕ). record v { found = record v.found { late = noting v (bad_in row_form k (closed n.watch)) n.found.notes.carried }; arrived = closed n.watch }) less

      pub rows_heard : (k : ℕ) → k ≡ r → after_round row_form n.rows.nodes u k n.rows ≡ report_heard (shut v)
      rows_heard k same =
          let less : k ≡ v.phase.slot - (n.config.now.m + 3) = omega (arith, rows_number, same) in
          ap₂ (λ (j : ℕ) (w : Watch). after_round row_form j w k n.rows) sound.sizes.rows.nodes_are shut' ∙ ap (λ (q : ℕ). after_round row_form n.config.now.nodes (closed n.watch) q n.rows) less

-- ---- what a slot's end takes, by the slot

pub claims_taken : {N : ℕ} (v : NodeView N) (a : AgreedView) (r : ℕ) → v.phase.slot ≡ 1 + r → r ≤ v.config.m → taken (shut v) (Some a) ≡ after_done (shut v) a
claims_taken v a r at low =
    cond-true (nat_le v.phase.slot (v.config.m + 1)) (after_done (shut v) a) (if v.phase.slot == v.config.m + 2 then after_data (shut v) a else after_report (shut v)) (le_yes v.phase.slot (v.config.m + 1) (omega (arith, at, low)))

pub rows_taken : {N : ℕ} (v : NodeView N) (a : AgreedView) (r : ℕ) → v.phase.slot ≡ v.config.m + 3 + r → taken (shut v) (Some a) ≡ after_report (shut v)
rows_taken v a r at =
    cond-false (nat_le v.phase.slot (v.config.m + 1)) (after_done (shut v) a) (if v.phase.slot == v.config.m + 2 then after_data (shut v) a else after_report (shut v)) (le_no v.phase.slot (v.config.m + 1) (omega (arith, at)))
    ∙ cond-false (v.phase.slot == v.config.m + 2) (after_data (shut v) a) (after_report (shut v)) (ne_eqb v.phase.slot (v.config.m + 2) (λ e. absurd (omega (arith, at, e))))

-- after the last round of claims they are settled
pub last_claims : {N : ℕ} (v : NodeView N) (a : AgreedView) → v.phase.slot ≡ v.config.m + 1 → after_done (shut v) a ≡ claims_known (done_noted (shut v)) (done_heard (shut v)) a
last_claims v a at =
    cond-true (v.phase.slot == v.config.m + 1) (claims_known (done_noted (shut v)) (done_heard (shut v)) a) (record (done_noted (shut v)) { done = done_heard (shut v) }) (eq-eqb v.phase.slot (v.config.m + 1) at)

pub other_claims : {N : ℕ} (v : NodeView N) (a : AgreedView) → v.phase.slot ≢ v.config.m + 1 → after_done (shut v) a ≡ record (done_noted (shut v)) { done = done_heard (shut v) }
other_claims v a at =
    cond-false (v.phase.slot == v.config.m + 1) (claims_known (done_noted (shut v)) (done_heard (shut v)) a) (record (done_noted (shut v)) { done = done_heard (shut v) }) (ne_eqb v.phase.slot (v.config.m + 1) at)
