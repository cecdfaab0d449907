-- The frame of a relay slot says what the node passes on of what it heard.
use Rattle.std.proofs.Common.{ℕ, ◌≡◌, ◌<◌, ◌≤◌, ◌+◌, ◌-◌, sym, ap, subst, ◌∙◌, arith}
use Rattle.frames.specs.Content.{Expectation, IsClaim, IsRow}
use Rattle.frames.specs.Content.Content.{DoneRelay, ReportRelay}
use Rattle.frames.specs.FrameKinds.{claim_relay_kind, row_relay_kind}
use Rattle.frames.specs.Spelling.{spelling, head_of}
use Rattle.agreed_state.specs.Agreed.{AgreedView}
use Rattle.relaying.specs.Relaying.{relays}
use Rattle.relaying.specs.Round.{IsRoundOf}
use Rattle.node_steps.specs.Parts.{NodeView}
use Rattle.node_steps.specs.PremiseLaws.{done_hears, rows_hears}
use Rattle.node_steps.specs.Ready.{IsFullWith, head_now}
use Rattle.node_steps.specs.Sound.{HasSizes, IsInSlot}
use Rattle.node_steps.specs.Steps.{expected_in, frame_of}
use Rattle.node_core.specs.declared.controller.Controller.TheInside.{Inside}
use Rattle.node_core.specs.Inside.{seen}
use Rattle.node_core.proofs.Rounds.{claims_round, rows_round}
use Rattle.node_core.proofs.Spelt.{says_claims, says_rows}

module _ {N : ℕ} (n : Inside N) (v : NodeView N) (is : seen n ≡ v) (a : AgreedView) (own : IsFullWith v a) (h : HasSizes v) (s : IsInSlot v) (e : Expectation) (r : ℕ) (some : 0 < r) where
  -- what is expected in the slot is of the round
  pub claims_asked_now : r ≤ v.config.m → v.phase.slot ≡ 1 + r → e ≡ expected_in v (1 + r) → IsRoundOf N claim_relay_kind (λ x. IsClaim x.tasks) r n.done e
  claims_asked_now low at expects =
      subst (λ (w : NodeView N). IsRoundOf N claim_relay_kind (λ x. IsClaim x.tasks) r w.done e) (sym is)
      (subst (λ (x : Expectation). IsRoundOf N claim_relay_kind (λ y. IsClaim y.tasks) r v.done x) (sym expects)
      (claims_round v a r h own.goes (done_hears v a s (omega (arith, at)) own.goes) some low))

  pub rows_asked_now : r ≤ v.config.m → v.phase.slot ≡ v.config.m + 3 + r → e ≡ expected_in v (v.config.m + 3 + r) → IsRoundOf N row_relay_kind (λ x. IsRow x.version N x.nodes) r n.rows e
  rows_asked_now low at expects =
      subst (λ (w : NodeView N). IsRoundOf N row_relay_kind (λ x. IsRow x.version N x.nodes) r w.rows e) (sym is)
      (subst (λ (x : Expectation). IsRoundOf N row_relay_kind (λ y. IsRow y.version N y.nodes) r v.rows x) (sym expects)
      (rows_round v a r h own.goes (rows_hears v a s (omega (arith, at)) own.goes) some low))

  -- and what it passes on is its frame
  pub claims_frame : r ≤ v.config.m → v.phase.slot ≡ 1 + r → e ≡ expected_in v (1 + r) → spelling n.done.nodes (head_of e) (DoneRelay (relays n.done r)) ≡ frame_of v
  claims_frame low at expects =
      let round : r ≡ v.phase.slot - 1 = omega (arith, at) in
      ap (λ (x : Expectation). spelling n.done.nodes (head_of x) (DoneRelay (relays n.done r))) expects
      ∙ ap (λ (w : NodeView N). spelling w.done.nodes (head_of (expected_in v (1 + r))) (DoneRelay (relays w.done r))) is
      ∙ ap (λ (k : ℕ). spelling k (head_of (expected_in v (1 + r))) (DoneRelay (relays v.done r))) h.done.nodes_are
      ∙ ap (λ (t : ℕ). spelling v.config.nodes (head_of (expected_in v t)) (DoneRelay (relays v.done r))) (sym at)
      ∙ ap (λ (k : ℕ). spelling v.config.nodes (head_now v) (DoneRelay (relays v.done k))) round
      ∙ ap (spelling v.config.nodes (head_now v)) (sym (says_claims v a own (omega (arith, at, some)) (omega (arith, at, low))))

  pub rows_frame : v.phase.slot ≡ v.config.m + 3 + r → e ≡ expected_in v (v.config.m + 3 + r) → spelling n.rows.nodes (head_of e) (ReportRelay (relays n.rows r)) ≡ frame_of v
  rows_frame at expects =
      let round : r ≡ v.phase.slot - (v.config.m + 3) = omega (arith, at) in
      ap (λ (x : Expectation). spelling n.rows.nodes (head_of x) (ReportRelay (relays n.rows r))) expects
      ∙ ap (λ (w : NodeView N). spelling w.rows.nodes (head_of (expected_in v (v.config.m + 3 + r))) (ReportRelay (relays w.rows r))) is
      ∙ ap (λ (k : ℕ). spelling k (head_of (expected_in v (v.config.m + 3 + r))) (ReportRelay (relays v.rows r))) h.rows.nodes_are
      ∙ ap (λ (t : ℕ). spelling v.config.nodes (head_of (expected_in v t)) (ReportRelay (relays v.rows r))) (sym at)
      ∙ ap (λ (k : ℕ). spelling v.config.nodes (head_now v) (ReportRelay (relays v.rows k))) round
      ∙ ap (spelling v.config.nodes (head_now v)) (sym (says_rows v a own (omega (arith, at, some))))
