-- What a node says in each slot.
use Rattle.std.proofs.Common.{ℕ, suc, ◌≡◌, ◌<◌, ◌≤◌, ◌+◌, ◌-◌, ◌==◌, if◌then◌else◌, refl, ap, ◌∙◌, arith, eq-eqb, ne_eqb}
use Rattle.std.specs.Prelude.{nat_le, is_some}
use Rattle.std.proofs.lemmas.Bool.{cond-true, cond-false}
use Rattle.node_grid.specs.NumberFacts.{le_no, le_yes}
use Rattle.frames.specs.Content.{Content}
use Rattle.frames.specs.Content.Content.{DoneRelay, ReportRelay, Cold}
use Rattle.protocol.specs.View.{own_claim}
use Rattle.relay_rules.specs.Relaying.{relays}
use Rattle.node_steps.specs.Stages.{row_of, done_table, row_table}
use Rattle.node_steps.specs.Owed.{FramesAreOwed}
use Rattle.node_steps.proofs.Arrived.{relays_tabled}

-- the slots, one test after another
module _ (m t : ℕ) (s c d v r e : Content) where
  abbrev pick : Content
  pick = if t == 0 then s else (if t == 1 then c else (if nat_le t (m + 1) then d else (if t == m + 2 then v else (if t == m + 3 then r else e))))

  at_claims : 1 < t → t ≤ m + 1 → pick ≡ d
  at_claims l h = cond-false (t == 0) s _ (ne_eqb t 0 (λ z. absurd (omega arith))) ∙ cond-false (t == 1) c _ (ne_eqb t 1 (λ z. absurd (omega arith))) ∙ cond-true (nat_le t (m + 1)) d _ (le_yes t (m + 1) h)

  at_values : t ≡ m + 2 → pick ≡ v
  at_values h =
      cond-false (t == 0) s _ (ne_eqb t 0 (λ z. absurd (omega arith))) ∙ cond-false (t == 1) c _ (ne_eqb t 1 (λ z. absurd (omega arith)))
      ∙ cond-false (nat_le t (m + 1)) d _ (le_no t (m + 1) (omega arith)) ∙ cond-true (t == m + 2) v _ (eq-eqb t (m + 2) h)

  at_row : t ≡ m + 3 → pick ≡ r
  at_row h =
      cond-false (t == 0) s _ (ne_eqb t 0 (λ z. absurd (omega arith))) ∙ cond-false (t == 1) c _ (ne_eqb t 1 (λ z. absurd (omega arith)))
      ∙ cond-false (nat_le t (m + 1)) d _ (le_no t (m + 1) (omega arith)) ∙ cond-false (t == m + 2) v _ (ne_eqb t (m + 2) (λ z. absurd (omega arith))) ∙ cond-true (t == m + 3) r e (eq-eqb t (m + 3) h)

  at_rows : m + 3 < t → pick ≡ e
  at_rows h =
      cond-false (t == 0) s _ (ne_eqb t 0 (λ z. absurd (omega arith))) ∙ cond-false (t == 1) c _ (ne_eqb t 1 (λ z. absurd (omega arith)))
      ∙ cond-false (nat_le t (m + 1)) d _ (le_no t (m + 1) (omega arith)) ∙ cond-false (t == m + 2) v _ (ne_eqb t (m + 2) (λ z. absurd (omega arith))) ∙ cond-false (t == m + 3) r e (ne_eqb t (m + 3) (λ z. absurd (omega arith)))

pub frames_are_owed : FramesAreOwed
frames_are_owed N config i p g k x a ids = record {
  claim = λ rows f w o. refl;
  claims = λ r rows f w o some low. ap (λ (c : Content). if is_some k.state then c else Cold)
      (at_claims config.m (suc r) _ _ (DoneRelay (relays (done_table config i p g k x a r) (suc r - 1))) _ _ _ (omega arith) (omega arith)
      ∙ ap (λ (n : ℕ). DoneRelay (relays (done_table config i p g k x a r) n)) (let e : suc r - 1 ≡ r = omega arith in e)
      ∙ ap DoneRelay (relays_tabled config.nodes config.m a.standing.members i (is_some k.state) (own_claim i g a) r x.done ids some (omega arith)));
  values = λ rows f w o. ap (λ (c : Content). if is_some k.state then c else Cold) (at_values config.m (config.m + 2) _ _ _ _ _ _ refl);
  row = λ w o. ap (λ (c : Content). if is_some k.state then c else Cold) (at_row config.m (config.m + 3 + 0) _ _ _ _ _ _ (omega arith));
  rows = λ r w o some low. ap (λ (c : Content). if is_some k.state then c else Cold)
      (at_rows config.m (config.m + 3 + r) _ _ _ _ _ (ReportRelay (relays (row_table config i p g k x a r) (config.m + 3 + r - (config.m + 3)))) (omega arith)
      ∙ ap (λ (n : ℕ). ReportRelay (relays (row_table config i p g k x a r) n)) (let e : config.m + 3 + r - (config.m + 3) ≡ r = omega arith in e)
      ∙ ap ReportRelay (relays_tabled config.nodes config.m a.standing.members i (is_some k.state) (row_of config i p g k x a) r x.report ids some (omega arith)));
}
