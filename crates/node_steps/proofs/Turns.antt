-- A node goes from slot to slot.
use Rattle.std.proofs.Common.{ℕ, ◌≡◌, ◌<◌, ◌+◌, ◌*◌, ◌==◌, true, false, ap, ◌∙◌, arith, inl, inr, ◌≢◌}
use Rattle.std.proofs.lemmas.Bool.{cond-true, cond-false}
use Rattle.std.proofs.lemmas.Bool.Decides.{eqb_tells}
use Rattle.agreed_state.specs.declared.config.Config.{Config}
use Rattle.node_steps.specs.Parts.{NodeView}
use Rattle.node_steps.specs.Steps.{after_slot, next_open, slot_taken, shut}
use Rattle.node_steps.specs.FixedLaws.{Lasting, Place, slot_place, finished_lasts}

-- t slots of node i's period are over: the next one is open, or none after the last
pub record IsAt {N : ℕ} (c : Config N) (i t : ℕ) (v : NodeView N) : Type 0 where
  pub config : v.config ≡ c
  pub me : v.phase.me ≡ i
  pub slot : t < 2 * c.m + 4 → v.phase.slot ≡ t
  pub open_still : t < 2 * c.m + 4 → v.phase.is_open ≡ true
  pub over : t ≡ 2 * c.m + 4 → v.phase.is_open ≡ false

next : {N : ℕ} (config : Config N) (me slot : ℕ) (w : NodeView N) → w.config ≡ config → w.phase.me ≡ me → w.phase.slot ≡ slot → w.phase.is_open ≡ true → slot < 2 * config.m + 4 → IsAt config me (slot + 1) (next_open w)
next {N} config me slot w same own at still low =
    let rounds : w.config.m ≡ config.m = ap (λ (c : Config N). c.m) same in
    elim (eqb_tells w.phase.slot (2 * w.config.m + 3)) [
      | inl h ↦
          let last : w.phase.slot ≡ 2 * w.config.m + 3 = h.1 in
          let is = cond-true (w.phase.slot == 2 * w.config.m + 3) _ _ h.0 in
          record {
            config = ap (λ (v : NodeView N). v.config) is ∙ ap (λ (l : Lasting N). l.of_node.config) (finished_lasts w w.phase.before) ∙ same;
            me = ap (λ (v : NodeView N). v.phase.me) is ∙ ap (λ (l : Lasting N). l.of_node.me) (finished_lasts w w.phase.before) ∙ own;
            slot = λ l. absurd (omega arith);
            open_still = λ l. absurd (omega arith);
            over = λ l. ap (λ (v : NodeView N). v.phase.is_open) is;
          }
      | inr h ↦
          let more : w.phase.slot ≢ 2 * w.config.m + 3 = h.1 in
          let is = cond-false (w.phase.slot == 2 * w.config.m + 3) _ _ h.0 in
          record {
            config = ap (λ (v : NodeView N). v.config) is ∙ same;
            me = ap (λ (v : NodeView N). v.phase.me) is ∙ own;
            slot = λ l. ap (λ (v : NodeView N). v.phase.slot) is ∙ ap (λ (t : ℕ). t + 1) at;
            open_still = λ l. ap (λ (v : NodeView N). v.phase.is_open) is ∙ still;
            over = λ l. absurd (more (omega arith));
          }
    ]

pub turned : {N : ℕ} (config : Config N) (me slot : ℕ) (v : NodeView N) → slot < 2 * config.m + 4 → IsAt config me slot v → IsAt config me (slot + 1) (after_slot v)
turned {N} config me slot v low at =
    let h = slot_place v in
    next config me slot (slot_taken (shut v)) (ap (λ (p : Place N). p.lasts.of_node.config) h ∙ at.config) (ap (λ (p : Place N). p.lasts.of_node.me) h ∙ at.me) (ap (λ (p : Place N). p.slot) h ∙ at.slot low) (ap (λ (p : Place N). p.still) h ∙ at.open_still low) low
