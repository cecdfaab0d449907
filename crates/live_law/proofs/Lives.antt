-- A node goes through any periods as the protocol says.
use Rattle.std.proofs.Common.{ℕ, ◌≡◌, ◌+◌, ◌*◌, Bool, true, false, List, [], ◌∷◌, refl, ap, ◌∙◌}
use Rattle.node_grid.specs.Capacity.{IsCapacity}
use Rattle.agreed_state.specs.declared.config.Config.{Config}
use Rattle.agreed_state.specs.Config.{IsConfig}
use Rattle.protocol.specs.View.{Kept, nothing, opened}
use Rattle.protocol.specs.ViewLaws.{opened_valid, kept_valid}
use Rattle.protocol.specs.Configured.{setting_of}
use Rattle.node_steps.specs.Parts.{NodeView}
use Rattle.node_steps.specs.Living.{restarted_if}
use Rattle.node_steps.specs.Sending.{Fixed, GoesThrough, PeriodLaw}
use Rattle.node_steps.specs.Facts.{same_fixed}
use Rattle.live_law.specs.Received.{received}
use Rattle.live_law.specs.Periods.{IsBetween, Next, begins_next, view_next, after_next, GoesThroughAll, AnyPeriodsLaw}
use Rattle.live_law.proofs.Told.{told, served_by}

opens_with : {N : ℕ} (config : Config N) (b : Bool) (v : NodeView N) (k : Kept) → v.config ≡ config → v.kept ≡ k → (restarted_if b v).kept ≡ opened (setting_of config) b k
opens_with {N} config true v k c e = ap (λ (z : Config N). nothing (setting_of z)) c
opens_with config false v k c e = e

-- before it begins, a node that restarts or not is one between periods
pub between_restarted : {N : ℕ} (config : Config N) (i : ℕ) (b : Bool) (k : Kept) (v : NodeView N) → IsBetween config i k v → IsBetween config i (opened (setting_of config) b k) (restarted_if b v)
between_restarted {N} config i b k v at = record {
  room = at.room;
  greatest = at.greatest;
  same = same_fixed b v ∙ at.same;
  keeps = opens_with config b v k (ap (λ (f : Fixed N). f.config) at.same) at.keeps;
  valid = opened_valid (setting_of config) b k at.valid;
  shut = still b v ∙ at.shut;
} where
  still : (b : Bool) (v : NodeView N) → (restarted_if b v).phase.is_open ≡ v.phase.is_open
  still true v = refl
  still false v = refl

module _ (law : PeriodLaw) {N : ℕ} (config : Config N) (i : ℕ) (capacity : IsCapacity N) (is : IsConfig N config) where
  -- through one period
  pub goes_next : (k : Kept) (v : NodeView N) (q : Next) → IsBetween config i k v
      → GoesThrough config i q.period q.inputs (begins_next config i k q) (received config i q.period q.inputs (begins_next config i k q) q.slots) q.slots (restarted_if q.restarts v)
  goes_next k v q at =
      let b : Kept = begins_next config i k q in
      let w = between_restarted config i q.restarts k v at in
      law N config i q.period q.inputs b (received config i q.period q.inputs b q.slots) w.room q.slots (restarted_if q.restarts v)
      (served_by config i q.period q.inputs b capacity is w.room w.greatest (received config i q.period q.inputs b q.slots) q.slots (told config i q.period q.inputs b q.slots) w.valid) w.same w.keeps

  -- and between periods after it
  pub between_after : (k : Kept) (v : NodeView N) (q : Next) → IsBetween config i k v → IsBetween config i (view_next config i k q).kept (after_next config i v q)
  between_after k v q at =
      let b : Kept = begins_next config i k q in
      let w = between_restarted config i q.restarts k v at in
      let through = goes_next k v q at in
      record {
        room = w.room;
        greatest = w.greatest;
        same = through.stays (2 * config.m + 4) ∙ w.same;
        keeps = through.over.kept;
        valid = kept_valid (setting_of config) capacity is i q.period q.inputs b (received config i q.period q.inputs b q.slots) b.state w.valid;
        shut = through.over.shut;
      }

  pub lives_on : (k : Kept) (v : NodeView N) (qs : List Next) → IsBetween config i k v → GoesThroughAll config i k v qs
  unfolding GoesThroughAll
  lives_on k v [] at = at
  lives_on k v (q ∷ qs) at = (goes_next k v q at, lives_on (view_next config i k q).kept (after_next config i v q) qs (between_after k v q at))

pub life : PeriodLaw → AnyPeriodsLaw
life law N config i k v qs capacity is at = lives_on law config i capacity is k v qs at
