-- Which channels are due, by what completion leaves.
use Rattle.std.proofs.Common.{◌≡◌, ◌<◌, ◌&&◌, true, ℕ, List, None, Some, refl, sym, ap, subst, ◌∙◌}
use Rattle.std.specs.Prelude.{not}
use Rattle.omh_paths.specs.declared.wrapped.Wrapped.{Wrapped}
use Rattle.list_scheduler.specs.Copies.{CopyTable}
use Rattle.list_scheduler.specs.Schedule.{copies_completed, finished}
use Rattle.mme_vote.specs.declared.channel.Channel.{Channel}
use Rattle.mme_vote.specs.declared.channel.Channel.TheVariants.{State, Sensor, Copy}
use Rattle.mme_vote.specs.Channel.{task_of}
use Rattle.agreed_state.specs.declared.config.Config.{Config}
use Rattle.agreed_state.specs.Config.{IsChannel}
use Rattle.agreed_state.specs.Agreed.{AgreedView}
use Rattle.protocol.specs.Configured.{setting_of}
use Rattle.protocol.specs.View.{is_due}

-- the task of a channel is one
pub below : {N : ℕ} (nodes tasks t : ℕ) (x : Channel N) → IsChannel nodes tasks x → Some t ≡ task_of x → t < tasks
below nodes tasks t (State delta start step) is e = cc
below nodes tasks t (Sensor delta None) is e = cc
below nodes tasks t (Sensor delta (Some u)) is e = (let same : t ≡ u = cc in subst (λ (k : ℕ). k < tasks) (sym same) is.1)
below nodes tasks t (Copy delta u lies) is e = (let same : t ≡ u = cc in subst (λ (k : ℕ). k < tasks) (sym same) is.1.0)

module _ {N : ℕ} (config : Config N) (a : AgreedView) (done : List (Wrapped ℕ)) where
  -- a channel without a task is due
  pub due_without : (x : Channel N) → None ≡ task_of x → true ≡ is_due (setting_of config) a done x
  due_without (State delta start step) e = refl
  due_without (Sensor delta None) e = refl
  due_without (Sensor delta (Some u)) e = cc
  due_without (Copy delta u lies) e = cc

  by_task : (after : CopyTable) (t u : ℕ) → after ≡ copies_completed N config.graph a.standing.members a.copies done → t ≡ u
      → (not (finished config.graph a.copies t) && finished config.graph after t)
      ≡ (not (finished config.graph a.copies u) && finished config.graph (copies_completed N config.graph a.standing.members a.copies done) u)
  by_task after t u is same =
      ap (λ (k : ℕ). not (finished config.graph a.copies k) && finished config.graph after k) same
      ∙ ap (λ (copies : CopyTable). not (finished config.graph a.copies u) && finished config.graph copies u) is

  -- and one with a task where completion finishes the task
  pub due_with : (after : CopyTable) (t : ℕ) (x : Channel N) → after ≡ copies_completed N config.graph a.standing.members a.copies done → Some t ≡ task_of x
      → (not (finished config.graph a.copies t) && finished config.graph after t) ≡ is_due (setting_of config) a done x
  due_with after t (State delta start step) is e = cc
  due_with after t (Sensor delta None) is e = cc
  due_with after t (Sensor delta (Some u)) is e = by_task after t u is (let same : t ≡ u = cc in same)
  due_with after t (Copy delta u lies) is e = by_task after t u is (let same : t ≡ u = cc in same)
