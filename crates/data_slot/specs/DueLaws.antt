-- Lemmas for callers: the due channels by the mask of what the settled claims finish are those of the protocol.
use Rattle.std.proofs.Common.{ap, ◌∙◌, ℕ, ◌≡◌, ◌<◌, ◌==◌, List, length, refl, arith, None, Some}
use Rattle.std.specs.Prelude.{slice_index_or}
use Rattle.std.specs.Int.{bit_at}
use Rattle.node_grid.specs.NodeSet.{ids_where, mask_of}
use Rattle.node_grid.specs.NodeSetLaws.{filter_range}
use Rattle.omh_paths.specs.declared.wrapped.Wrapped.{Wrapped}
use Rattle.mme_vote.specs.declared.channel.Channel.{Channel}
use Rattle.mme_vote.specs.declared.channel.Channel.TheVariants.{State, Sensor, Copy}
use Rattle.agreed_state.specs.declared.config.Config.{Config}
use Rattle.agreed_state.specs.Config.{IsConfig, IsChannel}
use Rattle.agreed_state.specs.Agreed.{AgreedView, finished_now}
use Rattle.protocol.specs.Configured.{setting_of}
use Rattle.protocol.specs.View.{due_channels, is_due, no_channel}
use Rattle.data_slot.specs.Due.{due_by}
use Rattle.data_slot.specs.TaskMasks.{mask_bit}

module _ {N : ℕ} (config : Config N) (a : AgreedView) (done : List (Wrapped ℕ)) (finished : ℕ) (is : finished ≡ mask_of (ids_where (finished_now N config a done) (length config.graph.tasks))) where
  has_task : (t : ℕ) → t < length config.graph.tasks → (bit_at finished t == 1) ≡ finished_now N config a done t
  has_task t low = ap (λ (mask : ℕ). bit_at mask t == 1) is ∙ mask_bit (finished_now N config a done) (length config.graph.tasks) t low

  due_is : (x : Channel N) → IsChannel config.nodes (length config.graph.tasks) x → due_by x finished ≡ is_due (setting_of config) a done x
  due_is (State delta start step) k = refl
  due_is (Sensor delta None) k = refl
  due_is (Sensor delta (Some t)) k = has_task t k.1
  due_is (Copy delta t lies) k = has_task t k.1.0

  pub dues_are : IsConfig N config → ids_where (λ c. due_by (slice_index_or config.channels.items c no_channel) finished) (length config.channels.items) ≡ due_channels (setting_of config) a done
  dues_are ok = filter_range _ _ 0 (length config.channels.items) (λ c low high. due_is (slice_index_or config.channels.items c no_channel) (ok.channels c no_channel (omega arith)))
