-- An accepted system stays accepted with further places, and its clocks fit it.
use Rattle.std.proofs.Common.{ℕ, ◌≡◌, ◌+◌, List, ◌++◌, map, length, replicate, get_or, Option, sym, subst, ◌∙◌, arith}
use Rattle.std.specs.Prelude.{ℤ, pos, ◌≤ℤ◌}
use Rattle.std.proofs.lemmas.List.{length-map}
use Rattle.std.proofs.lemmas.List.Elements.{All-map, All-append, All-replicate}
use Rattle.node_grid.specs.Capacity.{IsCapacity}
use Rattle.mme_vote.specs.declared.channel.Channel.{Channel}
use Rattle.mme_vote.specs.declared.channel.Channel.TheVariants.{State, Sensor, Copy}
use Rattle.mme_vote.specs.Vote.{distance}
use Rattle.clock_skew.specs.Clock.{ClockView, IsClock, number_at}
use Rattle.frames.specs.Content.{IsValue}
use Rattle.fault_classes.specs.Plan.{Plan}
use Rattle.frames.specs.Facts.{zero_value}
use Rattle.agreed_state.specs.declared.config.Config.{Config}
use Rattle.agreed_state.specs.declared.config.Inputs.{Inputs}
use Rattle.agreed_state.specs.Config.{IsStart, IsChannel, IsConfig}
use Rattle.protocol.specs.View.{no_channel, channel}
use Rattle.protocol.specs.Run.{run, classes}
use Rattle.protocol.specs.Accepted.{IsClose, IsAccepted}
use Rattle.protocol.specs.Clocks.{AreClocks}
use Rattle.two_capacities.specs.Wider.{wide_channel, wide_config, longer, wide_clock, setting_of, system_over}
use Rattle.two_capacities.proofs.Lists.{get_padded, get_mapped}
use Rattle.two_capacities.proofs.Clocks.{number_wide, row_wide}

module _ (c k : ℕ) where
  -- ---- channels

  start_wide : (nodes : ℕ) (start : List ℤ) → IsStart nodes start → IsStart nodes (start ++ replicate k (pos 0))
  start_wide nodes start h = record {
    values = All-append IsValue start (replicate k (pos 0)) h.values (All-replicate IsValue k (pos 0) zero_value);
    rest = λ j l. get_padded start k (pos 0) j ∙ h.rest j l;
  }

  channel_wide : (nodes tasks : ℕ) (x : Channel c) → IsChannel nodes tasks x → IsChannel nodes tasks (wide_channel k x)
  channel_wide nodes tasks (State delta start step) h = (h.0, start_wide nodes start h.1, h.2)
  channel_wide nodes tasks (Sensor delta task) h = h
  channel_wide nodes tasks (Copy delta task lies) h = h

  state_was : (x : Channel c) (delta : ℤ) (longer : List ℤ) (step : ℤ) → wide_channel k x ≡ State delta longer step
      → (start : List ℤ) × (x ≡ State delta start step) × (longer ≡ start ++ replicate k (pos 0))
  state_was (State d start s) delta longer step e = (start, cc, cc)
  state_was (Sensor d task) delta longer step e = cc
  state_was (Copy d task lies) delta longer step e = cc

  sensor_was : (x : Channel c) (delta : ℤ) (task : Option ℕ) → wide_channel k x ≡ Sensor delta task → x ≡ Sensor delta task
  sensor_was (State d start s) delta task e = cc
  sensor_was (Sensor d t) delta task e = cc
  sensor_was (Copy d t lies) delta task e = cc

  module _ (g : Config c) where
    many : length (map (wide_channel k) g.channels.items) ≡ length g.channels.items
    many = length-map g.channels.items (wide_channel k)

    was : (at : ℕ) → channel (setting_of (wide_config k g)) at ≡ wide_channel k (channel (setting_of g) at)
    was at = get_mapped (wide_channel k) g.channels.items at no_channel

    config_wide : IsConfig c g → IsConfig (c + k) (wide_config k g)
    config_wide h = record {
      version = h.version;
      some_nodes = h.some_nodes;
      few_nodes = omega (arith, h.few_nodes);
      version_nodes = h.version_nodes;
      few_rounds = h.few_rounds;
      rounds = h.rounds;
      some_frame = h.some_frame;
      frame = h.frame;
      policy = h.policy;
      weights = h.weights;
      retire = h.retire;
      graph = record { some_nodes = h.graph.some_nodes; few_nodes = omega (arith, h.graph.few_nodes); tasks = h.graph.tasks };
      graph_nodes = h.graph_nodes;
      few_channels = omega (arith, h.few_channels, many);
      channels = All-map (IsChannel g.nodes (length g.graph.tasks)) (wide_channel k) g.channels.items
          (λ j d l. channel_wide g.nodes (length g.graph.tasks) (get_or g.channels.items j d) (h.channels j d l));
    }

    close_wide : (inputs : ℕ → ℕ → Inputs) → IsClose (setting_of g) inputs → IsClose (setting_of (wide_config k g)) inputs
    close_wide inputs h = record {
      starts = λ i j at delta start step li lj la e.
          let s = state_was (channel (setting_of g) at) delta start step (sym (was at) ∙ e) in
          subst (λ xs. pos (distance (number_at xs i) (number_at xs j)) ≤ℤ delta) (sym s.2)
          (rw (get_padded s.0 k (pos 0) i, get_padded s.0 k (pos 0) j) (h.starts i j at delta s.0 step li lj (omega (arith, la, many)) s.1));
      readings = λ i j p at delta task li lj la e.
          h.readings i j p at delta task li lj (omega (arith, la, many)) (sensor_was (channel (setting_of g) at) delta task (sym (was at) ∙ e));
    }

    pub accepted_wide : (plan : Plan) (inputs : ℕ → ℕ → Inputs) → IsCapacity (c + k) → IsAccepted (system_over g plan inputs) → IsAccepted (system_over (wide_config k g) plan inputs)
    accepted_wide plan inputs room h = record {
      capacity = room;
      config = config_wide h.config;
      plan = h.plan;
      plan_nodes = h.plan_nodes;
      plan_rounds = h.plan_rounds;
      inputs = h.inputs;
      close = close_wide inputs h.close;
    }

    -- ---- clocks

    clock_wide : (x : ClockView) → IsClock c x → IsClock (c + k) (wide_clock k x)
    clock_wide x h = record {
      nodes = omega (arith, h.nodes);
      epsilon = h.epsilon;
      drift = h.drift;
      start = λ i l. rw (number_wide k x.start i) (h.start i l);
      some_drifts = omega (arith, h.some_drifts, length-map x.drifts (longer k));
      few_drifts = omega (arith, h.few_drifts, length-map x.drifts (longer k));
      drifts = λ p i l. rw (row_wide k x.drifts p i) (h.drifts p i l);
      close_drifts = λ p i j li lj. rw (row_wide k x.drifts p i, row_wide k x.drifts p j) (h.close_drifts p i j li lj);
      some_errors = omega (arith, h.some_errors, length-map x.errors (longer k));
      few_errors = omega (arith, h.few_errors, length-map x.errors (longer k));
      errors = λ p i l. rw (row_wide k x.errors p i) (h.errors p i l);
      few_lies = h.few_lies;
      lies = h.lies;
    }

    pub clocks_wide : (plan : Plan) (inputs : ℕ → ℕ → Inputs) (x : ClockView) → AreClocks (run (system_over g plan inputs)) (classes (system_over g plan inputs)) x
        → AreClocks (run (system_over (wide_config k g) plan inputs)) (classes (system_over (wide_config k g) plan inputs)) (wide_clock k x)
    clocks_wide plan inputs x h = record { clock = clock_wide x h.clock; nodes = h.nodes; fair = h.fair }
