-- A node before its first period is sound.
use Rattle.std.proofs.Common.{ℕ, zero, suc, [], length, replicate, refl, arith, pos}
use Rattle.std.specs.Prelude.{All}
use Rattle.std.proofs.lemmas.List.Elements.{All-nil, All-cons}
use Rattle.node_grid.specs.SetFacts.{empty_set}
use Rattle.frames.specs.Bound.{IsGreatest}
use Rattle.frames.specs.Content.{IsClaim, IsRow, IsValue}
use Rattle.frames.specs.Facts.{zero_value}
use Rattle.agreed_state.specs.declared.config.Config.{Config}
use Rattle.agreed_state.specs.Config.{IsConfig}
use Rattle.agreed_state.specs.AgreedLaws.{first-agreed}
use Rattle.agreed_state.specs.Body.{state_len}
use Rattle.protocol.specs.View.{channel_room}
use Rattle.protocol.specs.RowLaws.{empty_is_row}
use Rattle.node_steps.specs.Fresh.{newly_open, IsFresh}
use Rattle.node_steps.specs.Sound.{IsSound}
use Rattle.protocol.specs.Configured.{setting_of}
use Rattle.node_steps.specs.HeardInRange.{nothing_ranged}
use Rattle.node_steps.specs.NoValueLaws.{no_values_fit}

zeros : (n : ℕ) → All IsValue (replicate n (pos 0))
zeros zero = All-nil IsValue
zeros (suc n) = All-cons IsValue (pos 0) (replicate n (pos 0)) zero_value (zeros n)

pub sound_new : {N : ℕ} (config : Config N) (me room : ℕ) → IsConfig N config → IsSound (newly_open config me room)
sound_new {N} config me room ok = record {
  sizes = record {
    kept = record { state = first-agreed N config ok; carried = empty_is_row (setting_of config) ok.few_nodes };
    before = tt;
    done = record { nodes_are = refl; rounds_are = refl; own_range = omega arith; range = nothing_ranged (IsClaim (length config.graph.tasks)) [] 0 config.m };
    rows = record { nodes_are = refl; rounds_are = refl; own_range = omega arith; range = nothing_ranged (IsRow config.version N config.nodes) [] 0 config.m };
    found = record {
      due = empty_set (length config.channels.items);
      notes = empty_is_row (setting_of config) ok.few_nodes;
      late = empty_is_row (setting_of config) ok.few_nodes;
      values = no_values_fit channel_room;
    };
    readings = zeros 8;
  };
  in_slot = λ e. absurd (cc);
}

pub fresh_new : {N : ℕ} (config : Config N) (me room : ℕ) → IsGreatest config.nodes config.m (state_len config) 8 room → IsFresh config me (newly_open config me room)
fresh_new config me room greatest = record { is = refl; greatest = greatest; kept = refl; shut = refl; outcome = refl }
