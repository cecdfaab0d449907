-- The printed frames of a period: what each node is delivered, by slot, sender and receiver.
use Rattle.std.specs.Prelude.{◌≡◌, ◌<◌, ℕ, ◌==◌, Bool, List, [], ◌∷◌, ◌++◌, codes, decimal, if◌then◌else◌}
use Rattle.std.specs.List.{flat_map}
use Rattle.hex.specs.Hex.{encode_lower}
use Rattle.node_grid.specs.NodeSet.{ids_below}
use Rattle.slot_plan.specs.Slots.{slot_count}
use Rattle.fault_classes.specs.Line.{effect_at}
use Rattle.fault_classes.specs.Plan.{Plan}
use Rattle.fault_link.specs.Arrival.{delivered_of}
use Rattle.cluster_periods.specs.Record.{PeriodView, frame_at}
use Rattle.run_text.specs.PeriodText.{head_text, nodes_text}
use Rattle.run_text.specs.ClockText.{clock_text}

-- bytes in hexadecimal; no bytes are `-`
abbrev pub bytes_text : List ℕ → List ℕ
bytes_text [] = codes "-"
bytes_text (b ∷ bs) = encode_lower (b ∷ bs)

-- the start of the lines of a sender's frame, up to their receivers
abbrev pub start_text : ℕ → ℕ → ℕ → List ℕ
start_text period slot from = codes "frame " ++ decimal period ++ codes " " ++ decimal slot ++ codes " " ++ decimal from ++ codes " "

-- the line of a frame that arrives, by its start, up to its bytes: the receiver, and the tick
abbrev pub arrival_text : List ℕ → ℕ → ℕ → List ℕ
arrival_text start to tick = start ++ decimal to ++ codes " " ++ decimal tick ++ codes " "

-- the line, with its bytes
abbrev pub frame_text : List ℕ → ℕ → ℕ × List ℕ → List ℕ
frame_text start to d = arrival_text start to d.0 ++ bytes_text d.1 ++ codes "\n"

-- what arrives of a sender's frame at one receiver, which isn't the sender
abbrev pub link_text : Plan → PeriodView → ℕ → ℕ → ℕ → List ℕ
link_text plan t slot from to =
    if to == from then [] else flat_map (frame_text (start_text t.period slot from) to) (delivered_of (effect_at plan.lines t.period slot from to) (frame_at t slot from))

abbrev pub sender_text : Plan → PeriodView → ℕ → ℕ → List ℕ
sender_text plan t slot from = flat_map (link_text plan t slot from) (ids_below t.nodes)

abbrev pub slot_text : Plan → PeriodView → ℕ → List ℕ
slot_text plan t slot = flat_map (sender_text plan t slot) (ids_below t.nodes)

abbrev pub frames_text : Plan → PeriodView → List ℕ
frames_text plan t = flat_map (slot_text plan t) (ids_below (slot_count t.m))

-- the plan was made for the nodes and relay rounds of the period, and for more periods than its number
pub record IsPlanOf (plan : Plan) (t : PeriodView) : Type 0 where
  pub nodes : plan.nodes ≡ t.nodes
  pub rounds : plan.rounds ≡ t.m
  pub periods : t.period < plan.periods

-- all lines of a period: that of its clocks where it has some, and the frames only with a trace
abbrev pub period_text : Plan → Bool → PeriodView → List ℕ
period_text plan trace t = head_text t ++ nodes_text t ++ clock_text t t.clock ++ (if trace then frames_text plan t else [])
