-- A period of a node: its slots one after another, by what is delivered in each.
use Rattle.std.specs.Prelude.{◌≡◌, ◌<◌, ◌≤◌, ℕ, suc, ◌+◌, ◌*◌, false, List, [], length, Option, Some}
use Rattle.node_grid.specs.NodeSet.{IsIdSet}
use Rattle.omh.specs.Heard.{Hearing}
use Rattle.frames.specs.Content.{Expectation}
use Rattle.error_detect.specs.Watching.{Watch, opened, of_sender, HasRoom}
use Rattle.error_detect.specs.Multiset.{Arriving, from_sender, all_delivered}
use Rattle.agreed_state.specs.declared.config.Config.{Config}
use Rattle.agreed_state.specs.declared.config.Inputs.{Inputs}
use Rattle.agreed_state.specs.Agreed.{AgreedView}
use Rattle.agreed_state.specs.Body.{state_len}
use Rattle.protocol.specs.Arrival.{arrival, body_said, claim_in, claims_in, values_in, row_in, rows_in}
use Rattle.protocol.specs.Heard.{paths_of, with_entries}
use Rattle.protocol.specs.Steps.{after_steps}
use Rattle.protocol.specs.View.{Kept, Received, View, row_by, view_from, goes_with}
use Rattle.node_steps.specs.Outcome.{Outcome}
use Rattle.node_steps.specs.Parts.{Phase, Found, NodeView}
use Rattle.protocol.specs.Configured.{setting_of}
use Rattle.node_steps.specs.Steps.{after_slot, begun}
use Rattle.node_steps.specs.Stages.{rounds_closed, due_of, in_done, in_data, in_report, outcome_of}

-- a slot: deliveries, and its end
abbrev pub slot_run : {N : ℕ} → NodeView N → List Arriving → NodeView N
slot_run v ds = after_slot (record v { arrived = all_delivered v.arrived ds })

-- so many slots
abbrev pub slots_run : {N : ℕ} → (ℕ → List Arriving) → ℕ → NodeView N → NodeView N
slots_run ds t v = after_steps (λ s w. slot_run w (ds s)) t v

-- what holds of nodes other than i
pub record OthersTell (nodes i : ℕ) (P : ℕ → Type 0) : Type 0 where
  pub each : (j : ℕ) → j < nodes → (j ≡ i → ⊥) → P j

module _ {N : ℕ} (config : Config N) (i p : ℕ) (g : Inputs) (k : Kept) (x : Received) where
  -- what node i expects in a slot
  abbrev pub expect_at : ℕ → List ℕ → ℕ → Expectation
  expect_at t members due = record {
    version = config.version;
    capacity = N;
    nodes = config.nodes;
    m = config.m;
    period = p;
    slot = t;
    sender = i;
    members = members;
    state_len = state_len config;
    tasks = length config.graph.tasks;
    due = due;
  }

  abbrev pub goes : Option AgreedView
  goes = goes_with (setting_of config) i x k.state

  -- x is what the deliveries of the slots say, by what the node expects
  pub record Told (ds : ℕ → List Arriving) : Type 0 where
    pub sync : OthersTell config.nodes i (λ j. x.sync j ≡ arrival body_said (of_sender j (expect_at 0 [] 0)) (from_sender j (ds 0)))
    pub first : (a : AgreedView) → goes ≡ Some a → OthersTell config.nodes i (λ j. x.done.first j ≡ arrival claim_in (of_sender j (expect_at 1 a.standing.members 0)) (from_sender j (ds 1)))
    pub relay : (a : AgreedView) → goes ≡ Some a → (r : ℕ) → 0 < r → r ≤ config.m
        → OthersTell config.nodes i (λ j. x.done.relay r j ≡ with_entries (paths_of a.standing.members r j) (arrival claims_in (of_sender j (expect_at (suc r) a.standing.members 0)) (from_sender j (ds (suc r)))))
    pub values : (a : AgreedView) → goes ≡ Some a
        → OthersTell config.nodes i (λ j. x.values j ≡ arrival values_in (of_sender j (expect_at (config.m + 2) a.standing.members (length (due_of config i p g k x a)))) (from_sender j (ds (config.m + 2))))
    pub row : (a : AgreedView) → goes ≡ Some a → OthersTell config.nodes i (λ j. x.report.first j ≡ arrival row_in (of_sender j (expect_at (config.m + 3) a.standing.members 0)) (from_sender j (ds (config.m + 3))))
    pub rows : (a : AgreedView) → goes ≡ Some a → (r : ℕ) → 0 < r → r ≤ config.m
        → OthersTell config.nodes i (λ j. x.report.relay r j ≡ with_entries (paths_of a.standing.members r j) (arrival rows_in (of_sender j (expect_at (config.m + 3 + r) a.standing.members 0)) (from_sender j (ds (config.m + 3 + r)))))

  -- a watch of node i
  pub record IsWatch (room : ℕ) (w : Watch) : Type 0 where
    pub nodes : w.nodes ≡ config.nodes
    pub me : w.me ≡ i
    pub room_is : w.frame_max ≡ room

  -- a node that goes through the period with a, before its slot t
  pub data Stands (room : ℕ) (o : Outcome) (a : AgreedView) : ℕ → NodeView N → Type 0 where
    hearing : (r : ℕ) (rows : Hearing (List ℕ)) (f : Found) (w : Watch) → r ≤ config.m → IsWatch room w → rows.nodes ≡ config.nodes → rows.rounds ≡ config.m → f.late ≡ row_by (setting_of config) i (rounds_closed 0 x.report)
        → Stands room o a (suc r) (in_done config i p g k x a r rows f (opened w (expect_at (suc r) a.standing.members 0)) o)
    voting : (rows : Hearing (List ℕ)) (f : Found) (w : Watch) → IsWatch room w → rows.nodes ≡ config.nodes → rows.rounds ≡ config.m → f.late ≡ row_by (setting_of config) i (rounds_closed 0 x.report)
        → Stands room o a (config.m + 2) (in_data config i p g k x a rows f (opened w (expect_at (config.m + 2) a.standing.members (length (due_of config i p g k x a)))) o)
    reporting : (r : ℕ) (w : Watch) → r ≤ config.m → IsWatch room w → Stands room o a (config.m + 3 + r) (in_report config i p g k x a r (opened w (expect_at (config.m + 3 + r) a.standing.members 0)) o)

-- the node after a period of which this is the view
pub record IsOver {N : ℕ} (v : NodeView N) (u : View) : Type 0 where
  pub kept : v.kept ≡ u.kept
  pub outcome : v.outcome ≡ outcome_of u
  pub shut : v.phase.is_open ≡ false

-- a node between periods, which keeps this
abbrev pub resting : {N : ℕ} → Config N → ℕ → Kept → Phase → Hearing ℕ → Hearing (List ℕ) → Found → Watch → Outcome → NodeView N
resting config i k q d rows f w o = record {
  config = config;
  phase = record { me = i; period = q.period; slot = q.slot; is_open = q.is_open; inputs = q.inputs; full = q.full; before = q.before };
  kept = k;
  done = d;
  rows = rows;
  found = f;
  arrived = w;
  outcome = o;
}

-- what is given of a period: a node that rests, and what its deliveries say
pub record IsGiven {N : ℕ} (config : Config N) (i p : ℕ) (g : Inputs) (k : Kept) (x : Received) (room : ℕ) (ds : ℕ → List Arriving) (d : Hearing ℕ) (rows : Hearing (List ℕ)) (w : Watch) : Type 0 where
  pub few : config.nodes ≤ N
  pub few_channels : length config.channels.items ≤ 8
  pub told : Told config i p g k x ds
  pub rooms : (t : ℕ) (ms : List ℕ) (due : ℕ) → IsIdSet config.nodes ms → due ≤ 8 → HasRoom room (expect_at config i p g k x t ms due)
  pub members : (a : AgreedView) → goes config i p g k x ≡ Some a → IsIdSet config.nodes a.standing.members
  pub watch : IsWatch config i p g k x room w
  pub done_nodes : d.nodes ≡ config.nodes
  pub done_rounds : d.rounds ≡ config.m
  pub rows_nodes : rows.nodes ≡ config.nodes
  pub rows_rounds : rows.rounds ≡ config.m

-- Law: the slots of a period, whatever is delivered in each, lead a node to its view: what it keeps and what it records
abbrev pub FoldIsView : Type 0
FoldIsView =
    (N : ℕ) (config : Config N) (i p : ℕ) (g : Inputs) (k : Kept) (x : Received) (room : ℕ) (ds : ℕ → List Arriving) (q : Phase) (d : Hearing ℕ) (rows : Hearing (List ℕ)) (f : Found) (w : Watch) (o : Outcome)
    → IsGiven config i p g k x room ds d rows w
    → IsOver (slots_run ds (2 * config.m + 4) (begun (resting config i k q d rows f w o) p g)) (view_from (setting_of config) i p g k x k.state)
