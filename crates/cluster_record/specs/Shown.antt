-- How the fields of a period's record are seen, and what holds of them.
use Rattle.std.specs.Prelude.{◌≡◌, ◌≤◌, ℕ, All, length, map, option_map}
use Rattle.node_grid.specs.Capacity.{IsCapacity}
use Rattle.slot_plan.specs.Slots.{slot_count}
use Rattle.cluster_record.specs.declared.clocks.ClockRecord.{ClockRecord}
use Rattle.cluster_record.specs.declared.record.PeriodRecord.TheInside.{Inside}
use Rattle.cluster_periods.specs.Record.{ClockShown, PeriodView}
use Rattle.cluster_record.specs.Buffers.{IsSlot, IsRoom, slot_bytes}

abbrev pub clock_shown : {N : ℕ} → ClockRecord N → ClockShown
clock_shown c = record { correction = c.correction; offset = c.offset }

abbrev pub shown : {N : ℕ} → Inside N → PeriodView
shown r = record {
  period = r.period;
  nodes = r.nodes;
  m = r.m;
  retire = r.retire;
  reference = r.reference;
  members = r.members;
  budget = r.budget;
  within = r.within;
  claim = r.claim;
  classes = r.classes;
  records = r.records.items;
  sent = map slot_bytes r.sent.items;
  clock = option_map clock_shown r.clock;
}

-- the record of a period: of each node in use what it recorded, and of each slot the frames, in room for the longest
pub record IsShown {N : ℕ} (r : Inside N) : Type 0 where
  pub capacity : IsCapacity N
  pub records : length r.records.items ≡ r.nodes
  pub slots : length r.sent.items ≡ slot_count r.m
  pub frames : All (IsSlot r.room r.nodes) r.sent.items
  pub room : IsRoom r.nodes r.m r.room
  pub short : r.room ≤ 90104
