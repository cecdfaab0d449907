-- What the types of the code say, in the words of the grammar.
use Rattle.std.specs.Prelude.{◌≡◌, ℕ, ◌+◌, ◌*◌}
use Rattle.frames.specs.declared.frame.Body.{Body}
use Rattle.frames.specs.declared.frame.Body.TheVariants as body
use Rattle.frames.specs.declared.frame.Expect.{Expect}
use Rattle.frames.specs.declared.kind.Kind.{Kind}
use Rattle.frames.specs.declared.kind.Kind.TheVariants as kinds
use Rattle.frames.specs.Content.{Expectation, Content, State, Done0, DoneRelay, Data, Report0, ReportRelay, Cold}
use Rattle.frames.specs.FrameKinds.{state_kind, claim_kind, claim_relay_kind, data_kind, row_kind, row_relay_kind, cold_kind}
use Rattle.frames.specs.Reading.{content_claims, content_rows, content_values}

-- what is expected, where a row has a mask for each of N nodes
abbrev pub expected : {N : ℕ} → Expect N → Expectation
expected {N} e = record {
  version = e.version;
  capacity = N;
  nodes = e.nodes;
  m = e.m;
  period = e.period;
  slot = e.slot;
  sender = e.sender;
  members = e.members;
  state_len = e.state_len;
  tasks = e.tasks;
  due = e.due;
}

-- what a body says, among so many nodes
abbrev pub content : {N : ℕ} → ℕ → Body N → Content
content nodes (body.State bytes) = State bytes.now
content nodes (body.Done0 task) = Done0 task
content nodes (body.DoneRelay cells) = DoneRelay (content_claims cells.bytes.now)
content nodes (body.Data values) = Data (content_values values.bytes.now)
content nodes (body.Report0 row) = Report0 row
content {N} nodes (body.ReportRelay cells) = ReportRelay (content_rows N nodes cells.bytes.now)
content nodes body.Cold = Cold

-- entries have the width of the entries of their kind
abbrev pub HasWidth : {N : ℕ} → ℕ → Body N → Type 0
HasWidth nodes (body.State bytes) = Unit {0}
HasWidth nodes (body.Done0 task) = Unit {0}
HasWidth nodes (body.DoneRelay cells) = cells.width ≡ 2
HasWidth nodes (body.Data values) = Unit {0}
HasWidth nodes (body.Report0 row) = Unit {0}
HasWidth nodes (body.ReportRelay cells) = cells.width ≡ 1 + 2 * nodes
HasWidth nodes body.Cold = Unit {0}

abbrev pub number_of : Kind → ℕ
number_of kinds.State = state_kind
number_of kinds.Done0 = claim_kind
number_of kinds.DoneRelay = claim_relay_kind
number_of kinds.Data = data_kind
number_of kinds.Report0 = row_kind
number_of kinds.ReportRelay = row_relay_kind
number_of kinds.Cold = cold_kind
