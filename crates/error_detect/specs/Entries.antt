-- Where the entries of relay frames stand.
use Rattle.std.specs.Prelude.{◌≡◌, ◌≢◌, ℕ, ◌+◌, ◌*◌, ◌<◌, ◌≤◌, ◌==◌, List, length, take, drop, slice_index, Option, Some, None, if◌then◌else◌}
use Rattle.frames.specs.Content.{Expectation, Content, State, Done0, DoneRelay, Data, Report0, ReportRelay, Cold, kind_in, round_in, entries_due}
use Rattle.frames.specs.FrameKinds.{claim_relay_kind}
use Rattle.frames.specs.Reading.{content_said}
use Rattle.frames.specs.Spelling.{body_spelling}
use Rattle.error_detect.specs.Putting.{HasAt}
use Rattle.error_detect.specs.Watching.{Watch, of_sender, told_at}

-- where the body of a sender's frame begins in the room of a watch: behind its header
abbrev pub body_begin : Watch → ℕ → ℕ
body_begin w j = j * w.frame_max + 14

-- where the entries begin of what was told, if it has any, by where its body begins
abbrev pub entries_begin : ℕ → Option Content → Option ℕ
entries_begin at None = None
entries_begin at (Some (State bytes)) = None
entries_begin at (Some (Done0 task)) = None
entries_begin at (Some (DoneRelay entries)) = Some at
entries_begin at (Some (Data numbers)) = None
entries_begin at (Some (Report0 masks)) = None
entries_begin at (Some (ReportRelay entries)) = Some at
entries_begin at (Some Cold) = None

-- in this room the body stands of what each other node told, behind the header of its frame
abbrev pub HoldsBodies : Watch → List ℕ → Type 0
HoldsBodies w room = (j : ℕ) (c : Content) → j < w.nodes → j ≢ w.me → told_at w j ≡ Some c → HasAt room (body_begin w j) (body_spelling w.nodes c)

-- the bytes of an entry of the relay frames of a slot
abbrev pub entry_width : Expectation → ℕ
entry_width e = if kind_in e.m e.slot == claim_relay_kind then 2 else 1 + 2 * e.nodes

-- the bytes of all entries of a relay frame
abbrev pub entries_size : Expectation → ℕ
entries_size e = entry_width e * entries_due e

-- as many entries as are due stand in a room from a place on, they say what was told, and none is an error that was wrapped more often than there
-- were rounds
pub record HasEntries (e : Expectation) (room : List ℕ) (at : ℕ) (told : Option Content) : Type 0 where
  pub within : at + entries_size e ≤ length room
  pub tagged : (k : ℕ) → k < entries_due e → slice_index room (at + entry_width e * k) ≤ round_in e.m e.slot
  pub said : told ≡ Some (content_said e (kind_in e.m e.slot) (take (entries_size e) (drop at room)))

-- Law: where the bodies stand that were told, the entries of each other node that told some begin behind its header, as many as are due
abbrev pub EntriesStand : Type 0
EntriesStand =
    (w : Watch) (e : Expectation) (room : List ℕ) (j at : ℕ) → w.expect ≡ Some e → e.nodes ≡ w.nodes → HoldsBodies w room → j < w.nodes → j ≢ w.me
    → entries_begin (body_begin w j) (told_at w j) ≡ Some at → (at ≡ body_begin w j) × HasEntries (of_sender j e) room at (told_at w j)
