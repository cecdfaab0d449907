-- A slot of claims or of rows that was closed.
use Rattle.std.specs.Prelude.{ℕ}
use Rattle.frames.specs.FrameKinds.{claim_relay_kind, row_relay_kind}
use Rattle.relaying.specs.Told.{IsRoundHeard}
use Rattle.node_steps.specs.Parts.{NodeView}

-- that of round r of claims
abbrev pub IsDoneClosed : {N : ℕ} → ℕ → NodeView N → Type 0
IsDoneClosed {N} r v = IsRoundHeard N claim_relay_kind r v.done v.arrived

-- and of rows
abbrev pub IsReportClosed : {N : ℕ} → ℕ → NodeView N → Type 0
IsReportClosed {N} r v = IsRoundHeard N row_relay_kind r v.rows v.arrived
