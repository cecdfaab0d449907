-- Facts that several crates cite.
use Rattle.std.proofs.Common.{None, Option, Some, ◌≡◌}
use Rattle.frames.specs.Content.{Content}
use Rattle.frames.specs.Content.Content.{Cold, Data, Done0, DoneRelay, Report0, ReportRelay, State}
use Rattle.error_detect.specs.Finding.{told_of}

pub told_read : (o : Option Content) (c : Content) → told_of o ≡ Some c → o ≡ Some c
told_read None c h = absurd (cc)
told_read (Some (State b)) c h = h
told_read (Some (Done0 t)) c h = h
told_read (Some (DoneRelay xs)) c h = h
told_read (Some (Data xs)) c h = h
told_read (Some (Report0 xs)) c h = h
told_read (Some (ReportRelay xs)) c h = h
told_read (Some Cold) c h = absurd (cc)
