-- How a mode is named.
use Rattle.protocol.specs.View.{Mode as ViewMode}
use Rattle.protocol.specs.View.Mode.{Full as ViewFull, Joining as ViewJoining, Cold as ViewCold}
use Rattle.node_core.specs.declared.outcome.Mode.{Mode}
use Rattle.node_core.specs.declared.outcome.Mode.TheVariants.{Full, Joining, Cold}

-- the protocol's name of a mode
abbrev pub mode_of : Mode → ViewMode
mode_of Full = ViewFull
mode_of Joining = ViewJoining
mode_of Cold = ViewCold
