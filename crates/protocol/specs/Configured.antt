-- What nodes run under by their configuration.
use Rattle.std.specs.Prelude.{ℕ}
use Rattle.agreed_state.specs.declared.config.Config.{Config}
use Rattle.protocol.specs.View.{Setting}
use Rattle.protocol.specs.FurtherKinds.{convictions}

-- the types have room for as many nodes as the configuration has, and nodes are convicted
abbrev pub setting_of : {N : ℕ} → Config N → Setting
setting_of {N} config = record { capacity = N; config = config; further = convictions config.m }
