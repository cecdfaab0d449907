-- What one node that is awake hears, for each path.
use Rattle.std.specs.Prelude.{ℕ, List, if◌then◌else◌}
use Rattle.omh_paths.specs.declared.wrapped.Wrapped.{Wrapped}
use Rattle.omh_paths.specs.declared.wrapped.Wrapped.TheVariants.{Fault}
use Rattle.protocol.specs.Arrival.{ItemForm}
use Rattle.protocol.specs.Heard.{heard}
use Rattle.protocol.specs.Talk.{rounds_upto}
use Rattle.heard_links.specs.declared.phase.Phase.{Phase}
use Rattle.heard_links.specs.declared.links.Links.{Links}
use Rattle.heard_links.specs.Hearing.{talk_in, is_asked}

-- what it hears for a path of its members that ends in another node, and the error for any other path
abbrev pub hears_in : {V : Type 0} {N : ℕ} → ItemForm V → Phase N → Links V N → ℕ → List ℕ → Wrapped V
hears_in form x links i path =
    if is_asked (talk_in form x links) x.config.now.m x.awake i path then heard (rounds_upto (talk_in form x links) x.config.now.m i) path else Fault 0
