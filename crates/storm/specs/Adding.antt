-- What a call that draws lines leaves.
use Rattle.std.specs.Prelude.{◌≡◌, List, ◌++◌, ◌∷◌, [], map}
use Rattle.rand_pcg.specs.Lcg.{Lcg}
use Rattle.fault_classes.specs.Line.{Line}
use Rattle.draws.specs.Draws.{Drawing}
use Rattle.storm.specs.Storm.{Block, restart_drawn}
use Rattle.scenario.specs.declared.parts.FaultPart.{FaultPart}
use Rattle.scenario.specs.declared.parts.RestartPart.{RestartPart}
use Rattle.storm.specs.Parts.{fault_of, restart_parts}
use Rattle.scenario.specs.Seen.{fault_view, restart_view}

-- the drawn lines were added to those before, by the words of generator g, of which h is left
pub record Adds (before after : List FaultPart) (g h : Lcg) (drawing : Drawing (List Line)) : Type 0 where
  pub faults : map fault_view after ≡ map fault_view before ++ map fault_of (drawing g).0
  pub rest : h ≡ (drawing g).1

-- the lines and the restart of a drawn block were added
pub record AddsBlock (before after : List FaultPart) (restarts_before restarts_after : List RestartPart) (g h : Lcg) (drawing : Drawing Block) : Type 0 where
  pub faults : map fault_view after ≡ map fault_view before ++ map fault_of (drawing g).0.lines
  pub restarts : map restart_view restarts_after ≡ map restart_view restarts_before ++ restart_parts (restart_drawn (drawing g).0) ∷ []
  pub rest : h ≡ (drawing g).1
