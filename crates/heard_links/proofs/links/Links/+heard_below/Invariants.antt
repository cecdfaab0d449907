use Rattle.std.proofs.Common.{length}
use Rattle.heard_links.proofs.links.Links.+heard_below.Given as goal

abbrev pub decreases-heard_below : goal.decreases-heard_below
decreases-heard_below g l = length l.path.now
