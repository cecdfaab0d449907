use Rattle.std.proofs.Common.{rules}
use Rattle.std.specs.Prelude.{slice_index_or}
use Rattle.error_detect.specs.declared.finding.Finding.TheVariants.{Good}
use Rattle.error_detect.specs.Finding.{kind_of}
use Rattle.noting.proofs.findings.carry_found.Goals as goal

pub returns : goal.returns
returns g c = c.carry_each.ensures.row (λ j. kind_of (slice_index_or c.args.found.now j Good)) (λ j x low used other ran. search rules)
