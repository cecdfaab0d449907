use Rattle.std.proofs.Common.{map, ◌∙◌, arith}
use Rattle.std.proofs.lemmas.List.{map-set, length-map}
use Rattle.relay_terms.specs.Terms.{said}
use Rattle.relay_walk.specs.LaidLaws.{laid_one}
use Rattle.relay_walk.proofs.walk.set_term.Goals as goal

pub returns-clause-terms : goal.returns-clause-terms
returns-clause-terms g c = map-set said c.args.terms.now c.args.place c.args.term ∙ laid_one c.args.place (said c.args.term) (map said c.args.terms.now) (omega (arith, length-map c.args.terms.now said))
