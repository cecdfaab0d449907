use Rattle.std.proofs.Common.{◌≢◌, subst}
use Rattle.std.proofs.lemmas.List.{get_or-map}
use Rattle.omh_paths.specs.declared.wrapped.Wrapped.TheVariants.{Fault}
use Rattle.relay_terms.specs.Terms.{said}
use Rattle.worked_alike.proofs.tables.Pair.passed_on_at.Goals as goal

pub wrap-requires : goal.wrap-requires
wrap-requires c = subst (λ x. x ≢ Fault 254) (get_or-map said c.heard-terms.result.now c.args.place _ (Fault 0) c.if-place-terms.true) (c.heard-terms.ensures.known c.args.place)
