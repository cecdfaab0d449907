use Rattle.std.proofs.Common.{◌+◌, sym, subst, arith}
use Rattle.omh.specs.Written.{IsSmall}
use Rattle.settled_paths.proofs.Layers.{small_wrapped, small_known}
use Rattle.settled_paths.proofs.exchange.Exchange.passed_on.Goals as goal

pub wrap-requires : goal.wrap-requires
wrap-requires g c = small_known c.heard.result (c.heard.ensures.small 254 (omega arith) c.requires)

pub returns-then-has-clause-small : goal.returns-then-has-clause-small
returns-then-has-clause-small g c = λ most up small. subst (IsSmall (most + 1)) (sym c.wrap.ensures) (small_wrapped most c.heard.result (c.heard.ensures.small most up small))
