use Rattle.std.proofs.Common.{refl, lit<}
use Rattle.settled_paths.proofs.exchange.Exchange.lay_longer.Goals as goal

pub lay_level-requires : goal.lay_level-requires
lay_level-requires g c = (lit< tt, (c.requires.exchange, (c.requires.shorter, (c.requires.small, c.requires.room))))

pub lay_level-requires-else-is_untouched : goal.lay_level-requires-else-is_untouched
lay_level-requires-else-is_untouched g c = (lit< tt, (c.requires.exchange, (c.requires.shorter, (c.requires.small, c.requires.room))))

pub returns-then-is_untouched-clause-laid : goal.returns-then-is_untouched-clause-laid
returns-then-is_untouched-clause-laid g c = λ own. c.lay_level.ensures.laid own (g.T.Touched.says c.args.touched.now) (c.is_untouched.ensures c.if-is_untouched.true)

pub returns-else-is_untouched-clause-laid : goal.returns-else-is_untouched-clause-laid
returns-else-is_untouched-clause-laid g c = λ own. c.lay_level-else-is_untouched.ensures.laid own (g.T.Touched.says c.args.touched.now) (λ i path long. refl)
