use Rattle.std.proofs.Common.{◌≡◌, true, sym, ◌∙◌, arith, inl, inr, lit<}
use Rattle.node_grid.specs.Class.{is_sound}
use Rattle.run_judged.specs.Found.{class_at}
use Rattle.run_judged.proofs.Ranges.{vote_sound}
use Rattle.run_judged.proofs.apart.vote.Goals as goal

pub belief-requires : goal.belief-requires
belief-requires g c =
    let few = c.args.seen.now.nodes in
    let low = c.requires in
    (elim g.bound-1.eight_or_sixteen [ inl e ↦ rw e (lit< tt) | inr e ↦ rw e (lit< tt) ], (elim g.bound-1.eight_or_sixteen [ inl e ↦ rw e (lit< tt) | inr e ↦ rw e (lit< tt) ], (omega arith, record { capacity = g.bound-1.eight_or_sixteen; many = c.args.seen.now.many; placed = c.args.seen.now.placed })))

pub returns : goal.returns
returns g c =
    let told : c.is_sound.result ≡ is_sound (class_at c.args.seen.now.shown.now.head.classes c.args.node) = c.is_sound.ensures in
    let kept : c.is_sound.result ≡ true = grind arith in
    c.vote_on.ensures ∙ vote_sound c.args.seen.now.shown.now c.args.channel c.args.node c.belief.result.now.votes c.requires (sym told ∙ kept) c.belief.ensures.votes
