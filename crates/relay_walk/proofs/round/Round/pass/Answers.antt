use Rattle.std.proofs.Common.{lit<, inr, inl, subst}
use Rattle.node_grid.specs.ListFacts.{split_more}
use Rattle.relay_walk.specs.Walking.{IsMoved}
use Rattle.relay_walk.proofs.Loops.{turn, split_all, moved_none, moved_more, more_at}
use Rattle.relay_walk.proofs.round.Round.pass.Goals as goal

pub loop-member-init : goal.loop-member-init
loop-member-init g c = record {
  can = tt;
  ends = tt;
  split = cc;
  moved = moved_none c.args.self.now;
}

pub pass_next-requires : goal.pass_next-requires
pass_next-requires g c =
    let t = turn g.row.N c.args.others.now c.loop-member.yielded c.next.new.self c.loop-member.member-iterator c.in-Some.member c.iter-member-items.ensures.ids c.loop-member.invariant.split c.in-Some.ensures.steps in (
      elim c.requires.more.sized [ inl e ↦ rw e (lit< tt) | inr e ↦ rw e (lit< tt) ],
      more_at c.loop-member.yielded c.args.self.now c.loop-member.self c.loop-member.invariant.moved c.in-Some.member t.low c.args.others.now c.requires.more t.on t.fresh,
    )

pub loop-member-preserved : goal.loop-member-preserved
loop-member-preserved g c =
    let i = c.loop-member.invariant in
    let t = turn g.row.N c.args.others.now c.loop-member.yielded c.next.new.self c.loop-member.member-iterator c.in-Some.member c.iter-member-items.ensures.ids i.split c.in-Some.ensures.steps in
    record {
      can = tt;
      ends = tt;
      split = split_more c.args.others.now c.loop-member.yielded c.next.new.self c.loop-member.member-iterator c.in-Some.member i.split c.in-Some.ensures.steps;
      moved = moved_more c.loop-member.yielded c.in-Some.member c.args.self.now c.loop-member.self c.pass_next.new.self i.moved c.pass_next.ensures t.fresh;
    }

pub returns : goal.returns
returns g c =
    let i = c.loop-member.invariant in
    let all = split_all c.args.others.now c.loop-member.yielded c.loop-member.member-iterator i.split c.in-None.ensures.steps.0 in
    subst (λ xs. IsMoved xs c.args.self.now c.loop-member.self) all i.moved
