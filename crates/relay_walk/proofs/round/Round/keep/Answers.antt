use Rattle.std.proofs.Common.{lit<, inr, inl, ◌+◌, map, length, refl, sym, ap, subst, ◌∙◌, arith}
use Rattle.std.proofs.lemmas.List.{length-map, length_push}
use Rattle.node_grid.specs.ListFacts.{split_more}
use Rattle.relay_terms.specs.Terms.{said, term_in}
use Rattle.relay_walk.specs.Laid.{laid}
use Rattle.relay_walk.specs.LaidLaws.{laid_none, laid_more}
use Rattle.relay_walk.specs.Walking.{IsMoved, next_in}
use Rattle.relay_walk.proofs.Loops.{turn, split_all, map_more, moved_none, moved_more, next_same, more_at}
use Rattle.relay_walk.proofs.round.Round.keep.Goals as goal

pub loop-member-init : goal.loop-member-init
loop-member-init g c = record {
  can = tt;
  ends = tt;
  split = cc;
  moved = moved_none c.args.self.now;
  terms = sym (laid_none c.args.at (map said c.args.terms.now));
  long = refl;
  end = omega arith;
}

pub next_term-term-requires : goal.next_term-term-requires
next_term-term-requires g c =
    let t = turn g.row.N c.args.others.now c.loop-member.yielded c.next.new.self c.loop-member.member-iterator c.in-Some.member c.iter-member-items.ensures.ids c.loop-member.invariant.split c.in-Some.ensures.steps in (
      elim c.requires.more.sized [ inl e ↦ rw e (lit< tt) | inr e ↦ rw e (lit< tt) ],
      more_at c.loop-member.yielded c.args.self.now c.loop-member.self c.loop-member.invariant.moved c.in-Some.member t.low c.args.others.now c.requires.more t.on t.fresh,
    )

pub set_term-requires : goal.set_term-requires
set_term-requires g c =
    let t = turn g.row.N c.args.others.now c.loop-member.yielded c.next.new.self c.loop-member.member-iterator c.in-Some.member c.iter-member-items.ensures.ids c.loop-member.invariant.split c.in-Some.ensures.steps in
    omega (arith, t.short, c.loop-member.invariant.end, c.loop-member.invariant.long, c.requires.room)

pub loop-member-preserved : goal.loop-member-preserved
loop-member-preserved g c =
    let i = c.loop-member.invariant in
    let t = turn g.row.N c.args.others.now c.loop-member.yielded c.next.new.self c.loop-member.member-iterator c.in-Some.member c.iter-member-items.ensures.ids i.split c.in-Some.ensures.steps in
    let read = term_in g.V.Item.of_bytes in
    let long = length-map c.loop-member.yielded (next_in read c.args.self.now) in
    let room = length-map c.args.terms.now said in
    record {
      can = tt;
      ends = tt;
      split = split_more c.args.others.now c.loop-member.yielded c.next.new.self c.loop-member.member-iterator c.in-Some.member i.split c.in-Some.ensures.steps;
      moved = moved_more c.loop-member.yielded c.in-Some.member c.args.self.now c.loop-member.self c.next_term-term.new.self i.moved c.next_term-term.ensures.moved t.fresh;
      terms =
          laid_more c.args.at c.loop-member.end (map (next_in read c.args.self.now) c.loop-member.yielded) (map said c.args.terms.now) (map said c.loop-member.terms) (map said c.set_term.new.terms) (said c.next_term-term.result) i.terms
          (omega (arith, i.end, long)) c.set_term.ensures.terms (omega (arith, t.short, long, room, c.requires.room))
          ∙ ap (λ xs. laid c.args.at xs (map said c.args.terms.now))
          (map_more (next_in read c.args.self.now) c.loop-member.yielded c.in-Some.member (said c.next_term-term.result)
          (c.next_term-term.ensures.term ∙ next_same c.loop-member.yielded c.args.self.now c.loop-member.self i.moved c.in-Some.member t.low read t.fresh));
      long = c.set_term.ensures.length ∙ i.long;
      end = omega (arith, i.end, length_push c.loop-member.yielded c.in-Some.member);
    }

pub returns : goal.returns
returns g c =
    let i = c.loop-member.invariant in
    let all = split_all c.args.others.now c.loop-member.yielded c.loop-member.member-iterator i.split c.in-None.ensures.steps.0 in
    record {
      terms = i.terms ∙ ap (λ xs. laid c.args.at (map (next_in (term_in g.V.Item.of_bytes) c.args.self.now) xs) (map said c.args.terms.now)) all;
      length = i.long;
      behind = i.end ∙ ap (λ xs. c.args.at + length xs) all;
      moved = subst (λ xs. IsMoved xs c.args.self.now c.loop-member.self) all i.moved;
    }
