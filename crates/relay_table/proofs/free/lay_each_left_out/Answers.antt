use Rattle.std.proofs.Common.{lit<, ◌+◌, ◌∷◌, [], map, length, refl, sym, ap, ◌∙◌, arith}
use Rattle.std.proofs.lemmas.List.{length-map, length_push}
use Rattle.node_grid.specs.NodeSet.{without_id}
use Rattle.node_grid.specs.ListFacts.{split_more}
use Rattle.relay_walk.specs.Laid.{laid}
use Rattle.relay_walk.specs.LaidLaws.{laid_none, laid_more, length-laid}
use Rattle.relay_walk.proofs.Loops.{turn, split_all, map_more}
use Rattle.relay_table.proofs.free.lay_each_left_out.Goals as goal

pub loop-member-init : goal.loop-member-init
loop-member-init g c = record {
  can = tt;
  ends = tt;
  split = cc;
  sets = sym (laid_none c.args.at c.args.sets.now);
  long = refl;
  end = omega arith;
}

pub set_set-requires : goal.set_set-requires
set_set-requires g c =
    let t = turn g.row.N c.args.set.now c.loop-member.yielded c.next.new.self c.loop-member.member-iterator c.in-Some.member c.iter-member-items.ensures.ids c.loop-member.invariant.split c.in-Some.ensures.steps in
    (lit< tt, omega (arith, t.short, c.loop-member.invariant.end, c.loop-member.invariant.long, c.requires.room))

pub loop-member-preserved : goal.loop-member-preserved
loop-member-preserved g c =
    let i = c.loop-member.invariant in
    let set = c.args.set.now in
    let q = c.in-Some.member in
    let t = turn g.row.N set c.loop-member.yielded c.next.new.self c.loop-member.member-iterator q c.iter-member-items.ensures.ids i.split c.in-Some.ensures.steps in
    let long = length-map c.loop-member.yielded (without_id set) in
    let e = ap (λ xs. length xs) c.set_set.ensures in
    record {
      can = tt;
      ends = tt;
      split = split_more set c.loop-member.yielded c.next.new.self c.loop-member.member-iterator q i.split c.in-Some.ensures.steps;
      sets =
          laid_more c.args.at c.loop-member.end (map (without_id set) c.loop-member.yielded) c.args.sets.now c.loop-member.sets c.set_set.new.sets c.without-rest.result i.sets
          (omega (arith, i.end, long)) c.set_set.ensures (omega (arith, t.short, long, c.requires.room))
          ∙ ap (λ xs. laid c.args.at xs c.args.sets.now) (map_more (without_id set) c.loop-member.yielded q c.without-rest.result c.without-rest.ensures);
      long = e ∙ length-laid c.loop-member.end (c.without-rest.result ∷ []) c.loop-member.sets (omega (arith, t.short, i.end, i.long, c.requires.room)) ∙ i.long;
      end = omega (arith, i.end, length_push c.loop-member.yielded q);
    }

pub returns : goal.returns
returns g c =
    let i = c.loop-member.invariant in
    let all = split_all c.args.set.now c.loop-member.yielded c.loop-member.member-iterator i.split c.in-None.ensures.steps.0 in
    record {
      sets = i.sets ∙ ap (λ xs. laid c.args.at (map (without_id c.args.set.now) xs) c.args.sets.now) all;
      behind = i.end ∙ ap (λ xs. c.args.at + length xs) all;
    }
