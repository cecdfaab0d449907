use Rattle.std.proofs.Common.{length, refl, ap, ◌∙◌, arith}
use Rattle.std.proofs.lemmas.List.{length-set}
use Rattle.node_grid.specs.ListFacts.{split_more}
use Rattle.node_grid.specs.SetFacts.{low_of}
use Rattle.omh_paths.specs.declared.wrapped.Wrapped.TheVariants.{Fault}
use Rattle.odd_relays.proofs.Laying.{laid_each, gone_through}
use Rattle.odd_relays.proofs.values.fill.Goals as goal

pub set_value-requires : goal.set_value-requires
set_value-requires g c =
    let l = low_of g.row.N c.args.nodes.now c.loop-i.yielded c.next.new.self c.loop-i.i-iterator c.in-Some.i c.iter-i-items.ensures.ids c.loop-i.invariant.split c.in-Some.ensures.steps in
    omega (arith, l, c.loop-i.invariant.places)

pub loop-i-preserved : goal.loop-i-preserved
loop-i-preserved g c =
    let i = c.loop-i.invariant in
    let l = low_of g.row.N c.args.nodes.now c.loop-i.yielded c.next.new.self c.loop-i.i-iterator c.in-Some.i c.iter-i-items.ensures.ids i.split c.in-Some.ensures.steps in
    record {
      can = tt;
      ends = tt;
      split = split_more c.args.nodes.now c.loop-i.yielded c.next.new.self c.loop-i.i-iterator c.in-Some.i i.split c.in-Some.ensures.steps;
      places = ap length c.set_value.ensures ∙ length-set c.loop-i.values c.in-Some.i c.args.value ∙ i.places;
      laid = laid_each (λ k. c.args.value) c.loop-i.yielded c.in-Some.i c.loop-i.values c.set_value.new.values c.args.value (Fault 0) i.laid (omega (arith, l, i.places)) c.set_value.ensures refl;
    }

pub returns-clause-laid : goal.returns-clause-laid
returns-clause-laid g c = λ k on.
    let i = c.loop-i.invariant in
    i.laid k (gone_through c.args.nodes.now c.loop-i.yielded c.loop-i.i-iterator k i.split c.in-None.ensures.steps.0 on)

pub returns-clause-places : goal.returns-clause-places
returns-clause-places g c = c.loop-i.invariant.places
