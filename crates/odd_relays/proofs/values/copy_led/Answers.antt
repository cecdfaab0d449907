use Rattle.std.proofs.Common.{ℕ, length, slice_index_or, ap, ◌∙◌, arith}
use Rattle.std.proofs.lemmas.List.{length-set}
use Rattle.node_grid.specs.ListFacts.{split_more}
use Rattle.node_grid.specs.SetFacts.{low_of, next_on}
use Rattle.omh_paths.specs.declared.wrapped.Wrapped.TheVariants.{Fault}
use Rattle.odd_relays.proofs.Laying.{laid_each, gone_through}
use Rattle.odd_relays.proofs.values.copy_led.Goals as goal

pub bounds-leader_of-i : goal.bounds-leader_of-i
bounds-leader_of-i g c =
    let i = c.loop-i.invariant in
    let l = low_of g.row.N c.args.nodes.now c.loop-i.yielded c.next.new.self c.loop-i.i-iterator c.in-Some.i c.iter-i-items.ensures.ids i.split c.in-Some.ensures.steps in
    omega (arith, l, c.requires.leaders)

pub value_at-value-requires : goal.value_at-value-requires
value_at-value-requires g c =
    c.requires.values c.in-Some.i (next_on c.args.nodes.now c.loop-i.yielded c.next.new.self c.loop-i.i-iterator c.in-Some.i c.loop-i.invariant.split c.in-Some.ensures.steps)

pub set_value-requires : goal.set_value-requires
set_value-requires g c =
    let i = c.loop-i.invariant in
    let l = low_of g.row.N c.args.nodes.now c.loop-i.yielded c.next.new.self c.loop-i.i-iterator c.in-Some.i c.iter-i-items.ensures.ids i.split c.in-Some.ensures.steps in
    omega (arith, l, i.places)

pub loop-i-preserved : goal.loop-i-preserved
loop-i-preserved g c =
    let i = c.loop-i.invariant in
    let q : ℕ = c.in-Some.i in
    let l = low_of g.row.N c.args.nodes.now c.loop-i.yielded c.next.new.self c.loop-i.i-iterator c.in-Some.i c.iter-i-items.ensures.ids i.split c.in-Some.ensures.steps in
    record {
      can = tt;
      ends = tt;
      split = split_more c.args.nodes.now c.loop-i.yielded c.next.new.self c.loop-i.i-iterator c.in-Some.i i.split c.in-Some.ensures.steps;
      places = ap length c.set_value.ensures ∙ length-set c.loop-i.all q c.value_at-value.result ∙ i.places;
      laid = laid_each (λ k. slice_index_or c.args.values.now (slice_index_or c.args.leader_of.now k 0) (Fault 0)) c.loop-i.yielded q c.loop-i.all c.set_value.new.values c.value_at-value.result (Fault 0)
          i.laid (omega (arith, l, i.places)) c.set_value.ensures c.value_at-value.ensures;
    }

pub returns-clause-laid : goal.returns-clause-laid
returns-clause-laid g c = λ k on.
    let i = c.loop-i.invariant in
    i.laid k (gone_through c.args.nodes.now c.loop-i.yielded c.loop-i.i-iterator k i.split c.in-None.ensures.steps.0 on)

pub returns-clause-places : goal.returns-clause-places
returns-clause-places g c = c.loop-i.invariant.places
