use Rattle.std.proofs.Common.{ℕ, ◌≡◌, slice_index_or, arith}
use Rattle.node_grid.specs.ListFacts.{split_more}
use Rattle.node_grid.specs.SetFacts.{low_of, each_more}
use Rattle.omh_paths.specs.declared.wrapped.Wrapped.TheVariants.{Fault}
use Rattle.odd_relays.proofs.Laying.{gone_through}
use Rattle.odd_relays.proofs.values.are_alike.Goals as goal

pub is_same-requires-clause-first : goal.is_same-requires-clause-first
is_same-requires-clause-first g c =
    let l = low_of g.row.N c.args.nodes.now c.loop-k.yielded c.next.new.self c.loop-k.k-iterator c.in-Some.k c.iter-k-items.ensures.ids c.loop-k.invariant.split c.in-Some.ensures.steps in
    omega (arith, l, c.requires.places)

pub loop-k-preserved : goal.loop-k-preserved
loop-k-preserved g c =
    let i = c.loop-k.invariant in
    record {
      can = tt;
      ends = tt;
      split = split_more c.args.nodes.now c.loop-k.yielded c.next.new.self c.loop-k.k-iterator c.in-Some.k i.split c.in-Some.ensures.steps;
      same = each_more (λ (k : ℕ). slice_index_or c.args.values.now k (Fault 0) ≡ slice_index_or c.args.values.now c.args.first (Fault 0)) c.loop-k.yielded c.in-Some.k i.same (c.is_same.ensures c.if-not-is_same.false);
    }

pub returns : goal.returns
returns g c = λ yes k on.
    let i = c.loop-k.invariant in
    i.same k (gone_through c.args.nodes.now c.loop-k.yielded c.loop-k.k-iterator k i.split c.in-None.ensures.steps.0 on)
