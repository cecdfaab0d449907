use Rattle.std.proofs.Common.{ℕ, ◌+◌, ◌*◌, ◌<◌, length, slice_index_or, ap, ◌∙◌, arith, List, sym, subst}
use Rattle.std.proofs.lemmas.List.{length-set}
use Rattle.node_grid.specs.ListFacts.{split_more, split_all}
use Rattle.node_grid.specs.SetFacts.{low_of}
use Rattle.omh_paths.specs.declared.wrapped.Wrapped.TheVariants.{Fault}
use Rattle.odd_relays.specs.Work.{KeepsOthers}
use Rattle.odd_relays.proofs.Laying.{through, gone_through}
use Rattle.odd_relays.proofs.Places.{laid_at, terms_apart, kept_at}
use Rattle.odd_relays.proofs.values.copy_terms.Goals as goal

pub value_from-value-requires : goal.value_from-value-requires
value_from-value-requires g c =
    let i = c.loop-i.invariant in
    let l = low_of g.row.N c.args.nodes.now c.loop-i.yielded c.next.new.self c.loop-i.i-iterator c.in-Some.i c.iter-i-items.ensures.ids i.split c.in-Some.ensures.steps in
    omega (arith, l, i.long, c.requires.room)

pub set_value-requires : goal.set_value-requires
set_value-requires g c =
    let i = c.loop-i.invariant in
    let l = low_of g.row.N c.args.nodes.now c.loop-i.yielded c.next.new.self c.loop-i.i-iterator c.in-Some.i c.iter-i-items.ensures.ids i.split c.in-Some.ensures.steps in
    omega (arith, l, i.long, c.requires.room, c.requires.behind)

pub loop-i-preserved : goal.loop-i-preserved
loop-i-preserved g c =
    let i = c.loop-i.invariant in
    let q : ℕ = c.in-Some.i in
    let place = λ (k : ℕ). c.args.at + 16 * k in
    let apart = terms_apart c.args.at in
    let l = low_of g.row.N c.args.nodes.now c.loop-i.yielded c.next.new.self c.loop-i.i-iterator c.in-Some.i c.iter-i-items.ensures.ids i.split c.in-Some.ensures.steps in
    let fits : c.args.at + 16 * q < length c.loop-i.work = omega (arith, l, i.long, c.requires.room, c.requires.behind) in
    record {
      can = tt;
      ends = tt;
      split = split_more c.args.nodes.now c.loop-i.yielded c.next.new.self c.loop-i.i-iterator c.in-Some.i i.split c.in-Some.ensures.steps;
      long = ap length c.set_value.ensures ∙ length-set c.loop-i.work (c.args.at + 16 * q) c.value_from-value.result ∙ i.long;
      laid = laid_at (Fault 0) place apart (λ k. slice_index_or c.args.work.now (c.args.from + k) (Fault 0)) c.loop-i.yielded q c.loop-i.work c.set_value.new.values c.value_from-value.result i.laid fits c.set_value.ensures
          (c.value_from-value.ensures ∙ i.kept (c.args.from + q) (λ k on e. let low : k < g.row.N = through g.row.N c.args.nodes.now c.loop-i.yielded c.loop-i.i-iterator k c.iter-i-items.ensures.ids i.split on in omega (arith, e, low, c.requires.behind)));
      kept = kept_at (Fault 0) place apart c.loop-i.yielded q c.args.work.now c.loop-i.work c.set_value.new.values c.value_from-value.result i.kept c.set_value.ensures;
    }

pub returns-clause-laid : goal.returns-clause-laid
returns-clause-laid g c = λ k on.
    let i = c.loop-i.invariant in
    i.laid k (gone_through c.args.nodes.now c.loop-i.yielded c.loop-i.i-iterator k i.split c.in-None.ensures.steps.0 on)

pub returns-clause-kept : goal.returns-clause-kept
returns-clause-kept g c =
    let i = c.loop-i.invariant in
    let all = split_all c.args.nodes.now c.loop-i.yielded c.loop-i.i-iterator i.split c.in-None.ensures.steps.0 in
    subst (λ (s : List ℕ). KeepsOthers s c.args.at c.args.work.now c.loop-i.work) (sym all) i.kept

pub returns-clause-room : goal.returns-clause-room
returns-clause-room g c = c.loop-i.invariant.long

pub overflow_mul-i : goal.overflow_mul-i
overflow_mul-i g c = omega arith

pub overflow_add-at : goal.overflow_add-at
overflow_add-at g c =
    let i = c.loop-i.invariant in
    let l = low_of g.row.N c.args.nodes.now c.loop-i.yielded c.next.new.self c.loop-i.i-iterator c.in-Some.i c.iter-i-items.ensures.ids i.split c.in-Some.ensures.steps in
    omega (arith, l, c.requires.room, c.requires.behind)
