use Rattle.std.proofs.Common.{ℕ, ◌≢◌, ◌<◌, ◌≤◌, ◌+◌, ◌⊎◌, List, length, get_or, sym, ap, ◌∙◌, inl, inr, arith}
use Rattle.std.proofs.lemmas.List.{length-set, get_or-set_other}
use Rattle.node_grid.specs.NodeSet.{has_id}
use Rattle.node_grid.specs.ListFacts.{split_more, split_all}
use Rattle.node_grid.specs.SetFacts.{low_of}
use Rattle.omh_paths.specs.declared.wrapped.Wrapped.TheVariants.{Fault}
use Rattle.odd_relays.proofs.Places.{laid_at, values_apart}
use Rattle.item_phase.proofs.values.lay_row.Goals as goal

pub value_at-value-requires : goal.value_at-value-requires
value_at-value-requires g c =
    let i = c.loop-i.invariant in
    let l = low_of g.row.N c.args.nodes.now c.loop-i.yielded c.next.new.self c.loop-i.i-iterator c.in-Some.i c.iter-i-items.ensures.ids i.split c.in-Some.ensures.steps in
    omega (arith, l, c.requires.row)

pub set_value-requires : goal.set_value-requires
set_value-requires g c =
    let i = c.loop-i.invariant in
    let l = low_of g.row.N c.args.nodes.now c.loop-i.yielded c.next.new.self c.loop-i.i-iterator c.in-Some.i c.iter-i-items.ensures.ids i.split c.in-Some.ensures.steps in
    omega (arith, l, i.long, c.requires.room)

away : (from n k i : ℕ) → i < n → (k < from) ⊎ (from + n ≤ k) → k ≢ from + i
away from n k i low (inl before) e = omega arith
away from n k i low (inr behind) e = omega arith

pub loop-i-preserved : goal.loop-i-preserved
loop-i-preserved g c =
    let i = c.loop-i.invariant in
    let q : ℕ = c.in-Some.i in
    let from : ℕ = c.args.from in
    let l = low_of g.row.N c.args.nodes.now c.loop-i.yielded c.next.new.self c.loop-i.i-iterator q c.iter-i-items.ensures.ids i.split c.in-Some.ensures.steps in
    record {
      can = tt;
      ends = tt;
      split = split_more c.args.nodes.now c.loop-i.yielded c.next.new.self c.loop-i.i-iterator q i.split c.in-Some.ensures.steps;
      long = ap length c.set_value.ensures ∙ length-set c.loop-i.values (from + q) c.value_at-value.result ∙ i.long;
      laid = laid_at (Fault 0) (λ (k : ℕ). from + k) (values_apart from) (λ k. get_or c.args.row.now k (Fault 0)) c.loop-i.yielded q c.loop-i.values c.set_value.new.values c.value_at-value.result i.laid (omega (arith, l, i.long, c.requires.room)) c.set_value.ensures c.value_at-value.ensures;
      kept = λ k out. ap (λ xs. get_or xs k (Fault 0)) c.set_value.ensures ∙ get_or-set_other c.loop-i.values (from + q) k c.value_at-value.result (Fault 0) (away from g.row.N k q l out) ∙ i.kept k out;
    }

pub returns-clause-laid : goal.returns-clause-laid
returns-clause-laid g c = λ k on.
    let i = c.loop-i.invariant in
    let all = split_all c.args.nodes.now c.loop-i.yielded c.loop-i.i-iterator i.split c.in-None.ensures.steps.0 in
    i.laid k (ap (λ (s : List ℕ). has_id s k) (sym all) ∙ on)

pub returns-clause-kept : goal.returns-clause-kept
returns-clause-kept g c = c.loop-i.invariant.kept

pub returns-clause-room : goal.returns-clause-room
returns-clause-room g c = c.loop-i.invariant.long
