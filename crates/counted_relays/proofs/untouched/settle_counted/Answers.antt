use Rattle.std.proofs.Common.{ℕ, ◌≡◌, ◌≢◌, ◌∷◌, [], List, length, get_or, refl, sym, ap, ◌∙◌, arith}
use Rattle.std.proofs.lemmas.Bool.{both_ways}
use Rattle.std.proofs.lemmas.List.{length-set}
use Rattle.node_grid.specs.NodeSet.{has_id, without_id}
use Rattle.node_grid.specs.ListFacts.{split_more}
use Rattle.node_grid.specs.SetFacts.{member-lt, next_on, has_rest}
use Rattle.omh_paths.specs.declared.wrapped.Wrapped.{Wrapped}
use Rattle.omh_paths.specs.declared.wrapped.Wrapped.TheVariants.{Fault}
use Rattle.settled_paths.proofs.Loops.{laid_each, laid_kept, left_out, each_of}
use Rattle.counted_relays.specs.Counted.{counted}
use Rattle.counted_relays.proofs.untouched.settle_counted.Goals as goal

pub set_value-requires : goal.set_value-requires
set_value-requires g c =
    let s = c.args.exchange.now in
    let i = c.loop-i.invariant in
    let on = next_on (without_id s.awake s.commander) c.loop-i.yielded c.next.new.self c.loop-i.i-iterator c.in-Some.i i.split c.in-Some.ensures.steps in
    let low = member-lt g.row.N c.without.result c.in-Some.i c.iter-i-items.ensures.ids (ap (λ (xs : List ℕ). has_id xs c.in-Some.i) c.without.ensures ∙ on) in
    omega (arith, low, i.places)

pub loop-i-preserved : goal.loop-i-preserved
loop-i-preserved g c =
    let s = c.args.exchange.now in
    let i = c.loop-i.invariant in
    let nodes = without_id s.awake s.commander in
    let q = c.in-Some.i in
    let on = next_on nodes c.loop-i.yielded c.next.new.self c.loop-i.i-iterator q i.split c.in-Some.ensures.steps in
    let low = member-lt g.row.N c.without.result q c.iter-i-items.ensures.ids (ap (λ (xs : List ℕ). has_id xs q) c.without.ensures ∙ on) in
    record {
      can = tt;
      ends = tt;
      split = split_more nodes c.loop-i.yielded c.next.new.self c.loop-i.i-iterator q i.split c.in-Some.ensures.steps;
      places = ap length c.set_value.ensures ∙ length-set c.loop-i.all q c.counted.result ∙ i.places;
      settled = laid_each (λ (k : ℕ) (v : Wrapped g.row.V.Denot). v ≡ counted s.rounds s.members s.full c.args.own s.commander k) c.loop-i.yielded q c.loop-i.all c.set_value.new.values c.counted.result (Fault 0) i.settled (omega (arith, low, i.places)) c.set_value.ensures
          c.counted.ensures;
      kept = λ k off.
          let other : k ≢ q = λ e. both_ways _ off (ap (has_id nodes) e ∙ on) in
          laid_kept c.loop-i.all c.set_value.new.values k q c.counted.result (Fault 0) other c.set_value.ensures ∙ i.kept k off;
    }

pub returns-clause-settled : goal.returns-clause-settled
returns-clause-settled g c = λ i on ne.
    let s = c.args.exchange.now in
    each_of (λ (k : ℕ). get_or c.loop-i.all k (Fault 0) ≡ counted s.rounds s.members s.full c.args.own s.commander k) (without_id s.awake s.commander) c.loop-i.yielded c.loop-i.i-iterator c.loop-i.invariant.split c.in-None.ensures.steps.0
    c.loop-i.invariant.settled i (has_rest s.awake s.commander i on ne)

pub returns-clause-others : goal.returns-clause-others
returns-clause-others g c = λ i out.
    let s = c.args.exchange.now in
    c.loop-i.invariant.kept i (left_out s.awake (without_id s.awake s.commander) s.commander i refl out)
