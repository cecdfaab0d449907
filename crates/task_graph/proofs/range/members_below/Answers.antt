use Rattle.std.proofs.Common.{ℕ, Bool, List, [], ◌∷◌, ◌++◌, refl, sym, ap, ◌∙◌, arith, lit<, append-nil, append_assoc}
use Rattle.std.specs.Prelude.{nat_lt}
use Rattle.std.specs.List.{list_all}
use Rattle.std.proofs.lemmas.Bool.{le-ltb, lt-ltb}
use Rattle.node_grid.specs.ListFacts.{tail_shorter, all_more, one_fails}
use Rattle.task_graph.proofs.range.members_below.Goals as goal

pub iter-id-items-requires : goal.iter-id-items-requires
iter-id-items-requires g c = (lit< tt, lit< tt)

pub next-requires : goal.next-requires
next-requires g c = (lit< tt, tt)

pub loop-id-init : goal.loop-id-init
loop-id-init g c = record {
  can = tt;
  ends = tt;
  split = sym (c.into_iter-id-iterator.ensures.into_iter_gives ∙ c.iter-id-items.ensures.members);
  below = refl;
}

pub returns-then-id-nodes : goal.returns-then-id-nodes
returns-then-id-nodes g c =
    let p : ℕ → Bool = λ j. nat_lt j c.args.nodes in
    let ys : List ℕ = c.loop-id.yielded in
    let split = c.loop-id.invariant.split ∙ ap (λ (xs : List ℕ). ys ++ xs) c.in-Some.ensures.steps in
    sym (ap (list_all p) split ∙ one_fails p ys c.next.new.self c.in-Some.id (le-ltb c.in-Some.id c.args.nodes c.if-id-nodes.true))

pub loop-id-smaller : goal.loop-id-smaller
loop-id-smaller g c = tail_shorter c.in-Some.ensures.steps

pub loop-id-preserved : goal.loop-id-preserved
loop-id-preserved g c =
    let p : ℕ → Bool = λ j. nat_lt j c.args.nodes in
    let ys : List ℕ = c.loop-id.yielded in
    record {
      can = tt;
      ends = tt;
      split = c.loop-id.invariant.split ∙ ap (λ (xs : List ℕ). ys ++ xs) c.in-Some.ensures.steps ∙ sym (append_assoc ys (c.in-Some.id ∷ []) c.next.new.self);
      below = all_more p ys c.in-Some.id c.loop-id.invariant.below (lt-ltb c.in-Some.id c.args.nodes (omega (arith, c.if-id-nodes.false)));
    }

pub returns : goal.returns
returns g c =
    let p : ℕ → Bool = λ j. nat_lt j c.args.nodes in
    let ys : List ℕ = c.loop-id.yielded in
    sym (ap (list_all p) (c.loop-id.invariant.split ∙ ap (λ (xs : List ℕ). ys ++ xs) c.in-None.ensures.steps.0 ∙ append-nil ys) ∙ c.loop-id.invariant.below)
