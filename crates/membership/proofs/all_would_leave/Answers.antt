use Rattle.std.proofs.Common.{ℕ, Bool, List, [], ◌∷◌, ◌++◌, get_or, refl, sym, ap, ◌∙◌, arith, lit<, append-nil, append_assoc}
use Rattle.std.specs.Prelude.{nat_le}
use Rattle.std.specs.List.{list_all}
use Rattle.std.proofs.lemmas.Bool.{le-leb, lt-leb}
use Rattle.node_grid.specs.ListFacts.{tail_shorter, all_more, one_fails}
use Rattle.membership.proofs.all_would_leave.Goals as goal

pub iter-member-items-requires : goal.iter-member-items-requires
iter-member-items-requires g c = (lit< tt, lit< tt)

pub next-requires : goal.next-requires
next-requires g c = (lit< tt, tt)

pub loop-member-init : goal.loop-member-init
loop-member-init g c = record {
  can = tt;
  ends = tt;
  split = sym (c.into_iter-member-iterator.ensures.into_iter_gives ∙ c.iter-member-items.ensures.members);
  all = refl;
}

pub returns-then-counts-member : goal.returns-then-counts-member
returns-then-counts-member g c =
    let p : ℕ → Bool = λ j. nat_le c.args.policy.now.exclude (get_or c.args.counts.now.counts j 0) in
    let ys : List ℕ = c.loop-member.yielded in
    let split = c.loop-member.invariant.split ∙ ap (λ (xs : List ℕ). ys ++ xs) c.in-Some.ensures.steps in
    sym (ap (list_all p) split ∙ one_fails p ys c.next.new.self c.in-Some.member (lt-leb _ _ c.if-counts-member.true))

pub loop-member-smaller : goal.loop-member-smaller
loop-member-smaller g c = tail_shorter c.in-Some.ensures.steps

pub loop-member-preserved : goal.loop-member-preserved
loop-member-preserved g c =
    let p : ℕ → Bool = λ j. nat_le c.args.policy.now.exclude (get_or c.args.counts.now.counts j 0) in
    let ys : List ℕ = c.loop-member.yielded in
    record {
      can = tt;
      ends = tt;
      split = c.loop-member.invariant.split ∙ ap (λ (xs : List ℕ). ys ++ xs) c.in-Some.ensures.steps ∙ sym (append_assoc ys (c.in-Some.member ∷ []) c.next.new.self);
      all = all_more p ys c.in-Some.member c.loop-member.invariant.all (le-leb _ _ (omega (arith, c.if-counts-member.false)));
    }

pub returns : goal.returns
returns g c =
    let p : ℕ → Bool = λ j. nat_le c.args.policy.now.exclude (get_or c.args.counts.now.counts j 0) in
    let ys : List ℕ = c.loop-member.yielded in
    sym (ap (list_all p) (c.loop-member.invariant.split ∙ ap (λ (xs : List ℕ). ys ++ xs) c.in-None.ensures.steps.0 ∙ append-nil ys) ∙ c.loop-member.invariant.all)
