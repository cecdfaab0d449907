use Rattle.std.proofs.Common.{append-nil, true, false, not, Option, None, Some, ◌≡◌, ℕ, ◌++◌, List, Bool, refl, ap, sym, ◌∙◌, inl, inr, lit<}
use Rattle.std.specs.Prelude.{is_none, is_some}
use Rattle.node_grid.specs.NodeSet.{with_id}
use Rattle.node_grid.specs.ListFacts.{tail_shorter}
use Rattle.list_scheduler.specs.Copies.{works}
use Rattle.list_scheduler.proofs.Found.{found, found_none, found_more, found_less}
use Rattle.node_grid.specs.CapacityLaws.{capacity-le}
use Rattle.list_scheduler.proofs.Members.{one_more, next_within}
use Rattle.list_scheduler.proofs.copies.Copies.resting.Goals as goal

told : (o : Option (ℕ × ℕ)) (r : Bool) → is_some o ≡ not r → is_none o ≡ r
told None true h = refl
told None false h = cc
told (Some w) true h = cc
told (Some w) false h = refl

pub loop-node-init : goal.loop-node-init
loop-node-init g c = record {
  can = tt;
  ends = tt;
  split = sym (c.into_iter-node-iterator.ensures.into_iter_gives ∙ c.iter-node-items.ensures.members);
  resting = c.empty-resting.ensures ∙ sym (found_none g.row.N (λ q. is_none (works c.args.self.now q)));
}

pub loop-node-preserved-then-is_none : goal.loop-node-preserved-then-is_none
loop-node-preserved-then-is_none g c =
    let n = g.row.N in
    let node = c.in-Some.node in
    let test : ℕ → Bool = λ q. is_none (works c.args.self.now q) in
    let passes : test node ≡ true = sym (ap is_none c.works.ensures) ∙ told c.works.result c.is_none.result c.is_none.ensures ∙ c.if-is_none.true in
    record {
      can = tt;
      ends = tt;
      split = one_more c.args.members.now c.loop-node.yielded node c.next.new.self (c.loop-node.invariant.split ∙ ap (λ (xs : List ℕ). c.loop-node.yielded ++ xs) c.in-Some.ensures.steps);
      resting = c.put.ensures ∙ ap (λ (s : List ℕ). with_id n s node) c.loop-node.invariant.resting ∙ found_more n test c.loop-node.yielded node passes;
    }

pub loop-node-preserved : goal.loop-node-preserved
loop-node-preserved g c =
    let n = g.row.N in
    let node = c.in-Some.node in
    let test : ℕ → Bool = λ q. is_none (works c.args.self.now q) in
    let fails : test node ≡ false = sym (ap is_none c.works.ensures) ∙ told c.works.result c.is_none.result c.is_none.ensures ∙ c.if-is_none.false in
    record {
      can = tt;
      ends = tt;
      split = one_more c.args.members.now c.loop-node.yielded node c.next.new.self (c.loop-node.invariant.split ∙ ap (λ (xs : List ℕ). c.loop-node.yielded ++ xs) c.in-Some.ensures.steps);
      resting = c.loop-node.invariant.resting ∙ found_less n test c.loop-node.yielded node fails;
    }

pub returns : goal.returns
returns g c =
    let all : c.args.members.now ≡ c.loop-node.yielded = c.loop-node.invariant.split ∙ ap (λ (xs : List ℕ). c.loop-node.yielded ++ xs) c.in-None.ensures.steps.0 ∙ append-nil c.loop-node.yielded in
    c.loop-node.invariant.resting ∙ ap (found g.row.N (λ q. is_none (works c.args.self.now q))) (sym all)

pub empty-resting-requires : goal.empty-resting-requires
empty-resting-requires g c = (lit< tt, capacity-le g.row.N g.bound-1.eight_or_sixteen)

pub iter-node-items-requires : goal.iter-node-items-requires
iter-node-items-requires g c = (lit< tt, lit< tt)

pub loop-node-smaller : goal.loop-node-smaller
loop-node-smaller g c = tail_shorter c.in-Some.ensures.steps

pub loop-node-smaller-then-is_none : goal.loop-node-smaller-then-is_none
loop-node-smaller-then-is_none g c = tail_shorter c.in-Some.ensures.steps

pub next-requires : goal.next-requires
next-requires g c = (lit< tt, tt)

pub put-requires : goal.put-requires
put-requires g c = (lit< tt, next_within g.row.N c.args.members.now c.loop-node.yielded c.iter-node-items.ensures.ids c.loop-node.invariant.split c.in-Some.ensures.steps)

pub works-requires : goal.works-requires
works-requires g c = (
  elim g.bound-1.eight_or_sixteen [ inl e ↦ rw e (lit< tt) | inr e ↦ rw e (lit< tt) ],
  (lit< tt, (next_within g.row.N c.args.members.now c.loop-node.yielded c.iter-node-items.ensures.ids c.loop-node.invariant.split c.in-Some.ensures.steps, c.requires.copies)),
)
