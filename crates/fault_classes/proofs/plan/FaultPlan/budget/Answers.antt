use Rattle.std.proofs.Common.{◌≡◌, ◌+◌, ◌++◌, ◌∷◌, [], sym, ap, ◌∙◌, arith, append_assoc, lit<, refl, List, ℕ, ◌<◌, ◌≤◌, lit≤, length, append-nil, subst, length-append}
use Rattle.std.proofs.lemmas.List.{length_push}
use Rattle.node_grid.specs.declared.class.Class.{Class}
use Rattle.node_grid.specs.Count.{bit, count}
use Rattle.node_grid.specs.Class.{is_asymmetric, is_symmetric, is_silent}
use Rattle.node_grid.specs.ListFacts.{tail_shorter, middle_below}
use Rattle.fault_classes.specs.declared.budget.Budget.{Budget}
use Rattle.fault_classes.specs.Plan.{class_of}
use Rattle.fault_classes.specs.Budget.{counts_as, with_member}
use Rattle.node_grid.specs.declared.class.Class.TheVariants.{N, J, B, S, A}
use Rattle.node_grid.specs.ListLaws.{count-more}
use Rattle.std.specs.Prelude.{All}
use Rattle.fault_classes.proofs.plan.FaultPlan.budget.Goals as goal

-- a class counts as one of them at most
bits_le : (class : Class) → bit (is_asymmetric class) + bit (is_symmetric class) + bit (is_silent class) ≤ 1
bits_le N = lit≤ tt
bits_le J = lit≤ tt
bits_le B = lit≤ tt
bits_le S = lit≤ tt
bits_le A = lit≤ tt

pub loop-node-preserved : goal.loop-node-preserved
loop-node-preserved g c =
    let plan = c.args.self.now in
    let p = c.args.period in
    let x = c.in-Some.node in
    let xs = c.loop-node.yielded in
    let class : Class = class_of plan p x in
    let new : c.add.new.self ≡ with_member c.loop-node.budget class = c.add.ensures ∙ ap (with_member c.loop-node.budget) c.class.ensures in
    let all : c.add.new.self.n ≡ c.loop-node.budget.n = ap (λ (b : Budget). b.n) new in
    let a : c.add.new.self.a ≡ c.loop-node.budget.a + bit (is_asymmetric class) = ap (λ (b : Budget). b.a) new in
    let s : c.add.new.self.s ≡ c.loop-node.budget.s + bit (is_symmetric class) = ap (λ (b : Budget). b.s) new in
    let b : c.add.new.self.b ≡ c.loop-node.budget.b + bit (is_silent class) = ap (λ (b : Budget). b.b) new in
    let i = c.loop-node.invariant in
    let long = length_push xs x in
    record {
      can = tt;
      ends = tt;
      split = i.split ∙ ap (λ rest. xs ++ rest) c.in-Some.ensures.steps ∙ sym (append_assoc xs (x ∷ []) c.next.new.self);
      all = all ∙ i.all;
      asymmetric = a ∙ ap (λ k. k + bit (is_asymmetric class)) i.asymmetric ∙ sym (count-more (counts_as is_asymmetric plan p) xs x);
      symmetric = s ∙ ap (λ k. k + bit (is_symmetric class)) i.symmetric ∙ sym (count-more (counts_as is_symmetric plan p) xs x);
      silent = b ∙ ap (λ k. k + bit (is_silent class)) i.silent ∙ sym (count-more (counts_as is_silent plan p) xs x);
      few = omega (arith, a, s, b, long, i.few, bits_le class);
    }

pub len-requires : goal.len-requires
len-requires g c = lit< tt

pub iter-node-items-requires : goal.iter-node-items-requires
iter-node-items-requires g c = (lit< tt, lit< tt)

pub next-requires : goal.next-requires
next-requires g c = (lit< tt, tt)

pub loop-node-smaller : goal.loop-node-smaller
loop-node-smaller g c = tail_shorter c.in-Some.ensures.steps

pub loop-node-init : goal.loop-node-init
loop-node-init g c = record {
  can = tt;
  ends = tt;
  split = sym (c.into_iter-node-iterator.ensures.into_iter_gives ∙ c.iter-node-items.ensures.members);
  all = c.len.ensures.count;
  asymmetric = refl;
  symmetric = refl;
  silent = refl;
  few = omega arith;
}

pub returns : goal.returns
returns g c =
    let plan = c.args.self.now in
    let p = c.args.period in
    let i = c.loop-node.invariant in
    let ys : List ℕ = c.loop-node.yielded in
    let whole : ys ≡ c.args.members.now = sym (i.split ∙ ap (λ (xs : List ℕ). ys ++ xs) c.in-None.ensures.steps.0 ∙ append-nil ys) in
    record {
      all = i.all;
      asymmetric = i.asymmetric ∙ ap (count (counts_as is_asymmetric plan p)) whole;
      symmetric = i.symmetric ∙ ap (count (counts_as is_symmetric plan p)) whole;
      silent = i.silent ∙ ap (count (counts_as is_silent plan p)) whole;
    }

pub class-requires : goal.class-requires
class-requires g c =
    let ys : List ℕ = c.loop-node.yielded in
    let split = c.loop-node.invariant.split ∙ ap (λ (xs : List ℕ). ys ++ xs) c.in-Some.ensures.steps in
    let low : c.in-Some.node < c.args.self.now.nodes = middle_below c.args.self.now.nodes ys c.next.new.self c.in-Some.node (subst (λ xs. All (λ k. k < c.args.self.now.nodes) xs) split c.requires.members) in
    (lit< tt, (low, c.requires.period))

pub add-requires : goal.add-requires
add-requires g c =
    let part = ap length c.loop-node.invariant.split ∙ length-append c.loop-node.yielded c.loop-node.node-iterator in
    omega (arith, part, ap length c.in-Some.ensures.steps, c.len.ensures.count, c.len.type_inv, c.loop-node.invariant.few)
