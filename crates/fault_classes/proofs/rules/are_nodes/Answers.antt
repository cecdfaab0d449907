use Rattle.std.proofs.Common.{◌≡◌, ℕ, ◌≤◌, Bool, true, false, not, ◌&&◌, List, [], ◌∷◌, ◌++◌, length, nat_lt, refl, sym, ap, ◌∙◌, arith, lit<, append-nil, append_assoc}
use Rattle.std.specs.Prelude.{◌↔◌, IsTrue}
use Rattle.std.specs.List.{list_all}
use Rattle.std.proofs.Math.Bool.{and-true, and-false}
use Rattle.std.proofs.lemmas.Bool.{lt-ltb, le-ltb}
use Rattle.node_grid.specs.ListFacts.{tail_shorter, all_more, one_fails}
use Rattle.fault_classes.specs.Rules.{are_below}
use Rattle.fault_classes.proofs.rules.are_nodes.Goals as goal

not_below : (nodes : ℕ) (ids ys rest : List ℕ) (x : ℕ) → ids ≡ ys ++ x ∷ rest → nodes ≤ x → false ≡ are_below nodes ids
not_below nodes ids ys rest x split high =
    let p : ℕ → Bool = λ k. nat_lt k nodes in
    sym (ap (λ b. nat_lt 0 (length ids) && b) (ap (list_all p) split ∙ one_fails p ys rest x (le-ltb x nodes high)) ∙ and-false (nat_lt 0 (length ids)))

some_there : (b : Bool) (ids : List ℕ) → IsTrue b ↔ (ids ≡ []) → not b ≡ nat_lt 0 (length ids)
some_there true [] h = refl
some_there true (x ∷ xs) h = absurd (let no : x ∷ xs ≡ [] = h.0 refl in cc)
some_there false [] h = absurd (let no : false ≡ true = h.1 refl in cc)
some_there false (x ∷ xs) h = sym (lt-ltb 0 (length (x ∷ xs)) (omega arith))

below : (nodes : ℕ) (b : Bool) (ids ys : List ℕ) → IsTrue b ↔ (ids ≡ []) → ids ≡ ys → list_all (λ x. nat_lt x nodes) ys ≡ true → not b ≡ are_below nodes ids
below nodes b ids ys none same all =
    some_there b ids none ∙ sym (ap (λ a. nat_lt 0 (length ids) && a) (ap (list_all (λ x. nat_lt x nodes)) same ∙ all) ∙ and-true (nat_lt 0 (length ids)))

pub iter-id-items-requires : goal.iter-id-items-requires
iter-id-items-requires g c = (lit< tt, lit< tt)

pub next-requires : goal.next-requires
next-requires g c = (lit< tt, tt)

pub loop-id-init : goal.loop-id-init
loop-id-init g c = record {
  can = tt;
  ends = tt;
  split = sym (c.into_iter-id-iterator.ensures.into_iter_gives ∙ c.iter-id-items.ensures.members);
  so_far = refl;
}

pub loop-id-preserved : goal.loop-id-preserved
loop-id-preserved g c =
    let ys : List ℕ = c.loop-id.yielded in
    record {
      can = tt;
      ends = tt;
      split = c.loop-id.invariant.split ∙ ap (λ (xs : List ℕ). ys ++ xs) c.in-Some.ensures.steps ∙ sym (append_assoc ys (c.in-Some.id ∷ []) c.next.new.self);
      so_far = all_more (λ x. nat_lt x c.args.nodes) ys c.in-Some.id c.loop-id.invariant.so_far (lt-ltb c.in-Some.id c.args.nodes (omega (arith, c.if-id-nodes.false)));
    }

pub loop-id-smaller : goal.loop-id-smaller
loop-id-smaller g c = tail_shorter c.in-Some.ensures.steps

pub returns-then-id-nodes : goal.returns-then-id-nodes
returns-then-id-nodes g c =
    let ys : List ℕ = c.loop-id.yielded in
    not_below c.args.nodes c.args.set.now ys c.next.new.self c.in-Some.id (c.loop-id.invariant.split ∙ ap (λ (xs : List ℕ). ys ++ xs) c.in-Some.ensures.steps) c.if-id-nodes.true

pub is_empty-requires : goal.is_empty-requires
is_empty-requires g c = lit< tt

pub returns : goal.returns
returns g c =
    let ys : List ℕ = c.loop-id.yielded in
    below c.args.nodes c.is_empty.result c.args.set.now ys c.is_empty.ensures (c.loop-id.invariant.split ∙ ap (λ (xs : List ℕ). ys ++ xs) c.in-None.ensures.steps.0 ∙ append-nil ys) c.loop-id.invariant.so_far
