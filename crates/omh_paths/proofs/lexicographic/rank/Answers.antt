use Rattle.std.proofs.Common.{◌≡◌, ◌≤◌, ◌<◌, ◌*◌, ◌+◌, ℕ, List, [], length, drop, sym, ap, ap₂, ◌∙◌, subst, arith}
use Rattle.std.proofs.lemmas.List.{drop_all}
use Rattle.node_grid.specs.NodeSet.{without_id}
use Rattle.omh_paths.specs.Paths.{index_in}
use Rattle.omh_paths.specs.PathLists.{index_in-lt, length-without, place-lt}
use Rattle.omh_paths.proofs.Ranks.{IsRanked, ranked_start, ranked_at, ranked_more, head_within, place_bound, product_small, ranked_end}
use Rattle.node_grid.specs.CapacityLaws.{capacity-le}
use Rattle.omh_paths.specs.MemberLaws.{Distinct-ids, few_ids, place-index}
use Rattle.omh_paths.proofs.lexicographic.rank.Goals as goal

pub loop-k-init : goal.loop-k-init
loop-k-init g c = record {
  ranked = ranked_start g.row.N c.args.set.now c.args.path.now (capacity-le g.row.N g.bound-1.eight_or_sixteen) c.len-choices.ensures.ids c.len-k-end.ensures.distinct c.requires.within;
  choices = c.len-choices.ensures.count;
}

pub overflow_mul-place : goal.overflow_mul-place
overflow_mul-place g c =
    let few = few_ids g.row.N c.args.set.now g.bound-1.eight_or_sixteen c.len-choices.ensures.ids in
    let low = place_bound c.loop-k.invariant.ranked (Distinct-ids g.row.N c.args.set.now c.len-choices.ensures.ids) few c.len-k-end.ensures.distinct c.requires.within
    (omega (arith, c.len-k-end.ensures.count, c.len-k-end.ensures.few)) in
    let choices : c.loop-k.choices ≤ 16 = omega (arith, c.loop-k.invariant.choices, c.loop-k.invariant.ranked.few) in
    let small = product_small c.loop-k.place c.loop-k.choices low choices in
    omega arith

pub overflow_add-place : goal.overflow_add-place
overflow_add-place g c =
    let few = few_ids g.row.N c.args.set.now g.bound-1.eight_or_sixteen c.len-choices.ensures.ids in
    let low = place_bound c.loop-k.invariant.ranked (Distinct-ids g.row.N c.args.set.now c.len-choices.ensures.ids) few c.len-k-end.ensures.distinct c.requires.within
    (omega (arith, c.len-k-end.ensures.count, c.len-k-end.ensures.few)) in
    let choices : c.loop-k.choices ≤ 16 = omega (arith, c.loop-k.invariant.choices, c.loop-k.invariant.ranked.few) in
    let small = product_small c.loop-k.place c.loop-k.choices low choices in
    let here : c.loop-k.k < length c.args.path.now = omega (arith, c.loop-k-test.true, c.len-k-end.ensures.count) in
    let now = ranked_at c.loop-k.k c.at-node.result c.loop-k.invariant.ranked here c.at-node.ensures in
    let is : c.place.result ≡ index_in c.loop-k.left c.at-node.result =
    c.place.ensures.count ∙ place-index g.row.N c.loop-k.left c.at-node.result c.place.ensures.ids (head_within c.at-node.result (drop (c.loop-k.k + 1) c.args.path.now) now) in
    let place : c.place.result < length c.loop-k.left = omega (arith, is, index_in-lt c.loop-k.left c.at-node.result (head_within c.at-node.result (drop (c.loop-k.k + 1) c.args.path.now) now)) in
    omega (arith, small, place, now.few)

pub place-requires : goal.place-requires
place-requires g c =
    let here : c.loop-k.k < length c.args.path.now = omega (arith, c.loop-k-test.true, c.len-k-end.ensures.count) in
    let now = ranked_at c.loop-k.k c.at-node.result c.loop-k.invariant.ranked here c.at-node.ensures in
    (omega arith, now.low c.at-node.result (head_within c.at-node.result (drop (c.loop-k.k + 1) c.args.path.now) now))

pub cut-requires : goal.cut-requires
cut-requires g c =
    let here : c.loop-k.k < length c.args.path.now = omega (arith, c.loop-k-test.true, c.len-k-end.ensures.count) in
    let now = ranked_at c.loop-k.k c.at-node.result c.loop-k.invariant.ranked here c.at-node.ensures in
    (omega arith, now.low c.at-node.result (head_within c.at-node.result (drop (c.loop-k.k + 1) c.args.path.now) now))

pub overflow_sub-choices : goal.overflow_sub-choices
overflow_sub-choices g c =
    let here : c.loop-k.k < length c.args.path.now = omega (arith, c.loop-k-test.true, c.len-k-end.ensures.count) in
    let now = ranked_at c.loop-k.k c.at-node.result c.loop-k.invariant.ranked here c.at-node.ensures in
    omega (arith, c.loop-k.invariant.choices, index_in-lt c.loop-k.left c.at-node.result (head_within c.at-node.result (drop (c.loop-k.k + 1) c.args.path.now) now))

pub loop-k-preserved : goal.loop-k-preserved
loop-k-preserved g c =
    let here : c.loop-k.k < length c.args.path.now = omega (arith, c.loop-k-test.true, c.len-k-end.ensures.count) in
    let later : List ℕ = drop (c.loop-k.k + 1) c.args.path.now in
    let now = ranked_at c.loop-k.k c.at-node.result c.loop-k.invariant.ranked here c.at-node.ensures in
    let left : c.cut.new.self ≡ without_id c.loop-k.left c.at-node.result = c.cut.ensures in
    let is : c.place.result ≡ index_in c.loop-k.left c.at-node.result =
    c.place.ensures.count ∙ place-index g.row.N c.loop-k.left c.at-node.result c.place.ensures.ids (head_within c.at-node.result later now) in
    let place : c.loop-k.place * c.loop-k.choices + c.place.result ≡ c.loop-k.place * length c.loop-k.left + index_in c.loop-k.left c.at-node.result =
    ap₂ (λ (m i : ℕ). c.loop-k.place * m + i) c.loop-k.invariant.choices is in
    record {
      ranked = as_now g.row.N c.args.set.now c.args.path.now c.cut.new.self (without_id c.loop-k.left c.at-node.result) later
          (c.loop-k.place * c.loop-k.choices + c.place.result) (c.loop-k.place * length c.loop-k.left + index_in c.loop-k.left c.at-node.result) left place
          (ranked_more c.at-node.result later now);
      choices = omega (arith, c.loop-k.invariant.choices, ap length left, length-without c.loop-k.left c.at-node.result now.distinct (head_within c.at-node.result later now));
    }
  where
    as_now : (n : ℕ) (s path left left' rest : List ℕ) (p p' : ℕ) → left ≡ left' → p ≡ p' → IsRanked n s path left' rest p' → IsRanked n s path left rest p
    as_now n s path left left' rest p p' l e h = subst (λ (x : List ℕ). IsRanked n s path x rest p) (sym l) (subst (λ (x : ℕ). IsRanked n s path left' rest x) (sym e) h)

pub returns-clause-in_range : goal.returns-clause-in_range
returns-clause-in_range g c =
    let gone : drop c.loop-k.k c.args.path.now ≡ [] = drop_all c.loop-k.k c.args.path.now (omega (arith, c.loop-k-test.false, c.len-k-end.ensures.count)) in
    let end : IsRanked g.row.N c.args.set.now c.args.path.now c.loop-k.left [] c.loop-k.place =
    subst (λ (xs : List ℕ). IsRanked g.row.N c.args.set.now c.args.path.now c.loop-k.left xs c.loop-k.place) gone c.loop-k.invariant.ranked in
    omega (arith, ranked_end end, place-lt c.args.set.now c.args.path.now (Distinct-ids g.row.N c.args.set.now c.len-choices.ensures.ids) c.len-k-end.ensures.distinct c.requires.within)
