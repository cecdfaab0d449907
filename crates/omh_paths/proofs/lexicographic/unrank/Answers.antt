use Rattle.std.proofs.Common.{◌≡◌, ◌<◌, ◌-◌, ◌+◌, ◌*◌, ◌/◌, ◌%◌, ◌++◌, ◌∷◌, ℕ, List, [], length, get_or, set, take, drop, replicate, refl, sym, ap, ◌∙◌, subst, arith}
use Rattle.std.proofs.lemmas.List.{take_more_set, length-set, drop-set-lt}
use Rattle.node_grid.specs.NodeSet.{has_id, without_id}
use Rattle.omh_paths.specs.Facts.{paths_is}
use Rattle.omh_paths.specs.Paths.{path_count, path_at, paths_of_length, IsListed}
use Rattle.omh_paths.specs.PathLists.{length-without, has-at, IsListed-at}
use Rattle.omh_paths.specs.Layout.{zeros_after}
use Rattle.omh_paths.proofs.Ranks.{IsUnranked, unranked_start, unranked_at, unranked_more, unranked_end, distinct_end, first_place}
use Rattle.node_grid.specs.CapacityLaws.{capacity-le}
use Rattle.omh_paths.specs.MemberLaws.{Distinct-ids}
use Rattle.omh_paths.proofs.lexicographic.unrank.Goals as goal

pub loop-k-init : goal.loop-k-init
loop-k-init g c = record {
  unranked = unranked_start g.row.N c.args.set.now c.args.len c.args.index (capacity-le g.row.N g.bound-1.eight_or_sixteen) c.len-choices.ensures.ids c.requires.in_range;
  choices = c.len-choices.ensures.count;
  whole = refl;
  zeros = refl;
}

pub overflow_sub-choices : goal.overflow_sub-choices
overflow_sub-choices g c =
    let now = unranked_at c.loop-k.k c.loop-k.invariant.unranked c.loop-k-test.true in
    let place = first_place (c.args.len - c.loop-k.k - 1) now in
    omega (arith, c.loop-k.invariant.choices, place)

pub split_place-node-requires : goal.split_place-node-requires
split_place-node-requires g c =
    let now = unranked_at c.loop-k.k c.loop-k.invariant.unranked c.loop-k-test.true in
    let behind = paths_is c.count_paths-behind.result c.loop-k.choices (length c.loop-k.left) (c.args.len - c.loop-k.k - 1) c.count_paths-behind.ensures.product c.loop-k.invariant.choices in
    (omega arith, subst (λ (w : ℕ). c.loop-k.rest < length c.loop-k.left * w) (sym behind) now.in_range)

pub cut-requires : goal.cut-requires
cut-requires g c =
    let now = unranked_at c.loop-k.k c.loop-k.invariant.unranked c.loop-k-test.true in
    let behind = paths_is c.count_paths-behind.result c.loop-k.choices (length c.loop-k.left) (c.args.len - c.loop-k.k - 1) c.count_paths-behind.ensures.product c.loop-k.invariant.choices in
    let w : ℕ = path_count (length c.loop-k.left - 1) (c.args.len - c.loop-k.k - 1) in
    let node : c.split_place-node.result.0 ≡ get_or c.loop-k.left (c.loop-k.rest / w) 0 = c.split_place-node.ensures.node ∙ ap (λ (x : ℕ). get_or c.loop-k.left (c.loop-k.rest / x) 0) behind in
    (omega arith, now.low c.split_place-node.result.0 (ap (has_id c.loop-k.left) node ∙ has-at c.loop-k.left (c.loop-k.rest / w) 0 (first_place (c.args.len - c.loop-k.k - 1) now)))

pub loop-k-preserved : goal.loop-k-preserved
loop-k-preserved g c =
    let r : ℕ = c.args.len - c.loop-k.k - 1 in
    let now = unranked_at c.loop-k.k c.loop-k.invariant.unranked c.loop-k-test.true in
    let behind = paths_is c.count_paths-behind.result c.loop-k.choices (length c.loop-k.left) r c.count_paths-behind.ensures.product c.loop-k.invariant.choices in
    let w : ℕ = path_count (length c.loop-k.left - 1) r in
    let q : ℕ = c.split_place-node.result.0 in
    let node : q ≡ get_or c.loop-k.left (c.loop-k.rest / w) 0 = c.split_place-node.ensures.node ∙ ap (λ (x : ℕ). get_or c.loop-k.left (c.loop-k.rest / x) 0) behind in
    let here : c.loop-k.k < length c.loop-k.nodes = omega (arith, c.loop-k.invariant.whole, c.loop-k-test.true, c.requires.few) in
    let on = ap (has_id c.loop-k.left) node ∙ has-at c.loop-k.left (c.loop-k.rest / w) 0 (first_place r now) in
    let short : r ≡ c.args.len - (c.loop-k.k + 1) = omega arith in
    record {
      unranked = as_now g.row.N c.args.set.now c.args.len c.args.index
          (take (c.loop-k.k + 1) (set c.loop-k.nodes c.loop-k.k q)) (take c.loop-k.k c.loop-k.nodes ++ q ∷ []) c.cut.new.self (without_id c.loop-k.left q)
          (c.args.len - (c.loop-k.k + 1)) r c.split_place-node.result.1 (c.loop-k.rest % w)
          (take_more_set c.loop-k.nodes c.loop-k.k q here) c.cut.ensures (sym short) (c.split_place-node.ensures.rest ∙ ap (λ (x : ℕ). c.loop-k.rest % x) behind) (unranked_more r q now node);
      choices = omega (arith, c.loop-k.invariant.choices, ap length c.cut.ensures, length-without c.loop-k.left q now.distinct on);
      whole = length-set c.loop-k.nodes c.loop-k.k q ∙ c.loop-k.invariant.whole;
      zeros = drop-set-lt (c.loop-k.k + 1) c.loop-k.nodes c.loop-k.k q (omega arith) ∙ zeros_after c.loop-k.k c.loop-k.nodes here c.loop-k.invariant.zeros (omega (arith, c.loop-k-test.true, c.requires.few));
    }
  where
    as_now : (n : ℕ) (s : List ℕ) (len index : ℕ) (front front' left left' : List ℕ) (r r' rest rest' : ℕ) → front ≡ front' → left ≡ left' → r ≡ r' → rest ≡ rest'
        → IsUnranked n s len index front' left' r' rest' → IsUnranked n s len index front left r rest
    as_now n s len index front front' left left' r r' rest rest' a b c d h =
        subst (λ (x : List ℕ). IsUnranked n s len index x left r rest) (sym a)
        (subst (λ (x : List ℕ). IsUnranked n s len index front' x r rest) (sym b)
        (subst (λ (x : ℕ). IsUnranked n s len index front' left' x rest) (sym c)
        (subst (λ (x : ℕ). IsUnranked n s len index front' left' r' x) (sym d) h)))

pub from_nodes-requires : goal.from_nodes-requires
from_nodes-requires g c =
    let done : c.loop-k.k ≡ c.args.len = omega (arith, c.loop-k-test.false, c.loop-k.auto.k-end) in
    let none : c.args.len - c.loop-k.k ≡ 0 = omega arith in
    let end : IsUnranked g.row.N c.args.set.now c.args.len c.args.index (take c.args.len c.loop-k.nodes) c.loop-k.left 0 c.loop-k.rest =
    subst (λ (r : ℕ). IsUnranked g.row.N c.args.set.now c.args.len c.args.index (take c.args.len c.loop-k.nodes) c.loop-k.left r c.loop-k.rest) none
    (subst (λ (k : ℕ). IsUnranked g.row.N c.args.set.now c.args.len c.args.index (take k c.loop-k.nodes) c.loop-k.left (c.args.len - c.loop-k.k) c.loop-k.rest) done c.loop-k.invariant.unranked) in
    record {
      some = c.requires.some;
      few = c.requires.few;
      whole = c.loop-k.invariant.whole;
      rest = subst (λ (k : ℕ). drop k c.loop-k.nodes ≡ replicate (4 - k) 0) done c.loop-k.invariant.zeros;
      distinct = distinct_end g.row.N c.args.set.now c.args.len c.args.index (take c.args.len c.loop-k.nodes) c.len-choices.ensures.ids c.requires.in_range (unranked_end end);
    }

pub returns : goal.returns
returns g c =
    let done : c.loop-k.k ≡ c.args.len = omega (arith, c.loop-k-test.false, c.loop-k.auto.k-end) in
    let none : c.args.len - c.loop-k.k ≡ 0 = omega arith in
    let end : IsUnranked g.row.N c.args.set.now c.args.len c.args.index (take c.args.len c.loop-k.nodes) c.loop-k.left 0 c.loop-k.rest =
    subst (λ (r : ℕ). IsUnranked g.row.N c.args.set.now c.args.len c.args.index (take c.args.len c.loop-k.nodes) c.loop-k.left r c.loop-k.rest) none
    (subst (λ (k : ℕ). IsUnranked g.row.N c.args.set.now c.args.len c.args.index (take k c.loop-k.nodes) c.loop-k.left (c.args.len - c.loop-k.k) c.loop-k.rest) done c.loop-k.invariant.unranked) in
    let is : c.from_nodes.result ≡ path_at (paths_of_length c.args.set.now c.args.len) c.args.index = c.from_nodes.ensures ∙ unranked_end end in
    let listed : IsListed c.args.set.now c.args.len c.from_nodes.result =
    subst (IsListed c.args.set.now c.args.len) (sym is) (IsListed-at c.args.set.now c.args.len c.args.index (Distinct-ids g.row.N c.args.set.now c.len-choices.ensures.ids) c.requires.in_range) in
    record { path = is; long = listed.long; within = listed.within }
