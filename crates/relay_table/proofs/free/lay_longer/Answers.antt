use Rattle.std.proofs.Common.{ℕ, lit<, ◌≡◌, ◌<◌, ◌≤◌, ◌+◌, List, [], length, get_or, sym, ap, ap₂, ◌∙◌, arith}
use Rattle.std.proofs.lemmas.List.{length-map, length-append, get_or_default}
use Rattle.node_grid.specs.NodeSet.{without_id}
use Rattle.path_order.specs.Order.{each_left_out}
use Rattle.relay_walk.specs.Laid.{laid}
use Rattle.relay_walk.specs.LaidLaws.{laid_none, laid_twice, laid_before}
use Rattle.relay_table.proofs.Frees.{left_before, left_none, left_more, left_fits, left_all}
use Rattle.relay_table.proofs.free.lay_longer.Goals as goal

-- the sets in front stay as they are
set_is : (until k : ℕ) (before old now : List (List ℕ)) (set : List ℕ) → set ≡ get_or now k set → now ≡ laid until before old → k < until → until ≤ length old → set ≡ get_or old k []
set_is until k before old now set read is low room =
    read ∙ ap (λ xs. get_or xs k set) is ∙ laid_before until before old k set low room ∙ get_or_default old k set [] (omega arith)

pub loop-k-init : goal.loop-k-init
loop-k-init g c =
    let none = left_none c.args.from c.args.until c.args.sets.now in
    record {
      sets = sym (ap (λ xs. laid c.args.until xs c.args.sets.now) none ∙ laid_none c.args.until c.args.sets.now);
      end = let e = ap (λ xs. length xs) none in omega arith;
    }

pub lay_each_left_out-end-requires : goal.lay_each_left_out-end-requires
lay_each_left_out-end-requires g c =
    let old = c.args.sets.now in
    let before = left_before c.args.from c.args.until c.loop-k.k old in
    let set : c.index-sets-k.result ≡ get_or old c.loop-k.k [] =
    set_is c.args.until c.loop-k.k before old c.loop-k.sets c.index-sets-k.result c.index-sets-k.is c.loop-k.invariant.sets c.loop-k-test.true (omega (arith, c.requires.room)) in
    let fits = left_fits c.args.from c.args.until c.loop-k.k old c.loop-k.auto.k c.loop-k-test.true (omega (arith, c.requires.room)) in
    (lit< tt, omega (arith, fits, ap (λ xs. length xs) set, c.loop-k.invariant.end, c.loop-k.auto.sets, c.requires.room))

pub loop-k-preserved : goal.loop-k-preserved
loop-k-preserved g c =
    let old = c.args.sets.now in
    let until = c.args.until in
    let i = c.loop-k.invariant in
    let before = left_before c.args.from until c.loop-k.k old in
    let here = get_or old c.loop-k.k [] in
    let within : until ≤ length old = omega (arith, c.requires.room) in
    let set : c.index-sets-k.result ≡ here = set_is until c.loop-k.k before old c.loop-k.sets c.index-sets-k.result c.index-sets-k.is i.sets c.loop-k-test.true within in
    let fits = left_fits c.args.from until c.loop-k.k old c.loop-k.auto.k c.loop-k-test.true within in
    let more = left_more c.args.from until c.loop-k.k old c.loop-k.auto.k c.loop-k-test.true within in
    let long = length-map here (without_id here) in
    record {
      sets =
          c.lay_each_left_out-end.ensures.sets
          ∙ ap₂ (λ (e : ℕ) (s : List ℕ). laid e (each_left_out s) c.loop-k.sets) i.end set
          ∙ ap (λ xs. laid (until + length before) (each_left_out here) xs) i.sets
          ∙ laid_twice until before (each_left_out here) old (omega (arith, fits, long, c.requires.room))
          ∙ ap (λ xs. laid until xs old) more;
      end = omega (arith, c.lay_each_left_out-end.ensures.behind, i.end, ap (λ xs. length xs) set, long, ap (λ xs. length xs) more, length-append before (each_left_out here));
    }

pub returns : goal.returns
returns g c =
    let old = c.args.sets.now in
    let i = c.loop-k.invariant in
    let past : c.loop-k.k ≡ c.args.until = omega (arith, c.loop-k-test.false, c.loop-k.auto.k-end c.requires.order) in
    let all = ap (λ k. left_before c.args.from c.args.until k old) past ∙ left_all c.args.from c.args.until old in
    record {
      sets = i.sets ∙ ap (λ xs. laid c.args.until xs old) all;
      behind = i.end ∙ ap (λ xs. c.args.until + length xs) all;
    }
