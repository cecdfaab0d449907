use Rattle.std.proofs.Common.{ℕ, ◌≡◌, ◌<◌, ◌++◌, ◌∷◌, [], true, length, set, refl, ◌∙◌, arith, List, ap}
use Rattle.std.proofs.lemmas.List.{length-set}
use Rattle.node_grid.specs.NodeSet.{has_id}
use Rattle.node_grid.specs.ListFacts.{split_more, split_all}
use Rattle.node_grid.specs.SetFacts.{low_of}
use Rattle.odd_relays.specs.Telling.{telling}
use Rattle.odd_relays.proofs.Laying.{through, gone_through}
use Rattle.odd_relays.proofs.Leading.{leader_within, leaders_within, led_more}
use Rattle.odd_relays.proofs.item.Item.find_leaders.Goals as goal

pub put-requires : goal.put-requires
put-requires g c =
    let i = c.loop-i.invariant in
    let on = leader_within c.loop-i.leaders c.loop-i.yielded c.in-Some.i c.find_leader-leader.result i.within c.find_leader-leader.ensures.among in
    (omega arith, through g.row.N c.args.nodes.now (c.loop-i.yielded ++ c.in-Some.i ∷ []) c.next.new.self c.find_leader-leader.result c.iter-i-items.ensures.ids (split_more c.args.nodes.now c.loop-i.yielded c.next.new.self c.loop-i.i-iterator c.in-Some.i i.split c.in-Some.ensures.steps) on)

pub loop-i-preserved : goal.loop-i-preserved
loop-i-preserved g c =
    let i = c.loop-i.invariant in
    let q : ℕ = c.in-Some.i in
    let t = telling g.S.Relays.says c.args.self.now in
    let n : ℕ = g.row.N in
    let x : ℕ = c.find_leader-leader.result in
    let split = split_more c.args.nodes.now c.loop-i.yielded c.next.new.self c.loop-i.i-iterator q i.split c.in-Some.ensures.steps in
    let l = low_of g.row.N c.args.nodes.now c.loop-i.yielded c.next.new.self c.loop-i.i-iterator c.in-Some.i c.iter-i-items.ensures.ids i.split c.in-Some.ensures.steps in
    let low : (j : ℕ) → has_id c.loop-i.leaders j ≡ true → j < n = λ j on. through n c.args.nodes.now c.loop-i.yielded c.loop-i.i-iterator j c.iter-i-items.ensures.ids i.split (i.within j on) in
    let here : x < n = through n c.args.nodes.now (c.loop-i.yielded ++ q ∷ []) c.next.new.self x c.iter-i-items.ensures.ids split (leader_within c.loop-i.leaders c.loop-i.yielded q x i.within c.find_leader-leader.ensures.among) in
    let fits : q < length c.loop-i.leader_of = omega (arith, l, i.places) in
    record {
      can = tt;
      ends = tt;
      split = split;
      places = length-set c.loop-i.leader_of q x ∙ i.places;
      within = leaders_within n c.loop-i.leaders c.put.new.self c.loop-i.yielded q x i.within c.find_leader-leader.ensures.among c.put.ensures;
      led = led_more t n c.loop-i.leaders c.put.new.self x c.put.ensures low c.loop-i.yielded c.loop-i.leader_of (set c.loop-i.leader_of q x) q i.led fits refl here c.find_leader-leader.ensures.alike;
    }

pub returns-clause-led : goal.returns-clause-led
returns-clause-led g c = λ k on.
    let i = c.loop-i.invariant in
    i.led k (gone_through c.args.nodes.now c.loop-i.yielded c.loop-i.i-iterator k i.split c.in-None.ensures.steps.0 on)

pub returns-clause-places : goal.returns-clause-places
returns-clause-places g c = c.loop-i.invariant.places

pub returns-clause-within : goal.returns-clause-within
returns-clause-within g c = λ j on.
    let i = c.loop-i.invariant in
    let all = split_all c.args.nodes.now c.loop-i.yielded c.loop-i.i-iterator i.split c.in-None.ensures.steps.0 in
    ap (λ (s : List ℕ). has_id s j) all ∙ i.within j on
