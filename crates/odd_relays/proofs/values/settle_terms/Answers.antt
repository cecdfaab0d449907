use Rattle.std.proofs.Common.{ℕ, ◌≡◌, ◌+◌, ◌-◌, ◌*◌, ◌<◌, length, take, drop, ap, ◌∙◌, arith}
use Rattle.std.proofs.lemmas.List.{length-set, drop-set-lt}
use Rattle.node_grid.specs.ListFacts.{split_more}
use Rattle.node_grid.specs.SetFacts.{low_of}
use Rattle.omh_paths.specs.declared.wrapped.Wrapped.TheVariants.{Fault}
use Rattle.omh_paths.specs.Wrapped.{unwrapped}
use Rattle.omh_paths.specs.Majority.{majority}
use Rattle.odd_relays.proofs.Laying.{gone_through}
use Rattle.odd_relays.proofs.Places.{laid_at, values_apart, kept_below, same_row}
use Rattle.odd_relays.proofs.values.settle_terms.Goals as goal

pub settled_from_terms-settled-requires : goal.settled_from_terms-settled-requires
settled_from_terms-settled-requires g c =
    let i = c.loop-i.invariant in
    let l = low_of g.row.N c.args.nodes.now c.loop-i.yielded c.next.new.self c.loop-i.i-iterator c.in-Some.i c.iter-i-items.ensures.ids i.split c.in-Some.ensures.steps in
    record { ordered = omega arith; within = omega (arith, l, i.long, c.requires.room, c.requires.few) }

pub set_value-requires : goal.set_value-requires
set_value-requires g c =
    let i = c.loop-i.invariant in
    let l = low_of g.row.N c.args.nodes.now c.loop-i.yielded c.next.new.self c.loop-i.i-iterator c.in-Some.i c.iter-i-items.ensures.ids i.split c.in-Some.ensures.steps in
    omega (arith, l, i.long, c.requires.room)

pub loop-i-preserved : goal.loop-i-preserved
loop-i-preserved g c =
    let i = c.loop-i.invariant in
    let q : ℕ = c.in-Some.i in
    let from : ℕ = c.args.from in
    let place = λ (k : ℕ). from + k in
    let apart = values_apart from in
    let l = low_of g.row.N c.args.nodes.now c.loop-i.yielded c.next.new.self c.loop-i.i-iterator c.in-Some.i c.iter-i-items.ensures.ids i.split c.in-Some.ensures.steps in
    let fits : from + q < length c.loop-i.work = omega (arith, l, i.long, c.requires.room) in
    let few : from + 16 + 16 * q + c.args.count - (from + 16 + 16 * q) ≡ c.args.count = omega arith in
    record {
      can = tt;
      ends = tt;
      split = split_more c.args.nodes.now c.loop-i.yielded c.next.new.self c.loop-i.i-iterator c.in-Some.i i.split c.in-Some.ensures.steps;
      long = ap length c.set_value.ensures ∙ length-set c.loop-i.work (from + q) c.settled_from_terms-settled.result ∙ i.long;
      rows = ap (drop (from + 16)) c.set_value.ensures ∙ drop-set-lt (from + 16) c.loop-i.work (from + q) c.settled_from_terms-settled.result (omega (arith, l, c.requires.nodes)) ∙ i.rows;
      settled = laid_at (Fault 0) place apart (λ k. unwrapped (majority g.V.PartialEq.eq (take c.args.count (drop (from + 16 + 16 * k) c.args.work.now)))) c.loop-i.yielded q c.loop-i.work c.set_value.new.values c.settled_from_terms-settled.result
          i.settled fits c.set_value.ensures
          (c.settled_from_terms-settled.ensures
          ∙ ap (λ k. unwrapped (majority g.V.PartialEq.eq (take k (drop (from + 16 + 16 * q) c.loop-i.work)))) few
          ∙ ap (λ ts. unwrapped (majority g.V.PartialEq.eq ts)) (same_row (from + 16) (16 * q) c.args.count c.loop-i.work c.args.work.now i.rows));
      kept = kept_below (Fault 0) from (from + q) c.args.work.now c.loop-i.work c.set_value.new.values c.settled_from_terms-settled.result i.kept (omega arith) c.set_value.ensures;
    }

pub returns-clause-settled : goal.returns-clause-settled
returns-clause-settled g c = λ k on.
    let i = c.loop-i.invariant in
    i.settled k (gone_through c.args.nodes.now c.loop-i.yielded c.loop-i.i-iterator k i.split c.in-None.ensures.steps.0 on)

pub returns-clause-kept : goal.returns-clause-kept
returns-clause-kept g c = c.loop-i.invariant.kept

pub returns-clause-room : goal.returns-clause-room
returns-clause-room g c = c.loop-i.invariant.long

pub overflow_mul-first : goal.overflow_mul-first
overflow_mul-first g c = omega arith

pub overflow_add-first-in-loop-i : goal.overflow_add-first-in-loop-i
overflow_add-first-in-loop-i g c =
    let i = c.loop-i.invariant in
    let l = low_of g.row.N c.args.nodes.now c.loop-i.yielded c.next.new.self c.loop-i.i-iterator c.in-Some.i c.iter-i-items.ensures.ids i.split c.in-Some.ensures.steps in
    omega (arith, l, c.requires.room)

pub overflow_add-first-in-loop-i-2 : goal.overflow_add-first-in-loop-i-2
overflow_add-first-in-loop-i-2 g c =
    let i = c.loop-i.invariant in
    let l = low_of g.row.N c.args.nodes.now c.loop-i.yielded c.next.new.self c.loop-i.i-iterator c.in-Some.i c.iter-i-items.ensures.ids i.split c.in-Some.ensures.steps in
    omega (arith, l, c.requires.room)

pub overflow_add-from : goal.overflow_add-from
overflow_add-from g c =
    let i = c.loop-i.invariant in
    let l = low_of g.row.N c.args.nodes.now c.loop-i.yielded c.next.new.self c.loop-i.i-iterator c.in-Some.i c.iter-i-items.ensures.ids i.split c.in-Some.ensures.steps in
    omega (arith, l, c.requires.room)

pub overflow_add-first : goal.overflow_add-first
overflow_add-first g c =
    let i = c.loop-i.invariant in
    let l = low_of g.row.N c.args.nodes.now c.loop-i.yielded c.next.new.self c.loop-i.i-iterator c.in-Some.i c.iter-i-items.ensures.ids i.split c.in-Some.ensures.steps in
    omega (arith, l, c.requires.room, c.requires.few)
