use Rattle.std.proofs.Common.{ℕ, ◌+◌, ◌<◌, length, ap, ◌∙◌, arith}
use Rattle.std.proofs.lemmas.List.{length-set}
use Rattle.node_grid.specs.ListFacts.{split_more}
use Rattle.node_grid.specs.SetFacts.{low_of}
use Rattle.omh_paths.specs.declared.wrapped.Wrapped.TheVariants.{Fault}
use Rattle.odd_relays.specs.Telling.{telling}
use Rattle.odd_relays.specs.Direct.{direct_heard}
use Rattle.odd_relays.proofs.Laying.{gone_through}
use Rattle.odd_relays.proofs.Places.{laid_at, values_apart, kept_below}
use Rattle.odd_relays.proofs.item.Item.lay_heard.Goals as goal

pub heard-heard-requires : goal.heard-heard-requires
heard-heard-requires g c =
    let i = c.loop-i.invariant in
    let l = low_of g.row.N c.args.receivers.now c.loop-i.yielded c.next.new.self c.loop-i.i-iterator c.in-Some.i c.iter-i-items.ensures.ids i.split c.in-Some.ensures.steps in
    (omega arith, l)

pub set_value-requires : goal.set_value-requires
set_value-requires g c =
    let i = c.loop-i.invariant in
    let l = low_of g.row.N c.args.receivers.now c.loop-i.yielded c.next.new.self c.loop-i.i-iterator c.in-Some.i c.iter-i-items.ensures.ids i.split c.in-Some.ensures.steps in
    omega (arith, l, c.args.self.now.fits, i.long, c.requires)

pub loop-i-preserved : goal.loop-i-preserved
loop-i-preserved g c =
    let i = c.loop-i.invariant in
    let q : ℕ = c.in-Some.i in
    let from : ℕ = c.args.from in
    let place = λ (k : ℕ). from + k in
    let l = low_of g.row.N c.args.receivers.now c.loop-i.yielded c.next.new.self c.loop-i.i-iterator c.in-Some.i c.iter-i-items.ensures.ids i.split c.in-Some.ensures.steps in
    let fits : from + q < length c.loop-i.work = omega (arith, l, c.args.self.now.fits, i.long, c.requires) in
    record {
      can = tt;
      ends = tt;
      split = split_more c.args.receivers.now c.loop-i.yielded c.next.new.self c.loop-i.i-iterator q i.split c.in-Some.ensures.steps;
      long = ap length c.set_value.ensures ∙ length-set c.loop-i.work (from + q) c.heard-heard.result ∙ i.long;
      laid = laid_at (Fault 0) place (values_apart from) (λ k. direct_heard (telling g.S.Relays.says c.args.self.now) k c.args.path.now) c.loop-i.yielded q c.loop-i.work c.set_value.new.values c.heard-heard.result
          i.laid fits c.set_value.ensures c.heard-heard.ensures.heard;
      kept = kept_below (Fault 0) from (from + q) c.args.work.now c.loop-i.work c.set_value.new.values c.heard-heard.result i.kept (omega arith) c.set_value.ensures;
    }

pub returns-clause-laid : goal.returns-clause-laid
returns-clause-laid g c = λ k on.
    let i = c.loop-i.invariant in
    i.laid k (gone_through c.args.receivers.now c.loop-i.yielded c.loop-i.i-iterator k i.split c.in-None.ensures.steps.0 on)

pub returns-clause-kept : goal.returns-clause-kept
returns-clause-kept g c = c.loop-i.invariant.kept

pub returns-clause-room : goal.returns-clause-room
returns-clause-room g c = c.loop-i.invariant.long

pub overflow_add-from : goal.overflow_add-from
overflow_add-from g c =
    let i = c.loop-i.invariant in
    let l = low_of g.row.N c.args.receivers.now c.loop-i.yielded c.next.new.self c.loop-i.i-iterator c.in-Some.i c.iter-i-items.ensures.ids i.split c.in-Some.ensures.steps in
    omega (arith, l, c.args.self.now.fits, c.requires)
