use Rattle.std.proofs.Common.{ℕ, ◌≡◌, sym, ◌∙◌, arith}
use Rattle.node_grid.specs.ListFacts.{split_more}
use Rattle.node_grid.specs.SetFacts.{low_of, each_more}
use Rattle.odd_relays.specs.Telling.{telling}
use Rattle.odd_relays.specs.Direct.{direct_heard}
use Rattle.odd_relays.proofs.Laying.{gone_through}
use Rattle.odd_relays.proofs.item.Item.have_heard.Goals as goal

pub heard-heard-requires : goal.heard-heard-requires
heard-heard-requires g c =
    let i = c.loop-k.invariant in
    let l = low_of g.row.N c.args.nodes.now c.loop-k.yielded c.next.new.self c.loop-k.k-iterator c.in-Some.k c.iter-k-items.ensures.ids i.split c.in-Some.ensures.steps in
    (omega arith, l)

pub loop-k-preserved : goal.loop-k-preserved
loop-k-preserved g c =
    let i = c.loop-k.invariant in
    record {
      can = tt;
      ends = tt;
      split = split_more c.args.nodes.now c.loop-k.yielded c.next.new.self c.loop-k.k-iterator c.in-Some.k i.split c.in-Some.ensures.steps;
      same = each_more (λ (k : ℕ). direct_heard (telling g.S.Relays.says c.args.self.now) k c.args.path.now ≡ c.args.value.now) c.loop-k.yielded c.in-Some.k i.same
          (sym c.heard-heard.ensures.heard ∙ c.are_one.ensures c.if-not-are_one.false);
    }

pub returns : goal.returns
returns g c = λ yes k on.
    let i = c.loop-k.invariant in
    i.same k (gone_through c.args.nodes.now c.loop-k.yielded c.loop-k.k-iterator k i.split c.in-None.ensures.steps.0 on)
