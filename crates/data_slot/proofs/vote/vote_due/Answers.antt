use Rattle.std.proofs.Common.{ℕ, List, get_or, ap, ◌∙◌, arith, ◌<◌, length, lit<, inl, inr}
use Rattle.node_grid.specs.Capacity.{IsCapacity}
use Rattle.std.proofs.lemmas.List.{take_all}
use Rattle.mme_vote.specs.declared.channel.Channel.{Channel}
use Rattle.data_slot.specs.Values.{by_channel}
use Rattle.data_slot.specs.Votes.{vote_due}
use Rattle.data_slot.proofs.ByChannel.{by_none, by_more}
use Rattle.data_slot.proofs.vote.vote_due.Goals as goal

pub loop-k-init : goal.loop-k-init
loop-k-init g c = by_none (vote_due c.args.config.now c.args.agreed.now c.args.claims.now c.args.told.now)

pub loop-k-preserved : goal.loop-k-preserved
loop-k-preserved g c =
    let due : List ℕ = c.args.due.now in
    let items : List (Channel g.row.N) = c.args.config.now.channels.items in
    by_more due (vote_due c.args.config.now c.args.agreed.now c.args.claims.now c.args.told.now) c.loop-k.votes c.loop-k.k _ c.loop-k-test.true
    (λ n d l. let b : get_or due n d < length items = c.requires.channels n d l in let f = c.requires.config.few_channels in omega arith)
    c.vote_over.ensures c.loop-k.invariant

pub returns : goal.returns
returns g c = c.loop-k.invariant ∙ ap (λ (ds : List ℕ). by_channel ds (vote_due c.args.config.now c.args.agreed.now c.args.claims.now c.args.told.now)) (take_all c.loop-k.k c.args.due.now c.loop-k-test.false)

pub bounds-due-k : goal.bounds-due-k
bounds-due-k g c = c.loop-k-test.true

pub vote_over-requires : goal.vote_over-requires
vote_over-requires g c =
    let cap : IsCapacity g.row.N = g.bound-1.eight_or_sixteen in (
      elim cap [ inl e ↦ rw e (lit< tt) | inr e ↦ rw e (lit< tt) ],
      (
        elim cap [ inl e ↦ rw e (lit< tt) | inr e ↦ rw e (lit< tt) ],
        (
          elim cap [ inl e ↦ rw e (lit< tt) | inr e ↦ rw e (lit< tt) ],
          (
            elim cap [ inl e ↦ rw e (lit< tt) | inr e ↦ rw e (lit< tt) ],
            (c.requires.config, (c.requires.agreed, c.requires.channels c.loop-k.k 0 c.loop-k-test.true)),
          ),
        ),
      ),
    )

pub overflow_cast-votes : goal.overflow_cast-votes
overflow_cast-votes g c = let low = c.requires.channels c.loop-k.k 0 c.loop-k-test.true in let few = c.requires.config.few_channels in omega arith

pub offset_bounds-votes-c : goal.offset_bounds-votes-c
offset_bounds-votes-c g c = let low = c.requires.channels c.loop-k.k 0 c.loop-k-test.true in let few = c.requires.config.few_channels in omega arith

pub bounds-votes-c : goal.bounds-votes-c
bounds-votes-c g c = let low = c.requires.channels c.loop-k.k 0 c.loop-k-test.true in let few = c.requires.config.few_channels in omega arith

pub loop-k-smaller : goal.loop-k-smaller
loop-k-smaller g c = let t = c.loop-k-test.true in omega arith
