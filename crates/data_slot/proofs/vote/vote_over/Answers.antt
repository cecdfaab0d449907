use Rattle.std.proofs.Common.{ℕ, ◌<◌, List, length, get_or, subst, sym, ap, ◌∙◌, lit<, inl, inr, arith}
use Rattle.std.proofs.lemmas.List.{get_or_default}
use Rattle.node_grid.specs.Capacity.{IsCapacity}
use Rattle.mme_vote.specs.declared.channel.Channel.{Channel}
use Rattle.agreed_state.specs.Config.{IsChannel}
use Rattle.protocol.specs.View.{no_channel}
use Rattle.copy_vote.specs.Group.{group_vote_of}
use Rattle.data_slot.specs.Votes.{vote_over}
use Rattle.data_slot.proofs.Voting.{grouped}
use Rattle.data_slot.proofs.vote.vote_over.Goals as goal

pub passed_after-group-requires : goal.passed_after-group-requires
passed_after-group-requires g c =
    let channel = subst (λ (ch : Channel g.row.N). IsChannel c.args.config.now.nodes (length c.args.config.now.graph.tasks) ch)
    (ap (λ (xs : List (Channel g.row.N)). get_or xs c.args.c c.index-deref-c.result) (sym c.deref.ensures.0) ∙ sym c.index-deref-c.is ∙ c.in-Copy.is)
    (c.requires.config.channels c.args.c c.index-deref-c.result c.requires.channel) in
    let cap : IsCapacity g.row.N = g.bound-1.eight_or_sixteen in (
      elim cap [ inl e ↦ rw e (lit< tt) | inr e ↦ rw e (lit< tt) ],
      (
        elim cap [ inl e ↦ rw e (lit< tt) | inr e ↦ rw e (lit< tt) ],
        (
          elim cap [ inl e ↦ rw e (lit< tt) | inr e ↦ rw e (lit< tt) ],
          (lit< tt, (c.requires.config, (c.requires.agreed, channel.1.0))),
        ),
      ),
    )

pub group_vote-requires : goal.group_vote-requires
group_vote-requires g c =
    let cap : IsCapacity g.row.N = g.bound-1.eight_or_sixteen in
    (lit< tt, elim cap [ inl e ↦ rw e (lit< tt) | inr e ↦ rw e (lit< tt) ])

pub values_told-requires : goal.values_told-requires
values_told-requires g c =
    let cap : IsCapacity g.row.N = g.bound-1.eight_or_sixteen in (
      elim cap [ inl e ↦ rw e (lit< tt) | inr e ↦ rw e (lit< tt) ],
      (elim cap [ inl e ↦ rw e (lit< tt) | inr e ↦ rw e (lit< tt) ], let low = c.requires.channel in let few = c.requires.config.few_channels in omega arith),
    )

pub vote_among-requires : goal.vote_among-requires
vote_among-requires g c =
    let cap : IsCapacity g.row.N = g.bound-1.eight_or_sixteen in (
      elim cap [ inl e ↦ rw e (lit< tt) | inr e ↦ rw e (lit< tt) ],
      (lit< tt, let low = c.requires.channel in let few = c.requires.config.few_channels in omega arith),
    )

pub returns-in-Copy : goal.returns-in-Copy
returns-in-Copy g c =
    let n : ℕ = g.row.N in
    c.group_vote.ensures.vote ∙ ap (λ (group : List ℕ). group_vote_of group c.values_told.result c.in-Copy.lies) c.passed_after-group.ensures
    ∙ grouped c.values_told.result c.args.told.now _ n c.in-Copy.lies c.args.c c.values_told.ensures
    ∙ ap (λ (ch : Channel g.row.N). vote_over c.args.config.now c.args.agreed.now c.args.claims.now c.args.told.now ch c.args.c)
    (sym c.in-Copy.is ∙ c.index-deref-c.is ∙ ap (λ (xs : List (Channel g.row.N)). get_or xs c.args.c c.index-deref-c.result) c.deref.ensures.0 ∙ get_or_default c.args.config.now.channels.items c.args.c c.index-deref-c.result no_channel c.requires.channel)

pub deref-requires : goal.deref-requires
deref-requires g c = elim g.bound-1.eight_or_sixteen [ inl e ↦ rw e (lit< tt) | inr e ↦ rw e (lit< tt) ]

pub bounds-deref-c : goal.bounds-deref-c
bounds-deref-c g c = subst (λ (xs : List (Channel g.row.N)). c.args.c < length xs) (sym c.deref.ensures.0) c.requires.channel

pub offset_bounds-deref-c : goal.offset_bounds-deref-c
offset_bounds-deref-c g c = let low : c.args.c < length c.deref.result.now = bounds-deref-c g c in omega arith
