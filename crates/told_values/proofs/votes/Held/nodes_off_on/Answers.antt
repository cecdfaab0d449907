use Rattle.std.proofs.Common.{◌≡◌, ◌<◌, List, length, get_or, arith, ap, subst, sym, ◌∙◌, refl, lit<, inl, inr}
use Rattle.node_grid.specs.Capacity.{IsCapacity}
use Rattle.mme_vote.specs.declared.channel.Channel.{Channel}
use Rattle.protocol.specs.Configured.{setting_of}
use Rattle.protocol.specs.View.{channel, no_channel}
use Rattle.told_values.proofs.Deviating.{off_where_far, none_off_unjudged}
use Rattle.std.proofs.lemmas.List.{get_or_default}
use Rattle.told_values.proofs.votes.Held.nodes_off_on.Goals as goal

pub deref-requires : goal.deref-requires
deref-requires g c = elim g.bound-1.eight_or_sixteen [ inl e ↦ rw e (lit< tt) | inr e ↦ rw e (lit< tt) ]

pub bounds-deref-c : goal.bounds-deref-c
bounds-deref-c g c = subst (λ (xs : List (Channel g.row.N)). c.args.c < length xs) (sym c.deref.ensures.0) c.requires

pub offset_bounds-deref-c : goal.offset_bounds-deref-c
offset_bounds-deref-c g c = let low : c.args.c < length c.deref.result.now = bounds-deref-c g c in omega arith

pub bounds-self-c : goal.bounds-self-c
bounds-self-c g c = let low = c.requires in let few = c.args.self.now.few_channels in omega arith

pub offset_bounds-self-c : goal.offset_bounds-self-c
offset_bounds-self-c g c = let low = c.requires in let few = c.args.self.now.few_channels in omega arith

pub overflow_cast-channel : goal.overflow_cast-channel
overflow_cast-channel g c = let low = c.requires in let few = c.args.self.now.few_channels in omega arith

pub nodes_far-requires : goal.nodes_far-requires
nodes_far-requires g c =
    let low = c.requires in
    let few = c.args.self.now.few_channels in
    let cap : IsCapacity g.row.N = g.bound-1.eight_or_sixteen in
    let number : c.args.c < 8 = omega arith in
    (lit< tt, (elim cap [ inl e ↦ rw e (lit< tt) | inr e ↦ rw e (lit< tt) ], (lit< tt, number)))

pub returns-then-is_judged : goal.returns-then-is_judged
returns-then-is_judged g c =
    let items : List (Channel g.row.N) = c.args.self.now.config.now.channels.items in
    let there : c.index-deref-c.result ≡ channel (setting_of c.args.self.now.config.now) c.args.c =
    c.index-deref-c.is ∙ ap (λ (xs : List (Channel g.row.N)). get_or xs c.args.c c.index-deref-c.result) c.deref.ensures.0 ∙ get_or_default items c.args.c c.index-deref-c.result no_channel c.requires in
    c.nodes_far.ensures
    ∙ off_where_far c.args.self.now.config.now c.args.self.now.told.now c.args.self.now.votes.now c.args.c c.index-deref-c.result there _ _ (sym c.is_judged.ensures ∙ c.if-is_judged.true) refl refl

pub returns-else-is_judged : goal.returns-else-is_judged
returns-else-is_judged g c =
    let items : List (Channel g.row.N) = c.args.self.now.config.now.channels.items in
    let there : c.index-deref-c.result ≡ channel (setting_of c.args.self.now.config.now) c.args.c =
    c.index-deref-c.is ∙ ap (λ (xs : List (Channel g.row.N)). get_or xs c.args.c c.index-deref-c.result) c.deref.ensures.0 ∙ get_or_default items c.args.c c.index-deref-c.result no_channel c.requires in
    c.empty.ensures ∙ none_off_unjudged c.args.self.now.config.now c.args.self.now.told.now c.args.self.now.votes.now c.args.c c.index-deref-c.result there (sym c.is_judged.ensures ∙ c.if-is_judged.false)
