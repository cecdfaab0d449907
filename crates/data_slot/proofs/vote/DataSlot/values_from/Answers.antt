use Rattle.std.proofs.Common.{rules, ◌<◌, if◌then◌else◌, length, sym, ap, subst, ◌∙◌, arith, None, Some}
use Rattle.std.specs.Prelude.{option_map}
use Rattle.node_grid.specs.SetFacts.{member-lt, IsIdSet-wider}
use Rattle.frames.specs.Seen.{content}
use Rattle.protocol.specs.Arrival.{arrived, values_in}
use Rattle.protocol.specs.View.{value_in, own_in}
use Rattle.data_slot.proofs.Senders.{from_other, from_self}
use Rattle.data_slot.proofs.vote.DataSlot.values_from.Goals as goal

pub values_in_frame-requires : goal.values_in_frame-requires
values_in_frame-requires g c =
    (search rules, IsIdSet-wider (length c.args.config.now.channels.items) 8 c.args.self.now.due.now c.requires.config.few_channels c.requires.due)

pub returns-then-from-self : goal.returns-then-from-self
returns-then-from-self g c x on =
    let slot = c.args.self.now in
    let w = c.args.watch.now in
    c.values_in_frame.ensures x on
    ∙ ap (λ n. value_in slot.due.now (arrived values_in None (option_map (λ f. content n f.body) c.frame.result)) x) (sym c.requires.heard.nodes_are)
    ∙ ap (λ o. value_in slot.due.now (arrived values_in None o) x) c.frame.ensures.told
    ∙ from_other slot.me slot.full slot.due.now slot.own.now w c.args.from x c.if-from-self.true c.requires.heard.some_slot (subst (λ n. c.args.from < n) (sym c.requires.heard.nodes_are) c.requires.from) c.requires.heard.me_is

pub returns-then-self : goal.returns-then-self
returns-then-self g c x on =
    let slot = c.args.self.now in
    ap Some (c.own_by_channel.ensures x (let l = member-lt (length c.args.config.now.channels.items) slot.due.now x c.requires.due on in let f = c.requires.config.few_channels in omega arith))
    ∙ ap (λ b. if b then Some (own_in slot.own.now x) else None) (sym c.if-self.true)
    ∙ from_self slot.me slot.full slot.due.now slot.own.now c.args.watch.now c.args.from x c.if-from-self.false

pub returns-else-self : goal.returns-else-self
returns-else-self g c x on =
    let slot = c.args.self.now in
    ap (λ b. if b then Some (own_in slot.own.now x) else None) (sym c.if-self.false)
    ∙ from_self slot.me slot.full slot.due.now slot.own.now c.args.watch.now c.args.from x c.if-from-self.false
