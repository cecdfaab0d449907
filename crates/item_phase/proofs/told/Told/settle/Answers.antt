use Rattle.std.proofs.Common.{ℕ, ◌≡◌, ◌<◌, List, Option, inl, inr, arith, lit<, sym, ap, ap₂, ◌∙◌}
use Rattle.node_grid.specs.NodeSet.{has_id}
use Rattle.node_grid.specs.SetFacts.{member-lt}
use Rattle.omh_paths.specs.declared.wrapped.Wrapped.{Wrapped}
use Rattle.settled_paths.specs.declared.exchange.Exchange.{Exchange}
use Rattle.settled_paths.specs.Rooms.{Room}
use Rattle.heard_links.specs.declared.links.Links.{Links}
use Rattle.heard_links.specs.declared.phase.Phase.{Phase}
use Rattle.heard_links.specs.Passing.{says_of}
use Rattle.heard_links.proofs.Sets.{node_low}
use Rattle.item_phase.proofs.Sharing.{relayed_as, relayed_here, settles_told}
use Rattle.item_phase.proofs.told.Told.settle.Goals as goal

pub own-own-requires : goal.own-own-requires
own-own-requires g c =
    let a = c.args.self.now in
    let t = c.requires.told in (
      lit< tt,
      (
        elim t.heard.set.capacity [ inl e ↦ rw e (lit< tt) | inr e ↦ rw e (lit< tt) ],
        node_low a.phase.now t.heard.set a.commander (member-lt a.phase.now.config.now.nodes a.members.now a.commander t.all.ids t.member),
      ),
    )

pub settle_all-requires : goal.settle_all-requires
settle_all-requires g c =
    let a = c.args.self.now in
    let x = a.phase.now in
    let t = c.requires.told in
    let ear = c.listen-ear.result in
    let heard = c.listen-ear.ensures in
    let said : ℕ → List ℕ → Option (Wrapped g.row.V.Denot) = says_of g.V.Item.form ear.1 ear.0 in
    let said_is : said ≡ says_of g.V.Item.form x a.links.now = ap₂ (λ (l : Links g.row.V.Denot g.row.N) (p : Phase g.row.N). says_of g.V.Item.form p l) heard.links heard.phase in
    let r =
    relayed_as g.V.PartialEq.eq g.V.Item.form x a.links.now a.members.now t.heard.set t.all a.commander t.member heard.even heard.small c.exchange.result a.odd.now c.own-own.result said t.odd_are
    c.exchange.ensures c.own-own.ensures said_is in
    let nodes_are = ap (λ (s : Room). s.nodes) c.requires.room in (
      lit< tt,
      (
        lit< tt,
        (
          relayed_here _ _ t.heard.set.capacity r,
          (
            ap (λ (y : Exchange g.row.N). y.rounds) c.exchange.ensures ∙ sym (ap (λ (s : Room). s.rounds) c.requires.room),
            (
              λ q on.
                  let low : q < x.config.now.nodes = member-lt x.config.now.nodes a.members.now q t.all.ids (sym (ap (λ (y : Exchange g.row.N). has_id y.members q) c.exchange.ensures) ∙ on) in
                  omega arith,
              c.requires.places,
            ),
          ),
        ),
      ),
    )

pub returns-clause-settled : goal.returns-clause-settled
returns-clause-settled g c = λ i on ne.
    let a = c.args.self.now in
    let x = a.phase.now in
    let t = c.requires.told in
    let ear = c.listen-ear.result in
    let heard = c.listen-ear.ensures in
    let said : ℕ → List ℕ → Option (Wrapped g.row.V.Denot) = says_of g.V.Item.form ear.1 ear.0 in
    let said_is : said ≡ says_of g.V.Item.form x a.links.now = ap₂ (λ (l : Links g.row.V.Denot g.row.N) (p : Phase g.row.N). says_of g.V.Item.form p l) heard.links heard.phase in
    settles_told g.V.PartialEq.eq g.V.Item.form x a.links.now a.members.now t.all a.commander t.member heard.passed_on c.exchange.result c.own-own.result said
    c.exchange.ensures c.own-own.ensures said_is c.settle_all.new.all c.settle_all.ensures.settled i on ne
