use Rattle.std.proofs.Common.{ℕ, ◌≡◌, List, Option, inl, inr, lit<, ap₂}
use Rattle.node_grid.specs.SetFacts.{member-lt}
use Rattle.omh_paths.specs.declared.wrapped.Wrapped.{Wrapped}
use Rattle.heard_links.specs.declared.links.Links.{Links}
use Rattle.heard_links.specs.declared.phase.Phase.{Phase}
use Rattle.heard_links.specs.Passing.{says_of}
use Rattle.heard_links.proofs.Sets.{node_low}
use Rattle.item_phase.proofs.Sharing.{relayed_as, relayed_here, convicts_told}
use Rattle.item_phase.proofs.told.Told.convicting.Goals as goal

pub own-own-requires : goal.own-own-requires
own-own-requires g c =
    let a = c.args.self.now in
    let t = c.requires.told in (
      lit< tt,
      (
        elim t.heard.set.capacity [ inl e ↦ rw e (lit< tt) | inr e ↦ rw e (lit< tt) ],
        node_low a.phase.now t.heard.set a.commander (member-lt a.phase.now.config.now.nodes a.members.now a.commander t.all.ids t.member),
      ),
    )

pub convicting-requires : goal.convicting-requires
convicting-requires g c =
    let a = c.args.self.now in
    let x = a.phase.now in
    let t = c.requires.told in
    let ear = c.listen-ear.result in
    let heard = c.listen-ear.ensures in
    let said : ℕ → List ℕ → Option (Wrapped g.row.V.Denot) = says_of g.V.Item.form ear.1 ear.0 in
    let said_is : said ≡ says_of g.V.Item.form x a.links.now = ap₂ (λ (l : Links g.row.V.Denot g.row.N) (p : Phase g.row.N). says_of g.V.Item.form p l) heard.links heard.phase in
    let r =
    relayed_as g.V.PartialEq.eq g.V.Item.form x a.links.now a.members.now t.heard.set t.all a.commander t.member heard.even heard.small c.exchange.result a.odd.now c.own-own.result said t.odd_are
    c.exchange.ensures c.own-own.ensures said_is in (
      lit< tt,
      (
        lit< tt,
        (
          lit< tt,
          relayed_here _ _ t.heard.set.capacity r,
        ),
      ),
    )

pub returns-clause-convicts : goal.returns-clause-convicts
returns-clause-convicts g c = λ i on ne.
    let a = c.args.self.now in
    let x = a.phase.now in
    let t = c.requires.told in
    let ear = c.listen-ear.result in
    let heard = c.listen-ear.ensures in
    let said : ℕ → List ℕ → Option (Wrapped g.row.V.Denot) = says_of g.V.Item.form ear.1 ear.0 in
    let said_is : said ≡ says_of g.V.Item.form x a.links.now = ap₂ (λ (l : Links g.row.V.Denot g.row.N) (p : Phase g.row.N). says_of g.V.Item.form p l) heard.links heard.phase in
    convicts_told g.V.PartialEq.eq g.V.Item.form x a.links.now a.members.now t.all a.commander t.member heard.passed_on c.exchange.result c.own-own.result said
    c.exchange.ensures c.own-own.ensures said_is c.convicting.result c.convicting.ensures.convicts i on ne
