use Rattle.std.proofs.Common.{◌≡◌, ◌≢◌, List, true, ℕ, sym, ap, ◌∙◌, arith}
use Rattle.node_grid.specs.NodeSet.{has_id, without_id}
use Rattle.node_grid.specs.SetFacts.{off_rest, on_rest, member-lt}
use Rattle.omh_paths.specs.MemberLaws.{Distinct-ids}
use Rattle.omh_paths.specs.PathLists.{has-without-left}
use Rattle.settled_items.proofs.Relaying.{all_convict}
use Rattle.settled_items.proofs.relayed.Relayed.convict_told.Goals as goal

of_rest : (awake nodes : List ℕ) (c q : ℕ) → nodes ≡ without_id awake c → has_id nodes q ≡ true → (has_id awake q ≡ true) × (c ≢ q)
of_rest awake nodes c q is on =
    let p = has-without-left awake c q (ap (λ (s : List ℕ). has_id s q) (sym is) ∙ on) in
    (p.1, (λ e. p.0 (sym e)))

pub without-nodes-requires : goal.without-nodes-requires
without-nodes-requires g c = (omega arith, member-lt g.row.N c.args.self.now.exchange.members c.args.self.now.exchange.commander c.len.ensures.ids c.requires.item.member)

pub is_spared-requires : goal.is_spared-requires
is_spared-requires g c = (
  omega arith,
  (
    omega arith,
    (
      c.requires.item,
      ((λ i on ne. on_rest c.args.self.now.exchange.awake c.without-nodes.result c.args.self.now.exchange.commander i c.without-nodes.ensures on ne), c.requires.told),
    ),
  ),
)

pub convicting-requires : goal.convicting-requires
convicting-requires g c =
    let e = c.args.self.now.exchange in
    (omega arith, (omega arith, off_rest e.awake c.without-nodes.result e.commander c.without-nodes.ensures))

pub returns-clause-convicts : goal.returns-clause-convicts
returns-clause-convicts g c = λ k here ne.
    let x = c.args.self.now in
    let e = x.exchange in
    let is = c.requires.item in
    c.convicting.ensures.convicts k (on_rest e.awake c.without-nodes.result e.commander k c.without-nodes.ensures here ne)
    ∙ all_convict e.rounds e.members e.full e.commander x.odd e.awake x.own.now (g.T.Touched.says x.touched.now) c.args.told.now is.rounds_ok (Distinct-ids g.row.N e.members c.len.ensures.ids) is.member is.awake is.own_small is.said_small is.odd_heard c.requires.told.told_are
    g.V.PartialEq.eq k here ne

pub returns-clause-within : goal.returns-clause-within
returns-clause-within g c = λ k on.
    let e = c.args.self.now.exchange in
    of_rest e.awake c.without-nodes.result e.commander k c.without-nodes.ensures (c.convicting.ensures.within k on)
