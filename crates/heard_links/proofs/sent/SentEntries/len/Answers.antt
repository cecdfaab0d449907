use Rattle.std.proofs.Common.{ℕ, ◌≡◌, ◌-◌, true, false, List, length, sym, ap, ◌∙◌, arith}
use Rattle.std.proofs.lemmas.Bool.{cond-true, cond-false}
use Rattle.node_grid.specs.NodeSet.{has_id}
use Rattle.node_grid.specs.NodeSetLaws.{length-ids}
use Rattle.node_grid.specs.CapacityLaws.{capacity-le}
use Rattle.omh_paths.specs.Paths.{path_count}
use Rattle.omh_paths.specs.MemberLaws.{Distinct-ids}
use Rattle.protocol.specs.TalkLaws.{entries_number}
use Rattle.heard_links.specs.Talks.{members_at}
use Rattle.heard_links.specs.Hearing.{sent_by}
use Rattle.heard_links.proofs.Sending.{sent_long}
use Rattle.heard_links.proofs.sent.SentEntries.len.Goals as goal

pub count_paths-requires-clause-nodes : goal.count_paths-requires-clause-nodes
count_paths-requires-clause-nodes g c =
    omega (arith, c.len.ensures.count, length-ids g.row.N c.members_of-members.result c.len.ensures.ids, capacity-le g.row.N c.self.invariant.heard.set.capacity)

pub returns-then-has : goal.returns-then-has
returns-then-has g c =
    let s = c.self.inside in
    let x = s.phase.now in
    let its = members_at x s.from in
    let on : has_id its s.from ≡ true = ap (λ (those : List ℕ). has_id those s.from) (sym c.members_of-members.ensures) ∙ sym c.has.ensures ∙ c.if-has.true in
    c.count_paths.ensures.product ∙ ap (λ (n : ℕ). path_count (n - 1) s.round) (c.len.ensures.count ∙ ap length c.members_of-members.ensures)
    ∙ sym (cond-true (has_id its s.from) (path_count (length its - 1) s.round) 0 on)
    ∙ sym (entries_number its s.round s.from (Distinct-ids x.config.now.nodes its (c.self.invariant.heard.set.members s.from)))
    ∙ sym (sent_long g.V.Item.form x s.links.now s.round s.from)
    ∙ ap (λ v. length (sent_by g.V.Item.form v.1 v.0 v.2 v.3)) c.self.view_is

pub returns-else-has : goal.returns-else-has
returns-else-has g c =
    let s = c.self.inside in
    let x = s.phase.now in
    let its = members_at x s.from in
    let off : has_id its s.from ≡ false = ap (λ (those : List ℕ). has_id those s.from) (sym c.members_of-members.ensures) ∙ sym c.has.ensures ∙ c.if-has.false in
    sym (cond-false (has_id its s.from) (path_count (length its - 1) s.round) 0 off)
    ∙ sym (entries_number its s.round s.from (Distinct-ids x.config.now.nodes its (c.self.invariant.heard.set.members s.from)))
    ∙ sym (sent_long g.V.Item.form x s.links.now s.round s.from)
    ∙ ap (λ v. length (sent_by g.V.Item.form v.1 v.0 v.2 v.3)) c.self.view_is
