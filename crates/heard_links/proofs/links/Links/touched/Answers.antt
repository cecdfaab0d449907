use Rattle.std.proofs.Common.{◌≡◌, ◌<◌, length, [], false, slice_index_or, ap, subst, ◌∙◌, arith}
use Rattle.std.proofs.lemmas.List.{get_or_default}
use Rattle.node_grid.specs.NodeSet.{has_id}
use Rattle.heard_links.specs.Hearing.{IsCame, talk_in}
use Rattle.heard_links.proofs.Sets.{few_m}
use Rattle.heard_links.proofs.Tables.{not_touched}
use Rattle.heard_links.proofs.links.Links.touched.Goals as goal

pub returns : goal.returns
returns g c = λ j i off low on ne.
    let a = c.args in
    let x = a.phase.now in
    let most = few_m x c.requires.heard.set in
    let room : a.round < length a.self.now.touched = omega (arith, most, c.requires.round) in
    let off_here : has_id (slice_index_or a.self.now.touched a.round []) j ≡ false = ap (λ s. has_id s j) (get_or_default a.self.now.touched a.round [] c.index-self-round.result room) ∙ off in
    subst (IsCame (talk_in g.V.Item.form x a.self.now) x.config.now.m a.round j i) (not_touched a.self.now a.round j i off_here)
    (c.requires.heard.heard a.round j i (omega (arith, c.requires.round)) low on ne)
