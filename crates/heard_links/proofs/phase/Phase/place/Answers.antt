use Rattle.std.proofs.Common.{ℕ, ◌<◌, List, length, sym, ap, subst, ◌∙◌, lit<}
use Rattle.node_grid.specs.NodeSet.{without_id}
use Rattle.omh_paths.specs.Paths.{paths_of_length, path_count, place_in}
use Rattle.heard_links.specs.Talks.{members_at}
use Rattle.heard_links.proofs.Places.{long_of, place_of, place_few}
use Rattle.heard_links.proofs.Sets.{few_nodes, member_low}
use Rattle.heard_links.proofs.phase.Phase.place.Goals as goal

pub without-requires : goal.without-requires
without-requires g c = (lit< tt, member_low c.args.self.now c.requires.set c.args.i c.args.q c.requires.member)

pub returns-clause-place : goal.returns-clause-place
returns-clause-place g c =
    let x = c.args.self.now in
    let s = c.requires.set in
    place_of x.config.now.nodes (few_nodes x s) (members_at x c.args.i) (s.members c.args.i) c.args.q c.requires.member c.args.front.now c.rank.result
    (c.rank.ensures.place ∙ ap (λ (those : List ℕ). place_in (paths_of_length those (length c.args.front.now)) c.args.front.now) (c.without.ensures ∙ ap (λ (those : List ℕ). without_id those c.args.q) c.members_of.ensures))

pub returns-clause-within : goal.returns-clause-within
returns-clause-within g c =
    let x = c.args.self.now in
    let s = c.requires.set in
    subst (λ (n : ℕ). c.rank.result < n) (sym (long_of x.config.now.nodes (few_nodes x s) (members_at x c.args.i) (s.members c.args.i) c.args.q c.requires.member (length c.args.front.now)))
    (subst (λ (those : List ℕ). c.rank.result < path_count (length those) (length c.args.front.now)) (c.without.ensures ∙ ap (λ (those : List ℕ). without_id those c.args.q) c.members_of.ensures) c.rank.ensures.in_range)

pub returns-clause-few : goal.returns-clause-few
returns-clause-few g c =
    let x = c.args.self.now in
    let s = c.requires.set in
    place_few x.config.now.nodes (few_nodes x s) (members_at x c.args.i) (s.members c.args.i) c.args.q c.requires.member c.args.front.now c.rank.result c.requires.short
    (subst (λ (those : List ℕ). c.rank.result < path_count (length those) (length c.args.front.now)) (c.without.ensures ∙ ap (λ (those : List ℕ). without_id those c.args.q) c.members_of.ensures) c.rank.ensures.in_range)
