use Rattle.std.proofs.Common.{ℕ, ◌≡◌, true, List, length, Some, sym, ap, ap₂, ◌∙◌, inl, inr, arith, lit<}
use Rattle.node_grid.specs.NodeSet.{has_id, without_id}
use Rattle.node_grid.specs.NodeSetLaws.{length-ids}
use Rattle.node_grid.specs.CapacityLaws.{capacity-le}
use Rattle.omh_paths.specs.Paths.{paths_of_length, path_count, path_at}
use Rattle.heard_links.specs.Talks.{members_at}
use Rattle.heard_links.proofs.Places.{long_of, source_at, source_none}
use Rattle.heard_links.proofs.Sets.{few_nodes, member_low}
use Rattle.heard_links.proofs.phase.Phase.other_source.Goals as goal

pub members_of-its-requires : goal.members_of-its-requires
members_of-its-requires g c =
    (elim c.requires.set.capacity [ inl e ↦ rw e (lit< tt) | inr e ↦ rw e (lit< tt) ], (lit< tt, member_low c.args.self.now c.requires.set c.args.i c.args.q c.requires.member))

pub count_paths-requires-clause-nodes : goal.count_paths-requires-clause-nodes
count_paths-requires-clause-nodes g c =
    omega (arith, c.len.ensures.count, length-ids g.row.N c.without-others.result c.len.ensures.ids, capacity-le g.row.N c.requires.set.capacity)

pub returns-then-place-count_paths : goal.returns-then-place-count_paths
returns-then-place-count_paths g c =
    let x = c.args.self.now in
    let s = c.requires.set in
    let q = c.args.q in
    let front = c.args.front.now in
    let its = members_at x q in
    let others : c.without-others.result ≡ without_id its q = c.without-others.ensures ∙ ap (λ (those : List ℕ). without_id those q) c.members_of-its.ensures in
    let on : has_id its q ≡ true = ap (λ (those : List ℕ). has_id those q) (sym c.members_of-its.ensures) ∙ sym c.has.ensures ∙ c.if-not-has.false in
    let many : c.count_paths.result ≡ path_count (length (without_id its q)) (length front) = c.count_paths.ensures.product ∙ ap₂ path_count (c.len.ensures.count ∙ ap length others) c.len-2.ensures.count in
    let low = c.if-place-count_paths.true in
    ap Some (c.unrank.ensures.path ∙ ap₂ (λ (those : List ℕ) (r : ℕ). path_at (paths_of_length those r) c.place-place.result) others c.len-then-place-count_paths.ensures.count)
    ∙ source_at its (members_at x c.args.i) q front c.place-place.result on c.place-place.ensures.place
    (omega (arith, many, low, long_of x.config.now.nodes (few_nodes x s) its (s.members q) q on (length front)))

pub returns-else-place-count_paths : goal.returns-else-place-count_paths
returns-else-place-count_paths g c =
    let x = c.args.self.now in
    let s = c.requires.set in
    let q = c.args.q in
    let front = c.args.front.now in
    let its = members_at x q in
    let others : c.without-others.result ≡ without_id its q = c.without-others.ensures ∙ ap (λ (those : List ℕ). without_id those q) c.members_of-its.ensures in
    let on : has_id its q ≡ true = ap (λ (those : List ℕ). has_id those q) (sym c.members_of-its.ensures) ∙ sym c.has.ensures ∙ c.if-not-has.false in
    let many : c.count_paths.result ≡ path_count (length (without_id its q)) (length front) = c.count_paths.ensures.product ∙ ap₂ path_count (c.len.ensures.count ∙ ap length others) c.len-2.ensures.count in
    let low = c.if-place-count_paths.false in
    source_none its (members_at x c.args.i) q front c.place-place.result c.place-place.ensures.place
    (omega (arith, many, low, long_of x.config.now.nodes (few_nodes x s) its (s.members q) q on (length front)))

pub place-place-requires : goal.place-place-requires
place-place-requires g c = (elim c.requires.set.capacity [ inl e ↦ rw e (lit< tt) | inr e ↦ rw e (lit< tt) ], c.requires)
