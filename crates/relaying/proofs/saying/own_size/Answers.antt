use Rattle.std.proofs.Common.{ℕ, ◌≡◌, ◌≤◌, ◌*◌, length, sym, ap, ap₂, subst, ◌∙◌, arith}
use Rattle.std.specs.List.{flat_map}
use Rattle.node_grid.specs.NodeSet.{without_id}
use Rattle.node_grid.specs.Count.{Distinct}
use Rattle.node_grid.specs.CapacityLaws.{capacity-le}
use Rattle.omh_paths.specs.Paths.{path_count}
use Rattle.omh_paths.specs.MemberLaws.{few_ids, Distinct-ids}
use Rattle.relaying.proofs.Framing.{no_entries, own_long}
use Rattle.relaying.proofs.Ranges.{size_few}
use Rattle.relaying.proofs.saying.own_size.Goals as goal

pub returns-then-not-is_member-clause-size : goal.returns-then-not-is_member-clause-size
returns-then-not-is_member-clause-size g c =
    let h = c.args.table.now in
    ap (λ xs. length (flat_map (g.V.RelayedItem.spelling h.nodes) xs)) (sym (no_entries h c.args.round (sym c.if-not-is_member.ensures)))

pub count_paths-requires-clause-nodes : goal.count_paths-requires-clause-nodes
count_paths-requires-clause-nodes g c = omega (arith, few_ids g.row.N c.without.result c.nodes.ensures.capacity c.len-others.ensures.ids, c.len-others.ensures.count)

pub overflow_mul-result : goal.overflow_mul-result
overflow_mul-result g c =
    let nodes : c.nodes.result ≤ 16 = omega (arith, c.nodes.ensures.few, capacity-le g.row.N c.nodes.ensures.capacity) in
    let narrow : c.entry_width.result ≤ 33 = subst (λ (w : ℕ). w ≤ 33) (sym c.entry_width.ensures) (g.met.V.RelayedItem.laws.narrow c.nodes.result nodes) in
    let few : c.len-others.result ≤ 16 = omega (arith, few_ids g.row.N c.without.result c.nodes.ensures.capacity c.len-others.ensures.ids, c.len-others.ensures.count) in
    let small : c.entry_width.result * c.count_paths.result ≤ 33 * 65536 = size_few c.entry_width.result c.count_paths.result c.len-others.result c.args.round narrow c.count_paths.ensures.product few (omega (arith, c.requires.round.within, c.members.ensures.rounds)) in
    omega (arith, small)

pub returns-clause-size : goal.returns-clause-size
returns-clause-size g c =
    let h = c.args.table.now in
    let others : c.without.result ≡ without_id h.members h.me = c.without.ensures ∙ ap (λ ms. without_id ms c.me.result) c.members.ensures.members ∙ ap (without_id h.members) c.me.ensures.me in
    let distinct : Distinct h.members = subst Distinct c.members.ensures.members (Distinct-ids g.row.N c.members.result c.members.ensures.ids) in
    let short : c.args.round ≤ 3 = omega (arith, c.requires.round.within, c.members.ensures.rounds) in
    ap₂ (λ (a b : ℕ). a * b) (c.entry_width.ensures ∙ ap g.V.RelayedItem.width c.nodes.ensures.nodes)
    (c.count_paths.ensures.product ∙ ap (λ (n : ℕ). path_count n c.args.round) (c.len-others.ensures.count ∙ ap length others))
    ∙ sym (own_long g.met.V.RelayedItem.laws h c.args.round c.requires.round.slot.0 c.requires.round.slot.1 (omega (arith, c.nodes.ensures.few, c.nodes.ensures.nodes)) c.requires.round.some short distinct (sym c.if-not-is_member.ensures))

pub returns-clause-few : goal.returns-clause-few
returns-clause-few g c =
    let nodes : c.nodes.result ≤ 16 = omega (arith, c.nodes.ensures.few, capacity-le g.row.N c.nodes.ensures.capacity) in
    let narrow : c.entry_width.result ≤ 33 = subst (λ (w : ℕ). w ≤ 33) (sym c.entry_width.ensures) (g.met.V.RelayedItem.laws.narrow c.nodes.result nodes) in
    let few : c.len-others.result ≤ 16 = omega (arith, few_ids g.row.N c.without.result c.nodes.ensures.capacity c.len-others.ensures.ids, c.len-others.ensures.count) in
    size_few c.entry_width.result c.count_paths.result c.len-others.result c.args.round narrow c.count_paths.ensures.product few (omega (arith, c.requires.round.within, c.members.ensures.rounds))
