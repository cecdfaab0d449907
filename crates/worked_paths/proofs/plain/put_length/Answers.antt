use Rattle.std.proofs.Common.{ℕ, ◌≡◌, true, ap, sym, ◌∙◌, arith}
use Rattle.node_grid.specs.NodeSet.{has_id, without_id}
use Rattle.node_grid.specs.NodeSetLaws.{length-ids}
use Rattle.omh_paths.specs.PathLists.{has-of-without}
use Rattle.omh.specs.HeardLaws.{has-without-me}
use Rattle.worked_paths.proofs.plain.put_length.Goals as goal

pub count_paths-place-end-requires-clause-nodes : goal.count_paths-place-end-requires-clause-nodes
count_paths-place-end-requires-clause-nodes c = omega (arith, c.len.ensures.count, length-ids 8 c.args.others.now c.len.ensures.ids)

pub put-requires : goal.put-requires
put-requires c =
    let was = c.args.table.now in
    let path = c.unrank-path.result in
    let members = ap (λ h. h.members) c.loop-place.invariant in
    let me = ap (λ h. h.me) c.loop-place.invariant in
    let rounds = ap (λ h. h.rounds) c.loop-place.invariant in
    let among : (q : ℕ) → has_id path q ≡ true → has_id (without_id was.members was.me) q ≡ true =
    λ q on. ap (λ s. has_id s q) (sym c.requires.others) ∙ c.unrank-path.ensures.within q on in (
      omega arith,
      (
        (λ q on. ap (λ s. has_id s q) members ∙ has-of-without was.members was.me q (among q on)),
        (ap (has_id path) me ∙ has-without-me was.members was.me path among, (omega (arith, c.unrank-path.ensures.long, c.requires.short, rounds), c.known.ensures)),
      ),
    )
