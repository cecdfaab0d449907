use Rattle.std.proofs.Common.{◌≡◌, ◌&&◌, not, ℕ, List, refl, ap, ◌∙◌}
use Rattle.node_grid.specs.NodeSet.{ids_below, has_id, union_of}
use Rattle.node_grid.specs.Count.{count}
use Rattle.run_judged.proofs.tally.Tally.add_charges.Goals as goal

pub returns : goal.returns
returns g c =
    let f = c.args.findings.now in
    let all : List ℕ = union_of g.row.N c.args.self.now.faulty f.faulty in
    let union : c.union-faulty.result ≡ all = c.union-faulty.ensures in
    let charged : c.besides-2.result ≡ count (λ j. has_id f.charged j && not (has_id all j)) (ids_below f.nodes) =
    c.besides-2.ensures.count ∙ ap (λ (s : List ℕ). count (λ j. has_id f.charged j && not (has_id s j)) (ids_below f.nodes)) union in
    let left : c.besides-3.result ≡ count (λ j. has_id f.left j && not (has_id all j)) (ids_below f.nodes) =
    c.besides-3.ensures.count ∙ ap (λ (s : List ℕ). count (λ j. has_id f.left j && not (has_id s j)) (ids_below f.nodes)) union in
    rw (c.besides.ensures.count, charged, left, union) refl
