use Rattle.std.proofs.Common.{lit<, inl, inr}
use Rattle.node_grid.specs.Capacity.{IsCapacity}
use Rattle.error_detect.proofs.arrival.found_of.Goals as goal

pub decode-requires : goal.decode-requires
decode-requires g c =
    let cap : IsCapacity g.row.N = g.bound-1.eight_or_sixteen in
    (lit< tt, (elim cap [ inl e ↦ rw e (lit< tt) | inr e ↦ rw e (lit< tt) ], (c.requires.some_nodes, (c.requires.nodes, c.requires.rounds))))

pub is_cold-requires : goal.is_cold-requires
is_cold-requires g c = elim g.bound-1.eight_or_sixteen [ inl e ↦ rw e (lit< tt) | inr e ↦ rw e (lit< tt) ]
