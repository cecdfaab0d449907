use Rattle.std.proofs.Common.{ℕ, ◌≡◌, ◌+◌, ◌-◌, ◌≤◌, Fits, w64, ap, ◌∙◌, arith}
use Rattle.node_grid.specs.Capacity.{IsCapacity}
use Rattle.node_grid.specs.CapacityLaws.{capacity-le}
use Rattle.omh.specs.Flat.{section_at}
use Rattle.omh.proofs.Tables.{opened_station, opened_room, opened_seen}
use Rattle.omh.proofs.table.Table.open.Goals as goal

next_few : (m : ℕ) → m ≤ 3 → m + 1 ≤ 4
next_few m h = omega arith

same_few : (m : ℕ) → m ≤ 3 → m ≤ 4
same_few m h = omega arith

few_nodes : (n nodes : ℕ) → IsCapacity n → nodes ≤ n → nodes ≤ 16
few_nodes n nodes h low = omega (arith, capacity-le n h)

one_less : (n nodes k : ℕ) → IsCapacity n → nodes ≤ n → k ≡ nodes - 1 → k ≤ 16
one_less n nodes k h low e = omega (arith, capacity-le n h)

fits_one : (k : ℕ) → k ≤ 262144 → Fits w64 (1 + k)
fits_one k h = omega arith

pub section_at-requires : goal.section_at-requires
section_at-requires g c = record { nodes = few_nodes g.row.N c.args.nodes g.bound-5.eight_or_sixteen c.requires.nodes; short = next_few c.args.m c.requires.rounds }

pub section_at-requires-2 : goal.section_at-requires-2
section_at-requires-2 g c = record {
  nodes = one_less g.row.N c.args.nodes c.saturating_sub.result g.bound-5.eight_or_sixteen c.requires.nodes c.saturating_sub.ensures;
  short = same_few c.args.m c.requires.rounds;
}

pub overflow_add-section_at : goal.overflow_add-section_at
overflow_add-section_at g c = fits_one c.section_at-2.result c.section_at-2.ensures.small

pub invariant_of-result : goal.invariant_of-result
invariant_of-result g c = (
  opened_station g.row.N c.args.nodes c.args.m c.empty.result g.bound-5.eight_or_sixteen c.requires.nodes c.requires.rounds c.empty.ensures,
  opened_room c.args.nodes c.args.m c.section_at.result c.section_at-2.result c.in-Ok.heard.items c.in-Ok-unheard.work.items c.in-Ok.ensures c.in-Ok-unheard.ensures c.section_at.ensures.begins
      (c.section_at-2.ensures.begins ∙ ap (λ (k : ℕ). section_at k c.args.m) c.saturating_sub.ensures),
)

pub returns : goal.returns
returns g c = opened_seen c.args.nodes c.args.m c.section_at.result c.empty.result c.in-Ok.heard.items c.empty.ensures c.in-Ok.ensures
