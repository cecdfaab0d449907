use Rattle.std.proofs.Common.{ℕ, ◌*◌, ◌≤◌, length, refl, arith, inl, inr, lit<}
use Rattle.agreed_state.proofs.Pieces.{capacity_small}
use Rattle.task_graph.specs.GraphLaws.{few_tasks}
use Rattle.std.proofs.Math.Nat.{mul-le-mul}
use Rattle.agreed_state.proofs.agreed.Agreed.state_len.Goals as goal

rows_few : (n t : ℕ) → n ≤ 16 → t ≤ 32 → 2 * n * t ≤ 1024
rows_few n t few tasks = mul-le-mul {n₁ = 2 * n} {m₁ = t} {n₂ = 32} {m₂ = 32} (omega arith) tasks

pub from-nodes-requires : goal.from-nodes-requires
from-nodes-requires g c = tt

pub left_room-requires : goal.left_room-requires
left_room-requires g c = elim g.bound-1.eight_or_sixteen [ inl e ↦ rw e (lit< tt) | inr e ↦ rw e (lit< tt) ]

pub from-told-requires : goal.from-told-requires
from-told-requires g c = tt

pub overflow_mul-result : goal.overflow_mul-result
overflow_mul-result g c = omega (arith, c.from-nodes.ensures, c.requires.config.few_nodes, capacity_small g.row.N g.bound-1.eight_or_sixteen)

pub overflow_add-result : goal.overflow_add-result
overflow_add-result g c = omega (arith, c.from-nodes.ensures, c.requires.config.few_nodes, capacity_small g.row.N g.bound-1.eight_or_sixteen)

pub overflow_mul-result-2 : goal.overflow_mul-result-2
overflow_mul-result-2 g c = omega (arith, c.from-told.ensures, c.left_room.ensures.few, c.requires.config.few_nodes, capacity_small g.row.N g.bound-1.eight_or_sixteen)

pub overflow_add-result-2 : goal.overflow_add-result-2
overflow_add-result-2 g c = omega (arith, c.from-nodes.ensures, c.from-told.ensures, c.left_room.ensures.few, c.requires.config.few_nodes, capacity_small g.row.N g.bound-1.eight_or_sixteen)

pub overflow_mul-result-3 : goal.overflow_mul-result-3
overflow_mul-result-3 g c = omega (arith, c.from-nodes.ensures, c.requires.config.few_nodes, capacity_small g.row.N g.bound-1.eight_or_sixteen)

pub len-requires : goal.len-requires
len-requires g c = lit< tt

pub from-requires : goal.from-requires
from-requires g c = tt

pub overflow_mul-result-4 : goal.overflow_mul-result-4
overflow_mul-result-4 g c =
    let tasks : length c.args.config.now.graph.tasks ≤ 32 = few_tasks _ _ c.requires.config.graph.tasks.in_range in
    let few : c.from-nodes.result ≤ 16 = omega (arith, c.from-nodes.ensures, c.requires.config.few_nodes, capacity_small g.row.N g.bound-1.eight_or_sixteen) in
    let rows = rows_few c.from-nodes.result c.from.result few (omega (arith, tasks, c.from.ensures, c.len.ensures.count)) in
    omega (arith, rows)

pub overflow_add-result-3 : goal.overflow_add-result-3
overflow_add-result-3 g c =
    let tasks : length c.args.config.now.graph.tasks ≤ 32 = few_tasks _ _ c.requires.config.graph.tasks.in_range in
    let few : c.from-nodes.result ≤ 16 = omega (arith, c.from-nodes.ensures, c.requires.config.few_nodes, capacity_small g.row.N g.bound-1.eight_or_sixteen) in
    let rows = rows_few c.from-nodes.result c.from.result few (omega (arith, tasks, c.from.ensures, c.len.ensures.count)) in
    omega (arith, rows, few, c.from-told.ensures, c.left_room.ensures.few, c.requires.config.few_nodes, capacity_small g.row.N g.bound-1.eight_or_sixteen)

pub returns : goal.returns
returns g c = rw (c.from-nodes.ensures, c.from-told.ensures, c.left_room.ensures.room, c.from.ensures, c.len.ensures.count) refl
