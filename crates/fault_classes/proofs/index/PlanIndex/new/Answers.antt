use Rattle.std.proofs.Common.{◌≡◌, ℕ, ◌+◌, ◌*◌, ◌^◌, ◌≤◌, List, [], length, map, None, inl, inr, refl, sym, ap, ap₂, ◌∙◌, arith, lit<, subst}
use Rattle.std.proofs.lemmas.Result.{err_from_is_err_and}
use Rattle.slot_plan.specs.Slots.{slot_count}
use Rattle.fault_classes.specs.declared.line.FaultLine.{FaultLine}
use Rattle.fault_classes.specs.declared.line.Restart.{Restart}
use Rattle.fault_classes.specs.declared.size.PlanSize.{PlanSize}
use Rattle.fault_classes.specs.Line.{line_of}
use Rattle.fault_classes.specs.Cells.{IsShape}
use Rattle.fault_classes.specs.Rules.{IsSize, first_bad_line}
use Rattle.fault_classes.proofs.Refusals.{by_none}
use Rattle.fault_classes.specs.Rules.{first_overlap, first_bad_restart, refusal_of}
use Rattle.fault_classes.specs.Plan.{plan_of}
use Rattle.fault_classes.specs.Index.{IsRestarting}
use Rattle.fault_classes.specs.Touches.{AreTouches}
use Rattle.fault_classes.proofs.Ranges.{few_items}
use Rattle.fault_classes.proofs.index.PlanIndex.new.Given as given
use Rattle.fault_classes.proofs.index.PlanIndex.new.Goals as goal

some_slots : (m : ℕ) → 4 ≤ 2 * m + 4
some_slots m = omega arith

few_slots : (m : ℕ) → m ≤ 3 → 2 * m + 4 ≤ 10
few_slots m h = omega arith

shape : (n : ℕ) (size : PlanSize) → IsSize n size → IsShape n size.nodes (slot_count size.rounds) size.periods
shape n size s = record {
  capacity = s.capacity;
  some_nodes = s.some_nodes;
  few_nodes = s.few_nodes;
  some_slots = some_slots size.rounds;
  few_slots = few_slots size.rounds s.few_rounds;
  some_periods = s.some_periods;
  few_periods = s.few_periods;
}

lines_few : (g : given.Over) (c : goal.In-Ok g) → length (map (line_of {n = g.row.N}) c.args.lines.items) ≤ 4096
lines_few g c = omega (arith, c.in_ok-touches.ensures.4, ap (λ (xs : List (FaultLine g.row.N)). length (map line_of xs)) c.as_slice.ensures.value)

accepted : (g : given.Over) (c : goal.In-Ok g) → refusal_of (plan_of c.args.size.nodes c.args.size.rounds c.args.size.periods (map (line_of {n = g.row.N}) c.args.lines.items) c.args.restarts.items) ≡ None
accepted g c =
    let a = c.args in
    let lines : List (FaultLine g.row.N) = a.lines.items in
    let in_range : first_bad_line a.size.nodes (slot_count a.size.rounds) a.size.periods 0 (map line_of lines) ≡ None =
    ap₂ (λ s (xs : List (FaultLine g.row.N)). first_bad_line a.size.nodes s a.size.periods 0 (map line_of xs)) (sym c.slot_count.ensures) (sym c.as_slice.ensures.value) ∙ c.in_ok-touches.ensures.1 in
    let apart : first_overlap [] (map line_of lines) ≡ None = ap (λ (xs : List (FaultLine g.row.N)). first_overlap [] (map line_of xs)) (sym c.as_slice.ensures.value) ∙ c.in_ok-touches.ensures.2 in
    let in_order : first_bad_restart a.size.nodes a.size.periods None 0 a.restarts.items ≡ None =
    ap (first_bad_restart a.size.nodes a.size.periods None 0) (sym c.as_slice-2.ensures.value) ∙ c.in_ok-touches.ensures.3 in
    by_none (plan_of a.size.nodes a.size.rounds a.size.periods (map line_of lines) a.restarts.items) in_range apart in_order (lines_few g c)

pub accepted_touches-requires : goal.accepted_touches-requires
accepted_touches-requires g c =
    let P : ℕ → Type 0 = λ k. IsShape g.row.N c.args.size.nodes k c.args.size.periods in (
      lit< tt,
      (
        lit< tt,
        (
          subst P (sym c.slot_count.ensures) (shape g.row.N c.args.size c.requires.size),
          (
            few_items c.as_slice.result.now c.args.lines.items (2 ^ 32) c.as_slice.ensures.value c.requires.few_lines,
            few_items c.as_slice-2.result.now c.args.restarts.items (2 ^ 32) c.as_slice-2.ensures.value c.requires.few_restarts,
          ),
        ),
      ),
    )

pub slot_count-requires : goal.slot_count-requires
slot_count-requires g c = c.requires.size.few_rounds

pub restarting_sets-requires : goal.restarting_sets-requires
restarting_sets-requires g c = (
  lit< tt,
  (
    c.requires.size,
    ap (first_bad_restart c.args.size.nodes c.args.size.periods None 0) (c.as_slice-3.ensures.value ∙ sym c.as_slice-2.ensures.value) ∙ c.in_ok-touches.ensures.3,
  ),
)

pub invariant_of-result : goal.invariant_of-result
invariant_of-result g c =
    let a = c.args in
    let P : ℕ → Type 0 = λ k. IsShape g.row.N a.size.nodes k a.size.periods in
    record {
      shape = subst P (sym c.slot_count.ensures) (shape g.row.N c.args.size c.requires.size);
      all_slots = c.slot_count.ensures;
      accepted = accepted g c;
      few = lines_few g c;
      few_restarts = c.requires.few_restarts;
      restarting = subst (λ (xs : List Restart). IsRestarting g.row.N a.size.periods xs c.in-Ok.restarting.items) c.as_slice-3.ensures.value c.in-Ok.ensures;
      touched = subst (λ (xs : List (FaultLine g.row.N)). AreTouches a.size.nodes c.slot_count.result a.size.periods (map line_of xs) c.in_ok-touches.touches) c.as_slice.ensures.value c.in_ok-touches.ensures.0;
    }

pub returns-in_err-touches : goal.returns-in_err-touches
returns-in_err-touches g c =
    let n = c.args.size.nodes in
    let s = c.slot_count.result in
    let t = c.args.size.periods in
    let p = err_from_is_err_and c.from_residual.result c.from_residual.ensures.1 in
    rw (p.1, p.2) (elim c.in_err-touches.ensures [
      | inl none ↦ inl none
      | inr told ↦
          inr (ap₂ (λ (xs : List (FaultLine g.row.N)) rs. refusal_of (plan_of n c.args.size.rounds t (map line_of xs) rs)) (sym c.as_slice.ensures.value) (sym c.as_slice-2.ensures.value)
          ∙ told c.args.size.rounds (sym c.slot_count.ensures))
    ])

pub returns-in_default : goal.returns-in_default
returns-in_default g c = inl refl

pub returns : goal.returns
returns g c = (refl, accepted g c)
