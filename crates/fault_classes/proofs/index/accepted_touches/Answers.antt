use Rattle.std.proofs.Common.{◌≡◌, ℕ, List, Some, None, map, sym, ap, ◌∙◌, inl, inr, lit<, ◌<◌, length, arith}
use Rattle.std.proofs.lemmas.Result.{err_from_is_err_and}
use Rattle.slot_plan.specs.Slots.{slot_count}
use Rattle.fault_classes.specs.Line.{Line, line_of}
use Rattle.fault_classes.specs.Plan.{Plan, plan_of}
use Rattle.fault_classes.specs.Rules.{first_bad_line}
use Rattle.fault_classes.proofs.Refusals.{all_good, by_range, by_overlap, by_restart, by_count}
use Rattle.std.proofs.lemmas.List.{length-map}
use Rattle.fault_classes.proofs.index.accepted_touches.Goals as goal

-- with any number of relay rounds that makes so many slots
all_in_range : (n s t : ℕ) (ls : List Line) → first_bad_line n s t 0 ls ≡ None → (m : ℕ) → slot_count m ≡ s → first_bad_line n (slot_count m) t 0 ls ≡ None
all_in_range n s t ls h m e = ap (λ k. first_bad_line n k t 0 ls) e ∙ h

pub first_bad_line-requires : goal.first_bad_line-requires
first_bad_line-requires g c = (lit< tt, c.requires.few_lines)

pub touches_of-requires : goal.touches_of-requires
touches_of-requires g c =
    let n = c.args.shape.now.nodes in
    let s = c.args.shape.now.slots in
    let t = c.args.shape.now.periods in
    (lit< tt, (lit< tt, (c.requires.shape, (c.requires.few_lines, all_good n s t 0 (map line_of c.args.lines.now) (sym c.first_bad_line.ensures ∙ c.in_default.is)))))

pub first_bad_restart-requires : goal.first_bad_restart-requires
first_bad_restart-requires g c = record {
  periods = c.requires.shape.some_periods;
  few = c.requires.few_restarts;
}

pub returns-in-Some : goal.returns-in-Some
returns-in-Some g c =
    let a = c.args in
    let n = a.shape.now.nodes in
    let s = a.shape.now.slots in
    let t = a.shape.now.periods in
    let plan : ℕ → Plan = λ m. plan_of n m t (map (line_of {n = g.row.N}) a.lines.now) a.restarts.now in
    inr (λ m e. by_range (plan m) c.in-Some.place (ap (λ k. first_bad_line n k t 0 (map (line_of {n = g.row.N}) a.lines.now)) e ∙ sym c.first_bad_line.ensures ∙ c.in-Some.is))

pub returns-in_err-touches : goal.returns-in_err-touches
returns-in_err-touches g c =
    let a = c.args in
    let n = a.shape.now.nodes in
    let s = a.shape.now.slots in
    let t = a.shape.now.periods in
    let plan : ℕ → Plan = λ m. plan_of n m t (map (line_of {n = g.row.N}) a.lines.now) a.restarts.now in
    let in_range = all_in_range n s t (map (line_of {n = g.row.N}) a.lines.now) (sym c.first_bad_line.ensures ∙ c.in_default.is) in
    let p = err_from_is_err_and c.from_residual.result c.from_residual.ensures.1 in
    rw (p.1, p.2) (elim c.in_err-touches.ensures [
      | inl none ↦ inl none
      | inr met ↦ inr (λ m e. by_overlap (plan m) met.0 (in_range m e) met.2 ∙ ap Some (sym met.1))
    ])

pub returns-in-Some-first_bad_restart : goal.returns-in-Some-first_bad_restart
returns-in-Some-first_bad_restart g c =
    let a = c.args in
    let n = a.shape.now.nodes in
    let s = a.shape.now.slots in
    let t = a.shape.now.periods in
    let plan : ℕ → Plan = λ m. plan_of n m t (map (line_of {n = g.row.N}) a.lines.now) a.restarts.now in
    let in_range = all_in_range n s t (map (line_of {n = g.row.N}) a.lines.now) (sym c.first_bad_line.ensures ∙ c.in_default.is) in
    inr (λ m e. by_restart (plan m) c.in-Some-first_bad_restart.place (in_range m e) c.in_ok-touches.ensures.1 (sym c.first_bad_restart.ensures ∙ c.in-Some-first_bad_restart.is))

pub returns-then-lines-gt-MOST_LINES : goal.returns-then-lines-gt-MOST_LINES
returns-then-lines-gt-MOST_LINES g c =
    let a = c.args in
    let n = a.shape.now.nodes in
    let s = a.shape.now.slots in
    let t = a.shape.now.periods in
    let plan : ℕ → Plan = λ m. plan_of n m t (map (line_of {n = g.row.N}) a.lines.now) a.restarts.now in
    let in_range = all_in_range n s t (map (line_of {n = g.row.N}) a.lines.now) (sym c.first_bad_line.ensures ∙ c.in_default.is) in
    let many : 4096 < length (map (line_of {n = g.row.N}) a.lines.now) = omega (arith, c.if-lines-gt-MOST_LINES.true, length-map a.lines.now (line_of {n = g.row.N})) in
    inr (λ m e. by_count (plan m) (in_range m e) c.in_ok-touches.ensures.1 (sym c.first_bad_restart.ensures ∙ c.in_default-first_bad_restart.is) many)

pub returns : goal.returns
returns g c = (
  c.in_ok-touches.ensures.0,
  sym c.first_bad_line.ensures ∙ c.in_default.is,
  c.in_ok-touches.ensures.1,
  sym c.first_bad_restart.ensures ∙ c.in_default-first_bad_restart.is,
  omega (arith, c.if-lines-gt-MOST_LINES.false, length-map c.args.lines.now (line_of {n = g.row.N})),
)
