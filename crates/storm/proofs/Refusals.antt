-- No rule refuses the parts of a storm.
use Rattle.std.proofs.Common.{◌≡◌, ℕ, ◌+◌, true, ◌&&◌, List, [], ◌∷◌, map, length, Option, None, Some, refl, sym, ap, ◌∙◌, inl, inr, arith}
use Rattle.std.specs.Prelude.{is_some, nat_lt, nat_le}
use Rattle.std.specs.List.{AllByRecursion}
use Rattle.std.proofs.lemmas.Bool.{cases_Bool, and_parts, and_from, leb-true, le-leb, lt-ltb}
use Rattle.std.proofs.lemmas.List.{length-map}
use Rattle.fault_classes.specs.declared.line.Restart.{Restart}
use Rattle.fault_classes.specs.Line.{Line}
use Rattle.fault_classes.specs.Rules as plan
use Rattle.fault_classes.specs.Rules.{first_overlap}
use Rattle.fault_classes.specs.Facts.{none_before}
use Rattle.scenario.specs.Line.{line_at, restart_of}
use Rattle.scenario.specs.Given as given
use Rattle.scenario.specs.Rules.{first_bad, is_fault_part, is_restart_part, first_refused_restart, early_refusal, cycles_refusal, plan_refusal, clock_refusal, refusal}
use Rattle.draws.specs.Draws.{generator_of}
use Rattle.storm.specs.Storm.{Block, blocks, storm, lines_of, restarts_of}
use Rattle.storm.specs.Parts.{fault_of, restart_parts, parts_of}
use Rattle.storm.specs.Laws.{UnrefusedLaw}
use Rattle.storm.proofs.Shape.{AreBlocks}
use Rattle.storm.proofs.Drawn.{blocks_are, length-blocks}
use Rattle.storm.proofs.Planned.{IsEarlier, no_overlap, all_apart, restarts_in_order, few_lines}
use Rattle.storm.proofs.Reading.{IsSpelt, line_back, lines_back, all_spelt}

no_bad_fault : (k : ℕ) (ls : List Line) → AllByRecursion IsSpelt ls → first_bad (is_fault_part 8 8 1024) k (map fault_of ls) ≡ None
no_bad_fault k [] h = refl
no_bad_fault k (l ∷ ls) h =
    let here : is_some (line_at 8 8 1024 (fault_of l)) ≡ true = ap (λ (o : Option Line). is_some o) (line_back l h.0) in
    rw here (no_bad_fault (k + 1) ls h.1)

no_bad_restart : (before : Option Restart) (k : ℕ) (rs : List Restart) → plan.first_bad_restart 8 1024 before k rs ≡ None → first_refused_restart 8 1024 before k (map restart_parts rs) ≡ None
no_bad_restart before k [] h = refl
no_bad_restart before k (r ∷ rs) h = elim (cases_Bool (plan.is_restart 8 1024 r && plan.comes_after before r)) [
  | inl on ↦
      let p = and_parts (plan.is_restart 8 1024 r) _ on in
      let q = and_parts (nat_lt r.node 8) _ p.0 in
      let span = and_parts (nat_le 1 r.period) (nat_le r.period 1023) q.1 in
      let low : nat_lt r.period 1024 ≡ true = lt-ltb _ _ (let l = leb-true _ _ span.1 in omega arith) in
      let here : is_restart_part 8 1024 before (restart_parts r) ≡ true = and_from _ _ q.0 (and_from _ _ low on) in
      let step : plan.first_bad_restart 8 1024 before k (r ∷ rs) ≡ plan.first_bad_restart 8 1024 (Some r) (k + 1) rs = rw on refl in
      rw here (no_bad_restart (Some r) (k + 1) rs (sym step ∙ h))
  | inr off ↦
      let step : plan.first_bad_restart 8 1024 before k (r ∷ rs) ≡ Some k = rw off refl in
      let e : Some k ≡ None = sym step ∙ h in cc
]

pub restarts_back : (rs : List Restart) → map restart_of (map restart_parts rs) ≡ rs
restarts_back [] = refl
restarts_back (r ∷ rs) = ap (λ (more : List Restart). r ∷ more) (restarts_back rs)

pub lines_are : (bs : List Block) → length bs ≡ 64 → AreBlocks 0 bs → given.lines_of (parts_of bs) ≡ lines_of bs
lines_are bs long are = lines_back (lines_of bs) (all_spelt 0 bs (omega arith) are)

pub not_early : (bs : List Block) → early_refusal 8 (parts_of bs) ≡ None
not_early bs = refl

no_cycles : (bs : List Block) → cycles_refusal (parts_of bs) ≡ None
no_cycles bs = refl

plan_stands : (bs : List Block) → length bs ≡ 64 → AreBlocks 0 bs → plan_refusal (parts_of bs) ≡ None
unfolding IsEarlier
plan_stands bs long are =
    let few = few_lines 0 bs are in
    let faults : first_bad (is_fault_part 8 8 1024) 0 (map fault_of (lines_of bs)) ≡ None = no_bad_fault 0 (lines_of bs) (all_spelt 0 bs (omega arith) are) in
    let overlaps : first_overlap [] (given.lines_of (parts_of bs)) ≡ None = ap (first_overlap []) (lines_are bs long are) ∙ no_overlap [] (lines_of bs) (none_before (lines_of bs)) (all_apart 0 bs are) in
    let restarts : first_refused_restart 8 1024 None 0 (map restart_parts (restarts_of bs)) ≡ None =
    no_bad_restart None 0 (restarts_of bs) (restarts_in_order 0 0 None bs (omega arith) are tt) in
    let size : nat_le (length (map fault_of (lines_of bs))) 4096 ≡ true = le-leb (length (map fault_of (lines_of bs))) 4096 (omega (arith, length-map (lines_of bs) fault_of)) in
    rw (faults, overlaps, restarts, size) refl

pub no_clock : (bs : List Block) → clock_refusal (parts_of bs) ≡ None
unfolding clock_refusal
no_clock bs = refl

pub not_refused : (bs : List Block) → length bs ≡ 64 → AreBlocks 0 bs → refusal 8 (parts_of bs) ≡ None
not_refused bs long are = rw (not_early bs, no_cycles bs, plan_stands bs long are) (no_clock bs)

pub unrefused_law : UnrefusedLaw
unfolding storm
unrefused_law seed = not_refused (blocks 64 0 (generator_of seed)).0 (length-blocks 64 0 (generator_of seed)) (blocks_are 64 0 (generator_of seed))
