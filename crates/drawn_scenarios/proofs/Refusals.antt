-- No rule refuses a drawn scenario.
use Rattle.std.proofs.Common.{◌≡◌, ℕ, ◌≤◌, true, List, [], length, None, refl, ap, ◌∙◌, arith}
use Rattle.std.specs.Prelude.{nat_le}
use Rattle.std.specs.List.{flat_map}
use Rattle.std.proofs.lemmas.Bool.{le-leb}
use Rattle.slot_plan.specs.Slots.{slot_count}
use Rattle.fault_classes.specs.Rules.{first_overlap}
use Rattle.scenario.specs.Given as given
use Rattle.scenario.specs.Rules.{first_bad, is_fault_part, first_refused_restart, plan_refusal, refusal}
use Rattle.drawn_scenarios.specs.declared.choices.Choices.{Choices}
use Rattle.drawn_scenarios.specs.declared.bout.Bout.{Bout}
use Rattle.drawn_scenarios.specs.Choices.{AreChoices}
use Rattle.drawn_scenarios.specs.Lines.{lines_of, restarts_of}
use Rattle.drawn_scenarios.specs.Bouts.{drawn_bouts}
use Rattle.drawn_scenarios.specs.Drawn.{parts_of}
use Rattle.drawn_scenarios.specs.Laws.{UnrefusedLaw}
use Rattle.drawn_scenarios.proofs.Shape.{AreBouts}
use Rattle.drawn_scenarios.proofs.Words.{bouts_are}
use Rattle.drawn_scenarios.proofs.Made.{made_of, all_made, lines_back, none_bad, few_parts}
use Rattle.drawn_scenarios.proofs.Overlaps.{none_overlaps}
use Rattle.drawn_scenarios.proofs.Restarts.{in_order}
use Rattle.drawn_scenarios.proofs.Early.{not_early, no_cycles}
use Rattle.drawn_scenarios.proofs.Lies.{clock_passes}

module _ (c : Choices) (bs : List Bout) (a : AreChoices c) (are : AreBouts c bs) where
  pub lines_are : given.lines_of (parts_of c bs) ≡ flat_map (made_of c) bs
  lines_are = lines_back c (flat_map (lines_of c) bs) (flat_map (made_of c) bs) (all_made c bs a.few_nodes are.each)

  plan_stands : plan_refusal (parts_of c bs) ≡ None
  plan_stands =
      let faults : first_bad (is_fault_part c.nodes (slot_count c.m) c.periods) 0 (flat_map (lines_of c) bs) ≡ None = none_bad c 0 (flat_map (lines_of c) bs) (flat_map (made_of c) bs) (all_made c bs a.few_nodes are.each) in
      let overlaps : first_overlap [] (given.lines_of (parts_of c bs)) ≡ None = ap (first_overlap []) lines_are ∙ none_overlaps c bs are.each are.ordered in
      let restarts : first_refused_restart c.nodes c.periods None 0 (restarts_of c bs) ≡ None = in_order c bs a.some_periods are.each are.ordered in
      let few = few_parts c bs in let count = are.few in
      let size : nat_le (length (flat_map (lines_of c) bs)) 4096 ≡ true = le-leb (length (flat_map (lines_of c) bs)) 4096 (omega arith) in
      rw (faults, overlaps, restarts, size) refl

  pub stands : (capacity : ℕ) → c.nodes ≤ capacity → refusal capacity (parts_of c bs) ≡ None
  stands capacity room = rw (not_early c bs a capacity room, no_cycles c bs a, plan_stands) (clock_passes c bs a are lines_are)

pub unrefused_law : UnrefusedLaw
unrefused_law c seed index capacity a is room = stands c (drawn_bouts c seed index) a (bouts_are c a seed index) capacity room
