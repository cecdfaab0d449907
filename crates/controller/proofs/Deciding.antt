-- What the bytes of an input decide.
use Rattle.std.proofs.Common.{◌≡◌, ℕ, ◌-◌, ◌^◌, ◌<◌, ◌≤◌, List, length, arith, inl, inr, sym, ◌∙◌, ap, subst, Option, Some, None, refl}
use Rattle.std.specs.Prelude.{IfSome, ◌⊎◌}
use Rattle.node_grid.specs.NumberFacts.{nothing_told}
use Rattle.scenario.specs.Scenario.{ScenarioView}
use Rattle.scenario.specs.Given.{scenario_of}
use Rattle.scenario.specs.Facts.{same_parts}
use Rattle.scenario_reading.specs.Verdict.{IsAcceptedValue, value_refusal, refusal_on}
use Rattle.scenario_reading.specs.Facts.{same_value}
use Rattle.live_node.specs.Live.{LiveView}
use Rattle.input_lines.specs.FirstLine.{first_line, behind_first}
use Rattle.controller.specs.Input.{scenario_limit}
use Rattle.controller.specs.Course.{Ending, ending_of}
use Rattle.controller.specs.Outcome.{capacity, first_event, IsAcceptedText, IsUnreadable, IsRefusedText, IsForeign, IsNode, IsOutcome}
use Rattle.controller.specs.Answers.{AllEnd, Decides}
use Rattle.program_words.specs.declared.status.Status.{Status}
use Rattle.program_words.specs.declared.status.Status.TheVariants.{Done, Usage, Unreadable, Refused, ReadFault, WriteFault, NoMemory, TooLong}

-- and of one scenario
same_scenario : (line : List ℕ) (a b : ScenarioView capacity) → IsAcceptedText line a → IsAcceptedText line b → a ≡ b
same_scenario line a b x y =
    let value = same_value line x.value y.value x.reads y.reads in
    let other : IsAcceptedValue x.value b = subst (λ d. IsAcceptedValue d b) (sym value) y.accepted in
    x.accepted.says ∙ ap (scenario_of capacity) (same_parts x.accepted.parts other.parts _ x.accepted.reads other.reads) ∙ sym other.says

not_both : (line : List ℕ) (sc : ScenarioView capacity) (rule place : ℕ) → IsAcceptedText line sc → IsRefusedText line rule place → ⊥
not_both line sc rule place a r =
    let same : a.value ≡ r.value = same_value line a.value r.value a.reads r.reads in
    let unrefused : value_refusal capacity a.value ≡ None = ap (refusal_on capacity) a.accepted.reads ∙ a.accepted.unrefused in
    nothing_told rule place (sym unrefused ∙ ap (value_refusal capacity) same ∙ r.refused)

not_foreign : (line : List ℕ) (id : ℕ) (a b : ScenarioView capacity) → IsAcceptedText line a → id < a.config.nodes → IsAcceptedText line b → b.config.nodes ≤ id → ⊥
not_foreign line id a b x below y none = let same = ap (λ (s : ScenarioView capacity). s.config.nodes) (same_scenario line a b x y) in omega (arith, same, below, none)

pub no_memory : (id : ℕ) (bytes : List ℕ) → Decides id bytes NoMemory
no_memory id bytes = record {
  too_long = λ h. inr refl;
  unreadable = λ h u. inr refl;
  refused = λ h rule place r. inr refl;
  foreign = λ h sc a n. inr refl;
  node = λ h sc a b few wanted all. inr refl;
}

-- a node whose events end so
node_decides : (id : ℕ) (bytes : List ℕ) (status : Status) (v : LiveView capacity) → IsNode (first_line bytes) id v
    → (length bytes < 2 ^ 64 - 1 → (wanted : Status) → AllEnd bytes id wanted → (status ≡ wanted) ⊎ (status ≡ NoMemory)) → Decides id bytes status
node_decides id bytes status v node ends = record {
  too_long = λ h. absurd (omega (arith, h, node.short));
  unreadable = λ h u. absurd (u node.accepted.value node.accepted.reads);
  refused = λ h rule place r. absurd (not_both (first_line bytes) node.sc rule place node.accepted r);
  foreign = λ h sc a none. absurd (not_foreign (first_line bytes) id node.sc sc node.accepted node.below a none);
  node = λ h sc a b few wanted all. ends few wanted all;
}

ends_so : (id : ℕ) (bytes text : List ℕ) (status : Status) (v : LiveView capacity) → IsNode (first_line bytes) id v → ending_of v first_event (behind_first bytes) ≡ record { status = status; text = text } → Decides id bytes status
ends_so id bytes text status v node is = node_decides id bytes status v node (λ few wanted all. inl (sym (ap (λ (e : Ending). e.status) is) ∙ all v node))

too_long : (id : ℕ) (bytes : List ℕ) → scenario_limit < length (first_line bytes) → Decides id bytes TooLong
too_long id bytes long = record {
  too_long = λ h. inl refl;
  unreadable = λ h u. absurd (omega (arith, h, long));
  refused = λ h rule place r. absurd (omega (arith, h, long));
  foreign = λ h sc a none. absurd (omega (arith, h, long));
  node = λ h sc a b few wanted all. absurd (omega (arith, h, long));
}

unreadable : (id : ℕ) (bytes : List ℕ) → length (first_line bytes) ≤ scenario_limit → IsUnreadable (first_line bytes) → Decides id bytes Unreadable
unreadable id bytes short u = record {
  too_long = λ h. absurd (omega (arith, h, short));
  unreadable = λ h w. inl refl;
  refused = λ h rule place r. absurd (u r.value r.reads);
  foreign = λ h sc a none. absurd (u a.value a.reads);
  node = λ h sc a b few wanted all. absurd (u a.value a.reads);
}

cause_reads : (line : List ℕ) (id rule place : ℕ) → IsRefusedText line rule place ⊎ IsForeign line id rule place → IsUnreadable line → ⊥
cause_reads line id rule place (inl r) u = u r.value r.reads
cause_reads line id rule place (inr f) u = u f.accepted.value f.accepted.reads

cause_no_node : (line : List ℕ) (id rule place : ℕ) (sc : ScenarioView capacity) → IsRefusedText line rule place ⊎ IsForeign line id rule place → IsAcceptedText line sc → id < sc.config.nodes → ⊥
cause_no_node line id rule place sc (inl r) a below = not_both line sc rule place a r
cause_no_node line id rule place sc (inr f) a below = not_foreign line id sc f.sc a below f.accepted f.none

refused : (id : ℕ) (bytes : List ℕ) (rule place : ℕ) → length (first_line bytes) ≤ scenario_limit → IsRefusedText (first_line bytes) rule place ⊎ IsForeign (first_line bytes) id rule place → Decides id bytes Refused
refused id bytes rule place short cause = record {
  too_long = λ h. absurd (omega (arith, h, short));
  unreadable = λ h u. absurd (cause_reads (first_line bytes) id rule place cause u);
  refused = λ h q p r. inl refl;
  foreign = λ h sc a none. inl refl;
  node = λ h sc a b few wanted all. absurd (cause_no_node (first_line bytes) id rule place sc cause a b);
}

-- the outcome of an input is what its bytes decide
pub decides : (id : ℕ) (bytes : List ℕ) (status : Status) (text : List ℕ) → IsOutcome id bytes status text → Decides id bytes status
decides id bytes Done text o = ends_so id bytes text Done o.0 o.1 o.2
decides id bytes Unreadable text o = unreadable id bytes o.0 o.1
decides id bytes Refused text (inl r) = refused id bytes r.rule r.place r.short r.cause
decides id bytes Refused text (inr o) = ends_so id bytes text Refused o.0 o.1 o.2
decides id bytes TooLong text (inl long) = too_long id bytes long.0
decides id bytes TooLong text (inr (inl o)) = ends_so id bytes text TooLong o.0 o.1 o.2
decides id bytes TooLong text (inr (inr e)) = node_decides id bytes TooLong e.v e.node (λ few wanted all. absurd (omega (arith, few, e.many)))
decides id bytes Usage text o = absurd o
decides id bytes ReadFault text o = absurd o
decides id bytes WriteFault text o = absurd o
decides id bytes NoMemory text o = absurd o

-- what holds of the bytes of the input holds of those that were left, where they are told
pub of_told : (id : ℕ) (left : Option (List ℕ)) (bytes : List ℕ) (status : Status) → IfSome left (λ xs. bytes ≡ xs) → Decides id bytes status → IfSome left (λ xs. Decides id xs status)
of_told id None bytes status h d = tt
of_told id (Some xs) bytes status h d = subst (λ ys. Decides id ys status) h d
