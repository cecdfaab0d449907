-- In a run, each node has of the others' values what follows from how all go into the data slot.
use Rattle.std.proofs.Common.{ℕ, ◌≡◌, ◌<◌, ◌+◌, true, List, [], map, length, refl, sym, ap, ap₂, subst, ◌∙◌, inl, inr, arith, Option, None, Some, ℤ}
use Rattle.std.specs.Prelude.{is_some}
use Rattle.std.proofs.lemmas.Bool.{cases_Bool, cond-true, cond-false}
use Rattle.node_grid.specs.NodeSet.{has_id}
use Rattle.frames.specs.Content.{Content, Expectation}
use Rattle.frames.specs.Content.Content.{Data, Cold}
use Rattle.frames.specs.Spelling.{IsInRange}
use Rattle.fault_classes.specs.Change.{Change}
use Rattle.fault_classes.specs.Line.{effect_at}
use Rattle.fault_classes.specs.Plan.{Plan}
use Rattle.agreed_state.specs.declared.config.Inputs.{Inputs}
use Rattle.agreed_state.specs.Agreed.{AgreedView}
use Rattle.protocol.specs.Accepted.{IsAccepted}
use Rattle.protocol.specs.Arrival.{values_in}
use Rattle.protocol.specs.Configured.{setting_of}
use Rattle.protocol.specs.Talk.{arrives}
use Rattle.protocol.specs.View.{Setting, Kept, Received, own_in, own_values, through, view_from}
use Rattle.protocol.specs.Run.{System, full_at, so_far, after_done, members_of, due_of, values_said, goes_in, run}
use Rattle.safety.proofs.Induction.{state_laws}
use Rattle.safety.proofs.Runs.{values_range}
use Rattle.told_values.specs.Slot.{DataView, own_of, said, expects, change_to, values_at}
use Rattle.told_values.specs.Law.{IsSlotOf, HearsLaw}
use Rattle.told_values.proofs.Expected.{expected_in, expectation_is, arrives_same, range_same}

-- a full node's own values are those that it works out as the period begins
own_is : (s : Setting) (i p : ℕ) (g : Inputs) (k : Kept) (x : Received) (o : Option AgreedView) → is_some o ≡ true → (view_from s i p g k x o).own ≡ own_values s i p g k
unfolding through
own_is s i p g k x (Some a) full = refl
own_is s i p g k x None full = cc

module _ {n : ℕ} (sys : System) (given : IsAccepted sys) (p : ℕ) (d : DataView n) (of : IsSlotOf sys p d) where
  abbrev k : ℕ → Kept
  k = goes_in sys p

  nodes_are : sys.setting.config.nodes ≡ d.config.nodes
  nodes_are = ap (λ (s : Setting). s.config.nodes) of.setting

  -- each says what it says in the run
  said_is : (j : ℕ) → j < d.config.nodes → values_said sys p (goes_in sys p) j ≡ said d j
  said_is j low = elim (cases_Bool (full_at sys p (goes_in sys p) j)) [
    | inl full ↦
        cond-true (full_at sys p (goes_in sys p) j) (Data (map (own_in (so_far sys p (goes_in sys p) j (after_done sys p (goes_in sys p) j)).own) (due_of sys p (goes_in sys p) j))) Cold full
        ∙ ap₂ (λ (own : List (Option ℤ)) (due : List ℕ). Data (map (own_in own) due))
        (own_is sys.setting j p (sys.inputs j p) (goes_in sys p j) (after_done sys p (goes_in sys p) j) (goes_in sys p j).state full ∙ sym (of.own j low full))
        (sym (of.due j low))
        ∙ sym (cond-true (has_id d.full j) (Data (map (own_in (own_of d j)) (d.due j))) Cold (of.full j low ∙ full))
    | inr idle ↦
        cond-false (full_at sys p (goes_in sys p) j) (Data (map (own_in (so_far sys p (goes_in sys p) j (after_done sys p (goes_in sys p) j)).own) (due_of sys p (goes_in sys p) j))) Cold idle
        ∙ sym (cond-false (has_id d.full j) (Data (map (own_in (own_of d j)) (d.due j))) Cold (of.full j low ∙ idle))
  ]

  -- what a node with so many due channels expects of node j
  expects_same : (j due : ℕ) → expected_in sys.setting p j [] due ≡ expected_in (setting_of d.config) d.period j [] due
  expects_same j due = ap₂ (λ (s : Setting) (q : ℕ). expected_in s q j [] due) of.setting of.period

  expects_is : (j i : ℕ) → i < d.config.nodes → expected_in sys.setting p j [] (length (due_of sys p (goes_in sys p) i)) ≡ expects d j i
  expects_is j i low =
      ap (λ (ds : List ℕ). expected_in sys.setting p j [] (length ds)) (sym (of.due i low)) ∙ expects_same j (length (d.due i))
      ∙ sym (expectation_is (setting_of d.config) d.period j (length (d.due i)))

  in_range : (j : ℕ) → j < d.config.nodes → IsInRange (expects d j j) (said d j)
  in_range j low =
      subst (λ (e : Expectation). IsInRange e (said d j)) (expects_is j j low)
      (subst (IsInRange (expected_in sys.setting p j [] (length (due_of sys p (goes_in sys p) j)))) (said_is j low)
      (range_same sys.setting p j (members_of sys p (goes_in sys p) j) (length (due_of sys p (goes_in sys p) j)) (full_at sys p (goes_in sys p) j) _
      (values_range sys given (state_laws sys.setting given.capacity given.config) p j (let e = nodes_are in omega arith))))

  change_is : (j i : ℕ) → effect_at sys.plan.lines p (sys.setting.config.m + 2) j i ≡ change_to d j i
  change_is j i =
      ap₂ (λ (plan : Plan) (s : Setting). effect_at plan.lines p (s.config.m + 2) j i) of.plan of.setting
      ∙ ap (λ (q : ℕ). effect_at d.plan.lines q (d.config.m + 2) j i) of.period

  values_are : (i j : ℕ) → i < d.config.nodes → j < d.config.nodes → ((run sys).received i p).values j ≡ values_at d j i
  values_are i j low_i low_j =
      arrives_same sys.setting p j (members_of sys p (goes_in sys p) j) (members_of sys p (goes_in sys p) i) (length (due_of sys p (goes_in sys p) j)) (length (due_of sys p (goes_in sys p) i))
      (effect_at sys.plan.lines p (sys.setting.config.m + 2) j i) (values_said sys p (goes_in sys p) j)
      ∙ ap₂ (λ (l : Option Change) (c : Content). arrives values_in l (expected_in sys.setting p j [] (length (due_of sys p (goes_in sys p) j))) (expected_in sys.setting p j [] (length (due_of sys p (goes_in sys p) i))) c)
      (change_is j i) (said_is j low_j)
      ∙ ap₂ (λ (a b : Expectation). arrives values_in (change_to d j i) a b (said d j)) (expects_is j j low_j) (expects_is j i low_i)

pub hears_law : HearsLaw
hears_law n sys given p d of i low = record { in_range = in_range sys given p d of; values = λ j low_j ne. values_are sys given p d of i j low low_j }
