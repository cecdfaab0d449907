use Rattle.std.proofs.Common.{◌≡◌, ℕ, ◌+◌, ◌<◌, ◌≤◌, List, length, replicate, get_or, set, slice_get, slice_index_or, sym, ap, ◌∙◌, inl, inr, arith, lit<, length-set, get_or-set_same, get_or-set_other}
use Rattle.std.proofs.lemmas.List.{get_or_default, length-replicate}
use Rattle.node_grid.specs.declared.class.Class.{Class}
use Rattle.node_grid.specs.declared.class.Class.TheVariants.{A}
use Rattle.node_grid.specs.Class.{is_nonfaulty}
use Rattle.node_grid.specs.NumberFacts.{fewer_left}
use Rattle.fault_classes.specs.Plan.{sound_before, steady, class_of}
use Rattle.fault_classes.specs.ClassLaws.{nonfaulty_is}
use Rattle.fault_classes.proofs.Sets.{first_where}
use Rattle.std.proofs.lemmas.Bool.{cases_eq}
use Rattle.fault_classes.proofs.standing.PeriodLines.standing.Goals as goal

one_more : (f : ℕ → Class) (xs : List Class) (k : ℕ) (x : Class) → k < length xs → x ≡ f k → ((j : ℕ) → j < k → slice_index_or xs j A ≡ f j) → (j : ℕ) → j < k + 1 → slice_index_or (set xs k x) j A ≡ f j
one_more f xs k x within e before j low = elim (cases_eq j k) [
  | inl same ↦ ap (λ i. get_or (set xs k x) i A) same ∙ get_or-set_same xs k x A within ∙ e ∙ ap f (sym same)
  | inr ne ↦ get_or-set_other xs k j x A ne ∙ before j (omega arith)
]

none_yet : (f : ℕ → Class) (xs : List Class) (j : ℕ) → j < 0 → slice_index_or xs j A ≡ f j
none_yet f xs j h = absurd (omega arith)

has_room : (k end nodes cap len : ℕ) → k < end → end ≡ nodes → nodes ≤ cap → len ≡ cap → (k < nodes) × (k < cap) × (k < len)
has_room k end nodes cap len a b c d = (omega arith, omega arith, omega arith)

pub returns : goal.returns
returns g c =
    let plan = c.args.self.now.index.now in
    let p = c.args.self.now.period in
    record {
      unharmed = c.args.self.now.unharmed;
      classed = λ j d h. get_or_default c.loop-node.classes j d A (omega (arith, c.loop-node.invariant.long, c.nodes-node-end.ensures.shape.few_nodes)) ∙ c.loop-node.invariant.classed j (omega arith);
      least = c.least.ensures.first ∙ ap (λ s. slice_get s 0) c.steady_nodes-good.ensures
          ∙ first_where (steady plan p (sound_before plan p)) (λ j. is_nonfaulty (class_of plan p j)) plan.nodes (λ k h. sym (nonfaulty_is plan p k h));
    }

pub loop-node-init : goal.loop-node-init
loop-node-init g c = record { long = length-replicate g.row.N A; classed = none_yet (class_of c.args.self.now.index.now c.args.self.now.period) (replicate g.row.N A) }

pub class_of-requires : goal.class_of-requires
class_of-requires g c =
    let low = has_room c.loop-node.node c.nodes-node-end.result c.args.self.now.index.now.nodes g.row.N (length c.loop-node.classes) c.loop-node-test.true c.nodes-node-end.ensures.nodes c.nodes-node-end.ensures.shape.few_nodes c.loop-node.invariant.long in
    (lit< tt, (lit< tt, (low.0, c.steady_nodes-good.ensures)))

pub bounds-classes-node : goal.bounds-classes-node
bounds-classes-node g c =
    (has_room c.loop-node.node c.nodes-node-end.result c.args.self.now.index.now.nodes g.row.N (length c.loop-node.classes) c.loop-node-test.true c.nodes-node-end.ensures.nodes c.nodes-node-end.ensures.shape.few_nodes c.loop-node.invariant.long).1

pub loop-node-preserved : goal.loop-node-preserved
loop-node-preserved g c =
    let low = has_room c.loop-node.node c.nodes-node-end.result c.args.self.now.index.now.nodes g.row.N (length c.loop-node.classes) c.loop-node-test.true c.nodes-node-end.ensures.nodes c.nodes-node-end.ensures.shape.few_nodes c.loop-node.invariant.long in
    record {
      long = length-set c.loop-node.classes c.loop-node.node c.class_of.result ∙ c.loop-node.invariant.long;
      classed = one_more (class_of c.args.self.now.index.now c.args.self.now.period) c.loop-node.classes c.loop-node.node c.class_of.result low.2 c.class_of.ensures c.loop-node.invariant.classed;
    }

pub loop-node-smaller : goal.loop-node-smaller
loop-node-smaller g c = fewer_left c.nodes-node-end.result c.loop-node.node c.loop-node-test.true

pub least-requires : goal.least-requires
least-requires g c = lit< tt
