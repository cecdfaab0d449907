use Rattle.std.proofs.Common.{◌≡◌, ◌<◌, ◌||◌, ◌++◌, ◌∷◌, [], ℕ, List, Bool, true, sym, ap, ◌∙◌, inl, inr, arith, eq-eqb, eqb-true, append_assoc, append-nil}
use Rattle.std.specs.Prelude.{◌==◌}
use Rattle.std.proofs.lemmas.Bool.{cases_Bool, cases_eq, or_left, or_right, or_cases, false≢true}
use Rattle.node_grid.specs.NodeSet.{has_id}
use Rattle.node_grid.specs.ListLaws.{has_push}
use Rattle.node_grid.specs.NodeSetLaws.{not_all_ids}
use Rattle.node_grid.specs.NumberFacts.{other_fails}
use Rattle.node_grid.specs.SetFacts.{all_ids}
use Rattle.fault_classes.specs.Change.{change_of, is_untouched}
use Rattle.fault_classes.specs.Facts.{change_touches}
use Rattle.told_values.specs.Slot.{slot_of, change_to}
use Rattle.told_values.proofs.Arriving.{untouched_of}
use Rattle.told_values.proofs.slot.DataSlot.is_untouched.Goals.{else-j-i-via-then-j-i+else-j-nodes, else-j-i-via-else-j-i}
use Rattle.told_values.proofs.slot.DataSlot.is_untouched.Goals as goal

pub loop-j-init : goal.loop-j-init
loop-j-init g c = record {
  can = tt;
  ends = tt;
  split = sym (c.into_iter-j-iterator.ensures.into_iter_gives ∙ c.iter-j-items.ensures.members ∙ c.touched-touched.ensures);
  untouched = λ k on low. absurd (false≢true on);
}

pub loop-j-preserved : goal.loop-j-preserved
loop-j-preserved g c =
    let d = slot_of g.D.Dues.dues c.args.self.now in
    let i : ℕ = c.args.i in
    let j : ℕ = c.in-Some.j in
    let ys : List ℕ = c.loop-j.yielded in
    let inv = c.loop-j.invariant in
    let test : ℕ → Bool = λ k. k == i || is_untouched (change_to d k i) in
    let here : j < d.config.nodes → test j ≡ true = λ low. elim c.else-j-i.branch [
      | else-j-i-via-then-j-i+else-j-nodes w ↦ absurd (omega (arith, low, w.if-j-nodes.false, c.nodes-nodes.ensures.nodes))
      | else-j-i-via-else-j-i w ↦ or_left (j == i) _ (eq-eqb j i w.if-j-i.false)
    ] in
    record {
      can = tt;
      ends = tt;
      split = inv.split ∙ ap (λ (xs : List ℕ). ys ++ xs) c.in-Some.ensures.steps ∙ sym (append_assoc ys (j ∷ []) c.next.new.self);
      untouched = λ k on low. elim (or_cases (has_id ys k) (j == k) (sym (has_push ys j k) ∙ on)) [
        | inl was ↦ inv.untouched k was low
        | inr is ↦ let e : j ≡ k = eqb-true j k is in ap test (sym e) ∙ here (omega (arith, low, e))
      ];
    }

pub returns-then-is_some : goal.returns-then-is_some
returns-then-is_some g c =
    let d = slot_of g.D.Dues.dues c.args.self.now in
    let i : ℕ = c.args.i in
    let j : ℕ = c.in-Some.j in
    sym (not_all_ids (λ k. k == i || is_untouched (change_to d k i)) d.config.nodes j (let t = c.if-j-nodes.true in let n = c.nodes-nodes.ensures.nodes in omega arith)
    (other_fails j i (is_untouched (change_to d j i)) c.if-j-i.true (change_touches (λ e. change_of e.now) c.effect.result (change_to d j i) c.effect.ensures (sym c.is_some.ensures ∙ c.if-is_some.true))))

pub returns : goal.returns
returns g c =
    let d = slot_of g.D.Dues.dues c.args.self.now in
    let i : ℕ = c.args.i in
    let ys : List ℕ = c.loop-j.yielded in
    let inv = c.loop-j.invariant in
    let all : d.touched ≡ ys = inv.split ∙ ap (λ (xs : List ℕ). ys ++ xs) c.in-None.ensures.steps.0 ∙ append-nil ys in
    sym (all_ids (λ k. k == i || is_untouched (change_to d k i)) d.config.nodes (λ k low. elim (cases_Bool (has_id d.touched k)) [
      | inl on ↦ inv.untouched k (ap (λ (s : List ℕ). has_id s k) (sym all) ∙ on) low
      | inr off ↦ elim (cases_eq k i) [
        | inl e ↦ or_left (k == i) _ (eq-eqb k i e)
        | inr ne ↦ or_right (k == i) _ (ap is_untouched (untouched_of d c.nodes-nodes.ensures.slot k i low c.requires ne off))
      ]
    ]))
