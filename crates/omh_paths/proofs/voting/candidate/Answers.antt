use Rattle.std.proofs.Common.{◌≡◌, ◌+◌, ◌-◌, ◌<◌, ℕ, refl, false, List, [], ◌∷◌, ◌++◌, take, length, sym, ◌∙◌, subst, arith}
use Rattle.std.proofs.lemmas.List.{take_all}
use Rattle.omh_paths.specs.Wrapped.{is_error}
use Rattle.omh_paths.proofs.Candidates.{Leads, seen_more, seen_as, leads_none, leads_error, leads_first, leads_more, leads_less, only_candidate}
use Rattle.omh_paths.proofs.voting.candidate.Goals as goal
use Rattle.omh_paths.proofs.voting.candidate.Goals.{then-lead-eq0, else-lead-eq0+then-is, else-lead-eq0+else-is}

pub loop-value-init : goal.loop-value-init
loop-value-init g c = record { leads = leads_none g.V.PartialEq.eq; few = omega arith }

pub overflow_add-lead : goal.overflow_add-lead
overflow_add-lead g c = omega (arith, c.loop-value.invariant.few)

pub loop-value-preserved-then-is_error : goal.loop-value-preserved-then-is_error
loop-value-preserved-then-is_error g c =
    let here : c.loop-value.value-index < length c.args.values.now = omega arith in
    record {
      leads = seen_more g.V.PartialEq.eq c.args.values.now c.loop-value.value-index c.value-item.result c.loop-value.candidate c.loop-value.lead here c.value-item.is
          (leads_error g.met.V.Exact.exact _ c.loop-value.candidate c.value-item.result c.loop-value.lead c.loop-value.invariant.leads (sym c.is_error.ensures ∙ c.if-is_error.true));
      few = omega (arith, c.loop-value.invariant.few);
    }

pub loop-value-preserved : goal.loop-value-preserved
loop-value-preserved g c =
    let here : c.loop-value.value-index < length c.args.values.now = omega arith in
    let good : is_error c.value-item.result ≡ false = sym c.is_error.ensures ∙ c.if-is_error.false in
    let few = c.loop-value.invariant.few in
    let seen = take c.loop-value.value-index c.args.values.now in
    elim c.if-lead-eq0.branch [
      | then-lead-eq0 w ↦ record {
        leads = after g c here c.if-lead-eq0.candidate c.if-lead-eq0.lead c.value-item.result 1 w.candidate-is w.lead-is
            (leads_first g.met.V.Exact.exact _ c.loop-value.candidate c.value-item.result (lead_is g c 0 w.if-lead-eq0.true) good);
        few = omega (arith, few, w.lead-is);
      }
      | else-lead-eq0+then-is w ↦ record {
        leads = after g c here c.if-lead-eq0.candidate c.if-lead-eq0.lead c.loop-value.candidate (c.loop-value.lead + 1) w.candidate-is w.lead-is
            (leads_more g.met.V.Exact.exact _ c.loop-value.candidate c.value-item.result c.loop-value.lead c.loop-value.invariant.leads (sym w.is.ensures ∙ w.if-is.true));
        few = omega (arith, few, w.lead-is);
      }
      | else-lead-eq0+else-is w ↦ record {
        leads = after g c here c.if-lead-eq0.candidate c.if-lead-eq0.lead c.loop-value.candidate (c.loop-value.lead - 1) w.candidate-is w.lead-is
            (leads_less g.met.V.Exact.exact _ c.loop-value.candidate c.value-item.result c.loop-value.lead c.loop-value.invariant.leads (omega (arith, w.if-lead-eq0.false)) good (sym w.is.ensures ∙ w.if-is.false));
        few = omega (arith, few, w.lead-is);
      }
    ]
  where
    after : (g : _) (c : goal.Joined-lead-eq0 g) → c.loop-value.value-index < length c.args.values.now → (x : _) (n : ℕ) (y : _) (k : ℕ) → x ≡ y → n ≡ k
        → Leads g.V.PartialEq.eq (take c.loop-value.value-index c.args.values.now ++ c.value-item.result ∷ []) y k
        → Leads g.V.PartialEq.eq (take (c.loop-value.value-index + 1) c.args.values.now) x n
    after g c here x n y k ex en h =
        seen_as g.V.PartialEq.eq (take (c.loop-value.value-index + 1) c.args.values.now) x n y k ex en
        (seen_more g.V.PartialEq.eq c.args.values.now c.loop-value.value-index c.value-item.result y k here c.value-item.is h)

    lead_is : (g : _) (c : goal.Joined-lead-eq0 g) (k : ℕ) → c.loop-value.lead ≡ k → Leads g.V.PartialEq.eq (take c.loop-value.value-index c.args.values.now) c.loop-value.candidate k
    lead_is g c k e = seen_as g.V.PartialEq.eq (take c.loop-value.value-index c.args.values.now) c.loop-value.candidate k c.loop-value.candidate c.loop-value.lead refl (sym e) c.loop-value.invariant.leads

pub returns : goal.returns
returns g c =
    only_candidate g.met.V.Exact.exact c.args.values.now c.loop-value.candidate c.loop-value.lead
    (let P : List (_) → Type 0 = λ xs. Leads g.V.PartialEq.eq xs c.loop-value.candidate c.loop-value.lead in
    subst P (take_all c.loop-value.value-index c.args.values.now (omega (arith, c.loop-value-test.false))) c.loop-value.invariant.leads)
