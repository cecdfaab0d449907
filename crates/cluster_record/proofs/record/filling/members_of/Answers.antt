use Rattle.std.proofs.Common.{◌≡◌, [], refl, sym, ap, subst, ◌∙◌, inl, inr, lit<, arith}
use Rattle.std.proofs.lemmas.Option.{slice_get_past, slice_get_read}
use Rattle.node_steps.specs.Outcome.{Outcome}
use Rattle.cluster_record.specs.Filling.{members_by, members_shown}
use Rattle.cluster_record.proofs.Members.{shown_without, shown_with, of_full, of_another}
use Rattle.cluster_record.proofs.record.filling.members_of.Goals as goal

pub get-requires : goal.get-requires
get-requires g c = λ k. (refl, tt)

pub returns-in_default : goal.returns-in_default
returns-in_default g c = c.empty.ensures ∙ sym (ap (members_shown c.args.records.now) c.in_default.is)

pub returns-in_default-get : goal.returns-in_default-get
returns-in_default-get g c = c.empty-in_default-get.ensures ∙ sym (shown_without c.args.records.now c.args.reference c.in-Some.node c.in-Some.is (slice_get_past c.args.records.now c.in-Some.node c.in_default-get.ensures.lookup.3))

pub returns-then-eq : goal.returns-then-eq
returns-then-eq g c =
    let at = slice_get_read c.args.records.now _ c.in-Some.node c.in-Some-get.record.now refl c.in-Some-get.ensures.lookup.3.0 c.in-Some-get.ensures.lookup.1 in
    subst (λ (o : Outcome). c.record.inside.members ≡ members_by o.mode o.members) c.record.view_is (of_full c.record.inside.mode c.record.inside.members (sym c.eq.ensures ∙ c.if-eq.true))
    ∙ sym (shown_with c.args.records.now c.args.reference c.in-Some.node c.in-Some-get.record.now c.in-Some.is at)

pub returns-else-eq : goal.returns-else-eq
returns-else-eq g c =
    let at = slice_get_read c.args.records.now _ c.in-Some.node c.in-Some-get.record.now refl c.in-Some-get.ensures.lookup.3.0 c.in-Some-get.ensures.lookup.1 in
    c.empty-else-eq.ensures
    ∙ sym (subst (λ (o : Outcome). members_by o.mode o.members ≡ []) c.record.view_is (of_another c.record.inside.mode c.record.inside.members (sym c.eq.ensures ∙ c.if-eq.false)))
    ∙ sym (shown_with c.args.records.now c.args.reference c.in-Some.node c.in-Some-get.record.now c.in-Some.is at)

pub empty-requires : goal.empty-requires
empty-requires g c = (lit< tt, elim g.bound-1.eight_or_sixteen [ inl e ↦ omega (arith, e) | inr e ↦ omega (arith, e) ])

pub empty-requires-else-eq : goal.empty-requires-else-eq
empty-requires-else-eq g c = (lit< tt, elim g.bound-1.eight_or_sixteen [ inl e ↦ omega (arith, e) | inr e ↦ omega (arith, e) ])

pub empty-requires-in_default-get : goal.empty-requires-in_default-get
empty-requires-in_default-get g c = (lit< tt, elim g.bound-1.eight_or_sixteen [ inl e ↦ omega (arith, e) | inr e ↦ omega (arith, e) ])

pub eq-requires : goal.eq-requires
eq-requires g c = tt
