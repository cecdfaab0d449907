use Rattle.std.proofs.Common.{◌≡◌, rules, sym, ap, subst, ◌∙◌, inl, inr, lit<, arith, map}
use Rattle.json_parts.specs.Meaning.{view}
use Rattle.scenario.specs.Rules.{at_place}
use Rattle.scenario.specs.Verdict.{Tells}
use Rattle.node_alone.specs.Rules.{Limits, entry_of, first_bad_entry}
use Rattle.node_alone.specs.Seen.{part_view, limits_view, parts_view}
use Rattle.node_alone.proofs.Accepted.{no_parts, no_node, entry_refused, accepted, is_record}
use Rattle.node_alone.proofs.record.Record.from_value.Goals as goal

pub returns-in-Err-NoPart-clause-refused : goal.returns-in-Err-NoPart-clause-refused
returns-in-Err-NoPart-clause-refused g c = no_parts g.row.N c.args.id (view c.args.value.now) (search rules)

pub from_value-requires : goal.from_value-requires
from_value-requires g c = elim g.bound-1.eight_or_sixteen [ inl e ↦ rw e (lit< tt) | inr e ↦ rw e (lit< tt) ]

pub limits_of-limits-requires : goal.limits_of-limits-requires
limits_of-limits-requires g c = elim g.bound-1.eight_or_sixteen [ inl e ↦ rw e (lit< tt) | inr e ↦ rw e (lit< tt) ]

pub returns-then-id-limits-clause-refused : goal.returns-then-id-limits-clause-refused
returns-then-id-limits-clause-refused g c =
    let nodes : c.limits_of-limits.result.nodes ≡ c.in-Ok-from_value.scenario.config.nodes = ap (λ (l : Limits). l.nodes) c.limits_of-limits.ensures in
    no_node g.row.N c.args.id (view c.args.value.now) (parts_view c.in-Ok.parts) (sym c.in-Ok.ensures) c.in-Ok-from_value.scenario c.in-Ok-from_value.ensures.accepted (omega (arith, nodes, c.if-id-limits.true))

pub invariant_of-result : goal.invariant_of-result
invariant_of-result g c =
    let parts = parts_view c.in-Ok.parts in
    let nodes : c.limits_of-limits.result.nodes ≡ c.in-Ok-from_value.scenario.config.nodes = ap (λ (l : Limits). l.nodes) c.limits_of-limits.ensures in
    is_record g.row.N c.args.id (view c.args.value.now) parts (sym c.in-Ok.ensures) c.in-Ok-from_value.scenario c.in-Ok-from_value.ensures.accepted (omega (arith, nodes, c.if-id-limits.false))
    (limits_view c.limits_of-limits.result) c.limits_of-limits.ensures (ap (λ xs. first_bad_entry (limits_view c.limits_of-limits.result) 0 0 0 (map part_view xs)) (sym c.as_slice.ensures.value) ∙ c.in-Ok-entries.ensures.accepted)
    c.in-Ok-entries.entries (c.in-Ok-entries.ensures.says ∙ ap (λ xs. map entry_of (map part_view xs)) c.as_slice.ensures.value) c.in-Ok-from_value.ensures.system

pub returns-clause-accepted : goal.returns-clause-accepted
returns-clause-accepted g c =
    let parts = parts_view c.in-Ok.parts in
    let nodes : c.limits_of-limits.result.nodes ≡ c.in-Ok-from_value.scenario.config.nodes = ap (λ (l : Limits). l.nodes) c.limits_of-limits.ensures in
    accepted g.row.N c.args.id (view c.args.value.now) parts (sym c.in-Ok.ensures) c.in-Ok-from_value.scenario c.in-Ok-from_value.ensures.accepted (omega (arith, nodes, c.if-id-limits.false))
    (limits_view c.limits_of-limits.result) c.limits_of-limits.ensures (ap (λ xs. first_bad_entry (limits_view c.limits_of-limits.result) 0 0 0 (map part_view xs)) (sym c.as_slice.ensures.value) ∙ c.in-Ok-entries.ensures.accepted)
    c.in-Ok-entries.entries (c.in-Ok-entries.ensures.says ∙ ap (λ xs. map entry_of (map part_view xs)) c.as_slice.ensures.value)

pub returns-in-Err-entries-clause-refused : goal.returns-in-Err-entries-clause-refused
returns-in-Err-entries-clause-refused g c =
    let parts = parts_view c.in-Ok.parts in
    let nodes : c.limits_of-limits.result.nodes ≡ c.in-Ok-from_value.scenario.config.nodes = ap (λ (l : Limits). l.nodes) c.limits_of-limits.ensures in
    entry_refused g.row.N c.args.id (view c.args.value.now) parts (sym c.in-Ok.ensures) c.in-Ok-from_value.scenario c.in-Ok-from_value.ensures.accepted (omega (arith, nodes, c.if-id-limits.false))
    (limits_view c.limits_of-limits.result) c.in-Err-entries.error c.limits_of-limits.ensures
    (subst (λ xs. Tells (at_place 17 (first_bad_entry (limits_view c.limits_of-limits.result) 0 0 0 (map part_view xs))) c.in-Err-entries.error) c.as_slice.ensures.value c.in-Err-entries.ensures.refused)
