use Rattle.std.proofs.Common.{sym, ap, ◌∙◌, map}
use Rattle.std.specs.Prelude.{option_map}
use Rattle.node_alone.specs.Rules.{is_entry, entry_of, first_bad_entry}
use Rattle.node_alone.specs.Seen.{part_view, limits_view, entry_view}
use Rattle.node_alone.proofs.Judged.{part_at, is_there, some_entry, no_entry, next_found, next_left, bad_here, back_here}
use Rattle.node_alone.proofs.judging.entries.Goals as goal

pub returns-in_default-next-clause-refused : goal.returns-in_default-next-clause-refused
returns-in_default-next-clause-refused c =
    let parts = c.args.parts.now in
    let l = limits_view c.args.limits.now in
    let part = part_at parts c.loop-place.place in
    let is = is_there parts c.loop-place.place c.loop-place-test.true in
    let bad = no_entry (is_entry l (part_view part)) c.in-Ok-entry.next (entry_of (part_view part)) c.in-Ok-entry.ensures c.in_default-next.not-Some in
    bad_here parts c.loop-place.place part c.loop-place-test.true is l c.loop-place.period c.loop-place.slot (first_bad_entry l 0 0 0 (map part_view parts)) c.refused.result bad c.loop-place.invariant.left c.refused.ensures

pub returns-then-is_before-clause-refused : goal.returns-then-is_before-clause-refused
returns-then-is_before-clause-refused c =
    let parts = c.args.parts.now in
    let l = limits_view c.args.limits.now in
    let part = part_at parts c.loop-place.place in
    let is = is_there parts c.loop-place.place c.loop-place-test.true in
    let x = c.in-Some.entry in
    let w = some_entry (is_entry l (part_view part)) (entry_view x) (entry_of (part_view part)) (sym (ap (option_map entry_view) c.in-Some.is) ∙ c.in-Ok-entry.ensures) in
    back_here parts c.loop-place.place part c.loop-place-test.true is l c.loop-place.period c.loop-place.slot x (first_bad_entry l 0 0 0 (map part_view parts)) c.refused-then-is_before.result w.0 w.1 (sym c.is_before.ensures ∙ c.if-is_before.true) c.loop-place.invariant.left c.refused-then-is_before.ensures

pub loop-place-preserved : goal.loop-place-preserved
loop-place-preserved c =
    let parts = c.args.parts.now in
    let l = limits_view c.args.limits.now in
    let k = c.loop-place.place in
    let part = part_at parts c.loop-place.place in
    let is = is_there parts c.loop-place.place c.loop-place-test.true in
    let x = c.in-Some.entry in
    let w = some_entry (is_entry l (part_view part)) (entry_view x) (entry_of (part_view part)) (sym (ap (option_map entry_view) c.in-Some.is) ∙ c.in-Ok-entry.ensures) in
    record {
      so_far = next_found parts k part c.loop-place-test.true is c.loop-place.found c.push.new.self (entry_view x) c.in-Ok-push.ensures w.1 c.loop-place.invariant.so_far;
      left = next_left parts k part c.loop-place-test.true is l c.loop-place.period c.loop-place.slot x w.0 w.1 (sym c.is_before.ensures ∙ c.if-is_before.false) ∙ c.loop-place.invariant.left;
    }
