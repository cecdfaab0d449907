use Rattle.std.proofs.Common.{◌≡◌, ◌<◌, ◌≤◌, ◌+◌, false, drop, length, refl, sym, ap, subst, ◌∙◌, inl, inr, lit<, arith}
use Rattle.std.specs.Prelude.{All}
use Rattle.std.proofs.lemmas.List.Elements.{All-nil}
use Rattle.node_alone.specs.Log.{is_before}
use Rattle.node_alone.specs.Tabled.{delivery_view}
use Rattle.node_alone.proofs.Ordering.{none_before}
use Rattle.node_alone.proofs.Left.{nothing_left, given_next, rest_next, later_next, left, ready_next, other_at, given_all, rest_all}
use Rattle.node_alone.proofs.delivering.deliver_slot.Goals as goal
use Rattle.node_alone.proofs.delivering.deliver_slot.Goals.{then-entry-period-via-then-entry-period, then-entry-period-via-else-entry-period+then-entry-slot}

pub loop-place-init : goal.loop-place-init
loop-place-init g c = record {
  given = refl;
  ready = c.requires.ready;
  rest = refl;
  later = subst (All (λ e. is_before c.args.period c.args.slot e ≡ false)) (sym c.requires.rest) (none_before c.args.period c.args.slot c.args.entries.now);
}

pub returns-then-entry-period-clause-given : goal.returns-then-entry-period-clause-given
returns-then-entry-period-clause-given g c =
    let long = c.len-place-end.ensures in
    let test = c.loop-place-test.true in
    let low : c.loop-place.place < length c.args.entries.now = omega (arith, long, test) in
    let x = delivery_view c.entry-entry.result in
    let off : x.period ≡ c.args.period → x.slot ≡ c.args.slot → ⊥ = elim c.then-entry-period.branch [
      | then-entry-period-via-then-entry-period w ↦ λ a b. w.if-entry-period.true a
      | then-entry-period-via-else-entry-period+then-entry-slot w ↦ λ a b. w.if-entry-slot.true b
    ] in
    given_all c.args.period c.args.slot c.args.next c.loop-place.place c.args.entries.now c.requires.rest
    (left c.args.period c.args.slot c.loop-place.place c.args.entries.now x low c.entry-entry.ensures c.requires.ascends c.loop-place.invariant.later off) c.args.node.now c.loop-place.node c.loop-place.invariant.given

pub returns-then-entry-period-clause-rest : goal.returns-then-entry-period-clause-rest
returns-then-entry-period-clause-rest g c =
    let long = c.len-place-end.ensures in
    let test = c.loop-place-test.true in
    let low : c.loop-place.place < length c.args.entries.now = omega (arith, long, test) in
    let x = delivery_view c.entry-entry.result in
    let off : x.period ≡ c.args.period → x.slot ≡ c.args.slot → ⊥ = elim c.then-entry-period.branch [
      | then-entry-period-via-then-entry-period w ↦ λ a b. w.if-entry-period.true a
      | then-entry-period-via-else-entry-period+then-entry-slot w ↦ λ a b. w.if-entry-slot.true b
    ] in
    rest_all c.args.period c.args.slot c.args.next c.loop-place.place c.args.entries.now c.requires.rest
    (left c.args.period c.args.slot c.loop-place.place c.args.entries.now x low c.entry-entry.ensures c.requires.ascends c.loop-place.invariant.later off) c.loop-place.invariant.rest

pub deliver-requires : goal.deliver-requires
deliver-requires g c =
    let long = c.len-place-end.ensures in
    let test = c.loop-place-test.true in
    let low : c.loop-place.place < length c.args.entries.now = omega (arith, long, test) in
    let o = other_at c.loop-place.node c.args.entries.now c.loop-place.place (delivery_view c.entry-entry.result) low c.entry-entry.ensures c.loop-place.invariant.ready in
    (elim g.bound-1.eight_or_sixteen [ inl e ↦ rw e (lit< tt) | inr e ↦ rw e (lit< tt) ], (c.loop-place.invariant.ready.is_open, (o.from, o.other)))

pub loop-place-preserved : goal.loop-place-preserved
loop-place-preserved g c =
    let long = c.len-place-end.ensures in
    let test = c.loop-place-test.true in
    let low : c.loop-place.place < length c.args.entries.now = omega (arith, long, test) in
    let p = c.args.period in
    let t = c.args.slot in
    let k = c.loop-place.place in
    let xs = c.args.entries.now in
    let x = delivery_view c.entry-entry.result in
    record {
      given = given_next p t k xs x low c.entry-entry.ensures c.if-entry-period.false c.if-entry-slot.false c.loop-place.node c.deliver.new.self c.deliver.ensures ∙ c.loop-place.invariant.given;
      ready = ready_next c.loop-place.node c.deliver.new.self x.from x.tick x.bytes xs c.deliver.ensures c.loop-place.invariant.ready;
      rest = rest_next p t k xs x low c.entry-entry.ensures c.if-entry-period.false c.if-entry-slot.false ∙ c.loop-place.invariant.rest;
      later = later_next p t k xs x low c.entry-entry.ensures c.loop-place.invariant.later;
    }

pub returns-clause-given : goal.returns-clause-given
returns-clause-given g c =
    let long = c.len-place-end.ensures in
    let test = c.loop-place-test.false in
    let over : length c.args.entries.now ≤ c.loop-place.place = omega (arith, long, test) in
    let late : All (λ e. is_before c.args.period (c.args.slot + 1) e ≡ false) (drop c.loop-place.place c.args.entries.now) =
    subst (All (λ e. is_before c.args.period (c.args.slot + 1) e ≡ false)) (sym (nothing_left c.args.entries.now c.loop-place.place over)) (All-nil (λ e. is_before c.args.period (c.args.slot + 1) e ≡ false)) in
    given_all c.args.period c.args.slot c.args.next c.loop-place.place c.args.entries.now c.requires.rest late c.args.node.now c.loop-place.node c.loop-place.invariant.given

pub returns-clause-rest : goal.returns-clause-rest
returns-clause-rest g c =
    let long = c.len-place-end.ensures in
    let test = c.loop-place-test.false in
    let over : length c.args.entries.now ≤ c.loop-place.place = omega (arith, long, test) in
    let late : All (λ e. is_before c.args.period (c.args.slot + 1) e ≡ false) (drop c.loop-place.place c.args.entries.now) =
    subst (All (λ e. is_before c.args.period (c.args.slot + 1) e ≡ false)) (sym (nothing_left c.args.entries.now c.loop-place.place over)) (All-nil (λ e. is_before c.args.period (c.args.slot + 1) e ≡ false)) in
    ap (λ n. drop n c.args.entries.now) c.len.ensures ∙ nothing_left c.args.entries.now (length c.args.entries.now) (omega arith) ∙ sym (nothing_left c.args.entries.now c.loop-place.place over)
    ∙ rest_all c.args.period c.args.slot c.args.next c.loop-place.place c.args.entries.now c.requires.rest late c.loop-place.invariant.rest

pub loop-place-smaller : goal.loop-place-smaller
loop-place-smaller g c = omega (arith, c.loop-place-test.true)

pub entry-entry-requires : goal.entry-entry-requires
entry-entry-requires g c = omega (arith, c.len-place-end.ensures, c.loop-place-test.true)

pub len-place-end-requires : goal.len-place-end-requires
len-place-end-requires g c = tt

pub len-requires : goal.len-requires
len-requires g c = tt
