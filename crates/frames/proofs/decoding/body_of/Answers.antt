use Rattle.std.proofs.Common.{◌≡◌, ℕ, ◌+◌, ◌*◌, true, length, get_or, sym, ◌∙◌, arith, subst, refl, lit<, lit≤, inl, inr}
use Rattle.std.proofs.lemmas.Bool.{and_parts, eqb-true, ne_eqb}
use Rattle.frames.specs.Content.{Expectation, State, Done0, DoneRelay, Data, Report0, ReportRelay, round_in}
use Rattle.frames.specs.Reading.{content_claims, content_values, content_row, content_rows}
use Rattle.frames.specs.Checks.{are_written, has_state, has_claim, has_claims, has_values, has_row, has_rows, IsBody}
use Rattle.frames.specs.Seen.{expected}
use Rattle.frames.specs.PieceLaws.{AreBytes}
use Rattle.frames.specs.EntryLaws.{claims_written, rows_written}
use Rattle.frames.proofs.Bodies.{state_decided, claim_decided, cold_told, nothing_cold, none_placed, kind_told, placed_round, whole_claims, whole_values, whole_row, claims_decided, values_decided, row_decided, rows_decided, nothing_told, body_told, whole_rows}
use Rattle.frames.proofs.decoding.body_of.Goals as goal

pub over-requires-clause-written : goal.over-requires-clause-written
over-requires-clause-written g c =
    let e : Expectation = expected c.args.expect.now in
    let yes : has_claims e c.args.bytes.now ≡ true = sym c.has_claims.ensures ∙ c.if-has_claims.true in
    claims_written e.tasks (round_in e.m e.slot) c.args.bytes.now (and_parts _ _ yes).1

pub over-requires-then-has_rows-clause-whole : goal.over-requires-then-has_rows-clause-whole
over-requires-then-has_rows-clause-whole g c =
    let e : Expectation = expected c.args.expect.now in
    let yes : has_rows e c.args.bytes.now ≡ true = sym c.has_rows.ensures ∙ c.if-has_rows.true in
    whole_rows e c.args.bytes.now c.row_width.result c.row_width.ensures yes

pub over-requires-then-has_rows-clause-written : goal.over-requires-then-has_rows-clause-written
over-requires-then-has_rows-clause-written g c =
    let e : Expectation = expected c.args.expect.now in
    let yes : has_rows e c.args.bytes.now ≡ true = sym c.has_rows.ensures ∙ c.if-has_rows.true in
    let P : ℕ → Type 0 = λ w. are_written w c.args.bytes.now ≡ true in
    subst P (sym c.row_width.ensures) (rows_written e.version (1 + 2 * e.nodes) (round_in e.m e.slot) c.args.bytes.now (and_parts _ _ yes).1)

pub returns-then-has_claims-clause-some : goal.returns-then-has_claims-clause-some
returns-then-has_claims-clause-some g c =
    let e : Expectation = expected c.args.expect.now in
    let bytes : AreBytes c.args.bytes.now = λ i. (c.type_inv.bytes i).fits in
    subst (λ x. IsBody e c.args.kind (DoneRelay (content_claims x)) c.args.bytes.now) (sym c.over.ensures.bytes)
    (body_told e c.args.kind c.number-2.result c.in_slot-placed.result _ (DoneRelay (content_claims c.args.bytes.now)) c.args.bytes.now
    c.if-kind-number-2.false c.number-2.ensures c.in_slot-placed.ensures c.in-DoneRelay.is refl
    ((claims_decided e c.args.bytes.now bytes).0 (sym c.has_claims.ensures ∙ c.if-has_claims.true)))

pub returns-else-has_claims-clause-none : goal.returns-else-has_claims-clause-none
returns-else-has_claims-clause-none g c =
    let e : Expectation = expected c.args.expect.now in
    let bytes : AreBytes c.args.bytes.now = λ i. (c.type_inv.bytes i).fits in
    nothing_told e c.args.kind c.number-2.result c.in_slot-placed.result _ c.args.bytes.now (DoneRelay (content_claims c.args.bytes.now)) (has_claims e c.args.bytes.now)
    c.if-kind-number-2.false c.number-2.ensures c.in-DoneRelay.is refl
    (claims_decided e c.args.bytes.now bytes) (sym c.has_claims.ensures ∙ c.if-has_claims.false)

pub returns-then-has_values-clause-some : goal.returns-then-has_values-clause-some
returns-then-has_values-clause-some g c =
    let e : Expectation = expected c.args.expect.now in
    let bytes : AreBytes c.args.bytes.now = λ i. (c.type_inv.bytes i).fits in
    subst (λ x. IsBody e c.args.kind (Data (content_values x)) c.args.bytes.now) (sym c.over-then-has_values.ensures)
    (body_told e c.args.kind c.number-2.result c.in_slot-placed.result _ (Data (content_values c.args.bytes.now)) c.args.bytes.now
    c.if-kind-number-2.false c.number-2.ensures c.in_slot-placed.ensures c.in-Data.is refl
    ((values_decided e c.args.bytes.now bytes).0 (sym c.has_values.ensures ∙ c.if-has_values.true)))

pub returns-else-has_values-clause-none : goal.returns-else-has_values-clause-none
returns-else-has_values-clause-none g c =
    let e : Expectation = expected c.args.expect.now in
    let bytes : AreBytes c.args.bytes.now = λ i. (c.type_inv.bytes i).fits in
    nothing_told e c.args.kind c.number-2.result c.in_slot-placed.result _ c.args.bytes.now (Data (content_values c.args.bytes.now)) (has_values e c.args.bytes.now)
    c.if-kind-number-2.false c.number-2.ensures c.in-Data.is refl
    (values_decided e c.args.bytes.now bytes) (sym c.has_values.ensures ∙ c.if-has_values.false)

pub returns-then-has_row-clause-some : goal.returns-then-has_row-clause-some
returns-then-has_row-clause-some g c =
    let e : Expectation = expected c.args.expect.now in
    let bytes : AreBytes c.args.bytes.now = λ i. (c.type_inv.bytes i).fits in
    subst (λ x. IsBody e c.args.kind (Report0 x) c.args.bytes.now) (sym c.read_row.ensures)
    (body_told e c.args.kind c.number-2.result c.in_slot-placed.result _ (Report0 (content_row e.capacity e.nodes c.args.bytes.now)) c.args.bytes.now
    c.if-kind-number-2.false c.number-2.ensures c.in_slot-placed.ensures c.in-Report0.is refl
    ((row_decided e c.args.bytes.now c.requires.nodes bytes).0 (sym c.has_row.ensures ∙ c.if-has_row.true)))

pub returns-else-has_row-clause-none : goal.returns-else-has_row-clause-none
returns-else-has_row-clause-none g c =
    let e : Expectation = expected c.args.expect.now in
    let bytes : AreBytes c.args.bytes.now = λ i. (c.type_inv.bytes i).fits in
    nothing_told e c.args.kind c.number-2.result c.in_slot-placed.result _ c.args.bytes.now (Report0 (content_row e.capacity e.nodes c.args.bytes.now)) (has_row e c.args.bytes.now)
    c.if-kind-number-2.false c.number-2.ensures c.in-Report0.is refl
    (row_decided e c.args.bytes.now c.requires.nodes bytes) (sym c.has_row.ensures ∙ c.if-has_row.false)

pub returns-then-has_rows-clause-some : goal.returns-then-has_rows-clause-some
returns-then-has_rows-clause-some g c =
    let e : Expectation = expected c.args.expect.now in
    let bytes : AreBytes c.args.bytes.now = λ i. (c.type_inv.bytes i).fits in
    subst (λ x. IsBody e c.args.kind (ReportRelay (content_rows e.capacity e.nodes x)) c.args.bytes.now) (sym c.over-then-has_rows.ensures.bytes)
    (body_told e c.args.kind c.number-2.result c.in_slot-placed.result _ (ReportRelay (content_rows e.capacity e.nodes c.args.bytes.now)) c.args.bytes.now
    c.if-kind-number-2.false c.number-2.ensures c.in_slot-placed.ensures c.in-ReportRelay.is refl
    ((rows_decided e c.args.bytes.now c.requires.nodes bytes).0 (sym c.has_rows.ensures ∙ c.if-has_rows.true)))

pub returns-else-has_rows-clause-none : goal.returns-else-has_rows-clause-none
returns-else-has_rows-clause-none g c =
    let e : Expectation = expected c.args.expect.now in
    let bytes : AreBytes c.args.bytes.now = λ i. (c.type_inv.bytes i).fits in
    nothing_told e c.args.kind c.number-2.result c.in_slot-placed.result _ c.args.bytes.now (ReportRelay (content_rows e.capacity e.nodes c.args.bytes.now)) (has_rows e c.args.bytes.now)
    c.if-kind-number-2.false c.number-2.ensures c.in-ReportRelay.is refl
    (rows_decided e c.args.bytes.now c.requires.nodes bytes) (sym c.has_rows.ensures ∙ c.if-has_rows.false)

pub returns-then-is_empty-clause-some : goal.returns-then-is_empty-clause-some
returns-then-is_empty-clause-some g c =
    cold_told (expected c.args.expect.now) c.args.kind c.number.result c.args.bytes.now c.if-kind-number.true c.number.ensures (sym c.is_empty.ensures ∙ c.if-is_empty.true)

pub returns-then-is_empty-clause-widths : goal.returns-then-is_empty-clause-widths
returns-then-is_empty-clause-widths g c = tt

pub returns-then-is_empty-clause-none : goal.returns-then-is_empty-clause-none
returns-then-is_empty-clause-none g c = tt

pub returns-else-is_empty-clause-some : goal.returns-else-is_empty-clause-some
returns-else-is_empty-clause-some g c = tt

pub returns-else-is_empty-clause-widths : goal.returns-else-is_empty-clause-widths
returns-else-is_empty-clause-widths g c = tt

pub returns-else-is_empty-clause-none : goal.returns-else-is_empty-clause-none
returns-else-is_empty-clause-none g c =
    nothing_cold (expected c.args.expect.now) c.args.kind c.number.result c.args.bytes.now c.if-kind-number.true c.number.ensures (sym c.is_empty.ensures ∙ c.if-is_empty.false)

pub in_slot-placed-requires : goal.in_slot-placed-requires
in_slot-placed-requires g c = c.requires.rounds

pub number-requires-2 : goal.number-requires-2
number-requires-2 g c = tt

pub returns-then-kind-number-2-clause-some : goal.returns-then-kind-number-2-clause-some
returns-then-kind-number-2-clause-some g c = tt

pub returns-then-kind-number-2-clause-widths : goal.returns-then-kind-number-2-clause-widths
returns-then-kind-number-2-clause-widths g c = tt

pub returns-then-kind-number-2-clause-none : goal.returns-then-kind-number-2-clause-none
returns-then-kind-number-2-clause-none g c =
    none_placed (expected c.args.expect.now) c.args.kind c.number.result c.number-2.result c.in_slot-placed.result c.args.bytes.now
    c.if-kind-number.false c.number.ensures c.if-kind-number-2.true c.number-2.ensures c.in_slot-placed.ensures

pub bounds-bytes-0 : goal.bounds-bytes-0
bounds-bytes-0 g c =
    let e : Expectation = expected c.args.expect.now in
    let yes : has_claim e c.args.bytes.now ≡ true = sym c.has_claim.ensures ∙ c.if-has_claim.true in
    let one : length c.args.bytes.now ≡ 1 = eqb-true (length c.args.bytes.now) 1 (and_parts _ _ yes).0 in
    omega (arith, one)

pub has_claims-requires : goal.has_claims-requires
has_claims-requires g c =
    (lit< tt, (c.requires.rounds, placed_round (expected c.args.expect.now) c.in_slot-placed.result _ c.in_slot-placed.ensures c.in-DoneRelay.is (lit< tt) c.requires.rounds))

pub over-requires-clause-wide : goal.over-requires-clause-wide
over-requires-clause-wide g c = lit≤ tt

pub over-requires-clause-whole : goal.over-requires-clause-whole
over-requires-clause-whole g c = whole_claims (expected c.args.expect.now) c.args.bytes.now (sym c.has_claims.ensures ∙ c.if-has_claims.true)

pub over-requires-then-has_values : goal.over-requires-then-has_values
over-requires-then-has_values g c = whole_values (expected c.args.expect.now) c.args.bytes.now (sym c.has_values.ensures ∙ c.if-has_values.true)

pub read_row-requires : goal.read_row-requires
read_row-requires g c =
    let whole = whole_row (expected c.args.expect.now) c.args.bytes.now (sym c.has_row.ensures ∙ c.if-has_row.true) in
    (elim g.bound-1.eight_or_sixteen [ inl e ↦ rw e (lit< tt) | inr e ↦ rw e (lit< tt) ], (c.requires.nodes, whole))

pub has_rows-requires : goal.has_rows-requires
has_rows-requires g c =
    (lit< tt, (c.requires.rounds, placed_round (expected c.args.expect.now) c.in_slot-placed.result _ c.in_slot-placed.ensures c.in-ReportRelay.is (lit< tt) c.requires.rounds))

pub over-requires-then-has_rows-clause-wide : goal.over-requires-then-has_rows-clause-wide
over-requires-then-has_rows-clause-wide g c = omega (arith, c.row_width.ensures, c.requires.some_nodes)

pub returns-then-bytes-expect-clause-some : goal.returns-then-bytes-expect-clause-some
returns-then-bytes-expect-clause-some g c =
    let e : Expectation = expected c.args.expect.now in
    body_told e c.args.kind c.number-2.result c.in_slot-placed.result _ (State c.args.bytes.now) c.args.bytes.now
    c.if-kind-number-2.false c.number-2.ensures c.in_slot-placed.ensures c.in-State.is refl
    (record { sized = c.if-bytes-expect.true; spelt = refl })

pub returns-then-bytes-expect-clause-widths : goal.returns-then-bytes-expect-clause-widths
returns-then-bytes-expect-clause-widths g c = tt

pub returns-then-bytes-expect-clause-none : goal.returns-then-bytes-expect-clause-none
returns-then-bytes-expect-clause-none g c = tt

pub returns-else-bytes-expect-clause-some : goal.returns-else-bytes-expect-clause-some
returns-else-bytes-expect-clause-some g c = tt

pub returns-else-bytes-expect-clause-widths : goal.returns-else-bytes-expect-clause-widths
returns-else-bytes-expect-clause-widths g c = tt

pub returns-else-bytes-expect-clause-none : goal.returns-else-bytes-expect-clause-none
returns-else-bytes-expect-clause-none g c =
    let e : Expectation = expected c.args.expect.now in
    nothing_told e c.args.kind c.number-2.result c.in_slot-placed.result _ c.args.bytes.now (State c.args.bytes.now) (has_state e c.args.bytes.now)
    c.if-kind-number-2.false c.number-2.ensures c.in-State.is refl
    (state_decided e c.args.bytes.now) (ne_eqb (length c.args.bytes.now) e.state_len c.if-bytes-expect.false)

pub returns-then-has_claim-clause-some : goal.returns-then-has_claim-clause-some
returns-then-has_claim-clause-some g c =
    let e : Expectation = expected c.args.expect.now in
    body_told e c.args.kind c.number-2.result c.in_slot-placed.result _ (Done0 (get_or c.args.bytes.now 0 0)) c.args.bytes.now
    c.if-kind-number-2.false c.number-2.ensures c.in_slot-placed.ensures c.in-Done0.is refl
    ((claim_decided e c.args.bytes.now).0 (sym c.has_claim.ensures ∙ c.if-has_claim.true))

pub returns-then-has_claim-clause-widths : goal.returns-then-has_claim-clause-widths
returns-then-has_claim-clause-widths g c = tt

pub returns-then-has_claim-clause-none : goal.returns-then-has_claim-clause-none
returns-then-has_claim-clause-none g c = tt

pub returns-else-has_claim-clause-some : goal.returns-else-has_claim-clause-some
returns-else-has_claim-clause-some g c = tt

pub returns-else-has_claim-clause-widths : goal.returns-else-has_claim-clause-widths
returns-else-has_claim-clause-widths g c = tt

pub returns-else-has_claim-clause-none : goal.returns-else-has_claim-clause-none
returns-else-has_claim-clause-none g c =
    let e : Expectation = expected c.args.expect.now in
    nothing_told e c.args.kind c.number-2.result c.in_slot-placed.result _ c.args.bytes.now (Done0 (get_or c.args.bytes.now 0 0)) (has_claim e c.args.bytes.now)
    c.if-kind-number-2.false c.number-2.ensures c.in-Done0.is refl
    (claim_decided e c.args.bytes.now) (sym c.has_claim.ensures ∙ c.if-has_claim.false)

pub returns-then-has_claims-clause-widths : goal.returns-then-has_claims-clause-widths
returns-then-has_claims-clause-widths g c = c.over.ensures.width

pub returns-then-has_claims-clause-none : goal.returns-then-has_claims-clause-none
returns-then-has_claims-clause-none g c = tt

pub returns-else-has_claims-clause-some : goal.returns-else-has_claims-clause-some
returns-else-has_claims-clause-some g c = tt

pub returns-else-has_claims-clause-widths : goal.returns-else-has_claims-clause-widths
returns-else-has_claims-clause-widths g c = tt

pub returns-then-has_values-clause-widths : goal.returns-then-has_values-clause-widths
returns-then-has_values-clause-widths g c = tt

pub returns-then-has_values-clause-none : goal.returns-then-has_values-clause-none
returns-then-has_values-clause-none g c = tt

pub returns-else-has_values-clause-some : goal.returns-else-has_values-clause-some
returns-else-has_values-clause-some g c = tt

pub returns-else-has_values-clause-widths : goal.returns-else-has_values-clause-widths
returns-else-has_values-clause-widths g c = tt

pub returns-then-has_row-clause-widths : goal.returns-then-has_row-clause-widths
returns-then-has_row-clause-widths g c = tt

pub returns-then-has_row-clause-none : goal.returns-then-has_row-clause-none
returns-then-has_row-clause-none g c = tt

pub returns-else-has_row-clause-some : goal.returns-else-has_row-clause-some
returns-else-has_row-clause-some g c = tt

pub returns-else-has_row-clause-widths : goal.returns-else-has_row-clause-widths
returns-else-has_row-clause-widths g c = tt

pub returns-then-has_rows-clause-widths : goal.returns-then-has_rows-clause-widths
returns-then-has_rows-clause-widths g c = c.over-then-has_rows.ensures.width ∙ c.row_width.ensures

pub returns-then-has_rows-clause-none : goal.returns-then-has_rows-clause-none
returns-then-has_rows-clause-none g c = tt

pub returns-else-has_rows-clause-some : goal.returns-else-has_rows-clause-some
returns-else-has_rows-clause-some g c = tt

pub returns-else-has_rows-clause-widths : goal.returns-else-has_rows-clause-widths
returns-else-has_rows-clause-widths g c = tt

pub returns-in-Cold-clause-some : goal.returns-in-Cold-clause-some
returns-in-Cold-clause-some g c = tt

pub returns-in-Cold-clause-widths : goal.returns-in-Cold-clause-widths
returns-in-Cold-clause-widths g c = tt

pub returns-in-Cold-clause-none : goal.returns-in-Cold-clause-none
returns-in-Cold-clause-none g c =
    λ x h. c.if-kind-number.false (kind_told c.args.kind c.number-2.result c.in_slot-placed.result _ c.if-kind-number-2.false c.number-2.ensures c.in-Cold.is ∙ sym c.number.ensures)
