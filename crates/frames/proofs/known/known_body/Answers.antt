use Rattle.std.proofs.Common.{◌≡◌, ℕ, ◌<◌, List, length, get_or, sym, ap, ◌∙◌, arith, lit<, lit≤, inl, inr}
use Rattle.frames.specs.Content.{Expectation, Done0, DoneRelay, Data, Report0, ReportRelay}
use Rattle.frames.specs.Reading.{content_said, content_claims, content_values, content_rows}
use Rattle.frames.specs.Checks.{IsSaid}
use Rattle.frames.specs.Seen.{expected, number_of}
use Rattle.frames.specs.PieceLaws.{AreBytes}
use Rattle.frames.proofs.Bodies.{claims_known, values_known, row_known, rows_known, said_as}
use Rattle.frames.proofs.known.known_body.Goals as goal

one_long : (e : Expectation) (bytes : List ℕ) → IsSaid e (Done0 (get_or bytes 0 0)) bytes → 0 < length bytes
one_long e bytes said = let l : length bytes ≡ 1 = ap length said.spelt in omega (arith, l)

said_by : (e : Expectation) (k n : ℕ) (bytes : List ℕ) → k ≡ n → content_said e n bytes ≡ content_said e k bytes
said_by e k n bytes is = ap (λ i. content_said e i bytes) (sym is)

pub over-requires-clause-whole : goal.over-requires-clause-whole
over-requires-clause-whole g c =
    let e : Expectation = expected c.args.expect.now in
    let bytes : AreBytes c.args.bytes.now = λ i. omega (arith, c.type_inv.bytes i) in
    let k : number_of c.args.kind ≡ 3 = ap number_of c.in-DoneRelay.is in
    (claims_known e c.args.bytes.now bytes (said_as e (number_of c.args.kind) 3 c.args.bytes.now k c.requires.said)).0

pub over-requires-clause-written : goal.over-requires-clause-written
over-requires-clause-written g c =
    let e : Expectation = expected c.args.expect.now in
    let bytes : AreBytes c.args.bytes.now = λ i. omega (arith, c.type_inv.bytes i) in
    let k : number_of c.args.kind ≡ 3 = ap number_of c.in-DoneRelay.is in
    (claims_known e c.args.bytes.now bytes (said_as e (number_of c.args.kind) 3 c.args.bytes.now k c.requires.said)).1

pub over-requires-in-Data : goal.over-requires-in-Data
over-requires-in-Data g c =
    let e : Expectation = expected c.args.expect.now in
    let bytes : AreBytes c.args.bytes.now = λ i. omega (arith, c.type_inv.bytes i) in
    let k : number_of c.args.kind ≡ 4 = ap number_of c.in-Data.is in
    values_known e c.args.bytes.now bytes (said_as e (number_of c.args.kind) 4 c.args.bytes.now k c.requires.said)

pub read_row-requires : goal.read_row-requires
read_row-requires g c =
    let e : Expectation = expected c.args.expect.now in
    let bytes : AreBytes c.args.bytes.now = λ i. omega (arith, c.type_inv.bytes i) in
    let k : number_of c.args.kind ≡ 5 = ap number_of c.in-Report0.is in
    let whole = row_known e c.args.bytes.now c.requires.nodes bytes (said_as e (number_of c.args.kind) 5 c.args.bytes.now k c.requires.said) in
    (elim g.bound-1.eight_or_sixteen [ inl e ↦ rw e (lit< tt) | inr e ↦ rw e (lit< tt) ], (c.requires.nodes, whole))

pub over-requires-in-ReportRelay-clause-wide : goal.over-requires-in-ReportRelay-clause-wide
over-requires-in-ReportRelay-clause-wide g c = omega (arith, c.row_width.ensures, c.requires.some_nodes)

pub over-requires-in-ReportRelay-clause-whole : goal.over-requires-in-ReportRelay-clause-whole
over-requires-in-ReportRelay-clause-whole g c =
    let e : Expectation = expected c.args.expect.now in
    let bytes : AreBytes c.args.bytes.now = λ i. omega (arith, c.type_inv.bytes i) in
    let k : number_of c.args.kind ≡ 6 = ap number_of c.in-ReportRelay.is in
    (rows_known e c.args.bytes.now c.row_width.result c.row_width.ensures c.requires.nodes bytes (said_as e (number_of c.args.kind) 6 c.args.bytes.now k c.requires.said)).0

pub over-requires-in-ReportRelay-clause-written : goal.over-requires-in-ReportRelay-clause-written
over-requires-in-ReportRelay-clause-written g c =
    let e : Expectation = expected c.args.expect.now in
    let bytes : AreBytes c.args.bytes.now = λ i. omega (arith, c.type_inv.bytes i) in
    let k : number_of c.args.kind ≡ 6 = ap number_of c.in-ReportRelay.is in
    (rows_known e c.args.bytes.now c.row_width.result c.row_width.ensures c.requires.nodes bytes (said_as e (number_of c.args.kind) 6 c.args.bytes.now k c.requires.said)).1

pub bounds-bytes-0 : goal.bounds-bytes-0
bounds-bytes-0 g c =
    let e : Expectation = expected c.args.expect.now in
    one_long e c.args.bytes.now (said_as e (number_of c.args.kind) 2 c.args.bytes.now (ap number_of c.in-Done0.is) c.requires.said)

pub over-requires-clause-wide : goal.over-requires-clause-wide
over-requires-clause-wide g c = lit≤ tt

pub returns-in-State-clause-says : goal.returns-in-State-clause-says
returns-in-State-clause-says g c =
    let e : Expectation = expected c.args.expect.now in
    said_by e (number_of c.args.kind) 1 c.args.bytes.now (ap number_of c.in-State.is)

pub returns-in-State-clause-widths : goal.returns-in-State-clause-widths
returns-in-State-clause-widths g c = tt

pub returns-in-Done0-clause-says : goal.returns-in-Done0-clause-says
returns-in-Done0-clause-says g c =
    let e : Expectation = expected c.args.expect.now in
    said_by e (number_of c.args.kind) 2 c.args.bytes.now (ap number_of c.in-Done0.is)

pub returns-in-Done0-clause-widths : goal.returns-in-Done0-clause-widths
returns-in-Done0-clause-widths g c = tt

pub returns-in-DoneRelay-clause-says : goal.returns-in-DoneRelay-clause-says
returns-in-DoneRelay-clause-says g c =
    let e : Expectation = expected c.args.expect.now in
    ap (λ x. DoneRelay (content_claims x)) c.over.ensures.bytes ∙ said_by e (number_of c.args.kind) 3 c.args.bytes.now (ap number_of c.in-DoneRelay.is)

pub returns-in-DoneRelay-clause-widths : goal.returns-in-DoneRelay-clause-widths
returns-in-DoneRelay-clause-widths g c = c.over.ensures.width

pub returns-in-Data-clause-says : goal.returns-in-Data-clause-says
returns-in-Data-clause-says g c =
    let e : Expectation = expected c.args.expect.now in
    ap (λ x. Data (content_values x)) c.over-in-Data.ensures ∙ said_by e (number_of c.args.kind) 4 c.args.bytes.now (ap number_of c.in-Data.is)

pub returns-in-Data-clause-widths : goal.returns-in-Data-clause-widths
returns-in-Data-clause-widths g c = tt

pub returns-in-Report0-clause-says : goal.returns-in-Report0-clause-says
returns-in-Report0-clause-says g c =
    let e : Expectation = expected c.args.expect.now in
    ap Report0 c.read_row.ensures ∙ said_by e (number_of c.args.kind) 5 c.args.bytes.now (ap number_of c.in-Report0.is)

pub returns-in-Report0-clause-widths : goal.returns-in-Report0-clause-widths
returns-in-Report0-clause-widths g c = tt

pub returns-in-ReportRelay-clause-says : goal.returns-in-ReportRelay-clause-says
returns-in-ReportRelay-clause-says g c =
    let e : Expectation = expected c.args.expect.now in
    ap (λ x. ReportRelay (content_rows e.capacity e.nodes x)) c.over-in-ReportRelay.ensures.bytes ∙ said_by e (number_of c.args.kind) 6 c.args.bytes.now (ap number_of c.in-ReportRelay.is)

pub returns-in-ReportRelay-clause-widths : goal.returns-in-ReportRelay-clause-widths
returns-in-ReportRelay-clause-widths g c = c.over-in-ReportRelay.ensures.width ∙ c.row_width.ensures

pub returns-in-Cold-clause-says : goal.returns-in-Cold-clause-says
returns-in-Cold-clause-says g c =
    let e : Expectation = expected c.args.expect.now in
    said_by e (number_of c.args.kind) 7 c.args.bytes.now (ap number_of c.in-Cold.is)

pub returns-in-Cold-clause-widths : goal.returns-in-Cold-clause-widths
returns-in-Cold-clause-widths g c = tt
