use Rattle.std.proofs.Common.{◌≡◌, ◌≤◌, ◌+◌, ◌*◌, ℕ, List, length, take, refl, sym, ap, subst, ◌∙◌, arith, lit<, inl, inr}
use Rattle.std.proofs.lemmas.List.{length-take-le}
use Rattle.std.specs.List.{flat_map}
use Rattle.std.specs.Int.{w16, to_be_bytes}
use Rattle.frames.specs.declared.frame.Body.{Body}
use Rattle.frames.specs.declared.frame.Body.TheVariants.{DoneRelay, Report0, ReportRelay}
use Rattle.frames.specs.declared.cells.Cells.{Cells}
use Rattle.frames.specs.Spelling.{claim_spelling, relayed_row_spelling, body_spelling}
use Rattle.frames.specs.Reading.{content_claims, content_rows}
use Rattle.frames.specs.Writing.{pasted}
use Rattle.frames.specs.Seen.{content, HasWidth}
use Rattle.frames.specs.EntryLaws.{length-masks}
use Rattle.frames.proofs.encoding.write_body.Goals as goal

-- what a body's variant is written as
spelt : {N : ℕ} (nodes : ℕ) (b c : Body N) → b ≡ c → body_spelling nodes (content nodes c) ≡ body_spelling nodes (content nodes b)
spelt nodes b c e = sym (ap (λ x. body_spelling nodes (content nodes x)) e)

claims_spelt : {N : ℕ} (nodes : ℕ) (b : Body N) (cells : Cells) (xs : List ℕ) → b ≡ DoneRelay cells → HasWidth nodes b
    → (cells.width ≡ 2 → flat_map claim_spelling (content_claims cells.bytes.now) ≡ xs)
    → xs ≡ body_spelling nodes (content nodes b)
claims_spelt nodes b cells xs e w f = sym (f (subst (λ x. HasWidth nodes x) e w)) ∙ spelt nodes b (DoneRelay cells) e

rows_spelt : {N : ℕ} (nodes : ℕ) (b : Body N) (cells : Cells) (xs : List ℕ) → b ≡ ReportRelay cells → HasWidth nodes b
    → (cells.width ≡ 1 + 2 * nodes → flat_map (relayed_row_spelling nodes) (content_rows N nodes cells.bytes.now) ≡ xs)
    → xs ≡ body_spelling nodes (content nodes b)
rows_spelt nodes b cells xs e w f = sym (f (subst (λ x. HasWidth nodes x) e w)) ∙ spelt nodes b (ReportRelay cells) e

room_for : (xs ys : List ℕ) (n : ℕ) → xs ≡ ys → 14 + length ys ≤ n → 14 + length xs ≤ n
room_for xs ys n e h = subst (λ (bs : List ℕ). 14 + length bs ≤ n) (sym e) h

written_as : (xs ys old new : List ℕ) → xs ≡ ys → new ≡ pasted 14 xs old → new ≡ pasted 14 ys old
written_as xs ys old new e h = h ∙ ap (λ bs. pasted 14 bs old) e

-- how long the spelling of a row is
row_length : {N : ℕ} (nodes : ℕ) (b : Body N) (row masks : List ℕ) → b ≡ Report0 row → masks ≡ row → 2 * length (take nodes masks) ≡ length (body_spelling nodes (content nodes b))
row_length nodes b row masks e s =
    sym (length-masks (take nodes masks)) ∙ ap (λ ms. length (flat_map (to_be_bytes w16) (take nodes ms))) s ∙ sym (ap (λ x. length (body_spelling nodes (content nodes x))) e)

pub write_masks-requires : goal.write_masks-requires
write_masks-requires g c = omega (arith, row_length c.args.nodes c.args.body.now _ c.row.inside.masks c.in-Report0.is c.row.view_is, c.requires.fits)

pub returns-in-Report0-clause-length : goal.returns-in-Report0-clause-length
returns-in-Report0-clause-length g c = row_length c.args.nodes c.args.body.now _ c.row.inside.masks c.in-Report0.is c.row.view_is

pub slice_bounds-bytes-end : goal.slice_bounds-bytes-end
slice_bounds-bytes-end g c = refl

pub write_at-requires : goal.write_at-requires
write_at-requires g c = room_for _ _ _ (spelt c.args.nodes _ _ c.in-State.is) c.requires.fits

pub slice_bounds-bytes-end-in-Done0 : goal.slice_bounds-bytes-end-in-Done0
slice_bounds-bytes-end-in-Done0 g c = refl

pub write_at-requires-in-Done0 : goal.write_at-requires-in-Done0
write_at-requires-in-Done0 g c = room_for _ _ _ (spelt c.args.nodes _ _ c.in-Done0.is) c.requires.fits

pub bytes-bytes-requires : goal.bytes-bytes-requires
bytes-bytes-requires g c = tt

pub write_at-requires-in-DoneRelay : goal.write_at-requires-in-DoneRelay
write_at-requires-in-DoneRelay g c = room_for _ _ _ (claims_spelt c.args.nodes _ c.in-DoneRelay.entries _ c.in-DoneRelay.is c.requires.widths c.bytes-bytes.ensures.claims) c.requires.fits

pub bytes-bytes-requires-in-Data : goal.bytes-bytes-requires-in-Data
bytes-bytes-requires-in-Data g c = tt

pub write_at-requires-in-Data : goal.write_at-requires-in-Data
write_at-requires-in-Data g c = room_for _ _ _ (sym c.bytes-bytes-in-Data.ensures ∙ spelt c.args.nodes _ _ c.in-Data.is) c.requires.fits

pub bytes-bytes-requires-in-ReportRelay : goal.bytes-bytes-requires-in-ReportRelay
bytes-bytes-requires-in-ReportRelay g c = tt

pub write_at-requires-in-ReportRelay : goal.write_at-requires-in-ReportRelay
write_at-requires-in-ReportRelay g c =
    room_for _ _ _ (rows_spelt c.args.nodes _ c.in-ReportRelay.entries _ c.in-ReportRelay.is c.requires.widths (c.bytes-bytes-in-ReportRelay.ensures.rows g.row.N c.args.nodes)) c.requires.fits

pub write_at-requires-in-Cold : goal.write_at-requires-in-Cold
write_at-requires-in-Cold g c = room_for _ _ _ (spelt c.args.nodes _ _ c.in-Cold.is) c.requires.fits

pub shared_whole_as_front-masks : goal.shared_whole_as_front-masks
shared_whole_as_front-masks g c = (c.requires.nodes, elim g.bound-1.eight_or_sixteen [ inl e ↦ rw e (lit< tt) | inr e ↦ rw e (lit< tt) ])

pub overflow_mul-result : goal.overflow_mul-result
overflow_mul-result g c =
    let n = c.requires.nodes in
    let long : length (take c.args.nodes c.row.inside.masks) ≡ c.args.nodes = length-take-le c.args.nodes c.row.inside.masks (let l = c.row.told in omega arith) in
    omega (arith, long)

pub returns-in-State-clause-written : goal.returns-in-State-clause-written
returns-in-State-clause-written g c = written_as _ _ c.args.out.now _ (spelt c.args.nodes _ _ c.in-State.is) c.write_at.ensures

pub returns-in-State-clause-length : goal.returns-in-State-clause-length
returns-in-State-clause-length g c = ap length (spelt c.args.nodes _ _ c.in-State.is)

pub returns-in-Done0-clause-written : goal.returns-in-Done0-clause-written
returns-in-Done0-clause-written g c = written_as _ _ c.args.out.now _ (spelt c.args.nodes _ _ c.in-Done0.is) c.write_at-in-Done0.ensures

pub returns-in-Done0-clause-length : goal.returns-in-Done0-clause-length
returns-in-Done0-clause-length g c = ap length (spelt c.args.nodes _ _ c.in-Done0.is)

pub returns-in-DoneRelay-clause-written : goal.returns-in-DoneRelay-clause-written
returns-in-DoneRelay-clause-written g c =
    written_as _ _ c.args.out.now _ (claims_spelt c.args.nodes _ c.in-DoneRelay.entries _ c.in-DoneRelay.is c.requires.widths c.bytes-bytes.ensures.claims) c.write_at-in-DoneRelay.ensures

pub returns-in-DoneRelay-clause-length : goal.returns-in-DoneRelay-clause-length
returns-in-DoneRelay-clause-length g c = ap length (claims_spelt c.args.nodes _ c.in-DoneRelay.entries _ c.in-DoneRelay.is c.requires.widths c.bytes-bytes.ensures.claims)

pub returns-in-Data-clause-written : goal.returns-in-Data-clause-written
returns-in-Data-clause-written g c = written_as _ _ c.args.out.now _ (sym c.bytes-bytes-in-Data.ensures ∙ spelt c.args.nodes _ _ c.in-Data.is) c.write_at-in-Data.ensures

pub returns-in-Data-clause-length : goal.returns-in-Data-clause-length
returns-in-Data-clause-length g c = ap length (sym c.bytes-bytes-in-Data.ensures ∙ spelt c.args.nodes _ _ c.in-Data.is)

pub returns-in-ReportRelay-clause-written : goal.returns-in-ReportRelay-clause-written
returns-in-ReportRelay-clause-written g c =
    written_as _ _ c.args.out.now _
    (rows_spelt c.args.nodes _ c.in-ReportRelay.entries _ c.in-ReportRelay.is c.requires.widths (c.bytes-bytes-in-ReportRelay.ensures.rows g.row.N c.args.nodes)) c.write_at-in-ReportRelay.ensures

pub returns-in-ReportRelay-clause-length : goal.returns-in-ReportRelay-clause-length
returns-in-ReportRelay-clause-length g c =
    ap length (rows_spelt c.args.nodes _ c.in-ReportRelay.entries _ c.in-ReportRelay.is c.requires.widths (c.bytes-bytes-in-ReportRelay.ensures.rows g.row.N c.args.nodes))

pub returns-in-Cold-clause-written : goal.returns-in-Cold-clause-written
returns-in-Cold-clause-written g c = written_as _ _ c.args.out.now _ (spelt c.args.nodes _ _ c.in-Cold.is) c.write_at-in-Cold.ensures

pub returns-in-Cold-clause-length : goal.returns-in-Cold-clause-length
returns-in-Cold-clause-length g c = ap length (spelt c.args.nodes _ _ c.in-Cold.is)

pub returns-in-Report0-clause-written : goal.returns-in-Report0-clause-written
returns-in-Report0-clause-written g c =
    written_as _ _ c.args.out.now _ (ap (λ ms. flat_map (to_be_bytes w16) (take c.args.nodes ms)) c.row.view_is ∙ spelt c.args.nodes _ _ c.in-Report0.is) c.write_masks.ensures
