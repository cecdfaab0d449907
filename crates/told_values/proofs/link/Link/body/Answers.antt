use Rattle.std.proofs.Common.{true, ℕ, ℤ, ◌≡◌, ◌≤◌, ◌*◌, List, Option, length, map, take, sym, ap, subst, ◌∙◌, arith}
use Rattle.std.specs.Prelude.{All}
use Rattle.std.specs.List.{flat_map}
use Rattle.std.proofs.lemmas.Bool.{cond-true, cond-false}
use Rattle.std.proofs.lemmas.List.{length-take-le, length-map}
use Rattle.node_grid.specs.NodeSet.{has_id}
use Rattle.frames.specs.Content.{IsValue}
use Rattle.frames.specs.Content.Content.{Data, Cold}
use Rattle.frames.specs.EntryLaws.{values_spelt}
use Rattle.frames.specs.Reading.{content_values}
use Rattle.frames.specs.Spelling.{value_spelling, IsInRange}
use Rattle.frames.specs.Writing.{pasted}
use Rattle.protocol.specs.View.{own_in}
use Rattle.told_values.specs.Slot.{slot_of, own_of, said, expects}
use Rattle.told_values.proofs.Sending.{due_few, values_kept}
use Rattle.told_values.proofs.link.Link.body.Goals as goal

pub overflow_mul-size : goal.overflow_mul-size
overflow_mul-size g c =
    let d = slot_of g.D.Dues.dues c.args.self.now.slot.now in
    let same : length c.due-due.result.now ≡ length (d.due c.args.self.now.from) = ap (λ (ds : List ℕ). length ds) c.due-due.ensures.due in
    let most : length (d.due c.args.self.now.from) ≤ 8 = due_few d c.due-due.ensures.slot c.args.self.now.from c.args.self.now.sender in
    let few : length c.due-due.result.now ≤ 8 = omega arith in
    omega (arith, few)

pub put_values-requires : goal.put_values-requires
put_values-requires g c =
    let d = slot_of g.D.Dues.dues c.args.self.now.slot.now in
    let same : length c.due-due.result.now ≡ length (d.due c.args.self.now.from) = ap (λ (ds : List ℕ). length ds) c.due-due.ensures.due in
    let most : length (d.due c.args.self.now.from) ≤ 8 = due_few d c.due-due.ensures.slot c.args.self.now.from c.args.self.now.sender in
    let few : length c.due-due.result.now ≤ 8 = omega arith in
    omega (arith, few)

pub shared_ref_as_front-over : goal.shared_ref_as_front-over
shared_ref_as_front-over g c =
    let d = slot_of g.D.Dues.dues c.args.self.now.slot.now in
    let same : length c.due-due.result.now ≡ length (d.due c.args.self.now.from) = ap (λ (ds : List ℕ). length ds) c.due-due.ensures.due in
    let most : length (d.due c.args.self.now.from) ≤ 8 = due_few d c.due-due.ensures.slot c.args.self.now.from c.args.self.now.sender in
    omega (arith, same, most)

pub returns-clause-short : goal.returns-clause-short
returns-clause-short g c = λ nodes.
    let d = slot_of g.D.Dues.dues c.args.self.now.slot.now in
    let same : length c.due-due.result.now ≡ length (d.due c.args.self.now.from) = ap (λ (ds : List ℕ). length ds) c.due-due.ensures.due in
    let most : length (d.due c.args.self.now.from) ≤ 8 = due_few d c.due-due.ensures.slot c.args.self.now.from c.args.self.now.sender in
    let out = c.put_values.auto.out in
    let long : length c.over-values.result.bytes.now ≡ 8 * length c.due-due.result.now =
    ap (λ (bs : List ℕ). length bs) c.over-values.ensures ∙ length-take-le (8 * length c.due-due.result.now) c.put_values.new.out (omega (arith, same, most, out)) in
    let z = ap (λ (bs : List ℕ). length bs) (values_spelt c.over-values.result.bytes.now c.over-values.result.whole c.over-values.result.small) in
    omega (arith, z, long, same, most)

pub returns-clause-said : goal.returns-clause-said
returns-clause-said g c = λ nodes range.
    let d = slot_of g.D.Dues.dues c.args.self.now.slot.now in
    let same : length c.due-due.result.now ≡ length (d.due c.args.self.now.from) = ap (λ (ds : List ℕ). length ds) c.due-due.ensures.due in
    let most : length (d.due c.args.self.now.from) ≤ 8 = due_few d c.due-due.ensures.slot c.args.self.now.from c.args.self.now.sender in
    let from : ℕ = c.args.self.now.from in
    let own : ℕ → ℤ = own_in (own_of d from) in
    let ds : List ℕ = c.due-due.result.now in
    let full : has_id d.full from ≡ true = sym c.is_full.ensures ∙ c.if-not-is_full.false in
    let says : said d from ≡ Data (map own (d.due from)) = cond-true (has_id d.full from) (Data (map own (d.due from))) Cold full in
    let all : All IsValue (map own (d.due from)) = (subst (IsInRange (expects d from from)) says range).sized.1 in
    let here : All IsValue (map own ds) = subst (λ (xs : List ℕ). All IsValue (map own xs)) (sym c.due-due.ensures.due) all in
    let wide : length c.args.bytes.now ≡ 64 = (let out = c.fits-bytes in omega (arith, out)) in
    let kept : content_values c.over-values.result.bytes.now ≡ map own ds =
    ap content_values (c.over-values.ensures ∙ ap (take (8 * length ds)) (c.put_values.ensures ∙ ap (λ (o : List (Option ℤ)). pasted 0 (flat_map value_spelling (map (own_in o) ds)) c.args.bytes.now) c.own.ensures.own))
    ∙ values_kept (map own ds) (length ds) c.args.bytes.now here (sym (length-map ds own)) (omega (arith, wide, same, most)) in
    ap Data (kept ∙ ap (map own) c.due-due.ensures.due) ∙ sym says

pub returns-then-not-is_full-clause-said : goal.returns-then-not-is_full-clause-said
returns-then-not-is_full-clause-said g c = λ nodes range.
    let d = slot_of g.D.Dues.dues c.args.self.now.slot.now in
    let from : ℕ = c.args.self.now.from in
    sym (cond-false (has_id d.full from) (Data (map (own_in (own_of d from)) (d.due from))) Cold (sym c.is_full.ensures ∙ c.if-not-is_full.true))
