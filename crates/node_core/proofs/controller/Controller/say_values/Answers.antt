use Rattle.std.proofs.Common.{◌≡◌, ◌≤◌, ◌*◌, ◌%◌, ℕ, List, ℤ, length, map, take, arith, inl, inr, lit<, sym, ap, subst, ◌∙◌, refl}
use Rattle.std.proofs.Math.Nat.{mul-mod_right}
use Rattle.std.specs.List.{flat_map}
use Rattle.std.proofs.lemmas.List.{length-take-le}
use Rattle.node_grid.specs.NodeSet.{IsIdSet}
use Rattle.node_grid.specs.NodeSetLaws.{length-ids}
use Rattle.frames.specs.Content.{IsValue}
use Rattle.frames.specs.Content.Content.{Data}
use Rattle.frames.specs.Reading.{content_values}
use Rattle.frames.specs.Spelling.{value_spelling}
use Rattle.protocol.specs.View.{own_in}
use Rattle.node_steps.specs.Parts.{NodeView}
use Rattle.node_core.proofs.Behind.{config_ok}
use Rattle.node_core.proofs.Spelt.{says_values, values_kept, values_long}
use Rattle.node_core.proofs.controller.Controller.say_values.Goals as goal

pub over-values-requires : goal.over-values-requires
over-values-requires g c =
    let v = c.args.self.now in
    let is = c.self.view_is in
    let due : List ℕ = c.as_slice-due.result.now in
    let same : due ≡ v.found.due = c.as_slice-due.ensures.value ∙ ap (λ (w : NodeView g.row.N). w.found.due) is in
    let channels : ℕ = length v.config.channels.items in
    let most : channels ≤ 8 = (config_ok c.self.inside v c.self.invariant is).few_channels in
    let set : IsIdSet channels due = subst (IsIdSet channels) (sym same) c.requires.ready.sound.sizes.found.due in
    let few : length due ≤ 8 = (let l = length-ids channels due set in omega (arith, l, most)) in
    let out : length c.put_values.new.out ≡ 64 = c.put_values.auto.out in
    ap (λ (k : ℕ). k % 8) (length-take-le (8 * length due) c.put_values.new.out (omega (arith, few, out))) ∙ mul-mod_right 8 (length due)

pub write-requires : goal.write-requires
write-requires g c =
    let n = c.self.inside in
    let v = c.args.self.now in
    let inv = c.self.invariant in
    let is = c.self.view_is in
    let due : List ℕ = c.as_slice-due.result.now in
    let same : due ≡ v.found.due = c.as_slice-due.ensures.value ∙ ap (λ (w : NodeView g.row.N). w.found.due) is in
    let channels : ℕ = length v.config.channels.items in
    let most : channels ≤ 8 = (config_ok n v inv is).few_channels in
    let set : IsIdSet channels due = subst (IsIdSet channels) (sym same) c.requires.ready.sound.sizes.found.due in
    let few : length due ≤ 8 = (let l = length-ids channels due set in omega (arith, l, most)) in
    let fit : (k : ℕ) → IsValue (own_in n.found.own k) = subst (λ (w : NodeView g.row.N). (k : ℕ) → IsValue (own_in w.found.own k)) (sym is) c.requires.ready.sound.sizes.found.values in
    let bytes = c.over-values.ensures ∙ ap (take (8 * length due)) c.put_values.ensures in
    let said : content_values c.over-values.result.bytes.now ≡ map (own_in n.found.own) due = ap content_values bytes ∙ values_kept n.found.own due _ fit (omega (arith, few)) in
    let says =
    says_values v c.args.agreed.now c.requires.own c.requires.slot
    ∙ ap (λ (ds : List ℕ). Data (map (own_in v.found.own) ds)) (sym same)
    ∙ ap (λ (w : NodeView g.row.N). Data (map (own_in w.found.own) due)) (sym is)
    ∙ sym (ap Data said) in (
      elim inv.place.capacity [ inl e ↦ rw e (lit< tt) | inr e ↦ rw e (lit< tt) ],
      (
        elim inv.place.capacity [ inl e ↦ rw e (lit< tt) | inr e ↦ rw e (lit< tt) ],
        (c.requires.ready, (c.head.ensures, (tt, (says, sym (ap (λ (xs : List ℤ). length (flat_map value_spelling xs)) said ∙ values_long n.found.own due fit))))),
      ),
    )

pub returns-clause-room : goal.returns-clause-room
returns-clause-room g c = c.write.ensures.room

pub returns-clause-written : goal.returns-clause-written
returns-clause-written g c = c.write.ensures.written

pub as_slice-due-requires : goal.as_slice-due-requires
as_slice-due-requires g c = lit< tt

pub head-requires : goal.head-requires
head-requires g c = elim c.self.invariant.place.capacity [ inl e ↦ rw e (lit< tt) | inr e ↦ rw e (lit< tt) ]

pub overflow_mul-size : goal.overflow_mul-size
overflow_mul-size g c = let few = c.as_slice-due.ensures.fits in omega (arith, few)

pub put_values-requires : goal.put_values-requires
put_values-requires g c = let few = c.as_slice-due.ensures.fits in omega (arith, few)

pub slice_bounds-bytes-end : goal.slice_bounds-bytes-end
slice_bounds-bytes-end g c = let few = c.as_slice-due.ensures.fits in let out = c.put_values.auto.out in omega (arith, few, out)

pub slice_bounds-over-end : goal.slice_bounds-over-end
slice_bounds-over-end g c =
    let few = c.as_slice-due.ensures.fits in
    let out = c.put_values.auto.out in
    sym (length-take-le (8 * length c.as_slice-due.result.now) c.put_values.new.out (omega (arith, few, out)))

pub slice_bounds-put_values-end : goal.slice_bounds-put_values-end
slice_bounds-put_values-end g c = refl
