use Rattle.std.proofs.Common.{rules, arith, ◌≡◌, ◌≢◌, ◌<◌, ◌≤◌, ℕ, ℤ, pos, length, length-set, get_or, get_or-set_other, get_or-set_same, sym, ap, ◌∙◌, inl, inr, Some, None, nat_lt, lt-ltb, le-ltb, below_more}
use mir.Syntax.{w64}
use mir.Val.{SFits, to_z, of_z}
use Rattle.std.proofs.lemmas.Int.{to_z-of_z}
use Rattle.std.proofs.lemmas.Bool.{cases_lt, cond-true, cond-false}
use Rattle.std.proofs.lemmas.List.{get_or_default}
use Rattle.std.proofs.lemmas.List.FromFn.{fill_by_all}
use Rattle.protocol.specs.View.{channel_room, first_there, no_channel}
use Rattle.data_slot.specs.Own.{own_by}
use Rattle.data_slot.proofs.Owns.{own_at, owns_are}
use Rattle.data_slot.proofs.own.own_values.Goals as goal

pub loop-c-preserved : goal.loop-c-preserved
loop-c-preserved g c =
    let items = c.args.config.now.channels.items in
    let i : ℕ = c.loop-c.c in
    let low : i < length items = (let t = c.loop-c-test.true in let n = c.len-c-end.ensures.value in omega arith) in
    let f : SFits w64 c.own_value.result = search rules in
    let e = c.own_value.ensures in
    let at : c.index-deref-c.result ≡ get_or items i no_channel = c.index-deref-c.is ∙ ap (λ xs. get_or xs i c.index-deref-c.result) c.deref.ensures.0 ∙ get_or_default items i c.index-deref-c.result no_channel low in
    let r : SFits w64 (get_or c.args.inputs.now.reading i (pos 0)) = search rules in
    let v : ℤ = to_z w64 (of_z w64 c.own_value.result) in
    let F = own_at c.args.config.now c.args.me c.args.period c.args.inputs.now c.args.kept.now.votes.now c.args.kept.now.owns.now in
    let l : SFits w64 c.first_there.result = search rules in
    let last : ℤ = first_there (get_or c.args.kept.now.votes.now i None) (get_or c.args.kept.now.owns.now i None) in
    let is : Some v ≡ F i =
    ap Some (to_z-of_z w64 c.own_value.result f ∙ e
    ∙ ap (λ (z : ℤ). own_by c.index-deref-c.result c.args.me c.args.period (to_z w64 (of_z w64 (get_or c.args.inputs.now.reading i (pos 0)))) z) (to_z-of_z w64 c.first_there.result l ∙ c.first_there.ensures)
    ∙ ap (λ ch. own_by ch c.args.me c.args.period (to_z w64 (of_z w64 (get_or c.args.inputs.now.reading i (pos 0)))) last) at
    ∙ ap (λ x. own_by (get_or items i no_channel) c.args.me c.args.period x last) (to_z-of_z w64 (get_or c.args.inputs.now.reading i (pos 0)) r))
    ∙ sym (cond-true (nat_lt i (length items)) _ None (lt-ltb _ _ low)) in
    let room : i < length c.loop-c.values = (let w = c.loop-c.invariant.wide in let n = c.requires.config.few_channels in omega arith) in
    record {
      wide = length-set c.loop-c.values i (Some v) ∙ c.loop-c.invariant.wide;
      so_far = below_more _ _
          (λ k l. let ne : k ≢ i = omega arith in rw get_or-set_other (c.loop-c.invariant.so_far k l))
          (get_or-set_same c.loop-c.values i (Some v) None room ∙ is);
      rest = λ k h. let ne : k ≢ i = omega arith in rw get_or-set_other (c.loop-c.invariant.rest k (omega arith));
    }

pub returns : goal.returns
returns g c state carried =
    let items = c.args.config.now.channels.items in
    fill_by_all (own_at c.args.config.now c.args.me c.args.period c.args.inputs.now c.args.kept.now.votes.now c.args.kept.now.owns.now) c.loop-c.values channel_room None c.loop-c.invariant.wide
    (λ k h. elim (cases_lt k c.loop-c.c) [
      | inl low ↦ c.loop-c.invariant.so_far k low
      | inr high ↦
          let past : length items ≤ k = (let t = c.loop-c-test.false in let n = c.len-c-end.ensures.value in omega arith) in
          c.loop-c.invariant.rest k high ∙ sym (cond-false (nat_lt k (length items)) _ None (le-ltb _ _ past))
    ])
    ∙ owns_are c.args.config.now c.args.me c.args.period c.args.inputs.now (record { state = state; carried = carried; votes = c.args.kept.now.votes.now; owns = c.args.kept.now.owns.now })

pub offset_bounds-deref-c : goal.offset_bounds-deref-c
offset_bounds-deref-c g c = let t = c.loop-c-test.true in let n = c.len-c-end.ensures.value in let e : length c.deref.result.now ≡ length c.args.config.now.channels.items = ap length c.deref.ensures.0 in omega arith

pub bounds-deref-c : goal.bounds-deref-c
bounds-deref-c g c = let t = c.loop-c-test.true in let n = c.len-c-end.ensures.value in let e : length c.deref.result.now ≡ length c.args.config.now.channels.items = ap length c.deref.ensures.0 in omega arith

pub offset_bounds-votes-c : goal.offset_bounds-votes-c
offset_bounds-votes-c g c = let t = c.loop-c-test.true in let n = c.len-c-end.ensures.value in let f = c.requires.config.few_channels in omega arith

pub bounds-votes-c : goal.bounds-votes-c
bounds-votes-c g c = let t = c.loop-c-test.true in let n = c.len-c-end.ensures.value in let f = c.requires.config.few_channels in omega arith

pub bounds-owns-c : goal.bounds-owns-c
bounds-owns-c g c = let t = c.loop-c-test.true in let n = c.len-c-end.ensures.value in let f = c.requires.config.few_channels in omega arith

pub offset_bounds-owns-c : goal.offset_bounds-owns-c
offset_bounds-owns-c g c = let t = c.loop-c-test.true in let n = c.len-c-end.ensures.value in let f = c.requires.config.few_channels in omega arith

pub offset_bounds-values-c : goal.offset_bounds-values-c
offset_bounds-values-c g c = let t = c.loop-c-test.true in let n = c.len-c-end.ensures.value in let f = c.requires.config.few_channels in omega arith

pub bounds-values-c : goal.bounds-values-c
bounds-values-c g c = let t = c.loop-c-test.true in let n = c.len-c-end.ensures.value in let f = c.requires.config.few_channels in omega arith

pub loop-c-smaller : goal.loop-c-smaller
loop-c-smaller g c = let t = c.loop-c-test.true in omega arith
