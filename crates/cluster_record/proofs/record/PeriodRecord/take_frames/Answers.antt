use Rattle.std.proofs.Common.{ℕ, ◌≡◌, ◌<◌, List, map, length, set, inl, inr, lit<, ap, sym, subst, ◌∙◌, arith, length-set}
use Rattle.std.specs.Prelude.{All}
use Rattle.std.specs.Vec.{with_items}
use Rattle.std.proofs.lemmas.List.{map-set}
use Rattle.std.proofs.lemmas.List.Elements.{All-get_or, All-set}
use Rattle.slot_plan.specs.Slots.{slot_count}
use Rattle.node_steps.specs.Steps.{frame_of}
use Rattle.cluster_periods.specs.Record.{PeriodView}
use Rattle.cluster_record.specs.Buffers.{IsBuffer, IsSlot, IsRoom, slot_bytes}
use Rattle.cluster_record.specs.Shown.{shown}
use Rattle.cluster_record.proofs.Taking.{Slot, bytes_of, refilled, slot_refilled}
use Rattle.cluster_record.proofs.record.PeriodRecord.take_frames.Goals as goal

pub say_all-requires : goal.say_all-requires
say_all-requires g c =
    let nodes : c.self.inside.nodes ≡ c.args.self.now.nodes = ap (λ (v : PeriodView). v.nodes) c.self.view_is in
    let m : c.self.inside.m ≡ c.args.self.now.m = ap (λ (v : PeriodView). v.m) c.self.view_is in
    let low : c.args.slot < length c.self.inside.sent.items = omega (arith, c.self.invariant.slots, ap slot_count m, c.requires.slot) in
    let was : IsSlot c.self.inside.room c.self.inside.nodes c.index_mut.result.now = subst (IsSlot c.self.inside.room c.self.inside.nodes) (sym c.index_mut.ensures.value) (All-get_or (IsSlot c.self.inside.room c.self.inside.nodes) c.self.inside.sent.items c.args.slot c.index_mut.result.now low c.self.invariant.frames) in
    let room : IsRoom c.args.self.now.nodes c.args.self.now.m c.self.inside.room = subst (λ (k : ℕ). IsRoom k c.args.self.now.m c.self.inside.room) nodes (subst (λ (k : ℕ). IsRoom c.self.inside.nodes k c.self.inside.room) m c.self.invariant.room) in (
      elim g.bound-1.eight_or_sixteen [ inl e ↦ rw e (lit< tt) | inr e ↦ rw e (lit< tt) ],
      (
        c.requires.open,
        (
          ap length c.as_mut_slice.ensures.value ∙ was.each ∙ nodes ∙ sym c.requires.each,
          (c.requires.short c.self.inside.room room, subst (All (IsBuffer c.self.inside.room)) (sym c.as_mut_slice.ensures.value) was.buffers),
        ),
      ),
    )

pub invariant_of-self : goal.invariant_of-self
invariant_of-self g c =
    let m : c.self.inside.m ≡ c.args.self.now.m = ap (λ (v : PeriodView). v.m) c.self.view_is in
    let low : c.args.slot < length c.self.inside.sent.items = omega (arith, c.self.invariant.slots, ap slot_count m, c.requires.slot) in
    let old : Slot = c.index_mut.result.now in
    let was : IsSlot c.self.inside.room c.self.inside.nodes old = subst (IsSlot c.self.inside.room c.self.inside.nodes) (sym c.index_mut.ensures.value) (All-get_or (IsSlot c.self.inside.room c.self.inside.nodes) c.self.inside.sent.items c.args.slot c.index_mut.result.now low c.self.invariant.frames) in
    let long : length c.say_all.new.frames ≡ length old.items = c.say_all.auto.frames ∙ ap length c.as_mut_slice.ensures.value in
    record {
      capacity = c.self.invariant.capacity;
      records = c.self.invariant.records;
      slots = length-set _ _ _ ∙ c.self.invariant.slots;
      frames = All-set (IsSlot c.self.inside.room c.self.inside.nodes) c.self.inside.sent.items c.args.slot (with_items old c.say_all.new.frames)
          (slot_refilled c.self.inside.room c.self.inside.nodes old c.say_all.new.frames long was c.say_all.ensures.buffers) c.self.invariant.frames;
      room = c.self.invariant.room;
      short = c.self.invariant.short;
    }

pub returns : goal.returns
returns g c =
    let old : Slot = c.index_mut.result.now in
    let long : length c.say_all.new.frames ≡ length old.items = c.say_all.auto.frames ∙ ap length c.as_mut_slice.ensures.value in
    let made : slot_bytes (with_items old c.say_all.new.frames) ≡ map frame_of c.args.nodes.now = ap (map bytes_of) (refilled old c.say_all.new.frames long) ∙ c.say_all.ensures.bytes in
    let seen : PeriodView → PeriodView = λ v. record v { sent = set v.sent c.args.slot (map frame_of c.args.nodes.now) } in
    let with : List (List (List ℕ)) → PeriodView = λ xs. record (shown c.self.inside) { sent = xs } in
    ap with (map-set slot_bytes c.self.inside.sent.items c.args.slot (with_items old c.say_all.new.frames) ∙ ap (set (map slot_bytes c.self.inside.sent.items) c.args.slot) made) ∙ ap seen c.self.view_is

pub index_mut-requires : goal.index_mut-requires
index_mut-requires g c =
    let m : c.self.inside.m ≡ c.args.self.now.m = ap (λ (v : PeriodView). v.m) c.self.view_is in
    omega (arith, c.self.invariant.slots, ap slot_count m, c.requires.slot, c.self.inside.sent.ok.0)
