use Rattle.std.proofs.Common.{◌≡◌, ℕ, ◌+◌, ◌++◌, ◌∷◌, [], length, sym, ap, subst, ◌∙◌, arith}
use Rattle.std.specs.Prelude.{All}
use Rattle.std.proofs.lemmas.List.{length_push}
use Rattle.std.proofs.lemmas.List.Elements.{All-nil, All-cons, All-append}
use Rattle.cluster_record.specs.Buffers.{IsSlot}
use Rattle.cluster_record.proofs.record.opening.all_buffers.Goals as goal

pub loop-init : goal.loop-init
loop-init c = (ap length c.in_ok-sent.ensures.items, subst (All (IsSlot c.args.room c.args.nodes)) (sym c.in_ok-sent.ensures.items) (All-nil (IsSlot c.args.room c.args.nodes)))

pub loop-preserved : goal.loop-preserved
loop-preserved c =
    let xs = c.loop.sent.items in
    let x = c.in_ok-slot_buffers.field-0 in
    let items : c.push.new.self.items ≡ xs ++ x ∷ [] = c.in_ok-push.ensures.items in (
      ap length items ∙ length_push xs x ∙ ap (λ (n : ℕ). n + 1) c.loop.invariant.0,
      subst (All (IsSlot c.args.room c.args.nodes)) (sym items) (All-append (IsSlot c.args.room c.args.nodes) xs (x ∷ []) c.loop.invariant.1 (All-cons (IsSlot c.args.room c.args.nodes) x [] c.in_ok-slot_buffers.ensures (All-nil (IsSlot c.args.room c.args.nodes)))),
    )

pub returns : goal.returns
returns c = let long : length c.loop.sent.items ≡ c.args.slots = omega (arith, c.loop.invariant.0, c.loop.auto.counter-end, c.loop-test.false) in (long, c.loop.invariant.1)
