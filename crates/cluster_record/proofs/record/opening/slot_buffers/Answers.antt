use Rattle.std.proofs.Common.{◌≡◌, ℕ, ◌+◌, ◌++◌, ◌∷◌, [], length, sym, ap, subst, ◌∙◌, arith}
use Rattle.std.specs.Prelude.{All}
use Rattle.std.proofs.lemmas.List.{length_push}
use Rattle.std.proofs.lemmas.List.Elements.{All-nil, All-cons, All-append}
use Rattle.cluster_record.specs.Buffers.{IsBuffer}
use Rattle.cluster_record.proofs.record.opening.slot_buffers.Goals as goal

pub loop-init : goal.loop-init
loop-init c = (ap length c.in_ok-frames.ensures.items, subst (All (IsBuffer c.args.room)) (sym c.in_ok-frames.ensures.items) (All-nil (IsBuffer c.args.room)))

pub loop-preserved : goal.loop-preserved
loop-preserved c =
    let xs = c.loop.frames.items in
    let x = c.in_ok-with_capacity.field-0 in
    let items : c.push.new.self.items ≡ xs ++ x ∷ [] = c.in_ok-push.ensures.items in
    let none : length x.items ≡ 0 = ap length c.in_ok-with_capacity.ensures.items in
    let is : IsBuffer c.args.room x = record { roomy = c.in_ok-with_capacity.ensures.capacity; short = omega (arith, none) } in (
      ap length items ∙ length_push xs x ∙ ap (λ (n : ℕ). n + 1) c.loop.invariant.0,
      subst (All (IsBuffer c.args.room)) (sym items) (All-append (IsBuffer c.args.room) xs (x ∷ []) c.loop.invariant.1 (All-cons (IsBuffer c.args.room) x [] is (All-nil (IsBuffer c.args.room)))),
    )

pub returns : goal.returns
returns c = record { each = omega (arith, c.loop.invariant.0, c.loop.auto.counter-end, c.loop-test.false); buffers = c.loop.invariant.1 }
