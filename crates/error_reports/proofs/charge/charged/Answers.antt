use Rattle.std.proofs.Common.{ℕ, ◌%◌, ◌*◌, ◌^◌, Bool, bit_or, sym, ap, ◌∙◌, lit<, inl, inr, ◌≡◌, arith, refl}
use Rattle.node_grid.specs.NodeSet.{ids_where, mask_of}
use Rattle.node_grid.specs.Capacity.{IsCapacity}
use Rattle.error_reports.specs.Charge.{charged}
use Rattle.node_grid.specs.MaskLaws.{mask-set, mask-clear}
use Rattle.error_reports.proofs.charge.charged.Goals as goal
use Rattle.error_reports.proofs.charge.charged.Goals.{then-is_charged, else-is_charged}

pub loop-kind-preserved : goal.loop-kind-preserved
loop-kind-preserved g c =
    let p : ℕ → Bool = charged c.args.rows.now c.args.members.now c.args.node in
    let i = c.loop-kind.kind in
    elim c.if-is_charged.branch [
      | then-is_charged w ↦
          w.mask-is ∙ ap (λ mask. bit_or mask (1 * 2 ^ i % 65536)) c.loop-kind.invariant
          ∙ mask-set p i c.loop-kind-test.true (sym c.is_charged.ensures ∙ w.if-is_charged.true)
      | else-is_charged w ↦ w.mask-is ∙ c.loop-kind.invariant ∙ mask-clear p i (sym c.is_charged.ensures ∙ w.if-is_charged.false)
    ]

pub loop-kind-init : goal.loop-kind-init
loop-kind-init g c = refl

pub is_charged-requires : goal.is_charged-requires
is_charged-requires g c =
    let cap : IsCapacity g.row.N = g.bound-1.eight_or_sixteen in (
      elim cap [ inl e ↦ rw e (lit< tt) | inr e ↦ rw e (lit< tt) ],
      (lit< tt, (c.requires.in_range, c.loop-kind-test.true)),
    )

pub overflow_cast-mask : goal.overflow_cast-mask
overflow_cast-mask g c = let t = c.loop-kind-test.true in omega arith

pub overflow_shl-mask : goal.overflow_shl-mask
overflow_shl-mask g c = c.loop-kind-test.true

pub loop-kind-smaller : goal.loop-kind-smaller
loop-kind-smaller g c = let t = c.loop-kind-test.true in omega arith

pub returns : goal.returns
returns g c =
    let all : c.loop-kind.kind ≡ 16 = (let e = c.loop-kind.auto.kind-end in let t = c.loop-kind-test.false in omega arith) in
    c.loop-kind.invariant ∙ ap (λ (n : ℕ). mask_of (ids_where (charged c.args.rows.now c.args.members.now c.args.node) n)) all
