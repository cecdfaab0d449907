use Rattle.std.proofs.Common.{rules, ◌<◌, ◌||◌, ◌+◌, ℕ, List, Option, arith, sym, ap, subst, ◌∙◌}
use Rattle.node_grid.specs.NodeSet.{ids_where, mask_of}
use Rattle.error_reports.specs.Charge.{accuses}
use Rattle.error_reports.specs.Notes.{is_kind}
use Rattle.error_reports.proofs.Filling.{Filled, noted_of, filled_put, filled_skip, filled_all, noted_here, noted_self, noted_behind}
use Rattle.error_reports.proofs.row_builder.besides.Goals as goal
use Rattle.error_reports.proofs.row_builder.besides.Goals.{then-j-me, else-j-me}

pub loop-j-init : goal.loop-j-init
loop-j-init g c = λ gives are. record { wide = search rules; so_far = λ k h. search rules; rest = λ k h. search rules }

pub loop-j-preserved : goal.loop-j-preserved
loop-j-preserved g c = λ gives are.
    let j : ℕ = c.loop-j.j in
    let nodes : ℕ = c.args.nodes in
    let me : ℕ = c.args.me in
    let G = λ (q : ℕ). mask_of (ids_where (λ b. accuses c.args.row.now q b || is_kind (gives q) b) c.args.kinds) in
    let low : j < g.row.N = (let t = c.loop-j-test.true in let f = c.requires.nodes in omega arith) in
    elim c.if-j-me.branch [
      | then-j-me w ↦
          let one = w.joined.ensures ∙ ap (λ (x : Option ℕ). mask_of (ids_where (λ k. accuses c.row.inside.masks j k || is_kind x k) c.args.kinds)) (are j w.kind_of.result low c.loop-j-test.true w.if-j-me.true w.kind_of.ensures) in
          filled_put g.row.N (noted_of nodes me G) j w.joined.result c.loop-j.masks c.if-j-me.masks (c.loop-j.invariant gives are) low
          (one ∙ ap (λ (xs : List ℕ). mask_of (ids_where (λ b. accuses xs j b || is_kind (gives j) b) c.args.kinds)) c.row.view_is ∙ sym (noted_here nodes me G j c.loop-j-test.true w.if-j-me.true)) w.masks-is
      | else-j-me w ↦ subst (Filled g.row.N (noted_of nodes me G) (j + 1)) (sym w.masks-is) (filled_skip g.row.N (noted_of nodes me G) j c.loop-j.masks (c.loop-j.invariant gives are) (noted_self nodes me G j w.if-j-me.false))
    ]

pub returns : goal.returns
returns g c = λ gives are.
    let G = λ (q : ℕ). mask_of (ids_where (λ b. accuses c.args.row.now q b || is_kind (gives q) b) c.args.kinds) in
    filled_all g.row.N (noted_of c.args.nodes c.args.me G) c.loop-j.j c.loop-j.masks (c.loop-j.invariant gives are) (λ k h. noted_behind c.args.nodes c.args.me G k (let t = c.loop-j-test.false in omega arith))
