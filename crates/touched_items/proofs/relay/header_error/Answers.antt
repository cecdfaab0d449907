use Rattle.std.proofs.Common.{◌==◌, ◌&&◌, Bool, Some, sym, ap, ◌∙◌, eq-eqb, ne_eqb}
use Rattle.std.specs.Cmp.Lexicographic.{pointwise}
use Rattle.std.proofs.lemmas.Bool.{cond-true, cond-false, and_from}
use Rattle.std.proofs.lemmas.Slice.Eq.{bytes_eq-Decides}
use Rattle.node_grid.specs.Kinds.{malformed, cold}
use Rattle.frames.specs.FrameKinds.{cold_kind}
use Rattle.frames.specs.Spelling.{header_spelling}
use Rattle.touched_items.proofs.Coming.{clear_header, other_header}
use Rattle.touched_items.proofs.relay.header_error.Goals as goal
use Rattle.touched_items.proofs.relay.header_error.Goals.{else-size-eq0-via-then-size-eq0+else-is_header-2, else-size-eq0-via-else-size-eq0}

pub returns-then-is_header-2 : goal.returns-then-is_header-2
returns-then-is_header-2 c =
    let empty : Bool = (c.args.size == 0) && c.is_header-then-size-eq0.result in
    sym (other_header c.args.patch.now.at c.args.patch.now.bytes.now c.args.head c.args.kind c.args.size c.header-came.result c.put_over.new.part c.is_header.result c.is_header-then-size-eq0.result
    c.header-came.ensures c.put_over.ensures c.is_header.ensures c.is_header-then-size-eq0.ensures c.if-is_header.false
    ∙ ap Some (cond-true empty cold malformed (and_from (c.args.size == 0) c.is_header-then-size-eq0.result (eq-eqb c.args.size 0 c.if-size-eq0.true) c.if-is_header-2.true)))

pub returns-else-size-eq0 : goal.returns-else-size-eq0
returns-else-size-eq0 c = elim c.else-size-eq0.branch [
  | else-size-eq0-via-then-size-eq0+else-is_header-2 w ↦
      let empty : Bool = (c.args.size == 0) && w.is_header-then-size-eq0.result in
      sym (other_header c.args.patch.now.at c.args.patch.now.bytes.now c.args.head c.args.kind c.args.size c.header-came.result c.put_over.new.part c.is_header.result w.is_header-then-size-eq0.result
      c.header-came.ensures c.put_over.ensures c.is_header.ensures w.is_header-then-size-eq0.ensures c.if-is_header.false
      ∙ ap Some (cond-false empty cold malformed (ap (λ (t : Bool). t && w.is_header-then-size-eq0.result) (eq-eqb c.args.size 0 w.if-size-eq0.true) ∙ w.if-is_header-2.false)))
  | else-size-eq0-via-else-size-eq0 w ↦
      let silent = header_spelling c.args.head cold_kind 0 in
      let same : Bool = pointwise ◌==◌ c.put_over.new.part silent in
      let empty : Bool = (c.args.size == 0) && same in
      sym (other_header c.args.patch.now.at c.args.patch.now.bytes.now c.args.head c.args.kind c.args.size c.header-came.result c.put_over.new.part c.is_header.result same
      c.header-came.ensures c.put_over.ensures c.is_header.ensures (bytes_eq-Decides c.put_over.new.part silent) c.if-is_header.false
      ∙ ap Some (cond-false empty cold malformed (ap (λ (t : Bool). t && same) (ne_eqb c.args.size 0 w.if-size-eq0.false))))
]

pub returns-then-is_clear_of : goal.returns-then-is_clear_of
returns-then-is_clear_of c = sym (clear_header c.args.patch.now.at c.args.patch.now.bytes.now c.args.head c.args.kind c.args.size (c.is_clear_of.ensures c.if-is_clear_of.true))
