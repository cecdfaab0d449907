use Rattle.std.proofs.Common.{ℕ, Bool, List, ◌≡◌, true, false, ◌&&◌, ◌==◌, length, take, drop, slice_index, bytes_eq, w32, refl, sym, ap, ◌∙◌, eq-eqb, ne_eqb, arith}
use Rattle.std.specs.Int.{to_be_bytes}
use Rattle.frames.specs.declared.frame.Head.{Head}
use Rattle.frames.specs.Checks.{has_fields}
use Rattle.frames.proofs.encoding.has_fields.Goals as goal
use Rattle.frames.proofs.encoding.has_fields.Goals.{then-bytes-eq-HEADER, else-bytes-eq-HEADER, then-bytes-eq77, else-bytes-eq77, then-bytes-eq70, else-bytes-eq70, then-bytes-head, else-bytes-head, then-bytes-kind, else-bytes-kind, then-spells, else-spells, then-bytes-head-2, else-bytes-head-2}

-- a test that is made only where the one before it holds
passed : (p t v : Bool) → p ≡ true → v ≡ t → v ≡ (p && t)
passed p t v e h = h ∙ sym (ap (λ q. q && t) e)

stopped : (p t v : Bool) → p ≡ false → v ≡ p → v ≡ (p && t)
stopped p t v e h = h ∙ e ∙ sym (ap (λ q. q && t) e)

turned : (a b c d e f g h i : Bool) → ((((((((a && b) && c) && d) && e) && f) && g) && h) && i) ≡ (a && (b && (c && (d && (e && (f && (g && (h && i))))))))
turned false b c d e f g h i = refl
turned true false c d e f g h i = refl
turned true true false d e f g h i = refl
turned true true true false e f g h i = refl
turned true true true true false f g h i = refl
turned true true true true true false g h i = refl
turned true true true true true true false h i = refl
turned true true true true true true true false i = refl
turned true true true true true true true true i = refl

chained : (a b c d e f g h i v1 v2 v3 v4 v5 v6 v7 r : Bool)
    → v1 ≡ (a && b) → v2 ≡ (v1 && c) → v3 ≡ (v2 && d) → v4 ≡ (v3 && e) → v5 ≡ (v4 && f) → v6 ≡ (v5 && g) → v7 ≡ (v6 && h) → r ≡ (v7 && i)
    → r ≡ (a && (b && (c && (d && (e && (f && (g && (h && i))))))))
chained a b c d e f g h i v1 v2 v3 v4 v5 v6 v7 r e1 e2 e3 e4 e5 e6 e7 e8 =
    let upto5 = e5 ∙ ap (λ v. v && f) (e4 ∙ ap (λ v. v && e) (e3 ∙ ap (λ v. v && d) (e2 ∙ ap (λ v. v && c) e1))) in
    e8 ∙ ap (λ v. v && i) (e7 ∙ ap (λ v. v && h) (e6 ∙ ap (λ v. v && g) upto5)) ∙ turned a b c d e f g h i

each_field : (head : Head) (k size : ℕ) (bytes : List ℕ) (v1 v2 v3 v4 v5 v6 v7 r : Bool)
    → v1 ≡ ((length bytes == 14) && (slice_index bytes 0 == 77))
    → v2 ≡ (v1 && (slice_index bytes 1 == 70))
    → v3 ≡ (v2 && (slice_index bytes 2 == head.version))
    → v4 ≡ (v3 && (slice_index bytes 3 == k))
    → v5 ≡ (v4 && (bytes_eq (take 4 (drop 4 bytes)) (to_be_bytes w32 head.period)))
    → v6 ≡ (v5 && (slice_index bytes 8 == head.sender))
    → v7 ≡ (v6 && (slice_index bytes 9 == head.slot))
    → r ≡ (v7 && bytes_eq (take 4 (drop 10 bytes)) (to_be_bytes w32 size))
    → r ≡ has_fields head k size bytes
each_field head k size bytes v1 v2 v3 v4 v5 v6 v7 r e1 e2 e3 e4 e5 e6 e7 e8 =
    chained _ _ _ _ _ _ _ _ _ v1 v2 v3 v4 v5 v6 v7 r e1 e2 e3 e4 e5 e6 e7 e8

pub bounds-bytes-0 : goal.bounds-bytes-0
bounds-bytes-0 c = omega arith

pub bounds-bytes-1 : goal.bounds-bytes-1
bounds-bytes-1 c = omega arith

pub bounds-bytes-2 : goal.bounds-bytes-2
bounds-bytes-2 c = omega arith

pub bounds-bytes-3 : goal.bounds-bytes-3
bounds-bytes-3 c = omega arith

pub spells-requires : goal.spells-requires
spells-requires c = omega arith

pub bounds-bytes-8 : goal.bounds-bytes-8
bounds-bytes-8 c = omega arith

pub bounds-bytes-9 : goal.bounds-bytes-9
bounds-bytes-9 c = omega arith

pub spells-requires-then-bytes-head-3 : goal.spells-requires-then-bytes-head-3
spells-requires-then-bytes-head-3 c = omega arith

pub returns-then-bytes-head-3 : goal.returns-then-bytes-head-3
returns-then-bytes-head-3 c =
    each_field c.args.head c.args.kind c.args.size c.args.bytes.now _ _ _ _ _ _ _ _
    (elim c.if-bytes-eq-HEADER.branch [
      | then-bytes-eq-HEADER w ↦ passed _ _ _ (eq-eqb _ _ w.if-bytes-eq-HEADER.true) w.value-is
      | else-bytes-eq-HEADER w ↦ stopped _ _ _ (ne_eqb _ _ w.if-bytes-eq-HEADER.false) w.value-is
    ])
    (elim c.if-bytes-eq77.branch [ then-bytes-eq77 w ↦ passed _ _ _ w.if-bytes-eq77.true w.value-is | else-bytes-eq77 w ↦ stopped _ _ _ w.if-bytes-eq77.false w.value-is ])
    (elim c.if-bytes-eq70.branch [ then-bytes-eq70 w ↦ passed _ _ _ w.if-bytes-eq70.true w.value-is | else-bytes-eq70 w ↦ stopped _ _ _ w.if-bytes-eq70.false w.value-is ])
    (elim c.if-bytes-head.branch [ then-bytes-head w ↦ passed _ _ _ w.if-bytes-head.true w.value-is | else-bytes-head w ↦ stopped _ _ _ w.if-bytes-head.false w.value-is ])
    (elim c.if-bytes-kind.branch [
      | then-bytes-kind w ↦ passed _ _ _ w.if-bytes-kind.true (w.value-is ∙ w.spells.ensures)
      | else-bytes-kind w ↦ stopped _ _ _ w.if-bytes-kind.false w.value-is
    ])
    (elim c.if-spells.branch [ then-spells w ↦ passed _ _ _ w.if-spells.true w.value-is | else-spells w ↦ stopped _ _ _ w.if-spells.false w.value-is ])
    (elim c.if-bytes-head-2.branch [
      | then-bytes-head-2 w ↦ passed _ _ _ w.if-bytes-head-2.true w.value-is
      | else-bytes-head-2 w ↦ stopped _ _ _ w.if-bytes-head-2.false w.value-is
    ])
    (passed _ _ _ c.if-bytes-head-3.true c.spells-then-bytes-head-3.ensures)

pub returns-else-bytes-head-3 : goal.returns-else-bytes-head-3
returns-else-bytes-head-3 c =
    each_field c.args.head c.args.kind c.args.size c.args.bytes.now _ _ _ _ _ _ _ _
    (elim c.if-bytes-eq-HEADER.branch [
      | then-bytes-eq-HEADER w ↦ passed _ _ _ (eq-eqb _ _ w.if-bytes-eq-HEADER.true) w.value-is
      | else-bytes-eq-HEADER w ↦ stopped _ _ _ (ne_eqb _ _ w.if-bytes-eq-HEADER.false) w.value-is
    ])
    (elim c.if-bytes-eq77.branch [ then-bytes-eq77 w ↦ passed _ _ _ w.if-bytes-eq77.true w.value-is | else-bytes-eq77 w ↦ stopped _ _ _ w.if-bytes-eq77.false w.value-is ])
    (elim c.if-bytes-eq70.branch [ then-bytes-eq70 w ↦ passed _ _ _ w.if-bytes-eq70.true w.value-is | else-bytes-eq70 w ↦ stopped _ _ _ w.if-bytes-eq70.false w.value-is ])
    (elim c.if-bytes-head.branch [ then-bytes-head w ↦ passed _ _ _ w.if-bytes-head.true w.value-is | else-bytes-head w ↦ stopped _ _ _ w.if-bytes-head.false w.value-is ])
    (elim c.if-bytes-kind.branch [
      | then-bytes-kind w ↦ passed _ _ _ w.if-bytes-kind.true (w.value-is ∙ w.spells.ensures)
      | else-bytes-kind w ↦ stopped _ _ _ w.if-bytes-kind.false w.value-is
    ])
    (elim c.if-spells.branch [ then-spells w ↦ passed _ _ _ w.if-spells.true w.value-is | else-spells w ↦ stopped _ _ _ w.if-spells.false w.value-is ])
    (elim c.if-bytes-head-2.branch [
      | then-bytes-head-2 w ↦ passed _ _ _ w.if-bytes-head-2.true w.value-is
      | else-bytes-head-2 w ↦ stopped _ _ _ w.if-bytes-head-2.false w.value-is
    ])
    (stopped _ _ _ c.if-bytes-head-3.false refl)
