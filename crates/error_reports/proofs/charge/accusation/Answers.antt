use Rattle.std.proofs.Common.{◌≡◌, ◌&&◌, not, Bool, None, sym, ap, arith, eq-eqb, lit<, inl, inr, false, ◌∙◌, ◌==◌, true, Some, ap₂, get_or}
use Rattle.node_grid.specs.Capacity.{IsCapacity}
use Rattle.std.proofs.lemmas.Bool.{cond-false, cond-true, and_from, ne_eqb}
use Rattle.error_reports.specs.Charge.{is_sender, is_voter, is_row, is_accuser, row_accuses}
use Rattle.node_grid.specs.Matrix.{row_at}
use Rattle.std.proofs.Math.Bool.{and-false}
use Rattle.std.proofs.lemmas.Nat.Bits.{shr_and_one}
use Rattle.error_reports.proofs.charge.accusation.Goals as goal

pub returns-then-member-node : goal.returns-then-member-node
returns-then-member-node g c =
    let own : is_voter c.args.rows.now c.args.node c.args.member ≡ false = ap (λ (b : Bool). not b && is_sender c.args.rows.now c.args.member) (eq-eqb c.args.member c.args.node c.if-member-node.true) in
    sym (cond-false (is_voter c.args.rows.now c.args.node c.args.member) _ None own)

pub get-requires : goal.get-requires
get-requires g c =
    let cap : IsCapacity g.row.N = g.bound-1.eight_or_sixteen in (
      elim cap [ inl e ↦ rw e (lit< tt) | inr e ↦ rw e (lit< tt) ],
      elim cap [ inl e ↦ rw e (lit< tt) | inr e ↦ rw e (lit< tt) ],
    )

pub offset_bounds-row-inside-node : goal.offset_bounds-row-inside-node
offset_bounds-row-inside-node g c = let r = c.requires.in_range in let cap : IsCapacity g.row.N = g.bound-1.eight_or_sixteen in omega arith

pub bounds-row-inside-node : goal.bounds-row-inside-node
bounds-row-inside-node g c = c.requires.in_range

pub overflow_shr-result : goal.overflow_shr-result
overflow_shr-result g c = c.requires.kind

pub returns-in_default : goal.returns-in_default
returns-in_default g c =
    let rows = c.args.rows.now in
    let q = c.args.member in
    let j = c.args.node in
    let none : is_voter rows j q ≡ false = ap (λ b. not (q == j) && b) (ap is_row (sym c.in_default.ensures.row)) ∙ and-false (not (q == j)) in
    sym (cond-false (is_voter rows j q) _ None none)

pub returns : goal.returns
returns g c =
    let rows = c.args.rows.now in
    let q = c.args.member in
    let j = c.args.node in
    let k = c.args.kind in
    let at : row_at rows q ≡ Some c.in-Some.row.now = sym c.in-Some.ensures.row in
    let other : not (q == j) ≡ true = ap not (ne_eqb q j c.if-member-node.false) in
    let votes : is_voter rows j q ≡ true = and_from (not (q == j)) (is_sender rows q) other (ap is_row at) in
    let accuses : is_accuser rows j k q ≡ row_accuses (Some c.in-Some.row.now) j k = ap₂ (λ b r. b && row_accuses r j k) other at in
    ap (λ b. Some (b == 1)) (shr_and_one (get_or c.row.inside.masks j 0) k) ∙ ap Some (ap (λ masks. row_accuses (Some masks) j k) c.row.view_is ∙ sym accuses) ∙ sym (cond-true (is_voter rows j q) _ None votes)
