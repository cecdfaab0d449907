use Rattle.std.proofs.Common.{◌≡◌, ◌/◌, ◌<◌, ◌≤◌, ◌*◌, ◌+◌, ◌-◌, ℕ, List, length, subst, sym, ap, ◌∙◌, false, arith, get_or, take, drop, length-drop, lit<, inl, inr}
use Rattle.std.specs.Prelude.{◌==◌, if◌then◌else◌}
use Rattle.std.proofs.lemmas.List.{length-take-le}
use Rattle.std.proofs.Math.Nat.{mul_comm}
use Rattle.omh_paths.specs.declared.wrapped.Wrapped.{Wrapped}
use Rattle.omh_paths.specs.declared.wrapped.Wrapped.TheVariants.{Plain, Fault}
use Rattle.frames.specs.Reading.{content_row, relayed_row_in, content_rows}
use Rattle.frames.specs.PieceLaws.{read_at, piece_within}
use Rattle.frames.specs.EntryLaws.{relayed_row_at}
use Rattle.frames.proofs.cells.Cells.row_at.Goals as goal

-- the entry at a place, by its tag
entry : (capacity nodes width k : ℕ) (bytes : List ℕ) (d : Wrapped (List ℕ)) → width ≡ 1 + 2 * nodes → k < length bytes / width
    → get_or (content_rows capacity nodes bytes) k d ≡ (if get_or bytes (k * width) 0 == 0 then Plain (content_row capacity nodes (take (2 * nodes) (drop (k * width + 1) bytes))) else Fault (get_or bytes (k * width) 0))
entry capacity nodes width k bytes d e h =
    let P : ℕ → Type 0 = λ w. k < length bytes / w in
    let at : (1 + 2 * nodes) * k ≡ k * width = mul_comm (1 + 2 * nodes) k ∙ ap (λ w. k * w) (sym e) in
    read_at (1 + 2 * nodes) (relayed_row_in capacity nodes) bytes k d (subst P e h) ∙ relayed_row_at capacity nodes bytes k (k * width) at

-- an entry lies within the bytes
inside : (nodes width k n : ℕ) → width ≡ 1 + 2 * nodes → k < n / width → k * width + width ≤ n
inside nodes width k n e h = let p = piece_within width k n (omega arith) h in omega (arith, p)

-- the masks of an entry, behind its tag
part_long : (nodes width at : ℕ) (bytes : List ℕ) → width ≡ 1 + 2 * nodes → at + width ≤ length bytes → length (take (at + width - (at + 1)) (drop (at + 1) bytes)) ≡ 2 * nodes
part_long nodes width at bytes e fits =
    length-take-le (at + width - (at + 1)) (drop (at + 1) bytes) (omega (arith, length-drop (at + 1) bytes, fits, e)) ∙ omega (arith, e)

behind : (nodes width at : ℕ) → width ≡ 1 + 2 * nodes → at + 1 ≤ at + width
behind nodes width at e = omega (arith, e)

pub overflow_mul-at : goal.overflow_mul-at
overflow_mul-at g c =
    let i = inside c.args.nodes c.args.self.now.width c.args.k (length c.args.self.now.bytes.now) c.requires.wide c.requires.within in
    let w = c.requires.wide in
    omega arith

pub bounds-self-at : goal.bounds-self-at
bounds-self-at g c = let i = inside c.args.nodes c.args.self.now.width c.args.k (length c.args.self.now.bytes.now) c.requires.wide c.requires.within in let w = c.requires.wide in omega arith

pub overflow_add-at : goal.overflow_add-at
overflow_add-at g c =
    let i = inside c.args.nodes c.args.self.now.width c.args.k (length c.args.self.now.bytes.now) c.requires.wide c.requires.within in
    let w = c.requires.wide in
    omega arith

pub overflow_add-at-in-0 : goal.overflow_add-at-in-0
overflow_add-at-in-0 g c =
    let i = inside c.args.nodes c.args.self.now.width c.args.k (length c.args.self.now.bytes.now) c.requires.wide c.requires.within in
    let w = c.requires.wide in
    omega arith

pub slice_bounds-read_row-count : goal.slice_bounds-read_row-count
slice_bounds-read_row-count g c = let w = c.requires.wide in omega arith

pub returns-in-0 : goal.returns-in-0
returns-in-0 g c =
    let bytes : List ℕ = c.args.self.now.bytes.now in
    let at : ℕ = c.args.k * c.args.self.now.width in
    let zero : get_or bytes at 0 ≡ 0 = c.in-0.is in
    let size : at + c.args.self.now.width - (at + 1) ≡ 2 * c.args.nodes = omega (arith, c.requires.wide) in
    ap Plain (c.read_row.ensures ∙ ap (λ n. content_row g.row.N c.args.nodes (take n (drop (at + 1) bytes))) size)
    ∙ sym (entry g.row.N c.args.nodes c.args.self.now.width c.args.k bytes _ c.requires.wide c.requires.within
    ∙ ap (λ t. if t == 0 then Plain (content_row g.row.N c.args.nodes (take (2 * c.args.nodes) (drop (at + 1) bytes))) else Fault t) zero)

pub returns-in_default : goal.returns-in_default
returns-in_default g c =
    let bytes : List ℕ = c.args.self.now.bytes.now in
    let at : ℕ = c.args.k * c.args.self.now.width in
    let some : (get_or bytes at 0 == 0) ≡ false = grind arith in
    sym (entry g.row.N c.args.nodes c.args.self.now.width c.args.k bytes _ c.requires.wide c.requires.within
    ∙ ap (λ b. if b then Plain (content_row g.row.N c.args.nodes (take (2 * c.args.nodes) (drop (at + 1) bytes))) else Fault (get_or bytes at 0)) some)

pub slice_bounds-read_row-end : goal.slice_bounds-read_row-end
slice_bounds-read_row-end g c = inside c.args.nodes c.args.self.now.width c.args.k (length c.args.self.now.bytes.now) c.requires.wide c.requires.within

pub slice_bounds-read_row-start : goal.slice_bounds-read_row-start
slice_bounds-read_row-start g c = behind c.args.nodes c.args.self.now.width (c.args.k * c.args.self.now.width) c.requires.wide

pub read_row-requires : goal.read_row-requires
read_row-requires g c = (
  elim g.bound-1.eight_or_sixteen [ inl e ↦ rw e (lit< tt) | inr e ↦ rw e (lit< tt) ],
  (
    c.requires.nodes,
    part_long c.args.nodes c.args.self.now.width (c.args.k * c.args.self.now.width) c.args.self.now.bytes.now c.requires.wide
        (inside c.args.nodes c.args.self.now.width c.args.k (length c.args.self.now.bytes.now) c.requires.wide c.requires.within),
  ),
)
