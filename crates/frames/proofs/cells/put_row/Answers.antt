use Rattle.std.proofs.Common.{◌≡◌, ◌<◌, ◌+◌, ◌*◌, ℕ, List, [], ◌∷◌, ◌++◌, length, take, drop, set, sym, ap, ◌∙◌, add-one, append_assoc, take-suc-set, drop-set-lt, arith, lit<, inl, inr}
use Rattle.std.proofs.Math.ListN.{length-set}
use Rattle.std.proofs.lemmas.List.{length-take-le}
use Rattle.frames.specs.Spelling.{row_spelling, relayed_row_spelling}
use Rattle.frames.specs.Writing.{pasted}
use Rattle.frames.proofs.cells.put_row.Goals as goal

-- a tag, and bytes behind it
tagged : (at tag : ℕ) (bytes old : List ℕ) → at < length old → pasted (at + 1) bytes (set old at tag) ≡ pasted at (tag ∷ bytes) old
tagged at tag bytes old h =
    let front : take (at + 1) (set old at tag) ≡ take at old ++ (tag ∷ []) = rw add-one (take-suc-set old at tag h) in
    let back : drop (at + 1 + length bytes) (set old at tag) ≡ drop (at + length (tag ∷ bytes)) old =
    drop-set-lt (at + 1 + length bytes) old at tag (omega arith) ∙ ap (λ n. drop n old) (let e : at + 1 + length bytes ≡ at + length (tag ∷ bytes) = omega arith in e) in
    ap (λ xs. xs ++ bytes ++ drop (at + 1 + length bytes) (set old at tag)) front
    ∙ ap (λ xs. take at old ++ (tag ∷ []) ++ bytes ++ xs) back
    ∙ ap (λ xs. xs ++ drop (at + length (tag ∷ bytes)) old) (append_assoc (take at old) (tag ∷ []) bytes)

pub overflow_mul-width : goal.overflow_mul-width
overflow_mul-width g c = omega arith

pub overflow_add-width : goal.overflow_add-width
overflow_add-width g c = omega arith

pub overflow_mul-at : goal.overflow_mul-at
overflow_mul-at g c = omega arith

pub bounds-out-at : goal.bounds-out-at
bounds-out-at g c = omega arith

pub overflow_add-at : goal.overflow_add-at
overflow_add-at g c = omega arith

pub shared_whole_as_front-write_masks : goal.shared_whole_as_front-write_masks
shared_whole_as_front-write_masks g c = (c.requires.nodes, elim g.bound-1.eight_or_sixteen [ inl e ↦ rw e (lit< tt) | inr e ↦ rw e (lit< tt) ])

pub write_masks-requires : goal.write_masks-requires
write_masks-requires g c =
    let n = c.requires.nodes in
    let long : length (take c.args.nodes c.row.inside.masks) ≡ c.args.nodes = length-take-le c.args.nodes c.row.inside.masks (let l = c.row.told in omega arith) in
    let f = c.requires.fits in
    omega (arith, long, f, length-set c.args.out.now ((1 + 2 * c.args.nodes) * c.args.k) 0)

pub bounds-out-at-in-Fault : goal.bounds-out-at-in-Fault
bounds-out-at-in-Fault g c = omega arith

pub overflow_add-at-in-Fault : goal.overflow_add-at-in-Fault
overflow_add-at-in-Fault g c = omega arith

pub overflow_add-at-in-Fault-2 : goal.overflow_add-at-in-Fault-2
overflow_add-at-in-Fault-2 g c = omega arith

pub slice_bounds-fill-count : goal.slice_bounds-fill-count
slice_bounds-fill-count g c = omega arith

pub returns-in-Plain : goal.returns-in-Plain
returns-in-Plain g c =
    let at : ℕ = (1 + 2 * c.args.nodes) * c.args.k in
    let inside : at < length c.args.out.now = (let f = c.requires.fits in omega arith) in
    c.write_masks.ensures
    ∙ tagged at 0 (row_spelling c.args.nodes c.row.inside.masks) c.args.out.now inside
    ∙ ap (λ ms. pasted at (0 ∷ row_spelling c.args.nodes ms) c.args.out.now) c.row.view_is
    ∙ sym (ap (λ v. pasted at (relayed_row_spelling c.args.nodes v) c.args.out.now) c.in-Plain.is)
