use Rattle.std.proofs.Common.{arith, ℕ, ◌+◌, ◌-◌, ◌^◌, ◌≤◌, ◌≡◌, min, List, length, drop, take, ◌++◌, ap, sym, ◌∙◌, length-drop, length-take-le, length-append}
use Rattle.std.proofs.lemmas.List.{drop_all}
use Rattle.span_io.specs.Memory.{SourceState}
use Rattle.span_io.proofs.Taking.{taken}
use Rattle.span_io.proofs.memory.MemSourceSource.read.Goals as goal

part_long : (at len : ℕ) (there values : List ℕ) → at + len ≤ length there → len ≤ length values → length (take len values) ≡ length (take ((at + len) - at) (drop at there))
part_long at len there values fits few = length-take-le len values few ∙ (omega arith) ∙ sym (length-take-le ((at + len) - at) (drop at there) (omega (arith, length-drop at there)))

front_long : (n : ℕ) (xs ys : List ℕ) → length xs ≡ n → (n ≤ length (xs ++ ys)) × (n ≡ length (take n (xs ++ ys)))
front_long n xs ys long = (omega (arith, length-append xs ys), sym (length-take-le n (xs ++ ys) (omega (arith, length-append xs ys))))

pub invariant_of-self : goal.invariant_of-self
invariant_of-self c = c.self.invariant

pub returns-then-contains-clause-cause : goal.returns-then-contains-clause-cause
returns-then-contains-clause-cause c =
    let same = ap (λ (s : SourceState). s.faults) c.self.view_is in
    record {
      later = omega (arith, same, c.saturating_add-self-inside-then-contains.ensures, c.self.ranges);
      faultless = tt;
      failed = omega (arith, same, c.saturating_add-self-inside-then-contains.ensures);
    }

pub returns-then-contains-clause-call : goal.returns-then-contains-clause-call
returns-then-contains-clause-call c = c.saturating_add-self-inside.ensures ∙ ap (λ (s : SourceState). min (s.call + 1) (2 ^ 64 - 1)) c.self.view_is

pub overflow_sub-len : goal.overflow_sub-len
overflow_sub-len c = omega (arith, c.self.invariant.0, c.len.ensures, c.self.inside.bytes.ok)

pub overflow_add-self-inside : goal.overflow_add-self-inside
overflow_add-self-inside c = omega (arith, c.min-count.ensures, c.self.invariant.0, c.len.ensures, c.len.type_inv, c.self.inside.bytes.ok)

pub slice_bounds-copy_from_slice-end : goal.slice_bounds-copy_from_slice-end
slice_bounds-copy_from_slice-end c = omega (arith, c.min-count.ensures, c.min.ensures)

pub slice_bounds-copy_from_slice-end-2 : goal.slice_bounds-copy_from_slice-end-2
slice_bounds-copy_from_slice-end-2 c = sym (length-take-le c.min-count.result c.args.buf.now (omega (arith, c.min-count.ensures, c.min.ensures)))

pub slice_bounds-copy_from_slice-count : goal.slice_bounds-copy_from_slice-count
slice_bounds-copy_from_slice-count c = omega arith

pub copy_from_slice-requires : goal.copy_from_slice-requires
copy_from_slice-requires c =
    part_long c.self.inside.at c.min-count.result c.deref-2.result.now c.args.buf.now (omega (arith, c.self.invariant.0, c.min-count.ensures, c.len.ensures, c.self.inside.bytes.ok, ap length c.deref-2.ensures.value))
    (omega (arith, c.min-count.ensures, c.min.ensures))

pub overflow_add-self : goal.overflow_add-self
overflow_add-self c = omega (arith, c.min-count.ensures, c.self.invariant.0, c.len.ensures, c.len.type_inv, c.self.inside.bytes.ok)

pub invariant_of-self-2 : goal.invariant_of-self-2
invariant_of-self-2 c = (omega (arith, c.min-count.ensures, c.self.invariant.0, c.len.ensures, c.self.inside.bytes.ok), c.self.invariant.1)

pub returns-clause-bound : goal.returns-clause-bound
returns-clause-bound c =
    let count = c.min-count.result in
    let few : count ≤ length c.args.buf.now = omega (arith, c.min-count.ensures, c.min.ensures) in
    let part = part_long c.self.inside.at count c.deref-2.result.now c.args.buf.now (omega (arith, c.self.invariant.0, c.min-count.ensures, c.len.ensures, c.self.inside.bytes.ok, ap length c.deref-2.ensures.value)) few in
    front_long count c.copy_from_slice.new.self (drop count c.args.buf.now) (ap length c.copy_from_slice.ensures.after ∙ sym part ∙ length-take-le count c.args.buf.now few)

pub returns-clause-given : goal.returns-clause-given
returns-clause-given c = c.saturating_add-self-inside-2.ensures ∙ ap (λ (s : SourceState). min (s.given + c.min-count.result) (2 ^ 64 - 1)) c.self.view_is

pub returns-clause-cause : goal.returns-clause-cause
returns-clause-cause c =
    let same = ap (λ (s : SourceState). s.faults) c.self.view_is in
    record { later = omega (arith, same); faultless = same; failed = tt }

pub returns-clause-amount : goal.returns-clause-amount
returns-clause-amount c =
    let left = ap (λ (s : SourceState). length s.left) c.self.view_is in
    let piece = ap (λ (s : SourceState). s.piece) c.self.view_is in
    omega (arith, c.min-count.ensures, c.min.ensures, c.len.ensures, c.self.inside.bytes.ok, left, piece, length-drop c.self.inside.at c.self.inside.bytes.items)

pub returns-clause-call : goal.returns-clause-call
returns-clause-call c = c.saturating_add-self-inside.ensures ∙ ap (λ (s : SourceState). min (s.call + 1) (2 ^ 64 - 1)) c.self.view_is

pub returns-clause-bytes : goal.returns-clause-bytes
returns-clause-bytes c =
    let place = c.self.inside.at in
    let items = c.self.inside.bytes.items in
    let count = c.min-count.result in
    let within : place + count ≤ length items = omega (arith, c.self.invariant.0) in
    let size : (place + count) - place ≡ count = omega arith in
    let copied : c.copy_from_slice.new.self ≡ take count (drop place items) = rw (size, c.deref-2.ensures.value) at c.copy_from_slice.ensures.after in
    (ap (λ s. s.left) (sym c.self.view_is) ∙ taken items (drop count c.args.buf.now) c.copy_from_slice.new.self place count within copied, λ none some. let end : length items ≤ place + count = omega (arith, within, c.self.invariant.0) in drop_all _ _ end)

pub returns-then-contains-clause-bound : goal.returns-then-contains-clause-bound
returns-then-contains-clause-bound c = tt

pub returns-then-contains-clause-amount : goal.returns-then-contains-clause-amount
returns-then-contains-clause-amount c = tt

pub returns-then-contains-clause-bytes : goal.returns-then-contains-clause-bytes
returns-then-contains-clause-bytes c = ap (λ (s : SourceState). s.left) c.self.view_is

pub returns-then-contains-clause-given : goal.returns-then-contains-clause-given
returns-then-contains-clause-given c = ap (λ (s : SourceState). s.given) c.self.view_is

pub returns-then-contains-clause-same_piece : goal.returns-then-contains-clause-same_piece
returns-then-contains-clause-same_piece c = ap (λ (s : SourceState). s.piece) c.self.view_is

pub returns-then-contains-clause-same_fails : goal.returns-then-contains-clause-same_fails
returns-then-contains-clause-same_fails c = ap (λ (s : SourceState). s.fails) c.self.view_is

pub returns-clause-same_piece : goal.returns-clause-same_piece
returns-clause-same_piece c = ap (λ (s : SourceState). s.piece) c.self.view_is

pub returns-clause-same_fails : goal.returns-clause-same_fails
returns-clause-same_fails c = ap (λ (s : SourceState). s.fails) c.self.view_is
