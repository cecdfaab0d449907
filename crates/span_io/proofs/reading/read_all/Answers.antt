use Rattle.std.proofs.Common.{◌≡◌, ℕ, ◌≤◌, length, take, drop, ◌++◌, length-append, length-take, arith, refl, ◌∙◌, Result, Ok, Err, inl, inr}
use Rattle.std.proofs.lemmas.List.{take-append-le}
use Rattle.std.proofs.KnownBytes.{Consumes-nil, Consumes-trans}
use Rattle.node_grid.specs.ListFacts.{consumes_kept}
use Rattle.span_io.specs.declared.reading.ReadError.{ReadError}
use Rattle.span_io.specs.declared.reading.ReadError.TheVariants.{Failed, TooLong, NoMemory}
use Rattle.span_io.proofs.reading.read_all.Goals as goal

-- no call answers two errors, or an error and bytes
not_ok : {T P : Type 0} {r : Result T ReadError} {x : T} {e : ReadError} → r ≡ Ok x → r ≡ Err e → P
not_ok is e = cc

not_failed : {T P : Type 0} {r : Result T ReadError} → r ≡ Err Failed → r ≡ Err TooLong → P
not_failed is e = cc

unfailed : {T P : Type 0} {r : Result T ReadError} → r ≡ Err NoMemory → r ≡ Err Failed → P
unfailed is e = cc

not_long : {T P : Type 0} {r : Result T ReadError} → r ≡ Err NoMemory → r ≡ Err TooLong → P
not_long is e = cc

too_long_failed : {T P : Type 0} {r : Result T ReadError} → r ≡ Err TooLong → r ≡ Err Failed → P
too_long_failed is e = cc

pub loop-count-init : goal.loop-count-init
loop-count-init g c = rw (c.new-bytes.ensures.len, c.new-bytes.ensures.items) (omega arith, Consumes-nil _, omega arith, refl)

pub returns-in_default-extend_from_slice-clause-taken : goal.returns-in_default-extend_from_slice-clause-taken
returns-in_default-extend_from_slice-clause-taken g c = (_, Consumes-trans _ _ _ _ _ c.loop-count.invariant.1 c.in-Ok.ensures.bytes.0)

pub returns-then-len-limit-clause-too_long : goal.returns-then-len-limit-clause-too_long
returns-then-len-limit-clause-too_long g c =
    let given : length c.read.new.buf ≤ c.min-room.result = rw c.read.auto.buf (omega (arith, length-take c.min-room.result c.loop-count.piece)) in
    let count : c.in-Ok.count ≤ length c.read.new.buf = omega (arith, c.in-Ok.ensures.bound) in
    λ e. (_, simp (length-append, length-take) (omega (arith, given, count, c.loop-count.invariant.0, c.in-Ok-extend_from_slice.ensures.len, c.loop-count.bytes.ok, length-take {A = ℕ}, length-append {A = ℕ})), Consumes-trans _ _ _ _ _ c.loop-count.invariant.1 c.in-Ok.ensures.bytes.0)

pub loop-count-preserved : goal.loop-count-preserved
loop-count-preserved g c =
    let count = c.in-Ok.count in
    let buf = c.read.new.buf in
    let within : count ≤ length buf = c.in-Ok.ensures.bound.0 in
    let front : take count (buf ++ drop c.min-room.result c.loop-count.piece) ≡ take count buf = rw take-append-le refl in (
      omega (arith, c.if-len-limit.false, c.len-in-loop-count.ensures),
      rw (c.in-Ok-extend_from_slice.ensures.items, front) (Consumes-trans _ _ _ _ _ c.loop-count.invariant.1 c.in-Ok.ensures.bytes.0),
      omega (arith, c.loop-count.invariant.2, c.in-Ok.ensures.given, c.in-Ok.ensures.bound.1, rw front at c.in-Ok-extend_from_slice.ensures.len),
      c.in-Ok.ensures.cause.faultless ∙ c.loop-count.invariant.3,
    )

pub overflow_add-limit : goal.overflow_add-limit
overflow_add-limit g c = omega (arith, c.requires)

pub overflow_sub-limit : goal.overflow_sub-limit
overflow_sub-limit g c = omega (arith, c.loop-count.invariant.0, c.len.ensures)

pub returns-in_default-clause-whole : goal.returns-in_default-clause-whole
returns-in_default-clause-whole g c = tt

pub returns-in_default-clause-end : goal.returns-in_default-clause-end
returns-in_default-clause-end g c = tt

pub returns-in_default-clause-within : goal.returns-in_default-clause-within
returns-in_default-clause-within g c = tt

pub returns-in_default-extend_from_slice-clause-whole : goal.returns-in_default-extend_from_slice-clause-whole
returns-in_default-extend_from_slice-clause-whole g c = tt

pub returns-in_default-extend_from_slice-clause-end : goal.returns-in_default-extend_from_slice-clause-end
returns-in_default-extend_from_slice-clause-end g c = tt

pub returns-in_default-extend_from_slice-clause-within : goal.returns-in_default-extend_from_slice-clause-within
returns-in_default-extend_from_slice-clause-within g c = tt

pub returns-then-len-limit-clause-whole : goal.returns-then-len-limit-clause-whole
returns-then-len-limit-clause-whole g c = tt

pub returns-then-len-limit-clause-end : goal.returns-then-len-limit-clause-end
returns-then-len-limit-clause-end g c = tt

pub returns-then-len-limit-clause-within : goal.returns-then-len-limit-clause-within
returns-then-len-limit-clause-within g c = tt

pub returns-in_default-clause-failed : goal.returns-in_default-clause-failed
returns-in_default-clause-failed g c = λ e. omega (arith, c.in_default.ensures.cause.failed, c.loop-count.invariant.3)

pub returns-in_default-clause-later : goal.returns-in_default-clause-later
returns-in_default-clause-later g c = omega (arith, c.in_default.ensures.cause.later, c.loop-count.invariant.3)

pub returns-in_default-clause-faults : goal.returns-in_default-clause-faults
returns-in_default-clause-faults g c = inl refl

pub returns-in_default-clause-too_long : goal.returns-in_default-clause-too_long
returns-in_default-clause-too_long g c = λ e. not_failed refl e

pub returns-in_default-clause-too_long_given : goal.returns-in_default-clause-too_long_given
returns-in_default-clause-too_long_given g c = λ e. not_failed refl e

pub returns-in_default-clause-taken : goal.returns-in_default-clause-taken
returns-in_default-clause-taken g c = (_, consumes_kept _ _ _ _ c.loop-count.invariant.1 c.in_default.ensures.bytes)

pub returns-then-count-eq0-clause-within : goal.returns-then-count-eq0-clause-within
returns-then-count-eq0-clause-within g c = omega (arith, c.loop-count.invariant.0, c.loop-count.bytes.ok)

pub returns-then-count-eq0-clause-failed : goal.returns-then-count-eq0-clause-failed
returns-then-count-eq0-clause-failed g c = λ e. not_ok refl e

pub returns-then-count-eq0-clause-later : goal.returns-then-count-eq0-clause-later
returns-then-count-eq0-clause-later g c = omega (arith, c.in-Ok.ensures.cause.faultless, c.loop-count.invariant.3)

pub returns-then-count-eq0-clause-faults : goal.returns-then-count-eq0-clause-faults
returns-then-count-eq0-clause-faults g c = inr (c.in-Ok.ensures.cause.faultless ∙ c.loop-count.invariant.3)

pub returns-then-count-eq0-clause-too_long : goal.returns-then-count-eq0-clause-too_long
returns-then-count-eq0-clause-too_long g c = λ e. not_ok refl e

pub returns-then-count-eq0-clause-too_long_given : goal.returns-then-count-eq0-clause-too_long_given
returns-then-count-eq0-clause-too_long_given g c = λ e. not_ok refl e

pub returns-then-count-eq0-clause-taken : goal.returns-then-count-eq0-clause-taken
returns-then-count-eq0-clause-taken g c = (_, Consumes-trans _ _ _ _ _ c.loop-count.invariant.1 c.in-Ok.ensures.bytes.0)

pub returns-in_default-extend_from_slice-clause-failed : goal.returns-in_default-extend_from_slice-clause-failed
returns-in_default-extend_from_slice-clause-failed g c = λ e. unfailed refl e

pub returns-in_default-extend_from_slice-clause-later : goal.returns-in_default-extend_from_slice-clause-later
returns-in_default-extend_from_slice-clause-later g c = omega (arith, c.in-Ok.ensures.cause.faultless, c.loop-count.invariant.3)

pub returns-in_default-extend_from_slice-clause-faults : goal.returns-in_default-extend_from_slice-clause-faults
returns-in_default-extend_from_slice-clause-faults g c = inr (c.in-Ok.ensures.cause.faultless ∙ c.loop-count.invariant.3)

pub returns-in_default-extend_from_slice-clause-too_long : goal.returns-in_default-extend_from_slice-clause-too_long
returns-in_default-extend_from_slice-clause-too_long g c = λ e. not_long refl e

pub returns-in_default-extend_from_slice-clause-too_long_given : goal.returns-in_default-extend_from_slice-clause-too_long_given
returns-in_default-extend_from_slice-clause-too_long_given g c = λ e. not_long refl e

pub returns-then-len-limit-clause-failed : goal.returns-then-len-limit-clause-failed
returns-then-len-limit-clause-failed g c = λ e. too_long_failed refl e

pub returns-then-len-limit-clause-later : goal.returns-then-len-limit-clause-later
returns-then-len-limit-clause-later g c = omega (arith, c.in-Ok.ensures.cause.faultless, c.loop-count.invariant.3)

pub returns-then-len-limit-clause-faults : goal.returns-then-len-limit-clause-faults
returns-then-len-limit-clause-faults g c = inr (c.in-Ok.ensures.cause.faultless ∙ c.loop-count.invariant.3)

pub returns-then-len-limit-clause-taken : goal.returns-then-len-limit-clause-taken
returns-then-len-limit-clause-taken g c = (_, Consumes-trans _ _ _ _ _ c.loop-count.invariant.1 c.in-Ok.ensures.bytes.0)

pub returns-then-len-limit-clause-too_long_given : goal.returns-then-len-limit-clause-too_long_given
returns-then-len-limit-clause-too_long_given g c =
    let count = c.in-Ok.count in
    let buf = c.read.new.buf in
    let within : count ≤ length buf = c.in-Ok.ensures.bound.0 in
    let front : take count (buf ++ drop c.min-room.result c.loop-count.piece) ≡ take count buf = rw take-append-le refl in
    λ e. omega (arith, c.loop-count.invariant.2, c.in-Ok.ensures.given, c.in-Ok.ensures.bound.1, c.if-len-limit.true, c.len-in-loop-count.ensures, rw front at c.in-Ok-extend_from_slice.ensures.len)

pub loop-count-smaller : goal.loop-count-smaller
loop-count-smaller g c =
    let count = c.in-Ok.count in
    let buf = c.read.new.buf in
    let within : count ≤ length buf = c.in-Ok.ensures.bound.0 in
    let front : take count (buf ++ drop c.min-room.result c.loop-count.piece) ≡ take count buf = rw take-append-le refl in
    omega (arith, c.loop-count.invariant.0, c.if-count-eq0.false, c.in-Ok.ensures.bound.1, rw front at c.in-Ok-extend_from_slice.ensures.len)
