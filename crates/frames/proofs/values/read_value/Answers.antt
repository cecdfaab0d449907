use Rattle.std.proofs.Common.{◌*◌, ap, sym, ◌∙◌, arith, rules, w64}
use mir.Val.{SFits}
use Rattle.std.specs.Int.{from_be_bytes, cast_signed}
use Rattle.std.proofs.lemmas.Int.{to_z-of_z}
use Rattle.frames.proofs.Words.{eight_bytes}
use Rattle.frames.proofs.values.read_value.Goals as goal

pub overflow_mul-at : goal.overflow_mul-at
overflow_mul-at c = omega arith

pub bounds-bytes-at : goal.bounds-bytes-at
bounds-bytes-at c = omega arith

pub overflow_add-at : goal.overflow_add-at
overflow_add-at c = omega arith

pub bounds-bytes-at-2 : goal.bounds-bytes-at-2
bounds-bytes-at-2 c = omega arith

pub overflow_add-at-2 : goal.overflow_add-at-2
overflow_add-at-2 c = omega arith

pub bounds-bytes-at-3 : goal.bounds-bytes-at-3
bounds-bytes-at-3 c = omega arith

pub overflow_add-at-3 : goal.overflow_add-at-3
overflow_add-at-3 c = omega arith

pub bounds-bytes-at-4 : goal.bounds-bytes-at-4
bounds-bytes-at-4 c = omega arith

pub overflow_add-at-4 : goal.overflow_add-at-4
overflow_add-at-4 c = omega arith

pub bounds-bytes-at-5 : goal.bounds-bytes-at-5
bounds-bytes-at-5 c = omega arith

pub overflow_add-at-5 : goal.overflow_add-at-5
overflow_add-at-5 c = omega arith

pub bounds-bytes-at-6 : goal.bounds-bytes-at-6
bounds-bytes-at-6 c = omega arith

pub overflow_add-at-6 : goal.overflow_add-at-6
overflow_add-at-6 c = omega arith

pub bounds-bytes-at-7 : goal.bounds-bytes-at-7
bounds-bytes-at-7 c = omega arith

pub overflow_add-at-7 : goal.overflow_add-at-7
overflow_add-at-7 c = omega arith

pub bounds-bytes-at-8 : goal.bounds-bytes-at-8
bounds-bytes-at-8 c = omega arith

pub from_be_bytes-requires : goal.from_be_bytes-requires
from_be_bytes-requires c = tt

pub returns : goal.returns
returns c =
    let fits : SFits w64 c.from_be_bytes.result = search rules in
    to_z-of_z w64 c.from_be_bytes.result fits ∙ c.from_be_bytes.ensures ∙ ap (λ bs. cast_signed w64 (from_be_bytes w64 bs)) (sym (eight_bytes (8 * c.args.k) c.args.bytes.now c.requires))
