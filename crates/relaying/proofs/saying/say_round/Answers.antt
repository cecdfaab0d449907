use Rattle.std.proofs.Common.{ℕ, ◌≡◌, ◌≤◌, ◌+◌, ◌++◌, ◌*◌, lit<, List, length, ap, ap₂, ◌∙◌, arith}
use Rattle.std.specs.Prelude.{is_ok, vec_capacity}
use Rattle.std.specs.Vec.{vec_len}
use Rattle.std.specs.List.{flat_map}
use Rattle.std.proofs.lemmas.Bool.{cond-true}
use Rattle.std.proofs.lemmas.List.{length-append, with_items_is}
use Rattle.frames.specs.Seen.{expected}
use Rattle.frames.specs.Spelling.{header_spelling, head_of}
use Rattle.relay_rules.specs.Relaying.{relays}
use Rattle.relaying.proofs.Framing.{frame_written}
use Rattle.relaying.proofs.saying.say_round.Goals as goal

pub returns-clause-written : goal.returns-clause-written
returns-clause-written g c =
    let h = c.args.table.now in
    let rel = relays h c.args.round in
    let body : List ℕ = flat_map (g.V.RelayedItem.spelling h.nodes) rel in
    let size : ℕ = c.own_size-size.result in
    let front : List ℕ = c.copy_from_slice.new.self in
    let back : List ℕ = c.write_own.new.out in
    let fits : 14 + size ≤ vec_capacity c.args.out.now = omega (arith, c.requires.room, ap length (g.met.V.RelayedItem.laws.body h.nodes rel), c.own_size-size.ensures.size) in
    let made : vec_len c.resize.new.self ≡ 14 + size = c.resize.ensures.len ∙ cond-true (is_ok c.resize.result) (14 + size) (vec_len c.args.out.now) (c.resize.ensures.succeeds fits) in
    let room : length c.split_at_mut-front.result.1.now ≡ size = omega (arith, c.split_at_mut-front.ensures.back_len, c.as_mut_slice.ensures.len, made) in
    let long : length (front ++ back) ≡ vec_len c.resize.new.self = omega (arith, length-append front back, c.copy_from_slice.auto.self, c.write_own.auto.out, c.split_at_mut-front.ensures.front_len, c.split_at_mut-front.ensures.back_len, c.as_mut_slice.ensures.len, made) in
    with_items_is c.resize.new.self (front ++ back) long
    ∙ frame_written h.nodes g.V.RelayedItem.kind size (head_of (expected c.args.expect.now)) (g.V.RelayedItem.form.relay rel) body c.split_at_mut-front.result.1.now front back
    (g.met.V.RelayedItem.laws.body h.nodes rel) (g.met.V.RelayedItem.laws.kinded rel) c.own_size-size.ensures.size room
    (c.copy_from_slice.ensures.after ∙ c.header.ensures ∙ ap₂ (λ hd (k : ℕ). header_spelling hd k size) c.head.ensures c.relay_kind.ensures)
    c.write_own.ensures

pub own_size-size-requires : goal.own_size-size-requires
own_size-size-requires g c = (assumption, record { some = c.requires.some_round; within = c.requires.round; slot = (expected c.args.expect.now, c.requires.slot) })

pub overflow_add-size : goal.overflow_add-size
overflow_add-size g c = let few : c.own_size-size.result ≤ 33 * 65536 = c.own_size-size.ensures.few in omega arith

pub overflow_cast-size : goal.overflow_cast-size
overflow_cast-size g c = let few : c.own_size-size.result ≤ 33 * 65536 = c.own_size-size.ensures.few in omega arith

pub split_at_mut-front-requires : goal.split_at_mut-front-requires
split_at_mut-front-requires g c =
    let h = c.args.table.now in
    let rel = relays h c.args.round in
    let size : ℕ = c.own_size-size.result in
    let fits : 14 + size ≤ vec_capacity c.args.out.now = omega (arith, c.requires.room, ap length (g.met.V.RelayedItem.laws.body h.nodes rel), c.own_size-size.ensures.size) in
    let made : vec_len c.resize.new.self ≡ 14 + size = c.resize.ensures.len ∙ cond-true (is_ok c.resize.result) (14 + size) (vec_len c.args.out.now) (c.resize.ensures.succeeds fits) in
    omega (arith, c.as_mut_slice.ensures.len, made)

pub head-requires : goal.head-requires
head-requires g c = lit< tt

pub header-requires : goal.header-requires
header-requires g c = tt

pub write_own-requires : goal.write_own-requires
write_own-requires g c =
    let h = c.args.table.now in
    let rel = relays h c.args.round in
    let size : ℕ = c.own_size-size.result in
    let fits : 14 + size ≤ vec_capacity c.args.out.now = omega (arith, c.requires.room, ap length (g.met.V.RelayedItem.laws.body h.nodes rel), c.own_size-size.ensures.size) in
    let made : vec_len c.resize.new.self ≡ 14 + size = c.resize.ensures.len ∙ cond-true (is_ok c.resize.result) (14 + size) (vec_len c.args.out.now) (c.resize.ensures.succeeds fits) in
    let room : length c.split_at_mut-front.result.1.now ≡ size = omega (arith, c.split_at_mut-front.ensures.back_len, c.as_mut_slice.ensures.len, made) in
    (assumption, (record { some = c.requires.some_round; within = c.requires.round; slot = (expected c.args.expect.now, c.requires.slot) }, omega (arith, room, c.own_size-size.ensures.size)))

pub returns-clause-room : goal.returns-clause-room
returns-clause-room g c = c.resize.ensures.capacity
