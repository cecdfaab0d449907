use Rattle.std.proofs.Common.{ℕ, lit<, suc, ◌≡◌, ◌<◌, ◌≤◌, ◌+◌, ◌∷◌, [], length, refl, ap, ap₂, ◌∙◌, arith}
use Rattle.omh_paths.specs.MemberLaws.{few_ids}
use Rattle.relay_walk.specs.Laid.{laid}
use Rattle.relay_walk.specs.LaidLaws.{length-laid}
use Rattle.relay_table.specs.Free.{free_begins, left_out_of}
use Rattle.relay_table.proofs.Frees.{begins-mono, one_more, first_free, longer_fits, longer_free}
use Rattle.relay_table.proofs.free.lay_free.Goals as goal

-- there is room for a set
some_room : (n m room : ℕ) → free_begins n (m + 1) ≤ room → 0 < room
some_room n m room h =
    let first : free_begins n 1 ≡ 1 = refl in
    omega (arith, begins-mono n 1 (m + 1) (omega arith), first, h)

pub set_set-requires : goal.set_set-requires
set_set-requires g c = (lit< tt, some_room (length c.args.members.now) c.args.m (length c.args.sets.now) (c.requires.room c.len-count.ensures.ids))

pub loop-len-init : goal.loop-len-init
loop-len-init g c =
    let some = some_room (length c.args.members.now) c.args.m (length c.args.sets.now) (c.requires.room c.len-count.ensures.ids) in
    record {
      free = first_free c.args.members.now c.args.sets.now c.set_set.new.sets some c.set_set.ensures;
      long = ap (λ xs. length xs) c.set_set.ensures ∙ length-laid 0 (c.args.members.now ∷ []) c.args.sets.now (omega arith);
    }

pub free_begins-requires-clause-members : goal.free_begins-requires-clause-members
free_begins-requires-clause-members g c = omega (arith, c.len-count.ensures.count, few_ids g.row.N c.args.members.now g.bound-1.eight_or_sixteen c.len-count.ensures.ids)

pub free_begins-requires-in-loop-len-clause-members : goal.free_begins-requires-in-loop-len-clause-members
free_begins-requires-in-loop-len-clause-members g c = omega (arith, c.len-count.ensures.count, few_ids g.row.N c.args.members.now g.bound-1.eight_or_sixteen c.len-count.ensures.ids)

-- where the sets of one length begin, and those of one node more
begins_are : (count n len from until : ℕ) → count ≡ n → from ≡ free_begins count len → until ≡ free_begins count (len + 1) → (from ≡ free_begins n len) × (until ≡ free_begins n (suc len))
begins_are count n len from until same from_is until_is = (
  from_is ∙ ap (λ c. free_begins c len) same,
  until_is ∙ ap (λ c. free_begins c (len + 1)) same ∙ one_more n len,
)

room_more : (n m len room : ℕ) → len < m → free_begins n (m + 1) ≤ room → free_begins n (suc (suc len)) ≤ room
room_more n m len room low h = omega (arith, begins-mono n (suc (suc len)) (m + 1) (omega arith), h)

pub lay_longer-requires : goal.lay_longer-requires
lay_longer-requires g c =
    let n = length c.args.members.now in
    let len = c.loop-len.len in
    let i = c.loop-len.invariant in
    let b = begins_are c.len-count.result n len c.free_begins.result c.free_begins-in-loop-len.result c.len-count.ensures.count c.free_begins.ensures.begins c.free_begins-in-loop-len.ensures.begins in
    let room = room_more n c.args.m len (length c.loop-len.sets) c.loop-len-test.true (omega (arith, i.long, (c.requires.room c.len-count.ensures.ids))) in
    let fits = longer_fits g.row.N c.args.members.now len c.loop-len.sets c.len-count.ensures.ids i.free room in
    let same = ap₂ (λ (from until : ℕ). until + length (left_out_of from until c.loop-len.sets)) b.0 b.1 in
    (lit< tt, (omega (arith, b.0, b.1, begins-mono n len (suc len) (omega arith)), omega (arith, fits, same)))

pub loop-len-preserved : goal.loop-len-preserved
loop-len-preserved g c =
    let n = length c.args.members.now in
    let len = c.loop-len.len in
    let i = c.loop-len.invariant in
    let b = begins_are c.len-count.result n len c.free_begins.result c.free_begins-in-loop-len.result c.len-count.ensures.count c.free_begins.ensures.begins c.free_begins-in-loop-len.ensures.begins in
    let room = room_more n c.args.m len (length c.loop-len.sets) c.loop-len-test.true (omega (arith, i.long, (c.requires.room c.len-count.ensures.ids))) in
    let is = c.lay_longer.ensures.sets ∙ ap₂ (λ (from until : ℕ). laid until (left_out_of from until c.loop-len.sets) c.loop-len.sets) b.0 b.1 in
    record {
      free = λ r k low few. longer_free g.row.N c.args.members.now len c.loop-len.sets c.lay_longer.new.sets c.len-count.ensures.ids i.free room is r k (omega arith) few;
      long = c.lay_longer.auto.sets ∙ i.long;
    }
