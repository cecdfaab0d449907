-- The next entry of a frame is what it says of the next path.
use Rattle.std.proofs.Common.{ℕ, ◌≡◌, ◌<◌, ◌≤◌, ◌+◌, ◌*◌, ◌-◌, ◌/◌, ◌==◌, ◌&&◌, Bool, true, not, List, [], ◌∷◌, ◌++◌, length, map, take, drop, sym, ap, ap₂, subst, ◌∙◌, inl, inr, arith}
use Rattle.std.specs.Prelude.{slice_index, slice_index_or, Option, Some, None}
use Rattle.std.proofs.Math.Nat.{mul-add, mul-le-mul, mul-div_cancel_left}
use Rattle.std.proofs.Math.Bool.{and-true}
use Rattle.std.proofs.lemmas.Bool.{cases_Bool, cond-true, cond-false, and_parts}
use Rattle.std.proofs.lemmas.List.{take_at, drop-drop, take-take, drop-take, length-take, length-drop}
use Rattle.node_grid.specs.NodeSet.{has_id, without_id, IsIdSet}
use Rattle.node_grid.specs.NodeSetLaws.{has-without_id, has_filtered}
use Rattle.node_grid.specs.Count.{bit}
use Rattle.omh_paths.specs.declared.wrapped.Wrapped.{Wrapped}
use Rattle.omh_paths.specs.declared.wrapped.Wrapped.TheVariants.{Fault}
use Rattle.omh_paths.specs.Paths.{outside, paths_of_length, path_count, path_at, place_in}
use Rattle.omh_paths.specs.PathLists.{length-paths, length-without, Distinct-without}
use Rattle.omh_paths.specs.MemberLaws.{Distinct-ids}
use Rattle.omh.specs.Written.{as_written}
use Rattle.frames.specs.Reading.{pieces_of_width}
use Rattle.frames.specs.PieceLaws.{read_at}
use Rattle.path_order.specs.Order.{passed, IsNext}
use Rattle.path_order.specs.OrderLaws.{passed_more}
use Rattle.relay_walk.specs.declared.round.Round.{Round}
use Rattle.relay_walk.specs.Walking.{IsEntryAt, IsMoved, IsWalk, frame_of, entries_of, next_in, says}

-- the entry that stands behind those passed by is what the frame says of the path with its sender behind it
pub next_says : {V : Type 0} (members : List ℕ) (r q k : ℕ) (values : List (Wrapped V)) → IsNext members r q k → length (path_at (paths_of_length members r) k) ≡ r
    → slice_index_or values (passed (paths_of_length members r) q k) (Fault 0) ≡ as_written members q r values (path_at (paths_of_length members r) k ++ q ∷ [])
next_says members r q k values next long =
    ap (λ (j : ℕ). slice_index_or values j (Fault 0)) (sym next.place)
    ∙ ap (λ (path : List ℕ). slice_index_or values (place_in (paths_of_length (without_id members q) r) path) (Fault 0)) (sym (take_at (path_at (paths_of_length members r) k) (q ∷ []) r long))

-- once the members outside a path have each been read by one entry, all are at their entries for the next path
pub walk_step : {N : ℕ} (members others by : List ℕ) (r k : ℕ) (old new : Round N) → IsWalk members others r k old → IsMoved by old new
    → ((q : ℕ) → has_id others q ≡ true → q < N) → ((q : ℕ) → has_id others q ≡ true → has_id by q ≡ not (has_id (path_at (paths_of_length members r) k) q))
    → k < length (paths_of_length members r) → IsWalk members others r (k + 1) new
walk_step {N} members others by r k old new walk moved below which low =
    let ps : List (List ℕ) = paths_of_length members r in
    let came : (q : ℕ) → has_id new.present q ≡ true → has_id old.present q ≡ true = λ q on. ap (λ (s : List ℕ). has_id s q) (sym moved.present) ∙ on in
    let f = walk.frames in
    record {
      frames = record {
        wide = omega (arith, f.wide, moved.width);
        whole = moved.size ∙ f.whole ∙ ap (λ (w : ℕ). w * path_count (length members - 1) r) (sym moved.width);
        within = λ q on.
            let h = f.within q (came q on) in
            let b = ap (λ (bs : List ℕ). slice_index bs q) moved.begins in
            let l = ap (λ (bytes : List ℕ). length bytes) moved.room in
            omega (arith, h, b, l, moved.size);
        tagged = λ q j on few.
            let e : slice_index new.room.now (slice_index new.begins q + new.width * j) ≡ slice_index old.room.now (slice_index old.begins q + old.width * j) =
            ap (λ (bytes : List ℕ). slice_index bytes (slice_index new.begins q + new.width * j)) moved.room
            ∙ ap₂ (λ (bs : List ℕ) (w : ℕ). slice_index old.room.now (slice_index bs q + w * j)) moved.begins moved.width in
            omega (arith, e, f.tagged q j (came q on) few);
        others_only = λ q on. f.others_only q (came q on);
      };
      cursor = λ q on.
          let here = came q on in
          let other = f.others_only q here in
          moved.next q (below q other) here
          ∙ ap₂ (λ (a : ℕ) (b : Bool). a + old.width * bit b) (walk.cursor q here) (which q other)
          ∙ regroup (slice_index old.begins q) old.width (passed ps q k) (bit (not (has_id (path_at ps k) q)))
          ∙ ap₂ (λ (w j : ℕ). slice_index old.begins q + w * j) (sym moved.width) (sym (passed_more ps q k low))
          ∙ ap (λ (bs : List ℕ). slice_index bs q + new.width * passed ps q (k + 1)) (sym moved.begins);
    }
  where
    regroup : (b w p c : ℕ) → b + w * p + w * c ≡ b + w * (p + c)
    regroup b w p c = omega (arith, mul-add w p c)

-- how many entries there are in a frame
entries_in : (n : ℕ) (members : List ℕ) (r q : ℕ) → IsIdSet n members → has_id members q ≡ true → length (paths_of_length (without_id members q) r) ≡ path_count (length members - 1) r
entries_in n members r q ids on =
    let d = Distinct-ids n members ids in
    length-paths (without_id members q) r (Distinct-without members q d) ∙ ap (λ (n : ℕ). path_count n r) (length-without members q d on)

-- an entry of a frame lies within it
entry_fits : (w j p : ℕ) → j < p → w * j + w ≤ w * p
entry_fits w j p low =
    let behind : w * (j + 1) ≡ w * j + w = mul-add w j 1 ∙ omega arith in
    let most : w * (j + 1) ≤ w * p = mul-le-mul (le-refl w) (omega arith) in
    omega (arith, behind, most)
  where
    le-refl : (n : ℕ) → n ≤ n
    le-refl n = omega arith

-- a frame that is at its entry for a path that its sender isn't on has that entry
pub has_next : {N : ℕ} (n : ℕ) (members others : List ℕ) (r k q : ℕ) (round : Round N) → IsIdSet n members → IsWalk members others r k round → has_id round.present q ≡ true → has_id members q ≡ true
    → IsNext members r q k → IsEntryAt round.width round.room.now (slice_index round.next q)
has_next {N} n members others r k q round ids walk here on next =
    let many = entries_in n members r q ids on in
    let p : ℕ = passed (paths_of_length members r) q k in
    let fits = entry_fits round.width p (path_count (length members - 1) r) (omega (arith, next.within, many)) in
    record {
      within = omega (arith, walk.cursor q here, walk.frames.within q here, walk.frames.whole, fits);
      tagged =
          let t = walk.frames.tagged q p here (omega (arith, next.within, many)) in
          let e = ap (slice_index round.room.now) (walk.cursor q here) in omega (arith, t, e);
    }

window : {X : Type 0} (w i n a : ℕ) (xs : List X) → i + w ≤ n → take w (drop (a + i) xs) ≡ take w (drop i (take n (drop a xs)))
window {X} w i n a xs h =
    ap (take w) (sym (drop-drop i a xs))
    ∙ sym (take-take w (n - i) (drop i (drop a xs)) (omega arith))
    ∙ ap (take w) (sym (drop-take i (n - i) (drop a xs)))
    ∙ ap (λ (m : ℕ). take w (drop i (take m (drop a xs)))) (omega arith)

-- it says what its sender's frame says of the path
pub next_is : {V : Type 0} {N : ℕ} (read : List ℕ → Wrapped V) (n : ℕ) (members others : List ℕ) (r k q : ℕ) (round : Round N) → IsIdSet n members → IsWalk members others r k round → has_id members q ≡ true
    → IsNext members r q k → length (path_at (paths_of_length members r) k) ≡ r
    → next_in read round q ≡ says members q r (entries_of read round q) (path_at (paths_of_length members r) k ++ q ∷ [])
next_is {V} {N} read n members others r k q round ids walk on next long = elim (cases_Bool (has_id round.present q)) [
  | inr gone ↦
      cond-false (has_id round.present q) (read (take round.width (drop (slice_index round.next q) round.room.now))) (Fault 0) gone
      ∙ sym (ap (λ (o : Option (List (Wrapped V))). says members q r o path) (cond-false (has_id round.present q) (Some (map read (pieces_of_width round.width (frame_of round q)))) None gone))
  | inl here ↦
      let many = entries_in n members r q ids on in
      let p : ℕ = passed (paths_of_length members r) q k in
      let low : p < path_count (length members - 1) r = omega (arith, next.within, many) in
      let fits = entry_fits round.width p (path_count (length members - 1) r) low in
      let bytes : List ℕ = frame_of round q in
      let whole : round.size ≡ round.width * path_count (length members - 1) r = walk.frames.whole in
      let size : length bytes ≡ round.width * path_count (length members - 1) r =
      omega (arith, length-take round.size (drop (slice_index round.begins q) round.room.now), length-drop (slice_index round.begins q) round.room.now, walk.frames.within q here, whole) in
      let listed : p < length bytes / round.width = subst (λ (m : ℕ). p < m / round.width) (sym size) (below_quotient round.width (path_count (length members - 1) r) p walk.frames.wide low) in
      let entries : List (Wrapped V) = map read (pieces_of_width round.width bytes) in
      cond-true (has_id round.present q) (read (take round.width (drop (slice_index round.next q) round.room.now))) (Fault 0) here
      ∙ ap (λ (a : ℕ). read (take round.width (drop a round.room.now))) (walk.cursor q here)
      ∙ ap read (window round.width (round.width * p) round.size (slice_index round.begins q) round.room.now (omega (arith, fits, whole)))
      ∙ sym (read_at round.width read bytes p (Fault 0) listed)
      ∙ next_says members r q k entries next long
      ∙ sym (ap (λ (o : Option (List (Wrapped V))). says members q r o path) (cond-true (has_id round.present q) (Some entries) None here))
]
  where
    path : List ℕ
    path = path_at (paths_of_length members r) k ++ q ∷ []

    below_quotient : (w m p : ℕ) → 0 < w → p < m → p < (w * m) / w
    below_quotient w m p wide low = let e : w * m / w ≡ m = mul-div_cancel_left m wide in omega (arith, e)

-- of the others, those outside a path are read for it
pub free_tells : (members path : List ℕ) (me q : ℕ) → has_id (without_id members me) q ≡ true → has_id (without_id (outside members path) me) q ≡ not (has_id path q)
free_tells members path me q on =
    let both = and_parts (not (q == me)) (has_id members q) (sym (has-without_id members me q) ∙ on) in
    has-without_id (outside members path) me q
    ∙ ap₂ (λ (a b : Bool). a && b) both.0 (has_filtered (λ x. not (has_id path x)) members q ∙ ap (λ (b : Bool). not (has_id path q) && b) both.1 ∙ and-true (not (has_id path q)))
