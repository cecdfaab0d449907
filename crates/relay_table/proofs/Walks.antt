-- Going through all paths of a length, with the frames of their round side by side.
use Rattle.std.proofs.Common.{ℕ, zero, suc, ◌≡◌, ◌<◌, ◌≤◌, ◌+◌, ◌==◌, ◌&&◌, Bool, true, false, not, List, [], ◌∷◌, ◌++◌, length, map, take, drop, refl, sym, ap, ap₂, subst, ◌∙◌, inl, inr, arith, append-nil}
use Rattle.std.specs.Prelude.{filter, if◌then◌else◌, slice_index, Option, Some, None}
use Rattle.std.specs.List.{flat_map}
use Rattle.std.proofs.lemmas.Bool.{cases_Bool, cond-true, cond-false, and_parts, not-true}
use Rattle.std.proofs.lemmas.List.{take_all, flat_map_more, length-map, map-append, length-append}
use Rattle.std.proofs.lemmas.List.Elements.{filter_more}
use Rattle.node_grid.specs.Capacity.{IsCapacity}
use Rattle.node_grid.specs.NodeSet.{has_id, without_id, IsIdSet}
use Rattle.node_grid.specs.NodeSetLaws.{has-without_id, has_filtered}
use Rattle.node_grid.specs.SetFacts.{member-lt}
use Rattle.omh_paths.specs.declared.wrapped.Wrapped.{Wrapped}
use Rattle.omh_paths.specs.Paths.{outside, paths_of_length, path_count, path_at, IsListed}
use Rattle.omh_paths.specs.PathLists.{outside-cons, outside-without, length-paths, IsListed-at}
use Rattle.omh_paths.specs.MemberLaws.{Distinct-ids}
use Rattle.omh_paths.specs.Tables.{tables_law}
use Rattle.frames.specs.Reading.{pieces_of_width}
use Rattle.path_order.specs.Order.{pushed}
use Rattle.frames.specs.Reading.{pieces_of_width}
use Rattle.path_order.specs.OrderLaws.{longer_paths_law, cursors_law}
use Rattle.omh.specs.Facts.{last_push}
use Rattle.relay_walk.specs.declared.round.Round.{Round}
use Rattle.relay_walk.specs.Laid.{laid}
use Rattle.relay_walk.specs.LaidLaws.{laid_none, laid_twice}
use Rattle.relay_walk.specs.Walking.{says, entries_of, next_in, HaveNext, IsMoved, IsWalk}
use Rattle.relay_walk.specs.WalkLaws.{walk_step, has_next, next_is, free_tells}
use Rattle.relay_walk.proofs.Loops.{map_on}
use Rattle.relay_table.specs.Tabled.{told_in}
use Rattle.relay_table.specs.Settling.{is_on_path, told_behind}

-- whether the node itself isn't on a path
abbrev pub off : ℕ → List ℕ → Bool
off me path = not (has_id path me)

-- the first k of the paths that the node isn't on
abbrev pub off_before : List ℕ → ℕ → ℕ → ℕ → List (List ℕ)
off_before members me r k = filter (off me) (take k (paths_of_length members r))

-- the members outside the path but for the node itself are the others outside it
pub without_outside : (members path : List ℕ) (me : ℕ) → without_id (outside members path) me ≡ outside (without_id members me) path
without_outside members path me = sym (outside-cons members me path) ∙ sym (outside-without members me path)

-- ---- frames that moved say the same

abbrev said_by : {V : Type 0} (read : List ℕ → Wrapped V) (present : List ℕ) (width size : ℕ) (begins room : List ℕ) (q : ℕ) → Option (List (Wrapped V))
said_by read present width size begins room q = if has_id present q then Some (map read (pieces_of_width width (take size (drop (slice_index begins q) room)))) else None

says_as : {V : Type 0} {N : ℕ} (read : List ℕ → Wrapped V) (by : List ℕ) (old new : Round N) (q : ℕ) → IsMoved by old new → entries_of read new q ≡ entries_of read old q
says_as {V} {N} read by old new q m =
    ap (λ (p : List ℕ). said_by read p new.width new.size new.begins new.room.now q) m.present
    ∙ ap₂ (λ (w s : ℕ). said_by read old.present w s new.begins new.room.now q) m.width m.size
    ∙ ap₂ (λ (b bytes : List ℕ). said_by read old.present old.width old.size b bytes q) m.begins m.room

pub says_same : {V : Type 0} {N : ℕ} (read : List ℕ → Wrapped V) (by : List ℕ) (old new : Round N) → IsMoved by old new → entries_of read new ≡ entries_of read old
says_same read by old new m = λ i q. says_as read by old new q m i

-- ---- one path

either_way : (a b : Bool) → (b ≡ true → a ≡ true) → (a && not (not b && a)) ≡ b
either_way true true h = refl
either_way true false h = refl
either_way false true h = h refl
either_way false false h = refl

-- those that pass a test among the first of a list are no longer than those among more of it
kept_fits : {X Y : Type 0} (f : X → List Y) (p : X → Bool) (xs : List X) (a b : ℕ) → a ≤ b → length (flat_map f (filter p (take a xs))) ≤ length (flat_map f (filter p (take b xs)))
kept_fits f p [] zero b h = omega arith
kept_fits f p [] (suc a) zero h = absurd (omega arith)
kept_fits f p [] (suc a) (suc b) h = omega arith
kept_fits f p (x ∷ xs) zero b h = omega arith
kept_fits f p (x ∷ xs) (suc a) zero h = absurd (omega arith)
kept_fits f p (x ∷ xs) (suc a) (suc b) h =
    let rest = kept_fits f p xs a b (omega arith) in
    elim (cases_Bool (p x)) [
      | inl keeps ↦
          let l = ap (λ ys. length (flat_map f ys)) (cond-true (p x) (x ∷ filter p (take a xs)) (filter p (take a xs)) keeps) in
          let m = ap (λ ys. length (flat_map f ys)) (cond-true (p x) (x ∷ filter p (take b xs)) (filter p (take b xs)) keeps) in
          omega (arith, rest, l, m, length-append (f x) (flat_map f (filter p (take a xs))), length-append (f x) (flat_map f (filter p (take b xs))))
      | inr drops ↦
          let l = ap (λ ys. length (flat_map f ys)) (cond-false (p x) (x ∷ filter p (take a xs)) (filter p (take a xs)) drops) in
          let m = ap (λ ys. length (flat_map f ys)) (cond-false (p x) (x ∷ filter p (take b xs)) (filter p (take b xs)) drops) in
          omega (arith, rest, l, m)
    ]

-- the k-th path, and the members outside it
module _ (n : ℕ) (members others : List ℕ) (me r k : ℕ) (ids : IsIdSet n members) (others_are : others ≡ without_id members me) (low : k < path_count (length members) r) where
  abbrev ps : List (List ℕ)
  ps = paths_of_length members r

  abbrev path : List ℕ
  path = path_at ps k

  listed : IsListed members r path
  listed = IsListed-at members r k (Distinct-ids n members ids) low

  short : k < length ps
  short = omega (arith, length-paths members r (Distinct-ids n members ids))

  outside_tells : (q : ℕ) → has_id (outside members path) q ≡ true → (has_id members q ≡ true) × (has_id path q ≡ false)
  outside_tells q on =
      let both = and_parts (not (has_id path q)) (has_id members q) (sym (has_filtered (λ x. not (has_id path x)) members q) ∙ on) in
      (both.1, not-true _ both.0)

  -- whether the node is on the path, as the code tells it
  pub on_path : is_on_path members me (outside members path) ≡ has_id path me
  on_path = ap (λ (b : Bool). has_id members me && not b) (has_filtered (λ x. not (has_id path x)) members me) ∙ either_way (has_id members me) (has_id path me) (listed.within me)

  -- each frame that is read for the path has its entry
  pub have_next : IsCapacity n → (round : Round n) → IsWalk members others r k round → HaveNext (without_id (outside members path) me) round
  have_next sized round walk = record {
    sized = sized;
    low = λ q on. member-lt n members q ids (outside_tells q (and_parts (not (q == me)) (has_id (outside members path) q) (sym (has-without_id (outside members path) me q) ∙ on)).1).0;
    wide = walk.frames.wide;
    each = λ q on here.
        let t = outside_tells q (and_parts (not (q == me)) (has_id (outside members path) q) (sym (has-without_id (outside members path) me q) ∙ on)).1 in
        has_next n members others r k q round ids walk here t.0 (cursors_law n members ids r q k low t.1);
  }

  -- and they say of the paths behind it what these frames tell
  pub nexts_are : {V : Type 0} {N : ℕ} (read : List ℕ → Wrapped V) (round : Round N) → IsWalk members others r k round
      → map (next_in read round) (without_id (outside members path) me) ≡ told_behind (entries_of read round) members others r path
  nexts_are {V} read round walk =
      map_on (next_in read round) (λ q. told_in (entries_of read round) members r (path ++ q ∷ [])) (without_id (outside members path) me) (λ q on.
      let t = outside_tells q (and_parts (not (q == me)) (has_id (outside members path) q) (sym (has-without_id (outside members path) me q) ∙ on)).1 in
      next_is read n members others r k q round ids walk t.0 (cursors_law n members ids r q k low t.1) listed.long
      ∙ ap (λ (l : ℕ). says members l r (entries_of read round l) (path ++ q ∷ [])) (sym (last_push path q)))
      ∙ ap (map (λ q. told_in (entries_of read round) members r (path ++ q ∷ []))) (without_outside members path me ∙ ap (λ (s : List ℕ). outside s path) (sym others_are))

  -- the frames go on by one path
  pub goes_on : (old new : Round n) → IsWalk members others r k old → IsMoved (without_id (outside members path) me) old new → IsWalk members others r (k + 1) new
  goes_on old new walk moved =
      walk_step members others (without_id (outside members path) me) r k old new walk moved
      (λ q on. member-lt n members q ids (and_parts (not (q == me)) (has_id members q) (sym (has-without_id members me q) ∙ ap (λ (s : List ℕ). has_id s q) (sym others_are) ∙ on)).1)
      (λ q on. free_tells members path me q (ap (λ (s : List ℕ). has_id s q) (sym others_are) ∙ on))
      short

  -- a path that the node is on counts for nothing, and one that it isn't on is the next of the others
  pub off_same : has_id path me ≡ true → off_before members me r (k + 1) ≡ off_before members me r k
  off_same on =
      filter_more (off me) ps k [] short
      ∙ ap (λ (xs : List (List ℕ)). off_before members me r k ++ xs) (cond-false (off me path) (path ∷ []) [] (ap not on))
      ∙ append-nil (off_before members me r k)

  pub off_more : has_id path me ≡ false → off_before members me r (k + 1) ≡ off_before members me r k ++ path ∷ []
  off_more out =
      filter_more (off me) ps k [] short
      ∙ ap (λ (xs : List (List ℕ)). off_before members me r k ++ xs) (cond-true (off me path) (path ∷ []) [] (ap not out))

-- in the end all paths of the others were gone through
pub off_all : (n : ℕ) (members others : List ℕ) (me r k : ℕ) → IsIdSet n members → others ≡ without_id members me → path_count (length members) r ≤ k → off_before members me r k ≡ paths_of_length others r
off_all n members others me r k ids is past =
    ap (filter (off me)) (take_all k (paths_of_length members r) (omega (arith, length-paths members r (Distinct-ids n members ids))))
    ∙ sym (tables_law members me r) ∙ ap (λ (s : List ℕ). paths_of_length s r) (sym is)

-- what is told behind all of them is told of all paths one node longer
pub told_all : {V : Type 0} (frames : ℕ → Option (List (Wrapped V))) (members others : List ℕ) (r : ℕ) → flat_map (told_behind frames members others r) (paths_of_length others r) ≡ map (told_in frames members r) (paths_of_length others (suc r))
told_all {V} frames members others r = sym (ap (map (told_in frames members r)) (longer_paths_law others r) ∙ each (paths_of_length others r))
  where
    behind : (path qs : List ℕ) → map (told_in frames members r) (map (λ q. path ++ q ∷ []) qs) ≡ map (λ q. told_in frames members r (path ++ q ∷ [])) qs
    behind path [] = refl
    behind path (q ∷ qs) = ap (λ (xs : List (Wrapped V)). told_in frames members r (path ++ q ∷ []) ∷ xs) (behind path qs)

    each : (ps : List (List ℕ)) → map (told_in frames members r) (flat_map (pushed others) ps) ≡ flat_map (told_behind frames members others r) ps
    each [] = refl
    each (p ∷ ps) =
        map-append (told_in frames members r) (pushed others p) (flat_map (pushed others) ps)
        ∙ ap₂ (λ (a b : List (Wrapped V)). a ++ b) (behind p (outside others p)) (each ps)

-- ---- halfway through

-- the terms behind each of the first k paths of the others are laid from a place on
pub record IsHalfway {V : Type 0} {N : ℕ} (read : List ℕ → Wrapped V) (members others : List ℕ) (me r start : ℕ) (flat : List (Wrapped V)) (first : Round N) (k at : ℕ) (now : Round N) (terms : List (Wrapped V)) : Type 0 where
  pub walk : IsWalk members others r k now
  pub same : entries_of read now ≡ entries_of read first
  pub laid_are : terms ≡ laid start (flat_map (told_behind (entries_of read first) members others r) (off_before members me r k)) flat
  pub at_is : at ≡ start + length (flat_map (told_behind (entries_of read first) members others r) (off_before members me r k))

pub halfway_none : {V : Type 0} {N : ℕ} (read : List ℕ → Wrapped V) (members others : List ℕ) (me r start : ℕ) (flat : List (Wrapped V)) (first : Round N) → IsWalk members others r 0 first
    → IsHalfway read members others me r start flat first 0 start first flat
halfway_none read members others me r start flat first walk = record {
  walk = walk;
  same = refl;
  laid_are = sym (laid_none start flat);
  at_is = omega arith;
}

module _ {V : Type 0} {n : ℕ} (read : List ℕ → Wrapped V) (members others : List ℕ) (me r start : ℕ) (flat : List (Wrapped V)) (first : Round n) (k at : ℕ) (now : Round n) (terms : List (Wrapped V))
    (ids : IsIdSet n members) (others_are : others ≡ without_id members me) (low : k < path_count (length members) r) (h : IsHalfway read members others me r start flat first k at now terms) where
  abbrev here : List ℕ
  here = path_at (paths_of_length members r) k

  abbrev behind : List ℕ → List (Wrapped V)
  behind = told_behind (entries_of read first) members others r

  -- what stands behind this path, and that there is room for it
  nexts : map (next_in read now) (without_id (outside members here) me) ≡ behind here
  nexts = nexts_are n members others me r k ids others_are low read now h.walk ∙ ap (λ (f : ℕ → Option (List (Wrapped V))). told_behind f members others r here) h.same

  more_laid : has_id here me ≡ false → flat_map behind (off_before members me r k) ++ behind here ≡ flat_map behind (off_before members me r (k + 1))
  more_laid out =
      flat_map_more behind [] (off_before members me r k) here
      ∙ ap (flat_map behind) (sym (off_more n members others me r k ids others_are low out))

  pub room_here : start + length (map (told_in (entries_of read first) members r) (paths_of_length others (suc r))) ≤ length flat → has_id here me ≡ false
      → at + length (without_id (outside members here) me) ≤ length flat
  room_here room out =
      let all = ap (λ (xs : List (Wrapped V)). length xs) (ap (flat_map behind) (off_all n members others me r (path_count (length members) r) ids others_are (omega arith)) ∙ told_all (entries_of read first) members others r) in
      let fits = kept_fits behind (off me) (paths_of_length members r) (k + 1) (path_count (length members) r) (omega arith) in
      let more = ap (λ (xs : List (Wrapped V)). length xs) (more_laid out) in
      let one = ap (λ (xs : List (Wrapped V)). length xs) nexts in
      omega (arith, all, fits, more, one, h.at_is, length-append (flat_map behind (off_before members me r k)) (behind here), length-map (without_id (outside members here) me) (next_in read now))

  pub halfway_on : (next : Round n) → has_id here me ≡ true → IsMoved (without_id (outside members here) me) now next → IsHalfway read members others me r start flat first (k + 1) at next terms
  halfway_on next on moved = record {
    walk = goes_on n members others me r k ids others_are low now next h.walk moved;
    same = says_same read (without_id (outside members here) me) now next moved ∙ h.same;
    laid_are = h.laid_are ∙ ap (λ (ps : List (List ℕ)). laid start (flat_map behind ps) flat) (sym (off_same n members others me r k ids others_are low on));
    at_is = h.at_is ∙ ap (λ (ps : List (List ℕ)). start + length (flat_map behind ps)) (sym (off_same n members others me r k ids others_are low on));
  }

  pub halfway_off : (next : Round n) (new : List (Wrapped V)) → has_id here me ≡ false → IsMoved (without_id (outside members here) me) now next
      → start + length (map (told_in (entries_of read first) members r) (paths_of_length others (suc r))) ≤ length flat
      → new ≡ laid at (map (next_in read now) (without_id (outside members here) me)) terms
      → IsHalfway read members others me r start flat first (k + 1) (at + length (without_id (outside members here) me)) next new
  halfway_off next new out moved room is =
      let before : List (Wrapped V) = flat_map behind (off_before members me r k) in
      let one = ap (λ (xs : List (Wrapped V)). length xs) nexts in
      let long = length-map (without_id (outside members here) me) (next_in read now) in
      let fits = room_here room out in
      record {
        walk = goes_on n members others me r k ids others_are low now next h.walk moved;
        same = says_same read (without_id (outside members here) me) now next moved ∙ h.same;
        laid_are =
            is ∙ ap₂ (λ (e : ℕ) (xs : List (Wrapped V)). laid e xs terms) h.at_is nexts
            ∙ ap (laid (start + length before) (behind here)) h.laid_are
            ∙ laid_twice start before (behind here) flat (omega (arith, fits, one, long, h.at_is))
            ∙ ap (λ (xs : List (Wrapped V)). laid start xs flat) (more_laid out);
        at_is =
            let more = ap (λ (xs : List (Wrapped V)). length xs) (more_laid out) in
            omega (arith, h.at_is, one, long, more, length-append before (behind here));
      }

  abbrev Half : ℕ → Round n → List (Wrapped V) → Type 0
  Half a next new = IsHalfway read members others me r start flat first (k + 1) a next new

  -- as the code tells whether the node is on the path
  on_it : (free : List ℕ) → free ≡ outside members here → is_on_path members me free ≡ has_id here me
  on_it free is = ap (is_on_path members me) is ∙ on_path n members others me r k ids others_are low

  pub room_for : (free : List ℕ) → free ≡ outside members here → start + length (map (told_in (entries_of read first) members r) (paths_of_length others (suc r))) ≤ length flat
      → is_on_path members me free ≡ false → at + length (without_id free me) ≤ length flat
  room_for free is room out =
      let l = ap (λ (f : List ℕ). length (without_id f me)) is in
      omega (arith, l, room_here room (sym (on_it free is) ∙ out))

  pub next_there : IsCapacity n → (free : List ℕ) → free ≡ outside members here → HaveNext (without_id free me) now
  next_there sized free is = subst (λ (f : List ℕ). HaveNext (without_id f me) now) (sym is) (have_next n members others me r k ids others_are low sized now h.walk)

  pub halfway_more : (free : List ℕ) (next : Round n) (new : List (Wrapped V)) (after : ℕ) → free ≡ outside members here
      → start + length (map (told_in (entries_of read first) members r) (paths_of_length others (suc r))) ≤ length flat
      → new ≡ (if is_on_path members me free then terms else laid at (map (next_in read now) (without_id free me)) terms)
      → after ≡ (if is_on_path members me free then at else at + length (without_id free me))
      → IsMoved (without_id free me) now next → Half after next new
  halfway_more free next new after is room heard behind moved =
      let there : IsMoved (without_id (outside members here) me) now next = subst (λ (f : List ℕ). IsMoved (without_id f me) now next) is moved in
      elim (cases_Bool (has_id here me)) [
        | inl on ↦
            let b : is_on_path members me free ≡ true = on_it free is ∙ on in
            let same : new ≡ terms = heard ∙ cond-true (is_on_path members me free) terms (laid at (map (next_in read now) (without_id free me)) terms) b in
            let stays : after ≡ at = behind ∙ cond-true (is_on_path members me free) at (at + length (without_id free me)) b in
            subst (λ (t : List (Wrapped V)). Half after next t) (sym same) (subst (λ (a : ℕ). Half a next terms) (sym stays) (halfway_on next on there))
        | inr out ↦
            let b : is_on_path members me free ≡ false = on_it free is ∙ out in
            let write : List ℕ → List (Wrapped V) = λ f. laid at (map (next_in read now) (without_id f me)) terms in
            let laid_new : new ≡ write (outside members here) = heard ∙ cond-false (is_on_path members me free) terms (write free) b ∙ ap write is in
            let goes : after ≡ at + length (without_id (outside members here) me) =
            behind ∙ cond-false (is_on_path members me free) at (at + length (without_id free me)) b ∙ ap (λ (f : List ℕ). at + length (without_id f me)) is in
            subst (λ (a : ℕ). Half a next new) (sym goes) (halfway_off next new out there room laid_new)
      ]

pub halfway_begin : {V : Type 0} {N : ℕ} (read : List ℕ → Wrapped V) (members others : List ℕ) (me r start : ℕ) (flat : List (Wrapped V)) (first : Round N) (at : ℕ) → at ≡ start → IsWalk members others r 0 first
    → IsHalfway read members others me r start flat first 0 at first flat
halfway_begin read members others me r start flat first at is walk =
    subst (λ (a : ℕ). IsHalfway read members others me r start flat first 0 a first flat) (sym is) (halfway_none read members others me r start flat first walk)

-- in the end the terms of all paths one node longer are laid
pub halfway_end : {V : Type 0} {n : ℕ} (read : List ℕ → Wrapped V) (members others : List ℕ) (me r start : ℕ) (flat : List (Wrapped V)) (first : Round n) (k at : ℕ) (now : Round n) (terms : List (Wrapped V))
    → IsIdSet n members → others ≡ without_id members me → path_count (length members) r ≤ k → IsHalfway read members others me r start flat first k at now terms
    → terms ≡ laid start (map (told_in (entries_of read first) members r) (paths_of_length others (suc r))) flat
halfway_end {V} {n} read members others me r start flat first k at now terms ids is past h =
    h.laid_are
    ∙ ap (λ (ps : List (List ℕ)). laid start (flat_map (told_behind (entries_of read first) members others r) ps) flat) (off_all n members others me r k ids is past)
    ∙ ap (λ (xs : List (Wrapped V)). laid start xs flat) (told_all (entries_of read first) members others r)
