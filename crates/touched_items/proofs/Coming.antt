-- What comes of a relay frame by what befalls it, and what its entries say.
use Rattle.std.proofs.Common.{ℕ, zero, suc, ◌==◌, ◌&&◌, ◌≡◌, ◌≢◌, ◌<◌, ◌≤◌, ◌+◌, ◌*◌, ◌/◌, Bool, true, false, List, [], ◌∷◌, ◌++◌, length, take, drop, map, get_or, Option, Some, None, refl, sym, ap, subst, ◌∙◌, inl, inr, arith, ne_eqb, eq-eqb}
use Rattle.std.specs.Prelude.{All, slice_index_or, is_some, if◌then◌else◌}
use Rattle.std.specs.Bool.{Decides}
use Rattle.std.specs.List.{flat_map, list_all}
use Rattle.std.specs.Cmp.Lexicographic.{pointwise}
use Rattle.std.proofs.lemmas.Bool.{cases_Bool, cond-true, cond-false, and_from}
use Rattle.std.proofs.lemmas.Bool.Decides.{same_from_decides}
use Rattle.std.proofs.lemmas.Slice.Eq.{bytes_eq-Decides}
use Rattle.std.proofs.lemmas.List.{drop-drop, drop_at, length-map, length-append}
use Rattle.std.proofs.lemmas.List.Elements.{All-get_or}
use Rattle.node_grid.specs.Kinds.{malformed, cold}
use Rattle.node_grid.specs.NumberFacts.{times_over}
use Rattle.omh_paths.specs.declared.wrapped.Wrapped.{Wrapped}
use Rattle.omh_paths.specs.declared.wrapped.Wrapped.TheVariants.{Plain, Fault}
use Rattle.frames.specs.FrameKinds.{cold_kind}
use Rattle.frames.specs.declared.frame.Head.{Head}
use Rattle.frames.specs.Content.{Content, Expectation, State, Done0, DoneRelay, Data, Report0, ReportRelay, Cold, round_in, entries_due, IsEntry}
use Rattle.frames.specs.Spelling.{spelling, header_spelling, body_spelling, head_of, IsInRange}
use Rattle.frames.specs.Reading.{reading}
use Rattle.frames.specs.ReadingLaws.{reads_only, cold_in_range}
use Rattle.frames.specs.PieceLaws.{AreBytes, length_spelt, read_spelt, read_at, piece_within}
use Rattle.fault_classes.specs.Change.{Change}
use Rattle.fault_classes.specs.Change.Change.{Drop, Cut, Twice, Time, Set, Raw}
use Rattle.fault_link.specs.Arrival.{patched, delivered_of}
use Rattle.protocol.specs.Arrival.{Arrival, ItemForm, read_as, is_good}
use Rattle.protocol.specs.Arrival.Arrival.{Good}
use Rattle.protocol.specs.Talk.{frame_by, arrives}
use Rattle.touched_frames.specs.Arrived.{arrived_as, part_of, needs_bytes, replaced}
use Rattle.touched_frames.proofs.Effects.{parts_law, by_bytes, cut_short, off_time}
use Rattle.touched_items.specs.Items.{Sizes, sizes_of, with_members, IsSent, EntryForm, AreEntries, HasOwn, first_content, bad_kind}
use Rattle.touched_items.specs.Patched.{cell_over, header_error, cells_of, are_due, arrival_by}
use Rattle.touched_items.specs.Overlaid.{overlaid, IsClear}
use Rattle.touched_items.specs.OverlaidLaws.{length-overlaid}
use Rattle.touched_items.proofs.Overlays.{patched_overlaid, overlaid-clear, length-cells, cell_at, all_pass, one_fails}
use Rattle.touched_items.proofs.Cells.{format, sent_all, frame_is, read_over}

-- ---- by what befalls it

-- a frame that is read as other bytes put into it make it
pub as_set : {C : Type 0} (part : Content → Option C) (change : Change) (e : Expectation) (c : Content) (at : ℕ) (bytes : List ℕ) → needs_bytes change ≡ true → ((raw : List ℕ) → change ≡ Raw raw → ⊥)
    → patched at bytes (frame_by e c) ≡ replaced change (frame_by e c) → arrives part (Some change) e e c ≡ arrives part (Some (Set at bytes)) e e c
as_set part change e c at bytes needs other same =
    parts_law part e (delivered_of (Some change) (frame_by e c))
    ∙ ap (part_of part) (sym (by_bytes change e e c (patched at bytes (frame_by e c)) (frame_by e c) needs refl same other))
    ∙ sym (parts_law part e (delivered_of (Some (Set at bytes)) (frame_by e c)))

-- what a receiver has of a part of a frame, by what it has of the whole
pub parts_seen : {C : Type 0} (part : Content → Option C) (change : Change) (e : Expectation) (c : Content) (a : Arrival Content) → a ≡ arrives Some (Some change) e e c → arrives part (Some change) e e c ≡ part_of part a
parts_seen part change e c a is = parts_law part e (delivered_of (Some change) (frame_by e c)) ∙ ap (part_of part) (sym is)

-- a frame that isn't read is bad
pub unread_bad : {C : Type 0} (part : Content → Option C) (change : Change) (s e : Expectation) (c : Content) → IsInRange s c → needs_bytes change ≡ false → is_good (arrives part (Some change) s e c) ≡ false
unread_bad part Drop s e c range unread = refl
unread_bad {C} part (Cut k) s e c range unread =
    let some : 0 < k = above k unread in
    ap (is_good {C = C}) (parts_law part e (delivered_of (Some (Cut k)) (frame_by s c)) ∙ ap (part_of part) (cut_short s e c k some range))
  where
    above : (k : ℕ) → (k == 0) ≡ false → 0 < k
    above zero h = cc
    above (suc k) h = omega arith
unread_bad part Twice s e c range unread = refl
unread_bad {C} part (Time t) s e c range unread =
    ap (is_good {C = C}) (parts_law part e (delivered_of (Some (Time t)) (frame_by s c)) ∙ ap (part_of part) (off_time e t (frame_by s c) unread))
unread_bad part (Set at bytes) s e c range unread = cc
unread_bad part (Raw bytes) s e c range unread = cc

-- ---- what is good was read

read_some : {C : Type 0} (r : Option C) (x : C) → read_as r ≡ Good x → r ≡ Some x
read_some None x h = absurd (cc)
read_some (Some y) x h = let d : y ≡ x = cc in ap Some d

good_read : {C : Type 0} (part : Content → Option C) (o : Option Content) (x : C) → part_of part (arrived_as o) ≡ Good x → (c : Content) × (o ≡ Some c) × (part c ≡ Some x)
good_read part None x h = absurd (cc)
good_read part (Some (State b)) x h = (State b, refl, read_some _ x h)
good_read part (Some (Done0 b)) x h = (Done0 b, refl, read_some _ x h)
good_read part (Some (DoneRelay b)) x h = (DoneRelay b, refl, read_some _ x h)
good_read part (Some (Data b)) x h = (Data b, refl, read_some _ x h)
good_read part (Some (Report0 b)) x h = (Report0 b, refl, read_some _ x h)
good_read part (Some (ReportRelay b)) x h = (ReportRelay b, refl, read_some _ x h)
good_read part (Some Cold) x h = absurd (cc)

by_good : {C : Type 0} (h : Option ℕ) (due : Bool) (xs ys : C) → arrival_by h due xs ≡ Good ys → xs ≡ ys
by_good (Some k) due xs ys e = absurd (cc)
by_good None true xs ys e = cc
by_good None false xs ys e = absurd (cc)

-- what is found of a frame whose kind is told
pub told_bad : {C : Type 0} (o : Option C) → is_some o ≡ false → bad_kind (read_as o) ≡ Some malformed
told_bad None h = refl
told_bad (Some x) h = absurd (cc)

pub told_good : {C : Type 0} (o : Option C) → is_some o ≡ true → bad_kind (read_as o) ≡ None
told_good None h = absurd (cc)
told_good (Some x) h = refl

-- a header that isn't hit
pub clear_header : (at : ℕ) (bytes : List ℕ) (head : Head) (kind size : ℕ) → IsClear at (length bytes) 0 14 → header_error at bytes head kind size ≡ None
clear_header at bytes head kind size clear =
    let sent : List ℕ = header_spelling head kind size in
    cond-true (pointwise ◌==◌ (overlaid at bytes 0 sent) sent) None _ ((bytes_eq-Decides (overlaid at bytes 0 sent) sent).1 (overlaid-clear at bytes 0 sent clear))

-- what is found by a header
module _ (at : ℕ) (bytes : List ℕ) (head : Head) (kind size : ℕ) (sent came : List ℕ) (a b : Bool) (spelt : sent ≡ header_spelling head kind size) (put : came ≡ overlaid at bytes 0 sent)
    (same : Decides a (came ≡ header_spelling head kind size)) (silent : Decides b (came ≡ header_spelling head cold_kind 0)) where
  abbrev came_is : List ℕ
  came_is = overlaid at bytes 0 (header_spelling head kind size)

  is_came : came ≡ came_is
  is_came = put ∙ ap (overlaid at bytes 0) spelt

  tested : a ≡ pointwise ◌==◌ came_is (header_spelling head kind size)
  tested = same_from_decides a (pointwise ◌==◌ came_is (header_spelling head kind size)) same
      (subst (λ (xs : List ℕ). Decides (pointwise ◌==◌ came_is (header_spelling head kind size)) (xs ≡ header_spelling head kind size)) (sym is_came) (bytes_eq-Decides came_is (header_spelling head kind size)))

  tested_cold : b ≡ pointwise ◌==◌ came_is (header_spelling head cold_kind 0)
  tested_cold = same_from_decides b (pointwise ◌==◌ came_is (header_spelling head cold_kind 0)) silent
      (subst (λ (xs : List ℕ). Decides (pointwise ◌==◌ came_is (header_spelling head cold_kind 0)) (xs ≡ header_spelling head cold_kind 0)) (sym is_came) (bytes_eq-Decides came_is (header_spelling head cold_kind 0)))

  -- another header, by whether it is that of a cold sender
  pub other_header : a ≡ false → header_error at bytes head kind size ≡ Some (if (size == 0) && b then cold else malformed)
  other_header off =
      cond-false (pointwise ◌==◌ came_is (header_spelling head kind size)) None _ (sym tested ∙ off)
      ∙ ap (λ (t : Bool). Some (if (size == 0) && t then cold else malformed)) (sym tested_cold)

module _ {V : Type 0} (form : ItemForm V) (entries : EntryForm V) (in_range : Sizes → V → Type 0) (law : AreEntries form entries in_range) (e : Expectation) where
  abbrev P : Wrapped V → Type 0
  P = IsEntry (in_range (sizes_of e)) (round_in e.m e.slot)

  abbrev width : ℕ
  width = entries.width e.nodes

  abbrev spell : Wrapped V → List ℕ
  spell = entries.spelling e.nodes

  abbrev read : List ℕ → Wrapped V
  read = entries.read e.capacity e.nodes

  abbrev test : List ℕ → Bool
  test = entries.test (sizes_of e) (round_in e.m e.slot)

  -- ---- entries of a frame with other bytes in it

  -- an entry that isn't hit stays in range
  pub clear_pass : (at : ℕ) (bytes : List ℕ) (es : List (Wrapped V)) (k : ℕ) → e.nodes ≤ e.capacity → IsSent e (form.relay es) → k < length es → IsClear at (length bytes) (14 + width * k) width
      → test (cell_over entries e.nodes at bytes k (slice_index_or es k (Fault 0))) ≡ true
  clear_pass at bytes es k few sent low clear =
      let f = format form entries in_range law e in
      let x : Wrapped V = get_or es k (Fault 0) in
      let here : P x = All-get_or P es k (Fault 0) low (sent_all form entries in_range law e es sent) in
      let kept = overlaid-clear at bytes (14 + width * k) (spell x) (subst (λ (n : ℕ). IsClear at (length bytes) (14 + width * k) n) (sym (f.long x here)) clear) in
      ap test kept ∙ law.passes (sizes_of e) (round_in e.m e.slot) x few here

  pub all_due : (at : ℕ) (bytes : List ℕ) (es : List (Wrapped V)) → length es ≡ entries_due e → ((k : ℕ) → k < length es → test (cell_over entries e.nodes at bytes k (slice_index_or es k (Fault 0))) ≡ true)
      → are_due entries e at bytes es ≡ true
  all_due at bytes es number each =
      and_from (length es == entries_due e) (list_all test (cells_of entries e at bytes es)) (eq-eqb (length es) (entries_due e) number)
      (all_pass spell read P width (format form entries in_range law e) at bytes test 14 es (Fault 0) each)

  pub one_undue : (at : ℕ) (bytes : List ℕ) (es : List (Wrapped V)) (k : ℕ) → k < length es → test (cell_over entries e.nodes at bytes k (slice_index_or es k (Fault 0))) ≡ false → are_due entries e at bytes es ≡ false
  one_undue at bytes es k low fails = and_off (length es == entries_due e) _ (one_fails spell read P width (format form entries in_range law e) at bytes test 14 es k (Fault 0) low fails) where
    and_off : (x y : Bool) → y ≡ false → (x && y) ≡ false
    and_off true y h = h
    and_off false y h = refl

  pub none_due : (at : ℕ) (bytes : List ℕ) (es : List (Wrapped V)) → (length es ≡ entries_due e → ⊥) → are_due entries e at bytes es ≡ false
  none_due at bytes es other = ap (λ (b : Bool). b && list_all test (cells_of entries e at bytes es)) (ne_eqb (length es) (entries_due e) other)

  pub own_entry : (at : ℕ) (bytes : List ℕ) (es xs : List (Wrapped V)) (k : ℕ) → e.nodes ≤ e.capacity → e.m ≤ 3 → AreBytes bytes → IsSent e (form.relay es)
      → arrives form.relay_in (Some (Set at bytes)) e e (form.relay es) ≡ Good xs → k < length xs
      → (slice_index_or xs k (Fault 0) ≡ read (cell_over entries e.nodes at bytes k (slice_index_or es k (Fault 0)))) × (k < length es)
  own_entry at bytes es xs k few rounds b sent good low =
      let made : map read (cells_of entries e at bytes es) ≡ xs = by_good _ _ _ xs (sym (read_over form entries in_range law e at bytes es few rounds b sent) ∙ good) in
      let f = format form entries in_range law e in
      let many = length-map (cells_of entries e at bytes es) read ∙ length-cells spell read P width f at bytes 14 es in
      let within : k < length es = omega (arith, low, many, ap length made) in
      (ap (λ (ys : List (Wrapped V)). get_or ys k (Fault 0)) (sym made) ∙ cell_at spell read P width f at bytes 14 es k (Fault 0) within, within)

  -- an entry in range is spelt at its width, and read back
  pub spelt_entry : (es : List (Wrapped V)) (k : ℕ) → IsSent e (form.relay es) → k < length es
      → (slice_index_or es k (Fault 0) ≢ Fault 0) × (length (spell (slice_index_or es k (Fault 0))) ≡ width) × (read (spell (slice_index_or es k (Fault 0))) ≡ slice_index_or es k (Fault 0))
  spelt_entry es k sent low =
      let f = format form entries in_range law e in
      let here : P (get_or es k (Fault 0)) = All-get_or P es k (Fault 0) low (sent_all form entries in_range law e es sent) in
      (some (get_or es k (Fault 0)) here, f.long (get_or es k (Fault 0)) here, f.back (get_or es k (Fault 0)) here)
    where
      some : (x : Wrapped V) → P x → x ≢ Fault 0
      some x h is = let z : P (Fault 0) = subst P is h in omega (arith, z.0)

  -- ---- entries that were read of bytes

  read_relay : (bytes : List ℕ) (xs : List (Wrapped V)) → part_of form.relay_in (arrived_as (reading e bytes)) ≡ Good xs → IsInRange e (form.relay xs) × (bytes ≡ spelling e.nodes (head_of e) (form.relay xs))
  read_relay bytes xs good =
      let told = good_read form.relay_in (reading e bytes) xs good in
      let is : told.0 ≡ form.relay xs = law.of_entries told.0 xs told.2 in
      reads_only e (form.relay xs) bytes (told.1 ∙ ap Some is)

  read_all : (xs : List (Wrapped V)) → IsInRange e (form.relay xs) → All P xs
  read_all xs range = law.ranged e xs range.sized

  -- a frame of its header alone has none
  none_of : (xs : List (Wrapped V)) → width * length xs ≡ 0 → length xs ≡ 0
  none_of [] h = refl
  none_of (x ∷ xs) h =
      let wide = (format form entries in_range law e).wide in
      let times : width * suc (length xs) ≡ width + width * length xs = omega arith in
      absurd (omega (arith, wide, h, times))

  pub cold_entry : (at : ℕ) (bytes : List ℕ) (xs : List (Wrapped V)) → arrives form.relay_in (Some (Set at bytes)) e e Cold ≡ Good xs → length xs ≡ 0
  cold_entry at bytes xs good =
      let frame : List ℕ = frame_by e Cold in
      let r = read_relay (patched at bytes frame) xs (sym (parts_law form.relay_in e (delivered_of (Some (Set at bytes)) frame)) ∙ good) in
      let all = read_all xs r.0 in
      let long : length (patched at bytes frame) ≡ length frame = ap length (patched_overlaid at bytes frame) ∙ length-overlaid at bytes 0 frame in
      let size = ap length (frame_is form entries in_range law e xs all) ∙ length-append (header_spelling (head_of e) entries.kind (width * length xs)) (flat_map spell xs) in
      let body = length_spelt width spell read P (format form entries in_range law e) xs all in
      let front : length (header_spelling (head_of e) entries.kind (width * length xs)) ≡ 14 = omega arith in
      let cold : length frame ≡ 14 = omega arith in
      none_of xs (omega (arith, ap length r.1, long, size, body, front, cold))

  pub raw_entry : (bytes : List ℕ) (c : Content) (xs : List (Wrapped V)) (k : ℕ) → arrives form.relay_in (Some (Raw bytes)) e e c ≡ Good xs → k < length xs
      → (14 + width * k + width ≤ length bytes) × (slice_index_or xs k (Fault 0) ≡ read (take width (drop (14 + width * k) bytes)))
  raw_entry bytes c xs k good low =
      let r = read_relay bytes xs (sym (parts_law form.relay_in e (delivered_of (Some (Raw bytes)) (frame_by e c))) ∙ good) in
      let all = read_all xs r.0 in
      let f = format form entries in_range law e in
      let header : List ℕ = header_spelling (head_of e) entries.kind (width * length xs) in
      let body : List ℕ = flat_map spell xs in
      let is : bytes ≡ header ++ body = r.1 ∙ frame_is form entries in_range law e xs all in
      let front : length header ≡ 14 = omega arith in
      let long : length body ≡ width * length xs = length_spelt width spell read P f xs all in
      let many : length body / width ≡ length xs = ap (λ (n : ℕ). n / width) long ∙ times_over width (length xs) f.wide in
      let rest : drop 14 bytes ≡ body = ap (drop 14) is ∙ drop_at header body 14 front in
      let within = piece_within width k (length body) f.wide (omega (arith, low, many)) in
      let all_bytes : length bytes ≡ 14 + length body = ap length is ∙ length-append header body ∙ ap (λ (n : ℕ). n + length body) front in (
        omega (arith, within, all_bytes),
        ap (λ (ys : List (Wrapped V)). get_or ys k (Fault 0)) (sym (read_spelt width spell read P f xs all))
            ∙ read_at width read body k (Fault 0) (omega (arith, low, many))
            ∙ ap (λ (bs : List ℕ). read (take width (drop (width * k) bs))) (sym rest)
            ∙ ap (λ (bs : List ℕ). read (take width bs)) (drop-drop (width * k) 14 bytes),
      )

  read_needs : (change : Change) (s : Expectation) (c : Content) (xs : List (Wrapped V)) → IsInRange s c → arrives form.relay_in (Some change) s e c ≡ Good xs → needs_bytes change ≡ true
  read_needs change s c xs range good = elim (cases_Bool (needs_bytes change)) [
    | inl reads ↦ reads
    | inr unread ↦ let z : false ≡ true = sym (unread_bad form.relay_in change s e c range unread) ∙ ap is_good good in cc
  ]

  -- an entry of a frame that came good, where its sender's own one is known
  pub entry_is : (change : Change) (at : ℕ) (bytes : List ℕ) (k : ℕ) (own result : Wrapped V) → e.nodes ≤ e.capacity → e.m ≤ 3 → AreBytes bytes → ((raw : List ℕ) → change ≡ Raw raw → ⊥)
      → ((frame : List ℕ) → patched at bytes frame ≡ replaced change frame)
      → (own ≢ Fault 0 → length (spell own) ≡ width → read (spell own) ≡ own → result ≡ read (cell_over entries e.nodes at bytes k own))
      → (c : Content) (xs : List (Wrapped V)) → HasOwn form e k own c → arrives form.relay_in (Some change) e e c ≡ Good xs → k < length xs → result ≡ slice_index_or xs k (Fault 0)
  entry_is change at bytes k own result few rounds b other same answers c xs (inl (es, said, sent, is)) good low =
      let sends : IsSent e (form.relay es) = subst (IsSent e) said sent in
      let came : arrives form.relay_in (Some change) e e (form.relay es) ≡ Good xs = ap (arrives form.relay_in (Some change) e e) (sym said) ∙ good in
      let needs : needs_bytes change ≡ true = read_needs change (with_members e sends.members) (form.relay es) xs sends.in_range came in
      let put : arrives form.relay_in (Some (Set at bytes)) e e (form.relay es) ≡ Good xs = sym (as_set form.relay_in change e (form.relay es) at bytes needs other (same (frame_by e (form.relay es)))) ∙ came in
      let r = own_entry at bytes es xs k few rounds b sends put low in
      let f = spelt_entry es k sends r.1 in
      answers (λ none. f.0 (sym is ∙ none)) (ap (λ (x : Wrapped V). length (spell x)) is ∙ f.1) (ap (λ (x : Wrapped V). read (spell x)) is ∙ f.2 ∙ sym is)
      ∙ ap (λ (x : Wrapped V). read (cell_over entries e.nodes at bytes k x)) is ∙ sym r.0
  entry_is change at bytes k own result few rounds b other same answers c xs (inr silent) good low =
      let came : arrives form.relay_in (Some change) e e Cold ≡ Good xs = ap (arrives form.relay_in (Some change) e e) (sym silent) ∙ good in
      let needs : needs_bytes change ≡ true = read_needs change e Cold xs (cold_in_range e) came in
      let put : arrives form.relay_in (Some (Set at bytes)) e e Cold ≡ Good xs = sym (as_set form.relay_in change e Cold at bytes needs other (same (frame_by e Cold))) ∙ came in
      let none : length xs ≡ 0 = cold_entry at bytes xs put in
      absurd (omega (arith, none, low))

  -- a first frame is short
  pub first_short : (nodes : ℕ) (said : Wrapped V) → nodes ≤ 16 → length (body_spelling nodes (first_content form said)) ≤ 32
  first_short nodes (Plain v) few = law.short nodes v few
  first_short nodes (Fault k) few = omega arith
