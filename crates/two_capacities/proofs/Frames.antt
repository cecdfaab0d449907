-- Frames: the same bytes, and what they say is a row with more places.
use Rattle.std.proofs.Common.{ℕ, suc, ◌≡◌, ◌<◌, ◌≤◌, ◌+◌, ◌-◌, Bool, true, false, List, [], ◌∷◌, ◌++◌, map, length, take, drop, replicate, get_or, Option, None, Some, refl, sym, ap, subst, ◌∙◌, ◌⊎◌, arith, length-append}
use Rattle.std.specs.Prelude.{if◌then◌else◌, All}
use Rattle.std.specs.List.{flat_map}
use Rattle.std.specs.Option.{option_map}
use Rattle.std.specs.Int.{w16, to_be_bytes}
use Rattle.std.proofs.lemmas.List.{take_at, take-append-drop, length-take-le, drop-append-le, length-replicate, replicate-append-replicate, append_cancel_right, length-map, append_assoc}
use Rattle.std.proofs.lemmas.List.Elements.{All-map, All-append, All-take, All-replicate}
use Rattle.node_grid.specs.Version.{mask_bound}
use Rattle.node_grid.specs.NumberFacts.{zero_mask}
use Rattle.omh_paths.specs.declared.wrapped.Wrapped.{Wrapped}
use Rattle.omh_paths.specs.declared.wrapped.Wrapped.TheVariants.{Plain, Fault}
use Rattle.frames.specs.Content.{Expectation, Content, State, Done0, DoneRelay, Data, Report0, ReportRelay, Cold, kind, kind_in, IsRow, IsEntry, IsSized}
use Rattle.frames.specs.FrameKinds.{cold_kind}
use Rattle.frames.specs.declared.frame.Head.{Head}
use Rattle.frames.specs.Spelling.{relayed_row_spelling, body_spelling, header_spelling, spelling, head_of, IsInRange}
use Rattle.frames.specs.Reading.{reading}
use Rattle.frames.specs.ReadingLaws.{reads_back, reads_only}
use Rattle.slot_plan.specs.Ticks.{is_in_window}
use Rattle.error_detect.specs.Finding.{Delivery, found_of, finding, told_of, told, kind_of}
use Rattle.error_detect.specs.declared.finding.Finding.TheVariants.{Timing}
use Rattle.fault_classes.specs.Change.{Change}
use Rattle.fault_link.specs.Arrival.{delivered_of}
use Rattle.protocol.specs.Arrival.{read_as, arrived, arrival}
use Rattle.protocol.specs.Talk.{frame_by, arrives}
use Rattle.two_capacities.specs.Wider.{wide}
use Rattle.two_capacities.proofs.Lists.{wide_long, take_wide}
use Rattle.two_capacities.proofs.Settling.{each_wrapped, each_arrival}

-- what a frame says, with k further places in each row
abbrev pub wide_content : ℕ → ℕ → Content → Content
wide_content n k (State bytes) = State bytes
wide_content n k (Done0 task) = Done0 task
wide_content n k (DoneRelay entries) = DoneRelay entries
wide_content n k (Data numbers) = Data numbers
wide_content n k (Report0 masks) = Report0 (wide n k masks)
wide_content n k (ReportRelay entries) = ReportRelay (map (each_wrapped (wide n k)) entries)
wide_content n k Cold = Cold

-- what is expected, with k further places in each row
abbrev pub wider : ℕ → Expectation → Expectation
wider k e = record e { capacity = e.capacity + k }

-- ---- the bytes

module _ (n k : ℕ) where
  entry_spelled : (w : Wrapped (List ℕ)) → relayed_row_spelling n (each_wrapped (wide n k) w) ≡ relayed_row_spelling n w
  entry_spelled (Plain masks) = ap (λ ms. 0 ∷ flat_map (to_be_bytes w16) ms) (take_wide n k masks)
  entry_spelled (Fault i) = refl

  entries_spelled : (ws : List (Wrapped (List ℕ))) → flat_map (relayed_row_spelling n) (map (each_wrapped (wide n k)) ws) ≡ flat_map (relayed_row_spelling n) ws
  entries_spelled [] = refl
  entries_spelled (w ∷ ws) =
      ap (λ xs. xs ++ flat_map (relayed_row_spelling n) (map (each_wrapped (wide n k)) ws)) (entry_spelled w)
      ∙ ap (λ xs. relayed_row_spelling n w ++ xs) (entries_spelled ws)

  body_spelled : (c : Content) → body_spelling n (wide_content n k c) ≡ body_spelling n c
  body_spelled (State bytes) = refl
  body_spelled (Done0 task) = refl
  body_spelled (DoneRelay entries) = refl
  body_spelled (Data numbers) = refl
  body_spelled (Report0 masks) = ap (flat_map (to_be_bytes w16)) (take_wide n k masks)
  body_spelled (ReportRelay entries) = entries_spelled entries
  body_spelled Cold = refl

  kind_wide : (c : Content) → kind (wide_content n k c) ≡ kind c
  kind_wide (State bytes) = refl
  kind_wide (Done0 task) = refl
  kind_wide (DoneRelay entries) = refl
  kind_wide (Data numbers) = refl
  kind_wide (Report0 masks) = refl
  kind_wide (ReportRelay entries) = refl
  kind_wide Cold = refl

  pub spelled_wide : (head : Head) (c : Content) → spelling n head (wide_content n k c) ≡ spelling n head c
  spelled_wide head c =
      ap (λ x. header_spelling head x (length (body_spelling n (wide_content n k c))) ++ body_spelling n (wide_content n k c)) (kind_wide c)
      ∙ ap (λ xs. header_spelling head (kind c) (length xs) ++ xs) (body_spelled c)

-- ---- rows in range

abbrev zeros : ℕ → List ℕ
zeros j = replicate j 0

module _ (v cap n k : ℕ) (few : n ≤ cap) where
  zeros_longer : zeros (cap - n) ++ zeros k ≡ zeros (cap + k - n)
  zeros_longer = replicate-append-replicate (cap - n) k 0 ∙ ap zeros (let e : cap - n + k ≡ cap + k - n = omega arith in e)

  row_widened : (masks : List ℕ) → IsRow v cap n masks → IsRow v (cap + k) n (wide n k masks)
  row_widened masks h =
      let room : n ≤ length masks = omega (arith, h.whole) in
      subst (IsRow v (cap + k) n) (sym (wide_long n k masks room)) (record {
        room = omega arith;
        whole = omega (arith, length-append masks (replicate k 0), length-replicate {A = ℕ} k 0, h.whole);
        within = All-append (λ mask. mask < mask_bound v) masks (replicate k 0) h.within (All-replicate (λ mask. mask < mask_bound v) k 0 (zero_mask v));
        rest = drop-append-le n masks (replicate k 0) room ∙ ap (λ xs. xs ++ replicate k 0) h.rest ∙ zeros_longer;
      })

  -- a row with the further places is one without them, and k zeros
  front_is : (masks : List ℕ) → IsRow v (cap + k) n masks → take cap masks ++ replicate k 0 ≡ masks
  front_is masks h =
      let long : length (take cap masks) ≡ cap = length-take-le cap masks (omega (arith, h.whole)) in
      let shown : take n masks ++ replicate (cap + k - n) 0 ≡ masks = ap (λ xs. take n masks ++ xs) (sym h.rest) ∙ take-append-drop n masks in
      let parts : (take n masks ++ replicate (cap - n) 0) ++ replicate k 0 ≡ masks = append_assoc (take n masks) (replicate (cap - n) 0) (replicate k 0) ∙ ap (λ xs. take n masks ++ xs) zeros_longer ∙ shown in
      let room : length (take n masks ++ replicate (cap - n) 0) ≡ cap = length-append (take n masks) (replicate (cap - n) 0) ∙ omega (arith, length-take-le n masks (omega (arith, h.whole)), length-replicate {A = ℕ} (cap - n) 0) in
      ap (λ xs. take cap xs ++ replicate k 0) (sym parts) ∙ ap (λ xs. xs ++ replicate k 0) (take_at (take n masks ++ replicate (cap - n) 0) (replicate k 0) cap room) ∙ parts

  row_narrowed : (masks : List ℕ) → IsRow v (cap + k) n masks → IsRow v cap n (take cap masks)
  row_narrowed masks h =
      let long : length (take cap masks) ≡ cap = length-take-le cap masks (omega (arith, h.whole)) in
      let back : drop n (take cap masks) ++ replicate k 0 ≡ replicate (cap - n) 0 ++ replicate k 0 =
      sym (drop-append-le n (take cap masks) (replicate k 0) (omega (arith, long))) ∙ ap (drop n) (front_is masks h) ∙ h.rest ∙ sym zeros_longer in
      record {
        room = few;
        whole = long;
        within = All-take (λ mask. mask < mask_bound v) cap masks h.within;
        rest = append_cancel_right (drop n (take cap masks)) (replicate (cap - n) 0) (replicate k 0) back;
      }

  row_back : (masks : List ℕ) → IsRow v (cap + k) n masks → wide n k (take cap masks) ≡ masks
  row_back masks h =
      let long : length (take cap masks) ≡ cap = length-take-le cap masks (omega (arith, h.whole)) in
      wide_long n k (take cap masks) (omega (arith, long)) ∙ front_is masks h

  module _ (r : ℕ) where
    entry_widened : (w : Wrapped (List ℕ)) → IsEntry (IsRow v cap n) r w → IsEntry (IsRow v (cap + k) n) r (each_wrapped (wide n k) w)
    entry_widened (Plain masks) h = row_widened masks h
    entry_widened (Fault i) h = h

    entry_narrowed : (w : Wrapped (List ℕ)) → IsEntry (IsRow v (cap + k) n) r w → IsEntry (IsRow v cap n) r (each_wrapped (take cap) w)
    entry_narrowed (Plain masks) h = row_narrowed masks h
    entry_narrowed (Fault i) h = h

    entry_back : (w : Wrapped (List ℕ)) → IsEntry (IsRow v (cap + k) n) r w → each_wrapped (wide n k) (each_wrapped (take cap) w) ≡ w
    entry_back (Plain masks) h = ap Plain (row_back masks h)
    entry_back (Fault i) h = refl

    entries_back : (ws : List (Wrapped (List ℕ))) → All (IsEntry (IsRow v (cap + k) n) r) ws → map (each_wrapped (wide n k)) (map (each_wrapped (take cap)) ws) ≡ ws
    entries_back [] h = refl
    entries_back (w ∷ ws) h =
        ap (λ x. x ∷ map (each_wrapped (wide n k)) (map (each_wrapped (take cap)) ws)) (entry_back w (h 0 w (omega arith)))
        ∙ ap (λ xs. w ∷ xs) (entries_back ws (λ j d l. h (suc j) d (omega arith)))

    entries_widened : (ws : List (Wrapped (List ℕ))) → All (IsEntry (IsRow v cap n) r) ws → All (IsEntry (IsRow v (cap + k) n) r) (map (each_wrapped (wide n k)) ws)
    entries_widened ws h = All-map (IsEntry (IsRow v (cap + k) n) r) (each_wrapped (wide n k)) ws (λ j d l. entry_widened (get_or ws j d) (h j d l))

    entries_narrowed : (ws : List (Wrapped (List ℕ))) → All (IsEntry (IsRow v (cap + k) n) r) ws → All (IsEntry (IsRow v cap n) r) (map (each_wrapped (take cap)) ws)
    entries_narrowed ws h = All-map (IsEntry (IsRow v cap n) r) (each_wrapped (take cap)) ws (λ j d l. entry_narrowed (get_or ws j d) (h j d l))

-- ---- what bytes say

module _ (k : ℕ) (e : Expectation) (few : e.nodes ≤ e.capacity) where
  sized_widened : (c : Content) → IsSized e c → IsSized (wider k e) (wide_content e.nodes k c)
  sized_widened (State bytes) h = h
  sized_widened (Done0 task) h = h
  sized_widened (DoneRelay entries) h = h
  sized_widened (Data numbers) h = h
  sized_widened (Report0 masks) h = row_widened e.version e.capacity e.nodes k few masks h
  sized_widened (ReportRelay entries) h = (length-map entries (each_wrapped (wide e.nodes k)) ∙ h.0, entries_widened e.version e.capacity e.nodes k few _ entries h.1)
  sized_widened Cold h = tt

  narrow : Content → Content
  narrow (State bytes) = State bytes
  narrow (Done0 task) = Done0 task
  narrow (DoneRelay entries) = DoneRelay entries
  narrow (Data numbers) = Data numbers
  narrow (Report0 masks) = Report0 (take e.capacity masks)
  narrow (ReportRelay entries) = ReportRelay (map (each_wrapped (take e.capacity)) entries)
  narrow Cold = Cold

  sized_narrowed : (c : Content) → IsSized (wider k e) c → IsSized e (narrow c)
  unfolding narrow
  sized_narrowed (State bytes) h = h
  sized_narrowed (Done0 task) h = h
  sized_narrowed (DoneRelay entries) h = h
  sized_narrowed (Data numbers) h = h
  sized_narrowed (Report0 masks) h = row_narrowed e.version e.capacity e.nodes k few masks h
  sized_narrowed (ReportRelay entries) h = (length-map entries (each_wrapped (take e.capacity)) ∙ h.0, entries_narrowed e.version e.capacity e.nodes k few _ entries h.1)
  sized_narrowed Cold h = tt

  content_back : (c : Content) → IsSized (wider k e) c → wide_content e.nodes k (narrow c) ≡ c
  unfolding narrow
  content_back (State bytes) h = refl
  content_back (Done0 task) h = refl
  content_back (DoneRelay entries) h = refl
  content_back (Data numbers) h = refl
  content_back (Report0 masks) h = ap Report0 (row_back e.version e.capacity e.nodes k few masks h)
  content_back (ReportRelay entries) h = ap ReportRelay (entries_back e.version e.capacity e.nodes k few _ entries h.1)
  content_back Cold h = refl

  range_widened : (c : Content) → IsInRange e c → IsInRange (wider k e) (wide_content e.nodes k c)
  range_widened c h = record {
    placed = subst (λ x. (x ≡ kind_in e.m e.slot) ⊎ (x ≡ cold_kind)) (sym (kind_wide e.nodes k c)) h.placed;
    sized = sized_widened c h.sized;
    short = omega (arith, h.short, ap length (body_spelled e.nodes k c));
  }

  range_narrowed : (c : Content) → IsInRange (wider k e) c → IsInRange e (narrow c)
  range_narrowed c h =
      let back = content_back c h.sized in
      record {
        placed = subst (λ x. (x ≡ kind_in e.m e.slot) ⊎ (x ≡ cold_kind)) (sym (ap kind back) ∙ kind_wide e.nodes k (narrow c)) h.placed;
        sized = sized_narrowed c h.sized;
        short = omega (arith, h.short, ap length (sym (body_spelled e.nodes k (narrow c)) ∙ ap (body_spelling e.nodes) back));
      }

  said_same : (bytes : List ℕ) (o : Option Content) → reading e bytes ≡ o → reading (wider k e) bytes ≡ option_map (wide_content e.nodes k) o
  said_same bytes (Some c) h =
      let r = reads_only e c bytes h in
      ap (reading (wider k e)) (r.1 ∙ sym (spelled_wide e.nodes k (head_of e) c)) ∙ reads_back (wider k e) (wide_content e.nodes k c) (range_widened c r.0)
  said_same bytes None h = none (reading (wider k e) bytes) refl where
    none : (o : Option Content) → reading (wider k e) bytes ≡ o → reading (wider k e) bytes ≡ None
    none None is = is
    none (Some c) is =
        let r = reads_only (wider k e) c bytes is in
        let s : bytes ≡ spelling e.nodes (head_of e) (narrow c) = r.1 ∙ ap (spelling e.nodes (head_of e)) (sym (content_back c r.0.sized)) ∙ spelled_wide e.nodes k (head_of e) (narrow c) in
        let t : Some (narrow c) ≡ None = sym (reads_back e (narrow c) (range_narrowed c r.0)) ∙ ap (reading e) (sym s) ∙ h in
        absurd (let z : ⊥ = cc in z)

  pub reading_wide : (bytes : List ℕ) → reading (wider k e) bytes ≡ option_map (wide_content e.nodes k) (reading e bytes)
  reading_wide bytes = said_same bytes (reading e bytes) refl

  found_wide : (o : Option Content) → found_of (option_map (wide_content e.nodes k) o) ≡ found_of o
  found_wide None = refl
  found_wide (Some (State bytes)) = refl
  found_wide (Some (Done0 task)) = refl
  found_wide (Some (DoneRelay entries)) = refl
  found_wide (Some (Data numbers)) = refl
  found_wide (Some (Report0 masks)) = refl
  found_wide (Some (ReportRelay entries)) = refl
  found_wide (Some Cold) = refl

  told_wide : (o : Option Content) → told_of (option_map (wide_content e.nodes k) o) ≡ option_map (wide_content e.nodes k) (told_of o)
  told_wide None = refl
  told_wide (Some (State bytes)) = refl
  told_wide (Some (Done0 task)) = refl
  told_wide (Some (DoneRelay entries)) = refl
  told_wide (Some (Data numbers)) = refl
  told_wide (Some (Report0 masks)) = refl
  told_wide (Some (ReportRelay entries)) = refl
  told_wide (Some Cold) = refl

  finding_wide : (ds : List Delivery) → finding (wider k e) ds ≡ finding e ds
  finding_wide [] = refl
  finding_wide (d ∷ []) = ap (λ x. if is_in_window d.0 then x else Timing) (ap found_of (reading_wide d.1) ∙ found_wide (reading e d.1))
  finding_wide (d ∷ d' ∷ rest) = refl

  told_each : (ds : List Delivery) → told (wider k e) ds ≡ option_map (wide_content e.nodes k) (told e ds)
  told_each [] = refl
  told_each (d ∷ []) = ap (λ x. if is_in_window d.0 then x else None) (ap told_of (reading_wide d.1) ∙ told_wide (reading e d.1)) ∙ either (is_in_window d.0) (told_of (reading e d.1)) where
    either : (b : Bool) (o : Option Content) → (if b then option_map (wide_content e.nodes k) o else None) ≡ option_map (wide_content e.nodes k) (if b then o else None)
    either true o = refl
    either false o = refl
  told_each (d ∷ d' ∷ rest) = refl

  -- ---- what a node has of a frame

  module _ {C D : Type 0} (f : C → D) (part : Content → Option C) (part' : Content → Option D) (parts : (c : Content) → part' (wide_content e.nodes k c) ≡ option_map f (part c)) where
    read_each : (o : Option C) → read_as (option_map f o) ≡ each_arrival f (read_as o)
    read_each None = refl
    read_each (Some c) = refl

    arrived_each : (x : Option ℕ) (o : Option Content) → arrived part' x (option_map (wide_content e.nodes k) o) ≡ each_arrival f (arrived part x o)
    arrived_each (Some x) o = refl
    arrived_each None None = refl
    arrived_each None (Some c) = ap read_as (parts c) ∙ read_each (part c)

    arrival_wide : (ds : List Delivery) → arrival part' (wider k e) ds ≡ each_arrival f (arrival part e ds)
    arrival_wide ds =
        ap (λ x. arrived part' (kind_of x) (told (wider k e) ds)) (finding_wide ds)
        ∙ ap (arrived part' (kind_of (finding e ds))) (told_each ds)
        ∙ arrived_each (kind_of (finding e ds)) (told e ds)

    pub arrives_wide : (change : Option Change) (sender : Expectation) (c : Content) → sender.nodes ≡ e.nodes
        → arrives part' change (wider k sender) (wider k e) (wide_content e.nodes k c) ≡ each_arrival f (arrives part change sender e c)
    arrives_wide change sender c same =
        ap (λ bytes. arrival part' (wider k e) (delivered_of change bytes))
        (ap (λ x. spelling sender.nodes (head_of sender) (wide_content x k c)) (sym same) ∙ spelled_wide sender.nodes k (head_of sender) c)
        ∙ arrival_wide (delivered_of change (frame_by sender c))
