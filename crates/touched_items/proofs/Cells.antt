-- What is read of a relay frame in which other bytes stand.
use Rattle.std.proofs.Common.{ℕ, ◌≡◌, ◌<◌, ◌≤◌, ◌+◌, ◌*◌, ◌^◌, Bool, true, false, ◌&&◌, ◌==◌, List, [], ◌++◌, length, take, drop, map, get_or, Option, Some, None, ◌⊎◌, refl, sym, ap, ap₂, subst, ◌∙◌, inl, inr, arith, eq-eqb, eqb-true}
use Rattle.std.specs.Prelude.{All, if◌then◌else◌}
use Rattle.std.specs.List.{list_all, flat_map}
use Rattle.std.specs.Cmp.Lexicographic.{pointwise}
use Rattle.std.proofs.lemmas.Bool.{cases_Bool, cond-true, cond-false, and_parts, and_from, both_ways}
use Rattle.std.proofs.lemmas.List.{length-map, take_at, drop_at, nil_from_length}
use Rattle.std.proofs.lemmas.Slice.Eq.{bytes_eq-Decides}
use Rattle.node_grid.specs.Kinds.{malformed, cold}
use Rattle.omh_paths.specs.declared.wrapped.Wrapped.{Wrapped}
use Rattle.frames.specs.FrameKinds.{claim_relay_kind, row_relay_kind, cold_kind}
use Rattle.frames.specs.Content.{Content, Expectation, State, Done0, DoneRelay, Data, Report0, ReportRelay, Cold, is_cold, kind, kind_in, round_in, entries_due, IsEntry}
use Rattle.frames.specs.Spelling.{body_spelling, header_spelling, spelling, head_of, IsInRange}
use Rattle.frames.specs.Reading.{reading}
use Rattle.frames.specs.ReadingLaws.{reads_back, reads_only, none_if, round_within, cold_in_range}
use Rattle.frames.specs.PieceLaws.{AreBytes, IsFormat, length_spelt}
use Rattle.fault_classes.specs.Change.Change.{Set}
use Rattle.fault_link.specs.Arrival.{patched, delivered_of}
use Rattle.protocol.specs.Arrival.{Arrival, ItemForm, read_as}
use Rattle.protocol.specs.Arrival.Arrival.{Good}
use Rattle.protocol.specs.Talk.{frame_by, arrives}
use Rattle.touched_frames.specs.Arrived.{arrived_as, part_of}
use Rattle.touched_frames.proofs.Effects.{parts_law, read_good}
use Rattle.touched_items.specs.Items.{Sizes, sizes_of, with_members, IsSent, EntryForm, AreEntries}
use Rattle.touched_items.specs.Patched.{cells_over, header_error, arrival_by, are_due, arrival_over, CellsLaw}
use Rattle.touched_items.specs.Overlaid.{overlaid}
use Rattle.touched_items.specs.OverlaidLaws.{length-overlaid}
use Rattle.touched_items.proofs.Overlays.{patched_overlaid, overlaid-append, joined, length-cells, body_over, length-joined, same_cells, each_passes, restored_cells}

-- ---- kinds

pub not_cold : (k : ℕ) → (k ≡ claim_relay_kind) ⊎ (k ≡ row_relay_kind) → k ≡ cold_kind → ⊥
not_cold k (inl a) c = omega (arith, a, c)
not_cold k (inr a) c = omega (arith, a, c)

below_cold : (k : ℕ) → (k ≡ claim_relay_kind) ⊎ (k ≡ row_relay_kind) → k < 7
below_cold k (inl a) = omega (arith, a)
below_cold k (inr a) = omega (arith, a)

pub warm : (c : Content) → (kind c ≡ cold_kind → ⊥) → is_cold c ≡ false
warm (State bytes) h = refl
warm (Done0 task) h = refl
warm (DoneRelay entries) h = refl
warm (Data numbers) h = refl
warm (Report0 masks) h = refl
warm (ReportRelay entries) h = refl
warm Cold h = absurd (h refl)

cold_told : (c : Content) → kind c ≡ cold_kind → c ≡ Cold
cold_told (State bytes) h = absurd (cc)
cold_told (Done0 task) h = absurd (cc)
cold_told (DoneRelay entries) h = absurd (cc)
cold_told (Data numbers) h = absurd (cc)
cold_told (Report0 masks) h = absurd (cc)
cold_told (ReportRelay entries) h = absurd (cc)
cold_told Cold h = refl

small_round : (m slot k : ℕ) → m ≤ 3 → k ≡ kind_in m slot → k < 7 → round_in m slot ≤ 3
small_round m slot k few is low = let r = round_within m slot k is low in omega arith

module _ {V : Type 0} (form : ItemForm V) (entries : EntryForm V) (in_range : Sizes → V → Type 0) (law : AreEntries form entries in_range) (e : Expectation) where
  abbrev P : Wrapped V → Type 0
  P = IsEntry (in_range (sizes_of e)) (round_in e.m e.slot)

  abbrev width : ℕ
  width = entries.width e.nodes

  abbrev spell : Wrapped V → List ℕ
  spell = entries.spelling e.nodes

  abbrev read : List ℕ → Wrapped V
  read = entries.read e.capacity e.nodes

  abbrev test : List ℕ → Bool
  test = entries.test (sizes_of e) (round_in e.m e.slot)

  abbrev front : ℕ → List ℕ
  front n = header_spelling (head_of e) entries.kind (width * n)

  pub format : IsFormat width spell read P
  format = law.format (sizes_of e) (round_in e.m e.slot)

  -- what is sent is in range
  pub sent_all : (es : List (Wrapped V)) → IsSent e (form.relay es) → All P es
  sent_all es sent = law.ranged (with_members e sent.members) es sent.in_range.sized

  pub sent_placed : (es : List (Wrapped V)) → IsSent e (form.relay es) → entries.kind ≡ kind_in e.m e.slot
  sent_placed es sent = elim sent.in_range.placed [
    | inl is ↦ sym (law.kind_is es) ∙ is
    | inr other ↦ absurd (not_cold entries.kind law.kind_of (sym (law.kind_is es) ∙ other))
  ]

  pub sent_round : (es : List (Wrapped V)) → e.m ≤ 3 → IsSent e (form.relay es) → round_in e.m e.slot ≤ 3
  sent_round es few sent = small_round e.m e.slot entries.kind few (sent_placed es sent) (below_cold entries.kind law.kind_of)

  pub sent_short : (es : List (Wrapped V)) → IsSent e (form.relay es) → width * length es < 2 ^ 32
  sent_short es sent =
      let short : length (body_spelling e.nodes (form.relay es)) < 2 ^ 32 = sent.in_range.short in
      let body = ap length (law.body e.nodes es) in
      let long = length_spelt width spell read P format es (sent_all es sent) in
      omega (arith, short, body, long)

  -- a relay frame in bytes
  pub frame_is : (xs : List (Wrapped V)) → All P xs → spelling e.nodes (head_of e) (form.relay xs) ≡ front (length xs) ++ flat_map spell xs
  frame_is xs all =
      ap (λ (k : ℕ). header_spelling (head_of e) k (length (body_spelling e.nodes (form.relay xs))) ++ body_spelling e.nodes (form.relay xs)) (law.kind_is xs)
      ∙ ap (λ (body : List ℕ). header_spelling (head_of e) entries.kind (length body) ++ body) (law.body e.nodes xs)
      ∙ ap (λ (n : ℕ). header_spelling (head_of e) entries.kind n ++ flat_map spell xs) (length_spelt width spell read P format xs all)

  relay_good : (xs : List (Wrapped V)) → part_of form.relay_in (arrived_as (Some (form.relay xs))) ≡ Good xs
  relay_good xs =
      ap (part_of form.relay_in) (read_good (form.relay xs) (warm (form.relay xs) (λ c. not_cold entries.kind law.kind_of (sym (law.kind_is xs) ∙ c)))) ∙ ap read_as (law.back xs)

  module _ (at : ℕ) (bytes : List ℕ) (es : List (Wrapped V)) where
    abbrev cells : List (List ℕ)
    cells = cells_over spell width at bytes 14 es

    abbrev came : List ℕ
    came = overlaid at bytes 0 (front (length es))

    abbrev body : List ℕ
    body = joined cells

    front_long : length came ≡ 14
    front_long = length-overlaid at bytes 0 (front (length es)) ∙ omega arith

    pub frame_over : All P es → patched at bytes (spelling e.nodes (head_of e) (form.relay es)) ≡ came ++ body
    frame_over all =
        let long : 0 + length (front (length es)) ≡ 14 = omega arith in
        ap (patched at bytes) (frame_is es all)
        ∙ patched_overlaid at bytes (front (length es) ++ flat_map spell es)
        ∙ overlaid-append at bytes 0 (front (length es)) (flat_map spell es)
        ∙ ap (λ (n : ℕ). came ++ overlaid at bytes n (flat_map spell es)) long
        ∙ ap (λ (ys : List ℕ). came ++ ys) (body_over spell read P width format at bytes 14 es all)

    -- with the header as it was sent, the frame is good where its entries are
    fit_read : e.nodes ≤ e.capacity → e.m ≤ 3 → AreBytes bytes → IsSent e (form.relay es) → came ≡ front (length es) → are_due entries e at bytes es ≡ true
        → reading e (came ++ body) ≡ Some (form.relay (map read cells))
    fit_read few rounds b sent kept due =
        let all = sent_all es sent in
        let xs : List (Wrapped V) = map read cells in
        let parts = and_parts (length es == entries_due e) (list_all test cells) due in
        let low = sent_round es rounds sent in
        let again = restored_cells spell read P width format at bytes test (λ from x p t. law.told (sizes_of e) (round_in e.m e.slot) at bytes from x few (omega (arith, low)) b p t) 14 es all parts.1 in
        let many : length xs ≡ length es = length-map cells read ∙ length-cells spell read P width format at bytes 14 es in
        let range : IsInRange e (form.relay xs) = record {
          placed = inl (law.kind_is xs ∙ sent_placed es sent);
          sized = law.sized e xs (many ∙ eqb-true (length es) (entries_due e) parts.0) again.1;
          short =
              let short = sent_short es sent in
              let long = ap length (law.body e.nodes xs) ∙ length_spelt width spell read P format xs again.1 ∙ ap (λ (n : ℕ). width * n) many in
              omega (arith, short, long);
        } in
        let is : came ++ body ≡ spelling e.nodes (head_of e) (form.relay xs) =
        ap₂ (λ (h ys : List ℕ). h ++ ys) (kept ∙ ap front (sym many)) (sym again.0) ∙ sym (frame_is xs again.1) in
        ap (reading e) is ∙ reads_back e (form.relay xs) range

    -- what is read of the kind of such frames has the entries and the header that came
    told_entries : e.nodes ≤ e.capacity → All P es → (c : Content) → reading e (came ++ body) ≡ Some c → kind c ≡ entries.kind → (came ≡ front (length es)) × (are_due entries e at bytes es ≡ true)
    told_entries few all c h is =
        let only = reads_only e c (came ++ body) h in
        let told = law.of_kind c is in
        let xs : List (Wrapped V) = told.0 in
        let range : IsInRange e (form.relay xs) = subst (IsInRange e) told.1 only.0 in
        let each : All P xs = law.ranged e xs range.sized in
        let number : length xs ≡ entries_due e = law.number e xs range.sized in
        let frame : came ++ body ≡ front (length xs) ++ flat_map spell xs = only.1 ∙ ap (spelling e.nodes (head_of e)) told.1 ∙ frame_is xs each in
        let other : length (front (length xs)) ≡ 14 = omega arith in
        let header : came ≡ front (length xs) = sym (take_at came body 14 front_long) ∙ ap (take 14) frame ∙ take_at (front (length xs)) (flat_map spell xs) 14 other in
        let rest : body ≡ flat_map spell xs = sym (drop_at came body 14 front_long) ∙ ap (drop 14) frame ∙ drop_at (front (length xs)) (flat_map spell xs) 14 other in
        let same : cells ≡ map spell xs = same_cells spell read P width format at bytes 14 es xs all each rest in
        let many : length es ≡ length xs = sym (length-cells spell read P width format at bytes 14 es) ∙ ap length same ∙ length-map xs spell in
        let passed : list_all test (map spell xs) ≡ true = each_passes spell read P width format at bytes test (λ x p. law.passes (sizes_of e) (round_in e.m e.slot) x few p) xs each in
        (header ∙ ap front (sym many), and_from (length es == entries_due e) (list_all test cells) (eq-eqb (length es) (entries_due e) (many ∙ number)) (ap (list_all test) same ∙ passed))

    abbrev silent : List ℕ
    silent = header_spelling (head_of e) cold_kind 0

    abbrev has_of : Option Content → Arrival (List (Wrapped V))
    has_of o = part_of form.relay_in (arrived_as o)

    abbrev by_header : Option ℕ → Bool → Arrival (List (Wrapped V))
    by_header h due = arrival_by h due (map read cells)

    with_header : e.nodes ≤ e.capacity → e.m ≤ 3 → AreBytes bytes → IsSent e (form.relay es) → pointwise ◌==◌ came (front (length es)) ≡ true
        → has_of (reading e (came ++ body)) ≡ arrival_over entries e at bytes es
    with_header few rounds b sent kept =
        let all = sent_all es sent in
        let is : came ≡ front (length es) = (bytes_eq-Decides came (front (length es))).0 kept in
        let none : header_error at bytes (head_of e) entries.kind (width * length es) ≡ None = cond-true (pointwise ◌==◌ came (front (length es))) None _ kept in
        elim (cases_Bool (are_due entries e at bytes es)) [
          | inl due ↦ ap has_of (fit_read few rounds b sent is due) ∙ relay_good (map read cells) ∙ sym (ap₂ by_header none due)
          | inr off ↦
              ap has_of (none_if (reading e (came ++ body)) (λ c h.
              let only = reads_only e c (came ++ body) h in
              let same : kind c ≡ entries.kind = ap (λ (bs : List ℕ). get_or bs 3 0) (sym only.1) ∙ ap (λ (h : List ℕ). get_or (h ++ body) 3 0) is in
              both_ways (are_due entries e at bytes es) off (told_entries few all c h same).1))
              ∙ sym (ap₂ by_header none off)
        ]

    without_header : e.nodes ≤ e.capacity → IsSent e (form.relay es) → pointwise ◌==◌ came (front (length es)) ≡ false
        → has_of (reading e (came ++ body)) ≡ arrival_over entries e at bytes es
    without_header few sent other =
        let all = sent_all es sent in
        let long : length body ≡ width * length es = length-joined spell read P width format at bytes 14 es all in
        let empty : Bool = (width * length es == 0) && pointwise ◌==◌ came silent in
        let error : header_error at bytes (head_of e) entries.kind (width * length es) ≡ Some (if empty then cold else malformed) = cond-false (pointwise ◌==◌ came (front (length es))) None _ other in
        elim (cases_Bool empty) [
          | inl kept ↦
              let parts = and_parts (width * length es == 0) (pointwise ◌==◌ came silent) kept in
              let none : width * length es ≡ 0 = eqb-true (width * length es) 0 parts.0 in
              let nil : body ≡ [] = nil_from_length body (long ∙ none) in
              let header : came ≡ silent = (bytes_eq-Decides came silent).0 parts.1 in
              let is : came ++ body ≡ spelling e.nodes (head_of e) Cold = ap₂ (λ (h ys : List ℕ). h ++ ys) header nil in
              ap has_of (ap (reading e) is ∙ reads_back e Cold (cold_in_range e))
              ∙ sym (ap (λ (h : Option ℕ). by_header h (are_due entries e at bytes es)) (error ∙ ap Some (cond-true empty cold malformed kept)))
          | inr off ↦
              ap has_of (none_if (reading e (came ++ body)) (λ c h.
              let only = reads_only e c (came ++ body) h in
              elim only.0.placed [
                | inl is ↦
                    let told = told_entries few all c h (is ∙ sym (sent_placed es sent)) in
                    both_ways (pointwise ◌==◌ came (front (length es))) other ((bytes_eq-Decides came (front (length es))).1 told.0)
                | inr is ↦
                    let frame : came ++ body ≡ silent ++ [] = only.1 ∙ ap (spelling e.nodes (head_of e)) (cold_told c is) in
                    let other : length silent ≡ 14 = omega arith in
                    let header : came ≡ silent = sym (take_at came body 14 front_long) ∙ ap (take 14) frame ∙ take_at silent [] 14 other in
                    let nil : body ≡ [] = sym (drop_at came body 14 front_long) ∙ ap (drop 14) frame ∙ drop_at silent [] 14 other in
                    both_ways empty off (and_from (width * length es == 0) (pointwise ◌==◌ came silent) (eq-eqb (width * length es) 0 (sym long ∙ ap length nil)) ((bytes_eq-Decides came silent).1 header))
              ]))
              ∙ sym (ap (λ (h : Option ℕ). by_header h (are_due entries e at bytes es)) (error ∙ ap Some (cond-false empty cold malformed off)))
        ]

    pub read_over : e.nodes ≤ e.capacity → e.m ≤ 3 → AreBytes bytes → IsSent e (form.relay es)
        → arrives form.relay_in (Some (Set at bytes)) e e (form.relay es) ≡ arrival_over entries e at bytes es
    read_over few rounds b sent =
        parts_law form.relay_in e (delivered_of (Some (Set at bytes)) (frame_by e (form.relay es)))
        ∙ ap (λ (bs : List ℕ). has_of (reading e bs)) (frame_over (sent_all es sent))
        ∙ elim (cases_Bool (pointwise ◌==◌ came (front (length es)))) [
          | inl kept ↦ with_header few rounds b sent kept
          | inr other ↦ without_header few sent other
        ]

pub cells_law : {V : Type 0} (form : ItemForm V) (entries : EntryForm V) (in_range : Sizes → V → Type 0) → AreEntries form entries in_range → CellsLaw form entries
cells_law form entries in_range law e at bytes es few rounds b sent = read_over form entries in_range law e at bytes es few rounds b sent
