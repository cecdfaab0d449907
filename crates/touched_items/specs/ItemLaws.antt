-- Claims and rows as items.
use Rattle.std.proofs.Common.{ℕ, zero, suc, true, List, [], ◌∷◌, ◌==◌, ◌≡◌, ◌<◌, ◌≤◌, ◌+◌, ◌*◌, length, take, refl, ap, ◌∙◌, inl, inr, arith, lit<, Some, None}
use Rattle.std.specs.Prelude.{◌≢◌, replicate, is_some}
use Rattle.std.specs.Int.{w16, to_be_bytes, byte_at}
use Rattle.std.specs.List.{flat_map}
use Rattle.std.proofs.lemmas.Bool.{eqb-true, leb-true, and_parts}
use Rattle.std.proofs.lemmas.List.{length-take}
use Rattle.std.proofs.lemmas.Option.{same_Some}
use Rattle.node_grid.specs.NumberFacts.{above_zero}
use Rattle.omh_paths.specs.declared.wrapped.Wrapped.{Wrapped}
use Rattle.omh_paths.specs.declared.wrapped.Wrapped.TheVariants.{Plain, Fault}
use Rattle.frames.specs.FrameKinds.{claim_kind, claim_relay_kind, row_kind, row_relay_kind}
use Rattle.frames.specs.Content.{Content, State, Done0, DoneRelay, Data, Report0, ReportRelay, Cold, kind, IsClaim, IsRow, IsEntry}
use Rattle.frames.specs.Spelling.{claim_spelling, row_spelling, relayed_row_spelling}
use Rattle.frames.specs.Reading.{content_claim, relayed_row_in}
use Rattle.frames.specs.Checks.{is_claim_entry, is_row_entry}
use Rattle.frames.specs.PieceLaws.{AreBytes}
use Rattle.frames.specs.EntryLaws.{claim_format, claim_test, claim_valid, relayed_row_format, relayed_row_test, length-masks}
use Rattle.frames.specs.Facts.{rows_kinded, claims_kinded}
use Rattle.protocol.specs.Arrival.{claim_form, row_form, claim_in, claims_in, row_in, rows_in}
use Rattle.protocol.specs.Run.{System, claim_sent, change_at, full_at, so_far, after_sync, after_values, goes_in}
use Rattle.protocol.specs.ViewLaws.{IsValid, before_valid}
use Rattle.protocol.specs.Accepted.{IsAccepted}
use Rattle.safety.proofs.StateLaws.{StateLaws}
use Rattle.safety.proofs.Induction.{state_laws}
use Rattle.safety.proofs.Talks.{FormFits}
use Rattle.safety.proofs.SaidInRange.{claim_in_range, claims_form, rows_form, row_in_range}
use Rattle.safety.proofs.Runs.{valid}
use Rattle.touched_items.specs.Items.{Sizes, sizes_in, talk_of, EntryForm, IsSpelt, AreEntries}
use Rattle.touched_items.specs.Overlaid.{overlaid}
use Rattle.touched_items.specs.OverlaidLaws.{length-overlaid, bytes-overlaid}

-- ---- claims

abbrev pub IsClaimIn : Sizes → ℕ → Type 0
IsClaimIn s task = IsClaim s.tasks task

-- the claim of a node
abbrev pub claim_told : System → ℕ → ℕ → ℕ
claim_told sys p j = claim_sent j (sys.inputs j p) (so_far sys p (goes_in sys p) j (after_sync sys p (goes_in sys p) j)).before

abbrev pub claim_entries : EntryForm ℕ
claim_entries = record {
  kind = claim_relay_kind;
  width = λ nodes. 2;
  spelling = λ nodes. claim_spelling;
  read = λ capacity nodes. content_claim;
  test = λ s r. is_claim_entry s.tasks r;
}

claims_read : (c : Content) (es : List (Wrapped ℕ)) → claims_in c ≡ Some es → c ≡ DoneRelay es
claims_read (State bytes) es h = absurd (cc)
claims_read (Done0 task) es h = absurd (cc)
claims_read (DoneRelay entries) es h = ap DoneRelay (same_Some entries es h)
claims_read (Data numbers) es h = absurd (cc)
claims_read (Report0 masks) es h = absurd (cc)
claims_read (ReportRelay entries) es h = absurd (cc)
claims_read Cold es h = absurd (cc)

claims_by_kind : (c : Content) → is_some (claims_in c) ≡ (kind c == claim_relay_kind)
claims_by_kind (State bytes) = refl
claims_by_kind (Done0 task) = refl
claims_by_kind (DoneRelay entries) = refl
claims_by_kind (Data numbers) = refl
claims_by_kind (Report0 masks) = refl
claims_by_kind (ReportRelay entries) = refl
claims_by_kind Cold = refl

claims_alone : (c : Content) → kind c ≢ claim_kind → kind c ≢ row_kind → claim_in c ≡ None
claims_alone (State bytes) a b = refl
claims_alone (Done0 task) a b = absurd (a refl)
claims_alone (DoneRelay entries) a b = refl
claims_alone (Data numbers) a b = refl
claims_alone (Report0 masks) a b = refl
claims_alone (ReportRelay entries) a b = refl
claims_alone Cold a b = refl

claim_spelt : (tasks r : ℕ) (b : List ℕ) → length b ≡ 2 → is_claim_entry tasks r b ≡ true → IsEntry (IsClaim tasks) r (content_claim b) × (claim_spelling (content_claim b) ≡ b)
claim_spelt tasks r (zero ∷ y ∷ []) l h = (claim_valid tasks y h, refl)
claim_spelt tasks r (suc k ∷ y ∷ []) l h =
    let t = rw (above_zero k) at h in
    let e : y ≡ 0 = eqb-true y 0 (and_parts _ _ t).1 in
    (rw (above_zero k) (omega arith, leb-true (suc k) r (and_parts _ _ t).0), rw (above_zero k, e) refl)
claim_spelt tasks r [] l h = absurd (omega arith)
claim_spelt tasks r (x ∷ []) l h = absurd (omega arith)
claim_spelt tasks r (x ∷ y ∷ z ∷ rest) l h = absurd (omega arith)

pub claims_made_of : AreEntries claim_form claim_entries IsClaimIn
claims_made_of = record {
  kind_is = λ es. refl;
  kind_of = inl refl;
  of_kind = claims_kinded;
  back = λ es. refl;
  of_entries = claims_read;
  by_kind = claims_by_kind;
  alone = claims_alone;
  body = λ nodes es. refl;
  number = λ e es h. h.0;
  ranged = λ e es h. h.1;
  sized = λ e es n all. (n, all);
  format = λ s r. claim_format s.tasks r;
  passes = λ s r x few h. (claim_test s.tasks r).passes x h;
  told = λ s r at bytes from x few low b h t. claim_spelt s.tasks r (overlaid at bytes from (claim_spelling x)) (length-overlaid at bytes from (claim_spelling x) ∙ (claim_format s.tasks r).long x h) t;
  narrow = λ nodes few. omega arith;
  short = λ nodes v few. omega arith;
}

-- ---- rows

abbrev pub IsRowIn : Sizes → List ℕ → Type 0
IsRowIn s masks = IsRow s.version s.capacity s.nodes masks

-- the row of a node
abbrev pub row_told : System → ℕ → ℕ → List ℕ
row_told sys p j = (so_far sys p (goes_in sys p) j (after_values sys p (goes_in sys p) j)).found

abbrev pub row_entries : EntryForm (List ℕ)
row_entries = record {
  kind = row_relay_kind;
  width = λ nodes. 1 + 2 * nodes;
  spelling = relayed_row_spelling;
  read = relayed_row_in;
  test = λ s r. is_row_entry s.version r;
}

rows_read : (c : Content) (es : List (Wrapped (List ℕ))) → rows_in c ≡ Some es → c ≡ ReportRelay es
rows_read (State bytes) es h = absurd (cc)
rows_read (Done0 task) es h = absurd (cc)
rows_read (DoneRelay entries) es h = absurd (cc)
rows_read (Data numbers) es h = absurd (cc)
rows_read (Report0 masks) es h = absurd (cc)
rows_read (ReportRelay entries) es h = ap ReportRelay (same_Some entries es h)
rows_read Cold es h = absurd (cc)

rows_by_kind : (c : Content) → is_some (rows_in c) ≡ (kind c == row_relay_kind)
rows_by_kind (State bytes) = refl
rows_by_kind (Done0 task) = refl
rows_by_kind (DoneRelay entries) = refl
rows_by_kind (Data numbers) = refl
rows_by_kind (Report0 masks) = refl
rows_by_kind (ReportRelay entries) = refl
rows_by_kind Cold = refl

rows_alone : (c : Content) → kind c ≢ claim_kind → kind c ≢ row_kind → row_in c ≡ None
rows_alone (State bytes) a b = refl
rows_alone (Done0 task) a b = refl
rows_alone (DoneRelay entries) a b = refl
rows_alone (Data numbers) a b = refl
rows_alone (Report0 masks) a b = absurd (b refl)
rows_alone (ReportRelay entries) a b = refl
rows_alone Cold a b = refl

one_more : (b : ℕ) (bs : List ℕ) → b < 256 → AreBytes bs → AreBytes (b ∷ bs)
one_more b bs h k zero = h
one_more b bs h k (suc i) = k i

no_bytes : AreBytes []
no_bytes i = lit< tt

zero_bytes : (n : ℕ) → AreBytes (replicate n 0)
zero_bytes zero = no_bytes
zero_bytes (suc n) = one_more 0 (replicate n 0) (lit< tt) (zero_bytes n)

mask_bytes : (masks : List ℕ) → AreBytes (flat_map (to_be_bytes w16) masks)
mask_bytes [] = no_bytes
mask_bytes (x ∷ xs) = one_more (byte_at 1 x) (byte_at 0 x ∷ flat_map (to_be_bytes w16) xs) (omega arith) (one_more (byte_at 0 x) (flat_map (to_be_bytes w16) xs) (omega arith) (mask_bytes xs))

row_bytes : (nodes r : ℕ) (x : Wrapped (List ℕ)) (P : List ℕ → Type 0) → r < 256 → IsEntry P r x → AreBytes (relayed_row_spelling nodes x)
row_bytes nodes r (Plain masks) P low h = one_more 0 (row_spelling nodes masks) (lit< tt) (mask_bytes (take nodes masks))
row_bytes nodes r (Fault k) P low h = one_more k (replicate (2 * nodes) 0) (omega (arith, h.1)) (zero_bytes (2 * nodes))

row_spelt : (s : Sizes) (r : ℕ) → s.nodes ≤ s.capacity → (b : List ℕ) → length b ≡ 1 + 2 * s.nodes → AreBytes b → is_row_entry s.version r b ≡ true → IsSpelt row_entries IsRowIn s r b
row_spelt s r few b l bytes t = let test = relayed_row_test s.version s.capacity s.nodes r few in (test.valid b l bytes t, test.restores b l bytes t)

row_short : (nodes : ℕ) (masks : List ℕ) → nodes ≤ 16 → length (row_spelling nodes masks) ≤ 32
row_short nodes masks few = omega (arith, length-masks (take nodes masks), length-take nodes masks)

pub rows_made_of : AreEntries row_form row_entries IsRowIn
rows_made_of = record {
  kind_is = λ es. refl;
  kind_of = inr refl;
  of_kind = rows_kinded;
  back = λ es. refl;
  of_entries = rows_read;
  by_kind = rows_by_kind;
  alone = rows_alone;
  body = λ nodes es. refl;
  number = λ e es h. h.0;
  ranged = λ e es h. h.1;
  sized = λ e es n all. (n, all);
  format = λ s r. relayed_row_format s.version s.capacity s.nodes r;
  passes = λ s r x few h. (relayed_row_test s.version s.capacity s.nodes r few).passes x h;
  told = λ s r at bytes from x few low b h t. row_spelt s r few (overlaid at bytes from (relayed_row_spelling s.nodes x))
      (length-overlaid at bytes from (relayed_row_spelling s.nodes x) ∙ (relayed_row_format s.version s.capacity s.nodes r).long x h)
      (bytes-overlaid at bytes from (relayed_row_spelling s.nodes x) b (row_bytes s.nodes r x (IsRow s.version s.capacity s.nodes) low h)) t;
  narrow = λ nodes few. omega arith;
  short = row_short;
}

-- ---- in a run

module _ (sys : System) (given : IsAccepted sys) (states : StateLaws sys.setting) (p : ℕ) where
  state_valid : (i : ℕ) → IsValid sys.setting (so_far sys p (goes_in sys p) i (after_sync sys p (goes_in sys p) i)).before
  state_valid i = before_valid sys.setting given.capacity given.config i p (sys.inputs i p) (goes_in sys p i) (after_sync sys p (goes_in sys p) i) (goes_in sys p i).state (valid sys given states p i)

  claims_said : FormFits (IsClaimIn (sizes_in sys)) (talk_of claim_form (λ m. 1) claim_told sys p) sys.setting.config.m
  claims_said =
      claims_form sys given states p (λ i. (so_far sys p (goes_in sys p) i (after_sync sys p (goes_in sys p) i)).before) state_valid (full_at sys p (goes_in sys p)) (λ r. change_at sys p (1 + r))
      (claim_told sys p) (λ j. claim_in_range sys given states j (sys.inputs j p) (so_far sys p (goes_in sys p) j (after_sync sys p (goes_in sys p) j)).before (state_valid j))

  rows_said : FormFits (IsRowIn (sizes_in sys)) (talk_of row_form (λ m. m + 3) row_told sys p) sys.setting.config.m
  rows_said =
      rows_form sys given states p (λ i. (so_far sys p (goes_in sys p) i (after_sync sys p (goes_in sys p) i)).before) state_valid (full_at sys p (goes_in sys p)) (λ r. change_at sys p (sys.setting.config.m + 3 + r))
      (row_told sys p) (λ j. row_in_range sys given states j p (sys.inputs j p) (goes_in sys p j) (after_values sys p (goes_in sys p) j) (goes_in sys p j).state)

pub claims_fit : (sys : System) → IsAccepted sys → (p : ℕ) → FormFits (IsClaimIn (sizes_in sys)) (talk_of claim_form (λ m. 1) claim_told sys p) sys.setting.config.m
claims_fit sys given p = claims_said sys given (state_laws sys.setting given.capacity given.config) p

pub rows_fit : (sys : System) → IsAccepted sys → (p : ℕ) → FormFits (IsRowIn (sizes_in sys)) (talk_of row_form (λ m. m + 3) row_told sys p) sys.setting.config.m
rows_fit sys given p = rows_said sys given (state_laws sys.setting given.capacity given.config) p
