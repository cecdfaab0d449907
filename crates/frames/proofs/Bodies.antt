-- What the tests on bodies say of them, and how a frame is made of its header and its body.
use Rattle.std.proofs.Common.{◌≡◌, ℕ, ◌+◌, ◌*◌, ◌/◌, ◌%◌, ◌^◌, ◌<◌, ◌≤◌, Bool, true, false, ◌&&◌, List, ◌∷◌, ◌++◌, length, take, drop, map, sym, refl, ap, ◌∙◌, arith, subst, get_or, lit<, [], lit≤, eq-eqb, inl, inr}
use Rattle.std.proofs.lemmas.Bool.{and_parts, and_from, eqb-true}
use Rattle.std.specs.Prelude.{◌==◌, Option, Some, None, IsSome, IfSome, IfNone, option_map}
use Rattle.std.specs.Bool.{Decides}
use Rattle.std.proofs.Math.Nat.{mul-mod_right}
use Rattle.std.specs.List.{list_all, All, flat_map}
use Rattle.std.proofs.lemmas.List.{length-map, take-append-drop, length-drop, length-take, nil_from_length}
use Rattle.std.proofs.lemmas.Bool.Decides.{Decides-eqb, not_from_Decides}
use Rattle.node_grid.specs.NumberFacts.{times_over}
use Rattle.frames.specs.declared.kind.Kind.{Kind}
use Rattle.frames.specs.declared.kind.Kind.TheVariants as kinds
use Rattle.frames.specs.Seen.{number_of}
use Rattle.frames.specs.FrameKinds.{cold_kind}
use Rattle.frames.specs.Content.{Expectation, Content, State, Done0, DoneRelay, Data, Report0, ReportRelay, Cold, kind, kind_in, round_in, entries_due, IsClaim, IsRow, IsValue, IsEntry}
use Rattle.frames.specs.Spelling.{claim_spelling, relayed_row_spelling, value_spelling, body_spelling, header_spelling, spelling, head_of, IsFrame}
use Rattle.frames.specs.Reading.{pieces_of_width, content_claim, content_claims, fits_claim, content_row, relayed_row_in, content_rows, content_value, content_values, content_said, reading}
use Rattle.frames.specs.Checks.{are_written, is_claim_entry, is_row_entry, is_value, are_masks, has_state, has_claim, has_claims, has_values, has_row, has_rows, IsSaid, IsBody}
use Rattle.frames.specs.PieceLaws.{AreBytes, length-cut, length_spelt, test_spelt, restored, IsFormat, IsTest}
use Rattle.frames.specs.EntryLaws.{claim_fits, claim_valid, claim_format, claim_test, value_format, value_test, row_valid, row_restored, row_long, row_passes, relayed_row_format, relayed_row_test, claims_written, rows_written}
use Rattle.frames.specs.ReadingLaws.{said_spelt, spelt_once, header_told, reads_exactly, none_if, round_within}

-- a body of n entries of one format
entries_said : {V : Type 0} (width : ℕ) (spell : V → List ℕ) (read : List ℕ → V) (P : V → Type 0) (test : List ℕ → Bool) → 0 < width → IsTest width spell read P test
    → (n : ℕ) (bytes : List ℕ) → AreBytes bytes → ((length bytes == width * n) && list_all test (pieces_of_width width bytes)) ≡ true
    → (length (map read (pieces_of_width width bytes)) ≡ n) × All P (map read (pieces_of_width width bytes)) × (bytes ≡ flat_map spell (map read (pieces_of_width width bytes)))
entries_said width spell read P test wide t n bytes b h =
    let l : length bytes ≡ width * n = (Decides-eqb (length bytes) (width * n)).0 (and_parts _ _ h).0 in
    let r = restored width spell read P test wide t n bytes l b (and_parts _ _ h).1 in
    (length-map (pieces_of_width width bytes) read ∙ length-cut width bytes ∙ ap (λ x. x / width) l ∙ times_over width n wide, r.1, sym r.0)

entries_test : {V : Type 0} (width : ℕ) (spell : V → List ℕ) (read : List ℕ → V) (P : V → Type 0) (test : List ℕ → Bool) → IsFormat width spell read P → IsTest width spell read P test
    → (n : ℕ) (bytes : List ℕ) (xs : List V) → length xs ≡ n → All P xs → bytes ≡ flat_map spell xs → ((length bytes == width * n) && list_all test (pieces_of_width width bytes)) ≡ true
entries_test width spell read P test f t n bytes xs l a s =
    let long : length bytes ≡ width * n = ap length s ∙ length_spelt width spell read P f xs a ∙ ap (λ x. width * x) l in
    and_from (length bytes == width * n) (list_all test (pieces_of_width width bytes)) (eq-eqb (length bytes) (width * n) long)
    (ap (λ bs. list_all test (pieces_of_width width bs)) s ∙ test_spelt width spell read P test f t xs a)

pub claims_decided : (e : Expectation) (bytes : List ℕ) → AreBytes bytes → Decides (has_claims e bytes) (IsSaid e (DoneRelay (content_claims bytes)) bytes)
claims_decided e bytes b = (
  λ h. let x = entries_said 2 claim_spelling content_claim (IsEntry (IsClaim e.tasks) (round_in e.m e.slot)) (is_claim_entry e.tasks (round_in e.m e.slot)) (lit< tt) (claim_test e.tasks (round_in e.m e.slot)) (entries_due e) bytes b h in
      record { sized = (x.0, x.1); spelt = x.2 },
  λ (h : IsSaid e (DoneRelay (content_claims bytes)) bytes). entries_test 2 claim_spelling content_claim (IsEntry (IsClaim e.tasks) (round_in e.m e.slot)) (is_claim_entry e.tasks (round_in e.m e.slot)) (claim_format e.tasks (round_in e.m e.slot)) (claim_test e.tasks (round_in e.m e.slot)) (entries_due e) bytes (content_claims bytes) h.sized.0 h.sized.1 h.spelt,
)

pub values_decided : (e : Expectation) (bytes : List ℕ) → AreBytes bytes → Decides (has_values e bytes) (IsSaid e (Data (content_values bytes)) bytes)
values_decided e bytes b = (
  λ h. let x = entries_said 8 value_spelling content_value IsValue is_value (lit< tt) value_test e.due bytes b h in record { sized = (x.0, x.1); spelt = x.2 },
  λ (h : IsSaid e (Data (content_values bytes)) bytes). entries_test 8 value_spelling content_value IsValue is_value value_format value_test e.due bytes (content_values bytes) h.sized.0 h.sized.1 h.spelt,
)

pub rows_decided : (e : Expectation) (bytes : List ℕ) → e.nodes ≤ e.capacity → AreBytes bytes → Decides (has_rows e bytes) (IsSaid e (ReportRelay (content_rows e.capacity e.nodes bytes)) bytes)
rows_decided e bytes few b =
    let r : ℕ = round_in e.m e.slot in
    let format = relayed_row_format e.version e.capacity e.nodes r in
    let test = relayed_row_test e.version e.capacity e.nodes r few in (
      λ h. let x = entries_said (1 + 2 * e.nodes) (relayed_row_spelling e.nodes) (relayed_row_in e.capacity e.nodes) (IsEntry (IsRow e.version e.capacity e.nodes) r) (is_row_entry e.version r) (omega arith) test (entries_due e) bytes b h in
          record { sized = (x.0, x.1); spelt = x.2 },
      λ (h : IsSaid e (ReportRelay (content_rows e.capacity e.nodes bytes)) bytes). entries_test (1 + 2 * e.nodes) (relayed_row_spelling e.nodes) (relayed_row_in e.capacity e.nodes) (IsEntry (IsRow e.version e.capacity e.nodes) r) (is_row_entry e.version r) format test (entries_due e) bytes (content_rows e.capacity e.nodes bytes) h.sized.0 h.sized.1 h.spelt,
    )

pub row_decided : (e : Expectation) (bytes : List ℕ) → e.nodes ≤ e.capacity → AreBytes bytes → Decides (has_row e bytes) (IsSaid e (Report0 (content_row e.capacity e.nodes bytes)) bytes)
row_decided e bytes few b = (
  λ h. let l : length bytes ≡ 2 * e.nodes = (Decides-eqb (length bytes) (2 * e.nodes)).0 (and_parts _ _ h).0 in
      let t : are_masks e.version bytes ≡ true = (and_parts _ _ h).1 in
      record { sized = row_valid e.version e.capacity e.nodes bytes few l b t; spelt = sym (row_restored e.capacity e.nodes bytes l b) },
  λ (h : IsSaid e (Report0 (content_row e.capacity e.nodes bytes)) bytes).
      and_from (length bytes == 2 * e.nodes) (are_masks e.version bytes)
      (eq-eqb (length bytes) (2 * e.nodes) (ap length h.spelt ∙ row_long e.version e.capacity e.nodes (content_row e.capacity e.nodes bytes) h.sized))
      (ap (are_masks e.version) h.spelt ∙ row_passes e.version e.capacity e.nodes (content_row e.capacity e.nodes bytes) h.sized),
)

pub state_decided : (e : Expectation) (bytes : List ℕ) → Decides (has_state e bytes) (IsSaid e (State bytes) bytes)
state_decided e bytes = (
  λ h. record { sized = eqb-true (length bytes) e.state_len h; spelt = refl },
  λ (h : IsSaid e (State bytes) bytes). eq-eqb (length bytes) e.state_len h.sized,
)

one_byte : (bytes : List ℕ) → length bytes ≡ 1 → bytes ≡ get_or bytes 0 0 ∷ []
one_byte [] l = absurd (omega arith)
one_byte (b ∷ bs) l = ap (λ xs. b ∷ xs) (nil_from_length bs (omega arith))

pub claim_decided : (e : Expectation) (bytes : List ℕ) → Decides (has_claim e bytes) (IsSaid e (Done0 (get_or bytes 0 0)) bytes)
claim_decided e bytes = (
  λ h. record { sized = claim_valid e.tasks (get_or bytes 0 0) (and_parts _ _ h).1; spelt = one_byte bytes (eqb-true (length bytes) 1 (and_parts _ _ h).0) },
  λ (h : IsSaid e (Done0 (get_or bytes 0 0)) bytes).
      and_from (length bytes == 1) (fits_claim e.tasks (get_or bytes 0 0)) (eq-eqb (length bytes) 1 (ap length h.spelt))
      (claim_fits e.tasks (get_or bytes 0 0) h.sized),
)

cold_decided : (e : Expectation) (bytes : List ℕ) → Decides (length bytes == 0) (IsSaid e Cold bytes)
cold_decided e bytes = (
  λ h. record { sized = tt; spelt = nil_from_length bytes (eqb-true (length bytes) 0 h) },
  λ (h : IsSaid e Cold bytes). eq-eqb (length bytes) 0 (ap length h.spelt),
)

-- where the candidate of a kind isn't what a body says, nothing is
pub nothing_said : (e : Expectation) (k : ℕ) (bytes : List ℕ) → (IsSaid e (content_said e k bytes) bytes → ⊥) → (c : Content) → IsBody e k c bytes → ⊥
nothing_said e k bytes h c b =
    let same : content_said e k bytes ≡ c = ap (λ n. content_said e n bytes) (sym b.is) ∙ ap (content_said e (kind c)) b.said.spelt ∙ said_spelt e c b.said.sized in
    let P : Content → Type 0 = λ x. IsSaid e x bytes in
    h (subst P (sym same) b.said)

-- the kind of a header, by the kind that has its place
pub kind_told : (k num : ℕ) (p q : Kind) → k ≡ num → num ≡ number_of p → p ≡ q → k ≡ number_of q
kind_told k num p q a b e = a ∙ b ∙ ap number_of e

-- where a test fails that decides of the kind that has its place, nothing is said
pub nothing_told : (e : Expectation) (k num : ℕ) (p q : Kind) (bytes : List ℕ) (x : Content) (test : Bool) → k ≡ num → num ≡ number_of p → p ≡ q → content_said e (number_of q) bytes ≡ x
    → Decides test (IsSaid e x bytes) → test ≡ false → (c : Content) → IsBody e k c bytes → ⊥
nothing_told e k num p q bytes x test a b is candidate decided fails c body =
    let same : content_said e k bytes ≡ x = ap (λ i. content_said e i bytes) (kind_told k num p q a b is) ∙ candidate in
    nothing_said e k bytes (λ said. not_from_Decides test decided fails (subst (λ y. IsSaid e y bytes) same said)) c body

-- a body of the kind that has its place
pub body_told : (e : Expectation) (k num : ℕ) (p q : Kind) (c : Content) (bytes : List ℕ) → k ≡ num → num ≡ number_of p → number_of p ≡ kind_in e.m e.slot → p ≡ q → kind c ≡ number_of q
    → IsSaid e c bytes → IsBody e k c bytes
body_told e k num p q c bytes a b placed is same said = record { is = same ∙ sym (kind_told k num p q a b is); placed = inl (same ∙ sym (ap number_of is) ∙ placed); said = said }

-- nothing but no byte is Cold
pub cold_told : (e : Expectation) (k num : ℕ) (bytes : List ℕ) → k ≡ num → num ≡ cold_kind → (length bytes == 0) ≡ true → IsBody e k Cold bytes
cold_told e k num bytes a b h = record { is = sym (a ∙ b); placed = inr refl; said = (cold_decided e bytes).0 h }

pub nothing_cold : (e : Expectation) (k num : ℕ) (bytes : List ℕ) → k ≡ num → num ≡ cold_kind → (length bytes == 0) ≡ false → (c : Content) → IsBody e k c bytes → ⊥
nothing_cold e k num bytes a b h = nothing_told e k num kinds.Cold kinds.Cold bytes Cold (length bytes == 0) a b refl refl (cold_decided e bytes) h

-- a body is of the kind that has its place, or Cold
pub none_placed : (e : Expectation) (k n num : ℕ) (p : Kind) (bytes : List ℕ) → (k ≡ n → ⊥) → n ≡ cold_kind
    → (k ≡ num → ⊥) → num ≡ number_of p → number_of p ≡ kind_in e.m e.slot → (c : Content) → IsBody e k c bytes → ⊥
none_placed e k n num p bytes a b d f placed c body = elim body.placed [ inl h ↦ d (sym body.is ∙ h ∙ sym placed ∙ sym f) | inr h ↦ a (sym body.is ∙ h ∙ sym b) ]

-- a slot of a relay frame has a round
pub placed_round : (e : Expectation) (p q : Kind) → number_of p ≡ kind_in e.m e.slot → p ≡ q → number_of q < 7 → e.m ≤ 3 → round_in e.m e.slot ≤ 3
placed_round e p q placed is l m = let r = round_within e.m e.slot (number_of q) (sym (ap number_of is) ∙ placed) l in omega (arith, r, m)

pub whole_claims : (e : Expectation) (bytes : List ℕ) → has_claims e bytes ≡ true → length bytes % 2 ≡ 0
whole_claims e bytes h = ap (λ x. x % 2) ((Decides-eqb (length bytes) (2 * entries_due e)).0 (and_parts _ _ h).0) ∙ mul-mod_right 2 (entries_due e)

pub whole_values : (e : Expectation) (bytes : List ℕ) → has_values e bytes ≡ true → length bytes % 8 ≡ 0
whole_values e bytes h = ap (λ x. x % 8) ((Decides-eqb (length bytes) (8 * e.due)).0 (and_parts _ _ h).0) ∙ mul-mod_right 8 e.due

pub whole_row : (e : Expectation) (bytes : List ℕ) → has_row e bytes ≡ true → length bytes ≡ 2 * e.nodes
whole_row e bytes h = (Decides-eqb (length bytes) (2 * e.nodes)).0 (and_parts _ _ h).0

pub whole_rows : (e : Expectation) (bytes : List ℕ) (width : ℕ) → width ≡ 1 + 2 * e.nodes → has_rows e bytes ≡ true → length bytes % width ≡ 0
whole_rows e bytes width w h =
    let l : length bytes ≡ (1 + 2 * e.nodes) * entries_due e = (Decides-eqb (length bytes) ((1 + 2 * e.nodes) * entries_due e)).0 (and_parts _ _ h).0 in
    ap (λ x. x % width) (l ∙ ap (λ x. x * entries_due e) (sym w)) ∙ mul-mod_right width (entries_due e)

-- what is said, by the number of its kind
pub said_as : (e : Expectation) (k n : ℕ) (bytes : List ℕ) → k ≡ n → IsSaid e (content_said e k bytes) bytes → IsSaid e (content_said e n bytes) bytes
said_as e k n bytes is said = subst (λ i. IsSaid e (content_said e i bytes) bytes) is said

-- what holds of the bytes of a body that is said, by its kind
pub claims_known : (e : Expectation) (bytes : List ℕ) → AreBytes bytes → IsSaid e (DoneRelay (content_claims bytes)) bytes → (length bytes % 2 ≡ 0) × (are_written 2 bytes ≡ true)
claims_known e bytes b said =
    let h : has_claims e bytes ≡ true = (claims_decided e bytes b).1 said in
    (whole_claims e bytes h, claims_written e.tasks (round_in e.m e.slot) bytes (and_parts _ _ h).1)

pub values_known : (e : Expectation) (bytes : List ℕ) → AreBytes bytes → IsSaid e (Data (content_values bytes)) bytes → length bytes % 8 ≡ 0
values_known e bytes b said = whole_values e bytes ((values_decided e bytes b).1 said)

pub row_known : (e : Expectation) (bytes : List ℕ) → e.nodes ≤ e.capacity → AreBytes bytes → IsSaid e (Report0 (content_row e.capacity e.nodes bytes)) bytes → length bytes ≡ 2 * e.nodes
row_known e bytes few b said = whole_row e bytes ((row_decided e bytes few b).1 said)

pub rows_known : (e : Expectation) (bytes : List ℕ) (width : ℕ) → width ≡ 1 + 2 * e.nodes → e.nodes ≤ e.capacity → AreBytes bytes → IsSaid e (ReportRelay (content_rows e.capacity e.nodes bytes)) bytes
    → (length bytes % width ≡ 0) × (are_written width bytes ≡ true)
rows_known e bytes width w few b said =
    let h : has_rows e bytes ≡ true = (rows_decided e bytes few b).1 said in
    let P : ℕ → Type 0 = λ n. are_written n bytes ≡ true in
    (whole_rows e bytes width w h, subst P (sym w) (rows_written e.version (1 + 2 * e.nodes) (round_in e.m e.slot) bytes (and_parts _ _ h).1))

-- ---- header and body

pub frame_made : (e : Expectation) (c : Content) (bytes : List ℕ) (k size : ℕ) → take 14 bytes ≡ header_spelling (head_of e) k size → size ≡ length (drop 14 bytes) → size < 2 ^ 32 → IsBody e k c (drop 14 bytes) → IsFrame e c bytes
frame_made e c bytes k size h n short b =
    let long : size ≡ length (body_spelling e.nodes c) = n ∙ ap length b.said.spelt in
    let is : bytes ≡ spelling e.nodes (head_of e) c =
    sym (take-append-drop 14 bytes)
    ∙ ap (λ xs. xs ++ drop 14 bytes) (h ∙ ap (λ x. header_spelling (head_of e) x size) (sym b.is) ∙ ap (header_spelling (head_of e) (kind c)) long)
    ∙ ap (λ xs. header_spelling (head_of e) (kind c) (length (body_spelling e.nodes c)) ++ xs) b.said.spelt in
    (spelt_once e c bytes).1 (record { placed = b.placed; sized = b.said.sized; short = omega arith }, is)

pub frame_header : (e : Expectation) (c : Content) (bytes : List ℕ) → IsFrame e c bytes → take 14 bytes ≡ header_spelling (head_of e) (kind c) (length (drop 14 bytes))
frame_header e c bytes h = header_told e c bytes h ∙ ap (header_spelling (head_of e) (kind c)) (sym (length-drop 14 bytes))

pub frame_kind : (e : Expectation) (c : Content) (bytes : List ℕ) → IsFrame e c bytes → get_or (take 14 bytes) 3 0 ≡ kind c
frame_kind e c bytes h = ap (λ xs. get_or xs 3 0) (frame_header e c bytes h)

pub frame_body : (e : Expectation) (c : Content) (bytes : List ℕ) → IsFrame e c bytes → IsBody e (kind c) c (drop 14 bytes)
frame_body e c bytes h = record { is = refl; placed = h.in_range.placed; said = record { sized = h.in_range.sized; spelt = h.body } }

pub frame_size : (e : Expectation) (c : Content) (bytes : List ℕ) → IsFrame e c bytes → (14 ≤ length bytes) × (length (drop 14 bytes) < 2 ^ 32)
frame_size e c bytes h =
    let l = ap length (frame_header e c bytes h) in
    (omega (arith, length-take 14 bytes), omega (arith, ap length h.body, h.in_range.short))

pub too_short : (e : Expectation) (c : Content) (bytes : List ℕ) → length bytes < 14 → IsFrame e c bytes → ⊥
too_short e c bytes l h = let n = (frame_size e c bytes h).0 in omega (arith, n, l)

-- what the relation says of an answer is what reading says
pub exactly : {F : Type 0} (view : F → Content) (e : Expectation) (bytes : List ℕ) (o : Option F) → IfSome o (λ f. IsFrame e (view f) bytes) → IfNone o ((c : Content) → IsFrame e c bytes → ⊥) → option_map view o ≡ reading e bytes
exactly view e bytes None s n = sym (none_if (reading e bytes) (λ c r. n c ((reads_exactly e c bytes).0 r)))
exactly view e bytes (Some f) s n = sym ((reads_exactly e (view f) bytes).1 s)

-- ---- bytes that are known to be a frame

-- what holds of the kind and the body of a frame
pub record IsKnown (e : Expectation) (bytes : List ℕ) (k : ℕ) : Type 0 where
  pub long : 14 ≤ length bytes
  pub kind_is : get_or (take 14 bytes) 3 0 ≡ k
  pub first : 1 ≤ k
  pub last : k ≤ 7
  pub said : IsSaid e (content_said e k (drop 14 bytes)) (drop 14 bytes)
  pub read : reading e bytes ≡ Some (content_said e k (drop 14 bytes))
  pub framed : IsFrame e (content_said e k (drop 14 bytes)) bytes

kind_first : (c : Content) → 1 ≤ kind c
kind_first (State bytes) = lit≤ tt
kind_first (Done0 task) = lit≤ tt
kind_first (DoneRelay entries) = lit≤ tt
kind_first (Data numbers) = lit≤ tt
kind_first (Report0 masks) = lit≤ tt
kind_first (ReportRelay entries) = lit≤ tt
kind_first Cold = lit≤ tt

kind_last : (c : Content) → kind c ≤ 7
kind_last (State bytes) = lit≤ tt
kind_last (Done0 task) = lit≤ tt
kind_last (DoneRelay entries) = lit≤ tt
kind_last (Data numbers) = lit≤ tt
kind_last (Report0 masks) = lit≤ tt
kind_last (ReportRelay entries) = lit≤ tt
kind_last Cold = lit≤ tt

known_as : (e : Expectation) (bytes : List ℕ) (c : Content) → reading e bytes ≡ Some c → IsKnown e bytes (get_or (take 14 bytes) 3 0)
known_as e bytes c r =
    let f : IsFrame e c bytes = (reads_exactly e c bytes).0 r in
    let k : get_or (take 14 bytes) 3 0 ≡ kind c = frame_kind e c bytes f in
    let same : content_said e (get_or (take 14 bytes) 3 0) (drop 14 bytes) ≡ c =
    ap (λ n. content_said e n (drop 14 bytes)) k ∙ ap (content_said e (kind c)) f.body ∙ said_spelt e c f.in_range.sized in
    let P : Content → Type 0 = λ x. IsSaid e x (drop 14 bytes) in
    let Q : Content → Type 0 = λ x. IsFrame e x bytes in
    record {
      long = (frame_size e c bytes f).0;
      kind_is = refl;
      first = omega (arith, kind_first c);
      last = omega (arith, kind_last c);
      said = subst P (sym same) (frame_body e c bytes f).said;
      read = r ∙ ap Some (sym same);
      framed = subst Q (sym same) f;
    }

pub known : (e : Expectation) (bytes : List ℕ) → IsSome (reading e bytes) → IsKnown e bytes (get_or (take 14 bytes) 3 0)
known e bytes h = of (reading e bytes) refl h
  where
    of : (o : Option Content) → reading e bytes ≡ o → IsSome o → IsKnown e bytes (get_or (take 14 bytes) 3 0)
    of None r h = absurd (let no : false ≡ true = h in cc)
    of (Some c) r h = known_as e bytes c r
