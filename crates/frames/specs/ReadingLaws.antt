-- Reading gives exactly what the relation between bytes and contents says, and both are told by the spelling.
use Rattle.std.proofs.Common.{◌≡◌, ℕ, ◌+◌, ◌-◌, ◌*◌, ◌^◌, ◌<◌, ◌≤◌, Bool, true, false, ◌&&◌, ◌||◌, List, [], ◌∷◌, ◌++◌, length, take, drop, replicate, refl, sym, ap, ◌∙◌, arith, subst, inl, inr, Option, Some, None, ◌⊎◌, lit<}
use Rattle.std.specs.Prelude.{◌==◌, nat_lt, nat_le, ℤ, slice_index, if◌then◌else◌}
use Rattle.std.specs.Bool.{Decides}
use Rattle.std.specs.Int.{w32, to_be_bytes, from_be_bytes}
use Rattle.std.specs.List.{list_all, All}
use Rattle.std.specs.Cmp.Lexicographic.{pointwise}
use Rattle.std.proofs.lemmas.Bool.Decides.{nat_tests, Decides-eqb, Decides-ltb, Decides-and, Decides-or, Decides-by_and}
use Rattle.std.proofs.lemmas.Bool.{cases_lt, and_parts, and_from, ne_eqb, leb-true, le-leb, lt-leb}
use Rattle.node_grid.specs.NodeSet.{has_id}
use Rattle.node_grid.specs.Version.{mask_bound}
use Rattle.std.proofs.lemmas.Slice.Eq.{bytes_eq-Decides}
use Rattle.std.proofs.lemmas.List.{length-take, length-drop, take-append-drop, take-take, drop-take}
use Rattle.std.proofs.lemmas.Nat.{mul-le, from_be_bytes-to_be_bytes_4}
use Rattle.node_grid.specs.NumberFacts.{small_power}
use Rattle.omh_paths.specs.Paths.{path_count}
use Rattle.omh_paths.specs.declared.wrapped.Wrapped.{Wrapped}
use Rattle.omh_paths.specs.declared.wrapped.Wrapped.TheVariants.{Plain, Fault}
use Rattle.omh_paths.specs.MemberLaws.{path_count-le}
use Rattle.frames.specs.declared.frame.Head.{Head}
use Rattle.frames.specs.Content.{Expectation, Content, State, Done0, DoneRelay, Data, Report0, ReportRelay, Cold, kind, kind_in, round_in, entries_due, IsClaim, IsRow, IsValue, IsEntry, IsSized}
use Rattle.frames.specs.Spelling.{claim_spelling, relayed_row_spelling, value_spelling, body_spelling, header_spelling, spelling, head_of, IsInRange, IsFrame}
use Rattle.frames.specs.Reading.{content_claim, relayed_row_in, content_value, content_said, fits_claim, fits_row, fits_value, fits_entry, fits_sizes, fits, answer_if, confirmed, reading}
use Rattle.frames.specs.Laws.{ReadsExactly, IsSpeltOnce, ReadsBack, ReadsInRange, HasNoFront, HasNoPrefix, ReadsCold, IsLaidOut, IsShort}
use Rattle.frames.specs.PieceLaws.{read_spelt, length_spelt}
use Rattle.frames.specs.EntryLaws.{claim_format, claim_fits, claim_valid, value_format, value_fits, value_valid, row_back, row_long, relayed_row_format}

-- ---- the header

pub glued : (n m : ℕ) (bytes xs ys : List ℕ) → take n bytes ≡ xs → take m (drop n bytes) ≡ ys → take (n + m) bytes ≡ xs ++ ys
glued n m bytes xs ys h k =
    sym (take-append-drop n (take (n + m) bytes))
    ∙ ap (λ l. l ++ drop n (take (n + m) bytes)) (take-take n (n + m) bytes (omega arith) ∙ h)
    ∙ ap (λ l. xs ++ l) (drop-take n m bytes ∙ k)

-- a header is its fields, one after another
pub header_fields : (head : Head) (k size : ℕ) (bytes : List ℕ) → take 2 bytes ≡ 77 ∷ 70 ∷ [] → take 1 (drop 2 bytes) ≡ head.version ∷ [] → take 1 (drop 3 bytes) ≡ k ∷ []
    → take 4 (drop 4 bytes) ≡ to_be_bytes w32 head.period → take 1 (drop 8 bytes) ≡ head.sender ∷ [] → take 1 (drop 9 bytes) ≡ head.slot ∷ []
    → take 4 (drop 10 bytes) ≡ to_be_bytes w32 size → take 14 bytes ≡ header_spelling head k size
header_fields head k size bytes magic version kind_byte period sender slot length_field =
    let t3 : take 3 bytes ≡ 77 ∷ 70 ∷ head.version ∷ [] = glued 2 1 bytes (77 ∷ 70 ∷ []) (head.version ∷ []) magic version in
    let t4 : take 4 bytes ≡ 77 ∷ 70 ∷ head.version ∷ k ∷ [] = glued 3 1 bytes (77 ∷ 70 ∷ head.version ∷ []) (k ∷ []) t3 kind_byte in
    let t8 : take 8 bytes ≡ 77 ∷ 70 ∷ head.version ∷ k ∷ to_be_bytes w32 head.period = glued 4 4 bytes (77 ∷ 70 ∷ head.version ∷ k ∷ []) (to_be_bytes w32 head.period) t4 period in
    let t9 : take 9 bytes ≡ 77 ∷ 70 ∷ head.version ∷ k ∷ (to_be_bytes w32 head.period ++ (head.sender ∷ [])) = glued 8 1 bytes (77 ∷ 70 ∷ head.version ∷ k ∷ to_be_bytes w32 head.period) (head.sender ∷ []) t8 sender in
    let t10 : take 10 bytes ≡ 77 ∷ 70 ∷ head.version ∷ k ∷ (to_be_bytes w32 head.period ++ (head.sender ∷ head.slot ∷ [])) = glued 9 1 bytes (77 ∷ 70 ∷ head.version ∷ k ∷ (to_be_bytes w32 head.period ++ (head.sender ∷ []))) (head.slot ∷ []) t9 slot in
    glued 10 4 bytes (77 ∷ 70 ∷ head.version ∷ k ∷ (to_be_bytes w32 head.period ++ (head.sender ∷ head.slot ∷ []))) (to_be_bytes w32 size) t10 length_field

pub header_told : (e : Expectation) (c : Content) (bytes : List ℕ) → IsFrame e c bytes → take 14 bytes ≡ header_spelling (head_of e) (kind c) (length bytes - 14)
header_told e c bytes h = header_fields (head_of e) (kind c) (length bytes - 14) bytes h.magic h.version h.kind_byte h.period h.sender h.slot h.length_field

pub body_length : (nodes : ℕ) (head : Head) (c : Content) → length (spelling nodes head c) ≡ 14 + length (body_spelling nodes c)
body_length nodes head c = omega arith

-- a frame is the spelling of what it says
pub spelt : (e : Expectation) (c : Content) (bytes : List ℕ) → IsFrame e c bytes → bytes ≡ spelling e.nodes (head_of e) c
spelt e c bytes h =
    let n : length bytes - 14 ≡ length (body_spelling e.nodes c) = sym (length-drop 14 bytes) ∙ ap length h.body in
    sym (take-append-drop 14 bytes)
    ∙ ap (λ xs. xs ++ drop 14 bytes) (header_told e c bytes h ∙ ap (header_spelling (head_of e) (kind c)) n)
    ∙ ap (λ xs. header_spelling (head_of e) (kind c) (length (body_spelling e.nodes c)) ++ xs) h.body

-- and each spelling in range is a frame
pub is_frame : (e : Expectation) (c : Content) → IsInRange e c → IsFrame e c (spelling e.nodes (head_of e) c)
is_frame e c h = record {
  magic = refl;
  version = refl;
  kind_byte = refl;
  period = refl;
  sender = refl;
  slot = refl;
  length_field = ap (to_be_bytes w32) (omega arith);
  in_range = h;
  body = refl;
}

pub spelt_once : IsSpeltOnce
spelt_once e c bytes = (λ h. (h.in_range, spelt e c bytes h), λ (h : IsInRange e c × (bytes ≡ spelling e.nodes (head_of e) c)). subst (IsFrame e c) (sym h.1) (is_frame e c h.0))

-- ---- in range, as a test

claim_decided : (tasks t : ℕ) → Decides (fits_claim tasks t) (IsClaim tasks t)
claim_decided tasks t = (claim_valid tasks t, claim_fits tasks t)

value_decided : (number : ℤ) → Decides (fits_value number) (IsValue number)
value_decided number = (value_valid number, value_fits number)

le_decided : (a b : ℕ) → Decides (nat_le a b) (a ≤ b)
le_decided a b = (leb-true a b, le-leb a b)

all_decided : {V : Type 0} (test : V → Bool) (P : V → Type 0) → ((v : V) → Decides (test v) (P v)) → (xs : List V) → Decides (list_all test xs) (All P xs)
all_decided test P each xs = Decides-by_and test P (list_all test) each refl (λ _ _. refl) xs

row_decided : (version capacity nodes : ℕ) (masks : List ℕ) → Decides (fits_row version capacity nodes masks) (IsRow version capacity nodes masks)
row_decided version capacity nodes masks =
    let rest : List ℕ = replicate (capacity - nodes) 0 in
    let whole = Decides-eqb (length masks) capacity in
    let within = all_decided (λ (mask : ℕ). nat_lt mask (mask_bound version)) (λ mask. mask < mask_bound version) (λ mask. Decides-ltb mask (mask_bound version)) masks in
    let zeros = bytes_eq-Decides (drop nodes masks) rest in
    let last = Decides-and (list_all (λ mask. nat_lt mask (mask_bound version)) masks) (pointwise ◌==◌ (drop nodes masks) rest) within zeros in
    let later = Decides-and (length masks == capacity) (list_all (λ mask. nat_lt mask (mask_bound version)) masks && pointwise ◌==◌ (drop nodes masks) rest) whole last in
    let all = Decides-and (nat_le nodes capacity) ((length masks == capacity) && (list_all (λ mask. nat_lt mask (mask_bound version)) masks && pointwise ◌==◌ (drop nodes masks) rest)) (le_decided nodes capacity) later in (
      λ h. let x = all.0 h in record { room = x.0; whole = x.1.0; within = x.1.1.0; rest = x.1.1.1 },
      λ (h : IsRow version capacity nodes masks). all.1 (h.room, (h.whole, (h.within, h.rest))),
    )

entry_decided : {V : Type 0} (test : V → Bool) (P : V → Type 0) (r : ℕ) → ((v : V) → Decides (test v) (P v)) → (x : Wrapped V) → Decides (fits_entry test r x) (IsEntry P r x)
entry_decided test P r each (Plain v) = each v
entry_decided test P r each (Fault k) = Decides-and (nat_lt 0 k) (nat_le k r) (Decides-ltb 0 k) (le_decided k r)

pub sized_decided : (e : Expectation) (c : Content) → Decides (fits_sizes e c) (IsSized e c)
sized_decided e (State bytes) = Decides-eqb (length bytes) e.state_len
sized_decided e (Done0 task) = claim_decided e.tasks task
sized_decided e (DoneRelay entries) =
    Decides-and (length entries == entries_due e) (list_all (fits_entry (fits_claim e.tasks) (round_in e.m e.slot)) entries) (Decides-eqb (length entries) (entries_due e))
    (all_decided (fits_entry (fits_claim e.tasks) (round_in e.m e.slot)) (IsEntry (IsClaim e.tasks) (round_in e.m e.slot)) (entry_decided (fits_claim e.tasks) (IsClaim e.tasks) (round_in e.m e.slot) (claim_decided e.tasks)) entries)
sized_decided e (Data numbers) = Decides-and (length numbers == e.due) (list_all fits_value numbers) (Decides-eqb (length numbers) e.due) (all_decided fits_value IsValue value_decided numbers)
sized_decided e (Report0 masks) = row_decided e.version e.capacity e.nodes masks
sized_decided e (ReportRelay entries) =
    Decides-and (length entries == entries_due e) (list_all (fits_entry (fits_row e.version e.capacity e.nodes) (round_in e.m e.slot)) entries) (Decides-eqb (length entries) (entries_due e))
    (all_decided (fits_entry (fits_row e.version e.capacity e.nodes) (round_in e.m e.slot)) (IsEntry (IsRow e.version e.capacity e.nodes) (round_in e.m e.slot)) (entry_decided (fits_row e.version e.capacity e.nodes) (IsRow e.version e.capacity e.nodes) (round_in e.m e.slot) (row_decided e.version e.capacity e.nodes)) entries)
sized_decided e Cold = (λ h. tt, λ h. refl)

abbrev HasPlace : Expectation → Content → Type 0
HasPlace e c = (kind c ≡ kind_in e.m e.slot) ⊎ (kind c ≡ 7)

fits_decided : (e : Expectation) (c : Content) → Decides (fits e c) (HasPlace e c × IsSized e c)
fits_decided e c =
    Decides-and ((kind c == kind_in e.m e.slot) || (kind c == 7)) (fits_sizes e c)
    (Decides-or (kind c == kind_in e.m e.slot) (kind c == 7) (Decides-eqb (kind c) (kind_in e.m e.slot)) (Decides-eqb (kind c) 7))
    (sized_decided e c)

-- ---- what is spelt is what is read off

pub said_spelt : (e : Expectation) (c : Content) → IsSized e c → content_said e (kind c) (body_spelling e.nodes c) ≡ c
said_spelt e (State bytes) h = refl
said_spelt e (Done0 task) h = refl
said_spelt e (DoneRelay entries) h = ap DoneRelay (read_spelt 2 claim_spelling content_claim (IsEntry (IsClaim e.tasks) (round_in e.m e.slot)) (claim_format e.tasks (round_in e.m e.slot)) entries h.1)
said_spelt e (Data numbers) h = ap Data (read_spelt 8 value_spelling content_value IsValue value_format numbers h.1)
said_spelt e (Report0 masks) h = ap Report0 (row_back e.version e.capacity e.nodes masks h)
said_spelt e (ReportRelay entries) h =
    ap ReportRelay (read_spelt (1 + 2 * e.nodes) (relayed_row_spelling e.nodes) (relayed_row_in e.capacity e.nodes) (IsEntry (IsRow e.version e.capacity e.nodes) (round_in e.m e.slot)) (relayed_row_format e.version e.capacity e.nodes (round_in e.m e.slot)) entries h.1)
said_spelt e Cold h = refl

answer_told : (b : Bool) (x c : Content) → answer_if b x ≡ Some c → (b ≡ true) × (x ≡ c)
answer_told true x c h = (refl, cc)
answer_told false x c h = absurd (cc)

answer_given : (b : Bool) (x : Content) → b ≡ true → answer_if b x ≡ Some x
answer_given b x h = ap (λ t. answer_if t x) h

pub reads_back : ReadsBack
unfolding reading
reads_back e c h =
    let bytes : List ℕ = spelling e.nodes (head_of e) c in
    let same : pointwise ◌==◌ (spelling e.nodes (head_of e) c) bytes ≡ true = (bytes_eq-Decides (spelling e.nodes (head_of e) c) bytes).1 refl in
    let short : nat_lt (length bytes) (2 ^ 32 + 14) ≡ true = (Decides-ltb (length bytes) (2 ^ 32 + 14)).1 (omega (arith, h.short)) in
    let inside : fits e c ≡ true = (fits_decided e c).1 (h.placed, h.sized) in
    ap (confirmed e bytes) (said_spelt e c h.sized)
    ∙ answer_given (fits e c && (nat_lt (length bytes) (2 ^ 32 + 14) && pointwise ◌==◌ (spelling e.nodes (head_of e) c) bytes)) c
    (and_from (fits e c) (nat_lt (length bytes) (2 ^ 32 + 14) && pointwise ◌==◌ (spelling e.nodes (head_of e) c) bytes) inside (and_from (nat_lt (length bytes) (2 ^ 32 + 14)) (pointwise ◌==◌ (spelling e.nodes (head_of e) c) bytes) short same))

pub reads_only : (e : Expectation) (c : Content) (bytes : List ℕ) → reading e bytes ≡ Some c → IsInRange e c × (bytes ≡ spelling e.nodes (head_of e) c)
unfolding reading
reads_only e c bytes h =
    let x : Content = content_said e (slice_index bytes 3) (drop 14 bytes) in
    let t : Bool = nat_lt (length bytes) (2 ^ 32 + 14) && pointwise ◌==◌ (spelling e.nodes (head_of e) x) bytes in
    let told = answer_told (fits e x && t) x c h in
    let inside = (fits_decided e x).0 (and_parts (fits e x) t told.0).0 in
    let rest : t ≡ true = (and_parts (fits e x) t told.0).1 in
    let short : length bytes < 2 ^ 32 + 14 = (Decides-ltb (length bytes) (2 ^ 32 + 14)).0 (and_parts (nat_lt (length bytes) (2 ^ 32 + 14)) (pointwise ◌==◌ (spelling e.nodes (head_of e) x) bytes) rest).0 in
    let same : spelling e.nodes (head_of e) x ≡ bytes = (bytes_eq-Decides (spelling e.nodes (head_of e) x) bytes).0 (and_parts (nat_lt (length bytes) (2 ^ 32 + 14)) (pointwise ◌==◌ (spelling e.nodes (head_of e) x) bytes) rest).1 in
    let n : length (body_spelling e.nodes x) < 2 ^ 32 = omega (arith, ap length same, body_length e.nodes (head_of e) x) in
    let P : Content → Type 0 = λ z. IsInRange e z × (bytes ≡ spelling e.nodes (head_of e) z) in
    subst P told.1 (record { placed = inside.0; sized = inside.1; short = n }, sym same)

pub reads_in_range : ReadsInRange
reads_in_range e c bytes h = (reads_only e c bytes h).0

pub reads_exactly : ReadsExactly
reads_exactly e c bytes = (
  λ h. (spelt_once e c bytes).1 (reads_only e c bytes h),
  λ (h : IsFrame e c bytes). ap (reading e) (spelt e c bytes h) ∙ reads_back e c h.in_range,
)

-- ---- fronts

same_number : (x y : ℕ) → x < 2 ^ 32 → y < 2 ^ 32 → to_be_bytes w32 x ≡ to_be_bytes w32 y → x ≡ y
same_number x y h k e = sym (from_be_bytes-to_be_bytes_4 x h) ∙ ap (from_be_bytes w32) e ∙ from_be_bytes-to_be_bytes_4 y k

not_front : (e d : Expectation) (c x : Content) (n : ℕ) → IsInRange d c → n < length (spelling d.nodes (head_of d) c) → reading e (take n (spelling d.nodes (head_of d) c)) ≡ Some x → ⊥
not_front e d c x n h l r =
    let whole : List ℕ = spelling d.nodes (head_of d) c in
    let only = reads_only e x (take n whole) r in
    let is : take n whole ≡ spelling e.nodes (head_of e) x = only.1 in
    let inside : IsInRange e x = only.0 in
    let size : n ≡ 14 + length (body_spelling e.nodes x) = omega (arith, ap length is, length-take n whole, body_length e.nodes (head_of e) x) in
    let heads : take 14 (spelling e.nodes (head_of e) x) ≡ take 14 whole = ap (take 14) (sym is) ∙ take-take 14 n whole (omega arith) in
    let fields : to_be_bytes w32 (length (body_spelling e.nodes x)) ≡ to_be_bytes w32 (length (body_spelling d.nodes c)) = ap (λ xs. take 4 (drop 10 xs)) heads in
    let same : length (body_spelling e.nodes x) ≡ length (body_spelling d.nodes c) = same_number (length (body_spelling e.nodes x)) (length (body_spelling d.nodes c)) inside.short h.short fields in
    omega (arith, body_length d.nodes (head_of d) c)

pub none_if : (o : Option Content) → ((x : Content) → o ≡ Some x → ⊥) → o ≡ None
none_if None h = refl
none_if (Some x) h = absurd (h x refl)

pub has_no_front : HasNoFront
has_no_front e d c n h l = none_if (reading e (take n (spelling d.nodes (head_of d) c))) (λ x r. not_front e d c x n h l r)

pub has_no_prefix : HasNoPrefix
has_no_prefix e d x c n h k l s =
    let some : reading e (spelling e.nodes (head_of e) x) ≡ Some x = reads_back e x h in
    let none : reading e (take n (spelling d.nodes (head_of d) c)) ≡ None = has_no_front e d c n k l in
    let f : Some x ≡ None = sym some ∙ ap (reading e) s ∙ none in
    cc

-- ---- Cold frames

pub cold_in_range : (e : Expectation) → IsInRange e Cold
cold_in_range e = record { placed = inr refl; sized = tt; short = lit< tt }

pub reads_cold : ReadsCold
reads_cold e d h = ap (λ head. reading e (spelling d.nodes head Cold)) (sym h) ∙ reads_back e Cold (cold_in_range e)

-- ---- lengths

pub round_within : (m slot k : ℕ) → k ≡ kind_in m slot → k < 7 → round_in m slot ≤ m
round_within m slot k h l = elim (cases_lt (2 * m + 3) slot) [
  | inl late ↦ absurd (let e : kind_in m slot ≡ 7 = no_slot m slot late in omega arith)
  | inr early ↦ early_round m slot early
]
  where
    no_slot : (m slot : ℕ) → 2 * m + 3 < slot → kind_in m slot ≡ 7
    no_slot m slot h =
        rw (ne_eqb slot 0 (omega arith), ne_eqb slot 1 (omega arith), lt-leb slot (m + 1) (omega arith), ne_eqb slot (m + 2) (omega arith), ne_eqb slot (m + 3) (omega arith), lt-leb slot (2 * m + 3) h) refl

    early_round : (m slot : ℕ) → slot ≤ 2 * m + 3 → round_in m slot ≤ m
    early_round m slot h = grind (arith, nat_tests)

few_entries : (e : Expectation) (c : Content) → IsLaidOut e → kind c ≡ kind_in e.m e.slot → kind c < 7 → entries_due e ≤ 4096
few_entries e c h k l = chosen (has_id e.members e.sender) (path_count (length e.members - 1) (round_in e.m e.slot)) bound
  where
    chosen : (b : Bool) (n : ℕ) → n ≤ 4096 → (if b then n else 0) ≤ 4096
    chosen true n h = h
    chosen false n h = omega arith

    bound : path_count (length e.members - 1) (round_in e.m e.slot) ≤ 4096
    bound =
        let r : round_in e.m e.slot ≤ e.m = round_within e.m e.slot (kind c) k l in
        omega (arith, path_count-le (length e.members - 1) (round_in e.m e.slot) (omega (arith, h.members)), small_power (round_in e.m e.slot) (omega (arith, h.rounds)))

pub is_short : IsShort
is_short e c h k z = record { placed = inl k; sized = z; short = short c k z }
  where
    short : (c : Content) → kind c ≡ kind_in e.m e.slot → IsSized e c → length (body_spelling e.nodes c) < 2 ^ 32
    short (State bytes) k z = omega (arith, h.state_len)
    short (Done0 task) k z = lit< tt
    short (DoneRelay entries) k z =
        let n : entries_due e ≤ 4096 = few_entries e (DoneRelay entries) h k (lit< tt) in
        let l = length_spelt 2 claim_spelling content_claim (IsEntry (IsClaim e.tasks) (round_in e.m e.slot)) (claim_format e.tasks (round_in e.m e.slot)) entries z.1 in
        omega (arith, z.0)
    short (Data numbers) k z =
        let l = length_spelt 8 value_spelling content_value IsValue value_format numbers z.1 in
        omega (arith, z.0, h.due)
    short (Report0 masks) k z = omega (arith, row_long e.version e.capacity e.nodes masks z, h.nodes)
    short (ReportRelay entries) k z =
        let n : entries_due e ≤ 4096 = few_entries e (ReportRelay entries) h k (lit< tt) in
        let l = length_spelt (1 + 2 * e.nodes) (relayed_row_spelling e.nodes) (relayed_row_in e.capacity e.nodes) (IsEntry (IsRow e.version e.capacity e.nodes) (round_in e.m e.slot)) (relayed_row_format e.version e.capacity e.nodes (round_in e.m e.slot)) entries z.1 in
        let p : (1 + 2 * e.nodes) * length entries ≤ 33 * 4096 = mul-le (1 + 2 * e.nodes) (length entries) 33 4096 (omega (arith, h.nodes)) (omega (arith, z.0)) in
        omega arith
    short Cold k z = lit< tt
