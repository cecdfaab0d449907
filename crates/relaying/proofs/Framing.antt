-- The frame of what the node itself passes on.
use Rattle.std.proofs.Common.{ℕ, zero, suc, ◌≡◌, ◌≢◌, ◌<◌, ◌≤◌, ◌+◌, ◌-◌, ◌*◌, true, false, List, [], ◌∷◌, ◌++◌, length, map, take, get_or, sym, ap, ap₂, subst, ◌∙◌, inl, inr, arith}
use Rattle.std.specs.Prelude.{All}
use Rattle.std.specs.List.{flat_map}
use Rattle.std.proofs.lemmas.Bool.{cases_lt, cond-false}
use Rattle.std.proofs.lemmas.Grind.{flat_map-append}
use Rattle.std.proofs.lemmas.List.{append-nil, drop_all, get_or-map, get_or_past, length-map, length-append, take_more}
use Rattle.std.proofs.lemmas.Nat.{mul-le}
use Rattle.node_grid.specs.NodeSet.{has_id, without_id}
use Rattle.node_grid.specs.Count.{Distinct}
use Rattle.node_grid.specs.ListFacts.{map_map}
use Rattle.omh_paths.specs.declared.wrapped.Wrapped.{Wrapped}
use Rattle.omh_paths.specs.declared.wrapped.Wrapped.TheVariants.{Plain, Fault}
use Rattle.omh_paths.specs.Wrapped.{wrapped}
use Rattle.omh_paths.specs.Paths.{paths_of_length, paths_avoiding, path_count, path_at}
use Rattle.omh_paths.specs.PathLists.{Distinct-without, IsListed-at, length-paths}
use Rattle.omh.specs.Heard.{Hearing, heard_in}
use Rattle.frames.specs.declared.frame.Head.{Head}
use Rattle.frames.specs.Content.{Expectation, Content, IsEntry, kind}
use Rattle.frames.specs.PieceLaws.{IsFormat, length_spelt, pasted_nothing, pasted_twice, length-pasted}
use Rattle.frames.specs.Spelling.{spelling, header_spelling, body_spelling}
use Rattle.frames.specs.Writing.{pasted}
use Rattle.protocol.specs.Arrival.{ItemForm}
use Rattle.protocol.specs.TalkLaws.{paths_of_member}
use Rattle.relay_rules.specs.Relaying.{relays}
use Rattle.relay_rules.specs.Ranged.{HeardIn}
use Rattle.relaying.specs.Items.{IsRelayed}
use Rattle.relaying.specs.Round.{IsRoundOf, CanPut}

-- as no member a node passes on nothing
pub no_entries : {V : Type 0} (h : Hearing V) (r : ℕ) → has_id h.members h.me ≡ false → relays h r ≡ []
no_entries {V} h r off = ap (map (λ p. wrapped (heard_in h.heard p))) (cond-false (has_id h.members h.me) (paths_avoiding h.members (h.me ∷ []) r) [] off)

-- a write over the whole of a buffer
pub pasted_whole : (bytes old : List ℕ) → length old ≡ length bytes → pasted 0 bytes old ≡ bytes
pasted_whole bytes old long = ap (λ (xs : List ℕ). bytes ++ xs) (drop_all (0 + length bytes) old (omega (arith, long))) ∙ append-nil bytes

-- a header and a body that was written behind it are the frame
pub frame_written : (nodes k size : ℕ) (head : Head) (c : Content) (body old front back : List ℕ) → body_spelling nodes c ≡ body → kind c ≡ k → size ≡ length body → length old ≡ size
    → front ≡ header_spelling head k size → back ≡ pasted 0 body old → front ++ back ≡ spelling nodes head c
frame_written nodes k size head c body old front back said kinded long room is behind =
    ap₂ (λ (xs ys : List ℕ). xs ++ ys) is (behind ∙ pasted_whole body old (room ∙ long))
    ∙ ap (λ (n : ℕ). header_spelling head k n ++ body) long
    ∙ sym (ap₂ (λ n (xs : List ℕ). header_spelling head n (length xs) ++ xs) kinded said)

-- ---- what was heard is in range, and so what is passed on

entry_wrapped : {V : Type 0} (P : V → Type 0) (n : ℕ) (w : Wrapped V) → HeardIn P n w → IsEntry P (suc n) (wrapped w)
entry_wrapped P n (Plain v) h = h
entry_wrapped P n (Fault k) h = (omega arith, omega arith)

few_wrapped : {V : Type 0} (P : V → Type 0) (n : ℕ) (w : Wrapped V) → n ≤ 3 → HeardIn P n w → w ≢ Fault 254
few_wrapped P n (Plain v) few h is = absurd (cc)
few_wrapped P n (Fault k) few h is = let e : k ≡ 254 = cc in absurd (omega (arith, e, h, few))

not_254 : {V : Type 0} (w : Wrapped V) → w ≡ Fault 0 → w ≢ Fault 254
not_254 (Plain v) none is = absurd (cc)
not_254 (Fault k) none is = let a : k ≡ 0 = cc in let b : k ≡ 254 = cc in absurd (omega (arith, a, b))

module _ {V : Type 0} {capacity relay_kind : ℕ} {form : ItemForm V} {width : ℕ → ℕ} {spell : ℕ → Wrapped V → List ℕ} {read : List ℕ → Wrapped V} {in_range : Expectation → V → Type 0}
    (laws : IsRelayed capacity relay_kind form width spell read in_range) (h : Hearing V) (r : ℕ) (e : Expectation) (k : IsRoundOf capacity relay_kind in_range r h e) (fits : h.nodes ≤ capacity) (some : 0 < r) (short : r ≤ 3)
    (distinct : Distinct h.members) (on : has_id h.members h.me ≡ true) where
  abbrev others : List ℕ
  others = without_id h.members h.me

  abbrev terms : List (Wrapped V)
  terms = map (heard_in h.heard) (paths_of_length others r)

  apart : Distinct others
  apart = Distinct-without h.members h.me distinct

  terms_long : length terms ≡ path_count (length others) r
  terms_long = length-map (paths_of_length others r) (heard_in h.heard) ∙ length-paths others r apart

  pub own_relays : relays h r ≡ map wrapped terms
  own_relays = ap (map (λ p. wrapped (heard_in h.heard p))) (paths_of_member h.members r h.me on) ∙ sym (map_map (heard_in h.heard) wrapped (paths_of_length others r))

  heard_terms : All (HeardIn (in_range e) (r - 1)) terms
  heard_terms i d low =
      let inside : i < length (paths_of_length others r) = (let l = length-map (paths_of_length others r) (heard_in h.heard) in omega (arith, low, l)) in
      let number : i < path_count (length others) r = (let l = length-paths others r apart in omega (arith, inside, l)) in
      let listed = IsListed-at others r i apart number in
      let p : List ℕ = path_at (paths_of_length others r) i in
      subst (HeardIn (in_range e) (r - 1)) (sym (get_or-map (heard_in h.heard) (paths_of_length others r) i [] d inside))
      (subst (λ (n : ℕ). HeardIn (in_range e) (n - 1) (heard_in h.heard p)) listed.long (k.ranged.each p))

  entries : All (IsEntry (in_range e) r) (map wrapped terms)
  entries i d low =
      let inside : i < length terms = (let l = length-map terms wrapped in omega (arith, low, l)) in
      let one : suc (r - 1) ≡ r = omega (arith, some) in
      subst (IsEntry (in_range e) r) (sym (get_or-map wrapped terms i (Fault 0) d inside))
      (subst (λ (n : ℕ). IsEntry (in_range e) n (wrapped (get_or terms i (Fault 0)))) one (entry_wrapped (in_range e) (r - 1) (get_or terms i (Fault 0)) (heard_terms i (Fault 0) inside)))

  format : IsFormat (width h.nodes) (spell h.nodes) read (IsEntry (in_range e) r)
  format = subst (λ (n : ℕ). IsFormat (width n) (spell n) read (IsEntry (in_range e) r)) k.nodes_are (laws.format e r (let n = k.nodes_are in omega (arith, fits, n)))

  pub own_long : length (flat_map (spell h.nodes) (relays h r)) ≡ width h.nodes * path_count (length others) r
  own_long =
      ap (λ xs. length (flat_map (spell h.nodes) xs)) own_relays
      ∙ length_spelt (width h.nodes) (spell h.nodes) read (IsEntry (in_range e) r) format (map wrapped terms) entries
      ∙ ap (λ (n : ℕ). width h.nodes * n) (length-map terms wrapped ∙ terms_long)

  pub can_put : (size : ℕ) → length (flat_map (spell h.nodes) (relays h r)) ≤ size → CanPut (width h.nodes) (spell h.nodes) terms size
  can_put size room = record {
    few = λ i. elim (cases_lt i (length terms)) [
      | inl low ↦ few_wrapped (in_range e) (r - 1) (get_or terms i (Fault 0)) (omega (arith, short)) (heard_terms i (Fault 0) low)
      | inr past ↦ not_254 (get_or terms i (Fault 0)) (get_or_past terms i (Fault 0) past)
    ];
    wide = λ i low. let l = length-map terms wrapped in
        let w = format.long (get_or (map wrapped terms) i (Fault 0)) (entries i (Fault 0) (omega (arith, low, l))) in
        ap (λ x. length (spell h.nodes x)) (sym (get_or-map wrapped terms i (Fault 0) (Fault 0) low)) ∙ w;
    room = let n : width h.nodes * length terms ≡ width h.nodes * path_count (length others) r = ap (λ (n : ℕ). width h.nodes * n) terms_long in omega (arith, room, own_long, n);
  }

-- ---- terms written one after another

module _ {V : Type 0} (width : ℕ) (spell : Wrapped V → List ℕ) (terms : List (Wrapped V)) (size : ℕ) (can : CanPut width spell terms size) where
  abbrev xs : List (Wrapped V)
  xs = map wrapped terms

  xs_long : length xs ≡ length terms
  xs_long = length-map terms wrapped

  entry_at : (k : ℕ) → k < length terms → get_or xs k (Fault 0) ≡ wrapped (get_or terms k (Fault 0))
  entry_at k low = get_or-map wrapped terms k (Fault 0) (Fault 0) low

  spelt_more : (k : ℕ) → k < length terms → flat_map spell (take (k + 1) xs) ≡ flat_map spell (take k xs) ++ spell (wrapped (get_or terms k (Fault 0)))
  spelt_more k low =
      let l = xs_long in
      ap (flat_map spell) (take_more xs k (Fault 0) (omega (arith, low, l)))
      ∙ flat_map-append spell (take k xs) (get_or xs k (Fault 0) ∷ [])
      ∙ ap (λ (s : List ℕ). flat_map spell (take k xs) ++ s) (append-nil (spell (get_or xs k (Fault 0))) ∙ ap spell (entry_at k low))

  spelt_long : (k : ℕ) → k ≤ length terms → length (flat_map spell (take k xs)) ≡ width * k
  spelt_long zero low = omega arith
  spelt_long (suc k) low =
      let here : k < length terms = omega (arith, low) in
      let one : suc k ≡ k + 1 = omega arith in
      let w = can.wide k here in
      let before = spelt_long k (omega (arith, low)) in
      ap (λ (n : ℕ). length (flat_map spell (take n xs))) one
      ∙ ap length (spelt_more k here)
      ∙ length-append (flat_map spell (take k xs)) (spell (wrapped (get_or terms k (Fault 0))))
      ∙ (let s : length (flat_map spell (take k xs)) + length (spell (wrapped (get_or terms k (Fault 0)))) ≡ width * k + width = ap₂ (λ (a b : ℕ). a + b) before w in s ∙ omega arith)

  entry_room : (k : ℕ) → k < length terms → width * k + width ≤ size
  entry_room k low =
      let all : width * (k + 1) ≤ width * length terms = mul-le width (k + 1) width (length terms) (omega arith) (omega (arith, low)) in
      let room = can.room in
      omega (arith, all, room)

  long_still : (k : ℕ) (old mid : List ℕ) → k ≤ length terms → length old ≡ size → mid ≡ pasted 0 (flat_map spell (take k xs)) old → length mid ≡ size
  long_still k old mid low is written =
      let l = spelt_long k low in
      let fits : width * k ≤ width * length terms = mul-le width k width (length terms) (omega arith) low in
      let room = can.room in
      ap length written ∙ length-pasted 0 (flat_map spell (take k xs)) old (omega (arith, l, fits, room, is)) ∙ is

  pub put_fits : (k : ℕ) (old mid : List ℕ) → k < length terms → length old ≡ size → mid ≡ pasted 0 (flat_map spell (take k xs)) old → width * k + width ≤ length mid
  put_fits k old mid low is written = let l = long_still k old mid (omega (arith, low)) is written in let r = entry_room k low in omega (arith, l, r)

  pub put_more : (k : ℕ) (old mid new : List ℕ) → k < length terms → length old ≡ size → mid ≡ pasted 0 (flat_map spell (take k xs)) old → new ≡ pasted (width * k) (spell (wrapped (get_or terms k (Fault 0)))) mid
      → new ≡ pasted 0 (flat_map spell (take (k + 1) xs)) old
  put_more k old mid new low is before now =
      let front : List ℕ = flat_map spell (take k xs) in
      let entry : List ℕ = spell (wrapped (get_or terms k (Fault 0))) in
      let l : length front ≡ width * k = spelt_long k (omega (arith, low)) in
      let w : length entry ≡ width = can.wide k low in
      let r = entry_room k low in
      now ∙ ap (pasted (width * k) entry) before
      ∙ pasted_twice 0 (width * k) front entry old (omega (arith, l)) (omega (arith, w, r, is))
      ∙ ap (λ (s : List ℕ). pasted 0 s old) (sym (spelt_more k low))

  pub put_none : (old : List ℕ) → old ≡ pasted 0 (flat_map spell (take 0 xs)) old
  put_none old = sym (pasted_nothing 0 old)
