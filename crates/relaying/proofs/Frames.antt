-- Where the frames of a relay round stand, and what they say.
use Rattle.std.proofs.Common.{ℕ, ◌≡◌, ◌≢◌, ◌<◌, ◌≤◌, ◌+◌, ◌-◌, ◌*◌, ◌/◌, true, List, [], length, take, drop, map, get_or, refl, sym, ap, ap₂, subst, ◌∙◌, inl, inr, arith, Option, None, Some}
use Rattle.std.specs.Prelude.{All, IsSome, slice_index}
use Rattle.std.specs.List.{flat_map}
use Rattle.std.proofs.lemmas.Bool.{cases_Bool, cond-true, cond-false}
use Rattle.std.proofs.lemmas.List.{get_or-take, get_or-drop, get_or-map}
use Rattle.std.proofs.lemmas.Nat.{mul-le}
use Rattle.std.proofs.Math.Nat.{mul-div_cancel_left}
use Rattle.node_grid.specs.NodeSet.{has_id, without_id}
use Rattle.omh_paths.specs.declared.wrapped.Wrapped.{Wrapped}
use Rattle.omh_paths.specs.declared.wrapped.Wrapped.TheVariants.{Fault}
use Rattle.omh_paths.specs.Paths.{path_count}
use Rattle.omh_paths.specs.PathLists.{has-without-left, has-of-without}
use Rattle.omh.specs.Heard.{Hearing}
use Rattle.frames.specs.Content.{Expectation, Content, IsEntry, IsSized, kind, kind_in, round_in, entries_due}
use Rattle.frames.specs.PieceLaws.{IsFormat, cut_spelt, read_spelt, length_spelt, get_or-cut, get_or-piece}
use Rattle.frames.specs.Reading.{pieces_of_width, piece}
use Rattle.frames.specs.Spelling.{body_spelling}
use Rattle.error_detect.specs.Watching.{Watch, told_at, of_sender, finding_at}
use Rattle.error_detect.specs.Finding.{kind_of}
use Rattle.error_detect.specs.Good.{IsToldWith}
use Rattle.error_detect.specs.GoodLaws.{good_fits}
use Rattle.protocol.specs.Arrival.{ItemForm}
use Rattle.relay_walk.specs.declared.round.Round.{Round}
use Rattle.relay_walk.specs.Walking.{entries_of, IsRound, IsWalk}
use Rattle.error_detect.specs.Putting.{HasAt}
use Rattle.error_detect.specs.Entries.{body_begin, entries_begin, HoldsBodies}
use Rattle.relaying.specs.Items.{IsRelayed}
use Rattle.relaying.specs.Told.{part_told, IsSlotOf, IsRoundHeard, ArePut, entries_of_node}

-- ---- what was told has its sizes

told_with : (e : Expectation) (k : Option ℕ) (o : Option Content) (c : Content) → IsToldWith e k o → o ≡ Some c → (kind c ≡ kind_in e.m e.slot) × IsSized e c
told_with e (Some error) o c h is = absurd (let n : None ≡ Some c = sym h ∙ is in cc)
told_with e None o c h is =
    let same : h.0 ≡ c = (let s : Some h.0 ≡ Some c = sym h.1 ∙ is in cc) in
    (ap kind (sym same) ∙ h.2, subst (IsSized e) same h.3)

told_fits : (w : Watch) (e : Expectation) (q : ℕ) (c : Content) → w.expect ≡ Some e → q < w.nodes → q ≢ w.me → told_at w q ≡ Some c → (kind c ≡ kind_in e.m e.slot) × IsSized (of_sender q e) c
told_fits w e q c is low ne told = told_with (of_sender q e) (kind_of (finding_at w q)) (told_at w q) c (good_fits w e q is low ne) told

-- ---- the bytes of entries

-- entries of one width stand in a room from a place on
module _ {V : Type 0} (width : ℕ) (spell : Wrapped V → List ℕ) (read : List ℕ → Wrapped V) (P : Wrapped V → Type 0) (format : IsFormat width spell read P) (es : List (Wrapped V)) (range : All P es) where
  long : length (flat_map spell es) ≡ width * length es
  long = length_spelt width spell read P format es range

  -- they are read
  pub read_there : (room : List ℕ) (at size : ℕ) → size ≡ width * length es → HasAt room at (flat_map spell es) → map read (pieces_of_width width (take size (drop at room))) ≡ es
  read_there room at size whole has =
      ap (λ (n : ℕ). map read (pieces_of_width width (take n (drop at room)))) (whole ∙ sym long)
      ∙ ap (λ (bytes : List ℕ). map read (pieces_of_width width bytes)) has.there
      ∙ read_spelt width spell read P format es range

  pub ends_within : (room : List ℕ) (at size : ℕ) → size ≡ width * length es → HasAt room at (flat_map spell es) → at + size ≤ length room
  ends_within room at size whole has = let w = has.within in omega (arith, w, long, whole)

  quotient : width * length es / width ≡ length es
  quotient = mul-div_cancel_left (length es) format.wide

  -- the first byte of each is its tag
  pub tag_there : (room : List ℕ) (at j : ℕ) → j < length es → HasAt room at (flat_map spell es) → get_or room (at + width * j) 0 ≡ get_or (spell (get_or es j (Fault 0))) 0 0
  tag_there room at j low has =
      let bytes : List ℕ = flat_map spell es in
      let number : length bytes / width ≡ length es = ap (λ (n : ℕ). n / width) long ∙ quotient in
      let here : piece width bytes j ≡ spell (get_or es j (Fault 0)) =
      sym (get_or-cut width bytes j [] (omega (arith, low, number))) ∙ ap (λ (ps : List (List ℕ)). get_or ps j []) (cut_spelt width spell read P format es range) ∙ get_or-map spell es j (Fault 0) [] low in
      let one : width * (j + 1) ≤ width * length es = mul-le width (j + 1) width (length es) (omega arith) (omega (arith, low)) in
      let wide : 0 < width = format.wide in
      let inside : width * j < length bytes = omega (arith, one, long, wide) in
      sym (get_or-drop at room (width * j) 0)
      ∙ sym (get_or-take (length bytes) (drop at room) (width * j) 0 inside)
      ∙ ap (λ (xs : List ℕ). get_or xs (width * j) 0) has.there
      ∙ ap (λ (n : ℕ). get_or bytes n 0) (omega arith)
      ∙ sym (get_or-piece width bytes j 0 wide)
      ∙ ap (λ (xs : List ℕ). get_or xs 0 0) here

-- ---- the frames of a round

-- so many entries in range were told
record IsToldAs {V : Type 0} (form : ItemForm V) (count : ℕ) (P : Wrapped V → Type 0) (c : Content) : Type 0 where
  es : List (Wrapped V)
  is : c ≡ form.relay es
  count_is : length es ≡ count
  range : All P es

expected_slot : (o : Option Expectation) → IsSome o → (e : Expectation) × (o ≡ Some e)
expected_slot None h = absurd (cc)
expected_slot (Some e) h = (e, refl)

module _ {V : Type 0} {capacity relay_kind : ℕ} {form : ItemForm V} {width : ℕ → ℕ} {spell : ℕ → Wrapped V → List ℕ} {read : List ℕ → Wrapped V} {in_range : Expectation → V → Type 0}
    (laws : IsRelayed capacity relay_kind form width spell read in_range) (h : Hearing V) (w : Watch) (r : ℕ) (few : h.nodes ≤ capacity) (some : 0 < r) (short : r ≤ 3) (heard : IsRoundHeard capacity relay_kind r h w)
    (below : (q : ℕ) → has_id h.members q ≡ true → q < h.nodes) where
  abbrev slot : (e : Expectation) × (w.expect ≡ Some e)
  slot = expected_slot w.expect heard.closed.some_slot

  abbrev e : Expectation
  e = slot.0

  is_slot : IsSlotOf capacity relay_kind r h e
  is_slot = heard.slot some e slot.1

  abbrev others : List ℕ
  others = without_id h.members h.me

  abbrev count : ℕ
  count = path_count (length h.members - 1) r

  abbrev size : ℕ
  size = width h.nodes * count

  -- what is in range of a sender's entries
  abbrev ranged : ℕ → Wrapped V → Type 0
  ranged q = IsEntry (in_range (of_sender q e)) r

  format : (q : ℕ) → IsFormat (width e.nodes) (spell e.nodes) read (ranged q)
  format q = laws.format (of_sender q e) r (let n = is_slot.nodes_are in omega (arith, few, n))

  told_entries : (q : ℕ) (c : Content) → has_id others q ≡ true → told_at w q ≡ Some c → IsToldAs form count (ranged q) c
  told_entries q c on told =
      let low : q < w.nodes = (let b = below q (has-of-without h.members h.me q on) in let n = heard.closed.nodes_are in omega (arith, b, n)) in
      let ne : q ≢ w.me = λ same. (has-without-left h.members h.me q on).0 (same ∙ heard.closed.me_is) in
      let f = told_fits w e q c slot.1 low ne told in
      let k = laws.of_kind c (f.0 ∙ sym is_slot.kind_is) in
      let s = laws.sized (of_sender q e) k.0 is_slot.capacity_is (subst (IsSized (of_sender q e)) k.1 f.1) in
      let member : has_id e.members q ≡ true = ap (λ (ms : List ℕ). has_id ms q) is_slot.members_are ∙ has-of-without h.members h.me q on in
      let due : entries_due (of_sender q e) ≡ count =
      cond-true (has_id e.members q) (path_count (length e.members - 1) (round_in e.m e.slot)) 0 member
      ∙ ap₂ (λ (ms : List ℕ) (n : ℕ). path_count (length ms - 1) n) is_slot.members_are is_slot.round_is in
      record {
        es = k.0;
        is = k.1;
        count_is = s.0 ∙ due;
        range = subst (λ (n : ℕ). All (IsEntry (in_range (of_sender q e)) n) k.0) is_slot.round_is s.1;
      }

  -- where they stand, if they were told
  begins_there : (q : ℕ) (c : Content) → has_id others q ≡ true → told_at w q ≡ Some c → entries_of_node w q ≡ Some (body_begin w q)
  begins_there q c on told =
      let t = told_entries q c on told in
      ap (entries_begin (body_begin w q)) (told ∙ ap Some t.is) ∙ laws.begins (body_begin w q) t.es

  -- their bytes
  stand : (room : List ℕ) (q : ℕ) (c : Content) (on : has_id others q ≡ true) (told : told_at w q ≡ Some c) → HoldsBodies w room → HasAt room (body_begin w q) (flat_map (spell e.nodes) (told_entries q c on told).es)
  stand room q c on told holds =
      let t = told_entries q c on told in
      let nodes : w.nodes ≡ e.nodes = heard.closed.nodes_are ∙ sym is_slot.nodes_are in
      let low : q < w.nodes = (let b = below q (has-of-without h.members h.me q on) in let n = heard.closed.nodes_are in omega (arith, b, n)) in
      let ne : q ≢ w.me = λ same. (has-without-left h.members h.me q on).0 (same ∙ heard.closed.me_is) in
      subst (HasAt room (body_begin w q)) (ap₂ (λ (n : ℕ) (x : Content). body_spelling n x) nodes t.is ∙ laws.body e.nodes t.es) (holds q c low ne told)

  -- a member's frame that came was told
  told_there : (q at : ℕ) → entries_of_node w q ≡ Some at → (c : Content) × (told_at w q ≡ Some c)
  told_there q at is = there (told_at w q) is where
    there : (o : Option Content) → entries_begin (body_begin w q) o ≡ Some at → (c : Content) × (o ≡ Some c)
    there None h = absurd (cc)
    there (Some c) h = (c, refl)

  whole_size : (es : List (Wrapped V)) → length es ≡ count → size ≡ width e.nodes * length es
  whole_size es long = ap₂ (λ (n k : ℕ). width n * k) (sym is_slot.nodes_are) (sym long)

  same_width : width h.nodes ≡ width e.nodes
  same_width = ap width (sym is_slot.nodes_are)

  module _ {N : ℕ} (round : Round N) (put : ArePut w others h.nodes round) (width_is : round.width ≡ width h.nodes) (size_is : round.size ≡ size) where
    -- one that was taken up
    at_begin : (q : ℕ) (c : Content) → has_id round.present q ≡ true → has_id others q ≡ true → told_at w q ≡ Some c → body_begin w q ≡ slice_index round.begins q
    at_begin q c came on told = let s : Some (body_begin w q) ≡ Some (slice_index round.begins q) = sym (begins_there q c on told) ∙ put.begins q came in cc

    within : (q : ℕ) → has_id round.present q ≡ true → slice_index round.begins q + round.size ≤ length round.room.now
    within q came =
        let on : has_id others q ≡ true = put.others_only q came in
        let c = told_there q (slice_index round.begins q) (put.begins q came) in
        let t = told_entries q c.0 on c.1 in
        let f = ends_within (width e.nodes) (spell e.nodes) read (ranged q) (format q) t.es t.range round.room.now (body_begin w q) size (whole_size t.es t.count_is) (stand round.room.now q c.0 on c.1 put.room) in
        let b = at_begin q c.0 came on c.1 in
        omega (arith, f, b, size_is)

    tagged : (q j : ℕ) → has_id round.present q ≡ true → j < count → slice_index round.room.now (slice_index round.begins q + round.width * j) < 254
    tagged q j came low =
        let on : has_id others q ≡ true = put.others_only q came in
        let c = told_there q (slice_index round.begins q) (put.begins q came) in
        let t = told_entries q c.0 on c.1 in
        let inside : j < length t.es = (let n = t.count_is in omega (arith, low, n)) in
        let x : Wrapped V = get_or t.es j (Fault 0) in
        let tag : slice_index (spell e.nodes x) 0 ≤ r = laws.tagged (of_sender q e) r x (t.range j (Fault 0) inside) in
        let there : get_or round.room.now (body_begin w q + width e.nodes * j) 0 ≡ get_or (spell e.nodes x) 0 0 =
        tag_there (width e.nodes) (spell e.nodes) read (ranged q) (format q) t.es t.range round.room.now (body_begin w q) j inside (stand round.room.now q c.0 on c.1 put.room) in
        let place : slice_index round.begins q + round.width * j ≡ body_begin w q + width e.nodes * j =
        ap₂ (λ (a b : ℕ). a + b * j) (sym (at_begin q c.0 came on c.1)) (width_is ∙ same_width) in
        let is : slice_index round.room.now (slice_index round.begins q + round.width * j) ≡ get_or (spell e.nodes x) 0 0 = ap (slice_index round.room.now) place ∙ there in
        omega (arith, is, tag, short)

    is_round : IsRound h.members others r round
    is_round = record {
      wide = let f = (format h.me).wide in omega (arith, f, width_is, same_width);
      whole = size_is ∙ ap (λ (n : ℕ). n * count) (sym width_is);
      within = within;
      tagged = tagged;
      others_only = put.others_only;
    }

    pub walks : IsWalk h.members others r 0 round
    walks = record {
      frames = is_round;
      cursor = λ q came. ap (λ (xs : List ℕ). slice_index xs q) put.next ∙ nothing (slice_index round.begins q) round.width;
    } where
      nothing : (n k : ℕ) → n ≡ n + k * 0
      nothing n k = omega arith

    pub says_told : (q : ℕ) → has_id others q ≡ true → entries_of read round q ≡ part_told form.relay_in (told_at w q)
    says_told q on = elim (cases_Bool (has_id round.present q)) [
      | inl came ↦
          let c = told_there q (slice_index round.begins q) (put.begins q came) in
          let t = told_entries q c.0 on c.1 in
          cond-true (has_id round.present q) (Some (map read (pieces_of_width round.width (take round.size (drop (slice_index round.begins q) round.room.now))))) None came
          ∙ ap₂ (λ (n k : ℕ). Some (map read (pieces_of_width n (take k (drop (slice_index round.begins q) round.room.now))))) (width_is ∙ same_width) size_is
          ∙ ap (λ (at : ℕ). Some (map read (pieces_of_width (width e.nodes) (take size (drop at round.room.now))))) (sym (at_begin q c.0 came on c.1))
          ∙ ap Some (read_there (width e.nodes) (spell e.nodes) read (ranged q) (format q) t.es t.range round.room.now (body_begin w q) size (whole_size t.es t.count_is) (stand round.room.now q c.0 on c.1 put.room))
          ∙ sym (ap (part_told form.relay_in) (c.1 ∙ ap Some t.is) ∙ laws.relayed t.es)
      | inr missing ↦
          cond-false (has_id round.present q) (Some (map read (pieces_of_width round.width (take round.size (drop (slice_index round.begins q) round.room.now))))) None missing
          ∙ sym (silent (told_at w q) refl (put.missing q (below q (has-of-without h.members h.me q on)) on missing))
    ] where
      silent : (o : Option Content) → told_at w q ≡ o → entries_of_node w q ≡ None → part_told form.relay_in o ≡ None
      silent None told none = refl
      silent (Some c) told none = absurd (let s : Some (body_begin w q) ≡ None = sym (begins_there q c on told) ∙ none in cc)
