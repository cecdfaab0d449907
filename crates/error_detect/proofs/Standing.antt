-- The entries that were told stand in the room.
use Rattle.std.proofs.Common.{◌≡◌, ℕ, zero, suc, ◌+◌, ◌-◌, ◌*◌, ◌<◌, ◌≤◌, ◌==◌, List, [], ◌∷◌, ◌++◌, length, get_or, take, drop, Option, Some, None, sym, ap, ◌∙◌, subst, arith}
use Rattle.std.specs.Prelude.{if◌then◌else◌}
use Rattle.std.specs.List.{All, flat_map}
use Rattle.std.proofs.Math.Nat.{mul-add, mul-one}
use Rattle.std.proofs.lemmas.List.{get_or-take, get_or-drop, get_or_append_left, get_or-append_right}
use Rattle.std.proofs.lemmas.List.Elements.{All-head, All-tail}
use Rattle.std.proofs.lemmas.Nat.{mul-le}
use Rattle.omh_paths.specs.declared.wrapped.Wrapped.{Wrapped}
use Rattle.omh_paths.specs.declared.wrapped.Wrapped.TheVariants.{Plain, Fault}
use Rattle.frames.specs.Content.{Expectation, Content, State, Done0, DoneRelay, Data, Report0, ReportRelay, Cold, kind, kind_in, round_in, entries_due, IsSized, IsEntry, IsClaim, IsRow}
use Rattle.frames.specs.FrameKinds.{claim_relay_kind}
use Rattle.frames.specs.Spelling.{body_spelling, claim_spelling, relayed_row_spelling}
use Rattle.frames.specs.Reading.{content_said, content_claim, relayed_row_in}
use Rattle.frames.specs.ReadingLaws.{said_spelt}
use Rattle.frames.specs.PieceLaws.{IsFormat, length_spelt}
use Rattle.frames.specs.EntryLaws.{claim_format, relayed_row_format}
use Rattle.error_detect.specs.Finding.{kind_of}
use Rattle.error_detect.specs.Watching.{of_sender, finding_at, told_at}
use Rattle.error_detect.specs.Good.{IsToldWith}
use Rattle.error_detect.specs.GoodLaws.{good_fits}
use Rattle.error_detect.specs.Putting.{HasAt}
use Rattle.error_detect.specs.Entries.{body_begin, entries_begin, entry_width, entries_size, HasEntries, EntriesStand}
use Rattle.error_detect.proofs.Boxes.{some_same}

-- the first byte of each entry is its tag
tag_low : {V : Type 0} → (width r : ℕ) (spell : V → List ℕ) (read : List ℕ → V) (P : V → Type 0) → IsFormat width spell read P → ((x : V) → P x → get_or (spell x) 0 0 ≤ r)
    → (xs : List V) → All P xs → (k : ℕ) → k < length xs → get_or (flat_map spell xs) (width * k) 0 ≤ r
tag_low width r spell read P format low [] all k h = absurd (omega (arith, h))
tag_low width r spell read P format low (x ∷ xs) all zero h =
    let here : P x = All-head P x xs all in
    let wide : 0 < length (spell x) = omega (arith, format.long x here, format.wide) in
    let at : get_or (spell x ++ flat_map spell xs) (width * 0) 0 ≡ get_or (spell x) 0 0 = ap (λ n. get_or (spell x ++ flat_map spell xs) n 0) (omega arith) ∙ get_or_append_left (spell x) (flat_map spell xs) 0 0 wide in
    omega (arith, at, low x here)
tag_low width r spell read P format low (x ∷ xs) all (suc k) h =
    let here : P x = All-head P x xs all in
    let e : width * suc k ≡ width + width * k = omega (arith, mul-add width 1 k, mul-one width) in
    let less : width ≤ width * suc k = omega (arith, e) in
    let back : width * suc k - width ≡ width * k = omega (arith, e) in
    let at : get_or (spell x ++ flat_map spell xs) (width * suc k) 0 ≡ get_or (flat_map spell xs) (width * k) 0 =
    get_or-append_right (spell x) (flat_map spell xs) width (width * suc k) 0 (format.long x here) less ∙ ap (λ n. get_or (flat_map spell xs) n 0) back in
    omega (arith, at, tag_low width r spell read P format low xs (All-tail P x xs all) k (omega (arith, h)))

claim_tag : (tasks r : ℕ) (x : Wrapped ℕ) → IsEntry (IsClaim tasks) r x → get_or (claim_spelling x) 0 0 ≤ r
claim_tag tasks r (Plain t) h = omega arith
claim_tag tasks r (Fault k) h = h.1

row_tag : (version capacity nodes r : ℕ) (x : Wrapped (List ℕ)) → IsEntry (IsRow version capacity nodes) r x → get_or (relayed_row_spelling nodes x) 0 0 ≤ r
row_tag version capacity nodes r (Plain masks) h = omega arith
row_tag version capacity nodes r (Fault k) h = h.1

-- of bytes that stand in a room
byte_at : (room : List ℕ) (at : ℕ) (body : List ℕ) (k : ℕ) → HasAt room at body → k < length body → get_or room (at + k) 0 ≡ get_or body k 0
byte_at room at body k has low =
    sym (get_or-drop at room k 0) ∙ sym (get_or-take (length body) (drop at room) k 0 low) ∙ ap (λ (xs : List ℕ). get_or xs k 0) has.there

-- what is asked of a body with as many entries as are due
module _ (e : Expectation) (room : List ℕ) (at : ℕ) (c : Content) (has : HasAt room at (body_spelling e.nodes c)) (placed : kind c ≡ kind_in e.m e.slot) (sized : IsSized e c) where
  entries_of : (width : ℕ) → 0 < width → entry_width e ≡ width → length (body_spelling e.nodes c) ≡ width * entries_due e
      → ((k : ℕ) → k < entries_due e → get_or (body_spelling e.nodes c) (width * k) 0 ≤ round_in e.m e.slot) → HasEntries e room at (Some c)
  entries_of width some wide long low =
      let size : entries_size e ≡ length (body_spelling e.nodes c) = ap (λ w. w * entries_due e) wide ∙ sym long in
      record {
        within = omega (arith, size, has.within);
        tagged = λ k h.
            (let below : width * k < width * entries_due e = omega (arith, mul-le width (suc k) width (entries_due e) (omega arith) (omega (arith, h)), mul-add width 1 k, mul-one width, some) in
            let there : get_or room (at + width * k) 0 ≡ get_or (body_spelling e.nodes c) (width * k) 0 = byte_at room at (body_spelling e.nodes c) (width * k) has (omega (arith, below, long)) in
            subst (λ (w : ℕ). get_or room (at + w * k) 0 ≤ round_in e.m e.slot) (sym wide) (omega (arith, there, low k h)));
        said =
            ap Some (sym (said_spelt e c sized) ∙ ap (λ k. content_said e k (body_spelling e.nodes c)) placed)
            ∙ ap (λ (xs : List ℕ). Some (content_said e (kind_in e.m e.slot) xs)) (sym has.there ∙ ap (λ n. take n (drop at room)) (sym size));
      }

width_of_kind : (e : Expectation) (k : ℕ) → k ≡ kind_in e.m e.slot → entry_width e ≡ (if k == claim_relay_kind then 2 else 1 + 2 * e.nodes)
width_of_kind e k placed = ap (λ n. if n == claim_relay_kind then 2 else 1 + 2 * e.nodes) (sym placed)

good_entries : (e : Expectation) (room : List ℕ) (at : ℕ) (c : Content) → kind c ≡ kind_in e.m e.slot → IsSized e c → HasAt room at (body_spelling e.nodes c)
    → (b : ℕ) → entries_begin at (Some c) ≡ Some b → (b ≡ at) × HasEntries e room b (Some c)
good_entries e room at (State bytes) placed sized has b is = absurd (cc)
good_entries e room at (Done0 task) placed sized has b is = absurd (cc)
good_entries e room at (DoneRelay es) placed sized has b is =
    let P = IsEntry (IsClaim e.tasks) (round_in e.m e.slot) in
    let format : IsFormat 2 claim_spelling content_claim P = claim_format e.tasks (round_in e.m e.slot) in
    let here : at ≡ b = some_same at b is in
    let long : length (flat_map claim_spelling es) ≡ 2 * entries_due e = length_spelt 2 claim_spelling content_claim P format es sized.1 ∙ ap (λ n. 2 * n) sized.0 in
    let are = entries_of e room at (DoneRelay es) has placed sized 2 format.wide (width_of_kind e claim_relay_kind placed) long
    (λ k h. tag_low 2 (round_in e.m e.slot) claim_spelling content_claim P format (claim_tag e.tasks (round_in e.m e.slot)) es sized.1 k (omega (arith, h, sized.0))) in
    (sym here, subst (λ (n : ℕ). HasEntries e room n (Some (DoneRelay es))) here are)
good_entries e room at (Data numbers) placed sized has b is = absurd (cc)
good_entries e room at (Report0 masks) placed sized has b is = absurd (cc)
good_entries e room at (ReportRelay es) placed sized has b is =
    let w : ℕ = 1 + 2 * e.nodes in
    let P = IsEntry (IsRow e.version e.capacity e.nodes) (round_in e.m e.slot) in
    let format : IsFormat w (relayed_row_spelling e.nodes) (relayed_row_in e.capacity e.nodes) P = relayed_row_format e.version e.capacity e.nodes (round_in e.m e.slot) in
    let here : at ≡ b = some_same at b is in
    let long : length (flat_map (relayed_row_spelling e.nodes) es) ≡ w * entries_due e = length_spelt w (relayed_row_spelling e.nodes) (relayed_row_in e.capacity e.nodes) P format es sized.1 ∙ ap (λ n. w * n) sized.0 in
    let are = entries_of e room at (ReportRelay es) has placed sized w format.wide (width_of_kind e 6 placed) long
    (λ k h. tag_low w (round_in e.m e.slot) (relayed_row_spelling e.nodes) (relayed_row_in e.capacity e.nodes) P format (row_tag e.version e.capacity e.nodes (round_in e.m e.slot)) es sized.1 k (omega (arith, h, sized.0))) in
    (sym here, subst (λ (n : ℕ). HasEntries e room n (Some (ReportRelay es))) here are)
good_entries e room at Cold placed sized has b is = absurd (cc)

pub entries_stand : EntriesStand
entries_stand w e room j at some nodes holds low other is = by_kind (kind_of (finding_at w j)) (good_fits w e j some low other) where
  by_kind : (k : Option ℕ) → IsToldWith (of_sender j e) k (told_at w j) → (at ≡ body_begin w j) × HasEntries (of_sender j e) room at (told_at w j)
  by_kind (Some error) none = let no : None ≡ Some at = sym (ap (entries_begin (body_begin w j)) none) ∙ is in absurd (cc)
  by_kind None good =
      let c : Content = good.0 in
      let told : told_at w j ≡ Some c = good.1 in
      let has : HasAt room (body_begin w j) (body_spelling e.nodes c) = subst (λ (n : ℕ). HasAt room (body_begin w j) (body_spelling n c)) (sym nodes) (holds j c low other told) in
      subst (λ (t : Option Content). (at ≡ body_begin w j) × HasEntries (of_sender j e) room at t) (sym told)
      (good_entries (of_sender j e) room (body_begin w j) c good.2 good.3 has at (sym (ap (entries_begin (body_begin w j)) told) ∙ is))
