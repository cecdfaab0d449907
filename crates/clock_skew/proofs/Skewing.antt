-- How far corrected clocks are apart. Each reading is one of a clock, up to its error, and the clocks are what two receivers have of members.
use Rattle.std.proofs.Common.{ℕ, ◌≡◌, ◌<◌, ◌≤◌, ◌+◌, ◌*◌, ◌/◌, true, List, [], ◌∷◌, length, Option, None, Some, ℤ, pos, ◌+ℤ◌, ◌-ℤ◌, ◌≤ℤ◌, refl, sym, ap, subst, ◌∙◌, inl, inr, arith, IsSome}
use Rattle.std.specs.Prelude.{unwrap_or}
use Rattle.std.specs.Option.{option_map}
use Rattle.std.specs.List.{filter_map, cons_option, AllZip}
use Rattle.std.proofs.lemmas.Int.{ints}
use Rattle.node_grid.specs.declared.class.Class.{Class}
use Rattle.node_grid.specs.declared.class.Class.TheVariants.{N, J, B, S, A}
use Rattle.node_grid.specs.Class.{is_nonfaulty}
use Rattle.node_grid.specs.NodeSet.{has_id}
use Rattle.mme_vote.specs.Vote.{middle_kept, trim_of, distance, AllFromTo, VotesClose}
use Rattle.mme_vote.specs.VoteLaws.{vote_of_some, distance_high, distance_sym, distance_le}
use Rattle.mme_vote.specs.Members.{Received, if_test, good_of, MembersLaw}
use Rattle.mme_vote.specs.Moved.{AtMostAbove, AreReadings, AreNear, MovedLaw}
use Rattle.clock_skew.specs.Correction.{voted}
use Rattle.clock_skew.specs.Skew.{Reads, AreRead, SkewLaw, DriftLaw}
use Rattle.mme_vote.specs.MemberValues.{has_first, has_later, some_nonfaulty, some_value, All-values, good_value}

-- the clock that a reading at a is of: of an asymmetric member what the reading says, of another one what is shown
abbrev clock_by : Class → ℤ → ℤ → ℤ → ℤ
clock_by N a x r = x
clock_by J a x r = x
clock_by B a x r = x
clock_by S a x r = x
clock_by A a x r = r +ℤ a

-- a reading r at a is near a clock
abbrev Near : ℕ → ℤ → ℤ → ℤ → Type 0
Near n a r x = (x ≤ℤ (r +ℤ a +ℤ pos n)) × ((r +ℤ a) ≤ℤ (x +ℤ pos n))

near_shown : (n : ℕ) (a x : ℤ) (u : Option ℤ) (r : ℤ) → Reads n a x u → u ≡ Some r → Near n a r x
near_shown n a x u r h e =
    let same : h.value ≡ r = let i = h.is in cc in
    subst (λ (v : ℤ). Near n a v x) same (h.low, h.high)

near_said : (n : ℕ) (a r : ℤ) → Near n a r (r +ℤ a)
near_said n a r = (omega (arith, ints), omega (arith, ints))

first_near : (n : ℕ) (a b x : ℤ) (c : Class) (u w : Option ℤ) (r : ℤ) → AreRead n a b c x u w → u ≡ Some r → Near n a r (clock_by c a x r)
first_near n a b x N u w r h e = near_shown n a x u r h.0 e
first_near n a b x J u w r h e = let i = h.0 in cc
first_near n a b x B u w r h e = let i = h.0 in cc
first_near n a b x S u w r (inl h) e = let i = h.0 in cc
first_near n a b x S u w r (inr h) e = near_shown n a x u r h.0 e
first_near n a b x A u w r h e = near_said n a r

second_near : (n : ℕ) (a b x : ℤ) (c : Class) (u w : Option ℤ) (r : ℤ) → AreRead n a b c x u w → w ≡ Some r → Near n b r (clock_by c b x r)
second_near n a b x N u w r h e = near_shown n b x w r h.1 e
second_near n a b x J u w r h e = let i = h.1 in cc
second_near n a b x B u w r h e = let i = h.1 in cc
second_near n a b x S u w r (inl h) e = let i = h.1 in cc
second_near n a b x S u w r (inr h) e = near_shown n b x w r h.1 e
second_near n a b x A u w r h e = near_said n b r

-- the clocks of two readers' readings are what two receivers have of members
received : (n : ℕ) (a b x : ℤ) (c : Class) (u w : Option ℤ) → AreRead n a b c x u w → Received c (option_map (clock_by c a x) u) (option_map (clock_by c b x) w)
received n a b x N u w h =
    let p : option_map (clock_by N a x) u ≡ Some x = ap (option_map (clock_by N a x)) h.0.is in
    let q : option_map (clock_by N b x) w ≡ Some x = ap (option_map (clock_by N b x)) h.1.is in
    (subst (λ (o : Option ℤ). IsSome o) (sym p) refl, p ∙ sym q)
received n a b x J u w h = (ap (option_map (clock_by J a x)) h.0, ap (option_map (clock_by J b x)) h.1)
received n a b x B u w h = (ap (option_map (clock_by B a x)) h.0, ap (option_map (clock_by B b x)) h.1)
received n a b x S u w (inl h) = ap (option_map (clock_by S a x)) h.0 ∙ sym (ap (option_map (clock_by S b x)) h.1)
received n a b x S u w (inr h) = ap (option_map (clock_by S a x)) h.0.is ∙ sym (ap (option_map (clock_by S b x)) h.1.is)
received n a b x A u w h = tt

-- ---- readings and clocks, one for one

zip_cons : (P : ℤ → ℤ → Type 0) (g : ℤ → ℤ) (o : Option ℤ) (xs ys : List ℤ) → ((r : ℤ) → o ≡ Some r → P r (g r)) → AllZip P xs ys → AllZip P (cons_option o xs) (cons_option (option_map g o) ys)
zip_cons P g None xs ys h all = all
zip_cons P g (Some r) xs ys h all = (h r refl, all)

zip_back : (P : ℤ → ℤ → Type 0) (g : ℤ → ℤ) (o : Option ℤ) (xs ys : List ℤ) → ((r : ℤ) → o ≡ Some r → P (g r) r) → AllZip P ys xs → AllZip P (cons_option (option_map g o) ys) (cons_option o xs)
zip_back P g None xs ys h all = all
zip_back P g (Some r) xs ys h all = (h r refl, all)

zipped : (P : ℤ → ℤ → Type 0) (f : ℕ → Option ℤ) (g : ℕ → ℤ → ℤ) (ks : List ℕ) → ((k : ℕ) (r : ℤ) → has_id ks k ≡ true → f k ≡ Some r → P r (g k r))
    → AllZip P (filter_map f ks) (filter_map (λ k. option_map (g k) (f k)) ks)
zipped P f g [] h = tt
zipped P f g (k ∷ ks) h = zip_cons P (g k) (f k) _ _ (λ r e. h k r (has_first k ks) e) (zipped P f g ks (λ j r on e. h j r (has_later j k ks on) e))

zipped_back : (P : ℤ → ℤ → Type 0) (f : ℕ → Option ℤ) (g : ℕ → ℤ → ℤ) (ks : List ℕ) → ((k : ℕ) (r : ℤ) → has_id ks k ≡ true → f k ≡ Some r → P (g k r) r)
    → AllZip P (filter_map (λ k. option_map (g k) (f k)) ks) (filter_map f ks)
zipped_back P f g [] h = tt
zipped_back P f g (k ∷ ks) h = zip_back P (g k) (f k) _ _ (λ r e. h k r (has_first k ks) e) (zipped_back P f g ks (λ j r on e. h j r (has_later j k ks on) e))

low_above : (n : ℕ) (a r x : ℤ) → Near n a r x → AtMostAbove (pos n -ℤ a) r x
low_above n a r x h = let i = h.1 in omega (arith, ints)

high_above : (n : ℕ) (a r x : ℤ) → Near n a r x → AtMostAbove (pos n +ℤ a) x r
high_above n a r x h = let i = h.0 in omega (arith, ints)

readings : (n : ℕ) (a : ℤ) (f : ℕ → Option ℤ) (g : ℕ → ℤ → ℤ) (ks : List ℕ) → ((k : ℕ) (r : ℤ) → has_id ks k ≡ true → f k ≡ Some r → Near n a r (g k r))
    → AreReadings n a (filter_map f ks) (filter_map (λ k. option_map (g k) (f k)) ks)
readings n a f g ks h = record {
  low = zipped (AtMostAbove (pos n -ℤ a)) f g ks (λ k r on e. low_above n a r (g k r) (h k r on e));
  high = zipped_back (AtMostAbove (pos n +ℤ a)) f g ks (λ k r on e. high_above n a r (g k r) (h k r on e));
}

-- ---- the laws

nonfaulty_read : (n : ℕ) (a b x : ℤ) (c : Class) (u w : Option ℤ) → AreRead n a b c x u w → c ≡ N → Reads n a x u × Reads n b x w
nonfaulty_read n a b x c u w h e = subst (λ (d : Class). AreRead n a b d x u w) e h

clock_shown : (n : ℕ) (a b x : ℤ) (c : Class) (u w : Option ℤ) → AreRead n a b c x u w → c ≡ N → option_map (clock_by c a x) u ≡ Some x
clock_shown n a b x N u w h e = ap (option_map (clock_by N a x)) h.0.is
clock_shown n a b x J u w h e = cc
clock_shown n a b x B u w h e = cc
clock_shown n a b x S u w h e = cc
clock_shown n a b x A u w h e = cc

clock_shown_too : (n : ℕ) (a b x : ℤ) (c : Class) (u w : Option ℤ) → AreRead n a b c x u w → c ≡ N → option_map (clock_by c b x) w ≡ Some x
clock_shown_too n a b x N u w h e = ap (option_map (clock_by N b x)) h.1.is
clock_shown_too n a b x J u w h e = cc
clock_shown_too n a b x B u w h e = cc
clock_shown_too n a b x S u w h e = cc
clock_shown_too n a b x A u w h e = cc

pub skew_law : MembersLaw → MovedLaw → SkewLaw
skew_law members moved m n class_of shown u w a b low high ks reads within bounds =
    let g : ℕ → ℤ → ℤ = λ k. clock_by (class_of k) a (shown k) in
    let h : ℕ → ℤ → ℤ = λ k. clock_by (class_of k) b (shown k) in
    let xs : ℕ → Option ℤ = λ k. option_map (clock_by (class_of k) a (shown k)) (u k) in
    let ys : ℕ → Option ℤ = λ k. option_map (clock_by (class_of k) b (shown k)) (w k) in
    let close : VotesClose (good_of class_of xs ks) (filter_map xs ks) (filter_map ys ks) m =
    members m class_of xs ys ks (λ k on. received n a b (shown k) (class_of k) (u k) (w k) (reads k on)) within in
    let all : AllFromTo low high (good_of class_of xs ks) =
    All-values (λ x. (low ≤ℤ x) × (x ≤ℤ high)) (λ k. if_test (is_nonfaulty (class_of k)) (xs k)) ks (λ k x on e.
    let v = good_value (class_of k) (xs k) x (shown k) (λ c. clock_shown n a b (shown k) (class_of k) (u k) (w k) (reads k on) c) e in
    subst (λ (y : ℤ). (low ≤ℤ y) × (y ≤ℤ high)) v.1 (bounds k on v.0)) in
    let s = some_nonfaulty class_of ks m within in
    let k : ℕ = s.0 in
    let both = nonfaulty_read n a b (shown k) (class_of k) (u k) (w k) (reads k s.1) s.2 in
    let nx : 0 < length (filter_map xs ks) = some_value xs ks k (shown k) s.1 (clock_shown n a b (shown k) (class_of k) (u k) (w k) (reads k s.1) s.2) in
    let ny : 0 < length (filter_map ys ks) = some_value ys ks k (shown k) s.1 (clock_shown_too n a b (shown k) (class_of k) (u k) (w k) (reads k s.1) s.2) in
    let eu = vote_of_some (filter_map u ks) m (some_value u ks k both.0.value s.1 both.0.is) in
    let ew = vote_of_some (filter_map w ks) m (some_value w ks k both.1.value s.1 both.1.is) in
    let near =
    moved (good_of class_of xs ks) (filter_map xs ks) (filter_map ys ks) (filter_map u ks) (filter_map w ks) m n a b low high _ _ close all nx ny
    (readings n a u g ks (λ j r on e. first_near n a b (shown j) (class_of j) (u j) (w j) r (reads j on) e))
    (readings n b w h ks (λ j r on e. second_near n a b (shown j) (class_of j) (u j) (w j) r (reads j on) e))
    eu ew in
    subst (λ (x : ℤ). AreNear low high n (x +ℤ a) (voted ks m w +ℤ b)) (sym (ap (λ (o : Option ℤ). unwrap_or o (pos 0)) eu))
    (subst (λ (y : ℤ). AreNear low high n (middle_kept (filter_map u ks) (trim_of (length (filter_map u ks)) m) +ℤ a) (y +ℤ b)) (sym (ap (λ (o : Option ℤ). unwrap_or o (pos 0)) ew)) near)

pub drift_law : DriftLaw
drift_law low high n d x y f g near apart =
    let k : ℕ = (distance low high + 1) / 2 in
    drifts x y f g k n d near.halved apart
  where
    up : (x y : ℤ) (k : ℕ) → distance x y ≤ k → (x -ℤ y) ≤ℤ pos k
    up x y k h = let e = distance_high x y in trans (x -ℤ y) (distance x y) k e h where
      trans : (z : ℤ) (j k : ℕ) → z ≤ℤ pos j → j ≤ k → z ≤ℤ pos k
      trans z j k p q = omega (arith, ints)

    down : (x y : ℤ) (k : ℕ) → distance x y ≤ k → (y -ℤ x) ≤ℤ pos k
    down x y k h = up y x k (rw (distance_sym y x) h)

    drifts : (x y f g : ℤ) (k n d : ℕ) → distance x y ≤ k + 2 * n → distance f g ≤ d → distance (x +ℤ f) (y +ℤ g) ≤ k + 2 * n + d
    drifts x y f g k n d p q =
        let a = up x y (k + 2 * n) p in let b = down x y (k + 2 * n) p in let c = up f g d q in let e = down f g d q in
        distance_le (x +ℤ f) (y +ℤ g) (k + 2 * n + d) (omega (arith, ints)) (omega (arith, ints))
