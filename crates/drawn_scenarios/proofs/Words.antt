-- Whatever is drawn, the bouts are as they should be.
use Rattle.std.proofs.Common.{◌≡◌, ℕ, zero, suc, ◌+◌, ◌-◌, ◌*◌, ◌/◌, ◌%◌, ◌^◌, ◌<◌, ◌≤◌, Bool, true, false, cond, ◌==◌, List, [], ◌∷◌, ◌++◌, length, Option, None, Some, pos, refl, sym, subst, ◌∙◌, inl, inr, arith, length-append, suc-mul, eq-eqb}
use Rattle.std.specs.Prelude.{nat_lt, int_lt, neg_ℤ, ◌-ℤ◌, slice_index_or}
use Rattle.std.specs.List.{AllByRecursion}
use Rattle.std.proofs.lemmas.Bool.{and_from, not_from_false, ltb-true, cases_eq, ne_eqb}
use Rattle.std.proofs.lemmas.Int.{ints}
use Rattle.node_grid.specs.ListFacts.{every_append, every_weaker}
use Rattle.rand_pcg.specs.Lcg.{Lcg}
use Rattle.draws.specs.Draws.{Drawing, draw, draw_wide, generator_of}
use Rattle.drawn_scenarios.specs.declared.choices.FaultClass.{FaultClass}
use Rattle.drawn_scenarios.specs.declared.choices.FaultClass.TheVariants.{Benign, Symmetric, Asymmetric}
use Rattle.drawn_scenarios.specs.declared.choices.ClockChoices.{ClockChoices}
use Rattle.drawn_scenarios.specs.declared.choices.Choices.{Choices}
use Rattle.drawn_scenarios.specs.declared.bout.Fault.{Fault}
use Rattle.drawn_scenarios.specs.declared.bout.Fault.TheVariants.{Silent, Late, Twice}
use Rattle.drawn_scenarios.specs.declared.bout.Bout.{Bout}
use Rattle.drawn_scenarios.specs.Choices.{AreClockChoices, AreChoices}
use Rattle.drawn_scenarios.specs.Classes.{classes_of}
use Rattle.drawn_scenarios.specs.Bouts.{channel_count, value_drawn, accusation_drawn, two_values, accusation_to_some, lie_drawn, maybe_lie, maybe_lies, conduct_drawn, bout_of, well_after, bouts, most_bouts, story, stories, drawn_bouts}
use Rattle.drawn_scenarios.proofs.Sets.{sets}
use Rattle.drawn_scenarios.proofs.Every.{either}
use Rattle.drawn_scenarios.proofs.Shape.{IsFault, IsLie, IsMaybeLie, AreMaybeLies, IsSplit, AreSome, IsConduct, IsBout, Comes, Ordered, AreBouts}

draw_below : (k : ℕ) (g : Lcg) → 0 < k → (draw k g).0 < k
unfolding draw
draw_below k g some = omega arith

draw_wide_below : (k : ℕ) (g : Lcg) → 0 < k → (draw_wide k g).0 < k
unfolding draw_wide
draw_wide_below k g some = omega arith

-- ---- lies

lie_between : (x most : ℕ) → x < 2 * most + 1 → most ≤ 2 ^ 40 → IsLie (pos x -ℤ pos most)
lie_between x most low few =
    let a : int_lt (pos x -ℤ pos most) (neg_ℤ (pos (2 ^ 40))) ≡ false = grind (arith, ints) in
    let b : int_lt (pos (2 ^ 40)) (pos x -ℤ pos most) ≡ false = grind (arith, ints) in
    and_from _ _ (not_from_false _ a) (not_from_false _ b)

lie_is : (most : ℕ) (g : Lcg) → most ≤ 2 ^ 40 → IsLie (lie_drawn most g).0
lie_is most g few = lie_between _ most (draw_wide_below (2 * most + 1) g (omega arith)) few

maybe_lie_is : (o : Option ClockChoices) (g : Lcg) → ((k : ClockChoices) → o ≡ Some k → AreClockChoices k) → IsMaybeLie (maybe_lie o g).0
maybe_lie_is None g h = tt
maybe_lie_is (Some k) g h = lie_is k.lie g (h k refl).lie

maybe_lies_are : (o : Option ClockChoices) (g : Lcg) → ((k : ClockChoices) → o ≡ Some k → AreClockChoices k) → AreMaybeLies (maybe_lies o g).0
maybe_lies_are None g h = tt
maybe_lies_are (Some k) g h = (lie_is k.lie g (h k refl).lie, lie_is k.lie (lie_drawn k.lie g).1 (h k refl).lie)

-- ---- what a node does that is ill

disturbance_is : (c : Choices) (a b : Bool) → IsFault c (cond a Silent (cond b Late Twice))
disturbance_is c true b = tt
disturbance_is c false true = tt
disturbance_is c false false = tt

some_channels : (b : Bool) → 0 < cond b 2 1
some_channels true = omega arith
some_channels false = omega arith

few_channels : (b : Bool) (x : ℕ) → x < cond b 2 1 → x < 2
few_channels true x h = h
few_channels false x h = omega arith

other_value : (v more : ℕ) → v < 4001 → more < 4000 → ((v + 1 + more) % 4001 < 4001) × (v ≡ (v + 1 + more) % 4001 → ⊥)
other_value v more low few = (omega arith, λ e. absurd (omega arith))

module _ (c : Choices) (a : AreChoices c) where
  channel_is : (g : Lcg) → (draw (channel_count c) g).0 < 2
  channel_is g = few_channels c.copies _ (draw_below (channel_count c) g (some_channels c.copies))

  value_is : (g : Lcg) → IsFault c (value_drawn c g).0
  value_is g = (channel_is g, draw_below 4001 (draw (channel_count c) g).1 (omega arith))

  accusation_is : (j kinds : ℕ) (g : Lcg) → kinds < 256 → IsFault c (accusation_drawn c j kinds g).0
  accusation_is j kinds g low = (let s = a.some_nodes in omega arith, low)

  falsehood_is : (j : ℕ) (b : Bool) (g : Lcg) → IsFault c (cond b (value_drawn c) (accusation_drawn c j 128) g).0
  falsehood_is j true g = value_is g
  falsehood_is j false g = accusation_is j 128 g (omega arith)

  two_values_are : (g : Lcg) → IsSplit c (two_values c g).0
  two_values_are g =
      let h = (draw (channel_count c) g).1 in
      let o = other_value (draw 4001 h).0 (draw 4000 (draw 4001 h).1).0 (draw_below 4001 h (omega arith)) (draw_below 4000 (draw 4001 h).1 (omega arith)) in
      record { fault = (channel_is g, draw_below 4001 h (omega arith)); rest = (channel_is g, o.0); differs = (refl, o.1) }

  split_is : (j : ℕ) (b d : Bool) (g : Lcg) → IsSplit c (cond b (two_values c) (cond {A = Drawing (Fault × Option Fault)} d (λ (x : Lcg). ((Silent, None), x)) (accusation_to_some c j)) g).0
  split_is j true d g = two_values_are g
  split_is j false true g = record { fault = tt; rest = tt; differs = tt }
  split_is j false false g = record { fault = accusation_is j 129 g (omega arith); rest = tt; differs = tt }

  some_is : (g : Lcg) → AreSome c (1 + (draw (2 ^ (c.nodes - 1) - 2) g).0)
  some_is g =
      let s = sets c.nodes a.some_nodes a.few_nodes in
      let many = s.some in
      let low = draw_below (2 ^ (c.nodes - 1) - 2) g (omega arith) in
      record { some_are = omega arith; not_all = omega arith }

  conduct_is : (j : ℕ) (class : FaultClass) (g : Lcg) → IsConduct c (conduct_drawn c j class g).0
  conduct_is j Benign g = (disturbance_is c ((draw 3 g).0 == 0) ((draw 3 g).0 == 1), tt)
  conduct_is j Symmetric g = (falsehood_is j ((draw 2 g).0 == 0) (draw 2 g).1, maybe_lie_is c.clock _ a.clock)
  conduct_is j Asymmetric g =
      let h = (draw (2 ^ (c.nodes - 1) - 2) g).1 in
      (some_is g, split_is j (nat_lt (draw 4 h).0 2) ((draw 4 h).0 == 2) (draw 4 h).1, maybe_lies_are c.clock _ a.clock)

  -- ---- the bouts of a node

  -- a bout of node j, not before period p
  record IsFrom (j p : ℕ) (b : Bout) : Type 0 where
    node : b.node ≡ j
    late : p ≤ b.first
    is : IsBout c b

  record AreFrom (j p most : ℕ) (bs : List Bout) : Type 0 where
    each : AllByRecursion (IsFrom j p) bs
    ordered : Ordered bs
    few : length bs ≤ most

  none_from : (j p most : ℕ) → AreFrom j p most []
  none_from j p most = record { each = tt; ordered = tt; few = omega arith }

  from_earlier : (j p q most : ℕ) (bs : List Bout) → p ≤ q → AreFrom j q most bs → AreFrom j p most bs
  from_earlier j p q most bs h f = record {
    each = every_weaker (IsFrom j q) (IsFrom j p) (λ b is. record { node = is.node; late = (let l = is.late in omega arith); is = is.is }) bs f.each;
    ordered = f.ordered;
    few = f.few;
  }

  from_fewer : (j p most more : ℕ) (bs : List Bout) → most ≤ more → AreFrom j p most bs → AreFrom j p more bs
  from_fewer j p most more bs h f = record { each = f.each; ordered = f.ordered; few = (let l = f.few in omega arith) }

  well_later : (restart periods last : ℕ) → last < periods → last < cond (restart == 0) periods (last + restart + 1)
  well_later restart periods last h = elim (cases_eq restart 0) [
    | inl e ↦ rw (eq-eqb restart 0 e) h
    | inr ne ↦ rw (ne_eqb restart 0 ne) (omega arith)
  ]

  bout_is : (j p l : ℕ) (class : FaultClass) (g : Lcg) → j < c.nodes → 1 ≤ p → p < c.periods → IsBout c (bout_of c j p l (conduct_drawn c j class g).0)
  bout_is j p l class g low some early = record {
    node = low;
    first = some;
    some = omega arith;
    last = omega arith;
    conduct = conduct_is j class g;
  }

  one_more : (j p most : ℕ) (b : Bout) (bs : List Bout) → b.node ≡ j → p ≤ b.first → IsBout c b → AreFrom j (p + 1 + (well_after c b - (p + 1))) most bs → AreFrom j p (suc most) (b ∷ bs)
  one_more j p most b bs node late is f =
      let well = well_later c.restart c.periods b.last is.last in
      let low : p + 1 ≤ p + 1 + (well_after c b - (p + 1)) = omega arith in
      record {
        each = (record { node = node; late = late; is = is }, (from_earlier j p _ most bs (omega arith) f).each);
        ordered = (
          every_weaker (IsFrom j (p + 1 + (well_after c b - (p + 1)))) (Comes b) (λ x from. inr (node ∙ sym from.node, (let l = from.late in omega arith))) bs f.each,
          f.ordered,
        );
        few = (let l = f.few in omega arith);
      }

  bouts_from : (j : ℕ) (class : FaultClass) → j < c.nodes → (n p off left : ℕ) (g : Lcg) → 1 ≤ p → p + n ≡ c.periods → AreFrom j (p + off) left (bouts c j class n p off left g).0
  bouts_from j class low zero p off left g some end = none_from j (p + off) left
  bouts_from j class low (suc n) p (suc off) left g some end =
      from_earlier j (p + suc off) (p + 1 + off) left _ (omega arith) (bouts_from j class low n (p + 1) off left g (omega arith) (omega arith))
  bouts_from j class low (suc n) p zero zero g some end = none_from j (p + 0) 0
  bouts_from j class low (suc n) p zero (suc left) g some end =
      let h = (draw 65536 g).1 in
      let l = (draw c.length h).0 in
      let i = (draw c.length h).1 in
      let b : Bout = bout_of c j p l (conduct_drawn c j class i).0 in
      either (λ (r : List Bout × Lcg). AreFrom j (p + 0) (suc left) r.0) (nat_lt (draw 65536 g).0 c.rate) _ _ h
      (λ t. from_earlier j (p + 0) p (suc left) _ (omega arith) (one_more j p left b _ refl (omega arith) (bout_is j p l class i low some (omega arith))
      (bouts_from j class low n (p + 1) (well_after c b - (p + 1)) left (conduct_drawn c j class i).1 (omega arith) (omega arith))))
      (λ t. from_earlier j (p + 0) (p + 1 + 0) (suc left) _ (omega arith) (bouts_from j class low n (p + 1) 0 (suc left) h (omega arith) (omega arith)))

  story_from : (j : ℕ) (g : Lcg) → j < c.nodes → AreFrom j 1 (most_bouts c) (story c j g).0
  story_from j g low =
      let some = a.some_periods in
      bouts_from j (slice_index_or (classes_of c.classes) (draw (length (classes_of c.classes)) g).0 Asymmetric) low (c.periods - 1) 1 0 (most_bouts c) (draw (length (classes_of c.classes)) g).1 (omega arith) (omega arith)

  -- ---- the bouts of all nodes

  -- a bout of node j or a later one
  record IsOnward (j : ℕ) (b : Bout) : Type 0 where
    node : j ≤ b.node
    is : IsBout c b

  record AreOnward (j most : ℕ) (bs : List Bout) : Type 0 where
    each : AllByRecursion (IsOnward j) bs
    ordered : Ordered bs
    few : length bs ≤ most

  ordered_append : (j : ℕ) (xs ys : List Bout) → AllByRecursion (IsFrom j 1) xs → AllByRecursion (IsOnward (j + 1)) ys → Ordered xs → Ordered ys → Ordered (xs ++ ys)
  ordered_append j [] ys f o a b = b
  ordered_append j (x ∷ xs) ys f o a b = (
    every_append (Comes x) xs ys a.0 (every_weaker (IsOnward (j + 1)) (Comes x) (λ y on. inl (let e = f.0.node in let l = on.node in omega arith)) ys o),
    ordered_append j xs ys f.1 o a.1 b,
  )

  both : (j ill : ℕ) (xs ys : List Bout) → 0 < ill → AreFrom j 1 (most_bouts c) xs → AreOnward (j + 1) ((ill - 1) * most_bouts c) ys → AreOnward j (ill * most_bouts c) (xs ++ ys)
  both j zero xs ys some f o = absurd (omega arith)
  both j (suc ill) xs ys some f o = record {
    each =
        every_append (IsOnward j) xs ys (every_weaker (IsFrom j 1) (IsOnward j) (λ b is. record { node = (let e = is.node in omega arith); is = is.is }) xs f.each)
        (every_weaker (IsOnward (j + 1)) (IsOnward j) (λ b on. record { node = (let l = on.node in omega arith); is = on.is }) ys o.each);
    ordered = ordered_append j xs ys f.each o.each f.ordered o.ordered;
    few =
        let less : suc ill - 1 ≡ ill = omega arith in
        let x = f.few in
        let y : length ys ≤ ill * most_bouts c = subst (λ (k : ℕ). length ys ≤ k * most_bouts c) less o.few in
        let e = suc-mul ill (most_bouts c) in
        omega (arith, length-append xs ys);
  }

  stories_are : (n j ill : ℕ) (g : Lcg) → j + n ≡ c.nodes → AreOnward j (ill * most_bouts c) (stories c n j ill g).0
  stories_are zero j ill g end = record { each = tt; ordered = tt; few = omega arith }
  stories_are (suc n) j ill g end =
      let h = (draw (suc n) g).1 in
      either (λ (r : List Bout × Lcg). AreOnward j (ill * most_bouts c) r.0) (nat_lt (draw (suc n) g).0 ill) _ _ h
      (λ t. both j ill (story c j h).0 (stories c n (j + 1) (ill - 1) (story c j h).1).0 (let l = ltb-true _ _ t in omega arith) (story_from j h (omega arith)) (stories_are n (j + 1) (ill - 1) (story c j h).1 (omega arith)))
      (λ t. let o = stories_are n (j + 1) ill h (omega arith) in
      record {
        each = every_weaker (IsOnward (j + 1)) (IsOnward j) (λ b on. record { node = (let l = on.node in omega arith); is = on.is }) _ o.each;
        ordered = o.ordered;
        few = o.few;
      })

  few_in_all : (ill : ℕ) → ill * (2048 / ill) ≤ 2048
  few_in_all zero = omega arith
  few_in_all (suc ill) = omega arith

  pub bouts_are : (seed index : ℕ) → AreBouts c (drawn_bouts c seed index)
  unfolding drawn_bouts
  bouts_are seed index =
      let o = stories_are c.nodes 0 c.faulty (generator_of (2 ^ 32 * seed + index)) (omega arith) in
      record {
        each = every_weaker (IsOnward 0) (IsBout c) (λ b on. on.is) _ o.each;
        ordered = o.ordered;
        few = (let l = o.few in let m = few_in_all c.faulty in omega arith);
      }
