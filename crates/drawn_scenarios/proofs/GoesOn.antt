-- Bouts that are drawn one after another, in a loop.
use Rattle.std.proofs.Common.{◌≡◌, ℕ, suc, ◌+◌, ◌-◌, ◌/◌, ◌<◌, ◌≤◌, List, [], ◌∷◌, ◌++◌, length, refl, sym, ap, ap₂, ◌∙◌, append_assoc, append-nil, arith, subst, false, true}
use Rattle.std.specs.Prelude.{nat_lt, slice_index_or}
use Rattle.std.proofs.lemmas.Bool.{lt-ltb}
use Rattle.rand_pcg.specs.Lcg.{Lcg}
use Rattle.draws.specs.Draws.{Drawing, draw}
use Rattle.drawn_scenarios.specs.declared.choices.FaultClass.{FaultClass}
use Rattle.drawn_scenarios.specs.declared.choices.FaultClass.TheVariants.{Asymmetric}
use Rattle.drawn_scenarios.specs.declared.choices.Choices.{Choices}
use Rattle.drawn_scenarios.specs.declared.bout.Bout.{Bout}
use Rattle.drawn_scenarios.specs.Classes.{classes_of}
use Rattle.drawn_scenarios.specs.Adding.{Draws, AddsBouts}
use Rattle.drawn_scenarios.specs.Bouts.{bout_drawn, well_after, bouts, story, stories}

-- the bouts so far and those that are left to be drawn are those before and all that are drawn
pub record GoesOn (before now : List Bout) (g h : Lcg) (whole left : Drawing (List Bout)) : Type 0 where
  pub all : now ++ (left h).0 ≡ before ++ (whole g).0
  pub rest : (left h).1 ≡ (whole g).1

-- what a drawing answers at g is what another one does at h, behind these bouts
abbrev pub Adds : Drawing (List Bout) → Lcg → List Bout → Drawing (List Bout) → Lcg → Type 0
Adds whole g bs left h = whole g ≡ (bs ++ (left h).0, (left h).1)

pub goes_first : (before now : List Bout) (g h : Lcg) (whole left : Drawing (List Bout)) → now ≡ before → Adds whole g [] left h → GoesOn before now g h whole left
goes_first before now g h whole left e f = record {
  all = ap₂ (λ (xs : List Bout) (p : List Bout × Lcg). xs ++ p.0) e (sym f);
  rest = sym (ap (λ (p : List Bout × Lcg). p.1) f);
}

pub goes_more : (before now after bs : List Bout) (g h i : Lcg) (whole left next : Drawing (List Bout)) → after ≡ now ++ bs → Adds left h bs next i → GoesOn before now g h whole left → GoesOn before after g i whole next
goes_more before now after bs g h i whole left next e f o = record {
  all =
      ap (λ (xs : List Bout). xs ++ (next i).0) e ∙ append_assoc now bs (next i).0
      ∙ ap (λ (p : List Bout × Lcg). now ++ p.0) (sym f) ∙ o.all;
  rest = ap (λ (p : List Bout × Lcg). p.1) (sym f) ∙ o.rest;
}

pub goes_all : (before now : List Bout) (g h : Lcg) (whole left : Drawing (List Bout)) → left h ≡ ([], h) → GoesOn before now g h whole left → AddsBouts before now g h whole
goes_all before now g h whole left f o = record {
  bouts = sym (append-nil now) ∙ ap (λ (p : List Bout × Lcg). now ++ p.0) (sym f) ∙ o.all;
  rest = ap (λ (p : List Bout × Lcg). p.1) (sym f) ∙ o.rest;
}

-- ---- a node's periods

module _ (c : Choices) (j : ℕ) (class : FaultClass) where
  -- the bouts from period p on, of a node that is well again in this period
  abbrev pub from : ℕ → ℕ → ℕ → Drawing (List Bout)
  from p well left = bouts c j class (c.periods - p) p (well - p) left

  pub story_first : (k n left : ℕ) (g h : Lcg) → n ≡ length (classes_of c.classes) → (k, h) ≡ draw n g → class ≡ slice_index_or (classes_of c.classes) k Asymmetric → left ≡ 2048 / c.faulty
      → Adds (story c j) g [] (from 1 1 left) h
  story_first k n left g h count drawn is most =
      let d : (k, h) ≡ draw (length (classes_of c.classes)) g = drawn ∙ ap (λ (m : ℕ). draw m g) count in
      ap (λ (p : ℕ × Lcg). bouts c j (slice_index_or (classes_of c.classes) p.0 Asymmetric) (c.periods - 1) 1 0 (2048 / c.faulty) p.1) (sym d)
      ∙ ap₂ (λ (x : FaultClass) (m : ℕ). bouts c j x (c.periods - 1) 1 0 m h) (sym is) (sym most)

  pub still_off : (p well left : ℕ) (g : Lcg) → p < c.periods → p < well → Adds (from p well left) g [] (from (p + 1) well left) g
  still_off p well left g low off =
      let a : c.periods - p ≡ suc (c.periods - (p + 1)) = omega arith in
      let b : well - p ≡ suc (well - (p + 1)) = omega arith in
      rw (a, b) refl

  pub no_more : (p well : ℕ) (g : Lcg) → p < c.periods → well ≤ p → from p well 0 g ≡ ([], g)
  no_more p well g low on =
      let a : c.periods - p ≡ suc (c.periods - (p + 1)) = omega arith in
      let b : well - p ≡ 0 = omega arith in
      rw (a, b) refl

  pub stays_well : (p well left x : ℕ) (g h : Lcg) → p < c.periods → well ≤ p → 0 < left → (x, h) ≡ draw 65536 g → c.rate ≤ x → Adds (from p well left) g [] (from (p + 1) well left) h
  stays_well p well left x g h low on some drawn high =
      let a : c.periods - p ≡ suc (c.periods - (p + 1)) = omega arith in
      let b : well - p ≡ 0 = omega arith in
      let d : well - (p + 1) ≡ 0 = omega arith in
      let e : left ≡ suc (left - 1) = omega arith in
      let t : nat_lt (draw 65536 g).0 c.rate ≡ false = not_below _ _ (subst (λ (y : ℕ). c.rate ≤ y) (ap (λ (q : ℕ × Lcg). q.0) drawn) high) in
      ap (λ (l : ℕ). from p well l g) e
      ∙ well_step a b t
      ∙ ap₂ (λ (l m : ℕ). ([] ++ (bouts c j class (c.periods - (p + 1)) (p + 1) m l (draw 65536 g).1).0, (bouts c j class (c.periods - (p + 1)) (p + 1) m l (draw 65536 g).1).1)) (sym e) (sym d)
      ∙ ap (λ (q : ℕ × Lcg). ([] ++ (from (p + 1) well left q.1).0, (from (p + 1) well left q.1).1)) (sym drawn)
    where
      not_below : (u v : ℕ) → v ≤ u → nat_lt u v ≡ false
      not_below u v h = grind arith

      well_step : c.periods - p ≡ suc (c.periods - (p + 1)) → well - p ≡ 0 → nat_lt (draw 65536 g).0 c.rate ≡ false
          → from p well (suc (left - 1)) g ≡ bouts c j class (c.periods - (p + 1)) (p + 1) 0 (suc (left - 1)) (draw 65536 g).1
      well_step a b t = rw (a, b, t) refl

  pub falls_ill : (p well left x : ℕ) (b : Bout) (g h i : Lcg) → p < c.periods → well ≤ p → 0 < left → (x, h) ≡ draw 65536 g → x < c.rate → Draws b h i (bout_drawn c j class p)
      → Adds (from p well left) g (b ∷ []) (from (p + 1) (well_after c b) (left - 1)) i
  falls_ill p well left x b g h i low on some drawn below is =
      let e : left ≡ suc (left - 1) = omega arith in
      let t : nat_lt (draw 65536 g).0 c.rate ≡ true = lt-ltb _ _ (subst (λ (y : ℕ). y < c.rate) (ap (λ (q : ℕ × Lcg). q.0) drawn) below) in
      ap (λ (l : ℕ). from p well l g) e
      ∙ ill_step (omega arith) (omega arith) t
      ∙ ap (λ (q : ℕ × Lcg). then_more (bout_drawn c j class p q.1)) (sym drawn)
      ∙ ap then_more (sym is)
    where
      then_more : Bout × Lcg → List Bout × Lcg
      then_more q = (q.0 ∷ (from (p + 1) (well_after c q.0) (left - 1) q.1).0, (from (p + 1) (well_after c q.0) (left - 1) q.1).1)

      ill_step : c.periods - p ≡ suc (c.periods - (p + 1)) → well - p ≡ 0 → nat_lt (draw 65536 g).0 c.rate ≡ true
          → from p well (suc (left - 1)) g ≡ then_more (bout_drawn c j class p (draw 65536 g).1)
      ill_step a b t = rw (a, b, t) refl

-- ---- all nodes

module _ (c : Choices) where
  -- the bouts of the nodes from j on
  abbrev pub onward : ℕ → ℕ → Drawing (List Bout)
  onward j ill = stories c (c.nodes - j) j ill

  pub stays_spared : (j ill n x : ℕ) (g h : Lcg) → j < c.nodes → n ≡ c.nodes - j → (x, h) ≡ draw n g → ill ≤ x → Adds (onward j ill) g [] (onward (j + 1) ill) h
  stays_spared j ill n x g h low count drawn high =
      let a : c.nodes - j ≡ suc (c.nodes - (j + 1)) = omega arith in
      let d : (x, h) ≡ draw (suc (c.nodes - (j + 1))) g = drawn ∙ ap (λ (m : ℕ). draw m g) (count ∙ a) in
      let t : nat_lt (draw (suc (c.nodes - (j + 1))) g).0 ill ≡ false = not_below _ _ (subst (λ (y : ℕ). ill ≤ y) (ap (λ (q : ℕ × Lcg). q.0) d) high) in
      spared_step a t
      ∙ ap (λ (q : ℕ × Lcg). ([] ++ (onward (j + 1) ill q.1).0, (onward (j + 1) ill q.1).1)) (sym d)
    where
      not_below : (u v : ℕ) → v ≤ u → nat_lt u v ≡ false
      not_below u v h = grind arith

      spared_step : c.nodes - j ≡ suc (c.nodes - (j + 1)) → nat_lt (draw (suc (c.nodes - (j + 1))) g).0 ill ≡ false
          → onward j ill g ≡ onward (j + 1) ill (draw (suc (c.nodes - (j + 1))) g).1
      spared_step a t = rw (a, t) refl

  pub is_chosen : (j ill n x : ℕ) (before after : List Bout) (g h i : Lcg) → j < c.nodes → n ≡ c.nodes - j → (x, h) ≡ draw n g → x < ill → AddsBouts before after h i (story c j)
      → Adds (onward j ill) g (story c j h).0 (onward (j + 1) (ill - 1)) i
  is_chosen j ill n x before after g h i low count drawn below adds =
      let a : c.nodes - j ≡ suc (c.nodes - (j + 1)) = omega arith in
      let d : (x, h) ≡ draw (suc (c.nodes - (j + 1))) g = drawn ∙ ap (λ (m : ℕ). draw m g) (count ∙ a) in
      let t : nat_lt (draw (suc (c.nodes - (j + 1))) g).0 ill ≡ true = lt-ltb _ _ (subst (λ (y : ℕ). y < ill) (ap (λ (q : ℕ × Lcg). q.0) d) below) in
      chosen_step a t
      ∙ ap (λ (q : ℕ × Lcg). then_more q.1 (story c j q.1).1) (sym d)
      ∙ ap (then_more h) (sym adds.rest)
    where
      then_more : Lcg → Lcg → List Bout × Lcg
      then_more y z = ((story c j y).0 ++ (onward (j + 1) (ill - 1) z).0, (onward (j + 1) (ill - 1) z).1)

      chosen_step : c.nodes - j ≡ suc (c.nodes - (j + 1)) → nat_lt (draw (suc (c.nodes - (j + 1))) g).0 ill ≡ true
          → onward j ill g ≡ then_more (draw (suc (c.nodes - (j + 1))) g).1 (story c j (draw (suc (c.nodes - (j + 1))) g).1).1
      chosen_step a t = rw (a, t) refl

-- ---- the same under other names

pub goes_at : (before now at : List Bout) (g h x : Lcg) (whole left : Drawing (List Bout)) → at ≡ now → x ≡ h → GoesOn before now g h whole left → GoesOn before at g x whole left
goes_at before now at g h x whole left e f o = record {
  all = ap₂ (λ (xs : List Bout) (y : Lcg). xs ++ (left y).0) e f ∙ o.all;
  rest = ap (λ (y : Lcg). (left y).1) f ∙ o.rest;
}

pub goes_with : (before now : List Bout) (g h : Lcg) (whole : Drawing (List Bout)) (c : Choices) (j : ℕ) (class : FaultClass) (p well other left more : ℕ) → other ≡ well → more ≡ left
    → GoesOn before now g h whole (from c j class p well left) → GoesOn before now g h whole (from c j class p other more)
goes_with before now g h whole c j class p well other left more e f o = rw (e, f) o

pub goes_onward : (before now : List Bout) (g h : Lcg) (whole : Drawing (List Bout)) (c : Choices) (j ill other : ℕ) → other ≡ ill
    → GoesOn before now g h whole (onward c j ill) → GoesOn before now g h whole (onward c j other)
goes_onward before now g h whole c j ill other e o = rw e o

pub none_onward : (c : Choices) (j ill : ℕ) (g : Lcg) → c.nodes ≤ j → onward c j ill g ≡ ([], g)
none_onward c j ill g past = let e : c.nodes - j ≡ 0 = omega arith in rw e refl
