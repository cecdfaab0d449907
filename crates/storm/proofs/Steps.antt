-- Parts of lines that are drawn one after another.
use Rattle.std.proofs.Common.{◌≡◌, ◌≢◌, ℕ, suc, ◌+◌, ◌-◌, ◌<◌, not, ◌==◌, List, [], ◌∷◌, ◌++◌, map, filter, refl, sym, ap, ap₂, subst, ◌∙◌, append_assoc, append-nil, arith, eq-eqb, true≢false, ℤ, pos, Result, Ok, Err, OnOk}
use Rattle.std.specs.List.{range_with_len}
use Rattle.std.specs.Result.{IsErr}
use Rattle.std.proofs.lemmas.Bool.{ne_eqb}
use Rattle.std.proofs.lemmas.List.{map-append}
use Rattle.rand_pcg.specs.Lcg.{Lcg}
use Rattle.node_grid.specs.NodeSet.{ids_below}
use Rattle.fault_classes.specs.Change.Change.{Drop}
use Rattle.fault_classes.specs.Line.{Line}
use Rattle.scenario.specs.declared.parts.FaultPart.{FaultPart}
use Rattle.scenario.specs.declared.parts.RestartPart.{RestartPart}
use Rattle.scenario.specs.Parts.{FaultParts, RestartParts}
use Rattle.scenario.specs.Seen.{fault_view, restart_view}
use Rattle.storm.specs.declared.spell.Spell.{Spell}
use Rattle.draws.specs.Draws.{Drawing, draw, generator_of}
use Rattle.storm.specs.Storm.{line_in, others, false_value, told_by, lies_drawn, each_drawn, lines_by, block, blocks, storm, lines_of, restart_drawn, restarts_of}
use Rattle.storm.specs.Parts.{fault_of, restart_parts}
use Rattle.storm.specs.Adding.{Adds, AddsBlock}

-- ---- what one node is told, and the first cases of a spell

pub told_none : (s : Spell) (j way : ℕ) (g : Lcg) → way ≡ 0 → told_by s j way g ≡ ([], g)
told_none s j way g e = rw e refl

pub told_nothing : (s : Spell) (j way : ℕ) (g : Lcg) → way ≡ 1 → told_by s j way g ≡ (line_in s (j ∷ []) (5 ∷ []) Drop ∷ [], g)
told_nothing s j way g e = rw e refl

pub told_value : (s : Spell) (j way : ℕ) (g : Lcg) → way ≢ 0 → way ≢ 1 → told_by s j way g ≡ (line_in s (j ∷ []) (4 ∷ []) (false_value (draw 1000 g).0) ∷ [], (draw 1000 g).1)
told_value s j way g a b = rw (ne_eqb way 0 a, ne_eqb way 1 b) refl

pub silent_case : (s : Spell) (case : ℕ) (g : Lcg) → case ≡ 0 → lines_by s case g ≡ (line_in s (others s) (ids_below 8) Drop ∷ [], g)
silent_case s case g e = rw e refl

pub lying_case : (s : Spell) (case : ℕ) (g : Lcg) → case ≡ 1 → lines_by s case g ≡ (line_in s (others s) (4 ∷ []) (false_value (draw 1000 g).0) ∷ [], (draw 1000 g).1)
lying_case s case g e = rw e refl

pub drawn_is : (k x : ℕ) (g h : Lcg) → (x, h) ≡ draw k g → (x ≡ (draw k g).0) × (h ≡ (draw k g).1)
drawn_is k x g h e = (ap (λ (p : ℕ × Lcg). p.0) e, ap (λ (p : ℕ × Lcg). p.1) e)

-- ---- the receivers from i on

abbrev pub left : ℕ → ℕ → List ℕ
left node i = filter (λ k. not (k == node)) (range_with_len i (8 - i))

pub left_itself : (node i : ℕ) → i < 8 → i ≡ node → left node i ≡ left node (i + 1)
left_itself node i low e =
    let more : 8 - i ≡ suc (8 - (i + 1)) = omega arith in
    rw (more, eq-eqb i node e) refl

pub left_other : (node i : ℕ) → i < 8 → i ≢ node → left node i ≡ i ∷ left node (i + 1)
left_other node i low ne =
    let more : 8 - i ≡ suc (8 - (i + 1)) = omega arith in
    rw (more, ne_eqb i node ne) refl

pub more_blocks : (k : ℕ) → k < 64 → 64 - k ≡ suc (64 - (k + 1))
more_blocks k low = omega arith

-- ---- lines more

-- no line more
pub adds_none : (before : List FaultPart) (g : Lcg) (d : Drawing (List Line)) → d g ≡ ([], g) → Adds before before g g d
adds_none before g d drawn = record {
  faults = sym (append-nil (map fault_view before)) ∙ sym (ap (λ (p : List Line × Lcg). map fault_view before ++ map fault_of p.0) drawn);
  rest = sym (ap (λ (p : List Line × Lcg). p.1) drawn);
}

-- one line more
pub adds_one : (before after : List FaultPart) (x : FaultPart) (l : Line) (g h : Lcg) (d : Drawing (List Line))
    → after ≡ before ++ x ∷ [] → fault_view x ≡ fault_of l → d g ≡ (l ∷ [], h) → Adds before after g h d
adds_one before after x l g h d pushed is drawn = record {
  faults =
      ap (map fault_view) pushed ∙ map-append fault_view before (x ∷ []) ∙ ap (λ (y : FaultParts). map fault_view before ++ y ∷ []) is
      ∙ sym (ap (λ (p : List Line × Lcg). map fault_view before ++ map fault_of p.0) drawn);
  rest = sym (ap (λ (p : List Line × Lcg). p.1) drawn);
}

-- one line more, after a draw
pub adds_drawn : (before after : List FaultPart) (x : FaultPart) (l : ℕ → Line) (k v : ℕ) (g h : Lcg) (d : Drawing (List Line))
    → after ≡ before ++ x ∷ [] → fault_view x ≡ fault_of (l v) → (v, h) ≡ draw k g → d g ≡ (l (draw k g).0 ∷ [], (draw k g).1) → Adds before after g h d
adds_drawn before after x l k v g h d pushed is drawn e =
    let r = drawn_is k v g h drawn in
    let line : fault_view x ≡ fault_of (l (draw k g).0) = is ∙ ap (λ (n : ℕ). fault_of (l n)) r.0 in
    subst (λ (y : Lcg). Adds before after g y d) (sym r.1) (adds_one before after x (l (draw k g).0) g (draw k g).1 d pushed line e)

-- the way is drawn first
pub adds_told : (before after : List FaultPart) (s : Spell) (j way : ℕ) (g h x : Lcg) → (way, h) ≡ draw 3 g → Adds before after h x (told_by s j way) → Adds before after g x (lies_drawn s j)
adds_told before after s j way g h x drawn a =
    let r = drawn_is 3 way g h drawn in
    record {
      faults = a.faults ∙ ap₂ (λ (w : ℕ) (y : Lcg). map fault_view before ++ map fault_of (told_by s j w y).0) r.0 r.1;
      rest = a.rest ∙ ap₂ (λ (w : ℕ) (y : Lcg). (told_by s j w y).1) r.0 r.1;
    }

-- ---- a loop over the receivers

-- the lines so far and those to come are all the lines
pub record GoesOn (before now : List FaultPart) (g h : Lcg) (to : ℕ → Drawing (List Line)) (node i : ℕ) : Type 0 where
  pub faults : map fault_view now ++ map fault_of (each_drawn to (left node i) h).0 ≡ map fault_view before ++ map fault_of (each_drawn to (left node 0) g).0
  pub rest : (each_drawn to (left node i) h).1 ≡ (each_drawn to (left node 0) g).1

pub goes_past : (before now : List FaultPart) (g h : Lcg) (to : ℕ → Drawing (List Line)) (node i : ℕ) → i < 8 → i ≡ node → GoesOn before now g h to node i → GoesOn before now g h to node (i + 1)
goes_past before now g h to node i low e o =
    let same = left_itself node i low e in
    record {
      faults = ap (λ (js : List ℕ). map fault_view now ++ map fault_of (each_drawn to js h).0) (sym same) ∙ o.faults;
      rest = ap (λ (js : List ℕ). (each_drawn to js h).1) (sym same) ∙ o.rest;
    }

pub goes_more : (before now after : List FaultPart) (g h k : Lcg) (to : ℕ → Drawing (List Line)) (node i : ℕ) → i < 8 → i ≢ node
    → GoesOn before now g h to node i → Adds now after h k (to i) → GoesOn before after g k to node (i + 1)
goes_more before now after g h k to node i low ne o a =
    let same = left_other node i low ne in
    record {
      faults =
          ap₂ (λ (xs : List FaultParts) (x : Lcg). xs ++ map fault_of (each_drawn to (left node (i + 1)) x).0) a.faults a.rest
          ∙ append_assoc (map fault_view now) (map fault_of (to i h).0) (map fault_of (each_drawn to (left node (i + 1)) (to i h).1).0)
          ∙ ap (λ (ys : List FaultParts). map fault_view now ++ ys) (sym (map-append fault_of (to i h).0 (each_drawn to (left node (i + 1)) (to i h).1).0))
          ∙ ap (λ (js : List ℕ). map fault_view now ++ map fault_of (each_drawn to js h).0) (sym same) ∙ o.faults;
      rest = ap (λ (x : Lcg). (each_drawn to (left node (i + 1)) x).1) a.rest ∙ ap (λ (js : List ℕ). (each_drawn to js h).1) (sym same) ∙ o.rest;
    }

pub goes_at : (before now at : List FaultPart) (g h x : Lcg) (to : ℕ → Drawing (List Line)) (node i : ℕ) → at ≡ now → x ≡ h → GoesOn before now g h to node i → GoesOn before at g x to node i
goes_at before now at g h x to node i e f o = record {
  faults = ap₂ (λ (xs : List FaultPart) (y : Lcg). map fault_view xs ++ map fault_of (each_drawn to (left node i) y).0) e f ∙ o.faults;
  rest = ap (λ (y : Lcg). (each_drawn to (left node i) y).1) f ∙ o.rest;
}

-- past the last receiver
pub goes_all : (before now : List FaultPart) (g h : Lcg) (to : ℕ → Drawing (List Line)) (node i : ℕ) → i ≡ 8 → GoesOn before now g h to node i → Adds before now g h (each_drawn to (left node 0))
goes_all before now g h to node i e o =
    let last : GoesOn before now g h to node 8 = subst (λ (n : ℕ). GoesOn before now g h to node n) e o in
    record { faults = sym (append-nil (map fault_view now)) ∙ last.faults; rest = last.rest }

pub all_left : (xs : List ℤ) (node i : ℕ) → i ≡ 8 → xs ++ map pos (left node i) ≡ map pos (left node 0) → xs ≡ map pos (left node 0)
all_left xs node i e h = sym (append-nil xs) ∙ ap (λ (n : ℕ). xs ++ map pos (left node n)) (sym e) ∙ h

-- where a call failed, nothing is told
pub failed : {T E : Type 0} (r : Result T E) (P : Type 0) → IsErr r → OnOk r P
failed (Ok x) P e = absurd (true≢false (sym e))
failed (Err y) P e = tt

-- ---- a loop over the blocks

-- the lines and restarts so far and those to come are all of them
pub record Storms (faults : List FaultPart) (restarts : List RestartPart) (g : Lcg) (seed k : ℕ) : Type 0 where
  pub all_faults : map fault_view faults ++ map fault_of (lines_of (blocks (64 - k) k g).0) ≡ map fault_of (lines_of (storm seed))
  pub all_restarts : map restart_view restarts ++ map restart_parts (restarts_of (blocks (64 - k) k g).0) ≡ map restart_parts (restarts_of (storm seed))

pub storms_first : (faults : List FaultPart) (restarts : List RestartPart) (g : Lcg) (seed : ℕ) → faults ≡ [] → restarts ≡ [] → g ≡ generator_of seed → Storms faults restarts g seed 0
unfolding storm
storms_first faults restarts g seed no_faults no_restarts e = record {
  all_faults = ap₂ (λ (xs : List FaultPart) (x : Lcg). map fault_view xs ++ map fault_of (lines_of (blocks 64 0 x).0)) no_faults e;
  all_restarts = ap₂ (λ (xs : List RestartPart) (x : Lcg). map restart_view xs ++ map restart_parts (restarts_of (blocks 64 0 x).0)) no_restarts e;
}

pub storms_more : (faults after : List FaultPart) (restarts restarts_after : List RestartPart) (g h : Lcg) (seed k : ℕ) → k < 64
    → Storms faults restarts g seed k → AddsBlock faults after restarts restarts_after g h (block k) → Storms after restarts_after h seed (k + 1)
storms_more faults after restarts restarts_after g h seed k low s a = record {
  all_faults =
      ap₂ (λ (xs : List FaultParts) (x : Lcg). xs ++ map fault_of (lines_of (blocks (64 - (k + 1)) (k + 1) x).0)) a.faults a.rest
      ∙ append_assoc (map fault_view faults) (map fault_of (block k g).0.lines) (map fault_of (lines_of (blocks (64 - (k + 1)) (k + 1) (block k g).1).0))
      ∙ ap (λ (ys : List FaultParts). map fault_view faults ++ ys) (sym (map-append fault_of (block k g).0.lines (lines_of (blocks (64 - (k + 1)) (k + 1) (block k g).1).0)))
      ∙ ap (λ (n : ℕ). map fault_view faults ++ map fault_of (lines_of (blocks n k g).0)) (sym (more_blocks k low)) ∙ s.all_faults;
  all_restarts =
      ap₂ (λ (xs : List RestartParts) (x : Lcg). xs ++ map restart_parts (restarts_of (blocks (64 - (k + 1)) (k + 1) x).0)) a.restarts a.rest
      ∙ append_assoc (map restart_view restarts) (restart_parts (restart_drawn (block k g).0) ∷ []) (map restart_parts (restarts_of (blocks (64 - (k + 1)) (k + 1) (block k g).1).0))
      ∙ ap (λ (n : ℕ). map restart_view restarts ++ map restart_parts (restarts_of (blocks n k g).0)) (sym (more_blocks k low)) ∙ s.all_restarts;
}

pub storms_done : (faults : List FaultPart) (restarts : List RestartPart) (g : Lcg) (seed k : ℕ) → k ≡ 64 → Storms faults restarts g seed k
    → (map fault_view faults ≡ map fault_of (lines_of (storm seed))) × (map restart_view restarts ≡ map restart_parts (restarts_of (storm seed)))
storms_done faults restarts g seed k e s =
    let last : Storms faults restarts g seed 64 = subst (λ (n : ℕ). Storms faults restarts g seed n) e s in
    (sym (append-nil (map fault_view faults)) ∙ last.all_faults, sym (append-nil (map restart_view restarts)) ∙ last.all_restarts)
