-- How the class of a node comes out, and what it tells.
use Rattle.std.proofs.Common.{◌≡◌, ℕ, ◌<◌, Bool, true, false, ◌&&◌, ◌||◌, refl, ap, ◌∙◌}
use Rattle.std.specs.Prelude.{nat_lt}
use Rattle.std.proofs.lemmas.Bool.{lt-ltb, ltb-true, and_parts}
use Rattle.node_grid.specs.declared.class.Class.TheVariants.{N, J, B, S}
use Rattle.node_grid.specs.Class.{is_nonfaulty, is_sound}
use Rattle.fault_classes.specs.Change.{is_manifest}
use Rattle.fault_classes.specs.Plan.{Plan, steady, joins_in, sound_before, is_sound_in, each_frame, is_symmetric_in, classify, class_of}

-- the class of a node of the plan
pub class_by : (plan : Plan) (p j : ℕ) → j < plan.nodes
    → class_of plan p j ≡ classify true (steady plan p (sound_before plan p) j) (joins_in plan p (sound_before plan p) j) (each_frame plan is_manifest p j) (is_symmetric_in plan p j)
unfolding class_of
class_by plan p j h = rw (lt-ltb j plan.nodes h) refl

nonfaulty_by : (good joining benign symmetric : Bool) → is_nonfaulty (classify true good joining benign symmetric) ≡ good
nonfaulty_by true j b s = refl
nonfaulty_by false true b s = refl
nonfaulty_by false false true s = refl
nonfaulty_by false false false true = refl
nonfaulty_by false false false false = refl

sound_by : (good joining benign symmetric : Bool) → is_sound (classify true good joining benign symmetric) ≡ (good || joining)
sound_by true j b s = refl
sound_by false true b s = refl
sound_by false false true s = refl
sound_by false false false true = refl
sound_by false false false false = refl

-- class N is to be steady, and N or J is to be sound
pub nonfaulty_is : (plan : Plan) (p j : ℕ) → j < plan.nodes → is_nonfaulty (class_of plan p j) ≡ steady plan p (sound_before plan p) j
nonfaulty_is plan p j h = ap is_nonfaulty (class_by plan p j h) ∙ nonfaulty_by _ _ _ _

pub sound_is : (plan : Plan) (p j : ℕ) → j < plan.nodes → is_sound (class_of plan p j) ≡ is_sound_in plan p j
unfolding sound_before
sound_is plan p j h = ap is_sound (class_by plan p j h) ∙ sound_by _ _ _ _

-- ---- what a class tells of its node

is_n_if : (below good joining benign symmetric : Bool) → classify below good joining benign symmetric ≡ N → (below ≡ true) × (good ≡ true)
is_n_if true true j b s h = (refl, refl)
is_n_if true false true b s h = cc
is_n_if true false false true s h = cc
is_n_if true false false false true h = cc
is_n_if true false false false false h = cc
is_n_if false g j b s h = cc

is_j_if : (below good joining benign symmetric : Bool) → classify below good joining benign symmetric ≡ J → (below ≡ true) × (joining ≡ true)
is_j_if true true j b s h = cc
is_j_if true false true b s h = (refl, refl)
is_j_if true false false true s h = cc
is_j_if true false false false true h = cc
is_j_if true false false false false h = cc
is_j_if false g j b s h = cc

is_b_if : (below good joining benign symmetric : Bool) → classify below good joining benign symmetric ≡ B → (below ≡ true) × (benign ≡ true)
is_b_if true true j b s h = cc
is_b_if true false true b s h = cc
is_b_if true false false true s h = (refl, refl)
is_b_if true false false false true h = cc
is_b_if true false false false false h = cc
is_b_if false g j b s h = cc

is_s_if : (below good joining benign symmetric : Bool) → classify below good joining benign symmetric ≡ S → (below ≡ true) × (symmetric ≡ true)
is_s_if true true j b s h = cc
is_s_if true false true b s h = cc
is_s_if true false false true s h = cc
is_s_if true false false false true h = (refl, refl)
is_s_if true false false false false h = cc
is_s_if false g j b s h = cc

module _ (plan : Plan) (p j : ℕ) where
  pub steady_if : class_of plan p j ≡ N → (j < plan.nodes) × (steady plan p (sound_before plan p) j ≡ true)
  unfolding class_of
  steady_if h = let r = is_n_if (nat_lt j plan.nodes) (steady plan p (sound_before plan p) j) (joins_in plan p (sound_before plan p) j) (each_frame plan is_manifest p j) (is_symmetric_in plan p j) h in (ltb-true j plan.nodes r.0, r.1)

  pub joins_if : class_of plan p j ≡ J → (j < plan.nodes) × (joins_in plan p (sound_before plan p) j ≡ true)
  unfolding class_of
  joins_if h = let r = is_j_if (nat_lt j plan.nodes) (steady plan p (sound_before plan p) j) (joins_in plan p (sound_before plan p) j) (each_frame plan is_manifest p j) (is_symmetric_in plan p j) h in (ltb-true j plan.nodes r.0, r.1)

  pub benign_if : class_of plan p j ≡ B → (j < plan.nodes) × (each_frame plan is_manifest p j ≡ true)
  unfolding class_of
  benign_if h = let r = is_b_if (nat_lt j plan.nodes) (steady plan p (sound_before plan p) j) (joins_in plan p (sound_before plan p) j) (each_frame plan is_manifest p j) (is_symmetric_in plan p j) h in (ltb-true j plan.nodes r.0, r.1)

  pub symmetric_if : class_of plan p j ≡ S → (j < plan.nodes) × (is_symmetric_in plan p j ≡ true)
  unfolding class_of
  symmetric_if h = let r = is_s_if (nat_lt j plan.nodes) (steady plan p (sound_before plan p) j) (joins_in plan p (sound_before plan p) j) (each_frame plan is_manifest p j) (is_symmetric_in plan p j) h in (ltb-true j plan.nodes r.0, r.1)

-- the parts of a test of four
pub record FourParts (a b c d : Bool) : Type 0 where
  pub first : a ≡ true
  pub second : b ≡ true
  pub third : c ≡ true
  pub fourth : d ≡ true

pub four_parts : (a b c d : Bool) → (a && (b && (c && d))) ≡ true → FourParts a b c d
four_parts a b c d h =
    let x = and_parts a _ h in
    let y = and_parts b _ x.1 in
    let z = and_parts c d y.1 in
    record { first = x.0; second = y.0; third = z.0; fourth = z.1 }
