-- The class by the first test that passes.
use Rattle.std.proofs.Common.{◌≡◌, Bool, true, false, refl}
use Rattle.node_grid.specs.declared.class.Class.TheVariants.{N, J, B, S, A}
use Rattle.fault_classes.specs.Plan.{classify}

pub class_N : (n j b s : Bool) → n ≡ true → classify true n j b s ≡ N
class_N n j b s hn = rw hn refl

pub class_J : (n j b s : Bool) → n ≡ false → j ≡ true → classify true n j b s ≡ J
class_J n j b s hn hj = rw (hn, hj) refl

pub class_B : (n j b s : Bool) → n ≡ false → j ≡ false → b ≡ true → classify true n j b s ≡ B
class_B n j b s hn hj hb = rw (hn, hj, hb) refl

pub class_S : (n j b s : Bool) → n ≡ false → j ≡ false → b ≡ false → s ≡ true → classify true n j b s ≡ S
class_S n j b s hn hj hb hs = rw (hn, hj, hb, hs) refl

pub class_A : (n j b s : Bool) → n ≡ false → j ≡ false → b ≡ false → s ≡ false → classify true n j b s ≡ A
class_A n j b s hn hj hb hs = rw (hn, hj, hb, hs) refl
