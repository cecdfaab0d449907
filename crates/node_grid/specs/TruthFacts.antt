-- Facts of truth values and options that several crates cite.
use Rattle.std.proofs.Common.{Bool, None, Option, Some, ap, false, if◌then◌else◌, not, refl, sym, true, ℤ, ◌&&◌, ◌||◌, ◌≡◌}
use Rattle.std.proofs.lemmas.Bool.{false≢true}
use Rattle.std.proofs.lemmas.Bool.Decides.{Decides-int_eq}
use Rattle.std.specs.Option.{option_eq, option_or}
use Rattle.std.specs.Ordering.{int_eq}
use Rattle.std.specs.Prelude.{is_none, is_some, option_map}
use Rattle.node_grid.specs.Class.{is_nonfaulty}
use Rattle.node_grid.specs.declared.class.Class.{Class}
use Rattle.node_grid.specs.declared.class.Class.TheVariants.{A, B, J, N, S}

pub and_both : (a b : Bool) → (a && b) ≡ true → (a ≡ true) × (b ≡ true)
and_both true b h = (refl, h)
and_both false b h = absurd (cc)

pub and_false : (x : Bool) → (x && false) ≡ false
and_false true = refl
and_false false = refl

pub and_no_left : (a b : Bool) → a ≡ false → (a && b) ≡ false
and_no_left a b e = rw e refl

pub and_no_right : (a b : Bool) → b ≡ false → (a && b) ≡ false
and_no_right true b e = e
and_no_right false b e = refl

pub and_swap : (a b : Bool) → (a && b) ≡ (b && a)
and_swap true true = refl
and_swap true false = refl
and_swap false true = refl
and_swap false false = refl

pub first_none : {X : Type 0} (a b : Option X) → option_or a b ≡ None → a ≡ None
first_none None b h = refl
first_none (Some x) b h = h

pub if_full : {X : Type 0} (b : Bool) (u v w : X) → (b ≡ true → u ≡ v) → (if b then u else w) ≡ (if b then v else w)
if_full true u v w h = h refl
if_full false u v w h = refl

pub is_n : (c : Class) → is_nonfaulty c ≡ true → c ≡ N
is_n N h = refl
is_n J h = cc
is_n B h = cc
is_n S h = cc
is_n A h = cc

pub is_some_map : {X Y : Type 0} (f : X → Y) (o : Option X) → is_some (option_map f o) ≡ is_some o
is_some_map f None = refl
is_some_map f (Some x) = refl

pub none_is : {X : Type 0} (o : Option X) → is_none o ≡ true → o ≡ None
none_is None h = refl
none_is (Some x) h = cc

pub not_either : (a b : Bool) → not (a || b) ≡ (not a && not b)
not_either true b = refl
not_either false b = refl

pub not_false : (b : Bool) → not b ≡ false → b ≡ true
not_false true h = refl
not_false false h = cc

pub not_so : (b : Bool) → not b ≡ true → b ≡ false
not_so true h = cc
not_so false h = refl

pub not_some : {A : Type 0} (o : Option A) → is_some o ≡ false → o ≡ None
not_some None h = refl
not_some (Some x) h = absurd (false≢true (sym h))

-- votes that a test finds the same
pub option_same : (x y : Option ℤ) → option_eq int_eq x y ≡ true → x ≡ y
option_same None None h = refl
option_same None (Some y) h = absurd (false≢true h)
option_same (Some x) None h = absurd (false≢true h)
option_same (Some x) (Some y) h = ap Some ((Decides-int_eq x y).0 h)

pub or_assoc : (a b c : Bool) → ((a || b) || c) ≡ (a || (b || c))
or_assoc true b c = refl
or_assoc false b c = refl

pub or_false : (b : Bool) → (b || false) ≡ b
or_false true = refl
or_false false = refl

pub or_of_three : (a b c : Bool) → (a || (b || c)) ≡ ((a || b) || c)
or_of_three true b c = refl
or_of_three false b c = refl

pub or_yes : (b : Bool) → (b || true) ≡ true
or_yes true = refl
or_yes false = refl

pub second_none : {X : Type 0} (a b : Option X) → option_or a b ≡ None → b ≡ None
second_none None b h = h
second_none (Some x) b h = cc
