-- The policy that is read back of its members.
use Rattle.std.proofs.Common.{◌≡◌, ℤ, pos, Bool, true, false, Option, Some, None, refl}
use Rattle.std.specs.Prelude.{codes, option_map}
use Rattle.serde_json.specs.Data.{Data, Members, no_members, object, put}
use Rattle.json_parts.specs.Reading.{whole, list_of, has_keys, required, optional}
use Rattle.scenario.specs.Parts.{PolicyParts}
use Rattle.scenario_reading.specs.Keys.{policy_names, policy_at}
use Rattle.scenario_writing.specs.Members.{put_some}
use Rattle.scenario_versions.specs.Versions.{is_first, IsPolicyOf}

assembled : (version : ℤ) (p : PolicyParts) (d : Data) → has_keys (policy_names version) d ≡ true → required (codes "weights") (list_of whole) d ≡ Some p.weights
    → required (codes "exclude") whole d ≡ Some p.exclude → required (codes "readmit") whole d ≡ Some p.readmit → required (codes "credit") whole d ≡ Some p.credit
    → required (codes "streak") whole d ≡ Some p.streak → required (codes "cap") whole d ≡ Some p.cap → optional (codes "retire") (pos 0) whole d ≡ Some p.retire
    → policy_at version d ≡ Some p
assembled version p d keys weights exclude readmit credit streak cap retire = rw (keys, weights, exclude, readmit, credit, streak, cap, retire) refl

-- where there is no word for it, nobody retires
none_retires : (b : Bool) (retire : ℤ) → (b ≡ false → option_map whole None ≡ Some (Some retire)) → (b ≡ true → retire ≡ pos 0) → Some (pos 0) ≡ Some retire
none_retires true retire some zero_in_first = rw (zero_in_first refl) refl
none_retires false retire some zero_in_first = let wrong : None ≡ Some (Some retire) = some refl in cc

-- only later versions have the word
is_later : (b : Bool) (d : Data) → (b ≡ true → Some d ≡ None) → b ≡ false
is_later true d none = let wrong : Some d ≡ None = none refl in cc
is_later false d none = refl

is_same : (d : Data) (z : ℤ) → option_map whole (Some d) ≡ Some (Some z) → whole d ≡ Some z
is_same d z e = cc

-- the members of a policy
pub record Pieces : Type 0 where
  pub weights : Data
  pub exclude : Data
  pub readmit : Data
  pub credit : Data
  pub streak : Data
  pub cap : Data

abbrev pub members_of : Pieces → Members
members_of w =
    put (codes "cap") w.cap (put (codes "streak") w.streak (put (codes "credit") w.credit (put (codes "readmit") w.readmit (put (codes "exclude") w.exclude
    (put (codes "weights") w.weights no_members)))))

-- what each of them is read as
pub record AreRead (p : PolicyParts) (w : Pieces) : Type 0 where
  pub weights : list_of whole w.weights ≡ Some p.weights
  pub exclude : whole w.exclude ≡ Some p.exclude
  pub readmit : whole w.readmit ≡ Some p.readmit
  pub credit : whole w.credit ≡ Some p.credit
  pub streak : whole w.streak ≡ Some p.streak
  pub cap : whole w.cap ≡ Some p.cap

pub read_back : (version : ℤ) (p : PolicyParts) (w : Pieces) (retire : Option Data) → AreRead p w → IsPolicyOf version p → (is_first version ≡ true → retire ≡ None)
    → (is_first version ≡ false → option_map whole retire ≡ Some (Some p.retire)) → policy_at version (object (put_some (codes "retire") retire (members_of w))) ≡ Some p
read_back version p w None r retires none some =
    assembled version p (object (members_of w)) refl r.weights r.exclude r.readmit r.credit r.streak r.cap (none_retires (is_first version) p.retire some retires)
read_back version p w (Some d) r retires none some =
    let later : is_first version ≡ false = is_later (is_first version) d none in
    assembled version p (object (put_some (codes "retire") (Some d) (members_of w))) (rw later refl) r.weights r.exclude r.readmit r.credit r.streak r.cap (is_same d p.retire (some later))
