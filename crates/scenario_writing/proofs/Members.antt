-- Members that are put one after another, and numbers that are read back.
use Rattle.std.proofs.Common.{◌≡◌, ℕ, ℤ, List, [], Option, Some, ap, ◌∙◌, w64, to_z, of_z}
use Rattle.std.proofs.lemmas.Int.{to_z-of_z}
use mir.Val.{SFits}
use Rattle.serde_json.specs.Data.{Data, Members, no_members, put}
use Rattle.serde_json.specs.View.{members_view}
use Rattle.serde_json.proofs.Views.{Entry}
use Rattle.scenario_writing.specs.Members.{put_some}

pub begun : (es : List Entry) → es ≡ [] → members_view es ≡ no_members
begun es none = ap members_view none

-- one more was put
pub onto : (key : List ℕ) (d : Data) {now before ms : Members} → now ≡ put key d before → before ≡ ms → now ≡ put key d ms
onto key d {now} {before} {ms} put_now e = put_now ∙ ap (put key d) e

pub onto_some : (key : List ℕ) (found : Option Data) {now before ms : Members} → now ≡ put_some key found before → before ≡ ms → now ≡ put_some key found ms
onto_some key found {now} {before} {ms} put_now e = put_now ∙ ap (put_some key found) e

-- a number that was handed on is the number
pub kept : (z : ℤ) {o : Option ℤ} → SFits w64 z → o ≡ Some (to_z w64 (of_z w64 z)) → o ≡ Some z
kept z {o} fits e = e ∙ ap Some (to_z-of_z w64 z fits)
