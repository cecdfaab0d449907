-- What is told with a finding that is Good.
use Rattle.std.specs.Prelude.{ℕ, ◌≡◌, ◌≢◌, ◌<◌, Option, Some, None}
use Rattle.frames.specs.Content.{Expectation, Content, kind, kind_in, IsSized}
use Rattle.error_detect.specs.Finding.{kind_of}
use Rattle.error_detect.specs.Watching.{Watch, of_sender, finding_at, told_at}

-- what is told with a finding of this kind of error: nothing, and where there is none a content of the kind that has its
-- place in the slot, with its sizes
abbrev pub IsToldWith : Expectation → Option ℕ → Option Content → Type 0
IsToldWith e (Some error) told = told ≡ None
IsToldWith e None told = (c : Content) × (told ≡ Some c) × (kind c ≡ kind_in e.m e.slot) × IsSized e c

-- Law: another node's frame is told exactly where its finding is Good, and has then the kind of the slot, and as many entries as are due
abbrev pub GoodFits : Type 0
GoodFits = (w : Watch) (e : Expectation) (j : ℕ) → w.expect ≡ Some e → j < w.nodes → j ≢ w.me
    → IsToldWith (of_sender j e) (kind_of (finding_at w j)) (told_at w j)
