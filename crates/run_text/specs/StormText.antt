-- The printed summary of a storm.
use Rattle.std.specs.Prelude.{ℕ, List, ◌++◌, take, codes, decimal}
use Rattle.run_text.specs.Text.{numbers_text, set_text}

-- a storm as clauses see it: its number, how many periods it has and how many of them are claimed, its fault lines and restarts, how
-- often a node was excluded and readmitted, and the members and penalty counts in the end
pub record StormView : Type 0 where
  pub seed : ℕ
  pub periods : ℕ
  pub claimed : ℕ
  pub lines : ℕ
  pub restarts : ℕ
  pub excluded : ℕ
  pub readmitted : ℕ
  pub members : List ℕ
  pub counts : List ℕ
  pub nodes : ℕ

-- its periods, fault lines and restarts, exclusions and readmissions
abbrev pub sums_text : StormView → List ℕ
sums_text s =
    codes "storm " ++ decimal s.seed ++ codes "\nperiods " ++ decimal s.periods ++ codes " claimed " ++ decimal s.claimed
    ++ codes "\nlines " ++ decimal s.lines ++ codes " restarts " ++ decimal s.restarts
    ++ codes "\nexcluded " ++ decimal s.excluded ++ codes " readmitted " ++ decimal s.readmitted

-- the members and penalty counts in the end, and the end line
abbrev pub outcome_text : StormView → List ℕ
outcome_text s =
    codes "\nmembers " ++ set_text s.members ++ codes " counts " ++ numbers_text (take s.nodes s.counts) ++ codes "\nend " ++ decimal s.periods ++ codes "\n"

abbrev pub storm_text : StormView → List ℕ
storm_text s = sums_text s ++ outcome_text s
