-- What is summed up after some periods.
use Rattle.std.specs.Prelude.{ℕ, suc, ◌≡◌, ◌≤◌, ◌*◌, Bool, Option}
use Rattle.agreed_state.specs.Agreed.{AgreedView}
use Rattle.protocol.specs.Run.{System, members_in}
use Rattle.storm_sum.specs.declared.sums.Sums.{Sums}
use Rattle.storm_sum.specs.Summary.{how_many, total, shown_at, state_after, excluded, readmitted, counts_in}

-- ---- of a period of a run: whether it is claimed, how many nodes leave and join, and the state that the reference node is left with
unfoldable pub is_claimed_at : System → ℕ → Bool
is_claimed_at sys p = (shown_at sys p).claim

unfoldable pub excluded_at : System → ℕ → ℕ
excluded_at sys p = excluded (shown_at sys p)

unfoldable pub readmitted_at : System → ℕ → ℕ
readmitted_at sys p = readmitted (shown_at sys p)

unfoldable pub state_at : System → ℕ → Option AgreedView
state_at sys p = state_after (shown_at sys p)

-- the sums over the periods below p of a run, and what the last of them leaves
pub record AreSums (sys : System) (p : ℕ) (s : Sums) : Type 0 where
  pub claimed : s.claimed ≡ how_many (is_claimed_at sys) p
  pub excluded : s.excluded ≡ total (excluded_at sys) p
  pub readmitted : s.readmitted ≡ total (readmitted_at sys) p
  pub few_claimed : s.claimed ≤ p
  pub few_excluded : s.excluded ≤ 8 * p
  pub few_readmitted : s.readmitted ≤ 8 * p
  pub members : (q : ℕ) → p ≡ suc q → s.members ≡ members_in (state_at sys q)
  pub counts : (q : ℕ) → p ≡ suc q → s.counts.counts ≡ counts_in (state_at sys q)
