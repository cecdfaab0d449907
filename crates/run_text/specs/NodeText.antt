-- The printed lines of one node in a period.
use Rattle.std.specs.Prelude.{ℕ, ◌==◌, List, [], ◌++◌, map, take, Option, None, Some, codes, decimal, if◌then◌else◌}
use Rattle.agreed_state.specs.Agreed.{AgreedView}
use Rattle.node_steps.specs.Outcome.{Outcome}
use Rattle.run_text.specs.Text.{separated, numbers_text, set_text, mode_text, runs_text, votes_text, done_item, rows_item}

-- how often each node left, where nodes retire
abbrev pub left_text : ℕ → ℕ → List ℕ → List ℕ
left_text nodes retire left = if retire == 0 then [] else codes " left " ++ numbers_text (take nodes left)

-- the members, penalty counts and streaks of an agreed state
abbrev pub standing_text : ℕ → AgreedView → List ℕ
standing_text nodes a =
    codes " members " ++ set_text a.standing.members ++ codes " counts " ++ numbers_text (take nodes a.standing.counts)
    ++ codes " streaks " ++ numbers_text (take nodes a.standing.streaks)

-- an agreed state: members, penalty counts, streaks, running tasks
abbrev pub state_text : ℕ → ℕ → AgreedView → List ℕ
state_text nodes retire a =
    codes " members " ++ set_text a.standing.members ++ codes " counts " ++ numbers_text (take nodes a.standing.counts)
    ++ codes " streaks " ++ numbers_text (take nodes a.standing.streaks) ++ codes " run " ++ runs_text nodes a.copies
    ++ left_text nodes retire a.standing.left

-- the settled claims, the settled rows, and the votes
abbrev pub settled_text : ℕ → Outcome → List ℕ
settled_text nodes r =
    codes "\n  done " ++ separated (codes " ") (map (done_item r.done) r.members)
    ++ codes "\n  rows " ++ separated (codes " ") (map (rows_item nodes r.rows) r.members)
    ++ codes "\n  votes " ++ votes_text r.votes r.due ++ codes "\n"

-- what a node believes after a period; a node without an agreed state is cold
abbrev pub beliefs_text : ℕ → ℕ → Outcome → Option AgreedView → List ℕ
beliefs_text nodes retire r None = codes "cold\n"
beliefs_text nodes retire r (Some a) = mode_text r.mode ++ state_text nodes retire a ++ settled_text nodes r

-- all lines of node i, whose class is told by a letter
abbrev pub node_text : ℕ → ℕ → ℕ → List ℕ → Outcome → List ℕ
node_text nodes retire i letter r = codes "node " ++ decimal i ++ codes " " ++ letter ++ codes " " ++ beliefs_text nodes retire r r.agreed
