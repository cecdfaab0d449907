-- The rows that are written of a scenario, each with its line feed.
use Rattle.std.specs.Prelude.{ℕ, suc, List, [], ◌∷◌, ◌++◌, Option, None, Some, codes, decimal}
use Rattle.std.specs.List.{flat_map}
use Rattle.run_judged.specs.declared.tally.Loss.{Loss}
use Rattle.run_judged.specs.declared.row.RunRow.{RunRow}
use Rattle.run_judged.specs.declared.illness.Illness.{Illness}
use Rattle.judge_text.specs.Cells.{cell, maybe_cell, signed_cell, class_cell, whether_cell}

-- the names of the columns, a line for each kind of row
abbrev pub header_text : List ℕ
header_text =
    codes "run,line,status,rule,place,nodes,m,periods,lines,restarts,claimed,lost,n,a,s,b,margin,charges,false_charges,false_exclusions,spread,skew\nill,line,node,onset,class,worst,touched,member,charged,left,sound,back,periods_a_member\nskew,line,period,skew\n"

-- ---- a run

-- the first period whose budget isn't kept, and its members by class
abbrev pub loss_cells : Option Loss → List ℕ
loss_cells None = codes ",,,,,"
loss_cells (Some l) = cell l.period ++ cell l.budget.n ++ cell l.budget.a ++ cell l.budget.s ++ cell l.budget.b

-- what the scenario is
abbrev pub scenario_cells : RunRow → List ℕ
scenario_cells r = cell r.nodes ++ cell r.m ++ cell r.periods ++ cell r.lines ++ cell r.restarts

-- what came of it
abbrev pub outcome_cells : RunRow → List ℕ
outcome_cells r =
    cell r.claimed ++ loss_cells r.lost ++ signed_cell r.margin ++ cell r.charges ++ cell r.false_charges ++ cell r.false_exclusions
    ++ maybe_cell r.spread ++ maybe_cell r.skew

abbrev pub run_row : ℕ → RunRow → List ℕ
run_row line r = codes "run," ++ decimal line ++ codes ",0,," ++ scenario_cells r ++ outcome_cells r ++ codes "\n"

-- ---- an illness

-- who fell ill when and how
abbrev pub onset_cells : Illness → List ℕ
onset_cells i = cell i.node ++ cell i.onset ++ class_cell i.class ++ class_cell i.worst ++ cell i.touched ++ whether_cell i.member

-- what became of it
abbrev pub course_cells : Illness → List ℕ
course_cells i = maybe_cell i.charged ++ maybe_cell i.left ++ maybe_cell i.sound ++ maybe_cell i.back ++ cell i.periods_a_member

abbrev pub ill_row : ℕ → Illness → List ℕ
ill_row line i = codes "ill," ++ decimal line ++ onset_cells i ++ course_cells i ++ codes "\n"

-- ---- clocks

abbrev pub skew_row : ℕ → ℕ → ℕ → List ℕ
skew_row line period skew = codes "skew," ++ decimal line ++ cell period ++ cell skew ++ codes "\n"

-- of periods one after the other, the first of which has this number
abbrev pub skew_rows : ℕ → ℕ → List ℕ → List ℕ
skew_rows line period [] = []
skew_rows line period (skew ∷ skews) = skew_row line period skew ++ skew_rows line (suc period) skews

-- ---- a scenario

abbrev pub judged_rows : ℕ → RunRow → List Illness → List ℕ → List ℕ
judged_rows line row illnesses skews = run_row line row ++ flat_map (ill_row line) illnesses ++ skew_rows line 0 skews

-- the empty cells of a scenario that isn't run, behind its status, rule and place
abbrev pub not_run : List ℕ
not_run = codes ",,,,,,,,,,,,,,,,,\n"

-- no JSON text
abbrev pub unread_row : ℕ → List ℕ
unread_row line = codes "run," ++ decimal line ++ codes ",3,," ++ not_run

-- refused by a rule at a place
abbrev pub refused_row : ℕ → ℕ → ℕ → List ℕ
refused_row line rule place = codes "run," ++ decimal line ++ codes ",4" ++ cell rule ++ cell place ++ not_run
