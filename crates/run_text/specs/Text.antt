-- Texts of the values that are printed.
use Rattle.std.specs.Fmt.{signed_decimal}
use Rattle.std.specs.Prelude.{ℕ, zero, suc, ℤ, ◌==◌, Bool, true, false, List, [], ◌∷◌, ◌++◌, map, take, Option, None, Some, codes, decimal, if◌then◌else◌, slice_index_or}
use Rattle.std.specs.List.{flat_map}
use Rattle.node_grid.specs.declared.class.Class.{Class}
use Rattle.node_grid.specs.declared.class.Class.TheVariants.{N, J, B, S, A}
use Rattle.omh_paths.specs.declared.wrapped.Wrapped.{Wrapped}
use Rattle.omh_paths.specs.declared.wrapped.Wrapped.TheVariants.{Plain, Fault}
use Rattle.node_grid.specs.Matrix.{row_at}
use Rattle.node_grid.specs.Kinds.{no_claim}
use Rattle.node_grid.specs.NodeSet.{ids_below}
use Rattle.list_scheduler.specs.Copies.{CopyTable, works}
use Rattle.protocol.specs.View.{Mode, Full, Joining, Cold}

-- texts one after the other, with a separator between them
abbrev pub separated : List ℕ → List (List ℕ) → List ℕ
separated separator [] = []
separated separator (x ∷ xs) = x ++ flat_map (λ y. separator ++ y) xs

-- numbers, joined by commas
abbrev pub numbers_text : List ℕ → List ℕ
numbers_text xs = separated (codes ",") (map decimal xs)

-- a set of nodes; an empty one is `-`
abbrev pub set_text : List ℕ → List ℕ
set_text [] = codes "-"
set_text (x ∷ xs) = numbers_text (x ∷ xs)

abbrev pub yes_no : Bool → List ℕ
yes_no true = codes "yes"
yes_no false = codes "no"

abbrev pub class_text : Class → List ℕ
class_text N = codes "N"
class_text J = codes "J"
class_text B = codes "B"
class_text S = codes "S"
class_text A = codes "A"

-- a settled claim: a task, nothing, or an error
abbrev pub claim_text : Wrapped ℕ → List ℕ
claim_text (Plain claim) = if claim == no_claim then codes "-" else decimal claim
claim_text (Fault k) = codes "E"

-- a settled row: the masks of the nodes in use, or an error
abbrev pub row_text : ℕ → Option (List ℕ) → List ℕ
row_text nodes None = codes "E"
row_text nodes (Some masks) = numbers_text (take nodes masks)

-- what member q claimed, as settled
abbrev pub done_item : List (Wrapped ℕ) → ℕ → List ℕ
done_item done q = decimal q ++ codes "=" ++ claim_text (slice_index_or done q (Fault 0))

-- the row of member q, as settled
abbrev pub rows_item : ℕ → List (Option (List ℕ)) → ℕ → List ℕ
rows_item nodes rows q = decimal q ++ codes "=" ++ row_text nodes (row_at rows q)

-- how a node goes through a period
abbrev pub mode_text : Mode → List ℕ
mode_text Full = codes "full"
mode_text Joining = codes "joining"
mode_text Cold = codes "cold"

-- the task that a node runs, and since how long; a node that runs none is `-`
abbrev pub running_text : Option (ℕ × ℕ) → List ℕ
running_text None = codes "-"
running_text (Some w) = decimal w.0

-- what each node in use runs
abbrev pub runs_text : ℕ → CopyTable → List ℕ
runs_text nodes copies = separated (codes ",") (map (λ q. running_text (works copies q)) (ids_below nodes))

-- a vote; none is `-`
abbrev pub vote_text : Option ℤ → List ℕ
vote_text None = codes "-"
vote_text (Some v) = signed_decimal v

-- the vote on channel c
abbrev pub vote_item : List (Option ℤ) → ℕ → List ℕ
vote_item votes c = decimal c ++ codes "=" ++ vote_text (slice_index_or votes c None)

-- the votes on the due channels; where no channel is due it is `-`
abbrev pub votes_text : List (Option ℤ) → List ℕ → List ℕ
votes_text votes [] = codes "-"
votes_text votes (c ∷ cs) = separated (codes " ") (map (vote_item votes) (c ∷ cs))

-- the separator before the item at place k
abbrev pub separator_at : List ℕ → ℕ → List ℕ
separator_at separator zero = []
separator_at separator (suc k) = separator
