-- The rooms of a table.
use Rattle.std.specs.Prelude.{ℕ, suc, ◌≡◌, ◌-◌, List, map, length}
use Rattle.omh.specs.Flat.{section_at}
use Rattle.relay_terms.specs.declared.term.Term.{Term}
use Rattle.relay_terms.specs.Terms.{said}
use Rattle.relay_table.specs.Free.{free_begins, AreFree}
use Rattle.relay_table.specs.Tabled.{kept_nodes, AreKnown}

-- room for the terms of all paths that are kept, and for what is settled for those of one length
pub record IsRoom {V : Type 0} (nodes rounds : ℕ) (heard settled : List (Term V)) : Type 0 where
  pub heard_ok : length heard ≡ section_at (nodes - 1) (kept_nodes rounds)
  pub settled_ok : length settled ≡ section_at (nodes - 1) (kept_nodes rounds)
  pub known : AreKnown (map said heard)

-- the same room for the terms alone
pub record IsHeardRoom {V : Type 0} (nodes rounds : ℕ) (heard : List (Term V)) : Type 0 where
  pub heard_ok : length heard ≡ section_at (nodes - 1) (kept_nodes rounds)
  pub known : AreKnown (map said heard)

-- the members outside each path of up to as many nodes as there are rounds
pub record IsFreeRoom (nodes rounds : ℕ) (members : List ℕ) (sets : List (List ℕ)) : Type 0 where
  pub long : length sets ≡ free_begins nodes (suc rounds)
  pub free : AreFree members rounds sets
