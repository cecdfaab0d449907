-- The further kind of accusation that nodes have: whom a node convicts of telling different things to different members.
use Rattle.std.specs.Prelude.{ℕ, Bool, ◌&&◌, ◌==◌, nat_eq, List, is_some}
use Rattle.std.specs.Cmp.Lexicographic.{pointwise}
use Rattle.node_grid.specs.Kinds.{equivocate}
use Rattle.node_grid.specs.NodeSet.{has_id}
use Rattle.omh.specs.Omh.{Ear}
use Rattle.equivocation.specs.Conviction.{convicts}
use Rattle.protocol.specs.Settled.{ear_of}
use Rattle.protocol.specs.View.{Further}
use Rattle.protocol.specs.Cluster.{Cluster, begins, view}
use Rattle.protocol.specs.Run.{members_in}

-- whether the node convicts another member
abbrev pub convicts_member : {V : Type 0} → (V → V → Bool) → Ear V → ℕ → Bool
convicts_member eq x c = has_id x.members c && convicts eq x c

-- with m relay rounds, members that a node convicts over the claims, and, for its next row, over the rows
abbrev pub convictions : ℕ → Further
convictions m = record {
  claims = λ i full members x j k. k == equivocate && convicts_member nat_eq (ear_of m i full members x) j;
  rows = λ i full members x j k. k == equivocate && convicts_member (pointwise ◌==◌) (ear_of m i full members x) j;
}

-- what node i knows of the claims of a period, and of the rows
abbrev pub ear_of_claims : Cluster → ℕ → ℕ → Ear ℕ
ear_of_claims cl i p = ear_of cl.setting.config.m i (is_some (begins cl i p).state) (members_in (view cl i p).before) (cl.received i p).done

abbrev pub ear_of_rows : Cluster → ℕ → ℕ → Ear (List ℕ)
ear_of_rows cl i p = ear_of cl.setting.config.m i (is_some (begins cl i p).state) (members_in (view cl i p).before) (cl.received i p).report
