-- Plans worked out by computation: each class, in several periods.
use Rattle.std.proofs.Common.{◌≡◌, ℕ, List, [], ◌∷◌, map, None, Some, refl}
use Rattle.node_grid.specs.declared.class.Class.{Class}
use Rattle.node_grid.specs.declared.class.Class.TheVariants.{N, J, B, S, A}
use Rattle.node_grid.specs.NodeSet.{ids_below}
use Rattle.fault_classes.specs.declared.line.Restart.{Restart}
use Rattle.fault_classes.specs.Change.{Change}
use Rattle.fault_classes.specs.Change.Change.{Drop, Cut, Time, Set, Raw}
use Rattle.fault_classes.specs.Line.{Line, effect_at}
use Rattle.fault_classes.specs.Plan.{Plan, class_of, sound_before, reference_of}

line : ℕ → List ℕ → ℕ → ℕ → List ℕ → Change → Line
line from to first last slots change = record { from = from; to = to; first = first; last = last; slots = slots; change = change }

restart : ℕ → ℕ → Restart
restart node period = record { node = node; period = period }

classes_in : Plan → ℕ → List Class
classes_in plan p = map (class_of plan p) (ids_below plan.nodes)

-- Five nodes. Nodes 3 and 4 do not reach node 0 in period 1, where it restarts: two nodes of class N outnumber none.
recovers : Plan
recovers = record {
  nodes = 5;
  rounds = 0;
  periods = 3;
  lines = line 4 (0 ∷ 1 ∷ []) 0 0 (0 ∷ []) Drop
      ∷ line 3 (1 ∷ []) 0 0 (3 ∷ []) (Set 22 (0 ∷ 1 ∷ []))
      ∷ line 3 (0 ∷ []) 1 1 (0 ∷ []) Drop
      ∷ line 4 (0 ∷ []) 1 1 (0 ∷ []) Drop ∷ [];
  restarts = restart 0 1 ∷ [];
}

recovers_0 : classes_in recovers 0 ≡ N ∷ N ∷ N ∷ A ∷ A ∷ []
unfolding classes_in recovers line restart class_of sound_before
recovers_0 = refl

recovers_1 : classes_in recovers 1 ≡ J ∷ N ∷ N ∷ A ∷ A ∷ []
unfolding classes_in recovers line restart class_of sound_before
recovers_1 = refl

-- nodes 3 and 4 are clean, and still unsound
recovers_2 : classes_in recovers 2 ≡ N ∷ N ∷ N ∷ S ∷ S ∷ []
unfolding classes_in recovers line restart class_of sound_before
recovers_2 = refl

recovers_reference : (reference_of recovers 1 ≡ Some 1) × (reference_of recovers 2 ≡ Some 0)
unfolding classes_in recovers line restart class_of sound_before
recovers_reference = (refl, refl)

-- Three nodes that restart at once: nobody is of class N, so nobody recovers.
alone : Plan
alone = record { nodes = 3; rounds = 0; periods = 2; lines = []; restarts = restart 0 1 ∷ restart 1 1 ∷ restart 2 1 ∷ [] }

alone_1 : (classes_in alone 1 ≡ S ∷ S ∷ S ∷ []) × (reference_of alone 1 ≡ None)
unfolding classes_in alone restart class_of sound_before
alone_1 = (refl, refl)

-- A restart amid three nodes that tell all the same untruth: one node of class N doesn't outnumber them.
amid_liars : Plan
amid_liars = record {
  nodes = 5;
  rounds = 0;
  periods = 3;
  lines = line 1 (0 ∷ 2 ∷ 3 ∷ 4 ∷ []) 2 2 (0 ∷ []) (Set 16 (0 ∷ 7 ∷ []))
      ∷ line 2 (0 ∷ 1 ∷ 3 ∷ 4 ∷ []) 2 2 (0 ∷ []) (Set 16 (0 ∷ 7 ∷ []))
      ∷ line 3 (0 ∷ 1 ∷ 2 ∷ 4 ∷ []) 2 2 (0 ∷ []) (Set 16 (0 ∷ 7 ∷ [])) ∷ [];
  restarts = restart 4 2 ∷ [];
}

amid_liars_2 : classes_in amid_liars 2 ≡ N ∷ S ∷ S ∷ S ∷ S ∷ []
unfolding classes_in amid_liars line restart class_of sound_before
amid_liars_2 = refl

-- Three nodes and two liars: a tie does not suffice, and one node more does.
at_a_tie : ℕ → Plan
at_a_tie nodes = record {
  nodes = nodes;
  rounds = 0;
  periods = 2;
  lines = line 1 (2 ∷ []) 1 1 (0 ∷ []) (Raw []) ∷ [];
  restarts = restart 2 1 ∷ [];
}

at_a_tie_1 : (classes_in (at_a_tie 3) 1 ≡ N ∷ A ∷ S ∷ []) × (classes_in (at_a_tie 4) 1 ≡ N ∷ A ∷ J ∷ N ∷ [])
unfolding classes_in at_a_tie line restart class_of sound_before
at_a_tie_1 = (refl, refl)

-- All of a node's frames are manifestly faulty, by different lines: it is benign. Two equal changes by two lines are alike.
silent : Plan
silent = record {
  nodes = 3;
  rounds = 0;
  periods = 1;
  lines = line 0 (1 ∷ []) 0 0 (0 ∷ 1 ∷ 2 ∷ 3 ∷ []) Drop
      ∷ line 0 (2 ∷ []) 0 0 (0 ∷ 1 ∷ []) (Cut 3)
      ∷ line 0 (2 ∷ []) 0 0 (2 ∷ 3 ∷ []) (Time 30)
      ∷ line 1 (0 ∷ []) 0 0 (1 ∷ []) (Raw (5 ∷ []))
      ∷ line 1 (2 ∷ []) 0 0 (1 ∷ []) (Raw (5 ∷ [])) ∷ [];
  restarts = [];
}

silent_0 : classes_in silent 0 ≡ B ∷ S ∷ N ∷ []
unfolding classes_in silent line class_of sound_before
silent_0 = refl

silent_effects : (effect_at silent.lines 0 2 0 2 ≡ Some (Time 30)) × (effect_at silent.lines 0 0 0 2 ≡ Some (Cut 3)) × (effect_at silent.lines 0 0 1 0 ≡ None)
unfolding silent line
silent_effects = (refl, refl, refl)
