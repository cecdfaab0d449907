-- The illnesses of a node: what is seen of the node in each of its periods, and what that amounts to.
use Rattle.std.specs.Prelude.{ℕ, zero, suc, Bool, true, not, ◌&&◌, nat_lt, List, [], ◌∷◌, map, Option, None, Some, unwrap_or, if◌then◌else◌}
use Rattle.std.specs.List.{filter, flat_map}
use Rattle.node_grid.specs.NodeSet.{ids_below, ids_where}
use Rattle.node_grid.specs.declared.class.Class.{Class}
use Rattle.node_grid.specs.declared.class.Class.TheVariants.{N, J, B, S, A}
use Rattle.node_grid.specs.Class.{is_sound}
use Rattle.node_grid.specs.Count.{count}
use Rattle.run_judged.specs.declared.illness.Illness.{Illness}
use Rattle.run_judged.specs.declared.illness.Sign.{Sign}
use Rattle.run_judged.specs.Numbers.{span, first_in}

-- ---- classes and numbers, one after another

-- A is worse than S, S than B, and B than the sound ones
abbrev pub badness : Class → ℕ
badness N = 0
badness J = 0
badness B = 1
badness S = 2
badness A = 3

abbrev pub worse : Class → Class → Class
worse c d = if nat_lt (badness c) (badness d) then d else c

-- the worst of a class and these
abbrev pub worst_of : Class → List Class → Class
worst_of c [] = c
worst_of c (d ∷ ds) = worst_of (worse c d) ds

-- the last of them, or else k
abbrev pub last_of : ℕ → List ℕ → ℕ
last_of k [] = k
last_of k (x ∷ xs) = last_of x xs

-- ---- a node, by what is seen of it in each period

abbrev pub is_ill : (ℕ → Sign) → ℕ → Bool
is_ill seen p = not (is_sound (seen p).class)

-- whether the node falls ill in a period: it is ill, and in the period before, if there is one, it was sound
abbrev pub falls_ill : (ℕ → Sign) → ℕ → Bool
falls_ill seen zero = is_ill seen zero
falls_ill seen (suc p) = is_ill seen (suc p) && not (is_ill seen p)

-- the nodes that were sound in the last of n periods; all before the first
abbrev pub sound_after : (ℕ → ℕ → Sign) → ℕ → ℕ → Bool
sound_after seen zero j = true
sound_after seen (suc p) j = is_sound (seen j p).class

-- the first period behind the one that it left in, below another, after which it is a member again
abbrev pub joined_behind : (ℕ → Sign) → Option ℕ → ℕ → Option ℕ
joined_behind seen None high = None
joined_behind seen (Some p) high = first_in (λ q. (seen q).joined) (suc p) high

-- an illness of node j that begins in period o, as far as n periods tell
module _ (seen : ℕ → Sign) (n o : ℕ) where
  -- the first period in which the node is sound again, and the first behind that in which it is ill again
  abbrev pub sound_at : Option ℕ
  sound_at = first_in (λ p. is_sound (seen p).class) o n

  abbrev pub relapse_at : Option ℕ
  relapse_at = first_in (is_ill seen) (unwrap_or sound_at n) n

  -- the periods in which it is ill, and those of them in which a line touches a frame of it
  abbrev pub ill_periods : List ℕ
  ill_periods = span o (unwrap_or sound_at n)

  abbrev pub touched_periods : List ℕ
  touched_periods = filter (λ p. (seen p).touched) ill_periods

  -- the first period of the illness in which it is charged
  abbrev pub charged_at : Option ℕ
  charged_at = first_in (λ p. (seen p).charged) o (unwrap_or sound_at n)

  -- the first period, up to the next illness, after which it is no member any more
  abbrev pub left_at : Option ℕ
  left_at = first_in (λ p. (seen p).left) o (unwrap_or relapse_at n)

  abbrev pub illness : ℕ → Illness
  illness j = record {
    node = j;
    onset = o;
    class = (seen o).class;
    worst = worst_of (seen o).class (map (λ p. (seen p).class) touched_periods);
    touched = last_of o touched_periods;
    member = (seen o).member;
    periods_a_member = count (λ p. (seen p).member) ill_periods;
    charged = charged_at;
    sound = sound_at;
    relapse = relapse_at;
    left = left_at;
    back = joined_behind seen left_at (unwrap_or relapse_at n);
  }

-- those of the nodes below a bound that begin in period o, by node, as far as n periods tell
abbrev pub illnesses_from : (ℕ → ℕ → Sign) → ℕ → ℕ → ℕ → List Illness
illnesses_from seen nodes n o = map (λ j. illness (seen j) n o j) (ids_where (λ j. falls_ill (seen j) o) nodes)

-- all of n periods, by period, then by node
unfoldable pub illnesses : (ℕ → ℕ → Sign) → ℕ → ℕ → List Illness
illnesses seen nodes n = flat_map (illnesses_from seen nodes n) (ids_below n)
