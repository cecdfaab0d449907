-- What one more period makes of an illness.
use Rattle.std.specs.Prelude.{ℕ, ◌+◌, ◌<◌, ◌≤◌, Bool, true, ◌&&◌, Option, None, Some, is_some, if◌then◌else◌}
use Rattle.std.specs.Option.{option_or}
use Rattle.node_grid.specs.Class.{is_sound}
use Rattle.node_grid.specs.Count.{bit}
use Rattle.run_judged.specs.declared.illness.Illness.{Illness}
use Rattle.run_judged.specs.declared.illness.Sign.{Sign}
use Rattle.run_judged.specs.Illnesses.{worse}

-- what stands, or else period p where it is the one
abbrev pub or_now : Option ℕ → Bool → ℕ → Option ℕ
or_now before now p = option_or before (if now then Some p else None)

-- an illness of node j begins in period p
abbrev pub begun : ℕ → ℕ → Sign → Illness
begun p j s = record {
  node = j;
  onset = p;
  class = s.class;
  worst = s.class;
  touched = p;
  member = s.member;
  periods_a_member = bit s.member;
  charged = or_now None s.charged p;
  sound = None;
  relapse = None;
  left = or_now None s.left p;
  back = None;
}

-- the node leaves or joins after period p
abbrev pub moved : ℕ → Sign → Illness → Illness
moved p s x = record x { left = or_now x.left s.left p; back = or_now x.back (is_some x.left && s.joined) p }

-- it is ill in period p
abbrev pub suffered : ℕ → Sign → Illness → Illness
suffered p s x = record x {
  worst = if s.touched then worse x.worst s.class else x.worst;
  touched = if s.touched then p else x.touched;
  periods_a_member = x.periods_a_member + bit s.member;
  charged = or_now x.charged s.charged p;
}

abbrev pub grown : ℕ → Sign → Illness → Illness
grown p s x =
    if is_some x.relapse then x
    else (if is_sound s.class then moved p s (record x { sound = or_now x.sound true p })
    else (if is_some x.sound then record x { relapse = Some p }
    else moved p s (suffered p s x)))

-- an illness of one of these nodes, in n periods
pub record IsOf (nodes n : ℕ) (x : Illness) : Type 0 where
  pub node : x.node < nodes
  pub few : x.periods_a_member ≤ n
