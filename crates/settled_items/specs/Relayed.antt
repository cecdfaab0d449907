-- One member's item, as it is told and relayed.
use Rattle.std.specs.Prelude.{ℕ, ◌≡◌, ◌≢◌, ◌≤◌, true, List, [], ◌∷◌, All, Option, IfSome, length, slice_index_or}
use Rattle.node_grid.specs.Capacity.{IsCapacity}
use Rattle.node_grid.specs.NodeSet.{has_id}
use Rattle.omh_paths.specs.declared.wrapped.Wrapped.{Wrapped}
use Rattle.omh_paths.specs.declared.wrapped.Wrapped.TheVariants.{Fault}
use Rattle.omh.specs.Omh.{World}
use Rattle.omh.specs.Written.{IsSmall}
use Rattle.settled_paths.specs.Passing.{passing_world, or_passed}
use Rattle.settled_items.specs.declared.relayed.Relayed.{Relayed}
use Rattle.settled_items.specs.Relaying.{AreOddHeard}

-- the world of it
abbrev pub relayed_world : {V T : Type 0} {n : ℕ} → (T → ℕ → List ℕ → Option (Wrapped V)) → Relayed V T n → World V
relayed_world says x = passing_world x.exchange.rounds x.exchange.members x.exchange.full x.own.now (says x.touched.now)

-- it is a member's item in at most three rounds, all Full members are awake, odd members' relays alone are heard otherwise than they
-- are passed on, and no error comes to be wrapped more than 254 times
pub record IsRelayed {V T : Type 0} {n : ℕ} (says : T → ℕ → List ℕ → Option (Wrapped V)) (x : Relayed V T n) : Type 0 where
  pub capacity_ok : IsCapacity n
  pub rounds_ok : x.exchange.rounds ≤ 3
  pub member : has_id x.exchange.members x.exchange.commander ≡ true
  pub awake : (q : ℕ) → has_id x.exchange.members q ≡ true → has_id x.exchange.full q ≡ true → has_id x.exchange.awake q ≡ true
  pub own_small : IsSmall 251 x.own.now
  pub said_small : (i : ℕ) (path : List ℕ) → IfSome (says x.touched.now i path) (λ v. IsSmall 251 v)
  pub odd_heard : AreOddHeard x.exchange.rounds x.exchange.members x.exchange.commander x.odd (λ i. has_id x.exchange.awake i) (says x.touched.now)

-- by node what the commander told each awake node; no value is the error that can't be wrapped once more
pub record IsToldByNode {V T : Type 0} {n : ℕ} (says : T → ℕ → List ℕ → Option (Wrapped V)) (x : Relayed V T n) (told : List (Wrapped V)) : Type 0 where
  pub places : length told ≡ n
  pub told_are : (i : ℕ) → has_id x.exchange.awake i ≡ true → slice_index_or told i (Fault 0) ≡ or_passed (says x.touched.now i (x.exchange.commander ∷ [])) x.own.now
  pub known : All (λ v. v ≢ Fault 255) told
