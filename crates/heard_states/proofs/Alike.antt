-- What depends on what a node has of the others alone.
use Rattle.std.proofs.Common.{ℕ, ◌≡◌, ◌≢◌, ◌<◌, Bool, true, false, not, ◌&&◌, ◌==◌, List, map, Option, None, Some, refl, sym, ap, arith, nat_lt, eq-eqb, ltb-true}
use Rattle.std.specs.Prelude.{if◌then◌else◌, is_some}
use Rattle.std.proofs.Math.Path.{fun_ext}
use Rattle.node_grid.specs.NodeSet.{ids_below, ids_where}
use Rattle.node_grid.specs.NodeSetLaws.{filter_range}
use Rattle.agreed_state.specs.Agreed.{AgreedView}
use Rattle.agreed_state.specs.Adoption.{adopted}
use Rattle.protocol.specs.Arrival.{Arrival}
use Rattle.protocol.specs.View.{Setting, content, adopted_by}

-- of the other nodes in use
abbrev pub SameOfOthers : {X : Type 0} → ℕ → ℕ → (ℕ → X) → (ℕ → X) → Type 0
SameOfOthers nodes i x y = (j : ℕ) → j < nodes → j ≢ i → x j ≡ y j

pub same_map : {X : Type 0} (n : ℕ) (f g : ℕ → X) → ((i : ℕ) → f i ≡ g i) → map f (ids_below n) ≡ map g (ids_below n)
same_map n f g h = ap (λ (e : ℕ → _). map e (ids_below n)) (fun_ext h)

-- the others whose frames are good
pub good_alike : (nodes i : ℕ) (x y : ℕ → Bool) → SameOfOthers nodes i x y → ids_where (λ j. not (j == i) && x j) nodes ≡ ids_where (λ j. not (j == i) && y j) nodes
good_alike nodes i x y same = filter_range (λ j. not (j == i) && x j) (λ j. not (j == i) && y j) 0 nodes (λ j low high. by j (omega arith) (j == i) refl)
  where
    by : (j : ℕ) → j < nodes → (b : Bool) → (j == i) ≡ b → (not (j == i) && x j) ≡ (not (j == i) && y j)
    by j low true e = rw e refl
    by j low false e = ap (λ b. not (j == i) && b) (same j low (eqb-other e))
      where
        eqb-other : (j == i) ≡ false → j ≢ i
        eqb-other h s = absurd (let t : (j == i) ≡ true = eq-eqb j i s in cc)

-- the state that is adopted
pub adopted_alike : (s : Setting) (i : ℕ) (x y : ℕ → Arrival (List ℕ)) → SameOfOthers s.config.nodes i x y → adopted_by s i x ≡ adopted_by s i y
unfolding adopted_by
adopted_alike s i x y same =
    ap (adopted s.capacity s.config) (same_map s.capacity (λ j. if nat_lt j s.config.nodes && not (j == i) then content (x j) else None) (λ j. if nat_lt j s.config.nodes && not (j == i) then content (y j) else None)
    (λ j. by j (nat_lt j s.config.nodes) refl (j == i) refl))
  where
    by : (j : ℕ) (a : Bool) → nat_lt j s.config.nodes ≡ a → (b : Bool) → (j == i) ≡ b
        → ◌≡◌ {A = Option (List ℕ)} (if nat_lt j s.config.nodes && not (j == i) then content (x j) else None) (if nat_lt j s.config.nodes && not (j == i) then content (y j) else None)
    by j false low b e = rw low refl
    by j true low true e = rw (low, e) refl
    by j true low false e = rw (low, e) (ap content (same j (ltb-true j s.config.nodes low) (λ q. absurd (let t : (j == i) ≡ true = eq-eqb j i q in cc))))

-- where all others are good
pub others_good : (nodes i : ℕ) (y : ℕ → Bool) → ((j : ℕ) → j < nodes → j ≢ i → y j ≡ true) → ids_where (λ j. not (j == i)) nodes ≡ ids_where (λ j. not (j == i) && y j) nodes
others_good nodes i y all = filter_range (λ j. not (j == i)) (λ j. not (j == i) && y j) 0 nodes (λ j low high. by j (omega arith) (j == i) refl)
  where
    by : (j : ℕ) → j < nodes → (b : Bool) → (j == i) ≡ b → not (j == i) ≡ (not (j == i) && y j)
    by j low true e = rw e refl
    by j low false e = rw e (sym (all j low (λ q. absurd (let t : (j == i) ≡ true = eq-eqb j i q in cc))))

pub some_at : (o : Option AgreedView) → is_some o ≡ true → (a : AgreedView) × (o ≡ Some a)
some_at None h = absurd (cc)
some_at (Some a) h = (a, refl)
