-- What a table has after something is laid down in it.
use Rattle.std.proofs.Common.{ℕ, ◌≡◌, ◌≢◌, ◌<◌, ◌≤◌, ◌⊎◌, ◌==◌, ◌||◌, Bool, true, false, not, List, [], ◌∷◌, length, refl, sym, ap, ap₂, ◌∙◌, inl, arith, eq-eqb, get_or, set, get_or-set_same, get_or-set_other}
use Rattle.std.specs.Prelude.{if◌then◌else◌, is_none, slice_index_or}
use Rattle.std.specs.Cmp.Lexicographic.{pointwise}
use Rattle.std.proofs.lemmas.Bool.{and_from, or_right}
use Rattle.node_grid.specs.Capacity.{IsCapacity}
use Rattle.node_grid.specs.NodeSet.{has_id}
use Rattle.protocol.specs.Arrival.{ItemForm}
use Rattle.protocol.specs.Run.{System}
use Rattle.heard_links.specs.declared.came.Came.{Came}
use Rattle.heard_links.specs.declared.came.Came.TheVariants as came
use Rattle.heard_links.specs.declared.links.Links.{Links}
use Rattle.heard_links.specs.declared.phase.Phase.{Phase}
use Rattle.heard_links.specs.Talks.{IsJudged, IsSet}
use Rattle.heard_links.specs.Hearing.{IsHeard, link_at, came_at, is_even, talk_in}
use Rattle.heard_links.proofs.Sets.{node_low}
use Rattle.heard_links.proofs.Tables.{links_apart, receivers_apart, heard_kept}

-- a table that has the same senders and the same at a place
pub came_alike : {V : Type 0} {N : ℕ} (a b : Links V N) (r j i : ℕ) → has_id (slice_index_or b.touched r []) j ≡ has_id (slice_index_or a.touched r []) j
    → slice_index_or b.came.items (link_at N r j i) came.Untouched ≡ slice_index_or a.came.items (link_at N r j i) came.Untouched → came_at b r j i ≡ came_at a r j i
came_alike {V} {N} a b r j i sets items = ap₂ (λ (h : Bool) (c : Came V). if h then c else came.Untouched) sets items

module _ {V : Type 0} (n : ℕ) (cap : IsCapacity n) (items : List (Came V)) (r j i : ℕ) (c : Came V) where
  -- at the place where something is laid down, and at another receiver's
  pub laid_here : link_at n r j i < length items → get_or (set items (link_at n r j i) c) (link_at n r j i) came.Untouched ≡ c
  laid_here room = get_or-set_same items (link_at n r j i) c came.Untouched room

  pub laid_beside : (h : ℕ) → j < n → i < n → h < n → h ≢ i → get_or (set items (link_at n r j i) c) (link_at n r j h) came.Untouched ≡ get_or items (link_at n r j h) came.Untouched
  laid_beside h low_j low_i low_h ne = get_or-set_other items (link_at n r j i) (link_at n r j h) c came.Untouched (receivers_apart n cap r j h i low_j low_h low_i ne)

  -- and at those of another round or sender
  pub laid_apart : (s k h : ℕ) → j < n → i < n → k < n → h < n → (s ≢ r) ⊎ (k ≢ j)
      → get_or (set items (link_at n r j i) c) (link_at n s k h) came.Untouched ≡ get_or items (link_at n s k h) came.Untouched
  laid_apart s k h low_j low_i low_k low_h ne = get_or-set_other items (link_at n r j i) (link_at n s k h) c came.Untouched (links_apart n cap s k h r j i low_k low_h low_j low_i ne)

-- what came in the rounds before is laid down where one sender's frames are under way
pub heard_beside : {V : Type 0} {N : ℕ} (form : ItemForm V) (first : ℕ → ℕ) (tells : System → ℕ → ℕ → V) (x : Phase N) (a b : Links V N) (r j : ℕ) → IsHeard form first tells x a r → b.told.items ≡ a.told.items
    → b.blank ≡ a.blank → b.touched ≡ a.touched
    → ((s k i : ℕ) → k < N → i < N → (s ≢ r) ⊎ (k ≢ j) → get_or b.came.items (link_at N s k i) came.Untouched ≡ get_or a.came.items (link_at N s k i) came.Untouched) → IsHeard form first tells x b r
heard_beside form first tells x a b r j h told blank touched kept =
    heard_kept form first tells x a b r h told blank
    (λ s k i low low_k on ne. came_alike a b s k i (ap (λ (sets : List (List ℕ)). has_id (slice_index_or sets s []) k) touched)
    (kept s k i (node_low x h.set k low_k) (node_low x h.set i (h.set.awake i on)) (inl (λ e. omega arith))))

same_self : (xs : List ℕ) → pointwise ◌==◌ xs xs ≡ true
same_self [] = refl
same_self (x ∷ xs) = and_from (x == x) _ (eq-eqb x x refl) (same_self xs)

-- frames of nodes that need no look are even
pub judged_even : {V : Type 0} {N : ℕ} (form : ItemForm V) (x : Phase N) (links : Links V N) (judged : List ℕ) → IsSet x → IsJudged x judged → (r j i : ℕ) → r ≤ x.config.now.m → j < x.config.now.nodes
    → has_id judged j ≡ false → has_id x.awake i ≡ true → i ≢ j → is_even (talk_in form x links) r j i ≡ true
judged_even form x links judged set is r j i few low off on ne =
    let t = talk_in form x links in
    and_from (is_none (t.change r j i)) _ (ap is_none (is.clean r j i few low (set.awake i on) ne off))
    (or_right (r == 0) _ (read (has_id x.full j) refl)) where
      read : (full : Bool) → has_id x.full j ≡ full → (not full || pointwise ◌==◌ ((talk_in form x links).members j) ((talk_in form x links).members i)) ≡ true
      read false f = refl
      read true f = ap (λ (ms : List ℕ). pointwise ◌==◌ ((talk_in form x links).members j) ms) (sym (is.same j i (set.full j f) on off)) ∙ same_self ((talk_in form x links).members j)
