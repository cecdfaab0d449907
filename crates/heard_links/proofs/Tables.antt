-- What stands in the table, and what stays there.
use Rattle.std.proofs.Common.{ℕ, ◌≡◌, ◌≢◌, ◌<◌, ◌≤◌, ◌+◌, ◌*◌, true, false, List, [], ◌⊎◌, sym, ap, ap₂, subst, inl, inr, arith}
use Rattle.std.specs.Prelude.{slice_index_or}
use Rattle.std.proofs.lemmas.Bool.{cases_eq, cond-true, cond-false}
use Rattle.node_grid.specs.Capacity.{IsCapacity}
use Rattle.node_grid.specs.NodeSet.{has_id}
use Rattle.protocol.specs.Arrival.{ItemForm}
use Rattle.protocol.specs.Talk.{Talk}
use Rattle.protocol.specs.Run.{System}
use Rattle.heard_links.specs.declared.came.Came.TheVariants as came
use Rattle.heard_links.specs.declared.links.Links.{Links}
use Rattle.heard_links.specs.declared.phase.Phase.{Phase}
use Rattle.heard_links.specs.Talks.{phase_talk, IsPhaseOf}
use Rattle.heard_links.specs.Hearing.{IsCame, item_of, link_at, came_at, talk_in, IsHeard}

-- links apart have places apart
record AreSame (r j i s k h : ℕ) : Type 0 where
  round : r ≡ s
  from : j ≡ k
  to : i ≡ h

apart_at : (n : ℕ) → IsCapacity n → (r j i s k h : ℕ) → j < n → i < n → k < n → h < n → link_at n r j i ≡ link_at n s k h → AreSame r j i s k h
apart_at n (inl e) = subst (λ (n : ℕ). (r j i s k h : ℕ) → j < n → i < n → k < n → h < n → link_at n r j i ≡ link_at n s k h → AreSame r j i s k h) (sym e) eight where
  eight : (r j i s k h : ℕ) → j < 8 → i < 8 → k < 8 → h < 8 → (r * 8 + j) * 8 + i ≡ (s * 8 + k) * 8 + h → AreSame r j i s k h
  eight r j i s k h a b c d e = record { round = omega arith; from = omega arith; to = omega arith }
apart_at n (inr e) = subst (λ (n : ℕ). (r j i s k h : ℕ) → j < n → i < n → k < n → h < n → link_at n r j i ≡ link_at n s k h → AreSame r j i s k h) (sym e) sixteen where
  sixteen : (r j i s k h : ℕ) → j < 16 → i < 16 → k < 16 → h < 16 → (r * 16 + j) * 16 + i ≡ (s * 16 + k) * 16 + h → AreSame r j i s k h
  sixteen r j i s k h a b c d e = record { round = omega arith; from = omega arith; to = omega arith }

pub links_apart : (n : ℕ) → IsCapacity n → (r j i s k h : ℕ) → j < n → i < n → k < n → h < n → (r ≢ s) ⊎ (j ≢ k) → link_at n r j i ≢ link_at n s k h
links_apart n cap r j i s k h a b c d (inl ne) e = ne (apart_at n cap r j i s k h a b c d e).round
links_apart n cap r j i s k h a b c d (inr ne) e = ne (apart_at n cap r j i s k h a b c d e).from

pub receivers_apart : (n : ℕ) → IsCapacity n → (r j i h : ℕ) → j < n → i < n → h < n → i ≢ h → link_at n r j i ≢ link_at n r j h
receivers_apart n cap r j i h a b d ne e = ne (apart_at n cap r j i r j h a b a d e).to

-- the talk is told by the items alone
pub same_talk : {V : Type 0} {N : ℕ} (form : ItemForm V) (x : Phase N) (a b : Links V N) → b.told.items ≡ a.told.items → b.blank ≡ a.blank → talk_in form x b ≡ talk_in form x a
same_talk {V} form x a b told blank = ap₂ (λ (xs : List V) (d : V). phase_talk form x (λ j. slice_index_or xs j d)) told (ap (λ d. d.value) blank)

pub same_item : {V : Type 0} {N : ℕ} (a b : Links V N) → b.told.items ≡ a.told.items → b.blank ≡ a.blank → (j : ℕ) → item_of b j ≡ item_of a j
same_item {V} a b told blank j = ap₂ (λ (xs : List V) (d : V). slice_index_or xs j d) told (ap (λ d. d.value) blank)

module _ {V : Type 0} {N : ℕ} (form : ItemForm V) (first : ℕ → ℕ) (tells : System → ℕ → ℕ → V) (x : Phase N) where
  -- what stands in a table stands in another one with the same items
  pub heard_kept : (a b : Links V N) (upto : ℕ) → IsHeard form first tells x a upto → b.told.items ≡ a.told.items → b.blank ≡ a.blank
      → ((r j i : ℕ) → r < upto → j < x.config.now.nodes → has_id x.awake i ≡ true → i ≢ j → came_at b r j i ≡ came_at a r j i) → IsHeard form first tells x b upto
  heard_kept a b upto h told blank same = record {
    set = h.set;
    sys = h.sys;
    run = subst (λ (those : ℕ → V). IsPhaseOf form first tells h.sys x those) (ap₂ (λ (xs : List V) (d : V). λ (j : ℕ). slice_index_or xs j d) (sym told) (ap (λ d. d.value) (sym blank))) h.run;
    heard = λ r j i low low_j on ne.
        subst (λ (t : Talk V). IsCame t x.config.now.m r j i (came_at b r j i)) (sym (same_talk form x a b told blank))
        (subst (IsCame (talk_in form x a) x.config.now.m r j i) (sym (same r j i low low_j on ne)) (h.heard r j i low low_j on ne));
  }

  -- and with one round more
  pub heard_more : (a : Links V N) (upto : ℕ) → IsHeard form first tells x a upto
      → ((j i : ℕ) → j < x.config.now.nodes → has_id x.awake i ≡ true → i ≢ j → IsCame (talk_in form x a) x.config.now.m upto j i (came_at a upto j i)) → IsHeard form first tells x a (upto + 1)
  heard_more a upto h here = record {
    set = h.set;
    sys = h.sys;
    run = h.run;
    heard = λ r j i low low_j on ne. elim (cases_eq r upto) [
      | inl e ↦ subst (λ (n : ℕ). IsCame (talk_in form x a) x.config.now.m n j i (came_at a n j i)) (sym e) (here j i low_j on ne)
      | inr other ↦ h.heard r j i (omega arith) low_j on ne
    ];
  }

  -- of fewer rounds
  pub heard_fewer : (a : Links V N) (upto fewer : ℕ) → fewer ≤ upto → IsHeard form first tells x a upto → IsHeard form first tells x a fewer
  heard_fewer a upto fewer le h = record { set = h.set; sys = h.sys; run = h.run; heard = λ r j i low low_j on ne. h.heard r j i (omega arith) low_j on ne }

-- where nothing is laid down for a sender's frames, they are untouched
pub not_touched : {V : Type 0} {N : ℕ} (a : Links V N) (r j i : ℕ) → has_id (slice_index_or a.touched r []) j ≡ false → came_at a r j i ≡ came.Untouched
not_touched a r j i off = cond-false (has_id (slice_index_or a.touched r []) j) _ _ off

pub is_touched : {V : Type 0} {N : ℕ} (a : Links V N) (r j i : ℕ) → has_id (slice_index_or a.touched r []) j ≡ true → came_at a r j i ≡ slice_index_or a.came.items (link_at N r j i) came.Untouched
is_touched a r j i on = cond-true (has_id (slice_index_or a.touched r []) j) _ _ on
