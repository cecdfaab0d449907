-- What untouched frames say, by the members of sender and receiver.
use Rattle.std.proofs.Common.{ℕ, suc, ◌≡◌, ◌≤◌, true, false, List, reverse, None, refl, ap, subst, ◌∙◌, arith}
use Rattle.std.proofs.lemmas.Bool.{cond-true, cond-false}
use Rattle.std.proofs.lemmas.List.{length-map}
use Rattle.node_grid.specs.ListFacts.{all_map}
use Rattle.omh_paths.specs.Wrapped.{wrapped}
use Rattle.frames.specs.Content.{IsEntry}
use Rattle.frames.specs.Spelling.{IsInRange}
use Rattle.protocol.specs.Arrival.{Arrival}
use Rattle.protocol.specs.Arrival.Arrival.{Bad, Good}
use Rattle.protocol.specs.Heard.{paths_of, looked_up, with_entries, heard}
use Rattle.protocol.specs.Talk.{Talk, arrives, rounds_upto}
use Rattle.protocol.specs.TalkLaws.{first_at, relay_at}
use Rattle.protocol.specs.Run.{System}
use Rattle.safety.proofs.Arrivals.{Grammar, arrives_clean, arrives_cold}
use Rattle.safety.proofs.Talks.{FormFits, HeardIn, entries_of, heard_in, wrap_heard}
use Rattle.touched_items.specs.Items.{talk_of}
use Rattle.protocol.specs.Arrival.{ItemForm}

module _ (g : Grammar) {V : Type 0} (P : V → Type 0) (form : ItemForm V) (first : ℕ → ℕ) (tells : System → ℕ → ℕ → V) (sys : System) (p m : ℕ)
    (fits : FormFits P (talk_of form first tells sys p) m) where
  abbrev t : Talk V
  t = talk_of form first tells sys p

  -- what a Full node says in a relay round is in range of what it expects itself
  pub sent_in_range : (k j : ℕ) → suc k ≤ m → IsInRange (t.expect (suc k) j (t.members j)) (form.relay (entries_of t (t.members j) k j))
  sent_in_range k j low =
      fits.relay_sent (suc k) j j (entries_of t (t.members j) k j) (omega arith) low
      (length-map (paths_of (t.members j) (suc k) j) (λ path. wrapped (heard (rounds_upto t k j) path)))
      (all_map (IsEntry P (suc k)) (λ path. wrapped (heard (rounds_upto t k j) path)) (paths_of (t.members j) (suc k) j)
      (λ path. wrap_heard P k (heard (rounds_upto t k j) path) (heard_in t g P m fits k j (reverse path) (omega arith))))

  -- entries for the paths by which a node reads it are in range of what that node expects
  pub read_in_range : (k j i : ℕ) → suc k ≤ m → IsInRange (t.expect (suc k) j (t.members i)) (form.relay (entries_of t (t.members i) k j))
  read_in_range k j i low =
      fits.relay_sent (suc k) j i (entries_of t (t.members i) k j) (omega arith) low
      (length-map (paths_of (t.members i) (suc k) j) (λ path. wrapped (heard (rounds_upto t k j) path)))
      (all_map (IsEntry P (suc k)) (λ path. wrapped (heard (rounds_upto t k j) path)) (paths_of (t.members i) (suc k) j)
      (λ path. wrap_heard P k (heard (rounds_upto t k j) path) (heard_in t g P m fits k j (reverse path) (omega arith))))

  -- what was heard
  pub heard_small : (i : ℕ) (path : List ℕ) → HeardIn P m (heard (rounds_upto t m i) path)
  heard_small i path = heard_in t g P m fits m i (reverse path) (omega arith)

  -- an untouched first frame
  pub first_full : (j i : ℕ) → t.full j ≡ true → t.change 0 j i ≡ None → (rounds_upto t m i).first j ≡ Good (t.item j)
  first_full j i f clean =
      ap (λ (h : ℕ → Arrival V). h j) (first_at t m i)
      ∙ ap (arrives form.item_in (t.change 0 j i) (t.expect 0 j (t.members j)) (t.expect 0 j (t.members i))) (cond-true (t.full j) _ _ f)
      ∙ arrives_clean g form.item_in (t.change 0 j i) (t.expect 0 j (t.members i)) (t.expect 0 j (t.members i)) _ _ clean refl (fits.item_sent j i) (fits.item_back _)

  pub first_idle : (j i : ℕ) → t.full j ≡ false → t.change 0 j i ≡ None → (rounds_upto t m i).first j ≡ Bad 3
  first_idle j i f clean =
      ap (λ (h : ℕ → Arrival V). h j) (first_at t m i)
      ∙ arrives_cold g form.item_in (t.change 0 j i) (t.expect 0 j (t.members j)) (t.expect 0 j (t.members i)) _ clean (fits.heads 0 j (t.members i) (t.members j)) (cond-false (t.full j) _ _ f)

  -- an untouched relay frame
  pub relay_full : (k j i : ℕ) → suc k ≤ m → t.full j ≡ true → t.members j ≡ t.members i → t.change (suc k) j i ≡ None
      → (rounds_upto t m i).relay (suc k) j ≡ Good (looked_up (paths_of (t.members i) (suc k) j) (entries_of t (t.members j) k j))
  relay_full k j i low f same clean =
      relay_at t m k i j (omega arith)
      ∙ ap (with_entries (paths_of (t.members i) (suc k) j))
      (ap (arrives form.relay_in (t.change (suc k) j i) (t.expect (suc k) j (t.members j)) (t.expect (suc k) j (t.members i))) (cond-true (t.full j) _ _ f)
      ∙ arrives_clean g form.relay_in (t.change (suc k) j i) (t.expect (suc k) j (t.members j)) (t.expect (suc k) j (t.members i)) _ _
      clean (ap (t.expect (suc k) j) same) (subst (λ (ms : List ℕ). IsInRange (t.expect (suc k) j ms) (form.relay (entries_of t (t.members j) k j))) same (sent_in_range k j low)) (fits.relay_back _))

  pub relay_idle : (k j i : ℕ) → suc k ≤ m → t.full j ≡ false → t.change (suc k) j i ≡ None → (rounds_upto t m i).relay (suc k) j ≡ Bad 3
  relay_idle k j i low f clean =
      relay_at t m k i j (omega arith)
      ∙ ap (with_entries (paths_of (t.members i) (suc k) j))
      (arrives_cold g form.relay_in (t.change (suc k) j i) (t.expect (suc k) j (t.members j)) (t.expect (suc k) j (t.members i)) _
      clean (fits.heads (suc k) j (t.members i) (t.members j)) (cond-false (t.full j) _ _ f))
