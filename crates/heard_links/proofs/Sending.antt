-- The relay frames of Full nodes, and the kinds of error that are found of them.
use Rattle.std.proofs.Common.{ℕ, zero, suc, ◌≡◌, ◌<◌, ◌≤◌, ◌&&◌, ◌||◌, ◌==◌, Bool, true, false, not, List, [], ◌∷◌, length, Option, Some, None, refl, ap, ◌∙◌, inl, inr, arith, slice_index_or}
use Rattle.std.specs.Prelude.{is_none, is_some, option_map}
use Rattle.std.specs.Cmp.Lexicographic.{pointwise}
use Rattle.std.proofs.lemmas.Bool.{cases_Bool, cond-true, cond-false}
use Rattle.std.proofs.lemmas.List.{length-map}
use Rattle.node_grid.specs.NodeSet.{has_id, without_id}
use Rattle.node_grid.specs.TruthFacts.{and_false}
use Rattle.omh_paths.specs.declared.wrapped.Wrapped.TheVariants.{Fault}
use Rattle.omh_paths.specs.Wrapped.{wrapped}
use Rattle.omh_paths.specs.Paths.{paths_of_length, path_at, paths_avoiding}
use Rattle.frames.specs.Content.{Content, Cold}
use Rattle.protocol.specs.Arrival.{ItemForm}
use Rattle.protocol.specs.Heard.{paths_of, heard}
use Rattle.protocol.specs.Talk.{Talk, arrives, rounds_upto}
use Rattle.protocol.specs.TalkLaws.{paths_of_member}
use Rattle.protocol.specs.Run.{System}
use Rattle.protocol.specs.Accepted.{IsAccepted}
use Rattle.safety.proofs.Talks.{FormFits}
use Rattle.touched_items.specs.Items.{talk_of, EntryForm, AreEntries, Sizes, sizes_in, IsSent, bad_kind}
use Rattle.heard_links.specs.declared.links.Links.{Links}
use Rattle.heard_links.specs.declared.phase.Phase.{Phase}
use Rattle.heard_links.specs.Talks.{members_at, IsSet, IsPhaseOf}
use Rattle.heard_links.specs.Hearing.{frame_kind, is_even, item_of, talk_in, passed_on, sent_by}
use Rattle.heard_links.proofs.Looking.{passed_at}
use Rattle.heard_links.proofs.Places.{got_at}
use Rattle.heard_links.proofs.Runs.{bad_with, relay_is, relay_kind_is, sent, content_of}

-- who speaks of a path is a member
pub on_of : (its : List ℕ) (r j k : ℕ) → k < length (paths_of its r j) → has_id its j ≡ true
on_of its r j k low = elim (cases_Bool (has_id its j)) [
  | inl on ↦ on
  | inr off ↦ absurd (omega (arith, low, ap length (cond-false (has_id its j) (paths_avoiding its (j ∷ []) r) [] off)))
]

-- the entries of a relay frame
module _ {V : Type 0} {N : ℕ} (form : ItemForm V) (x : Phase N) (links : Links V N) (r j : ℕ) where
  pub sent_long : length (sent_by form x links r j) ≡ length (paths_of (members_at x j) r j)
  sent_long = length-map (paths_of (members_at x j) r j) (λ path. wrapped (heard (rounds_upto (talk_in form x links) x.config.now.m j) path))

  pub sent_entry : (k : ℕ) → k < length (paths_of (members_at x j) r j) → has_id (members_at x j) j ≡ true
      → slice_index_or (sent_by form x links r j) k (Fault 0) ≡ wrapped (heard (rounds_upto (talk_in form x links) x.config.now.m j) (path_at (paths_of_length (without_id (members_at x j) j) r) k))
  sent_entry k low on =
      passed_at (heard (rounds_upto (talk_in form x links) x.config.now.m j)) (paths_of (members_at x j) r j) k
      ∙ ap (passed_on (heard (rounds_upto (talk_in form x links) x.config.now.m j)))
      (got_at (paths_of (members_at x j) r j) k low ∙ ap (λ (ps : List (List ℕ)). Some (path_at ps k)) (paths_of_member (members_at x j) r j on))

module _ {V : Type 0} {N : ℕ} (form : ItemForm V) (first : ℕ → ℕ) (tells : System → ℕ → ℕ → V) (cells : EntryForm V) (in_range : Sizes → V → Type 0) (made : AreEntries form cells in_range)
    (fits : (sys : System) → IsAccepted sys → (p : ℕ) → FormFits (in_range (sizes_in sys)) (talk_of form first tells sys p) sys.setting.config.m)
    (x : Phase N) (links : Links V N) (set : IsSet x) (sys : System) (run : IsPhaseOf form first tells sys x (item_of links)) where
  abbrev t : Talk V
  t = talk_in form x links

  relay_kind_at : (r j i : ℕ) → 0 < r → r ≤ x.config.now.m → frame_kind (rounds_upto t x.config.now.m i) r j
      ≡ bad_kind (arrives form.relay_in (t.change r j i) (t.expect r j (t.members i)) (t.expect r j (t.members i)) (content_of form first tells cells in_range made fits x (item_of links) set sys run r j))
  relay_kind_at zero j i some few = absurd (omega arith)
  relay_kind_at (suc k) j i some few =
      relay_kind_is (rounds_upto t x.config.now.m i) k j ∙ ap bad_kind (relay_is form first tells cells in_range made fits x (item_of links) set sys run k j i few)
      ∙ bad_with (paths_of (t.members i) (suc k) j) _

  -- of a relay frame of a node that isn't Full, and of a Full one's
  pub kind_cold : (r j i : ℕ) → 0 < r → r ≤ x.config.now.m → has_id x.full j ≡ false → frame_kind (rounds_upto t x.config.now.m i) r j
      ≡ bad_kind (arrives form.relay_in (t.change r j i) (t.expect r j (t.members i)) (t.expect r j (t.members i)) Cold)
  kind_cold r j i some few off =
      relay_kind_at r j i some few
      ∙ ap (λ (c : Content). bad_kind (arrives form.relay_in (t.change r j i) (t.expect r j (t.members i)) (t.expect r j (t.members i)) c)) (cond-false (has_id x.full j) (form.relay (sent_by form x links r j)) Cold off)

  pub kind_full : (r j i : ℕ) → 0 < r → r ≤ x.config.now.m → has_id x.full j ≡ true → frame_kind (rounds_upto t x.config.now.m i) r j
      ≡ bad_kind (arrives form.relay_in (t.change r j i) (t.expect r j (t.members i)) (t.expect r j (t.members i)) (form.relay (sent_by form x links r j)))
  kind_full r j i some few on =
      relay_kind_at r j i some few
      ∙ ap (λ (c : Content). bad_kind (arrives form.relay_in (t.change r j i) (t.expect r j (t.members i)) (t.expect r j (t.members i)) c)) (cond-true (has_id x.full j) (form.relay (sent_by form x links r j)) Cold on)

  -- what it says is in range
  pub sent_range : (r j i : ℕ) → 0 < r → r ≤ x.config.now.m → j < x.config.now.nodes → IsSent (t.expect r j (t.members i)) (form.relay (sent_by form x links r j))
  sent_range zero j i some few low = absurd (omega arith)
  sent_range (suc k) j i some few low = sent form first tells cells in_range made fits x (item_of links) set sys run k j i few low

-- what makes a link uneven
pub mapped_some : {X Y : Type 0} (f : X → Y) (o : Option X) → is_some o ≡ true → is_none (option_map f o) ≡ false
mapped_some f None h = cc
mapped_some f (Some x) h = refl

pub uneven_read : {V : Type 0} (t : Talk V) (r j i : ℕ) → ((r == 0) || (not (t.full j) || pointwise ◌==◌ (t.members j) (t.members i))) ≡ false → is_even t r j i ≡ false
uneven_read t r j i off = ap (λ (b : Bool). is_none (t.change r j i) && b) off ∙ and_false (is_none (t.change r j i))

pub uneven_change : {V : Type 0} (t : Talk V) (r j i : ℕ) → is_none (t.change r j i) ≡ false → is_even t r j i ≡ false
uneven_change t r j i off = ap (λ (b : Bool). b && ((r == 0) || (not (t.full j) || pointwise ◌==◌ (t.members j) (t.members i)))) off
