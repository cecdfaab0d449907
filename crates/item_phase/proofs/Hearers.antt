-- What one node settles by what it hears for the paths that are asked for.
use Rattle.std.proofs.Common.{ℕ, ◌≡◌, ◌≢◌, ◌+◌, Bool, true, List, [], ◌∷◌, not, ap, ap₂, ◌∙◌, ne_eqb}
use Rattle.std.proofs.lemmas.Bool.{cond-true, and_from}
use Rattle.std.specs.Prelude.{length}
use Rattle.node_grid.specs.NodeSet.{has_id}
use Rattle.node_grid.specs.NumberFacts.{le_yes}
use Rattle.omh_paths.specs.declared.wrapped.Wrapped.{Wrapped}
use Rattle.omh_paths.specs.declared.wrapped.Wrapped.TheVariants.{Fault}
use Rattle.omh.specs.Omh.{Ear, settled_at}
use Rattle.omh.specs.Written.{last_node}
use Rattle.equivocation.specs.Conviction.{convicts}
use Rattle.protocol.specs.Arrival.{ItemForm}
use Rattle.protocol.specs.Heard.{heard}
use Rattle.protocol.specs.Talk.{rounds_upto}
use Rattle.heard_links.specs.declared.links.Links.{Links}
use Rattle.heard_links.specs.declared.phase.Phase.{Phase}
use Rattle.heard_links.specs.Talks.{members_at}
use Rattle.heard_links.specs.Hearing.{talk_in, is_asked}
use Rattle.heard_links.proofs.Ears.{all_within}
use Rattle.item_phase.specs.Settled.{listener}
use Rattle.item_phase.specs.Listening.{hears_in}
use Rattle.item_phase.proofs.Accounts.{IsAskedFor, settled_same, convicted_same}

module _ {V : Type 0} {N : ℕ} (eq : V → V → Bool) (form : ItemForm V) (x : Phase N) (links : Links V N) (i : ℕ) (on : has_id x.awake i ≡ true) where
  abbrev m : ℕ
  m = x.config.now.m

  abbrev mine : List ℕ
  mine = members_at x i

  abbrev hears : List ℕ → Wrapped V
  hears path = hears_in form x links i path

  -- the node with these members, that hears what is asked for
  abbrev hearer : List ℕ → Bool → Ear V
  hearer members full = record { rounds = m; members = members; me = i; full = full; heard = hears }

  asked : (path : List ℕ) → IsAskedFor mine i m path → is_asked (talk_in form x links) m x.awake i path ≡ true
  asked path is =
      and_from _ _ on (and_from _ _ (all_within mine path is.within) (and_from _ _ (le_yes (length path) (m + 1) is.short) (ap not (ne_eqb i (last_node path) is.other))))

  hears_same : (path : List ℕ) → IsAskedFor mine i m path → hears path ≡ heard (rounds_upto (talk_in form x links) m i) path
  hears_same path is = cond-true (is_asked (talk_in form x links) m x.awake i path) (heard (rounds_upto (talk_in form x links) m i) path) (Fault 0) (asked path is)

  module _ (members : List ℕ) (full : Bool) (same_members : members ≡ mine) (same_full : full ≡ has_id x.full i) (c : ℕ) (member : has_id mine c ≡ true) (ne : c ≢ i) where
    pub settles_by : settled_at eq (hearer members full) (c ∷ []) ≡ settled_at eq (listener form x links i) (c ∷ [])
    settles_by =
        ap₂ (λ (ms : List ℕ) (b : Bool). settled_at eq (hearer ms b) (c ∷ [])) same_members same_full
        ∙ settled_same eq m mine i (has_id x.full i) hears (heard (rounds_upto (talk_in form x links) m i)) hears_same c member ne

    pub convicts_by : convicts eq (hearer members full) c ≡ convicts eq (listener form x links i) c
    convicts_by =
        ap₂ (λ (ms : List ℕ) (b : Bool). convicts eq (hearer ms b) c) same_members same_full
        ∙ convicted_same eq m mine i (has_id x.full i) hears (heard (rounds_upto (talk_in form x links) m i)) hears_same c member ne
