-- What is passed on in the slots of one kind of item, where all nodes that are awake have the same members.
use Rattle.std.specs.Prelude.{ℕ, ◌≡◌, true, List, Option, if◌then◌else◌}
use Rattle.node_grid.specs.NodeSet.{has_id}
use Rattle.omh_paths.specs.declared.wrapped.Wrapped.{Wrapped}
use Rattle.omh_paths.specs.declared.wrapped.Wrapped.TheVariants.{Plain, Fault}
use Rattle.omh.specs.Omh.{World}
use Rattle.settled_paths.specs.Laws.{IsPassedOn}
use Rattle.protocol.specs.Arrival.{ItemForm}
use Rattle.protocol.specs.Heard.{heard}
use Rattle.protocol.specs.Talk.{rounds_upto}
use Rattle.heard_links.specs.declared.links.Links.{Links}
use Rattle.heard_links.specs.declared.phase.Phase.{Phase}
use Rattle.heard_links.specs.Talks.{members_at}
use Rattle.heard_links.specs.Hearing.{item_of, talk_in, says_in}

-- what node c says of itself
abbrev pub own_in : {V : Type 0} {N : ℕ} → Phase N → Links V N → ℕ → Wrapped V
own_in x links c = if has_id x.full c then Plain (item_of links c) else Fault 0

-- all nodes by what each heard, where those that are awake have these members
abbrev pub world_in : {V : Type 0} {N : ℕ} → ItemForm V → Phase N → Links V N → List ℕ → World V
world_in form x links members = record {
  rounds = x.config.now.m;
  members = members;
  is_full = λ q. has_id x.full q;
  heard = λ i. heard (rounds_upto (talk_in form x links) x.config.now.m i);
}

-- what nodes hear in place of what is passed on
abbrev pub says_of : {V : Type 0} {N : ℕ} → ItemForm V → Phase N → Links V N → ℕ → List ℕ → Option (Wrapped V)
says_of form x links = says_in (talk_in form x links) x.config.now.m x.awake

-- where all nodes that are awake have these members, what each of them says of itself is passed on
abbrev pub ArePassedOn : {V : Type 0} {N : ℕ} → ItemForm V → Phase N → Links V N → Type 0
ArePassedOn form x links =
    (members : List ℕ) → ((i : ℕ) → has_id x.awake i ≡ true → members_at x i ≡ members)
    → (c : ℕ) → has_id members c ≡ true → IsPassedOn (world_in form x links members) (λ i. has_id x.awake i) c x.full (own_in x links c) (says_of form x links)
