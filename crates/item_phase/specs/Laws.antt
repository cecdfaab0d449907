-- What a node settles, whom it convicts and what it finds of frames is what it does in a run.
use Rattle.std.specs.Prelude.{ℕ, ◌≡◌, ◌≢◌, ◌<◌, Bool, true}
use Rattle.node_grid.specs.NodeSet.{has_id}
use Rattle.omh_paths.specs.declared.wrapped.Wrapped.{Wrapped}
use Rattle.omh.specs.Omh.{Ear, settled_from}
use Rattle.protocol.specs.Arrival.{ItemForm}
use Rattle.protocol.specs.FurtherKinds.{convicts_member}
use Rattle.protocol.specs.Heard.{rounds_bad}
use Rattle.protocol.specs.Settled.{ear_of}
use Rattle.protocol.specs.Talk.{rounds_upto}
use Rattle.protocol.specs.Run.{System}
use Rattle.touched_items.specs.Items.{talk_of}
use Rattle.heard_links.specs.declared.phase.Phase.{Phase}
use Rattle.heard_links.specs.declared.links.Links.{Links}
use Rattle.heard_links.specs.Talks.{members_at, IsSet, IsPhaseOf}
use Rattle.heard_links.specs.Hearing.{item_of}
use Rattle.item_phase.specs.Settled.{listener}
use Rattle.item_phase.specs.Noted.{rounds_of}

-- what node i knows of the items in a run
abbrev pub heard_in : {V : Type 0} {N : ℕ} → ItemForm V → (ℕ → ℕ) → (System → ℕ → ℕ → V) → System → Phase N → ℕ → Ear V
heard_in form first tells sys x i = ear_of x.config.now.m i (has_id x.full i) (members_at x i) (rounds_upto (talk_of form first tells sys x.period) x.config.now.m i)

-- what node i settles, whom it convicts and what it finds of frames is what it does in the run
pub record IsOfRun {V : Type 0} {N : ℕ} (eq : V → V → Bool) (form : ItemForm V) (first : ℕ → ℕ) (tells : System → ℕ → ℕ → V) (sys : System) (x : Phase N) (links : Links V N) (i : ℕ) : Type 0 where
  pub settled : (own : Wrapped V) (c : ℕ) → has_id (members_at x i) c ≡ true → settled_from eq (listener form x links i) own c ≡ settled_from eq (heard_in form first tells sys x i) own c
  pub convicted : (c : ℕ) → c ≢ i → convicts_member eq (listener form x links i) c ≡ convicts_member eq (heard_in form first tells sys x i) c
  pub bad : (j e : ℕ) → j < x.config.now.nodes → j ≢ i → rounds_bad x.config.now.m (rounds_of form x links i) j e ≡ rounds_bad x.config.now.m (rounds_upto (talk_of form first tells sys x.period) x.config.now.m i) j e

-- Law of runs: so it is of each node that is awake, in a phase of a run
abbrev pub OfRunLaw : {V : Type 0} (N : ℕ) → (V → V → Bool) → ItemForm V → (ℕ → ℕ) → (System → ℕ → ℕ → V) → Type 0
OfRunLaw {V} N eq form first tells =
    (sys : System) (x : Phase N) (links : Links V N) → IsSet x → IsPhaseOf form first tells sys x (item_of links) → (i : ℕ) → has_id x.awake i ≡ true → IsOfRun eq form first tells sys x links i
