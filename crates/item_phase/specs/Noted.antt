-- What is found of the frames of the rounds, one after the other.
use Rattle.std.specs.Prelude.{ℕ, zero, suc, ◌≡◌, ◌==◌, ◌&&◌, Bool, false}
use Rattle.node_grid.specs.Version.{kind_count}
use Rattle.error_reports.specs.Notes.{Notes, also_noted, also_carried}
use Rattle.agreed_state.specs.declared.config.Config.{Config}
use Rattle.protocol.specs.Heard.{Rounds, rounds_bad}
use Rattle.protocol.specs.Talk.{rounds_upto}
use Rattle.protocol.specs.Arrival.{ItemForm}
use Rattle.heard_links.specs.declared.phase.Phase.{Phase}
use Rattle.heard_links.specs.declared.links.Links.{Links}
use Rattle.heard_links.specs.Hearing.{talk_in}

-- whether one of the first so many frames of node j has this kind of error
abbrev pub found_below : {V : Type 0} → ℕ → Rounds V → ℕ → ℕ → Bool
found_below zero x j e = false
found_below (suc r) x j e = rounds_bad r x j e

-- what is said of node j alone
abbrev pub of_node : ℕ → (ℕ → ℕ → Bool) → ℕ → ℕ → Bool
of_node j says k e = k == j && says j e

-- what node i has of the rounds of a phase
abbrev pub rounds_of : {V : Type 0} {N : ℕ} → ItemForm V → Phase N → Links V N → ℕ → Rounds V
rounds_of form x links i = rounds_upto (talk_in form x links) x.config.now.m i

-- notes of node i, of the version's kinds, whose row, or what it carries over, says nothing of itself, of nodes that aren't in use or of kinds that there are not
pub record IsNoter {N : ℕ} (config : Config N) (i : ℕ) (n : Notes) : Type 0 where
  pub nodes : n.nodes ≡ config.nodes
  pub me : n.me ≡ i
  pub kinds : n.kinds ≡ kind_count config.version
  pub within : also_noted N n (λ j e. false) ≡ n

pub record IsCarrier {N : ℕ} (config : Config N) (i : ℕ) (n : Notes) : Type 0 where
  pub nodes : n.nodes ≡ config.nodes
  pub me : n.me ≡ i
  pub kinds : n.kinds ≡ kind_count config.version
  pub within : also_carried N n (λ j e. false) ≡ n
