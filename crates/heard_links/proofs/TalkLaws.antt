-- The laws of a phase of a run.
use Rattle.std.proofs.Common.{ℕ, ◌≡◌, ◌<◌, ◌≤◌, ◌==◌, true, Option, None, Some, ap, ap₂, ◌∙◌, arith}
use Rattle.std.specs.Prelude.{if◌then◌else◌}
use Rattle.std.proofs.lemmas.Bool.{cond-true}
use Rattle.node_grid.specs.NodeSet.{has_id}
use Rattle.protocol.specs.Arrival.{ItemForm}
use Rattle.protocol.specs.Talk.{rounds_upto}
use Rattle.protocol.specs.Run.{System}
use Rattle.protocol.specs.Accepted.{IsAccepted}
use Rattle.safety.proofs.Talks.{FormFits}
use Rattle.touched_items.specs.Items.{talk_of, EntryForm, AreEntries, Sizes, sizes_in, bad_kind}
use Rattle.heard_links.specs.declared.phase.Phase.{Phase}
use Rattle.heard_links.specs.Talks.{phase_talk, IsSet, IsPhaseOf}
use Rattle.heard_links.specs.Hearing.{frame_kind, is_even}
use Rattle.heard_links.specs.TalkLaws.{IsSameTalk}
use Rattle.heard_links.proofs.Runs.{first_is, relay_same, heard_is, even_kind}

module _ {V : Type 0} {N : ℕ} (form : ItemForm V) (first : ℕ → ℕ) (tells : System → ℕ → ℕ → V) (cells : EntryForm V) (in_range : Sizes → V → Type 0) (made : AreEntries form cells in_range)
    (fits : (sys : System) → IsAccepted sys → (p : ℕ) → FormFits (in_range (sizes_in sys)) (talk_of form first tells sys p) sys.setting.config.m)
    (sys : System) (x : Phase N) (item : ℕ → V) (set : IsSet x) (run : IsPhaseOf form first tells sys x item) where
  pub talks_law : IsSameTalk x.config.now.nodes x.config.now.m (phase_talk form x item) (talk_of form first tells sys x.period)
  talks_law = record {
    first = λ i j low_i low_j. first_is form first tells cells in_range made fits x item set sys run i j low_i low_j;
    relay = λ r i j low_i low_j. relay_same form first tells cells in_range made fits x item set sys run r i j low_i low_j;
    kind = λ r i j low_i low_j.
        ap₂ (λ (a b : Option ℕ). if r == 0 then a else b) (ap bad_kind (first_is form first tells cells in_range made fits x item set sys run i j low_i low_j))
        (ap bad_kind (relay_same form first tells cells in_range made fits x item set sys run r i j low_i low_j));
    heard = λ i path low on. heard_is form first tells cells in_range made fits x item set sys run x.config.now.m i path (omega arith) low on;
  }

  pub good_law : (r j i : ℕ) → r ≤ x.config.now.m → j < x.config.now.nodes → i < x.config.now.nodes → has_id x.full j ≡ true
      → is_even (phase_talk form x item) r j i ≡ true → frame_kind (rounds_upto (phase_talk form x item) x.config.now.m i) r j ≡ None
  good_law r j i few low_j low_i full even =
      even_kind form first tells cells in_range made fits x item set sys run r j i few low_j low_i even ∙ cond-true (has_id x.full j) None (Some 3) full
