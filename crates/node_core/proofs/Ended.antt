-- The end of a period leaves what holds of a controller, and is what the definitions say.
use Rattle.std.proofs.Common.{ℕ, ◌≡◌, ◌+◌, ◌*◌, ◌==◌, ◌&&◌, not, Bool, true, false, if◌then◌else◌, List, Option, None, Some, refl, sym, ap, ap₂, subst, ◌∙◌, arith, eq-eqb}
use Rattle.std.specs.Prelude.{IfSome, is_some}
use Rattle.std.proofs.lemmas.Bool.{cond-true}
use Rattle.std.specs.Cmp.Lexicographic.{pointwise}
use Rattle.node_grid.specs.Kinds.{equivocate}
use Rattle.node_grid.specs.NodeSet.{ids_where}
use Rattle.omh.specs.Heard.{Hearing, ear_of, forgotten}
use Rattle.error_detect.specs.Watching.{Watch, fresh}
use Rattle.error_reports.specs.Notes.{Notes, of_each, also_carried}
use Rattle.agreed_state.specs.Agreed.{AgreedView, agreed_after}
use Rattle.protocol.specs.FurtherKinds.{convicts_member}
use Rattle.protocol.specs.View.{Mode}
use Rattle.protocol.specs.View.Mode.{Full, Joining}
use Rattle.relaying.specs.Settling.{settled_in}
use Rattle.noting.specs.FoundLaws.{carried_of_each}
use Rattle.node_steps.specs.Outcome.{Outcome}
use Rattle.node_steps.specs.Parts.{NodeView}
use Rattle.node_steps.specs.Sound.{Hears}
use Rattle.node_steps.specs.Steps.{shut, slot_taken, taken, report_noted, report_heard, after_report, next_open, after_slot, slot_open, finished, noting, by_conviction, ended, ended_cold, period_over}
use Rattle.node_core.specs.declared.controller.Keeping.{Keeping}
use Rattle.node_core.specs.declared.controller.Controller.TheInside.{Inside}
use Rattle.node_core.specs.Inside.{seen, IsController}
use Rattle.node_core.proofs.Behind.{later_taken}
use Rattle.node_core.proofs.HeardSlots.{rows_taken}
use Rattle.node_core.proofs.NotedRows.{carried_by}

-- ---- the invariant

-- another record
pub recorded : {N : ℕ} (n : Inside N) (o : Outcome) → IsController n → IsController (record n { outcome = o })
recorded n o inv = record {
  place = inv.place;
  slot = inv.slot;
  watch = inv.watch;
  kept_notes = inv.kept_notes;
  notes = inv.notes;
}

-- the period is over, and the watch stands as when it was opened
module _ {N : ℕ} (n : Inside N) (w : Watch) (forgotten : w ≡ fresh n.watch.nodes n.watch.me n.watch.frame_max) where
  abbrev without : Watch → Inside N
  without x = record n { phase = record n.phase { is_open = false }; watch = x }

  pub is_over : IsController n → IsController (without w)
  is_over inv = subst (λ (x : Watch). IsController (without x)) (sym forgotten) (record {
    place = inv.place;
    slot = inv.slot;
    watch = record { nodes = inv.watch.nodes; me_is = inv.watch.me_is; greatest = inv.watch.greatest; expects = λ o. absurd (cc) };
    kept_notes = inv.kept_notes;
    notes = inv.notes;
  })

  pub over_is : seen (without w) ≡ period_over (seen n)
  over_is = ap (λ (x : Watch). seen (without x)) forgotten

-- ---- the last slot of a period

module _ {N : ℕ} (v : NodeView N) (last : v.phase.slot ≡ 2 * v.config.m + 3) where
  taken_late : slot_taken (shut v) ≡ taken (shut v) v.phase.before
  taken_late = later_taken v (λ e. absurd (omega (arith, last, e)))

  over : (w : NodeView N) → w.phase.slot ≡ 2 * w.config.m + 3 → next_open w ≡ period_over (finished w w.phase.before)
  over w at = cond-true (w.phase.slot == 2 * w.config.m + 3) (period_over (finished w w.phase.before)) (slot_open w (w.phase.slot + 1)) (eq-eqb w.phase.slot (2 * w.config.m + 3) at)

  -- a node that stayed Cold takes nothing from it
  pub cold_end : v.phase.before ≡ None → after_slot v ≡ period_over (ended_cold (shut v))
  cold_end none =
      ap (λ (w : NodeView N). next_open w) (taken_late ∙ ap (λ (o : Option AgreedView). taken (shut v) o) none)
      ∙ over (shut v) last ∙ ap (λ (o : Option AgreedView). period_over (finished (shut v) o)) none

  -- and another one settles the rows
  pub state_end : (a : AgreedView) → v.phase.before ≡ Some a → after_slot v ≡ period_over (ended (report_noted (shut v)) (report_heard (shut v)) a)
  state_end a goes =
      ap (λ (w : NodeView N). next_open w) (taken_late ∙ ap (λ (o : Option AgreedView). taken (shut v) o) goes ∙ rows_taken v a v.config.m (omega (arith, last)))
      ∙ over (after_report (shut v)) last ∙ ap (λ (o : Option AgreedView). period_over (finished (after_report (shut v)) o)) goes

-- ---- by whether there is a state

pub if_some : {A : Type 0} (P : A → Type 0) (o : Option A) (a : A) → o ≡ Some a → P a → IfSome o P
if_some P o a e h = subst (λ x. IfSome x P) (sym e) h

pub by_some : {A : Type 0} (o : Option A) (b : Bool) → b ≡ is_some o → b ≡ true → (a : A) × (o ≡ Some a)
by_some None b e h = absurd (let x = sym h ∙ e in cc)
by_some (Some a) b e h = (a, refl)

pub by_none : {A : Type 0} (o : Option A) (b : Bool) → b ≡ is_some o → b ≡ false → o ≡ None
by_none None b e h = refl
by_none (Some a) b e h = absurd (let x = sym h ∙ e in cc)

-- ---- with a state

module _ {N : ℕ} (n : Inside N) (inv : IsController n) where
  -- another state is kept
  pub ended_well : (k : Keeping N) (t : Hearing (List ℕ)) (o : Outcome) (more : ℕ → ℕ → Bool) → k.notes ≡ also_carried N n.found.notes more → IsController (record n { kept = k; rows = t; outcome = o })
  ended_well k t o more e = record {
    place = inv.place;
    slot = inv.slot;
    watch = inv.watch;
    kept_notes = record {
      nodes = ap (λ (x : Notes). x.nodes) e ∙ inv.notes.nodes;
      me_is = ap (λ (x : Notes). x.me) e ∙ inv.notes.me_is;
      kinds = ap (λ (x : Notes). x.kinds) e ∙ inv.notes.kinds;
    };
    notes = inv.notes;
  }

  module _ (a : AgreedView) (h : Hearing (List ℕ)) (hears : Hears h n.phase.me a) where
    abbrev v : NodeView N
    v = seen n

    -- who is convicted is carried over
    pub carried_is : (guilty : List ℕ) (x : Notes) → guilty ≡ ids_where (λ j. not (j == h.me) && convicts_member (pointwise ◌==◌) (ear_of h) j) N
        → x ≡ also_carried N n.found.notes (of_each guilty equivocate) → x ≡ record n.found.notes { carried = noting v (by_conviction (pointwise ◌==◌) h) n.found.notes.carried }
    carried_is guilty x convicted e =
        let me : h.me ≡ n.found.notes.me = hears.me_is ∙ sym inv.notes.me_is in
        e
        ∙ ap (λ (gs : List ℕ). also_carried N n.found.notes (of_each gs equivocate)) (convicted ∙ ap (λ (i : ℕ). ids_where (λ j. not (j == i) && convicts_member (pointwise ◌==◌) (ear_of h) j) N) me)
        ∙ carried_of_each N n.found.notes (convicts_member (pointwise ◌==◌) (ear_of h)) equivocate
        ∙ carried_by n.config.now n.phase.me n.found.notes inv.notes (by_conviction (pointwise ◌==◌) h)

    -- the node by what the end of its period makes of it
    abbrev ended_as : List ℕ → Hearing (List ℕ) → List (Option (List ℕ)) → AgreedView → Mode → List ℕ → List ℕ → List ℕ → NodeView N
    ended_as carried t rows after mode members due own = record v {
      kept = record { state = Some after; carried = carried; votes = n.found.votes; owns = n.found.own };
      rows = t;
      outcome = record { mode = mode; agreed = Some after; members = members; done = n.found.claims; rows = rows; due = due; votes = n.found.votes; found = own; sync = n.found.sync };
    }

    abbrev all_rows : List (Option (List ℕ))
    all_rows = settled_in (pointwise ◌==◌) N h

    abbrev next : AgreedView
    next = agreed_after N n.config.now n.phase.period a n.found.claims all_rows

    abbrev its_mode : Mode
    its_mode = if n.phase.full then Full else Joining

    abbrev late : List ℕ
    late = noting v (by_conviction (pointwise ◌==◌) h) n.found.notes.carried

    pub ended_is : (carried : List ℕ) (t : Hearing (List ℕ)) (rows : List (Option (List ℕ))) (after : AgreedView) (mode : Mode) (members due own : List ℕ) → carried ≡ late → t ≡ forgotten h → rows ≡ all_rows → after ≡ next → mode ≡ its_mode
        → members ≡ a.standing.members → due ≡ n.found.due.items → own ≡ n.found.notes.row → ended_as carried t rows after mode members due own ≡ ended v h a
    ended_is carried t rows after mode members due own c_is t_is rows_are after_is mode_is members_are due_is own_is =
        ap₂ (λ (l : List ℕ) (z : Hearing (List ℕ)). ended_as l z rows after mode members due own) c_is t_is
        ∙ ap₂ (λ (rs : List (Option (List ℕ))) (b : AgreedView). ended_as late (forgotten h) rs b mode members due own) rows_are after_is
        ∙ ap₂ (λ (m : Mode) (ms : List ℕ). ended_as late (forgotten h) all_rows next m ms due own) mode_is members_are
        ∙ ap₂ (λ (d r : List ℕ). ended_as late (forgotten h) all_rows next its_mode a.standing.members d r) due_is own_is
