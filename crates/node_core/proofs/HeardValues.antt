-- The data slot that was closed, as it is taken.
use Rattle.std.proofs.Common.{ℕ, ◌≡◌, ◌<◌, ◌+◌, ◌==◌, ◌||◌, ◌&&◌, Bool, true, false, not, List, replicate, Option, Some, None, ℤ, refl, sym, ap, ap₂, subst, ◌∙◌, arith, eq-eqb}
use Rattle.std.specs.Prelude.{IsSome, IfSome, nat_le, if◌then◌else◌}
use Rattle.std.proofs.lemmas.Bool.{cond-true, cond-false}
use Rattle.node_grid.specs.Kinds.{deviate}
use Rattle.node_grid.specs.NodeSet.{has_id, ids_where}
use Rattle.slot_plan.specs.Slots.{slot_number}
use Rattle.node_grid.specs.NumberFacts.{le_no}
use Rattle.omh_paths.specs.declared.wrapped.Wrapped.TheVariants.{Plain}
use Rattle.omh.specs.Heard.{Hearing}
use Rattle.error_detect.specs.Watching.{Watch, closed, findings, IsHeardBy}
use Rattle.error_reports.specs.Notes.{Notes, also_noted}
use Rattle.agreed_state.specs.declared.config.Config.{Config}
use Rattle.agreed_state.specs.Agreed.{AgreedView, IsAgreed}
use Rattle.protocol.specs.Arrival.{is_bad, values_in}
use Rattle.protocol.specs.Configured.{setting_of}
use Rattle.protocol.specs.View.{Setting, deviates, empty_row, votes_on}
use Rattle.noting.specs.Findings.{found_bad, has_of}
use Rattle.noting.specs.FoundLaws.{has_others, values_found}
use Rattle.data_slot.specs.Values.{only_values}
use Rattle.node_steps.specs.Parts.{NodeView}
use Rattle.node_steps.specs.Sound.{IsInSlot, IsSound}
use Rattle.node_steps.specs.Steps.{expected_in, shut, taken, after_data, after_done, after_report, noting, started}
use Rattle.node_core.specs.declared.controller.Controller.TheInside.{Inside}
use Rattle.node_core.specs.Inside.{seen, AreItsNotes, IsController}
use Rattle.node_core.proofs.NotedRows.{noted_by}

module _ {N : ℕ} (n : Inside N) (inv : IsController n) (sound : IsSound (seen n)) (open' : n.phase.is_open ≡ true) (at : slot_number n.config.now.m n.phase.slot ≡ n.config.now.m + 2) (u : Watch) (shut' : u ≡ closed n.watch) where
  abbrev v : NodeView N
  v = seen n

  slot : IsInSlot v
  slot = sound.in_slot open'

  -- ---- the premises of a vote

  pub values_heard : IsHeardBy u n.config.now.nodes n.phase.me
  values_heard = record {
    nodes_are = ap (λ (w : Watch). w.nodes) shut' ∙ inv.watch.nodes;
    me_is = ap (λ (w : Watch). w.me) shut' ∙ inv.watch.me_is;
    closed = ap (λ (w : Watch). w.is_open) shut';
    some_slot = subst IsSome (sym (ap (λ (w : Watch). w.expect) shut')) (inv.watch.expects slot.watching);
  }

  module _ (a : AgreedView) (goes : n.phase.before ≡ Some a) where
    pub values_agreed : IsAgreed N n.config.now a
    values_agreed = subst (λ (o : Option AgreedView). IfSome o (λ b. IsAgreed N n.config.now b)) goes sound.sizes.before

    -- ---- what is noted, voted and told of the node itself

    abbrev s : Setting
    s = setting_of n.config.now

    abbrev far : List (Option ℤ) → Watch → ℕ → Bool
    far votes w = deviates s n.found.due.items votes (only_values w)

    abbrev more : List (Option ℤ) → ℕ → ℕ → Bool
    more votes j k = is_bad (has_of values_in (closed n.watch) j) k || (far votes (closed n.watch) j && k == deviate)

    abbrev row : List (Option ℤ) → List ℕ
    row votes = if n.phase.full then noting v (more votes) n.found.notes.row else empty_row s

    noted : (votes : List (Option ℤ)) (off : List ℕ) (x : Notes) → off ≡ ids_where (λ j. not (j == n.phase.me) && far votes (closed n.watch) j) n.config.now.nodes
        → x ≡ also_noted N n.found.notes (λ j k. found_bad (findings N n.watch) j k || (has_id off j && k == deviate))
        → x ≡ record n.found.notes { row = noting v (more votes) n.found.notes.row }
    noted votes off x offs is =
        is
        ∙ values_found N n.found.notes (closed n.watch) (expected_in v v.phase.slot) off (far votes (closed n.watch))
        (record { nodes_are = inv.watch.nodes ∙ sym inv.notes.nodes; me_is = inv.watch.me_is ∙ sym inv.notes.me_is; expects = slot.expects }) at
        (λ j low other. ap (λ (ids : List ℕ). has_id ids j) offs ∙ has_others (far votes (closed n.watch)) n.phase.me n.config.now.nodes j (subst (λ (k : ℕ). j < k) inv.notes.nodes low) (λ e. other (e ∙ sym inv.notes.me_is)))
        ∙ noted_by n.config.now n.phase.me n.found.notes inv.notes (more votes)

    row_of : (b : Bool) (x : Notes) (r e : List ℕ) → (if b then record x { row = r } else record x { row = e }) ≡ record x { row = if b then r else e }
    row_of true x r e = refl
    row_of false x r e = refl

    -- the row of a node that isn't Full accuses nobody
    told : (votes : List (Option ℤ)) (x y : Notes) → x ≡ record n.found.notes { row = noting v (more votes) n.found.notes.row } → y ≡ (if n.phase.full then x else record x { row = replicate N 0 })
        → y ≡ record n.found.notes { row = row votes }
    told votes x y is then' =
        then' ∙ ap (λ (z : Notes). if n.phase.full then z else record z { row = replicate N 0 }) is
        ∙ row_of n.phase.full n.found.notes (noting v (more votes) n.found.notes.row) (empty_row s)

    abbrev after : Notes → List (Option ℤ) → Hearing (List ℕ) → Watch → NodeView N
    after y votes d w = record v { found = record v.found { notes = y.row; late = y.carried; votes = votes }; rows = d; arrived = w }

    abbrev table : List ℕ → Hearing (List ℕ)
    table r = started n.rows a.standing.members n.phase.me n.phase.full (Plain r)

    pub values_seen : (votes : List (Option ℤ)) (off : List ℕ) (x y : Notes) (d : Hearing (List ℕ))
        → votes ≡ votes_on s n.phase.me n.phase.full a n.found.claims n.found.due.items n.found.own (only_values u)
        → off ≡ ids_where (λ j. not (j == n.phase.me) && far votes u j) n.config.now.nodes
        → x ≡ also_noted N n.found.notes (λ j k. found_bad (findings N n.watch) j k || (has_id off j && k == deviate))
        → y ≡ (if n.phase.full then x else record x { row = replicate N 0 })
        → d ≡ table y.row
        → after y votes d u ≡ after_data (shut v) a
    values_seen votes off x y d voted offs noted' told' heard =
        let offs' = offs ∙ ap (λ (w : Watch). ids_where (λ j. not (j == n.phase.me) && far votes w j) n.config.now.nodes) shut' in
        let is = told votes x y (noted votes off x offs' noted') told' in
        let voted' = voted ∙ ap (λ (w : Watch). votes_on s n.phase.me n.phase.full a n.found.claims n.found.due.items n.found.own (only_values w)) shut' in
        ap₂ (λ (h : Hearing (List ℕ)) (w : Watch). after y votes h w) heard shut'
        ∙ ap (λ (z : Notes). after z votes (table z.row) (closed n.watch)) is
        ∙ ap (λ (vs : List (Option ℤ)). after (record n.found.notes { row = row vs }) vs (table (row vs)) (closed n.watch)) voted'

-- the notes of a node that isn't Full are its notes too
pub still_notes : {N : ℕ} (config : Config N) (me : ℕ) (b : Bool) (x : Notes) (r : List ℕ) → AreItsNotes config me x → AreItsNotes config me (if b then x else record x { row = r })
still_notes config me true x r own = own
still_notes config me false x r own = record { nodes = own.nodes; me_is = own.me_is; kinds = own.kinds }

-- what the data slot's end takes
pub values_taken : {N : ℕ} (v : NodeView N) (a : AgreedView) → v.phase.slot ≡ v.config.m + 2 → taken (shut v) (Some a) ≡ after_data (shut v) a
values_taken v a at =
    cond-false (nat_le v.phase.slot (v.config.m + 1)) (after_done (shut v) a) (if v.phase.slot == v.config.m + 2 then after_data (shut v) a else after_report (shut v)) (le_no v.phase.slot (v.config.m + 1) (omega (arith, at)))
    ∙ cond-true (v.phase.slot == v.config.m + 2) (after_data (shut v) a) (after_report (shut v)) (eq-eqb v.phase.slot (v.config.m + 2) at)
