-- What a node takes from the settled claims.
use Rattle.std.proofs.Common.{ℕ, ℤ, ◌≡◌, ◌==◌, ◌&&◌, ◌||◌, Bool, not, List, map, Option, sym, ap, ap₂, ◌∙◌, arith}
use Rattle.std.specs.Prelude.{nat_eq, slice_index_or}
use Rattle.std.proofs.lemmas.List.FromFn.{get_or-map-range_with_len}
use Rattle.node_grid.specs.Kinds.{claim, overrun, equivocate}
use Rattle.node_grid.specs.NodeSet.{ids_where}
use Rattle.node_grid.specs.ListFacts.{map_map}
use Rattle.omh_paths.specs.declared.wrapped.Wrapped.{Wrapped}
use Rattle.omh.specs.Heard.{Hearing, ear_of, forgotten}
use Rattle.list_scheduler.specs.declared.schedule.Verdict.{Verdict}
use Rattle.list_scheduler.specs.OneNode.{verdicts}
use Rattle.list_scheduler.specs.Schedule.{verdict, no_verdict}
use Rattle.error_reports.specs.Notes.{Notes, of_each, also_noted}
use Rattle.error_reports.specs.NoteLaws.{noted_alike}
use Rattle.agreed_state.specs.Agreed.{AgreedView}
use Rattle.protocol.specs.Configured.{setting_of}
use Rattle.protocol.specs.FurtherKinds.{convicts_member}
use Rattle.protocol.specs.View.{as_claim, due_channels, own_values}
use Rattle.protocol.specs.Settled.{plain}
use Rattle.relay_terms.specs.declared.term.Term.{Term}
use Rattle.relay_terms.specs.Terms.{said}
use Rattle.relaying.specs.Settling.{settled_in}
use Rattle.noting.specs.FoundLaws.{noted_of_each}
use Rattle.node_steps.specs.Parts.{NodeView}
use Rattle.node_steps.specs.Sound.{Hears}
use Rattle.node_steps.specs.Steps.{noting, by_conviction, claims_known}
use Rattle.node_core.specs.declared.controller.Controller.TheInside.{Inside}
use Rattle.node_core.specs.Inside.{seen, AreItsNotes, IsController}
use Rattle.node_core.proofs.NotedRows.{noted_by}

-- claims by what is settled of them
pub settled_claims : (items : List (Term ℕ)) (xs : List (Option ℕ)) → map (λ t. plain (said t)) items ≡ xs → map (λ t. as_claim (plain (said t))) items ≡ map as_claim xs
settled_claims items xs are = sym (map_map (λ (t : Term ℕ). plain (said t)) as_claim items) ∙ ap (map as_claim) are

-- what a verdict is against a node
abbrev pub held : (ℕ → Verdict) → ℕ → ℕ → Bool
held at j k = ((at j).claim && k == claim) || ((at j).overrun && k == overrun)

module _ {N : ℕ} (n : Inside N) (inv : IsController n) (a : AgreedView) (h : Hearing ℕ) (hears : Hears h n.phase.me a) where
  abbrev pub v : NodeView N
  v = seen n

  abbrev pub settled : List (Wrapped ℕ)
  settled = map as_claim (settled_in nat_eq N h)

  abbrev pub judged : List (Wrapped ℕ) → ℕ → Verdict
  judged claims = verdict n.config.now.graph a.standing.members a.copies claims

  -- the notes of the verdicts
  pub verdicts_noted : (claims : List (Wrapped ℕ)) (vs : List Verdict) (x : Notes) → claims ≡ settled → vs ≡ verdicts N n.config.now.graph a.standing.members a.copies claims
      → x ≡ also_noted N n.found.notes (held (λ j. slice_index_or vs j no_verdict)) → x ≡ record n.found.notes { row = noting v (held (judged settled)) n.found.notes.row }
  verdicts_noted claims vs x are judge is =
      is ∙ ap (λ (xs : List Verdict). also_noted N n.found.notes (held (λ j. slice_index_or xs j no_verdict))) (judge ∙ ap (verdicts N n.config.now.graph a.standing.members a.copies) are)
      ∙ noted_alike N n.found.notes (held (λ j. slice_index_or (verdicts N n.config.now.graph a.standing.members a.copies settled) j no_verdict)) (held (judged settled))
      (λ j k low used other within. ap (λ (x : Verdict). (x.claim && k == claim) || (x.overrun && k == overrun)) (get_or-map-range_with_len (judged settled) 0 N j j no_verdict low (omega arith)))
      ∙ noted_by n.config.now n.phase.me n.found.notes inv.notes (held (judged settled))

  -- and of the convictions
  convictions_noted : (x y : Notes) (guilty : List ℕ) → AreItsNotes n.config.now n.phase.me x → guilty ≡ ids_where (λ j. not (j == h.me) && convicts_member nat_eq (ear_of h) j) N
      → y ≡ also_noted N x (of_each guilty equivocate) → y ≡ record x { row = noting v (by_conviction nat_eq h) x.row }
  convictions_noted x y guilty own are is =
      is ∙ ap (λ (js : List ℕ). also_noted N x (of_each js equivocate)) (are ∙ ap (λ (me : ℕ). ids_where (λ j. not (j == me) && convicts_member nat_eq (ear_of h) j) N) (hears.me_is ∙ sym own.me_is))
      ∙ noted_of_each N x (convicts_member nat_eq (ear_of h)) equivocate ∙ noted_by n.config.now n.phase.me x own (by_conviction nat_eq h)

  pub claims_taken : (claims : List (Wrapped ℕ)) (vs : List Verdict) (x y : Notes) (guilty due : List ℕ) (own : List (Option ℤ)) (d : Hearing ℕ)
      → claims ≡ settled → vs ≡ verdicts N n.config.now.graph a.standing.members a.copies claims → x ≡ also_noted N n.found.notes (held (λ j. slice_index_or vs j no_verdict))
      → guilty ≡ ids_where (λ j. not (j == h.me) && convicts_member nat_eq (ear_of h) j) N → y ≡ also_noted N x (of_each guilty equivocate)
      → due ≡ due_channels (setting_of n.config.now) a claims → own ≡ own_values (setting_of n.config.now) n.phase.me n.phase.period n.phase.inputs v.kept → d ≡ forgotten h
      → record v { done = d; found = record v.found { notes = y.row; late = y.carried; claims = claims; due = due; own = own } } ≡ claims_known v h a
  claims_taken claims vs x y guilty due own d are judge noted convicted also is_due is_own left =
      let first : x ≡ record n.found.notes { row = noting v (held (judged settled)) n.found.notes.row } = verdicts_noted claims vs x are judge noted in
      let kept : AreItsNotes n.config.now n.phase.me x = record { nodes = ap (λ (z : Notes). z.nodes) noted ∙ inv.notes.nodes; me_is = ap (λ (z : Notes). z.me) noted ∙ inv.notes.me_is; kinds = ap (λ (z : Notes). z.kinds) noted ∙ inv.notes.kinds } in
      let second : y ≡ record n.found.notes { row = noting v (by_conviction nat_eq h) (noting v (held (judged settled)) n.found.notes.row) } =
      convictions_noted x y guilty kept convicted also ∙ ap (λ (z : Notes). record z { row = noting v (by_conviction nat_eq h) z.row }) first in
      ap₂ (λ (z : Notes) (e : Hearing ℕ). record v { done = e; found = record v.found { notes = z.row; late = z.carried; claims = claims; due = due; own = own } }) second left
      ∙ ap₂ (λ (cs : List ℕ) (os : List (Option ℤ)).
      record v { done = forgotten h; found = record v.found { notes = noting v (by_conviction nat_eq h) (noting v (held (judged settled)) n.found.notes.row); claims = claims; due = cs; own = os } }) is_due is_own
      ∙ ap (λ (cs : List (Wrapped ℕ)).
      record v {
        done = forgotten h;
        found = record v.found {
          notes = noting v (by_conviction nat_eq h) (noting v (held (judged settled)) n.found.notes.row);
          claims = cs;
          due = due_channels (setting_of n.config.now) a cs;
          own = own_values (setting_of n.config.now) n.phase.me n.phase.period n.phase.inputs v.kept;
        };
      }) are
