use Rattle.std.proofs.Common.{ap₂, sym, ap, subst, ◌∙◌, inl, inr, lit<, ℕ, ◌≡◌, List, Some, replicate}
use Rattle.error_detect.specs.Watching.{Watch, fresh}
use Rattle.error_reports.specs.Notes.{Notes}
use Rattle.node_core.specs.Inside.{AreItsNotes, none_found}
use Rattle.omh.specs.Heard.{Hearing}
use Rattle.agreed_state.specs.Agreed.{AgreedView, first_agreed}
use Rattle.agreed_state.specs.declared.config.Config.{Config}
use Rattle.protocol.specs.Configured.{setting_of}
use Rattle.protocol.specs.View.{first_kept}
use Rattle.node_steps.specs.Fresh.{newly_open, unused}
use Rattle.node_steps.specs.Outcome.{Outcome, cold_outcome}
use Rattle.node_steps.specs.Parts.{NodeView, Found}
use Rattle.node_core.proofs.Standing.{shut_open}
use Rattle.node_core.proofs.controller.Controller.before_first.Goals as goal

pub new-notes-requires : goal.new-notes-requires
new-notes-requires g c = (
  elim c.requires.place.capacity [ inl e ↦ rw e (lit< tt) | inr e ↦ rw e (lit< tt) ],
  (c.requires.place.few, c.kind_count.ensures.few),
)

pub first-requires : goal.first-requires
first-requires g c = (
  elim c.requires.place.capacity [ inl e ↦ rw e (lit< tt) | inr e ↦ rw e (lit< tt) ],
  (elim c.requires.place.capacity [ inl e ↦ rw e (lit< tt) | inr e ↦ rw e (lit< tt) ], c.requires.place.config_is),
)

pub cold-requires : goal.cold-requires
cold-requires g c = elim c.requires.place.capacity [ inl e ↦ rw e (lit< tt) | inr e ↦ rw e (lit< tt) ]

pub invariant_of-result : goal.invariant_of-result
invariant_of-result g c =
    let w = c.requires.watch in
    let its : AreItsNotes c.args.config.now c.args.me c.new-notes.result = record {
      nodes = ap (λ (x : Notes). x.nodes) c.new-notes.ensures;
      me_is = ap (λ (x : Notes). x.me) c.new-notes.ensures;
      kinds = ap (λ (x : Notes). x.kinds) c.new-notes.ensures ∙ c.kind_count.ensures.count;
    } in
    record {
      place = c.requires.place;
      slot = tt;
      watch = record {
        nodes = ap (λ (x : Watch). x.nodes) w;
        me_is = ap (λ (x : Watch). x.me) w;
        greatest = c.requires.greatest;
        expects = λ h. absurd (shut_open (ap (λ (x : Watch). x.is_open) w) h);
      };
      kept_notes = its;
      notes = subst (AreItsNotes c.args.config.now c.args.me) (sym c.none.ensures.notes) its;
    }

pub kind_count-requires : goal.kind_count-requires
kind_count-requires g c = tt

pub none-requires : goal.none-requires
none-requires g c = (elim c.requires.place.capacity [ inl e ↦ rw e (lit< tt) | inr e ↦ rw e (lit< tt) ], elim c.requires.place.capacity [ inl e ↦ rw e (lit< tt) | inr e ↦ rw e (lit< tt) ])

-- what is opened is seen as a node before its first period
abbrev made : {N : ℕ} → Config N → ℕ → ℕ → AgreedView → List ℕ → Hearing ℕ → Hearing (List ℕ) → Found → Watch → Outcome → NodeView N
made config me frame_max a carried done rows found w o = record (newly_open config me frame_max) {
  kept = record (first_kept (setting_of config)) { state = Some a; carried = carried };
  done = done;
  rows = rows;
  found = found;
  arrived = w;
  outcome = o;
}

module _ {N : ℕ} (config : Config N) (me frame_max : ℕ) (a : AgreedView) (x : Notes) (done : Hearing ℕ) (rows : Hearing (List ℕ)) (f : Found) (w : Watch) (o : Outcome) where
  fresh_seen : {kinds : ℕ} → a ≡ first_agreed N config → x ≡ record { nodes = config.nodes; me = me; kinds = kinds; row = replicate N 0; carried = replicate N 0 } → done ≡ unused config.nodes config.m → rows ≡ unused config.nodes config.m → f ≡ none_found N x → w ≡ fresh config.nodes me frame_max → o ≡ cold_outcome N
      → made config me frame_max a x.carried done rows f w o ≡ newly_open config me frame_max
  fresh_seen first notes heard told none watch cold =
      ap₂ (λ (d : Hearing ℕ) (r : Hearing (List ℕ)). made config me frame_max a x.carried d r f w o) heard told
      ∙ ap₂ (λ (b : AgreedView) (y : List ℕ). made config me frame_max b y (unused config.nodes config.m) (unused config.nodes config.m) f w o) first (ap (λ (y : Notes). y.carried) notes)
      ∙ ap₂ (λ (g : Found) (v : Watch). made config me frame_max (first_agreed N config) (replicate N 0) (unused config.nodes config.m) (unused config.nodes config.m) g v o) (none ∙ ap (λ (y : Notes). none_found N y) notes) watch
      ∙ ap (λ (p : Outcome). made config me frame_max (first_agreed N config) (replicate N 0) (unused config.nodes config.m) (unused config.nodes config.m) (none_found N (record { nodes = config.nodes; me = me; kinds = 0; row = replicate N 0; carried = replicate N 0 })) (fresh config.nodes me frame_max) p) cold

pub returns : goal.returns
returns g c = fresh_seen c.args.config.now c.args.me c.args.watch.frame_max _ _ _ _ _ _ _ c.first.ensures.first c.new-notes.ensures c.requires.unused.done_is c.requires.unused.rows_are c.none.ensures.found c.requires.watch c.cold.ensures
