-- The slot of all nodes, and that of a run.
use Rattle.std.proofs.Common.{ℕ, ◌≡◌, ◌≢◌, ◌<◌, ◌≤◌, ◌+◌, Bool, true, false, not, ◌&&◌, ◌||◌, ◌==◌, List, [], length, length-set, get_or, set, get_or-set_same, get_or-set_other, Option, None, Some, refl, sym, ap, ap₂, subst, ◌∙◌, inl, inr, arith}
use Rattle.std.specs.Prelude.{is_some}
use Rattle.std.proofs.Math.Path.{fun_ext}
use Rattle.std.proofs.lemmas.Bool.{cases_Bool, cases_lt, cases_eq, cond-true, cond-false}
use Rattle.std.proofs.lemmas.List.{get_or_default}
use Rattle.node_grid.specs.NodeSet.{has_id, ids_where}
use Rattle.node_grid.specs.NodeSetLaws.{passes_where, has-filter}
use Rattle.node_grid.specs.Version.{kind_count}
use Rattle.frames.specs.Content.{Expectation}
use Rattle.fault_classes.specs.Line.{effect_at}
use Rattle.fault_classes.specs.Plan.{Plan}
use Rattle.node_grid.specs.Kinds.{state}
use Rattle.error_reports.specs.Notes.{Notes, noted_besides, also_noted}
use Rattle.error_reports.specs.NoteLaws.{noted_alike}
use Rattle.agreed_state.specs.Agreed.{AgreedView}
use Rattle.agreed_state.specs.Body.{body, state_len}
use Rattle.agreed_state.specs.Facts.{none_unless}
use Rattle.protocol.specs.Arrival.{Arrival, is_good, body_said}
use Rattle.protocol.specs.Arrival.Arrival.{Good}
use Rattle.protocol.specs.Talk.{arrives}
use Rattle.protocol.specs.View.{Setting, Received, other_body, adopted_by, goes_with, synced_by}
use Rattle.protocol.specs.Run.{System, state_content, goes_in, run}
use Rattle.protocol.specs.Configured.{setting_of}
use Rattle.shared_states.specs.Sharing.{state_at, AreAgreed}
use Rattle.heard_states.specs.Slot.{told_state, notes_at, no_notes, noted_states, IsSyncSlot, AreReady, IsSlotOf, AreHeard}
use Rattle.heard_states.specs.Told.{sent_by, told_in, AreSenders}
use Rattle.heard_states.specs.Calm.{AreUntouched, IsCalm}
use Rattle.heard_states.specs.declared.slot.SyncSlot.{SyncSlot}
use Rattle.heard_states.proofs.Alike.{good_alike, adopted_alike, others_good, some_at}
use Rattle.heard_states.proofs.Frames.{told_clean}
use Rattle.heard_states.proofs.Hearings.{other_same, good_bad}
use Rattle.heard_states.proofs.Carried.{IsPlain, carried_in}

-- what node i has of the frame of node j, where these are the states before the slot
abbrev pub told_old : {n : ℕ} → SyncSlot n → List (Option AgreedView) → ℕ → ℕ → Arrival (List ℕ)
told_old slot states i j = told_state slot.config.now slot.plan.now slot.period i j (state_at states j)

-- a node without a state may have taken one meanwhile, of which it doesn't send
pub sent_old : (full : List ℕ) (old now : List (Option AgreedView)) (j : ℕ) → (has_id full j ≡ true → state_at now j ≡ state_at old j) → (has_id full j ≡ false → state_at old j ≡ None)
    → sent_by full now j ≡ state_at old j
sent_old full old now j kept none = elim (cases_Bool (has_id full j)) [
  | inl on ↦ cond-true (has_id full j) (state_at now j) None on ∙ kept on
  | inr off ↦ cond-false (has_id full j) (state_at now j) None off ∙ sym (none off)
]

-- the slot after so many nodes
pub record IsHeardTo {n : ℕ} (slot : SyncSlot n) (full : List ℕ) (old : List (Option AgreedView)) (before : List Notes) (i : ℕ) (states : List (Option AgreedView)) (notes : List Notes) (heard : List (List ℕ)) : Type 0 where
  pub states_long : length states ≡ n
  pub agreed : AreAgreed slot.config.now states
  pub full_kept : (j : ℕ) → has_id full j ≡ true → state_at states j ≡ state_at old j
  pub later : (j : ℕ) → i ≤ j → state_at states j ≡ state_at old j
  pub adopted : (j : ℕ) → j < i → has_id full j ≡ false → state_at states j ≡ adopted_by (setting_of slot.config.now) j (told_old slot old j)
  pub good : (j : ℕ) → j < i → get_or heard j [] ≡ ids_where (λ q. not (q == j) && is_good (told_old slot old j q)) slot.config.now.nodes
  pub noted : (j : ℕ) (a : AgreedView) → j < i → state_at states j ≡ Some a → notes_at notes j ≡ also_noted n (notes_at before j) (noted_states slot.config.now a (told_old slot old j))
  pub kept : (j : ℕ) → j < i → notes_at notes j ≡ record (notes_at before j) { row = (notes_at notes j).row }
  pub rest : (j : ℕ) → i ≤ j → notes_at notes j ≡ notes_at before j
  pub long : length notes ≡ length before
  pub wide : length heard ≡ n

-- what is sent stays what it was
pub senders_kept : {n : ℕ} (slot : SyncSlot n) → IsSyncSlot slot → (full touched : List ℕ) (old now : List (Option AgreedView)) → ((j : ℕ) → has_id full j ≡ true → is_some (state_at old j) ≡ true) → ((j : ℕ) → has_id full j ≡ true → j < slot.config.now.nodes)
    → AreUntouched slot touched → length now ≡ n → AreAgreed slot.config.now now → ((j : ℕ) → has_id full j ≡ true → state_at now j ≡ state_at old j) → AreSenders slot (record { full = full; touched = touched }) now
senders_kept slot ok full touched old now there used untouched long agreed kept = record { slot_is = ok; long = long; agreed = agreed; used = used; there = λ j on. ap is_some (kept j on) ∙ there j on; untouched = untouched }

-- the nodes that are awake when the slot begins
module _ {n : ℕ} (slot : SyncSlot n) (states : List (Option AgreedView)) (notes : List Notes) (ok : IsSyncSlot slot) (ready : AreReady slot states notes) (full : List ℕ) (is : full ≡ ids_where (λ i. is_some (state_at states i)) n) where
  pub full_there : (j : ℕ) → has_id full j ≡ true → is_some (state_at states j) ≡ true
  full_there j on = passes_where (λ i. is_some (state_at states i)) n j (sym (ap (λ (s : List ℕ). has_id s j) is) ∙ on)

  pub there_full : (j : ℕ) → is_some (state_at states j) ≡ true → has_id full j ≡ true
  there_full j on =
      let low = ready.used j on in
      let few = ok.config.few_nodes in
      ap (λ (s : List ℕ). has_id s j) is ∙ has-filter (λ i. is_some (state_at states i)) n j (omega arith) ∙ on

  pub full_used : (j : ℕ) → has_id full j ≡ true → j < slot.config.now.nodes
  full_used j on = ready.used j (full_there j on)

  pub none_off : (j : ℕ) → has_id full j ≡ false → state_at states j ≡ None
  none_off j off = none_unless (state_at states j) (λ t. let z : false ≡ true = sym off ∙ there_full j t in cc)

-- node i has taken what it adopts, if it had no state
pub record IsTaken {n : ℕ} (slot : SyncSlot n) (full : List ℕ) (i : ℕ) (states now : List (Option AgreedView)) : Type 0 where
  pub long : length now ≡ n
  pub agreed : AreAgreed slot.config.now now
  pub kept : has_id full i ≡ true → state_at now i ≡ state_at states i
  pub taken : has_id full i ≡ false → state_at now i ≡ adopted_by (setting_of slot.config.now) i (told_in slot full states i)
  pub others : (j : ℕ) → j ≢ i → state_at now j ≡ state_at states j

-- and has heard these well, and noted this
pub record IsNoted {n : ℕ} (slot : SyncSlot n) (full : List ℕ) (i : ℕ) (now : List (Option AgreedView)) (old note : Notes) (heard : List ℕ) : Type 0 where
  pub good : heard ≡ ids_where (λ q. not (q == i) && is_good (told_in slot full now i q)) slot.config.now.nodes
  pub noted : (a : AgreedView) → state_at now i ≡ Some a → note ≡ also_noted n old (noted_states slot.config.now a (told_in slot full now i))
  pub kept : note ≡ record old { row = note.row }

module _ {n : ℕ} (slot : SyncSlot n) (full : List ℕ) (old : List (Option AgreedView)) (before : List Notes) (none : (j : ℕ) → has_id full j ≡ false → state_at old j ≡ None) where
  told_is : (now : List (Option AgreedView)) → ((j : ℕ) → has_id full j ≡ true → state_at now j ≡ state_at old j) → (i : ℕ) → told_in slot full now i ≡ told_old slot old i
  told_is now kept i = fun_ext (λ j. ap (told_state slot.config.now slot.plan.now slot.period i j) (sent_old full old now j (kept j) (none j)))

  module _ (i : ℕ) (states now : List (Option AgreedView)) (notes : List Notes) (heard : List (List ℕ)) (was : IsHeardTo slot full old before i states notes heard) (t : IsTaken slot full i states now) where
    -- of a full node the state stays
    pub taken_kept : (j : ℕ) → has_id full j ≡ true → state_at now j ≡ state_at old j
    taken_kept j on = elim (cases_eq j i) [
      | inl e ↦ subst (λ (k : ℕ). has_id full k ≡ true → state_at now k ≡ state_at old k) (sym e) (λ on'. t.kept on' ∙ was.full_kept i on') on
      | inr ne ↦ t.others j ne ∙ was.full_kept j on
    ]

    was_at : (d : Notes) → i < length notes → get_or notes i d ≡ notes_at before i
    was_at d room = get_or_default notes i d no_notes room ∙ was.rest i (omega arith)

    -- one node more, whose notes are read with any default
    pub heard_more : (d note : Notes) (good : List ℕ) → i < length notes → i < length heard → IsNoted slot full i now (get_or notes i d) note good
        → IsHeardTo slot full old before (i + 1) now (set notes i note) (set heard i good)
    heard_more d note good room wide h = record {
      states_long = t.long;
      agreed = t.agreed;
      full_kept = taken_kept;
      later = λ j after. t.others j (omega arith) ∙ was.later j (omega arith);
      adopted = λ j low off. elim (cases_eq j i) [
        | inl e ↦ subst (λ (k : ℕ). has_id full k ≡ false → state_at now k ≡ adopted_by (setting_of slot.config.now) k (told_old slot old k)) (sym e)
            (λ off'. t.taken off' ∙ ap (adopted_by (setting_of slot.config.now) i) (told_is states was.full_kept i)) off
        | inr ne ↦ t.others j ne ∙ was.adopted j (omega arith) off
      ];
      good = λ j low. elim (cases_eq j i) [
        | inl e ↦ subst (λ (k : ℕ). get_or (set heard i good) k [] ≡ ids_where (λ q. not (q == k) && is_good (told_old slot old k q)) slot.config.now.nodes) (sym e)
            (get_or-set_same heard i good [] wide ∙ h.good ∙ ap (λ (y : ℕ → Arrival (List ℕ)). ids_where (λ q. not (q == i) && is_good (y q)) slot.config.now.nodes) (told_is now taken_kept i))
        | inr ne ↦ get_or-set_other heard i j good [] ne ∙ was.good j (omega arith)
      ];
      noted = λ j a low e'. elim (cases_eq j i) [
        | inl e ↦ subst (λ (k : ℕ). state_at now k ≡ Some a → notes_at (set notes i note) k ≡ also_noted n (notes_at before k) (noted_states slot.config.now a (told_old slot old k))) (sym e)
            (λ mine.
            get_or-set_same notes i note no_notes room
            ∙ h.noted a mine
            ∙ ap₂ (λ (m : Notes) (y : ℕ → Arrival (List ℕ)). also_noted n m (noted_states slot.config.now a y)) (was_at d room) (told_is now taken_kept i)) e'
        | inr ne ↦ get_or-set_other notes i j note no_notes ne ∙ was.noted j a (omega arith) (sym (t.others j ne) ∙ e')
      ];
      kept = λ j low. elim (cases_eq j i) [
        | inl e ↦ subst (λ (k : ℕ). notes_at (set notes i note) k ≡ record (notes_at before k) { row = (notes_at (set notes i note) k).row }) (sym e)
            (subst (λ (m : Notes). m ≡ record (notes_at before i) { row = m.row }) (sym (get_or-set_same notes i note no_notes room))
            (h.kept ∙ ap (λ (m : Notes). record m { row = note.row }) (was_at d room)))
        | inr ne ↦ subst (λ (m : Notes). m ≡ record (notes_at before j) { row = m.row }) (sym (get_or-set_other notes i j note no_notes ne)) (was.kept j (omega arith))
      ];
      rest = λ j after. get_or-set_other notes i j note no_notes (omega arith) ∙ was.rest j (omega arith);
      long = length-set notes i note ∙ was.long;
      wide = length-set heard i good ∙ was.wide;
    }

-- at the end all are ready again
pub ready_end : {n : ℕ} (slot : SyncSlot n) (full : List ℕ) (old now : List (Option AgreedView)) (before notes : List Notes) (i : ℕ) (heard : List (List ℕ)) → AreReady slot old before → i ≤ slot.config.now.nodes → slot.config.now.nodes ≤ i
    → IsHeardTo slot full old before i now notes heard → AreReady slot now notes
ready_end slot full old now before notes i heard ready most end to = record {
  long = to.states_long;
  agreed = to.agreed;
  used = λ j on. elim (cases_lt j slot.config.now.nodes) [
    | inl low ↦ low
    | inr past ↦ ready.used j (sym (ap is_some (to.later j (omega arith))) ∙ on)
  ];
  room = omega (arith, to.long, ready.room);
  nodes_are = λ j low. ap (λ (m : Notes). m.nodes) (to.kept j (omega arith)) ∙ ready.nodes_are j low;
  me_is = λ j low. ap (λ (m : Notes). m.me) (to.kept j (omega arith)) ∙ ready.me_is j low;
  kinds = λ j low. ap (λ (m : Notes). m.kinds) (to.kept j (omega arith)) ∙ ready.kinds j low;
}

-- ---- the slot of a run

-- what is expected under a setting
abbrev expects : Setting → ℕ → ℕ → Expectation
expects s p j = record {
  version = s.config.version;
  capacity = s.capacity;
  nodes = s.config.nodes;
  m = s.config.m;
  period = p;
  slot = 0;
  sender = j;
  members = [];
  state_len = state_len s.config;
  tasks = length s.config.graph.tasks;
  due = 0;
}

abbrev told_under : Setting → Plan → ℕ → ℕ → ℕ → Option AgreedView → Arrival (List ℕ)
told_under s plan p i j o = arrives body_said (effect_at plan.lines p 0 j i) (expects s p j) (expects s p j) (state_content s o)

module _ {n : ℕ} (slot : SyncSlot n) (old : List (Option AgreedView)) (before : List Notes) (ok : IsSyncSlot slot) (ready : AreReady slot old before) (sys : System) (of : IsSlotOf slot old before sys) where
  abbrev s : Setting
  s = setting_of slot.config.now

  abbrev x : ℕ → Received
  x i = (run sys).received i slot.period

  told_run : (i j : ℕ) → j < slot.config.now.nodes → (x i).sync j ≡ told_old slot old i j
  told_run i j low =
      ap₂ (λ (t : Setting) (plan : Plan). told_under t plan slot.period i j (goes_in sys slot.period j).state) of.setting_is of.plan_is
      ∙ ap (told_state slot.config.now slot.plan.now slot.period i j) (sym (of.states_are j low))

  good_run : (i : ℕ) → ids_where (λ q. not (q == i) && is_good (told_old slot old i q)) slot.config.now.nodes ≡ synced_by s i (x i)
  good_run i = good_alike slot.config.now.nodes i (λ q. is_good (told_old slot old i q)) (λ q. is_good ((x i).sync q)) (λ q low other. ap is_good (sym (told_run i q low)))

  adopted_run : (i : ℕ) → adopted_by s i (told_old slot old i) ≡ adopted_by s i (x i).sync
  adopted_run i = adopted_alike s i (told_old slot old i) (x i).sync (λ q low other. sym (told_run i q low))

  noted_run : (i : ℕ) (a : AgreedView) → i < slot.config.now.nodes
      → also_noted n (notes_at before i) (noted_states slot.config.now a (told_old slot old i)) ≡ also_noted n (notes_at before i) (noted_states slot.config.now a (x i).sync)
  noted_run i a low =
      noted_alike n (notes_at before i) (noted_states slot.config.now a (told_old slot old i)) (noted_states slot.config.now a (x i).sync)
      (λ j k room used other within. ap (λ (b : Arrival (List ℕ)). noted_states slot.config.now a (λ q. b) j k) (sym (told_run i j (let e = ready.nodes_are i low in omega arith))))

  -- where a node had a state it keeps it, and else it takes what it adopts
  goes : (i : ℕ) (full : List ℕ) (states : List (Option AgreedView)) → i < slot.config.now.nodes → (is_some (state_at old i) ≡ true → has_id full i ≡ true) → (has_id full i ≡ true → is_some (state_at old i) ≡ true)
      → (has_id full i ≡ true → state_at states i ≡ state_at old i) → (has_id full i ≡ false → state_at states i ≡ adopted_by s i (told_old slot old i))
      → state_at states i ≡ goes_with s i (x i) (goes_in sys slot.period i).state
  goes i full states low to_full from_full kept taken = by (state_at old i) refl
    where
      by : (o : Option AgreedView) → state_at old i ≡ o → state_at states i ≡ goes_with s i (x i) (goes_in sys slot.period i).state
      by (Some a) e = kept (to_full (ap is_some e)) ∙ e ∙ sym (ap (goes_with s i (x i)) (sym (of.states_are i low) ∙ e))
      by None e = taken (off (has_id full i) refl) ∙ adopted_run i ∙ sym (ap (goes_with s i (x i)) (sym (of.states_are i low) ∙ e))
        where
          off : (b : Bool) → has_id full i ≡ b → has_id full i ≡ false
          off false h = h
          off true h = let t : false ≡ true = sym (ap is_some e) ∙ from_full h in absurd (cc)

  -- at the end
  pub heard_end : (full : List ℕ) (i : ℕ) (states : List (Option AgreedView)) (notes : List Notes) (heard : List (List ℕ)) → ((j : ℕ) → is_some (state_at old j) ≡ true → has_id full j ≡ true) → ((j : ℕ) → has_id full j ≡ true → is_some (state_at old j) ≡ true)
      → slot.config.now.nodes ≤ i → IsHeardTo slot full old before i states notes heard → AreHeard slot sys before states notes heard
  heard_end full i states notes heard to_full from_full end to = record {
    heard_are = λ j low. to.good j (omega arith) ∙ good_run j;
    states_are = λ j low. goes j full states low (to_full j) (from_full j) (to.full_kept j) (to.adopted j (omega arith));
    notes_are = λ j a low e. to.noted j a (omega arith) e ∙ noted_run j a low;
    kept = λ j low. to.kept j (omega arith);
  }

  -- ---- where nothing is to be worked out

  module _ (calm : IsCalm slot old) where
    told_calm : (i j : ℕ) (a : AgreedView) → i < slot.config.now.nodes → j < slot.config.now.nodes → j ≢ i → state_at old i ≡ Some a → (x i).sync j ≡ Good (body slot.config.now a)
    told_calm i j a low low' other e =
        told_run i j low'
        ∙ ap (told_state slot.config.now slot.plan.now slot.period i j) (calm.one i j (calm.there i low) (calm.there j low') ∙ e)
        ∙ told_clean slot.config.now ok.capacity ok.config slot.period j slot.plan.now i a (ready.agreed i a e) (calm.untouched j i low' low other refl)

    pub calm_end : (heard : List (List ℕ)) → ((i : ℕ) → i < slot.config.now.nodes → get_or heard i [] ≡ ids_where (λ j. not (j == i)) slot.config.now.nodes) → AreHeard slot sys before old before heard
    calm_end heard others = record {
      heard_are = λ i low.
          let h = some_at (state_at old i) (calm.there i low) in
          others i low ∙ others_good slot.config.now.nodes i (λ q. is_good ((x i).sync q)) (λ q low' other. ap is_good (told_calm i q h.0 low low' other h.1));
      states_are = λ i low.
          let h = some_at (state_at old i) (calm.there i low) in
          h.1 ∙ sym (ap (goes_with s i (x i)) (sym (of.states_are i low) ∙ h.1));
      notes_are = λ i a low e. sym (
          noted_alike n (notes_at before i) (noted_states slot.config.now a (x i).sync) (λ j k. false)
          (λ j k room used other within. nothing a ((x i).sync j) k (told_calm i j a low (let t = ready.nodes_are i low in omega arith) (λ q. other (q ∙ sym (ready.me_is i low))) e))
          ∙ ap (λ (row : List ℕ). record (notes_at before i) { row = row }) (plain i low)
          );
      kept = λ i low. refl;
    }
      where
        nothing : (a : AgreedView) (b : Arrival (List ℕ)) (k : ℕ) → b ≡ Good (body slot.config.now a) → noted_states slot.config.now a (λ q. b) 0 k ≡ false
        nothing a b k e = ap₂ (λ t u. t || (u && k == state)) (good_bad b k (ap is_good e)) (ap (other_body (body slot.config.now a)) e ∙ other_same (body slot.config.now a))

        plain : (i : ℕ) → i < slot.config.now.nodes → noted_besides n (notes_at before i).kinds (notes_at before i).nodes (notes_at before i).me (notes_at before i).row (λ j k. false) ≡ (notes_at before i).row
        plain i low =
            ap (λ (k : ℕ). noted_besides n k (notes_at before i).nodes (notes_at before i).me (notes_at before i).row (λ j k. false)) (ready.kinds i low)
            ∙ ap (λ (k : ℕ). noted_besides n (kind_count slot.config.now.version) k (notes_at before i).me (notes_at before i).row (λ j k. false)) (ready.nodes_are i low)
            ∙ ap (λ (k : ℕ). noted_besides n (kind_count slot.config.now.version) slot.config.now.nodes k (notes_at before i).row (λ j k. false)) (ready.me_is i low)
            ∙ ap (λ (row : List ℕ). noted_besides n (kind_count slot.config.now.version) slot.config.now.nodes i row (λ j k. false)) (of.carried i low)
            ∙ subst (λ (t : Setting). IsPlain t i (goes_in sys slot.period i).carried) of.setting_is (carried_in sys slot.period i)
            ∙ sym (of.carried i low)
