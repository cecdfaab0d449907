-- What follows from settled claims, group by group.
use Rattle.std.proofs.Common.{ℕ, ◌≡◌, ◌≢◌, ◌<◌, ◌≤◌, ◌+◌, ◌==◌, ◌||◌, ◌&&◌, Bool, true, false, if◌then◌else◌, List, length, length-set, set, get_or, get_or-set_other, get_or-set_same, Option, None, Some, refl, sym, ap, ap₂, ◌∙◌, inl, inr, arith, eq-eqb, ne_eqb}
use Rattle.std.proofs.lemmas.Bool.{cases_eq, cases_lt, cond-true, cond-false}
use Rattle.node_grid.specs.NodeSet.{has_id, ids_where}
use Rattle.node_grid.specs.NodeSetLaws.{has-filter}
use Rattle.node_grid.specs.Kinds.{claim, overrun}
use Rattle.node_grid.specs.ListFacts.{same_at}
use Rattle.omh_paths.specs.declared.wrapped.Wrapped.{Wrapped}
use Rattle.list_scheduler.specs.declared.schedule.Verdict.{Verdict}
use Rattle.list_scheduler.specs.OneNode.{verdicts}
use Rattle.list_scheduler.specs.Schedule.{no_verdict}
use Rattle.error_reports.specs.Notes.{Notes, also_noted}
use Rattle.agreed_state.specs.declared.config.Config.{Config}
use Rattle.agreed_state.specs.Agreed.{AgreedView}
use Rattle.protocol.specs.Configured.{setting_of}
use Rattle.protocol.specs.View.{due_channels}
use Rattle.shared_states.specs.declared.belief.Belief.{Belief}
use Rattle.shared_states.specs.Sharing.{state_at}
use Rattle.view_law.specs.Made.{by_verdicts}
use Rattle.grouped_nodes.specs.Grouping.{first_of, AreFirsts}
use Rattle.grouped_nodes.specs.Shared.{AreShared, belief_of, notes_at}

-- ---- notes of some nodes

-- of the nodes below i, these ones have more noted
pub record AreMore (n : ℕ) (nodes : List ℕ) (more : ℕ → ℕ → Bool) (old : List Notes) (i : ℕ) (xs : List Notes) : Type 0 where
  pub wide : length xs ≡ n
  pub so_far : (j : ℕ) → j < i → notes_at xs j ≡ (if has_id nodes j then also_noted n (notes_at old j) more else notes_at old j)
  pub rest : (j : ℕ) → i ≤ j → notes_at xs j ≡ notes_at old j

module _ (n : ℕ) (nodes : List ℕ) (more : ℕ → ℕ → Bool) (old : List Notes) where
  pub more_none : length old ≡ n → AreMore n nodes more old 0 old
  more_none many = record { wide = many; so_far = λ j low. absurd (omega arith); rest = λ j high. refl }

  pub more_put : (i : ℕ) (xs : List Notes) (y : Notes) → i < n → has_id nodes i ≡ true → AreMore n nodes more old i xs → y ≡ also_noted n (notes_at xs i) more → AreMore n nodes more old (i + 1) (set xs i y)
  more_put i xs y low on m is = record {
    wide = length-set xs i y ∙ m.wide;
    so_far = λ j less. elim (cases_eq j i) [
      | inl e ↦
          let room : i < length xs = (let w = m.wide in omega arith) in
          ap (notes_at (set xs i y)) e ∙ get_or-set_same xs i y _ room ∙ is ∙ ap (λ (z : Notes). also_noted n z more) (m.rest i (omega arith))
          ∙ sym (ap (λ (k : ℕ). if has_id nodes k then also_noted n (notes_at old k) more else notes_at old k) e ∙ cond-true (has_id nodes i) (also_noted n (notes_at old i) more) (notes_at old i) on)
      | inr ne ↦ get_or-set_other xs i j y _ ne ∙ m.so_far j (omega arith)
    ];
    rest = λ j high. let ne : j ≢ i = omega arith in get_or-set_other xs i j y _ ne ∙ m.rest j (omega arith);
  }

  pub more_skip : (i : ℕ) (xs : List Notes) → has_id nodes i ≡ false → AreMore n nodes more old i xs → AreMore n nodes more old (i + 1) xs
  more_skip i xs off m = record {
    wide = m.wide;
    so_far = λ j less. elim (cases_eq j i) [
      | inl e ↦
          ap (notes_at xs) e ∙ m.rest i (omega arith)
          ∙ sym (ap (λ (k : ℕ). if has_id nodes k then also_noted n (notes_at old k) more else notes_at old k) e ∙ cond-false (has_id nodes i) (also_noted n (notes_at old i) more) (notes_at old i) off)
      | inr ne ↦ m.so_far j (omega arith)
    ];
    rest = λ j high. m.rest j (omega arith);
  }

-- ---- verdicts that say nothing

pub says_nothing : (judged : List Verdict) (j e : ℕ) → get_or judged j no_verdict ≡ no_verdict → by_verdicts judged j e ≡ false
says_nothing judged j e none = ap (λ (v : Verdict). (v.claim && e == claim) || (v.overrun && e == overrun)) none

-- a verdict with neither is none
pub is_none : (v : Verdict) → v.claim ≡ false → v.overrun ≡ false → v ≡ no_verdict
is_none v c o = ap₂ (λ (a b : Bool). record { claim = a; overrun = b }) c o

-- ---- group by group

-- what the verdicts say is noted, where there is a state
abbrev pub noted_by : {N : ℕ} → Config N → Option AgreedView → List (Wrapped ℕ) → Notes → Notes
noted_by config None done n = n
noted_by {N} config (Some a) done n = also_noted N n (by_verdicts (verdicts N config.graph a.standing.members a.copies done))

-- the groups whose first is below f are done
pub record AreDone {N : ℕ} (config : Config N) (states : List (Option AgreedView)) (groups : List ℕ) (old : List (Belief N)) (f : ℕ) (bs : List (Belief N)) : Type 0 where
  pub wide : length bs ≡ N
  pub due : (j : ℕ) (a : AgreedView) (d : Belief N) → j < f → j < N → first_of groups j ≡ j → state_at states j ≡ Some a
      → (get_or bs j d).due.items ≡ due_channels (setting_of config) a (get_or old j d).done
  pub kept : (j : ℕ) (d : Belief N) → j < N → get_or bs j d ≡ record (get_or old j d) { due = (get_or bs j d).due }
  pub rest : (j : ℕ) (d : Belief N) → f ≤ j → get_or bs j d ≡ get_or old j d
  pub none : (j : ℕ) (d : Belief N) → state_at states j ≡ None → get_or bs j d ≡ get_or old j d

pub record AreJudged {N : ℕ} (config : Config N) (states : List (Option AgreedView)) (groups : List ℕ) (old : List (Belief N)) (notes : List Notes) (f : ℕ) (ns : List Notes) : Type 0 where
  pub many : length ns ≡ N
  pub so_far : (j : ℕ) (d : Belief N) → j < N → first_of groups j < f
      → notes_at ns j ≡ noted_by config (state_at states (first_of groups j)) (get_or old (first_of groups j) d).done (notes_at notes j)
  pub later : (j : ℕ) → j < N → f ≤ first_of groups j → notes_at ns j ≡ notes_at notes j

module _ {N : ℕ} (config : Config N) (states : List (Option AgreedView)) (groups : List ℕ) (firsts : AreFirsts N groups) (old : List (Belief N)) (many : length old ≡ N) (notes : List Notes) where
  pub done_none : AreDone config states groups old 0 old
  done_none = record { wide = many; due = λ j a d low. absurd (omega arith); kept = λ j d low. refl; rest = λ j d high. refl; none = λ j d is. refl }

  pub done_skip : (f : ℕ) (bs : List (Belief N)) → (first_of groups f ≡ f → state_at states f ≡ None) → AreDone config states groups old f bs → AreDone config states groups old (f + 1) bs
  done_skip f bs none m = record {
    wide = m.wide;
    due = λ j a d less low own is. elim (cases_eq j f) [
      | inl e ↦
          let clash : None ≡ Some a = sym (none (ap (first_of groups) (sym e) ∙ own ∙ e)) ∙ ap (state_at states) (sym e) ∙ is in
          absurd (cc)
      | inr ne ↦ m.due j a d (omega arith) low own is
    ];
    kept = m.kept;
    rest = λ j d high. m.rest j d (omega arith);
    none = m.none;
  }

  pub done_put : (f : ℕ) (bs : List (Belief N)) (a : AgreedView) (d b : Belief N) → f < N → state_at states f ≡ Some a → AreDone config states groups old f bs
      → b.due.items ≡ due_channels (setting_of config) a (get_or bs f d).done → b ≡ record (get_or bs f d) { due = b.due } → AreDone config states groups old (f + 1) (set bs f b)
  done_put f bs a d b low here m due kept = record {
    wide = length-set bs f b ∙ m.wide;
    due = λ j x d' less within own is. elim (cases_eq j f) [
      | inl e ↦
          let same : Some a ≡ Some x = sym here ∙ ap (state_at states) (sym e) ∙ is in
          ap (λ (k : ℕ). (get_or (set bs f b) k d').due.items) e
          ∙ ap (λ (y : Belief N). y.due.items) (get_or-set_same bs f b d' room) ∙ due
          ∙ ap₂ (λ (o : Option AgreedView) (y : Belief N). due_channels (setting_of config) (or_else o) y.done) same (was d')
          ∙ ap (λ (k : ℕ). due_channels (setting_of config) x (get_or old k d').done) (sym e)
      | inr ne ↦ ap (λ (y : Belief N). y.due.items) (get_or-set_other bs f j b d' ne) ∙ m.due j x d' (omega arith) within own is
    ];
    kept = λ j d' within. elim (cases_eq j f) [
      | inl e ↦
          let at : get_or (set bs f b) j d' ≡ b = ap (λ (k : ℕ). get_or (set bs f b) k d') e ∙ get_or-set_same bs f b d' room in
          at ∙ kept ∙ ap₂ (λ (y z : Belief N). record y { due = z.due }) (was d' ∙ ap (λ (k : ℕ). get_or old k d') (sym e)) (sym at)
      | inr ne ↦
          let at : get_or (set bs f b) j d' ≡ get_or bs j d' = get_or-set_other bs f j b d' ne in
          at ∙ m.kept j d' within ∙ ap (λ (z : Belief N). record (get_or old j d') { due = z.due }) (sym at)
    ];
    rest = λ j d' high. let ne : j ≢ f = omega arith in get_or-set_other bs f j b d' ne ∙ m.rest j d' (omega arith);
    none = λ j d' is. elim (cases_eq j f) [
      | inl e ↦ absurd (let clash : None ≡ Some a = sym is ∙ ap (state_at states) e ∙ here in cc)
      | inr ne ↦ get_or-set_other bs f j b d' ne ∙ m.none j d' is
    ];
  }
    where
      room : f < length bs
      room = let w = m.wide in omega arith

      or_else : Option AgreedView → AgreedView
      or_else (Some y) = y
      or_else None = a

      was : (d' : Belief N) → get_or bs f d ≡ get_or old f d'
      was d' = same_at bs f d d' room ∙ m.rest f d' (omega arith)

  -- the first of a group is its own
  own_first : (j f : ℕ) → j < N → first_of groups j ≡ f → first_of groups f ≡ f
  own_first j f low e = ap (first_of groups) (sym e) ∙ firsts.own j low ∙ e

  pub judged_none : length notes ≡ N → AreJudged config states groups old notes 0 notes
  judged_none all = record { many = all; so_far = λ j d low less. absurd (omega arith); later = λ j low high. refl }

  pub judged_skip : (f : ℕ) (ns : List Notes) → (first_of groups f ≡ f → state_at states f ≡ None) → AreJudged config states groups old notes f ns → AreJudged config states groups old notes (f + 1) ns
  judged_skip f ns none m = record {
    many = m.many;
    so_far = λ j d low less. elim (cases_eq (first_of groups j) f) [
      | inl e ↦
          m.later j low (omega arith)
          ∙ sym (ap (λ (o : Option AgreedView). noted_by config o (get_or old (first_of groups j) d).done (notes_at notes j)) (ap (state_at states) e ∙ none (own_first j f low e)))
      | inr ne ↦ m.so_far j d low (omega arith)
    ];
    later = λ j low high. m.later j low (omega arith);
  }

  pub judged_put : (f : ℕ) (ns ns' : List Notes) (a : AgreedView) (judged : List Verdict) (b : Belief N) → f < N → state_at states f ≡ Some a → AreJudged config states groups old notes f ns
      → judged ≡ verdicts N config.graph a.standing.members a.copies (get_or old f b).done → length ns' ≡ N
      → ((i : ℕ) → i < N → notes_at ns' i ≡ (if has_id (ids_where (λ i. first_of groups i == f) N) i then also_noted N (notes_at ns i) (by_verdicts judged) else notes_at ns i))
      → AreJudged config states groups old notes (f + 1) ns'
  judged_put f ns ns' a judged b low here m are all each = record {
    many = all;
    so_far = λ j d within less. elim (cases_eq (first_of groups j) f) [
      | inl e ↦
          each j within
          ∙ cond-true (has_id (ids_where (λ i. first_of groups i == f) N) j) (also_noted N (notes_at ns j) (by_verdicts judged)) (notes_at ns j) (has-filter (λ i. first_of groups i == f) N j within ∙ eq-eqb (first_of groups j) f e)
          ∙ ap₂ (λ (z : Notes) (vs : List Verdict). also_noted N z (by_verdicts vs)) (m.later j within (omega arith)) are
          ∙ ap (λ (y : Belief N). noted_by config (Some a) y.done (notes_at notes j)) (same_at old f b d (let w = many in omega arith))
          ∙ sym (ap₂ (λ (o : Option AgreedView) (k : ℕ). noted_by config o (get_or old k d).done (notes_at notes j)) (ap (state_at states) e ∙ here) e)
      | inr ne ↦ away j within ne ∙ m.so_far j d within (omega arith)
    ];
    later = λ j within high. let ne : first_of groups j ≢ f = omega arith in away j within ne ∙ m.later j within (omega arith);
  }
    where
      away : (j : ℕ) → j < N → first_of groups j ≢ f → notes_at ns' j ≡ notes_at ns j
      away j within ne =
          each j within
          ∙ cond-false (has_id (ids_where (λ i. first_of groups i == f) N) j) (also_noted N (notes_at ns j) (by_verdicts judged)) (notes_at ns j) (has-filter (λ i. first_of groups i == f) N j within ∙ ne_eqb (first_of groups j) f ne)

  noted_kinds : (o : Option AgreedView) (done : List (Wrapped ℕ)) (n : Notes) → (noted_by config o done n).kinds ≡ n.kinds
  noted_kinds None done n = refl
  noted_kinds (Some a) done n = refl

  -- the kinds stay the same
  pub judged_kinds : (f : ℕ) (ns : List Notes) (d : Belief N) → AreJudged config states groups old notes f ns → (j : ℕ) → j < N → (notes_at ns j).kinds ≡ (notes_at notes j).kinds
  judged_kinds f ns d m j low = elim (cases_lt (first_of groups j) f) [
    | inl less ↦ ap (λ (z : Notes). z.kinds) (m.so_far j d low less) ∙ noted_kinds (state_at states (first_of groups j)) (get_or old (first_of groups j) d).done (notes_at notes j)
    | inr more ↦ ap (λ (z : Notes). z.kinds) (m.later j low (omega arith))
  ]

  -- ---- all groups

  module _ (shared : AreShared N groups states) where
    first_low : (i : ℕ) → i < N → first_of groups i < N
    first_low i low = let e = firsts.early i low in omega arith

    pub all_due : (f : ℕ) (bs : List (Belief N)) → N ≤ f → AreDone config states groups old f bs → (i : ℕ) (a : AgreedView) (d : Belief N) → i < N → state_at states i ≡ Some a
        → (belief_of d bs groups i).due.items ≡ due_channels (setting_of config) a (belief_of d old groups i).done
    all_due f bs end m i a d low is = m.due (first_of groups i) a d (let l = first_low i low in omega arith) (first_low i low) (firsts.own i low) (shared i low ∙ is)

    pub all_noted : (f : ℕ) (ns : List Notes) → N ≤ f → AreJudged config states groups old notes f ns → (i : ℕ) (a : AgreedView) (d : Belief N) → i < N → state_at states i ≡ Some a
        → notes_at ns i ≡ also_noted N (notes_at notes i) (by_verdicts (verdicts N config.graph a.standing.members a.copies (belief_of d old groups i).done))
    all_noted f ns end m i a d low is =
        m.so_far i d low (let l = first_low i low in omega arith)
        ∙ ap (λ (o : Option AgreedView). noted_by config o (get_or old (first_of groups i) d).done (notes_at notes i)) (shared i low ∙ is)

    pub none_noted : (f : ℕ) (ns : List Notes) (d : Belief N) → N ≤ f → AreJudged config states groups old notes f ns → (i : ℕ) → i < N → state_at states i ≡ None → notes_at ns i ≡ notes_at notes i
    none_noted f ns d end m i low is =
        m.so_far i d low (let l = first_low i low in omega arith)
        ∙ ap (λ (o : Option AgreedView). noted_by config o (get_or old (first_of groups i) d).done (notes_at notes i)) (shared i low ∙ is)
