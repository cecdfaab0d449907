-- The view of a node that goes through a period, from the parts that it makes of it.
use Rattle.std.proofs.Common.{ℕ, ◌≡◌, ◌<◌, ◌≤◌, ◌==◌, ◌||◌, ◌&&◌, Bool, true, false, List, Option, Some, ℤ, refl, sym, ap, ap₂, subst, ◌∙◌, inl, inr, eqb-true}
use Rattle.std.specs.Prelude.{nat_eq, is_some, if◌then◌else◌}
use Rattle.std.specs.Cmp.Lexicographic.{pointwise}
use Rattle.std.proofs.lemmas.Bool.{cases_Bool, cond-true, cond-false}
use Rattle.node_grid.specs.Kinds.{state, claim, overrun, deviate, equivocate}
use Rattle.node_grid.specs.NodeSet.{has_id}
use Rattle.node_grid.specs.Version.{kind_count}
use Rattle.node_grid.specs.NumberFacts.{kinds-few}
use Rattle.omh_paths.specs.declared.wrapped.Wrapped.{Wrapped}
use Rattle.list_scheduler.specs.declared.schedule.Verdict.{Verdict}
use Rattle.list_scheduler.specs.OneNode.{verdicts}
use Rattle.list_scheduler.specs.Schedule.{verdict, no_verdict}
use Rattle.error_reports.specs.Charge.{accuses}
use Rattle.error_reports.specs.Notes.{Notes, noted_row, of_each, also_noted, also_carried}
use Rattle.agreed_state.specs.declared.config.Config.{Config}
use Rattle.agreed_state.specs.declared.config.Inputs.{Inputs}
use Rattle.agreed_state.specs.Agreed.{AgreedView, agreed_after}
use Rattle.agreed_state.specs.Body.{body}
use Rattle.protocol.specs.Arrival.{is_bad}
use Rattle.protocol.specs.Heard.{rounds_bad}
use Rattle.protocol.specs.Settled.{settled_items, ear_of}
use Rattle.protocol.specs.FurtherKinds.{convicts_member}
use Rattle.protocol.specs.Configured.{setting_of}
use Rattle.protocol.specs.View.{Setting, Kept, Received, claims_settled, due_channels, own_values, votes_on, deviates, other_body, row_by, empty_row, noted, carried_by, is_further, synced_by, View, through}
use Rattle.protocol.specs.View.Mode.{Full, Joining}
use Rattle.protocol.specs.Facts.{further_is}
use Rattle.safety.proofs.Lists.{tabulated}
use Rattle.safety.proofs.Induction.{accuses_none}
use Rattle.view_law.specs.Made.{Parts, Blamed, Noted, by_verdicts, notes_begun, view_made, IsMadeOf}
use Rattle.view_law.proofs.Rows.{Alike, row_same, row_tells, noted_more}

-- what is alike where a test passes
where_it_is : (x y t : Bool) → (t ≡ true → x ≡ y) → (x && t) ≡ (y && t)
where_it_is x y true same = ap (λ (b : Bool). b && true) (same refl)
where_it_is true true false same = refl
where_it_is true false false same = refl
where_it_is false true false same = refl
where_it_is false false false same = refl

-- all that is noted, in the order of `protocol`
all_noted : (carried sync other rounds claim overrun convicted values far : Bool)
    → (carried || (((((sync || other) || rounds) || (claim || overrun)) || convicted) || (values || far))) ≡ (sync || (rounds || (values || (carried || (convicted || (other || (claim || (overrun || far))))))))
all_noted true true o r c v g u f = refl
all_noted true false o true c v g u f = refl
all_noted true false o false c v g true f = refl
all_noted true false o false c v g false f = refl
all_noted false true o r c v g u f = refl
all_noted false false true true c v g u f = refl
all_noted false false true false c v g true f = refl
all_noted false false true false c v true false f = refl
all_noted false false true false c v false false f = refl
all_noted false false false true c v g u f = refl
all_noted false false false false true v g true f = refl
all_noted false false false false true v true false f = refl
all_noted false false false false true v false false f = refl
all_noted false false false false false true g true f = refl
all_noted false false false false false true true false f = refl
all_noted false false false false false true false false f = refl
all_noted false false false false false false true true f = refl
all_noted false false false false false false true false f = refl
all_noted false false false false false false false true f = refl
all_noted false false false false false false false false f = refl

-- a view, from its parts
abbrev filled : Kept → AgreedView → List ℕ → List (Wrapped ℕ) → List ℕ → List (Option ℤ) → List (Option ℤ) → List ℕ → List (Option (List ℕ)) → List ℕ → AgreedView → View
filled k a sync done due own votes found rows carried after = record {
  mode = if is_some k.state then Full else Joining;
  before = Some a;
  sync = sync;
  done = done;
  due = due;
  own = own;
  votes = votes;
  found = found;
  rows = rows;
  kept = record { state = Some after; carried = carried; votes = votes; owns = own };
}

-- equal parts make equal views
filled_same : (k : Kept) (a : AgreedView) (sync sync' : List ℕ) (done done' : List (Wrapped ℕ)) (due due' : List ℕ) (own own' votes votes' : List (Option ℤ)) (found found' : List ℕ) (rows rows' : List (Option (List ℕ)))
    (carried carried' : List ℕ) (after after' : AgreedView)
    → sync ≡ sync' → done ≡ done' → due ≡ due' → own ≡ own' → votes ≡ votes' → found ≡ found' → rows ≡ rows' → carried ≡ carried' → after ≡ after'
    → filled k a sync done due own votes found rows carried after ≡ filled k a sync' done' due' own' votes' found' rows' carried' after'
filled_same k a sync sync' done done' due due' own own' votes votes' found found' rows rows' carried carried' after after' y d u o v f r c t = rw (y, d, u, o, v, f, r, c, t) refl

module _ {N : ℕ} (config : Config N) (i p : ℕ) (g : Inputs) (k : Kept) (x : Received) (a : AgreedView) (w : Parts) (b : Blamed) (n : Noted) (is : IsMadeOf config i p g k x a w b n) where
  abbrev s : Setting
  s = setting_of config

  abbrev full : Bool
  full = is_some k.state

  abbrev begun : Notes
  begun = notes_begun config i k

  few : kind_count config.version ≤ 16
  few = kinds-few config.version

  -- ---- what is noted

  abbrev in_sync : ℕ → ℕ → Bool
  in_sync j e = is_bad (x.sync j) e || (other_body (body config a) (x.sync j) && e == state)

  abbrev in_claims : ℕ → ℕ → Bool
  in_claims j e = rounds_bad config.m x.done j e

  abbrev by_judging : ℕ → ℕ → Bool
  by_judging = by_verdicts (verdicts N config.graph a.standing.members a.copies w.done)

  abbrev in_values : ℕ → ℕ → Bool
  in_values j e = is_bad (x.values j) e || (deviates s w.due w.votes x j && e == deviate)

  abbrev all_in : ℕ → ℕ → Bool
  all_in j e = ((((in_sync j e || in_claims j e) || by_judging j e) || of_each b.convicted equivocate j e) || in_values j e)

  -- the notes after the data slot
  values_are : n.values ≡ also_noted N begun all_in
  values_are =
      let sync : n.sync ≡ also_noted N begun in_sync = is.notes.sync ∙ ap (λ (y : Notes). also_noted N y in_sync) is.notes.begun in
      let claims = noted_more N begun n.sync n.claims in_sync in_claims few sync is.notes.claims in
      let judged = noted_more N begun n.claims n.judged (λ j e. in_sync j e || in_claims j e) by_judging few claims is.notes.judged in
      let convicted = noted_more N begun n.judged n.convicted (λ j e. (in_sync j e || in_claims j e) || by_judging j e) (of_each b.convicted equivocate) few judged is.notes.convicted in
      noted_more N begun n.convicted n.values (λ j e. ((in_sync j e || in_claims j e) || by_judging j e) || of_each b.convicted equivocate j e) in_values few convicted is.notes.values

  -- there is room for the kind
  roomy : (e : ℕ) → e < kind_count config.version → (e == equivocate) ≡ true → equivocate < kind_count config.version
  roomy e within same = subst (λ (c : ℕ). c < kind_count config.version) (eqb-true e equivocate same) within

  -- that is what the row of `protocol` notes
  abbrev convicts : ℕ → Bool
  convicts j = convicts_member nat_eq (ear_of config.m i full a.standing.members x.done) j

  same_notes : full ≡ true → Alike N (kind_count config.version) config.nodes i (λ j e. accuses k.carried j e || all_in j e) (noted s i a k w.done w.due w.votes x)
  unfolding noted
  same_notes is_full j e low used ne within =
      let v = verdict config.graph a.standing.members a.copies w.done j in
      let off : Bool = deviates s w.due w.votes x j in
      ap (λ (u : Verdict). accuses k.carried j e || ((((in_sync j e || in_claims j e) || ((u.claim && e == claim) || (u.overrun && e == overrun))) || of_each b.convicted equivocate j e) || in_values j e))
      (tabulated N (verdict config.graph a.standing.members a.copies w.done) j no_verdict low)
      ∙ ap (λ (c : Bool). accuses k.carried j e || ((((in_sync j e || in_claims j e) || ((v.claim && e == claim) || (v.overrun && e == overrun))) || c) || in_values j e))
      (where_it_is (has_id b.convicted j) (convicts j) (e == equivocate) (λ same. is.blamed.convicted j used ne (roomy e within same)))
      ∙ all_noted (accuses k.carried j e) (is_bad (x.sync j) e) (other_body (body config a) (x.sync j) && e == state) (in_claims j e) (v.claim && e == claim) (v.overrun && e == overrun)
      (convicts j && e == equivocate) (is_bad (x.values j) e) (off && e == deviate)
      ∙ ap (λ (c : Bool). is_bad (x.sync j) e || (rounds_bad config.m x.done j e || (is_bad (x.values j) e || (accuses k.carried j e || (c
      || ((other_body (body config a) (x.sync j) && e == state) || ((v.claim && e == claim) || ((v.overrun && e == overrun) || (off && e == deviate)))))))))
      (sym (further_is (convicts j) e)
      ∙ ap (λ (f : Bool). (e == equivocate && convicts_member nat_eq (ear_of config.m i f a.standing.members x.done) j) && is_further e) is_full)

  row_is : (f : ℕ → ℕ → Bool) → noted_row N (kind_count config.version) config.nodes i f ≡ row_by s i f
  unfolding row_by
  row_is f = refl

  found_is : w.found ≡ (if full then row_by s i (noted s i a k w.done w.due w.votes x) else empty_row s)
  found_is = elim (cases_Bool full) [
    | inl is_full ↦
        is.found ∙ cond-true full n.values.row (empty_row s) is_full
        ∙ ap (λ (y : Notes). y.row) values_are
        ∙ row_same N (kind_count config.version) config.nodes i (λ j e. accuses k.carried j e || all_in j e) (noted s i a k w.done w.due w.votes x) (same_notes is_full)
        ∙ row_is (noted s i a k w.done w.due w.votes x)
        ∙ sym (cond-true full (row_by s i (noted s i a k w.done w.due w.votes x)) (empty_row s) is_full)
    | inr not_full ↦
        is.found ∙ cond-false full n.values.row (empty_row s) not_full ∙ sym (cond-false full (row_by s i (noted s i a k w.done w.due w.votes x)) (empty_row s) not_full)
  ]

  -- ---- what is carried over

  abbrev in_rows : ℕ → ℕ → Bool
  in_rows j e = rounds_bad config.m x.report j e

  abbrev convicts_late : ℕ → Bool
  convicts_late j = convicts_member (pointwise ◌==◌) (ear_of config.m i full a.standing.members x.report) j

  late_is : n.late ≡ also_carried N (also_carried N (also_noted N begun all_in) in_rows) (of_each b.late equivocate)
  late_is =
      is.notes.late
      ∙ ap (λ (y : Notes). also_carried N y (of_each b.late equivocate)) (is.notes.rows ∙ ap (λ (y : Notes). also_carried N y in_rows) values_are)

  abbrev first_late : ℕ → ℕ → Bool
  first_late j e = accuses (empty_row s) j e || in_rows j e

  late_notes : Alike N (kind_count config.version) config.nodes i (λ j e. accuses (noted_row N (kind_count config.version) config.nodes i first_late) j e || of_each b.late equivocate j e)
      (λ j e. in_rows j e || ((e == equivocate && convicts_late j) && is_further e))
  late_notes j e low used ne within =
      ap₂ (λ (c f : Bool). c || f)
      (row_tells N (kind_count config.version) config.nodes i first_late few j e low used ne within ∙ ap (λ (c : Bool). c || in_rows j e) (accuses_none N j e))
      (where_it_is (has_id b.late j) (convicts_late j) (e == equivocate) (λ same. is.blamed.late j used ne (roomy e within same))
      ∙ sym (further_is (convicts_late j) e))

  carried_is : w.carried ≡ carried_by s i full a x
  carried_is =
      is.carried ∙ ap (λ (y : Notes). y.carried) late_is
      ∙ row_same N (kind_count config.version) config.nodes i (λ j e. accuses (noted_row N (kind_count config.version) config.nodes i first_late) j e || of_each b.late equivocate j e)
      (λ j e. in_rows j e || ((e == equivocate && convicts_late j) && is_further e)) late_notes
      ∙ row_is (λ j e. in_rows j e || ((e == equivocate && convicts_late j) && is_further e))

  -- ---- the view

  abbrev done : List (Wrapped ℕ)
  done = claims_settled s i full a g x

  abbrev due : List ℕ
  due = due_channels s a done

  abbrev own : List (Option ℤ)
  own = own_values s i p g k

  abbrev votes : List (Option ℤ)
  votes = votes_on s i full a done due own x

  abbrev found_of : List (Wrapped ℕ) → List ℕ → List (Option ℤ) → List ℕ
  found_of d u v = if full then row_by s i (noted s i a k d u v x) else empty_row s

  due_is : w.due ≡ due
  due_is = is.due ∙ ap (due_channels s a) is.done

  votes_are : w.votes ≡ votes
  votes_are =
      is.votes ∙ ap (λ (d : List (Wrapped ℕ)). votes_on s i full a d w.due w.own x) is.done ∙ ap (λ (u : List ℕ). votes_on s i full a done u w.own x) due_is
      ∙ ap (λ (o : List (Option ℤ)). votes_on s i full a done due o x) is.own

  found_same : w.found ≡ found_of done due votes
  found_same =
      found_is ∙ ap (λ (d : List (Wrapped ℕ)). found_of d w.due w.votes) is.done ∙ ap (λ (u : List ℕ). found_of done u w.votes) due_is
      ∙ ap (λ (v : List (Option ℤ)). found_of done due v) votes_are

  abbrev rows_of : List ℕ → List (Option (List ℕ))
  rows_of f = settled_items (pointwise ◌==◌) N config.m i full a.standing.members x.report f

  rows_are : w.rows ≡ rows_of (found_of done due votes)
  rows_are = is.rows ∙ ap rows_of found_same

  pub made_is : through s i p g k x full a ≡ view_made k a w
  unfolding through
  made_is =
      sym (filled_same k a w.sync (synced_by s i x) w.done done w.due due w.own own w.votes votes w.found (found_of done due votes) w.rows (rows_of (found_of done due votes)) w.carried (carried_by s i full a x)
      w.after (agreed_after N config p a done (rows_of (found_of done due votes)))
      is.sync is.done due_is is.own votes_are found_same rows_are carried_is (is.after ∙ ap₂ (agreed_after N config p a) is.done rows_are))

  -- ---- the next period's notes

  pub next_notes_are : record n.late { row = n.late.carried; carried = empty_row s } ≡ notes_begun config i (view_made k a w).kept
  next_notes_are =
      ap (λ (y : Notes). record y { row = y.carried; carried = empty_row s }) late_is
      ∙ ap (λ (row : List ℕ). record begun { row = row }) (ap (λ (y : Notes). y.carried) (sym late_is) ∙ sym is.carried)
