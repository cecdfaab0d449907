use Rattle.std.proofs.Common.{ℕ, ◌≡◌, ◌<◌, ◌≤◌, ◌+◌, ◌==◌, true, false, if◌then◌else◌, List, [], Option, None, Some, sym, ap, subst, ◌∙◌, lit<, inl, inr, arith, eq-eqb, eqb-true}
use Rattle.std.proofs.lemmas.Bool.{false≢true}
use Rattle.node_grid.specs.Capacity.{IsCapacity}
use Rattle.node_grid.specs.NodeSet.{has_id}
use Rattle.node_grid.specs.NodeSetLaws.{has-filter}
use Rattle.list_scheduler.specs.declared.schedule.Verdict.{Verdict}
use Rattle.list_scheduler.specs.OneNode.{verdicts}
use Rattle.error_reports.specs.Notes.{Notes, also_noted}
use Rattle.agreed_state.specs.Agreed.{AgreedView}
use Rattle.shared_states.specs.declared.belief.Belief.{Belief}
use Rattle.shared_states.specs.Sharing.{state_at}
use Rattle.view_law.specs.Made.{by_verdicts}
use Rattle.view_law.specs.Laws.{IsWithin}
use Rattle.grouped_nodes.specs.Grouping.{first_of}
use Rattle.grouped_nodes.specs.Shared.{notes_at}
use Rattle.grouped_nodes.proofs.Completion.{AreDone, AreJudged, done_none, done_put, done_skip, judged_none, judged_put, judged_skip, judged_kinds, all_due, all_noted, none_noted}
use Rattle.grouped_nodes.proofs.completing.complete.Goals.{then-is_first+in-Some, then-is_first+in_default, else-is_first}
use Rattle.grouped_nodes.proofs.completing.complete.Goals as goal

pub get-requires : goal.get-requires
get-requires g c = let cap : IsCapacity g.row.N = g.bound-1.eight_or_sixteen in (elim cap [ inl e ↦ rw e (lit< tt) | inr e ↦ rw e (lit< tt) ], elim cap [ inl e ↦ rw e (lit< tt) | inr e ↦ rw e (lit< tt) ])

pub follow-judged-requires : goal.follow-judged-requires
follow-judged-requires g c =
    let cap : IsCapacity g.row.N = g.bound-1.eight_or_sixteen in
    let here : state_at c.args.states.now c.loop-first.first ≡ Some c.in-Some.state.now = sym c.in-Some.ensures in
    (elim cap [ inl e ↦ rw e (lit< tt) | inr e ↦ rw e (lit< tt) ], (elim cap [ inl e ↦ rw e (lit< tt) | inr e ↦ rw e (lit< tt) ], (elim cap [ inl e ↦ rw e (lit< tt) | inr e ↦ rw e (lit< tt) ], (elim cap [ inl e ↦ rw e (lit< tt) | inr e ↦ rw e (lit< tt) ], (c.requires.config, c.requires.grouped.agreed c.loop-first.first c.in-Some.state.now here)))))

pub note_all-requires : goal.note_all-requires
note_all-requires g c =
    let cap : IsCapacity g.row.N = g.bound-1.eight_or_sixteen in
    let states : List (Option AgreedView) = c.args.states.now in
    let groups : List ℕ = c.args.groups.now in
    let f : ℕ = c.loop-first.first in
    let ns : List Notes = c.loop-first.notes in
    let m = c.loop-first.invariant.1 in
    let d : Belief g.row.N = c.index-beliefs-first.result in
    let here : state_at states f ≡ Some c.in-Some.state.now = sym c.in-Some.ensures in
    let own = λ (i : ℕ) (low : i < g.row.N) (on : has_id c.members_of.result i ≡ true).
    eqb-true (first_of groups i) f (sym (has-filter (λ j. first_of groups j == f) g.row.N i low) ∙ ap (λ (s : List ℕ). has_id s i) (sym c.members_of.ensures) ∙ on) in (
      elim cap [ inl e ↦ rw e (lit< tt) | inr e ↦ rw e (lit< tt) ],
      (
        lit< tt,
        (
          elim cap [ inl e ↦ rw e (lit< tt) | inr e ↦ rw e (lit< tt) ],
          (
            m.many,
            (
              λ i low on.
                  let e = own i low on in
                  subst (λ (k : ℕ). k ≤ 16) (sym (judged_kinds c.args.config.now states groups c.of.ensures.all c.args.beliefs.now c.requires.grouped.many c.args.notes.now f ns d m i low))
                  (c.requires.notes.kinds i c.in-Some.state.now low (sym (c.requires.grouped.shared i low) ∙ ap (state_at states) e ∙ here)),
              λ i low on.
                  let e = own i low on in
                  let late : f ≤ first_of groups i = omega (arith, e) in
                  subst (IsWithin g.row.N) (sym (m.later i low late)) (c.requires.notes.within i c.in-Some.state.now low (sym (c.requires.grouped.shared i low) ∙ ap (state_at states) e ∙ here)),
            ),
          ),
        ),
      ),
    )

pub loop-first-preserved : goal.loop-first-preserved
loop-first-preserved g c =
    let config = c.args.config.now in
    let states : List (Option AgreedView) = c.args.states.now in
    let groups : List ℕ = c.args.groups.now in
    let old : List (Belief g.row.N) = c.args.beliefs.now in
    let notes : List Notes = c.args.notes.now in
    let f : ℕ = c.loop-first.first in
    let bs : List (Belief g.row.N) = c.loop-first.beliefs in
    let ns : List Notes = c.loop-first.notes in
    let firsts = c.of.ensures.all in
    let many = c.requires.grouped.many in
    let done = c.loop-first.invariant.0 in
    let judged = c.loop-first.invariant.1 in
    let low : f < g.row.N = c.loop-first-test.true in
    elim c.if-is_first.branch [
      | then-is_first+in-Some w ↦
          let a : AgreedView = w.in-Some.state.now in
          let d : Belief g.row.N = w.index-beliefs-first.result in
          let here : state_at states f ≡ Some a = sym w.in-Some.ensures in
          let said : List Verdict = w.follow-judged.result in (
            subst (AreDone config states groups old (f + 1)) (sym w.beliefs-is)
                (done_put config states groups firsts old many notes f bs a d w.follow-judged.new.belief low here done w.follow-judged.ensures.due w.follow-judged.ensures.kept),
            subst (AreJudged config states groups old notes (f + 1)) (sym w.notes-is)
                (judged_put config states groups firsts old many notes f ns w.note_all.new.notes a said d low here judged
                (w.follow-judged.ensures.verdicts ∙ ap (λ (y : Belief g.row.N). verdicts g.row.N config.graph a.standing.members a.copies y.done) (done.rest f d (omega arith)))
                w.note_all.ensures.many
                (λ i within. w.note_all.ensures.notes i within ∙ ap (λ (s : List ℕ). if has_id s i then also_noted g.row.N (notes_at ns i) (by_verdicts said) else notes_at ns i) w.members_of.ensures)),
          )
      | then-is_first+in_default w ↦
          let none : state_at states f ≡ None = sym w.in_default.ensures in (
            subst (AreDone config states groups old (f + 1)) (sym w.beliefs-is) (done_skip config states groups firsts old many notes f bs (λ own. none) done),
            subst (AreJudged config states groups old notes (f + 1)) (sym w.notes-is) (judged_skip config states groups firsts old many notes f ns (λ own. none) judged),
          )
      | else-is_first w ↦
          let no : (first_of groups f == f) ≡ false = sym c.is_first.ensures ∙ w.if-is_first.false in (
            subst (AreDone config states groups old (f + 1)) (sym w.beliefs-is)
                (done_skip config states groups firsts old many notes f bs (λ own. absurd (false≢true (sym no ∙ eq-eqb (first_of groups f) f own))) done),
            subst (AreJudged config states groups old notes (f + 1)) (sym w.notes-is)
                (judged_skip config states groups firsts old many notes f ns (λ own. absurd (false≢true (sym no ∙ eq-eqb (first_of groups f) f own))) judged),
          )
    ]

pub returns-clause-due : goal.returns-clause-due
returns-clause-due g c i a d low is =
    all_due c.args.config.now c.args.states.now c.args.groups.now c.of.ensures.all c.args.beliefs.now c.requires.grouped.many c.args.notes.now c.requires.grouped.shared c.loop-first.first c.loop-first.beliefs
    (let t = c.loop-first-test.false in omega arith) c.loop-first.invariant.0 i a d low is

pub returns-clause-noted : goal.returns-clause-noted
returns-clause-noted g c i a d low is =
    all_noted c.args.config.now c.args.states.now c.args.groups.now c.of.ensures.all c.args.beliefs.now c.requires.grouped.many c.args.notes.now c.requires.grouped.shared c.loop-first.first c.loop-first.notes
    (let t = c.loop-first-test.false in omega arith) c.loop-first.invariant.1 i a d low is

pub returns-clause-cold : goal.returns-clause-cold
returns-clause-cold g c i low is =
    let d : Belief g.row.N = record { done = []; due = record { items = [] }; votes = []; rows = [] } in
    none_noted c.args.config.now c.args.states.now c.args.groups.now c.of.ensures.all c.args.beliefs.now c.requires.grouped.many c.args.notes.now c.requires.grouped.shared c.loop-first.first c.loop-first.notes d
    (let t = c.loop-first-test.false in omega arith) c.loop-first.invariant.1 i low is

pub returns-clause-nothing : goal.returns-clause-nothing
returns-clause-nothing g c j d is = c.loop-first.invariant.0.none j d is

pub of-requires : goal.of-requires
of-requires g c = elim g.bound-1.eight_or_sixteen [ inl e ↦ rw e (lit< tt, lit< tt) | inr e ↦ rw e (lit< tt, lit< tt) ]

pub is_first-requires : goal.is_first-requires
is_first-requires g c = (elim g.bound-1.eight_or_sixteen [ inl e ↦ rw e (lit< tt) | inr e ↦ rw e (lit< tt) ], c.loop-first-test.true)

pub members_of-requires : goal.members_of-requires
members_of-requires g c = (elim g.bound-1.eight_or_sixteen [ inl e ↦ rw e (lit< tt) | inr e ↦ rw e (lit< tt) ], lit< tt)

pub bounds-beliefs-first : goal.bounds-beliefs-first
bounds-beliefs-first g c = let w = c.loop-first.invariant.0.wide in let t = c.loop-first-test.true in omega arith

pub loop-first-init : goal.loop-first-init
loop-first-init g c = (
  done_none c.args.config.now c.args.states.now c.args.groups.now c.of.ensures.all c.args.beliefs.now c.requires.grouped.many c.args.notes.now,
  judged_none c.args.config.now c.args.states.now c.args.groups.now c.of.ensures.all c.args.beliefs.now c.requires.grouped.many c.args.notes.now c.requires.notes.many,
)

pub returns-clause-kept : goal.returns-clause-kept
returns-clause-kept g c j d low = c.loop-first.invariant.0.kept j d low

pub returns-clause-many_beliefs : goal.returns-clause-many_beliefs
returns-clause-many_beliefs g c = c.loop-first.invariant.0.wide

pub returns-clause-many_notes : goal.returns-clause-many_notes
returns-clause-many_notes g c = c.loop-first.invariant.1.many
