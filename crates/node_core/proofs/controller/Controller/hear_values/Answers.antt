use Rattle.std.proofs.Common.{◌≡◌, ◌+◌, ◌||◌, ◌&&◌, ◌==◌, Bool, not, ℕ, List, length, replicate, Option, if◌then◌else◌, true, inl, inr, lit<, arith, sym, ap, ap₂, subst, ◌∙◌}
use Rattle.std.proofs.lemmas.Bool.{cond-true, cond-false}
use Rattle.node_grid.specs.Kinds.{deviate}
use Rattle.node_grid.specs.NodeSet.{IsIdSet, has_id, ids_where}
use Rattle.node_grid.specs.NumberFacts.{kinds-few}
use Rattle.node_grid.specs.SetFacts.{member-lt}
use Rattle.omh_paths.specs.declared.wrapped.Wrapped.TheVariants.{Plain}
use Rattle.error_detect.specs.declared.finding.Finding.{Finding}
use Rattle.error_detect.specs.Watching.{Watch}
use Rattle.error_reports.specs.Notes.{Notes, also_noted}
use Rattle.agreed_state.specs.Agreed.{AgreedView}
use Rattle.protocol.specs.Configured.{setting_of}
use Rattle.protocol.specs.View.{deviates, votes_on}
use Rattle.noting.specs.Findings.{found_bad}
use Rattle.data_slot.specs.Values.{only_values}
use Rattle.node_steps.specs.Parts.{NodeView}
use Rattle.node_steps.specs.Sound.{IsSound}
use Rattle.node_steps.specs.Steps.{shut, taken, started}
use Rattle.node_core.specs.Inside.{seen, AreItsNotes}
use Rattle.node_core.proofs.Standing.{watch_shut}
use Rattle.node_core.proofs.HeardValues.{values_heard, values_agreed, values_seen, values_taken, still_notes}
use Rattle.node_core.proofs.controller.Controller.hear_values.Given as given
use Rattle.node_core.proofs.controller.Controller.hear_values.Goals as goal
use Rattle.node_core.proofs.controller.Controller.hear_values.Goals.{then-not-self, else-not-self}

pub close-found-requires : goal.close-found-requires
close-found-requires g c =
    let is = c.self.view_is in
    let open' = (c.requires.sound.in_slot c.requires.open).watching in
    (lit< tt, (elim c.self.invariant.place.capacity [ inl e ↦ rw e (lit< tt) | inr e ↦ rw e (lit< tt) ], ap (λ (v : NodeView g.row.N). v.arrived.is_open) is ∙ open'))

pub invariant_of-self : goal.invariant_of-self
invariant_of-self g c =
    let n = c.self.inside in
    let inv = c.self.invariant in
    let shut' = c.close-found.ensures.closed in
    record {
      place = inv.place;
      slot = inv.slot;
      watch = watch_shut n.config.now n.phase.me n.watch inv.watch c.close-found.new.self shut';
      kept_notes = inv.kept_notes;
      notes = inv.notes;
    }

pub vote-voted-requires : goal.vote-voted-requires
vote-voted-requires g c =
    let n = c.self.inside in
    let inv = c.self.invariant in
    let sound : IsSound (seen n) = subst (IsSound {N = g.row.N}) (sym c.self.view_is) c.requires.sound in
    let open' : n.phase.is_open ≡ true = ap (λ (v : NodeView g.row.N). v.phase.is_open) c.self.view_is ∙ c.requires.open in
    let number : (seen n).phase.slot ≡ n.config.now.m + 2 = subst (λ (v : NodeView g.row.N). v.phase.slot ≡ v.config.m + 2) (sym c.self.view_is) c.requires.slot in
    let u = c.close-found.new.self in
    let shut' = c.close-found.ensures.closed in
    let ids : IsIdSet (length n.config.now.channels.items) c.as_slice.result.now = subst (IsIdSet (length n.config.now.channels.items)) (sym c.as_slice.ensures.value) sound.sizes.found.due in (
      lit< tt,
      (
        elim inv.place.capacity [ inl e ↦ rw e (lit< tt) | inr e ↦ rw e (lit< tt) ],
        (
          elim inv.place.capacity [ inl e ↦ rw e (lit< tt) | inr e ↦ rw e (lit< tt) ],
          (
            elim inv.place.capacity [ inl e ↦ rw e (lit< tt) | inr e ↦ rw e (lit< tt) ],
            (
              lit< tt,
              (
                inv.place.config_is,
                (
                  values_agreed n inv sound open' number u shut' c.in-Some.agreed c.in-Some.is,
                  (ids, values_heard n inv sound open' number u shut'),
                ),
              ),
            ),
          ),
        ),
      ),
    )

-- what is noted, where a node that isn't Full accuses nobody
abbrev told : Bool → Notes → ℕ → Notes
told full x capacity = if full then x else record x { row = replicate capacity 0 }

told_is : (g : given.Over) (c : goal.After-start g) → c.if-not-self.notes ≡ told c.self.inside.phase.full c.note_values.new.notes g.row.N
told_is g c = elim c.if-not-self.branch [
  | then-not-self w ↦ w.notes-is ∙ w.accuse_nobody.ensures ∙ sym (cond-false c.self.inside.phase.full c.note_values.new.notes (record c.note_values.new.notes { row = replicate g.row.N 0 }) w.if-not-self.true)
  | else-not-self w ↦ w.notes-is ∙ sym (cond-true c.self.inside.phase.full c.note_values.new.notes (record c.note_values.new.notes { row = replicate g.row.N 0 }) w.if-not-self.false)
]

pub note_values-requires : goal.note_values-requires
note_values-requires g c =
    let inv = c.self.invariant in (
      elim inv.place.capacity [ inl e ↦ rw e (lit< tt) | inr e ↦ rw e (lit< tt) ],
      (
        elim inv.place.capacity [ inl e ↦ rw e (lit< tt) | inr e ↦ rw e (lit< tt) ],
        (lit< tt, let k = inv.notes.kinds in let f = kinds-few c.self.inside.config.now.version in omega (arith, k, f)),
      ),
    )

pub start-requires : goal.start-requires
start-requires g c =
    let n = c.self.inside in
    let inv = c.self.invariant in
    let sound : IsSound (seen n) = subst (IsSound {N = g.row.N}) (sym c.self.view_is) c.requires.sound in
    let open' : n.phase.is_open ≡ true = ap (λ (v : NodeView g.row.N). v.phase.is_open) c.self.view_is ∙ c.requires.open in
    let number : (seen n).phase.slot ≡ n.config.now.m + 2 = subst (λ (v : NodeView g.row.N). v.phase.slot ≡ v.config.m + 2) (sym c.self.view_is) c.requires.slot in
    let a : AgreedView = c.in-Some.agreed in
    let agreed = values_agreed n inv sound open' number c.close-found.new.self c.close-found.ensures.closed a c.in-Some.is in
    let members : c.agreed.inside.members ≡ a.standing.members = ap (λ (b : AgreedView). b.standing.members) c.agreed.view_is in
    let size = sound.sizes.rows.nodes_are in (
      elim inv.place.capacity [ inl e ↦ rw e (lit< tt) | inr e ↦ rw e (lit< tt) ],
      (
        lit< tt,
        (
          λ q on. (let l = member-lt n.config.now.nodes a.standing.members q agreed.standing.set (subst (λ (ms : List ℕ). has_id ms q ≡ true) members on) in omega (arith, l, size)),
          let l = inv.place.me_low in omega (arith, l, size),
        ),
      ),
    )

pub start-requires-room-V-Eq : goal.start-requires-room-V-Eq
start-requires-room-V-Eq g c = λ κs. elim c.self.invariant.place.capacity [ inl e ↦ rw e (lit< tt) | inr e ↦ rw e (lit< tt) ]

pub start-requires-room-V-PartialEq : goal.start-requires-room-V-PartialEq
start-requires-room-V-PartialEq g c = λ κs. elim c.self.invariant.place.capacity [ inl e ↦ rw e (lit< tt) | inr e ↦ rw e (lit< tt) ]

pub invariant_of-self-2 : goal.invariant_of-self-2
invariant_of-self-2 g c =
    let n = c.self.inside in
    let inv = c.self.invariant in
    let shut' = c.close-found.ensures.closed in
    let k = c.note_values.ensures in
    let noted : AreItsNotes n.config.now n.phase.me c.note_values.new.notes = record { nodes = ap (λ (x : Notes). x.nodes) k ∙ inv.notes.nodes; me_is = ap (λ (x : Notes). x.me) k ∙ inv.notes.me_is; kinds = ap (λ (x : Notes). x.kinds) k ∙ inv.notes.kinds } in
    record {
      place = inv.place;
      slot = inv.slot;
      watch = watch_shut n.config.now n.phase.me n.watch inv.watch c.close-found.new.self shut';
      kept_notes = inv.kept_notes;
      notes = subst (AreItsNotes n.config.now n.phase.me) (sym (told_is g c)) (still_notes n.config.now n.phase.me n.phase.full c.note_values.new.notes (replicate g.row.N 0) noted);
    }

pub returns-in_default : goal.returns-in_default
returns-in_default g c =
    let v : NodeView g.row.N = seen c.self.inside in
    ap (λ (w : Watch). record v { arrived = w }) c.close-found.ensures.closed ∙ ap (λ (o : Option AgreedView). taken (shut v) o) (sym c.in_default.is)
    ∙ ap (λ (w : NodeView g.row.N). taken (shut w) w.phase.before) c.self.view_is

pub returns : goal.returns
returns g c =
    let n = c.self.inside in
    let inv = c.self.invariant in
    let is = c.self.view_is in
    let sound : IsSound (seen n) = subst (IsSound {N = g.row.N}) (sym is) c.requires.sound in
    let open' : n.phase.is_open ≡ true = ap (λ (v : NodeView g.row.N). v.phase.is_open) is ∙ c.requires.open in
    let number : (seen n).phase.slot ≡ n.config.now.m + 2 = subst (λ (v : NodeView g.row.N). v.phase.slot ≡ v.config.m + 2) (sym is) c.requires.slot in
    let a : AgreedView = c.in-Some.agreed in
    let u : Watch = c.close-found.new.self in
    let s = setting_of n.config.now in
    let votes = c.vote-voted.result.votes in
    let voted = c.vote-voted.ensures.votes ∙ ap (λ (ds : List ℕ). votes_on s n.phase.me n.phase.full a n.found.claims ds n.found.own (only_values u)) c.as_slice.ensures.value in
    let offs = c.vote-voted.ensures.off ∙ ap (λ (ds : List ℕ). ids_where (λ j. not (j == n.phase.me) && deviates s ds votes (only_values u) j) n.config.now.nodes) c.as_slice.ensures.value in
    let noted = c.note_values.ensures ∙ ap (λ (fs : List Finding). also_noted g.row.N n.found.notes (λ j k. found_bad fs j k || (has_id c.vote-voted.result.off j && k == deviate))) c.close-found.ensures.found in
    let members : c.agreed.inside.members ≡ a.standing.members = ap (λ (b : AgreedView). b.standing.members) c.agreed.view_is in
    let heard = c.start.ensures ∙ ap₂ (λ (ms r : List ℕ). started n.rows ms n.phase.me n.phase.full (Plain r)) members c.row.ensures in
    values_seen n inv sound open' number u c.close-found.ensures.closed a c.in-Some.is votes c.vote-voted.result.off c.note_values.new.notes c.if-not-self.notes c.start.new.self voted offs noted (told_is g c) heard
    ∙ sym (values_taken (seen n) a number) ∙ ap (λ (o : Option AgreedView). taken (shut (seen n)) o) (sym c.in-Some.is)
    ∙ ap (λ (v : NodeView g.row.N). taken (shut v) v.phase.before) is

pub accuse_nobody-requires : goal.accuse_nobody-requires
accuse_nobody-requires g c = elim c.self.invariant.place.capacity [ inl e ↦ rw e (lit< tt) | inr e ↦ rw e (lit< tt) ]

pub as_slice-requires : goal.as_slice-requires
as_slice-requires g c = lit< tt

pub row-requires : goal.row-requires
row-requires g c = (elim c.self.invariant.place.capacity [ inl e ↦ rw e (lit< tt) | inr e ↦ rw e (lit< tt) ], elim c.self.invariant.place.capacity [ inl e ↦ rw e (lit< tt) | inr e ↦ rw e (lit< tt) ])

pub start-requires-room-V-Item : goal.start-requires-room-V-Item
start-requires-room-V-Item g c = λ κs. elim g.bound-1.eight_or_sixteen [ inl e ↦ rw e (lit< tt) | inr e ↦ rw e (lit< tt) ]

pub start-requires-room-V-Exact : goal.start-requires-room-V-Exact
start-requires-room-V-Exact g c = λ κs. elim g.bound-1.eight_or_sixteen [ inl e ↦ rw e (lit< tt) | inr e ↦ rw e (lit< tt) ]
