use Rattle.std.proofs.Common.{ℕ, ℤ, ◌≡◌, ◌<◌, ◌+◌, ◌==◌, true, List, length, get_or, Option, refl, sym, ap, subst, ◌∙◌, lit<, inl, inr}
use Rattle.std.specs.Vec.{with_items}
use Rattle.std.proofs.lemmas.List.{with_items_is}
use Rattle.std.specs.Cmp.Lexicographic.{pointwise}
use Rattle.node_grid.specs.Capacity.{IsCapacity}
use Rattle.node_grid.specs.NodeSet.{has_id}
use Rattle.agreed_state.specs.declared.config.Config.{Config}
use Rattle.protocol.specs.Arrival.{row_form}
use Rattle.scenario.specs.Scenario.{ScenarioView, IsScenario}
use Rattle.touched_items.specs.ItemLaws.{row_told}
use Rattle.heard_links.specs.declared.phase.Phase.{Phase}
use Rattle.heard_links.specs.Hearing.{item_of, IsHeard}
use Rattle.item_phase.specs.declared.item_phase.ItemPhase.{ItemPhase}
use Rattle.shared_states.specs.declared.belief.Belief.{Belief}
use Rattle.grouped_nodes.specs.Grouping.{first_of}
use Rattle.grouped_nodes.specs.Shared.{belief_of}
use Rattle.shown_period.specs.declared.made.Made.{Made}
use Rattle.view_law.specs.Laws.{IsCarriedWithin}
use Rattle.at_once.specs.Kept.{notes_at, of_node, AreShaped}
use Rattle.at_once.specs.Phases.{AreTold, IsDone, node_rows}
use Rattle.at_once.specs.declared.keeping.Keeping.{Keeping}
use Rattle.at_once.proofs.RowsSettled.{rows_told, rows_done, votes_within, all_reported}
use Rattle.at_once.proofs.period.Period.settle_rows.Goals as goal

pub tell_rows-requires : goal.tell_rows-requires
tell_rows-requires g c =
    let cap : IsCapacity g.row.N = g.bound-1.eight_or_sixteen in
    (lit< tt, (lit< tt, (elim cap [ inl e ↦ rw e (lit< tt) | inr e ↦ rw e (lit< tt) ], (elim cap [ inl e ↦ rw e (lit< tt) | inr e ↦ rw e (lit< tt) ], (elim cap [ inl e ↦ rw e (lit< tt) | inr e ↦ rw e (lit< tt) ], (c.requires.reporting.going, c.requires.reporting.found))))))

pub agree-requires : goal.agree-requires
agree-requires g c =
    let cap : IsCapacity g.row.N = g.bound-1.eight_or_sixteen in
    let heard : IsHeard row_form (λ m. m + 3) row_told c.phase-phase.result c.tell_rows.new.rows.links 0 =
    rows_told c.args.self.now.scenario.now c.args.self.now.number c.args.full.now c.args.made.now c.requires.reporting.going c.config.ensures.scenario c.args.self.now.in_run _ (ap (λ (y : Config g.row.N). y.m + 3) c.config.ensures.config)
    c.phase-phase.result c.phase-phase.ensures c.tell_rows.new.rows c.tell_rows.ensures.told in
    let room : c.tell_rows.new.rows.settling ≡ record { nodes = c.phase-phase.result.config.now.nodes; rounds = c.phase-phase.result.config.now.m } =
    c.tell_rows.ensures.room ∙ c.requires.room ∙ ap (λ (y : Config g.row.N). record { nodes = y.nodes; rounds = y.m }) (sym c.phase-phase.ensures.config) in
    (elim cap [ inl e ↦ rw e (lit< tt) | inr e ↦ rw e (lit< tt) ], (elim cap [ inl e ↦ rw e (lit< tt) | inr e ↦ rw e (lit< tt) ], (heard, room)))

pub carry-requires : goal.carry-requires
carry-requires g c =
    let cap : IsCapacity g.row.N = g.bound-1.eight_or_sixteen in
    let sc : ScenarioView g.row.N = c.args.self.now.scenario.now in
    let shaped : AreShaped {N = g.row.N} c.phase-phase.result.config.now c.args.keeping.now.notes =
    subst (λ (y : Config g.row.N). AreShaped {N = g.row.N} y c.args.keeping.now.notes) (sym c.phase-phase.ensures.config) c.requires.reporting.voted.shaped in
    let within : (i : ℕ) → i < g.row.N → has_id c.phase-phase.result.awake i ≡ true → IsCarriedWithin g.row.N (notes_at c.args.keeping.now.notes i) =
    λ i low on.
    votes_within sc c.args.self.now.number c.args.full.now c.args.made.now c.requires.reporting.going c.config.ensures.scenario c.args.self.now.in_run _ (ap (λ (y : Config g.row.N). y.m + 3) c.config.ensures.config)
    c.phase-phase.result c.phase-phase.ensures c.args.keeping.now c.requires.reporting.voted i on in
    (elim cap [ inl e ↦ rw e (lit< tt) | inr e ↦ rw e (lit< tt) ], (elim cap [ inl e ↦ rw e (lit< tt) | inr e ↦ rw e (lit< tt) ], (elim cap [ inl e ↦ rw e (lit< tt) | inr e ↦ rw e (lit< tt) ], (elim cap [ inl e ↦ rw e (lit< tt) | inr e ↦ rw e (lit< tt) ], (c.agree.ensures.settled, (shaped, within))))))

pub group_by_rows-finer-requires : goal.group_by_rows-finer-requires
group_by_rows-finer-requires g c =
    let cap : IsCapacity g.row.N = g.bound-1.eight_or_sixteen in
    (elim cap [ inl e ↦ rw e (lit< tt) | inr e ↦ rw e (lit< tt) ], (elim cap [ inl e ↦ rw e (lit< tt) | inr e ↦ rw e (lit< tt) ], (elim cap [ inl e ↦ rw e (lit< tt) | inr e ↦ rw e (lit< tt) ], (elim cap [ inl e ↦ rw e (lit< tt) | inr e ↦ rw e (lit< tt) ], (elim cap [ inl e ↦ rw e (lit< tt) | inr e ↦ rw e (lit< tt) ], c.agree.ensures.settled)))))

pub part-requires : goal.part-requires
part-requires g c =
    let cap : IsCapacity g.row.N = g.bound-1.eight_or_sixteen in
    (elim cap [ inl e ↦ rw e (lit< tt) | inr e ↦ rw e (lit< tt) ], (elim cap [ inl e ↦ rw e (lit< tt) | inr e ↦ rw e (lit< tt) ], (ap length c.as_mut_slice.ensures.value ∙ c.requires.reporting.going.many, c.group_by_rows-finer.ensures.parted)))

pub fill_rows-requires : goal.fill_rows-requires
fill_rows-requires g c =
    let cap : IsCapacity g.row.N = g.bound-1.eight_or_sixteen in
    let many : length c.as_mut_slice-2.result.now ≡ g.row.N =
    ap length (c.as_mut_slice-2.ensures.value ∙ with_items_is c.args.made.now.beliefs c.part.new.beliefs (c.part.auto.beliefs ∙ c.as_mut_slice.ensures.len)) ∙ c.part.ensures.many in
    (elim cap [ inl e ↦ rw e (lit< tt) | inr e ↦ rw e (lit< tt) ], (elim cap [ inl e ↦ rw e (lit< tt) | inr e ↦ rw e (lit< tt) ], (elim cap [ inl e ↦ rw e (lit< tt) | inr e ↦ rw e (lit< tt) ], (elim cap [ inl e ↦ rw e (lit< tt) | inr e ↦ rw e (lit< tt) ], (elim cap [ inl e ↦ rw e (lit< tt) | inr e ↦ rw e (lit< tt) ], (elim cap [ inl e ↦ rw e (lit< tt) | inr e ↦ rw e (lit< tt) ], (c.agree.ensures.settled, many)))))))

pub returns-clause-reported : goal.returns-clause-reported
returns-clause-reported g c =
    let sc : ScenarioView g.row.N = c.args.self.now.scenario.now in
    let p : ℕ = c.args.self.now.number in
    let full : List ℕ = c.args.full.now in
    let made : Made g.row.N = c.args.made.now in
    let k : Keeping g.row.N = c.args.keeping.now in
    let given : IsScenario sc = c.config.ensures.scenario in
    let x : Phase g.row.N = c.phase-phase.result in
    let s : ItemPhase (List ℕ) g.row.N = c.agree.new.self in
    let told : AreTold row_told sc p full (item_of s.links) = λ i on. c.tell_rows.ensures.told i on ∙ sym (c.agree.ensures.told i) in
    let d : IsDone (pointwise ◌==◌) row_form (λ m. m + 3) row_told sc p x s =
    rows_done sc p full made c.requires.reporting.going given c.args.self.now.in_run _ (ap (λ (y : Config g.row.N). y.m + 3) c.config.ensures.config) x c.phase-phase.ensures s told c.agree.ensures.settled in
    let before : List ℕ = c.args.groups.now in
    let groups : List ℕ = c.group_by_rows-finer.result in
    let votes : List (List (Option ℤ)) = k.votes in
    let apart : List (Belief g.row.N) = c.part.new.beliefs in
    let parted = with_items made.beliefs apart in
    let lent : c.as_mut_slice-2.result.now ≡ apart = c.as_mut_slice-2.ensures.value ∙ with_items_is made.beliefs apart (c.part.auto.beliefs ∙ c.as_mut_slice.ensures.len) in
    let last : List (Belief g.row.N) = c.fill_rows.new.beliefs in
    let made' : Made g.row.N = record made { beliefs = with_items parted last } in
    let last_is : made'.beliefs.items ≡ last = with_items_is parted last (c.fill_rows.auto.beliefs ∙ c.as_mut_slice-2.ensures.len) in
    let l : Keeping g.row.N = record k { notes = c.carry.new.notes } in
    let kept : (i : ℕ) (b : Belief g.row.N) → i < g.row.N → belief_of b apart groups i ≡ belief_of b made.beliefs.items before i =
    λ i b low. c.part.ensures.beliefs i b low ∙ ap (λ (bs : List (Belief g.row.N)). belief_of b bs before i) c.as_mut_slice.ensures.value in
    let filled : (f : ℕ) (b : Belief g.row.N) → f < g.row.N → has_id x.awake f ≡ true → first_of groups f ≡ f
    → get_or made'.beliefs.items f b ≡ record (get_or apart f b) { votes = of_node votes f; rows = node_rows x s f } =
    λ f b low on own. ap (λ (bs : List (Belief g.row.N)). get_or bs f b) last_is ∙ c.fill_rows.ensures.filled f b low on own
    ∙ ap (λ (vs : List (List (Option ℤ))). record (get_or c.as_mut_slice-2.result.now f b) { votes = of_node vs f; rows = node_rows x s f }) c.by_node.ensures.votes
    ∙ ap (λ (bs : List (Belief g.row.N)). record (get_or bs f b) { votes = of_node votes f; rows = node_rows x s f }) lent in
    all_reported c.of_run.ensures sc p made given.system.config.few_nodes x s d before groups c.requires.reporting.claimed c.group_by_rows-finer.ensures.firsts c.group_by_rows-finer.ensures.parted
    c.group_by_rows-finer.ensures.cold c.group_by_rows-finer.ensures.among c.group_by_rows-finer.ensures.alike votes c.group_by_rows-finer.ensures.votes apart kept made' filled
    full c.requires.reporting.going c.requires.reporting.found refl (ap length last_is ∙ c.fill_rows.ensures.many) c.phase-phase.ensures.awake
    (λ f b off. ap (λ (bs : List (Belief g.row.N)). get_or bs f b) last_is ∙ c.fill_rows.ensures.others f b off ∙ ap (λ (bs : List (Belief g.row.N)). get_or bs f b) lent)
    k l c.requires.reporting.voted refl refl refl c.carry.ensures.many c.carry.ensures.notes

pub returns-clause-room : goal.returns-clause-room
returns-clause-room g c = c.agree.ensures.room ∙ c.tell_rows.ensures.room

pub config-requires : goal.config-requires
config-requires g c = elim g.bound-1.eight_or_sixteen [ inl e ↦ rw e (lit< tt, lit< tt) | inr e ↦ rw e (lit< tt, lit< tt) ]

pub phase-phase-requires : goal.phase-phase-requires
phase-phase-requires g c = elim g.bound-1.eight_or_sixteen [ inl e ↦ rw e (lit< tt, (lit< tt, (lit< tt, lit< tt))) | inr e ↦ rw e (lit< tt, (lit< tt, (lit< tt, lit< tt))) ]
