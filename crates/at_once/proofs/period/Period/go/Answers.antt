use Rattle.std.proofs.Common.{ℕ, ◌≤◌, List, inl, inr, lit<}
use Rattle.node_grid.specs.Capacity.{IsCapacity}
use Rattle.error_reports.specs.Notes.{Notes}
use Rattle.at_once.proofs.Goings.{few_nodes, going_found, rows_found, claimed_found}
use Rattle.at_once.proofs.period.Period.go.Goals as goal

pub hear-full-requires : goal.hear-full-requires
hear-full-requires g c =
    let cap : IsCapacity g.row.N = c.requires.beliefs.capacity in
    (lit< tt, (elim cap [ inl e ↦ rw e (lit< tt) | inr e ↦ rw e (lit< tt) ], (elim cap [ inl e ↦ rw e (lit< tt) | inr e ↦ rw e (lit< tt) ], (lit< tt, (c.requires.begun, c.requires.beliefs)))))

pub settle_claims-groups-requires : goal.settle_claims-groups-requires
settle_claims-groups-requires g c =
    let sc = c.args.self.now.scenario.now in
    let p : ℕ = c.args.self.now.number in
    let cap : IsCapacity g.row.N = c.requires.beliefs.capacity in (
      lit< tt,
      (
        lit< tt,
        (
          elim cap [ inl e ↦ rw e (lit< tt) | inr e ↦ rw e (lit< tt) ],
          (
            elim cap [ inl e ↦ rw e (lit< tt) | inr e ↦ rw e (lit< tt) ],
            (
              elim cap [ inl e ↦ rw e (lit< tt) | inr e ↦ rw e (lit< tt) ],
              (
                elim cap [ inl e ↦ rw e (lit< tt) | inr e ↦ rw e (lit< tt) ],
                (c.hear-full.ensures.synced, c.requires.claims_room),
              ),
            ),
          ),
        ),
      ),
    )

pub vote-requires : goal.vote-requires
vote-requires g c =
    let sc = c.args.self.now.scenario.now in
    let p : ℕ = c.args.self.now.number in
    let cap : IsCapacity g.row.N = c.requires.beliefs.capacity in
    let unvoted = c.hear-full.ensures.unvoted in (
      lit< tt,
      (
        lit< tt,
        (
          elim cap [ inl e ↦ rw e (lit< tt) | inr e ↦ rw e (lit< tt) ],
          (
            elim cap [ inl e ↦ rw e (lit< tt) | inr e ↦ rw e (lit< tt) ],
            (
              elim cap [ inl e ↦ rw e (lit< tt) | inr e ↦ rw e (lit< tt) ],
              (
                c.settle_claims-groups.ensures.settled,
                record { votes = unvoted.votes; owns = unvoted.owns },
              ),
            ),
          ),
        ),
      ),
    )

pub find_rows-requires : goal.find_rows-requires
find_rows-requires g c =
    let cap : IsCapacity g.row.N = c.requires.beliefs.capacity in
    (lit< tt, (elim cap [ inl e ↦ rw e (lit< tt) | inr e ↦ rw e (lit< tt) ], elim cap [ inl e ↦ rw e (lit< tt, (lit< tt, lit< tt)) | inr e ↦ rw e (lit< tt, (lit< tt, lit< tt)) ]))

pub settle_rows-finer-requires : goal.settle_rows-finer-requires
settle_rows-finer-requires g c =
    let sc = c.args.self.now.scenario.now in
    let p : ℕ = c.args.self.now.number in
    let full : List ℕ = c.hear-full.result in
    let made = c.settle_claims-groups.new.made in
    let found = c.find_rows.new.found in
    let notes : List Notes = c.vote.new.keeping.notes in
    let cap : IsCapacity g.row.N = c.requires.beliefs.capacity in
    let room : sc.config.nodes ≤ g.row.N = few_nodes sc.config notes c.vote.ensures.shaped in
    let settled = c.settle_claims-groups.ensures.settled in (
      lit< tt,
      (
        lit< tt,
        (
          elim cap [ inl e ↦ rw e (lit< tt) | inr e ↦ rw e (lit< tt) ],
          (
            elim cap [ inl e ↦ rw e (lit< tt) | inr e ↦ rw e (lit< tt) ],
            (
              elim cap [ inl e ↦ rw e (lit< tt) | inr e ↦ rw e (lit< tt) ],
              (
                elim cap [ inl e ↦ rw e (lit< tt) | inr e ↦ rw e (lit< tt) ],
                (
                  elim cap [ inl e ↦ rw e (lit< tt) | inr e ↦ rw e (lit< tt) ],
                  (
                    record {
                      going = going_found sc p full made found notes room c.find_rows.ensures settled.going;
                      claimed = claimed_found sc p made found c.settle_claims-groups.result settled.claimed;
                      voted = c.vote.ensures;
                      found = rows_found sc p full made found notes room c.find_rows.ensures settled.going c.vote.ensures.notes;
                    },
                    c.requires.rows_room,
                  ),
                ),
              ),
            ),
          ),
        ),
      ),
    )

pub end-requires : goal.end-requires
end-requires g c =
    let cap : IsCapacity g.row.N = c.requires.beliefs.capacity in
    (lit< tt, (elim cap [ inl e ↦ rw e (lit< tt) | inr e ↦ rw e (lit< tt) ], (elim cap [ inl e ↦ rw e (lit< tt) | inr e ↦ rw e (lit< tt) ], (elim cap [ inl e ↦ rw e (lit< tt) | inr e ↦ rw e (lit< tt) ], (c.hear-full.result, c.settle_rows-finer.ensures.reported)))))
