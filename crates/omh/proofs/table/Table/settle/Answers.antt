use Rattle.std.proofs.Common.{ap, sym, refl, ◌∙◌, ◌∷◌, [], lit<}
use Rattle.std.proofs.lemmas.Bool.{cond-true, cond-false}
use Rattle.omh_paths.specs.declared.wrapped.Wrapped.TheVariants.{Fault}
use Rattle.omh.specs.Omh.{settled_at}
use Rattle.omh.specs.Flat.{flat_ear}
use Rattle.omh.proofs.Tables.{other_settled, own_settled, room_seen, room_after, member_seen}
use Rattle.omh.proofs.table.Table.settle.Goals as goal
use Rattle.omh.proofs.table.Table.settle.Goals.{then-self, else-self}

pub returns-clause-settled : goal.returns-clause-settled
returns-clause-settled g c =
    let s = c.self.inside.station in
    other_settled g.row.N s.nodes s.rounds s.members s.count s.me s.full c.self.inside.own c.self.inside.heard.items c.self.inside.work.items c.args.self.now c.self.view_is c.self.invariant.0 c.self.invariant.1
    g.V.PartialEq.eq c.args.commander c.settle.result c.if-commander-self.false c.requires.member
    (c.settle.ensures ∙ ap (λ ts. settled_at g.V.PartialEq.eq (flat_ear s.nodes s.rounds s.members s.me s.full ts) (c.args.commander ∷ [])) c.as_slice.ensures.value)

pub settle-requires : goal.settle-requires
settle-requires g c =
    let s = c.self.inside.station in (
      lit< tt,
      (
        c.self.invariant.0,
        (
          room_seen g.row.N s.nodes s.rounds s.members s.count s.me s.full c.self.inside.own c.self.inside.heard.items c.self.inside.work.items c.args.self.now c.self.view_is c.self.invariant.0 c.self.invariant.1
              c.as_slice.result.now c.as_mut_slice.result.now c.as_slice.ensures.value c.as_mut_slice.ensures.value,
          (
            member_seen g.row.N s.nodes s.rounds s.members s.count s.me s.full c.self.inside.own c.self.inside.heard.items c.self.inside.work.items c.args.self.now c.self.view_is c.self.invariant.0 c.self.invariant.1
                c.args.commander c.requires.member,
            c.if-commander-self.false,
          ),
        ),
      ),
    )

pub invariant_of-self : goal.invariant_of-self
invariant_of-self g c =
    let s = c.self.inside.station in (
      c.self.invariant.0,
      room_after g.row.N s.nodes s.rounds s.members s.count s.me s.full c.self.inside.own c.self.inside.heard.items c.self.inside.work.items c.args.self.now c.self.view_is c.self.invariant.0 c.self.invariant.1
          c.as_mut_slice.result.now c.settle.new.work c.self.inside.work.len c.self.inside.work.ok.0 c.as_mut_slice.ensures.value c.settle.auto.work,
    )

pub returns-clause-kept : goal.returns-clause-kept
returns-clause-kept g c = c.self.view_is

pub returns-then-commander-self : goal.returns-then-commander-self
returns-then-commander-self g c =
    let s = c.self.inside.station in
    record {
      settled = own_settled g.row.N s.nodes s.rounds s.members s.count s.me s.full c.self.inside.own c.self.inside.heard.items c.self.inside.work.items c.args.self.now c.self.view_is c.self.invariant.0 c.self.invariant.1
          g.V.PartialEq.eq c.args.commander c.if-self.result c.if-commander-self.true
          (elim c.if-self.branch [
            | then-self w ↦ w.result-is ∙ sym (cond-true s.full c.self.inside.own (Fault 0) w.if-self.true)
            | else-self w ↦ w.result-is ∙ sym (cond-false s.full c.self.inside.own (Fault 0) w.if-self.false)
          ]);
      kept = refl;
    }
