use Rattle.std.proofs.Common.{◌<◌, ℕ, ℤ, List, Option, None, length, length-set, get_or-set_other, get_or-set_same, set, sym, ap, ◌∙◌, inl, inr, arith, lit<}
use Rattle.std.proofs.lemmas.List.{length-replicate}
use Rattle.node_grid.specs.Capacity.{IsCapacity}
use Rattle.std.proofs.lemmas.Bool.{cases_eq}
use Rattle.protocol.specs.View.{value_from}
use Rattle.data_slot.specs.Told.{at_channel, value_told}
use Rattle.data_slot.specs.Values.{only_values}
use Rattle.data_slot.proofs.vote.DataSlot.hear.Goals as goal

pub loop-from-preserved : goal.loop-from-preserved
loop-from-preserved g c =
    let slot = c.args.self.now in
    let told : List (Option (List ℤ)) = c.loop-from.told in
    let from : ℕ = c.loop-from.from in
    let values : Option (List ℤ) = c.values_from.result in
    let room : from < length told = (let w = c.loop-from.invariant.wide in let t = c.loop-from-test.true in let f = c.requires.config.few_nodes in let e = c.loop-from.auto.from-end in omega arith) in
    record {
      wide = length-set told from values ∙ c.loop-from.invariant.wide;
      so_far = λ q x low on. elim (cases_eq q from) [
        | inl e ↦
            ap (λ n. value_told (set told from values) n x) e ∙ ap (λ o. at_channel o x) (get_or-set_same told from values None room) ∙ c.values_from.ensures x on
            ∙ ap (λ n. value_from slot.me slot.full slot.due.now slot.own.now (only_values c.args.watch.now) x n) (sym e)
        | inr ne ↦ ap (λ o. at_channel o x) (get_or-set_other told from q values None ne) ∙ c.loop-from.invariant.so_far q x (omega arith) on
      ];
    }

pub loop-from-init : goal.loop-from-init
loop-from-init g c = record { wide = length-replicate {A = Option (List ℤ)} g.row.N None; so_far = λ q x low on. absurd (omega arith) }

pub values_from-requires : goal.values_from-requires
values_from-requires g c =
    let r = c.requires in
    let cap : IsCapacity g.row.N = g.bound-1.eight_or_sixteen in (
      lit< tt,
      (
        elim cap [ inl e ↦ rw e (lit< tt) | inr e ↦ rw e (lit< tt) ],
        (r.config, (r.due, (r.heard, c.loop-from-test.true))),
      ),
    )

pub overflow_cast-from : goal.overflow_cast-from
overflow_cast-from g c = let t = c.loop-from-test.true in let f = c.requires.config.few_nodes in let n = g.N.fits in omega arith

pub offset_bounds-told-from : goal.offset_bounds-told-from
offset_bounds-told-from g c = let t = c.loop-from-test.true in let f = c.requires.config.few_nodes in let cap : IsCapacity g.row.N = g.bound-1.eight_or_sixteen in omega arith

pub bounds-told-from : goal.bounds-told-from
bounds-told-from g c = let t = c.loop-from-test.true in let f = c.requires.config.few_nodes in omega arith

pub loop-from-smaller : goal.loop-from-smaller
loop-from-smaller g c = let t = c.loop-from-test.true in omega arith

pub returns : goal.returns
returns g c q x low on = let t = c.loop-from-test.false in c.loop-from.invariant.so_far q x (omega arith) on
