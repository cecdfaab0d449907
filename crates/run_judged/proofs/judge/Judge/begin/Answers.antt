use Rattle.std.proofs.Common.{sym, ◌∙◌, inl, inr, arith, lit<}
use Rattle.run_judged.specs.Rows.{seen_of}
use Rattle.run_judged.proofs.Listed.{no_illnesses}
use Rattle.run_judged.proofs.Judged.{sums_none, all_sound}
use Rattle.run_judged.proofs.judge.Judge.begin.Goals as goal

pub returns-clause-judges : goal.returns-clause-judges
returns-clause-judges g c =
    let sc = c.args.scenario.now in
    let fits = c.config.ensures.scenario.system.config.few_nodes in
    record {
      in_run = omega arith;
      sums = sums_none sc c.none-self.result c.none-self.ensures;
      sound = λ j low. all_sound g.row.N j c.forget.new.self.sound c.forget.ensures.sound (omega (arith, fits, low));
      illnesses = c.forget.ensures.list ∙ sym (no_illnesses (seen_of sc) sc.config.nodes);
      skews = c.clear.ensures.items;
    }

pub config-requires : goal.config-requires
config-requires g c = (elim g.bound-1.eight_or_sixteen [ inl e ↦ rw e (lit< tt) | inr e ↦ rw e (lit< tt) ], elim g.bound-1.eight_or_sixteen [ inl e ↦ rw e (lit< tt) | inr e ↦ rw e (lit< tt) ])

pub none-self-requires : goal.none-self-requires
none-self-requires g c = lit< tt
