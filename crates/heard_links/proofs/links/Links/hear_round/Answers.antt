use Rattle.std.proofs.Common.{ℕ, ◌≡◌, ◌≢◌, true, false, List, [], sym, ap, subst, ◌∙◌, inl, inr, arith, lit<}
use Rattle.std.specs.Prelude.{slice_index_or}
use Rattle.std.proofs.lemmas.Bool.{cases_Bool, cases_eq, both_ways}
use Rattle.node_grid.specs.NodeSet.{has_id}
use Rattle.protocol.specs.Talk.{Talk}
use Rattle.heard_links.specs.declared.links.Links.{Links}
use Rattle.heard_links.specs.Hearing.{IsCame, IsHeard, came_at, talk_in}
use Rattle.heard_links.proofs.Laying.{judged_even}
use Rattle.heard_links.proofs.Sets.{few_m, node_low}
use Rattle.heard_links.proofs.Tables.{same_talk, heard_kept, heard_more, not_touched}
use Rattle.heard_links.proofs.links.Links.hear_round.Goals as goal
use Rattle.heard_links.proofs.links.Links.hear_round.Goals.{then-has, else-has}

pub returns-then-is_empty-clause-heard : goal.returns-then-is_empty-clause-heard
returns-then-is_empty-clause-heard g c =
    let a = c.args in
    let x = a.phase.now in
    let st = c.requires.heard.set in
    let none : a.judged.now ≡ [] = c.is_empty.ensures.0 c.if-is_empty.true in
    heard_more g.V.Item.form g.V.Item.first_slot g.V.Item.tells x a.self.now a.round c.requires.heard
    (λ j i low on ne.
    subst (IsCame (talk_in g.V.Item.form x a.self.now) x.config.now.m a.round j i) (sym (not_touched a.self.now a.round j i (c.requires.fresh a.round j (omega arith) (node_low x st j low))))
    (judged_even g.V.Item.form x a.self.now a.judged.now st c.requires.judged a.round j i c.requires.few low (ap (λ (s : List ℕ). has_id s j) none) on ne))

pub loop-from-preserved : goal.loop-from-preserved
loop-from-preserved g c =
    let a = c.args.self.now in
    let x = c.args.phase.now in
    let round = c.args.round in
    let from = c.loop-from.from in
    let judged = c.args.judged.now in
    let l = c.loop-from.self in
    let b = c.if-has.self in
    let inv = c.loop-from.invariant in
    let st = c.requires.heard.set in
    let t = talk_in g.V.Item.form x a in
    let m = x.config.now.m in
    let most = few_m x st in
    let few = c.requires.few in
    let test = c.loop-from-test.true in
    let low_from = node_low x st from test in
    elim c.if-has.branch [
      | then-has w ↦
          let n = w.hear_frames.new.self in
          let h = w.hear_frames.ensures in
          let told : b.told.items ≡ l.told.items = ap (λ (s : Links g.row.V.Denot g.row.N). s.told.items) w.self-is ∙ h.told in
          let blank : b.blank ≡ l.blank = ap (λ (s : Links g.row.V.Denot g.row.N). s.blank) w.self-is ∙ h.blank in
          let judged_from : has_id judged from ≡ true = sym c.has.ensures ∙ w.if-has.true in
          record {
            heard =
                heard_kept g.V.Item.form g.V.Item.first_slot g.V.Item.tells x l b round inv.heard told blank
                (λ r j i low low_j on ne. ap (λ (s : Links g.row.V.Denot g.row.N). came_at s r j i) w.self-is ∙ h.others r j i (omega arith) (node_low x st j low_j) (node_low x st i (st.awake i on)) (inl (λ e. omega arith)));
            told = told ∙ inv.told;
            blank = blank ∙ inv.blank;
            fresh = λ r j above low. ap (λ (s : Links g.row.V.Denot g.row.N). has_id (slice_index_or s.touched r []) j) w.self-is ∙ h.touched r j low (inl (λ e. omega arith)) ∙ inv.fresh r j above low;
            behind = λ j le low. ap (λ (s : Links g.row.V.Denot g.row.N). has_id (slice_index_or s.touched round []) j) w.self-is ∙ h.touched round j low (inr (λ e. omega arith)) ∙ inv.behind j (omega arith) low;
            unjudged = λ j low off.
                let other : j ≢ from = λ e. both_ways _ (ap (has_id judged) (sym e) ∙ off) judged_from in
                ap (λ (s : Links g.row.V.Denot g.row.N). has_id (slice_index_or s.touched round []) j) w.self-is ∙ h.touched round j (omega arith) (inr other) ∙ inv.unjudged j (omega arith) off;
            here = λ j i low on_j on_i ne. elim (cases_eq j from) [
              | inl e ↦
                  subst (λ (k : ℕ). IsCame t m round k i (came_at b round k i)) (sym e)
                  (subst (λ (s : Links g.row.V.Denot g.row.N). IsCame t m round from i (came_at s round from i)) (sym w.self-is)
                  (subst (λ (u : Talk g.row.V.Denot). IsCame u m round from i (came_at n round from i)) (same_talk g.V.Item.form x a l inv.told inv.blank) (h.here i on_i (λ q. ne (q ∙ sym e)))))
              | inr other ↦
                  subst (IsCame t m round j i)
                  (sym (ap (λ (s : Links g.row.V.Denot g.row.N). came_at s round j i) w.self-is ∙ h.others round j i (omega arith) (omega arith) (node_low x st i (st.awake i on_i)) (inr other)))
                  (inv.here j i (omega arith) on_j on_i ne)
            ];
          }
      | else-has w ↦
          let off_from : has_id judged from ≡ false = sym c.has.ensures ∙ w.if-has.false in
          record {
            heard = subst (λ (s : Links g.row.V.Denot g.row.N). IsHeard g.V.Item.form g.V.Item.first_slot g.V.Item.tells x s round) (sym w.self-is) inv.heard;
            told = ap (λ (s : Links g.row.V.Denot g.row.N). s.told.items) w.self-is ∙ inv.told;
            blank = ap (λ (s : Links g.row.V.Denot g.row.N). s.blank) w.self-is ∙ inv.blank;
            fresh = λ r j above low. ap (λ (s : Links g.row.V.Denot g.row.N). has_id (slice_index_or s.touched r []) j) w.self-is ∙ inv.fresh r j above low;
            behind = λ j le low. ap (λ (s : Links g.row.V.Denot g.row.N). has_id (slice_index_or s.touched round []) j) w.self-is ∙ inv.behind j (omega arith) low;
            unjudged = λ j low off. ap (λ (s : Links g.row.V.Denot g.row.N). has_id (slice_index_or s.touched round []) j) w.self-is ∙ elim (cases_eq j from) [
              | inl e ↦ inv.behind j (omega arith) (omega arith)
              | inr other ↦ inv.unjudged j (omega arith) off
            ];
            here = λ j i low on_j on_i ne.
                let other : j ≢ from = λ e. both_ways _ off_from (ap (has_id judged) (sym e) ∙ on_j) in
                subst (λ (s : Links g.row.V.Denot g.row.N). IsCame t m round j i (came_at s round j i)) (sym w.self-is) (inv.here j i (omega arith) on_j on_i ne);
          }
    ]

pub returns-clause-heard : goal.returns-clause-heard
returns-clause-heard g c =
    let a = c.args.self.now in
    let x = c.args.phase.now in
    let round = c.args.round in
    let l = c.loop-from.self in
    let inv = c.loop-from.invariant in
    let st = c.requires.heard.set in
    let m = x.config.now.m in
    let end = c.loop-from-test.false in
    heard_more g.V.Item.form g.V.Item.first_slot g.V.Item.tells x l round inv.heard
    (λ j i low on ne. elim (cases_Bool (has_id c.args.judged.now j)) [
      | inl on_j ↦ subst (λ (u : Talk g.row.V.Denot). IsCame u m round j i (came_at l round j i)) (sym (same_talk g.V.Item.form x a l inv.told inv.blank)) (inv.here j i (omega arith) on_j on ne)
      | inr off ↦
          subst (IsCame (talk_in g.V.Item.form x l) m round j i) (sym (not_touched l round j i (inv.unjudged j (omega arith) off)))
          (judged_even g.V.Item.form x l c.args.judged.now st c.requires.judged round j i c.requires.few low off on ne)
    ])

pub hear_frames-requires : goal.hear_frames-requires
hear_frames-requires g c =
    let x = c.args.phase.now in
    let set = c.requires.heard.set in
    let inv = c.loop-from.invariant in
    let from = c.loop-from.from in
    let low = node_low x set from c.loop-from-test.true in
    (lit< tt, (elim set.capacity [ inl e ↦ rw e (lit< tt) | inr e ↦ rw e (lit< tt) ], (inv.heard, (c.requires.few, (c.loop-from-test.true, inv.behind from (omega arith) low)))))
