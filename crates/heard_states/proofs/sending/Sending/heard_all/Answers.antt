use Rattle.std.proofs.Common.{arith, ◌<◌, ℕ, List, length, length-set, get_or, set, sym, ap, subst, ◌∙◌, inl, inr, get_or-set_same, get_or-set_other}
use Rattle.std.proofs.lemmas.Bool.{cases_eq}
use Rattle.shared_states.specs.Sharing.{state_at}
use Rattle.heard_states.specs.Hearing.{told_by, IsHeardAs}
use Rattle.heard_states.specs.declared.hearing.Heard.{Heard}
use Rattle.heard_states.specs.declared.hearing.Heard.TheVariants.{Bad}
use Rattle.heard_states.proofs.sending.Sending.heard_all.Goals.{then-from-to, else-from-to}
use Rattle.heard_states.proofs.sending.Sending.heard_all.Goals as goal

pub loop-from-preserved : goal.loop-from-preserved
loop-from-preserved g c =
    let x = c.args.self.now in
    let i = c.loop-from.from in
    let to = c.args.to in
    let was = c.loop-from.invariant in
    let old = c.loop-from.heard in
    let P : ℕ → Heard → Type 0 = λ j h. IsHeardAs x.slot.config.now (state_at x.states.now to) h (told_by x to j) in
    let few = c.requires.sending.slot_is.config.few_nodes in
    let test = c.loop-from-test.true in
    let wide = was.wide in
    let low : i < length old = omega arith in
    elim c.if-from-to.branch [
      | then-from-to w ↦ record {
        wide = ap length w.heard-is ∙ length-set old i w.heard.result ∙ was.wide;
        so_far = λ j within other. subst (λ (hs : List Heard). P j (get_or hs j (Bad 0))) (sym w.heard-is) (elim (cases_eq j i) [
          | inl e ↦ subst (λ (k : ℕ). P k (get_or (set old i w.heard.result) k (Bad 0))) (sym e) (subst (P i) (sym (get_or-set_same old i w.heard.result (Bad 0) low)) w.heard.ensures)
          | inr ne ↦ subst (P j) (sym (get_or-set_other old i j w.heard.result (Bad 0) ne)) (was.so_far j (omega arith) other)
        ]);
      }
      | else-from-to w ↦ record {
        wide = ap length w.heard-is ∙ was.wide;
        so_far = λ j within other. subst (λ (hs : List Heard). P j (get_or hs j (Bad 0))) (sym w.heard-is) (elim (cases_eq j i) [
          | inl e ↦ absurd (other (e ∙ w.if-from-to.false))
          | inr ne ↦ was.so_far j (omega arith) other
        ]);
      }
    ]
