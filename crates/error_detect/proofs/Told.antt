-- What is told of a node whose finding was Good, by what is held of it.
use Rattle.std.proofs.Common.{◌≡◌, ◌≢◌, ℕ, ◌<◌, ◌≤◌, Bool, true, false, List, Option, Some, refl, sym, ap, ◌∙◌, subst, arith}
use Rattle.std.specs.Prelude.{IsSome, IfSome}
use Rattle.node_grid.specs.NodeSet.{has_id}
use Rattle.frames.specs.Content.{Expectation}
use Rattle.error_detect.specs.declared.finding.Finding.TheVariants.{Good}
use Rattle.error_detect.specs.Watching.{Held, Boxes, held_at, Watch, watch_of, arrival_of, of_sender, finding_at, found_by, told_by, told_at}
use Rattle.error_detect.specs.Inside.{IsKept}
use Rattle.error_detect.proofs.Boxes.{found_at, told_from, good_is}

-- a frame that is held is good, and was told by its bytes
pub record IsHeld (w : Watch) (e : Expectation) (j : ℕ) (h : Held) : Type 0 where
  pub readable : (e.nodes ≡ w.nodes) × (0 < e.nodes) × (e.m ≤ 3)
  pub found : found_by (of_sender j e) (arrival_of h) ≡ Good
  pub told : told_by (of_sender j e) (arrival_of h) ≡ told_at w j

module _ (n nodes me : ℕ) (o : Option Expectation) (shown : Bool) (b : Boxes) (marks : List ℕ) where
  abbrev inside : Watch
  inside = watch_of nodes me o shown b

  -- where the node is marked in a closed watch
  held_good : (e : Expectation) (j : ℕ) → o ≡ Some e → IsKept n inside b.held marks → shown ≡ false → IsSome o → j < nodes → j ≢ me → has_id marks j ≡ true → IsHeld inside e j (held_at b j)
  held_good e j some kept shut has node other marked =
      let good : finding_at inside j ≡ Good = good_is (finding_at inside j) (sym (kept.marked shut has j (omega (arith, node, kept.inboxes.few))) ∙ marked) in
      record {
        readable = subst (λ q. IfSome q (λ (y : Expectation). (y.nodes ≡ nodes) × (0 < y.nodes) × (y.m ≤ 3))) some kept.inboxes.readable;
        found = sym (found_at inside e b.held j other node some refl) ∙ good;
        told = sym (told_from inside e b.held j some refl);
      }

  -- the same of the watch as it is seen
  module _ (w : Watch) (j : ℕ) (kept : IsKept n inside b.held marks) (seen : inside ≡ w) (shut : w.is_open ≡ false) (has : IsSome w.expect) (node : j < w.nodes) (other : j ≢ w.me) (marked : has_id marks j ≡ true) where
    pub held_as_seen : (e : Expectation) → o ≡ Some e → IsHeld w e j (held_at b j)
    held_as_seen e some =
        subst (λ (v : Watch). IsHeld v e j (held_at b j)) seen
        (held_good e j some kept
        (ap (λ (y : Watch). y.is_open) seen ∙ shut)
        (subst IsSome (sym (ap (λ (y : Watch). y.expect) seen)) has)
        (subst (λ k. j < k) (sym (ap (λ (y : Watch). y.nodes) seen)) node)
        (λ y. other (y ∙ ap (λ (y : Watch). y.me) seen))
        marked)
