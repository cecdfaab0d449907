use Rattle.std.proofs.Common.{◌≡◌, ◌≢◌, ◌<◌, ◌≤◌, ◌==◌, ◌&&◌, ℕ, not, if◌then◌else◌, List, length, Option, None, Some, inl, inr, lit<, refl, sym, ap, subst, ◌∙◌, arith}
use Rattle.std.specs.Prelude.{IfSome, IsSome, option_map, nat_lt}
use Rattle.std.proofs.lemmas.Bool.{false≢true}
use Rattle.std.proofs.lemmas.Grind.{common_steps}
use Rattle.frames.specs.Content.{Content, Expectation}
use Rattle.frames.specs.declared.frame.Frame.{Frame}
use Rattle.frames.specs.Seen.{content as said}
use Rattle.error_detect.specs.Finding.{kind_of}
use Rattle.error_detect.specs.Good.{IsToldWith}
use Rattle.error_detect.specs.GoodLaws.{good_fits}
use Rattle.error_detect.specs.Watching.{Watch, finding_at, of_sender, told_at}
use Rattle.protocol.specs.Arrival.{arrived, body_said}
use Rattle.protocol.specs.View.{content}
use Rattle.noting.specs.Findings.{has_of}
use Rattle.node_core.proofs.adopting.body_of.Goals as goal
use Rattle.node_core.proofs.adopting.body_of.Goals.{then-node-nodes-via-then-node-nodes, then-node-nodes-via-else-node-nodes+then-node-me}

told_here : {N : ℕ} (w : Watch) (nodes j : ℕ) (o : Option (Frame N)) → w.nodes ≡ nodes → option_map (λ (f : Frame N). said w.nodes f.body) o ≡ told_at w j → option_map (λ (f : Frame N). said nodes f.body) o ≡ told_at w j
told_here {N} w nodes j o same told = ap (λ (n : ℕ). option_map (λ (f : Frame N). said n f.body) o) (sym same) ∙ told

body_by : (e : Expectation) (kind : Option ℕ) (o : Option Content) → IsToldWith e kind o → content (arrived body_said None o) ≡ content (arrived body_said kind o)
body_by e None o h = refl
body_by e (Some n) o h = ap (λ x. content (arrived body_said None x)) h

body_had : (w : Watch) (j : ℕ) → IsSome w.expect → j < w.nodes → j ≢ w.me → content (arrived body_said None (told_at w j)) ≡ content (has_of body_said w j)
body_had w j some low ne = go w.expect refl some where
  go : (o : Option Expectation) → w.expect ≡ o → IsSome o → content (arrived body_said None (told_at w j)) ≡ content (has_of body_said w j)
  go None is s = absurd (false≢true s)
  go (Some e) is s = body_by (of_sender j e) (kind_of (finding_at w j)) (told_at w j) (good_fits w e j is low ne)

other_there : (nodes me j : ℕ) (o : Option (List ℕ)) → j < nodes → (j ≡ me → ⊥) → o ≡ (if nat_lt j nodes && not (j == me) then o else None)
other_there nodes me j o low other = grind (arith, common_steps)

past_all : (nodes me j : ℕ) (o : Option (List ℕ)) → nodes ≤ j → None ≡ (if nat_lt j nodes && not (j == me) then o else None)
past_all nodes me j o high = grind (arith, common_steps)

at_self : (nodes me j : ℕ) (o : Option (List ℕ)) → j ≡ me → None ≡ (if nat_lt j nodes && not (j == me) then o else None)
at_self nodes me j o same = grind (arith, common_steps)

pub frame-requires : goal.frame-requires
frame-requires g c =
    let heard = c.requires.watching in (
      lit< tt,
      (
        elim g.bound-1.eight_or_sixteen [ inl e ↦ rw e (lit< tt) | inr e ↦ rw e (lit< tt) ],
        (
          heard.closed,
          (
            heard.some_slot,
            (subst (λ (n : ℕ). c.args.node < n) (sym heard.nodes_are) c.if-node-nodes.false, λ e. c.if-node-me.false (e ∙ heard.me_is)),
          ),
        ),
      ),
    )

pub state_of-requires : goal.state_of-requires
state_of-requires g c =
    let w = c.args.watch.now in (
      elim g.bound-1.eight_or_sixteen [ inl e ↦ rw e (lit< tt) | inr e ↦ rw e (lit< tt) ],
      subst (λ (o : Option Content). IfSome (content (arrived body_said None o)) (λ bytes. length bytes ≤ 1152)) (sym (told_here w c.args.nodes c.args.node c.frame.result c.requires.watching.nodes_are c.frame.ensures.told)) (c.requires.sized c.args.node),
    )

pub overflow_cast-node : goal.overflow_cast-node
overflow_cast-node g c = omega (arith, c.if-node-nodes.false, c.ranges.nodes)

pub returns : goal.returns
returns g c =
    let w = c.args.watch.now in
    let j : ℕ = c.args.node in
    let heard = c.requires.watching in
    c.state_of.ensures ∙ ap (λ (o : Option Content). content (arrived body_said None o)) (told_here w c.args.nodes j c.frame.result c.requires.watching.nodes_are c.frame.ensures.told)
    ∙ body_had w j heard.some_slot (subst (λ (n : ℕ). j < n) (sym heard.nodes_are) c.if-node-nodes.false) (λ e. c.if-node-me.false (e ∙ heard.me_is))
    ∙ other_there c.args.nodes c.args.me j (content (has_of body_said w j)) c.if-node-nodes.false c.if-node-me.false

pub returns-then-node-nodes : goal.returns-then-node-nodes
returns-then-node-nodes g c =
    let o : Option (List ℕ) = content (has_of body_said c.args.watch.now c.args.node) in
    elim c.then-node-nodes.branch [
      | then-node-nodes-via-then-node-nodes w ↦ past_all c.args.nodes c.args.me c.args.node o w.if-node-nodes.true
      | then-node-nodes-via-else-node-nodes+then-node-me w ↦ at_self c.args.nodes c.args.me c.args.node o w.if-node-me.true
    ]
