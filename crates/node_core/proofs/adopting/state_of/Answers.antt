use Rattle.std.proofs.Common.{◌≡◌, ◌≤◌, ℕ, List, length, Option, None, Some, sym, ap, subst, ◌∙◌, refl}
use Rattle.std.specs.Prelude.{IfSome, option_map}
use Rattle.frames.specs.declared.frame.Body.{Body}
use Rattle.frames.specs.declared.frame.Frame.{Frame}
use Rattle.frames.specs.Seen.{content as said}
use Rattle.protocol.specs.Arrival.{arrived, body_said}
use Rattle.protocol.specs.View.{content}
use Rattle.node_core.proofs.adopting.state_of.Goals as goal

state_told : {N : ℕ} (nodes : ℕ) (o : Option (Frame N)) (f : Frame N) (bytes : List ℕ) → o ≡ Some f → content (arrived body_said None (Some (said nodes f.body))) ≡ Some bytes
    → content (arrived body_said None (option_map (λ (x : Frame N). said nodes x.body) o)) ≡ Some bytes
state_told {N} nodes o f bytes is has = ap (λ (p : Option (Frame N)). content (arrived body_said None (option_map (λ (x : Frame N). said nodes x.body) p))) is ∙ has

pub copied-requires : goal.copied-requires
copied-requires g c =
    let has = ap (λ (b : Body g.row.N). content (arrived body_said None (Some (said c.args.nodes b)))) c.in-State.is in
    subst (λ (o : Option (List ℕ)). IfSome o (λ bytes. length bytes ≤ 1152)) (state_told c.args.nodes c.args.frame.now c.in-Some.frame c.in-State.bytes.now c.in-Some.is has) c.requires.sized

pub returns-in-State : goal.returns-in-State
returns-in-State g c =
    let has = ap (λ (b : Body g.row.N). content (arrived body_said None (Some (said c.args.nodes b)))) c.in-State.is in
    ap Some c.copied.ensures ∙ sym (state_told c.args.nodes c.args.frame.now c.in-Some.frame c.in-State.bytes.now c.in-Some.is has)

pub slice_bounds-copied-end : goal.slice_bounds-copied-end
slice_bounds-copied-end g c = refl
