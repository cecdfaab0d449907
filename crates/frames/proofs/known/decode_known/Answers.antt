use Rattle.std.proofs.Common.{◌≤◌, ℕ, List, take, get_or, sym, ap, ◌∙◌, subst, lit<, inl, inr}
use Rattle.std.specs.Prelude.{Some}
use Rattle.frames.specs.Content.{Expectation, Content}
use Rattle.frames.specs.Spelling.{IsFrame}
use Rattle.frames.specs.Reading.{content_said}
use Rattle.frames.specs.Checks.{IsSaid}
use Rattle.frames.specs.Seen.{expected}
use Rattle.frames.proofs.Bodies.{known}
use Rattle.frames.proofs.known.decode_known.Goals as goal

pub split_at-requires : goal.split_at-requires
split_at-requires g c = (known (expected c.args.expect.now) c.args.bytes.now c.requires.known).long

pub numbered-requires : goal.numbered-requires
numbered-requires g c =
    let k = known (expected c.args.expect.now) c.args.bytes.now c.requires.known in
    let P : List ℕ → Type 0 = λ f. 1 ≤ get_or f 3 0 in
    let Q : List ℕ → Type 0 = λ f. get_or f 3 0 ≤ 7 in
    record { first = subst P (sym c.split_at.ensures.front) k.first; last = subst Q (sym c.split_at.ensures.front) k.last }

pub known_body-requires : goal.known_body-requires
known_body-requires g c =
    let e : Expectation = expected c.args.expect.now in
    let k = known e c.args.bytes.now c.requires.known in
    let R : List ℕ → List ℕ → Type 0 = λ f b. IsSaid e (content_said e (get_or f 3 0) b) b in
    let body = c.split_at.result.1.now in
    let read : R c.split_at.result.0.now body =
    subst (λ f. R f body) (sym c.split_at.ensures.front) (subst (R (take 14 c.args.bytes.now)) (sym c.split_at.ensures.back) k.said) in
    let said = subst (λ n. IsSaid e (content_said e n body) body) (sym c.numbered.ensures) read in
    (lit< tt, (elim g.bound-1.eight_or_sixteen [ inl e ↦ rw e (lit< tt) | inr e ↦ rw e (lit< tt) ], (c.requires.some_nodes, (c.requires.nodes, said))))

pub returns-clause-frame : goal.returns-clause-frame
returns-clause-frame g c =
    let e : Expectation = expected c.args.expect.now in
    let bytes : List ℕ = c.args.bytes.now in
    let P : Content → Type 0 = λ x. IsFrame e x bytes in
    let same = c.known_body.ensures.says ∙ ap (λ n. content_said e n c.split_at.result.1.now) c.numbered.ensures ∙ ap (λ f. content_said e (get_or f 3 0) c.split_at.result.1.now) c.split_at.ensures.front ∙ ap (content_said e (get_or (take 14 bytes) 3 0)) c.split_at.ensures.back in
    subst P (sym same) (known e bytes c.requires.known).framed

pub returns-clause-reading : goal.returns-clause-reading
returns-clause-reading g c =
    let e : Expectation = expected c.args.expect.now in
    let bytes : List ℕ = c.args.bytes.now in
    let same = c.known_body.ensures.says ∙ ap (λ n. content_said e n c.split_at.result.1.now) c.numbered.ensures ∙ ap (λ f. content_said e (get_or f 3 0) c.split_at.result.1.now) c.split_at.ensures.front ∙ ap (content_said e (get_or (take 14 bytes) 3 0)) c.split_at.ensures.back in
    ap Some same ∙ sym (known e bytes c.requires.known).read
