use Rattle.std.proofs.Common.{◌≡◌, ℕ, List, true, false, length, take, drop, get_or, sym, ap, ◌∙◌, arith, subst, ◌<◌, ◌^◌, lit<, inl, inr}
use Rattle.std.specs.Bool.{IsTrue}
use Rattle.frames.specs.Content.{Expectation, kind}
use Rattle.frames.specs.Spelling.{head_of, header_spelling}
use Rattle.frames.specs.Checks.{IsBody}
use Rattle.frames.specs.Seen.{expected, content}
use Rattle.frames.proofs.Bodies.{frame_made, frame_header, frame_kind, frame_body, frame_size, too_short}
use Rattle.frames.proofs.decoding.frame_of.Goals as goal

pub returns-then-not-has_header-clause-none : goal.returns-then-not-has_header-clause-none
returns-then-not-has_header-clause-none g c x h =
    let e : Expectation = expected c.args.expect.now in
    let bytes : List ℕ = c.args.bytes.now in
    let size : c.in-Ok.size ≡ length (drop 14 bytes) = c.in-Ok.ensures.1 ∙ ap length c.split_at.ensures.back in
    let k : get_or c.split_at.result.0.now 3 0 ≡ kind x = ap (λ xs. get_or xs 3 0) c.split_at.ensures.front ∙ frame_kind e x bytes h in
    let same : c.split_at.result.0.now ≡ header_spelling (head_of e) (get_or c.split_at.result.0.now 3 0) c.in-Ok.size =
    c.split_at.ensures.front ∙ frame_header e x bytes h
    ∙ ap (λ n. header_spelling (head_of e) n (length (drop 14 bytes))) (sym k)
    ∙ ap (λ n. header_spelling (head_of e) (get_or c.split_at.result.0.now 3 0) n) (sym size) in
    let yes : IsTrue c.has_header.result = c.has_header.ensures.1 same in
    let no : false ≡ true = sym c.if-not-has_header.true ∙ yes in
    cc

pub returns-clause-some : goal.returns-clause-some
returns-clause-some g c =
    let e : Expectation = expected c.args.expect.now in
    let bytes : List ℕ = c.args.bytes.now in
    let size : c.in-Ok.size ≡ length (drop 14 bytes) = c.in-Ok.ensures.1 ∙ ap length c.split_at.ensures.back in
    let short : c.in-Ok.size < 2 ^ 32 = omega (arith, c.in-Ok.ensures.0, c.in-Ok.ensures.1) in
    let yes : IsTrue c.has_header.result = c.if-not-has_header.false in
    let front : take 14 bytes ≡ header_spelling (head_of e) (get_or c.split_at.result.0.now 3 0) c.in-Ok.size = sym c.split_at.ensures.front ∙ c.has_header.ensures.0 yes in
    let P : List ℕ → Type 0 = λ bs. IsBody e (get_or c.split_at.result.0.now 3 0) (content c.args.expect.now.nodes c.in-Some.body) bs in
    frame_made e (content c.args.expect.now.nodes c.in-Some.body) bytes (get_or c.split_at.result.0.now 3 0) c.in-Ok.size front size short (subst P c.split_at.ensures.back c.in-Some.ensures.some)

pub returns-then-bytes-lt-HEADER-clause-head : goal.returns-then-bytes-lt-HEADER-clause-head
returns-then-bytes-lt-HEADER-clause-head g c = tt

pub returns-then-bytes-lt-HEADER-clause-some : goal.returns-then-bytes-lt-HEADER-clause-some
returns-then-bytes-lt-HEADER-clause-some g c = tt

pub returns-then-bytes-lt-HEADER-clause-widths : goal.returns-then-bytes-lt-HEADER-clause-widths
returns-then-bytes-lt-HEADER-clause-widths g c = tt

pub returns-then-bytes-lt-HEADER-clause-none : goal.returns-then-bytes-lt-HEADER-clause-none
returns-then-bytes-lt-HEADER-clause-none g c = λ x h. too_short (expected c.args.expect.now) x c.args.bytes.now c.if-bytes-lt-HEADER.true h

pub returns-in_default-clause-head : goal.returns-in_default-clause-head
returns-in_default-clause-head g c = tt

pub returns-in_default-clause-some : goal.returns-in_default-clause-some
returns-in_default-clause-some g c = tt

pub returns-in_default-clause-widths : goal.returns-in_default-clause-widths
returns-in_default-clause-widths g c = tt

pub returns-in_default-clause-none : goal.returns-in_default-clause-none
returns-in_default-clause-none g c = λ x h.
    c.in_default.ensures (subst (λ (bs : List ℕ). length bs < 2 ^ 32) (sym c.split_at.ensures.back) (frame_size (expected c.args.expect.now) x c.args.bytes.now h).1)

pub bounds-front-3 : goal.bounds-front-3
bounds-front-3 g c = let l : length c.split_at.result.0.now ≡ 14 = c.split_at.ensures.front_len in omega (arith, l)

pub returns-then-not-has_header-clause-head : goal.returns-then-not-has_header-clause-head
returns-then-not-has_header-clause-head g c = tt

pub returns-then-not-has_header-clause-some : goal.returns-then-not-has_header-clause-some
returns-then-not-has_header-clause-some g c = tt

pub returns-then-not-has_header-clause-widths : goal.returns-then-not-has_header-clause-widths
returns-then-not-has_header-clause-widths g c = tt

pub body_of-requires : goal.body_of-requires
body_of-requires g c =
    (lit< tt, (elim g.bound-1.eight_or_sixteen [ inl e ↦ rw e (lit< tt) | inr e ↦ rw e (lit< tt) ], (c.requires.some_nodes, (c.requires.nodes, c.requires.rounds))))

pub returns-in_default-body_of-clause-head : goal.returns-in_default-body_of-clause-head
returns-in_default-body_of-clause-head g c = tt

pub returns-in_default-body_of-clause-some : goal.returns-in_default-body_of-clause-some
returns-in_default-body_of-clause-some g c = tt

pub returns-in_default-body_of-clause-widths : goal.returns-in_default-body_of-clause-widths
returns-in_default-body_of-clause-widths g c = tt

pub returns-in_default-body_of-clause-none : goal.returns-in_default-body_of-clause-none
returns-in_default-body_of-clause-none g c = λ x h.
    let e : Expectation = expected c.args.expect.now in
    let bytes : List ℕ = c.args.bytes.now in
    let k : get_or c.split_at.result.0.now 3 0 ≡ kind x = ap (λ xs. get_or xs 3 0) c.split_at.ensures.front ∙ frame_kind e x bytes h in
    let P : ℕ → Type 0 = λ n. IsBody e n x (drop 14 bytes) in
    let Q : List ℕ → Type 0 = λ bs. IsBody e (get_or c.split_at.result.0.now 3 0) x bs in
    c.in_default-body_of.ensures.none x (subst Q (sym c.split_at.ensures.back) (subst P (sym k) (frame_body e x bytes h)))

pub returns-clause-head : goal.returns-clause-head
returns-clause-head g c = c.head.ensures

pub returns-clause-widths : goal.returns-clause-widths
returns-clause-widths g c = c.in-Some.ensures.widths

pub returns-clause-none : goal.returns-clause-none
returns-clause-none g c = tt
