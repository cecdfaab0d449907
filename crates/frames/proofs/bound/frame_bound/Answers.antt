use Rattle.std.proofs.Common.{◌+◌, ◌*◌, max, ap, ◌∙◌, arith}
use Rattle.frames.proofs.Bounds.{is_greatest, is_short_bound}
use Rattle.frames.proofs.bound.frame_bound.Goals as goal

pub returns-clause-greatest : goal.returns-clause-greatest
returns-clause-greatest c =
    is_greatest c.args.nodes c.args.m c.args.state_len c.args.due (14 + c.max-body.result) c.requires.nodes c.requires.rounds c.requires.fewer (omega arith) (omega arith)
    (ap (λ x. 14 + x) (c.max-body.ensures ∙ ap (λ x. max x (8 * c.args.due)) (c.max-2.ensures ∙ ap (λ x. max x c.args.state_len) (c.max.ensures ∙ ap (λ x. max (x * (1 + 2 * c.args.nodes)) (2 * c.args.nodes)) c.most_entries.ensures.number))))

pub returns-clause-short : goal.returns-clause-short
returns-clause-short c =
    is_short_bound c.args.nodes c.args.m c.args.state_len c.args.due (14 + c.max-body.result) c.requires.nodes c.requires.rounds c.requires.fewer (omega arith) (omega arith)
    (ap (λ x. 14 + x) (c.max-body.ensures ∙ ap (λ x. max x (8 * c.args.due)) (c.max-2.ensures ∙ ap (λ x. max x c.args.state_len) (c.max.ensures ∙ ap (λ x. max (x * (1 + 2 * c.args.nodes)) (2 * c.args.nodes)) c.most_entries.ensures.number))))
