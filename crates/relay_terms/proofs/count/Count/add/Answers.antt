use Rattle.std.proofs.Common.{◌≡◌, not, ap, ◌∙◌, arith}
use Rattle.node_grid.specs.Count.{bit}
use Rattle.node_grid.specs.ListLaws.{count-more}
use Rattle.omh_paths.specs.Wrapped.{is_error, same}
use Rattle.relay_terms.specs.Terms.{said}
use Rattle.relay_terms.proofs.count.Count.add.Goals as goal

pub returns-clause-count : goal.returns-clause-count
returns-clause-count g c =
    let voted : c.one_if.result ≡ bit (not (is_error (said c.args.term.now))) = c.one_if.ensures ∙ ap (λ b. bit (not b)) c.is_nothing-is_nothing.ensures in
    let supported : c.one_if-2.result ≡ bit (same g.V.PartialEq.eq (said c.args.self.now.value) (said c.args.term.now)) = c.one_if-2.ensures ∙ ap bit c.is-supports.ensures in
    λ seen h.
    let v = count-more (λ x. not (is_error x)) seen (said c.args.term.now) in
    let s = count-more (same g.V.PartialEq.eq (said c.args.self.now.value)) seen (said c.args.term.now) in
    record {
      voted = omega (arith, v, voted, h.voted);
      supported = omega (arith, s, supported, h.supported);
    }
