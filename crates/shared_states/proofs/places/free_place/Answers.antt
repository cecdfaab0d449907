use Rattle.std.proofs.Common.{◌≡◌, ℕ, List, true, false, length, get_or, lit<, sym, ap, ◌∙◌, arith}
use Rattle.node_grid.specs.NodeSet.{has_id, ids_below, minus_of}
use Rattle.shared_states.proofs.Free.{left_over, left_out}
use Rattle.shared_states.proofs.places.free_place.Goals as goal

pub at-requires : goal.at-requires
at-requires g c =
    let used = c.places_of.result in
    let is : c.minus-free.result ≡ minus_of (ids_below g.row.N) used = c.minus-free.ensures ∙ ap (λ (s : List ℕ). minus_of s used) c.full.ensures in
    (lit< tt, omega (arith, ap length is, left_over g.row.N used c.places_of.ensures.ids (omega (arith, c.places_of.ensures.few, c.requires.few))))

pub returns-clause-place : goal.returns-clause-place
returns-clause-place g c =
    let used = c.places_of.result in
    let is : c.minus-free.result ≡ minus_of (ids_below g.row.N) used = c.minus-free.ensures ∙ ap (λ (s : List ℕ). minus_of s used) c.full.ensures in
    let out = left_out g.row.N used c.places_of.ensures.ids (omega (arith, c.places_of.ensures.few, c.requires.few)) in
    omega (arith, c.at.ensures, ap (λ (s : List ℕ). get_or s 0 0) is, out.0)

pub returns-clause-free : goal.returns-clause-free
returns-clause-free g c = λ i up same.
    let used = c.places_of.result in
    let is : c.minus-free.result ≡ minus_of (ids_below g.row.N) used = c.minus-free.ensures ∙ ap (λ (s : List ℕ). minus_of s used) c.full.ensures in
    let out = left_out g.row.N used c.places_of.ensures.ids (omega (arith, c.places_of.ensures.few, c.requires.few)) in
    let at : get_or c.args.places.now i 0 ≡ get_or (minus_of (ids_below g.row.N) used) 0 0 = same ∙ c.at.ensures ∙ ap (λ (s : List ℕ). get_or s 0 0) is in
    let t : false ≡ true = sym out.1 ∙ ap (has_id used) (sym at) ∙ c.places_of.ensures.places i up in
    absurd (cc)
