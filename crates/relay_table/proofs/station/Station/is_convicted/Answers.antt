use mir.Val.{bool_byte}
use Rattle.std.proofs.Common.{ℕ, ◌≡◌, ◌<◌, ◌+◌, ◌&&◌, Bool, not, List, [], ◌∷◌, map, length, take, get_or, sym, ap, ◌∙◌, arith}
use Rattle.std.proofs.lemmas.List.{take_more, map-append}
use Rattle.node_grid.specs.Count.{bit, count}
use Rattle.node_grid.specs.ListLaws.{bit_le, count-more}
use Rattle.node_grid.specs.SetFacts.{byte_is}
use Rattle.equivocation.specs.Conviction.{is_present, disagrees}
use Rattle.omh_paths.specs.declared.wrapped.Wrapped.{Wrapped}
use Rattle.omh_paths.specs.Wrapped.{is_error, same}
use Rattle.relay_terms.specs.declared.term.Term.{Term}
use Rattle.relay_terms.specs.Terms.{said}
use Rattle.relay_table.proofs.station.Station.is_convicted.Goals as goal

-- one relay more
counts_more : {V : Type 0} (test : Wrapped V → Bool) (relays : List (Term V)) (i : ℕ) (t : Term V) → i < length relays → t ≡ get_or relays i t
    → count test (map said (take (i + 1) relays)) ≡ count test (map said (take i relays)) + bit (test (said t))
counts_more {V} test relays i t here is =
    ap (λ (ts : List (Term V)). count test (map said ts)) (take_more relays i t here)
    ∙ ap (count test) (map-append said (take i relays) (get_or relays i t ∷ []))
    ∙ count-more test (map said (take i relays)) (said (get_or relays i t))
    ∙ ap (λ (x : Term V). count test (map said (take i relays)) + bit (test (said x))) (sym is)

pub loop-relay-preserved : goal.loop-relay-preserved
loop-relay-preserved g c =
    let eq = g.V.PartialEq.eq in
    let i = c.loop-relay.invariant in
    let relays = c.args.relays.now in
    let k = c.loop-relay.relay-index in
    let relay = c.relay-item.result in
    let here : k < length relays = omega arith in
    let there = is_present (said relay) in
    let odd = disagrees eq (said c.args.told.now) (said relay) in
    let voiced : bool_byte (not c.is_nothing.result) ≡ bit there = byte_is (not c.is_nothing.result) ∙ ap (λ (b : Bool). bit (not b)) c.is_nothing.ensures in
    let opposed : bool_byte c.disagrees.result ≡ bit odd = byte_is c.disagrees.result ∙ ap bit (c.disagrees.ensures ∙ ap (λ x. not (is_error (said relay)) && not (same eq (said relay) x)) c.wrap-own.ensures) in
    record {
      voices = omega (arith, voiced, counts_more is_present relays k relay here c.relay-item.is, i.voices);
      against = omega (arith, opposed, counts_more (disagrees eq (said c.args.told.now)) relays k relay here c.relay-item.is, i.against);
      few_voices = omega (arith, voiced, bit_le there, i.few_voices);
      few_against = omega (arith, opposed, bit_le odd, i.few_against);
    }
