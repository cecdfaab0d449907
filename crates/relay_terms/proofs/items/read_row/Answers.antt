use Rattle.std.proofs.Common.{◌≡◌, ◌<◌, ◌-◌, ◌/◌, ℕ, List, get_or, length, take, sym, ap, ◌∙◌, arith, map, set, replicate, ◌++◌}
use Rattle.std.proofs.lemmas.List.{length-map}
use Rattle.std.specs.Int.{w16, from_be_bytes}
use Rattle.frames.specs.Reading.{pieces_of_width}
use Rattle.frames.specs.PieceLaws.{length-cut, read_at}
use Rattle.frames.specs.EntryLaws.{row_in_more, mask_read}
use Rattle.relay_terms.proofs.items.read_row.Goals as goal

pub loop-node-init : goal.loop-node-init
loop-node-init g c = let e : g.row.N ≡ g.row.N - 0 = omega arith in ap (λ n. replicate n 0) e

pub loop-node-preserved : goal.loop-node-preserved
loop-node-preserved g c =
    let bytes : List ℕ = c.args.bytes.now in
    let masks : List ℕ = map (from_be_bytes w16) (pieces_of_width 2 bytes) in
    let long : length masks ≡ length bytes / 2 = length-map (pieces_of_width 2 bytes) (from_be_bytes w16) ∙ length-cut 2 bytes in
    let here : c.loop-node.node < length bytes / 2 = omega (arith, c.requires.within) in
    let v : c.from_be_bytes.result ≡ get_or masks c.loop-node.node 0 =
    c.from_be_bytes.ensures ∙ sym (mask_read bytes c.loop-node.node) ∙ sym (read_at 2 (from_be_bytes w16) bytes c.loop-node.node 0 here) in
    ap (λ xs. set xs c.loop-node.node c.from_be_bytes.result) c.loop-node.invariant
    ∙ row_in_more g.row.N masks c.loop-node.node c.from_be_bytes.result (omega arith) (omega (arith, c.requires.few)) v

pub returns : goal.returns
returns g c =
    let masks : List ℕ = map (from_be_bytes w16) (pieces_of_width 2 c.args.bytes.now) in
    let all : c.loop-node.node ≡ c.args.nodes = omega arith in
    c.loop-node.invariant ∙ ap (λ n. take n masks ++ replicate (g.row.N - n) 0) all
