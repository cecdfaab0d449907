use Rattle.std.proofs.Common.{◌≡◌, ◌∷◌, ◌++◌, [], map, length, ◌∙◌, ap, ap₂, List, ℕ, rules}
use Rattle.std.proofs.lemmas.List.{length-append}
use Rattle.node_alone.specs.Log.{Entry}
use Rattle.node_alone.specs.Seen.{entry_view}
use Rattle.node_alone.specs.Tabled.{header_view}
use Rattle.node_alone.specs.declared.table.Header.{Header}
use Rattle.node_alone.proofs.Tables.{pushed}
use Rattle.node_alone.proofs.table.Table.push.Goals as goal

pub returns : goal.returns
returns c =
    let e = c.args.entry.now in
    let bytes : List ℕ = c.self.inside.bytes.items in
    let headers : List Header = c.self.inside.headers.items in
    let more = c.in_ok-extend_from_slice.ensures.items ∙ ap (λ (ys : List ℕ). bytes ++ ys) c.as_slice.ensures.value in
    let x : Header = record { period = e.period; slot = e.slot; from = e.from; tick = e.tick; start = c.len-start.result; end = c.len.result } in
    let start : c.len-start.result ≡ length bytes = search rules in
    let whole : c.len.result ≡ length c.extend_from_slice.new.self.items = search rules in
    let end = whole ∙ ap length more ∙ length-append bytes e.bytes.items in
    ap₂ (λ (bs : List ℕ) (hs : List Header). map (header_view bs) hs) more c.in_ok-push.ensures.items
    ∙ pushed bytes e.bytes.items headers x c.self.invariant start end
    ∙ ap (λ (es : List Entry). es ++ entry_view e ∷ []) c.self.view_is
