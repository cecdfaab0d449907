-- The entries of a table, where one more is put behind them.
use Rattle.std.proofs.Common.{ℕ, zero, suc, ◌≡◌, ◌≤◌, ◌+◌, ◌-◌, List, [], ◌∷◌, ◌++◌, map, length, take, drop, refl, ap, ap₂, ◌∙◌, arith}
use Rattle.std.specs.Prelude.{All}
use Rattle.std.proofs.lemmas.List.{map_push}
use Rattle.std.proofs.lemmas.List.Elements.{All-head, All-tail}
use Rattle.node_alone.specs.Log.{Entry}
use Rattle.node_alone.specs.Tabled.{header_view, IsWithin}
use Rattle.node_alone.specs.declared.table.Header.{Header}

-- bytes behind them change no bytes within
within : (bytes more : List ℕ) (start count : ℕ) → start + count ≤ length bytes → take count (drop start (bytes ++ more)) ≡ take count (drop start bytes)
within bytes more zero zero low = refl
within [] more zero (suc count) low = absurd (omega (arith, low))
within (b ∷ bytes) more zero (suc count) low = ap (λ ys. b ∷ ys) (within bytes more zero count (omega (arith, low)))
within [] more (suc start) count low = absurd (omega (arith, low))
within (b ∷ bytes) more (suc start) count low = within bytes more start count (omega (arith, low))

-- the last bytes
behind : (bytes more : List ℕ) → take (length more) (drop (length bytes) (bytes ++ more)) ≡ more
behind [] [] = refl
behind [] (b ∷ more) = ap (λ ys. b ∷ ys) (behind [] more)
behind (b ∷ bytes) more = behind bytes more

-- the entries stay as they are
stay : (bytes more : List ℕ) (headers : List Header) → All (IsWithin (length bytes)) headers → map (header_view (bytes ++ more)) headers ≡ map (header_view bytes) headers
stay bytes more [] h = refl
stay bytes more (x ∷ headers) h =
    let at = All-head (IsWithin (length bytes)) x headers h in
    let order = at.order in
    let end = at.end in
    ap₂ (λ (ys : List ℕ) (es : List Entry). record { period = x.period; slot = x.slot; from = x.from; tick = x.tick; bytes = ys } ∷ es)
    (within bytes more x.start (x.end - x.start) (omega (arith, order, end))) (stay bytes more headers (All-tail (IsWithin (length bytes)) x headers h))

-- one entry more
pub pushed : (bytes more : List ℕ) (headers : List Header) (x : Header) → All (IsWithin (length bytes)) headers → x.start ≡ length bytes → x.end ≡ length bytes + length more
    → map (header_view (bytes ++ more)) (headers ++ x ∷ []) ≡ map (header_view bytes) headers ++ record { period = x.period; slot = x.slot; from = x.from; tick = x.tick; bytes = more } ∷ []
pushed bytes more headers x h start end =
    map_push (header_view (bytes ++ more)) headers x
    ∙ ap₂ (λ (es : List Entry) (ys : List ℕ). es ++ record { period = x.period; slot = x.slot; from = x.from; tick = x.tick; bytes = ys } ∷ []) (stay bytes more headers h)
    (ap₂ (λ (n : ℕ) (k : ℕ). take n (drop k (bytes ++ more))) (let e : x.end - x.start ≡ length more = omega (arith, start, end) in e) start ∙ behind bytes more)
