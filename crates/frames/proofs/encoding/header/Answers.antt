use Rattle.std.proofs.Common.{ℕ, List, [], ◌∷◌, get_or, ap₂}
use Rattle.frames.proofs.encoding.header.Goals as goal

pub returns : goal.returns
returns c =
    let bytes = λ (p s : List ℕ).
    77 ∷ 70 ∷ c.args.head.version ∷ c.args.kind ∷ get_or p 0 0 ∷ get_or p 1 0 ∷ get_or p 2 0 ∷ get_or p 3 0
    ∷ c.args.head.sender ∷ c.args.head.slot ∷ get_or s 0 0 ∷ get_or s 1 0 ∷ get_or s 2 0 ∷ get_or s 3 0 ∷ [] in
    ap₂ bytes c.to_be_bytes-period.ensures c.to_be_bytes-size.ensures
