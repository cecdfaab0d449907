-- Facts that several crates cite.
use Rattle.std.proofs.Common.{List, Option, Some, sym, ℕ, ◌∙◌, ◌≡◌}
use Rattle.serde_json.specs.Data.{Data}
use Rattle.json_parts.specs.Reading.{Reads}

-- a text is that of one value alone
pub same_value : (line : List ℕ) (d e : Data) → Reads line d → Reads line e → d ≡ e
same_value line d e h k = let s : ◌≡◌ {A = Option Data} (Some d) (Some e) = sym h.1 ∙ k.1 in cc
