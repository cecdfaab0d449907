-- What the lines and the blocks of a storm are, whatever was drawn.
use Rattle.std.proofs.Common.{◌≡◌, ℕ, ◌+◌, ◌*◌, ◌<◌, ◌≤◌, Bool, true, false, not, ◌&&◌, List, [], ◌∷◌, length}
use Rattle.std.specs.List.{list_all, AllByRecursion}
use Rattle.node_grid.specs.NodeSet.{has_id, IsIdSet}
use Rattle.std.specs.Prelude.{nat_lt}
use Rattle.fault_classes.specs.Change.{Change}
use Rattle.fault_classes.specs.Change.Change.{Drop, Set}
use Rattle.fault_classes.specs.Line.{Line, shares}
use Rattle.fault_classes.specs.Rules.{are_below, is_change}
use Rattle.storm.specs.declared.spell.Spell.{Spell}
use Rattle.storm.specs.Storm.{Block}

pub record IsSpell (k : ℕ) (s : Spell) : Type 0 where
  pub low : 5 ≤ s.node
  pub high : s.node ≤ 7
  pub first : s.first ≡ 16 * k + 1
  pub some : s.first ≤ s.last
  pub short : s.last ≤ 16 * k + 8

-- each number is less than the next
abbrev pub ascends : List ℕ → Bool
ascends [] = true
ascends (x ∷ []) = true
ascends (x ∷ y ∷ ys) = nat_lt x y && ascends (y ∷ ys)

-- nothing arrives, or bytes are replaced
abbrev pub WritesBytes : Change → Type 0
WritesBytes Drop = Unit {0}
WritesBytes (Set at bytes) = AllByRecursion (λ b. b < 256) bytes
WritesBytes _ = ⊥

pub record IsLineOf (s : Spell) (l : Line) : Type 0 where
  pub from : l.from ≡ s.node
  pub first : l.first ≡ s.first
  pub last : l.last ≡ s.last
  pub receivers : are_below 8 l.to ≡ true
  pub not_itself : has_id l.to s.node ≡ false
  pub slots : are_below 8 l.slots ≡ true
  pub change : is_change l.change ≡ true
  pub ascending : ascends l.to ≡ true
  pub slots_ascend : ascends l.slots ≡ true
  pub set : IsIdSet 8 l.to
  pub slots_set : IsIdSet 8 l.slots
  pub bytes : WritesBytes l.change

-- no line shares with a later one
abbrev pub apart : List Line → Bool
apart [] = true
apart (l ∷ ls) = list_all (λ m. not (shares m l)) ls && apart ls

pub record AreLinesOf (s : Spell) (ls : List Line) : Type 0 where
  pub lines : AllByRecursion (IsLineOf s) ls
  pub disjoint : apart ls ≡ true
  pub few : length ls ≤ 7

pub record IsBlock (k : ℕ) (b : Block) : Type 0 where
  pub spell : IsSpell k b.spell
  pub lines : AreLinesOf b.spell b.lines

-- blocks from block k on
abbrev pub AreBlocks : ℕ → List Block → Type 0
AreBlocks k [] = Unit {0}
AreBlocks k (b ∷ bs) = IsBlock k b × AreBlocks (k + 1) bs
