-- What one more member adds to the counts of voters and accusers.
use Rattle.node_grid.specs.ListLaws.{count-more, bit_le}
use Rattle.std.proofs.Common.{◌≡◌, ℕ, ◌+◌, ◌≤◌, length, length-append, append_assoc, Bool, true, false, List, ◌∷◌, [], ◌++◌, Option, Some, None, not, if◌then◌else◌, ◌&&◌, refl, sym, ap, ◌∙◌, arith}
use Rattle.std.specs.Prelude.{◌==◌}
use Rattle.node_grid.specs.Count.{count, bit}
use Rattle.node_grid.specs.Matrix.{row_at}
use Rattle.error_reports.specs.Charge.{accuses, is_row, row_accuses, is_voter, is_accuser}

-- what the row of a member says of node j, where it counts
abbrev pub Says : List (Option (List ℕ)) → ℕ → ℕ → ℕ → Option Bool → Type 0
Says rows j k q said = said ≡ (if is_voter rows j q then Some (is_accuser rows j k q) else None)

-- v voters and a accusers are among the members seen so far
pub record Tally (rows : List (Option (List ℕ))) (j k : ℕ) (seen : List ℕ) (v a : ℕ) : Type 0 where
  pub voters : v ≡ count (is_voter rows j) seen
  pub accusers : a ≡ count (is_accuser rows j k) seen
  pub few_voters : v ≤ length seen
  pub few_accusers : a ≤ length seen

-- one member more: its row counts and says so, or doesn't count
says_so : (b said : Bool) (r : Option (List ℕ)) (j k : ℕ) → Some said ≡ (if b && is_row r then Some (b && row_accuses r j k) else None)
    → ((b && is_row r) ≡ true) × ((b && row_accuses r j k) ≡ said)
says_so true said None j k e = absurd cc
says_so true said (Some row) j k e = (refl, cc)
says_so false said r j k e = absurd cc

says_nothing : (b : Bool) (r : Option (List ℕ)) (j k : ℕ) → None ≡ (if b && is_row r then Some (b && row_accuses r j k) else None)
    → ((b && is_row r) ≡ false) × ((b && row_accuses r j k) ≡ false)
says_nothing true None j k e = (refl, refl)
says_nothing true (Some row) j k e = absurd cc
says_nothing false r j k e = (refl, refl)

tally_more : (rows : List (Option (List ℕ))) (j k : ℕ) (seen : List ℕ) (v a q : ℕ) (votes accuses : Bool) (v' a' : ℕ)
    → Tally rows j k seen v a → is_voter rows j q ≡ votes → is_accuser rows j k q ≡ accuses → v' ≡ v + bit votes → a' ≡ a + bit accuses
    → Tally rows j k (seen ++ q ∷ []) v' a'
tally_more rows j k seen v a q votes accuses v' a' before is_one does more_voters more_accusers =
    let longer = length-append seen (q ∷ []) in
    record {
      voters = omega (arith, more_voters, before.voters, count-more (is_voter rows j) seen q, ap bit is_one);
      accusers = omega (arith, more_accusers, before.accusers, count-more (is_accuser rows j k) seen q, ap bit does);
      few_voters = omega (arith, more_voters, before.few_voters, longer, bit_le votes);
      few_accusers = omega (arith, more_accusers, before.few_accusers, longer, bit_le accuses);
    }

pub tally_said : (rows : List (Option (List ℕ))) (j k : ℕ) (seen : List ℕ) (v a q : ℕ) (said : Bool) (v' a' : ℕ)
    → Tally rows j k seen v a → Says rows j k q (Some said) → v' ≡ v + 1 → a' ≡ a + bit said → Tally rows j k (seen ++ q ∷ []) v' a'
tally_said rows j k seen v a q said v' a' before says more_voters more_accusers =
    let is = says_so (not (q == j)) said (row_at rows q) j k says in
    tally_more rows j k seen v a q true said v' a' before is.0 is.1 more_voters more_accusers

pub tally_none : (rows : List (Option (List ℕ))) (j k : ℕ) (seen : List ℕ) (v a q : ℕ)
    → Tally rows j k seen v a → Says rows j k q None → Tally rows j k (seen ++ q ∷ []) v a
tally_none rows j k seen v a q before says =
    let is = says_nothing (not (q == j)) (row_at rows q) j k says in
    tally_more rows j k seen v a q false false v a before is.0 is.1 (omega arith) (omega arith)

pub split_more : (xs ys zs rest : List ℕ) (x : ℕ) → xs ≡ ys ++ zs → zs ≡ x ∷ rest → xs ≡ (ys ++ x ∷ []) ++ rest
split_more xs ys zs rest x e f = e ∙ ap (λ t. ys ++ t) f ∙ sym (append_assoc ys (x ∷ []) rest)
