-- The objections that pass a test: how long their rows are, and their rows one by one.
use mathlib.Core.Bool.{Bool, cond, true, false}
use mathlib.Core.List.{List, map, [], ◌∷◌, ◌++◌}
use mathlib.Core.Path.{sym, ap, ◌≡◌, ◌∙◌}
use Prim.Native.Nat.{ℕ, suc, ◌≤◌}
use native.Mathlib.Omega.{arith}
use lib.ListN.{length, length-append, get_or}
use Rattle.game.specs.Account.{Account}
use Rattle.register.specs.declared.ObjectionLine.{ObjectionLine}
use Rattle.register.specs.Texts.{rows_to}
use Rattle.listing.specs.Rows.{objection_row}
use Rattle.listing.specs.Listing.{objection_rows}
use Rattle.register.proofs.TextRows.{no_rows, row_first}
use Rattle.game.proofs.UpTo.{up_to}
use Rattle.reason.specs.Alone.{keep}

-- fewer rows are no longer
pub kept_shorter : (p : ℕ → Bool) (O : List ObjectionLine) (told : List Account)
    → length (objection_rows (keep p O) (keep p told)) ≤ length (objection_rows O told)
unfolding keep objection_rows
kept_shorter p [] told = omega arith
kept_shorter p (o ∷ O) [] = go (p 0) (keep (λ k. p (suc k)) O)
  where
    go : (b : Bool) (u : List ObjectionLine) → length (objection_rows (cond b (o ∷ u) u) []) ≤ 0
    go true u = omega arith
    go false [] = omega arith
    go false (v ∷ u) = omega arith
kept_shorter p (o ∷ O) (a ∷ told) = go (p 0) (kept_shorter (λ k. p (suc k)) O told)
  where
    row : List ℕ
    row = objection_row o.objector o.target a

    go : (b : Bool)
        → length (objection_rows (keep (λ k. p (suc k)) O) (keep (λ k. p (suc k)) told)) ≤ length (objection_rows O told)
        → length (objection_rows (cond b (o ∷ keep (λ k. p (suc k)) O) (keep (λ k. p (suc k)) O))
        (cond b (a ∷ keep (λ k. p (suc k)) told) (keep (λ k. p (suc k)) told))) ≤ length (row ++ objection_rows O told)
    go true h =
        omega (
          arith,
          length-append row (objection_rows (keep (λ k. p (suc k)) O) (keep (λ k. p (suc k)) told)),
          length-append row (objection_rows O told),
        )
    go false h = omega (arith, length-append row (objection_rows O told))

-- the row of the objection k, if it passes the test
abbrev pub row_if : (p : ℕ → Bool) (O : List ObjectionLine) (told : ℕ → Account) → ℕ → List ℕ
row_if p O told k =
    cond (p k) (objection_row (get_or (map (λ (o : ObjectionLine). o.objector) O) k 0)
    (get_or (map (λ (o : ObjectionLine). o.target) O) k 0) (told k)) []

pub keep_rows : (p : ℕ → Bool) (O : List ObjectionLine) (told : ℕ → Account)
    → objection_rows (keep p O) (keep p (up_to (length O) told)) ≡ rows_to (length O) (row_if p O told)
unfolding keep objection_rows
keep_rows p [] told = sym (no_rows (row_if p [] told))
keep_rows p (o ∷ O) told =
    go (keep_rows (λ k. p (suc k)) O (λ k. told (suc k))) (p 0) ∙ sym (row_first (row_if p (o ∷ O) told) (length O))
  where
    go : objection_rows (keep (λ k. p (suc k)) O) (keep (λ k. p (suc k)) (up_to (length O) (λ k. told (suc k)))) ≡ rows_to
        (length O)
        (row_if (λ k. p (suc k)) O (λ k. told (suc k))) → (b : Bool)
        → objection_rows (cond b (o ∷ keep (λ k. p (suc k)) O) (keep (λ k. p (suc k)) O))
        (cond b (told 0 ∷ keep (λ k. p (suc k)) (up_to (length O) (λ k. told (suc k))))
        (keep (λ k. p (suc k)) (up_to (length O) (λ k. told (suc k)))))
        ≡ cond b (objection_row o.objector o.target (told 0)) [] ++ rows_to (length O)
        (row_if (λ k. p (suc k)) O (λ k. told (suc k)))
    go rest true = ap (λ u. objection_row o.objector o.target (told 0) ++ u) rest
    go rest false = rest
