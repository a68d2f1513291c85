-- The size of a catalogue: that of all statement lines, and that of a field for each objection, which stands on one card.
use mathlib.Core.Bool.{cond}
use mathlib.Core.List.{List, [], ◌++◌}
use mathlib.Core.Path.{refl, ap, sym, ◌≡◌, ◌∙◌}
use Prim.Native.Nat.{ℕ, zero, suc, ◌+◌, ◌*◌, ◌≤◌, ◌<◌}
use native.Mathlib.Omega.{arith}
use lib.Dec.{eqb}
use lib.ListN.{length, length-append, get_or}
use borrow.Author.Tests.{eq-eqb, ne_eqb}
use Rattle.register.specs.Texts.{rows_to}
use Rattle.register.proofs.Number.{number_small}
use Rattle.register.proofs.TextRows.{no_rows, rows_longer, rows_small, rows_idle, rows_sum}
use Rattle.register_write.specs.Copied.{Copyable, statement_text, statements_text}
use Rattle.register_write.proofs.PutLines.{statement_length}
use Rattle.catalogue_write.specs.CatalogueRows.{field_text, fields_text, card_text, catalogued_lists}
use Rattle.catalogue_write.proofs.CardPieces.{begin_length, card_length_lem}

-- a row that stands at one place
module _ (t : ℕ) (u : List ℕ) where
  abbrev at_once : ℕ → List ℕ
  at_once x = cond (eqb t x) u []

  elsewhere : (i : ℕ) → (t ≡ i → ⊥) → at_once i ≡ []
  elsewhere i p = rw (ne_eqb t i p) refl

  there : at_once t ≡ u
  there = rw (eq-eqb t t refl) refl

  row_once : (n : ℕ) → t < n → length (rows_to n at_once) ≡ length u
  row_once n h =
      omega (
        arith,
        ap length (no_rows at_once),
        ap length (rows_idle at_once 0 t (omega arith) (λ i k l. elsewhere i (omega arith))),
        rows_longer at_once t,
        ap length there,
        ap length (rows_idle at_once (t + 1) n (omega arith) (λ i k l. elsewhere i (omega arith))),
      )

-- each of m rows stands at one of n places
rows_once : (n m : ℕ) (place : ℕ → ℕ) (row : ℕ → List ℕ) → ((e : ℕ) → e < m → place e < n)
    → length (rows_to n (λ x. rows_to m (λ e. cond (eqb (place e) x) (row e) []))) ≡ length (rows_to m row)
unfolding rows_to
rows_once n zero place row h = sym (ap length (rows_idle (λ x. []) 0 n (omega arith) (λ i k l. refl)))
rows_once n (suc m) place row h =
    let before : ℕ → List ℕ = λ x. rows_to m (λ e. cond (eqb (place e) x) (row e) []) in
    let last : ℕ → List ℕ = λ x. cond (eqb (place m) x) (row m) [] in
    omega (
      arith,
      rows_sum (λ x. before x ++ last x) before last (λ x. length-append (before x) (last x)) n,
      rows_once n m place row (λ e l. h e (omega arith)),
      row_once (place m) (row m) n (h m (omega arith)),
      length-append (rows_to m row) (row m),
    )

module _ (nums objectors : List ℕ) where
  pub fields_small : (m : ℕ) → length (rows_to m (field_text nums objectors)) ≤ 16 * m
  fields_small =
      rows_small (field_text nums objectors) 16 (λ e. omega (arith, number_small (get_or nums (get_or objectors e 0) 0)))

  pub catalogued_length : (marks targets : List ℕ) → Copyable nums objectors targets
      → length (catalogued_lists nums marks objectors targets) ≡ length (statements_text nums marks) + length
      (rows_to (length objectors) (field_text nums objectors))
  catalogued_length marks targets ok =
      rows_sum (card_text nums marks objectors targets) (statement_text nums marks) (fields_text nums objectors targets) one
      (length nums)
      ∙ ap (λ n. length (statements_text nums marks) + n)
      (rows_once (length nums) (length objectors) (λ e. get_or targets e 0) (field_text nums objectors) ok.target)
    where
      one : (x : ℕ) → length (card_text nums marks objectors targets x) ≡ length (statement_text nums marks x) + length
          (fields_text nums objectors targets x)
      one x =
          omega (
            arith,
            card_length_lem nums marks objectors targets x,
            begin_length (get_or nums x 0) (get_or marks x 0),
            statement_length (get_or nums x 0) (get_or marks x 0),
          )

-- what the fields' size is added up by
pub ruleset sizes = (number_small, no_rows, rows_longer, fields_small)
