-- Rows up to a place: one more, and how long they are.
use mathlib.Core.List.{List, append_assoc, append-nil, [], ◌++◌}
use mathlib.Core.Path.{refl, ap, sym, ap₂, ◌≡◌, ◌∙◌}
use Prim.Native.Nat.{ℕ, zero, suc, ◌+◌, ◌-◌, ◌*◌, ◌≤◌, ◌<◌}
use native.Mathlib.Nat.{mul-suc}
use native.Mathlib.Numerals.{add-one}
use native.Mathlib.Omega.{arith}
use lib.ListN.{length, length-append}
use Rattle.register.specs.Texts.{rows_to}

module _ (row : ℕ → List ℕ) where
  pub no_rows : rows_to 0 row ≡ []
  unfolding rows_to
  no_rows = refl

  pub row_more : (n : ℕ) → rows_to (n + 1) row ≡ rows_to n row ++ row n
  unfolding rows_to
  row_more n = rw add-one refl

  pub rows_longer : (n : ℕ) → length (rows_to (n + 1) row) ≡ length (rows_to n row) + length (row n)
  rows_longer n = ap length (row_more n) ∙ length-append (rows_to n row) (row n)

  -- fewer rows are no longer
  pub rows_fewer : (n m : ℕ) → n ≤ m → length (rows_to n row) ≤ length (rows_to m row)
  rows_fewer n m h = go (m - n) m (omega arith)
    where
      go : (d m : ℕ) → n + d ≡ m → length (rows_to n row) ≤ length (rows_to m row)
      go zero m e = let q : n ≡ m = omega arith in rw q (omega arith)
      go (suc d) m e =
          let q : m ≡ (n + d) + 1 = omega arith in rw q (let i : length (rows_to n row) ≤ length (rows_to (n + d) row) = go d
          (n + d) refl in omega (arith, rows_longer (n + d)))

  -- empty rows add nothing
  pub rows_idle : (n m : ℕ) → n ≤ m → ((i : ℕ) → n ≤ i → i < m → row i ≡ []) → rows_to n row ≡ rows_to m row
  rows_idle n m h idle = go (m - n) m (omega arith) idle
    where
      go : (d m : ℕ) → n + d ≡ m → ((i : ℕ) → n ≤ i → i < m → row i ≡ []) → rows_to n row ≡ rows_to m row
      go zero m e idle = let q : n ≡ m = omega arith in ap (λ k. rows_to k row) q
      go (suc d) m e idle =
          let q : (n + d) + 1 ≡ m = omega arith in
          go d (n + d) refl (λ i k l. idle i k (omega arith)) ∙ sym (append-nil (rows_to (n + d) row))
          ∙ ap (λ u. rows_to (n + d) row ++ u) (sym (idle (n + d) (omega arith) (omega arith))) ∙ sym (row_more (n + d))
          ∙ ap (λ k. rows_to k row) q

  -- rows of at most b bytes each
  pub rows_within : (b n : ℕ) → ((i : ℕ) → i < n → length (row i) ≤ b) → length (rows_to n row) ≤ b * n
  unfolding rows_to
  rows_within b zero h = omega arith
  rows_within b (suc n) h =
      omega (
        arith,
        length-append (rows_to n row) (row n),
        rows_within b n (λ i l. h i (omega arith)),
        h n (omega arith),
        mul-suc b n,
      )

  pub rows_small : (b : ℕ) → ((i : ℕ) → length (row i) ≤ b) → (n : ℕ) → length (rows_to n row) ≤ b * n
  rows_small b h n = rows_within b n (λ i l. h i)

  -- the first row, and those behind it
  pub row_first : (n : ℕ) → rows_to (suc n) row ≡ row 0 ++ rows_to n (λ i. row (suc i))
  unfolding rows_to
  row_first zero = sym (append-nil (row 0))
  row_first (suc n) = ap (λ u. u ++ row (suc n)) (row_first n) ∙ append_assoc (row 0) (rows_to n (λ i. row (suc i))) (row (suc n))

pub rows_same : (n : ℕ) (row row' : ℕ → List ℕ) → ((i : ℕ) → i < n → row i ≡ row' i) → rows_to n row ≡ rows_to n row'
unfolding rows_to
rows_same zero row row' h = refl
rows_same (suc n) row row' h = ap₂ (λ a b. a ++ b) (rows_same n row row' (λ i l. h i (omega arith))) (h n (omega arith))

-- rows that are as long as two others together
pub rows_sum : (row p q : ℕ → List ℕ) → ((i : ℕ) → length (row i) ≡ length (p i) + length (q i)) → (n : ℕ)
    → length (rows_to n row) ≡ length (rows_to n p) + length (rows_to n q)
unfolding rows_to
rows_sum row p q h zero = refl
rows_sum row p q h (suc n) =
    omega (
      arith,
      length-append (rows_to n row) (row n),
      length-append (rows_to n p) (p n),
      length-append (rows_to n q) (q n),
      h n,
      rows_sum row p q h n,
    )
