-- The demands leave one listing, one reason, and one sheet's codes and totals: what says what `WrittenDemands` asks is written in
-- one way only. So nothing that a row or a sheet says can be left out there unseen.
use mathlib.Core.List.{List, [], ◌++◌}
use mathlib.Core.Logic.{inl, inr, ◌⊎◌}
use mathlib.Core.Path.{refl, ◌≡◌, ap, ap₂, subst, sym, ◌∙◌}
use Prim.Native.Nat.{ℕ, ◌≤◌, ◌<◌}
use native.Mathlib.Omega.{arith}
use lib.Dec.{T, eqb}
use lib.ListN.{length, get_or}
use Rattle.game.specs.Book.{Listed, book_of}
use Rattle.game.specs.Label.{Verdict, falls, stands, is_open}
use Rattle.game.specs.Account.{verdict_account, kind_account, label_number, length_number, kind_number, kind_length}
use Rattle.game.specs.Reason.{InReason}
use Rattle.game.specs.declared.Kind.{Kind}
use Rattle.game.specs.declared.Kind.TheVariants.{Idle, Felling, Delaying, Standoff}
use Rattle.game.proofs.BookDemands.{demand_2}
use Rattle.game.proofs.Count.{count_mono}
use Rattle.game.proofs.Verdict.{verdict, verdict_means}
use Rattle.register.specs.Register.{Register, Valid, book, numbers, objector_numbers, target_numbers, objectors_of, targets_of}
use Rattle.register.proofs.Order.{marks_counted, objectors_counted, register_in_order}
use Rattle.register.proofs.TextRows.{rows_same}
use Rattle.listing.specs.Rows.{header, statement_row, objection_row}
use Rattle.sheet.specs.Sheet.{code_at, codes, total}
use Rattle.promises.specs.WrittenDemands.{StatementRowSays, ObjectionRowSays, ListingSays, ReasonSays, SheetSays}
use Rattle.promises.proofs.SaysOnce.{label_says_once, length_says_once, kind_says_once}

-- a verdict is known by its numbers, and a kind by its own
by_numbers : (v w : Verdict) → label_number v ≡ label_number w → length_number v ≡ length_number w → v ≡ w
by_numbers (falls n) (falls m) e f = ap falls f
by_numbers (stands n) (stands m) e f = ap stands f
by_numbers is_open is_open e f = refl
by_numbers (falls n) (stands m) e f = absurd (omega (arith, e))
by_numbers (falls n) is_open e f = absurd (omega (arith, e))
by_numbers (stands n) (falls m) e f = absurd (omega (arith, e))
by_numbers (stands n) is_open e f = absurd (omega (arith, e))
by_numbers is_open (falls m) e f = absurd (omega (arith, e))
by_numbers is_open (stands m) e f = absurd (omega (arith, e))

kind_by_numbers : (κ ι : Kind) → kind_number κ ≡ kind_number ι → kind_length κ ≡ kind_length ι → κ ≡ ι
kind_by_numbers Idle Idle e f = refl
kind_by_numbers (Felling n) (Felling m) e f = ap Felling f
kind_by_numbers (Delaying n) (Delaying m) e f = ap Delaying f
kind_by_numbers Standoff Standoff e f = refl
kind_by_numbers Idle (Felling m) e f = absurd (omega (arith, e))
kind_by_numbers Idle (Delaying m) e f = absurd (omega (arith, e))
kind_by_numbers Idle Standoff e f = absurd (omega (arith, e))
kind_by_numbers (Felling n) Idle e f = absurd (omega (arith, e))
kind_by_numbers (Felling n) (Delaying m) e f = absurd (omega (arith, e))
kind_by_numbers (Felling n) Standoff e f = absurd (omega (arith, e))
kind_by_numbers (Delaying n) Idle e f = absurd (omega (arith, e))
kind_by_numbers (Delaying n) (Felling m) e f = absurd (omega (arith, e))
kind_by_numbers (Delaying n) Standoff e f = absurd (omega (arith, e))
kind_by_numbers Standoff Idle e f = absurd (omega (arith, e))
kind_by_numbers Standoff (Felling m) e f = absurd (omega (arith, e))
kind_by_numbers Standoff (Delaying m) e f = absurd (omega (arith, e))

module _ (R : Register) (valid : Valid R) where
  listed : (x : ℕ) → x < length R.statements → Listed (book R) x
  unfolding book_of
  listed x h = omega (arith, marks_counted R valid)

  -- a row of a statement, and of an objection
  statement_row_lem : (x : ℕ) → x < length R.statements → (row : List ℕ) → StatementRowSays R x row
      → row ≡ statement_row (get_or (numbers R) x 0) (verdict_account (verdict (book R) x))
  statement_row_lem x h row s =
      let m = verdict_means (book R) x (listed x h) in
      s.is ∙ ap (λ v. statement_row (get_or (numbers R) x 0) (verdict_account v)) (by_numbers s.verdict (verdict (book R) x)
      (label_says_once (book R) x (label_number s.verdict) (verdict (book R) x) m s.label_says)
      (length_says_once (book R) x (length_number s.verdict) (verdict (book R) x) m s.length_says))

  objection_row_once : (k : ℕ) → k < length R.objections → (row row' : List ℕ) → ObjectionRowSays R k row
      → ObjectionRowSays R k row' → row ≡ row'
  unfolding book_of
  objection_row_once k h row row' s s' =
      let y = get_or (objectors_of R) k 0 in
      let x = get_or (targets_of R) k 0 in
      let there : Listed (book R) x = (register_in_order R valid).target k (omega (arith, objectors_counted R valid)) in
      let (κ, of, one) = (demand_2 (book R)).sorted y x there s.kind_says.objects in
      let (a, b) = kind_says_once (book R) y x (kind_number s.kind) (kind_length s.kind) κ of s.kind_says in
      let (a', b') = kind_says_once (book R) y x (kind_number s'.kind) (kind_length s'.kind) κ of s'.kind_says in
      s.is ∙ ap (λ ι. objection_row (get_or (objector_numbers R) k 0) (get_or (target_numbers R) k 0) (kind_account ι))
      (kind_by_numbers s.kind s'.kind (a ∙ sym a') (b ∙ sym b')) ∙ sym s'.is

  pub listing_says_once : (l l' : List ℕ) → ListingSays R l → ListingSays R l' → l ≡ l'
  listing_says_once l l' s s' =
      s.is ∙ ap₂ (λ a b. header (length R.statements) (length R.objections) ++ (a ++ b))
      (rows_same (length R.statements) s.statements s'.statements (λ x h. statement_row_lem x h (s.statements x)
      (s.statement_says x h) ∙ sym (statement_row_lem x h (s'.statements x) (s'.statement_says x h))))
      (rows_same (length R.objections) s.objections s'.objections (λ k h. objection_row_once k h (s.objections k)
      (s'.objections k) (s.objection_says k h) (s'.objection_says k h))) ∙ sym s'.is

  pub reason_says_once : (x : ℕ) → x < length R.statements → (l l' : List ℕ) → ReasonSays R x l → ReasonSays R x l' → l ≡ l'
  reason_says_once x h l l' s s' =
      s.is ∙ ap₂ (λ a b. a ++ b) (statement_row_lem x h s.statement s.statement_says ∙ sym (statement_row_lem x h s'.statement
      s'.statement_says)) (rows_same (length R.objections) s.objections s'.objections (λ k i. go k i (s.exactly k i)
      (s'.exactly k i))) ∙ sym s'.is
    where
      In : ℕ → Type 0
      In k = InReason (book R) x (get_or (objectors_of R) k 0) (get_or (targets_of R) k 0)

      go : (k : ℕ) → k < length R.objections → (In k × ObjectionRowSays R k (s.objections k)) ⊎ ((¬ In k)
          × (s.objections k ≡ [])) → (In k × ObjectionRowSays R k (s'.objections k)) ⊎ ((¬ In k) × (s'.objections k ≡ []))
          → s.objections k ≡ s'.objections k
      go k i (inl (p, r)) (inl (q, r')) = objection_row_once k i (s.objections k) (s'.objections k) r r'
      go k i (inl (p, r)) (inr (n, e)) = absurd (n p)
      go k i (inr (n, e)) (inl (p, r)) = absurd (n p)
      go k i (inr (n, e)) (inr (m, f)) = e ∙ sym f

  -- the codes of a sheet, and so the totals beside it
  code_once : (sheet sheet' totals totals' : List ℕ) → SheetSays R sheet totals → SheetSays R sheet' totals' → (x : ℕ)
      → x < length R.statements → code_at sheet x ≡ code_at sheet' x
  code_once sheet sheet' totals totals' s s' x h =
      let m = verdict_means (book R) x (listed x h) in
      label_says_once (book R) x (code_at sheet x) (verdict (book R) x) m (s.label_says x h)
      ∙ sym (label_says_once (book R) x (code_at sheet' x) (verdict (book R) x) m (s'.label_says x h))

  no_more : (sheet sheet' : List ℕ) → ((x : ℕ) → x < length R.statements → code_at sheet x ≡ code_at sheet' x) → (c : ℕ)
      → total sheet (length R.statements) c ≤ total sheet' (length R.statements) c
  unfolding total
  no_more sheet sheet' e c =
      count_mono (λ x. eqb (code_at sheet x) c) (λ x. eqb (code_at sheet' x) c) (length R.statements)
      (λ x h t. subst (λ a. T (eqb a c)) (e x h) t)

  pub sheet_says_once : (sheet sheet' totals totals' : List ℕ) → SheetSays R sheet totals → SheetSays R sheet' totals'
      → ((x : ℕ) → x < length R.statements → code_at sheet x ≡ code_at sheet' x)
      × ((c : ℕ) → c < codes → get_or totals c 0 ≡ get_or totals' c 0)
  sheet_says_once sheet sheet' totals totals' s s' =
      let e = code_once sheet sheet' totals totals' s s' in
      let f = code_once sheet' sheet totals' totals s' s in (
        e,
        λ c h. omega (arith, s.counts c h, s'.counts c h, no_more sheet sheet' e c, no_more sheet' sheet f c),
      )
