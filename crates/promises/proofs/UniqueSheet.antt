-- Both promises leave one answer and one content of the rooms: `unique_CALL` for each call. And what is refused of a sheet is
-- refused exactly when it is due: `exactly_CALL`.
use mathlib.Core.List.{List}
use mathlib.Core.Logic.{inl, inr, ◌↔◌}
use mathlib.Core.Path.{ap₂, sym, subst, refl, ◌≡◌, ◌∙◌}
use Prim.Native.Nat.{ℕ, ◌<◌}
use native.Mathlib.Omega.{arith}
use lib.ListN.{length}
use Rattle.game.specs.Book.{Book}
use Rattle.register.specs.Register.{book, Register}
use Rattle.register.specs.Reads.{Accepts}
use Rattle.promises.specs.OnText.{TextRefused}
use Rattle.answer.specs.declared.Refusal.{Refusal}
use Rattle.answer.specs.declared.Refusal.TheVariants.{Room, Sheet}
use Rattle.answer.specs.Answer.{Begins, Short}
use Rattle.answer.specs.Answer.{Answer}
use Rattle.answer.proofs.Rooms.{written_unique, begins_unique}
use Rattle.std.specs.Prelude.{Err}
use Rattle.answer.proofs.Promises.{short_once, number_clash}
use Rattle.answer.proofs.Inputs.{on_unique, on_exactly}
use Rattle.sheet.specs.Sheet.{total, codes}
use Rattle.sheet.proofs.Sheets.{sheet_once}
use Rattle.promises.proofs.OnText.{text_apart, no_text_fault}
use Rattle.promises.specs.SheetCalls.{SheetIn, SheetShort, UpdateRefused, UpdatedIn, TextSheet, TextSheetUpdate, OldSheet}

module _ (B : Book) (rooms : List ℕ × List ℕ) where
  -- rooms that begin with the book's sheet and totals are one
  pub sheet_in_once : (n n' : ℕ) (after after' : List ℕ × List ℕ) → SheetIn B rooms n after → SheetIn B rooms n' after'
      → (n ≡ n') × (after ≡ after')
  sheet_in_once n n' after after' (l, is, w, t) (l', is', w', t') =
      let q = sheet_once B l l' is is' in
      let (e, f) = written_unique l l' rooms.0 n n' after.0 after'.0 q w w' in (
        e,
        ap₂ (λ a b. (a, b)) f
            (begins_unique (λ c e. e ≡ total l B.size c) rooms.1 codes after.1 after'.1 (λ k a b h p r. p ∙ sym r) t
            (subst (λ k. Begins codes (λ c e. e ≡ total k B.size c) rooms.1 after'.1) (sym q) t')),
      )

  -- where they do, neither room is short
  sheet_fits : (n : ℕ) (after : List ℕ × List ℕ) → SheetIn B rooms n after → ¬ SheetShort B rooms
  sheet_fits n after (l, is, w, t) (inl h) = omega (arith, h, is.size, w.1)
  sheet_fits n after (l, is, w, t) (inr h) = omega (arith, h, t.fits)

  update_refused_once : (r r' : Refusal) → UpdateRefused B rooms r → UpdateRefused B rooms r' → r ≡ r'
  update_refused_once r r' (inl p) (inl q) = p.1 ∙ sym q.1
  update_refused_once r r' (inl p) (inr q) = absurd (p.0 q.0)
  update_refused_once r r' (inr p) (inl q) = absurd (q.0 p.0)
  update_refused_once r r' (inr p) (inr q) = short_once (length rooms.1 < codes) r r' p.1 q.1

  updated_fits : (n : ℕ) (after : List ℕ × List ℕ) → UpdatedIn B rooms n after → (r : Refusal) → ¬ UpdateRefused B rooms r
  updated_fits n after (old, g) r (inl p) = p.0 old
  updated_fits n after (old, g) r (inr p) = sheet_fits n after g (inr p.1.0)

module _ (s : List ℕ) (rooms : List ℕ × List ℕ) where
  pub unique_text_sheet : (a a' : Answer) (after after' : List ℕ × List ℕ) → TextSheet s rooms a after
      → TextSheet s rooms a' after' → (a ≡ a') × (after ≡ after')
  unique_text_sheet =
      on_unique (text_apart s) (λ R. Short (SheetShort (book R) rooms)) (λ R. short_once (SheetShort (book R) rooms))
      (λ R. SheetIn (book R) rooms) (λ R t r n after p g. sheet_fits (book R) rooms n after g p.0)
      (λ R t. sheet_in_once (book R) rooms) rooms

  pub unique_text_sheet_update : (a a' : Answer) (after after' : List ℕ × List ℕ) → TextSheetUpdate s rooms a after
      → TextSheetUpdate s rooms a' after' → (a ≡ a') × (after ≡ after')
  unique_text_sheet_update =
      on_unique (text_apart s) (λ R. UpdateRefused (book R) rooms) (λ R. update_refused_once (book R) rooms)
      (λ R. UpdatedIn (book R) rooms) (λ R t r n after p g. updated_fits (book R) rooms n after g r p)
      (λ R t n n' after after' p q. sheet_in_once (book R) rooms n n' after after' p.1 q.1) rooms

  -- 10 of a fresh sheet, given exactly when either room is short
  pub exactly_text_sheet : (a : Answer) (after : List ℕ × List ℕ) → TextSheet s rooms a after
      → (a ≡ Err Room) ↔ ((R : Register) × Accepts s R × SheetShort (book R) rooms)
  exactly_text_sheet a after p =
      on_exactly (text_apart s) (λ R. Short (SheetShort (book R) rooms)) (λ R. short_once (SheetShort (book R) rooms))
      (λ R. SheetIn (book R) rooms) (λ R t r n after p g. sheet_fits (book R) rooms n after g p.0)
      rooms a after p Room (no_text_fault s Room tt) (λ R. SheetShort (book R) rooms) (λ R. (λ q. q.0, λ h. (h, refl)))

  -- 16 of an update, given exactly when the old sheet is not sound, and then 10
  pub record ExactlyUpdate (a : Answer) : Type 0 where
    pub sixteen : (a ≡ Err Sheet) ↔ ((R : Register) × Accepts s R × (¬ OldSheet (book R) rooms))
    pub ten : (a ≡ Err Room) ↔ ((R : Register) × Accepts s R × (OldSheet (book R) rooms × (length rooms.1 < codes)))

  pub exactly_text_sheet_update : (a : Answer) (after : List ℕ × List ℕ) → TextSheetUpdate s rooms a after → ExactlyUpdate a
  exactly_text_sheet_update a after p = record {
    sixteen =
        due Sheet (no_text_fault s Sheet tt) (λ R. ¬ OldSheet (book R) rooms)
        (λ R. (unsound (book R), λ n. inl (n, refl)));
    ten =
        due Room (no_text_fault s Room tt) (λ R. OldSheet (book R) rooms × (length rooms.1 < codes))
        (λ R. (short (book R), λ (old, h). inr (old, (h, refl))));
  }
    where
      due : (r : Refusal) → ¬ TextRefused s r → (due : Register → Type 0)
          → ((R : Register) → UpdateRefused (book R) rooms r ↔ due R)
          → (a ≡ Err r) ↔ ((R : Register) × Accepts s R × due R)
      due =
          on_exactly (text_apart s) (λ R. UpdateRefused (book R) rooms) (λ R. update_refused_once (book R) rooms)
          (λ R. UpdatedIn (book R) rooms) (λ R t r n after p g. updated_fits (book R) rooms n after g r p) rooms a
          after p

      unsound : (B : Book) → UpdateRefused B rooms Sheet → ¬ OldSheet B rooms
      unsound B (inl p) = p.0
      unsound B (inr p) = absurd (number_clash Sheet Room (λ e. omega (arith, e)) p.1.1)

      short : (B : Book) → UpdateRefused B rooms Room → OldSheet B rooms × (length rooms.1 < codes)
      short B (inl p) = absurd (number_clash Room Sheet (λ e. omega (arith, e)) p.1)
      short B (inr p) = (p.0, p.1.0)
