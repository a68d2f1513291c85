-- The promise leaves one answer and one content of what is lent: `unique_text_mend`. And 1 and 10 are refused exactly when they
-- are due, and nothing else: `exactly_text_mend`. A text is accepted as its lines, which are one.
use mathlib.Core.List.{List}
use mathlib.Core.Logic.{inl, inr, ◌⊎◌, ◌↔◌}
use mathlib.Core.Path.{sym, subst, refl, ◌≡◌, ◌∙◌}
use Prim.Native.Nat.{ℕ, ◌<◌}
use native.Mathlib.Omega.{arith}
use lib.ListN.{length}
use Rattle.register.specs.Register.{written}
use Rattle.register.specs.declared.TextFault.TheVariants.{TooLong}
use Rattle.answer.specs.declared.Refusal.{Refusal}
use Rattle.answer.specs.declared.Refusal.TheVariants.{Text, Room}
use Rattle.answer.specs.Answer.{Answer}
use Rattle.std.specs.Prelude.{Err}
use Rattle.answer.specs.Answer.{Short, RefusedOn}
use Rattle.answer.proofs.Promises.{short_once}
use Rattle.answer.proofs.Inputs.{Apart, Later, on_unique, on_exactly, on_refused}
use Rattle.answer.proofs.Rooms.{written_unique}
use Rattle.mend.specs.TextLines.{TextLine}
use Rattle.mend.specs.Mended.{mended, fates}
use Rattle.mend.proofs.TextLines.{lines_once}
use Rattle.mend.specs.Report.{report_of}
use Rattle.promises.specs.MendCalls.{Lent, Lined, LinesRefused, MendedIn, MendedShort, TextMend}

pub lines_apart : (s : List ℕ) → Apart (Lined s) (LinesRefused s)
lines_apart s = record {
  accepts_once = λ ls ls' p q. lines_once s ls ls' p.1 q.1;
  not_both = λ ls r p q. omega (arith, p.0, q.0);
  refuses_once = λ r r' p q. p.1 ∙ sym q.1;
}

module _ (s : List ℕ) (lent : Lent) where
  -- where both are written, neither room is short
  fits : (ls : List TextLine) → Lined s ls → (r : Refusal) (n : ℕ) (after : Lent) → Short (MendedShort ls lent) r
      → MendedIn ls lent n after → ⊥
  fits ls t r n after (inl h, e) (w, v) = omega (arith, h, w.1)
  fits ls t r n after (inr h, e) (w, v) = omega (arith, h, v.1)

  gives_once : (ls : List TextLine) → Lined s ls → (n n' : ℕ) (after after' : Lent) → MendedIn ls lent n after
      → MendedIn ls lent n' after' → (n ≡ n') × (after ≡ after')
  gives_once ls t n n' after after' (w, v) (w', v') =
      let text = written (mended ls) in
      let report = report_of (fates ls) in
      let (a, b) = written_unique text text lent.0 n n' after.0 after'.0 refl w w' in
      let (c, d) = written_unique report report lent.1 after.2 after'.2 after.1 after'.1 refl v v' in
      (a, λ i. (b i, d i, c i))

  pub unique_text_mend : (a a' : Answer) (after after' : Lent) → TextMend s lent a after → TextMend s lent a' after'
      → (a ≡ a') × (after ≡ after')
  unique_text_mend =
      on_unique (lines_apart s) (λ ls. Short (MendedShort ls lent)) (λ ls. short_once (MendedShort ls lent))
      (λ ls. MendedIn ls lent) fits gives_once lent

  pub record ExactlyMend (a : Answer) : Type 0 where
    pub one : (a ≡ Err (Text TooLong)) ↔ (65535 < length s)
    pub ten : (a ≡ Err Room) ↔ ((ls : List TextLine) × Lined s ls × MendedShort ls lent)
    pub no_other : (r : Refusal) → a ≡ Err r → (r ≡ Text TooLong) ⊎ (r ≡ Room)

  pub exactly_text_mend : (a : Answer) (after : Lent) → TextMend s lent a after → ExactlyMend a
  exactly_text_mend a after p = record {
    one = (λ e. long ((due (Text TooLong)).0 e), λ h. (due (Text TooLong)).1 (inl (h, refl)));
    ten =
        on_exactly (lines_apart s) later (λ ls. short_once (MendedShort ls lent)) (λ ls. MendedIn ls lent) fits lent a after p
        Room
        (λ q. subst Later q.1 tt) (λ ls. MendedShort ls lent) (λ ls. (λ q. q.0, λ h. (h, refl)));
    no_other = λ r e. which r ((due r).0 e);
  }
    where
      later : List TextLine → Refusal → Type 0
      later ls = Short (MendedShort ls lent)

      due : (r : Refusal) → (a ≡ Err r) ↔ RefusedOn (Lined s) (LinesRefused s) later r
      due =
          on_refused (lines_apart s) later (λ ls. short_once (MendedShort ls lent)) (λ ls. MendedIn ls lent) fits lent a after p

      long : RefusedOn (Lined s) (LinesRefused s) later (Text TooLong) → 65535 < length s
      long (inl q) = q.0
      long (inr (ls, t, q)) = absurd (subst Later (sym q.1) tt)

      which : (r : Refusal) → RefusedOn (Lined s) (LinesRefused s) later r → (r ≡ Text TooLong) ⊎ (r ≡ Room)
      which r (inl q) = inl q.1
      which r (inr (ls, t, q)) = inr q.1
