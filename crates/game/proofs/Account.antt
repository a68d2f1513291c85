-- What is told of a statement and of an objection is one thing only, and so is each number of it; and there is such a thing.
use mathlib.Core.Path.{ap, refl, sym, ◌≡◌, ◌∙◌}
use Prim.Native.Nat.{ℕ}
use Rattle.game.specs.Book.{Book, Listed, Objects}
use Rattle.game.specs.Account.{Account, OfStatement, OfObjection, verdict_account, kind_account}
use Rattle.game.proofs.Verdict.{means_unique, verdict, verdict_means}
use Rattle.game.proofs.Objection.{kind_exists, kind_unique}

pub statement_once : (B : Book) (x : ℕ) (a a' : Account) → OfStatement B x a → OfStatement B x a' → a ≡ a'
statement_once B x a a' (v, m, e) (w, n, f) = e ∙ ap verdict_account (means_unique B x v w m n) ∙ sym f

pub objection_once : (B : Book) (y x : ℕ) (a a' : Account) → OfObjection B y x a → OfObjection B y x a' → a ≡ a'
objection_once B y x a a' (κ, o, e) (κ', o', f) = e ∙ ap kind_account (kind_unique B y x κ κ' o o') ∙ sym f

pub number_once : (Of : Account → Type 0) → ((a a' : Account) → Of a → Of a' → a ≡ a') → (number : Account → ℕ) (e e' : ℕ)
    → (a : Account) × Of a × (e ≡ number a) → (a : Account) × Of a × (e' ≡ number a) → e ≡ e'
number_once Of once number e e' (a, p, q) (a', p', q') = q ∙ ap number (once a a' p p') ∙ sym q'

-- something is told of every listed statement, and of every objection against one
pub statement_told : (B : Book) (x : ℕ) → Listed B x → (a : Account) × OfStatement B x a
statement_told B x h = (verdict_account (verdict B x), (verdict B x, verdict_means B x h, refl))

pub objection_told_lem : (B : Book) (y x : ℕ) → Listed B x → Objects B y x → (a : Account) × OfObjection B y x a
objection_told_lem B y x h o = let (κ, p) = kind_exists B y x h o in (kind_account κ, (κ, p, refl))
