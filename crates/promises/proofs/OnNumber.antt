-- Accepting and refusing one number are apart, of what is written and of a code: bytes are one number at most, a code is written
-- in one way, and what is none is refused alone. So the laws of promises on an input hold of the two calls on a number.
use mathlib.Core.List.{List, [], ◌∷◌}
use mathlib.Core.Logic.{inl, inr, ◌⊎◌}
use mathlib.Core.Path.{ap, refl, subst, sym, ◌≡◌, ◌∙◌}
use Prim.Native.Nat.{ℕ}
use native.Mathlib.Omega.{arith}
use Rattle.register.specs.Number.{IsNumber, number_bytes}
use Rattle.register.specs.declared.TextFault.TheVariants.{Spoiled}
use Rattle.register.proofs.Number.{number_injective, number_says, number?, spell_number}
use Rattle.register.proofs.Settled.{Settles, same?}
use Rattle.answer.specs.declared.Refusal.{Refusal}
use Rattle.answer.specs.declared.Refusal.TheVariants.{Text}
use Rattle.answer.proofs.Inputs.{Apart}
use Rattle.promises.specs.Demands.{Settled}
use Rattle.promises.specs.NumberCalls.{Names, NamesNone, IsNobodys}

pub names_once : (written : List ℕ) (n m : ℕ) → Names written n → Names written m → n ≡ m
names_once written n m (h, e) (k, f) = number_injective n m h k (sym e ∙ f)

-- bytes are these, or they are not; they are this number, or they are not
alike? : (u v : List ℕ) → Settles (u ≡ v)
alike? [] [] = inl refl
alike? [] (b ∷ v) = inr (λ e. let z : ◌≡◌ {A = ℕ} 0 1 = cc in omega arith)
alike? (a ∷ u) [] = inr (λ e. let z : ◌≡◌ {A = ℕ} 0 1 = cc in omega arith)
alike? (a ∷ u) (b ∷ v) = go (same? a b) (alike? u v)
  where
    go : Settles (a ≡ b) → Settles (u ≡ v) → Settles (a ∷ u ≡ b ∷ v)
    go (inl p) (inl q) = inl (ap (λ c. c ∷ u) p ∙ ap (λ w. b ∷ w) q)
    go (inl p) (inr n) = inr (λ e. n cc)
    go (inr n) q = inr (λ e. n cc)

pub names? : (written : List ℕ) (n : ℕ) → Settles (Names written n)
names? written n = go (number? n) (alike? written (number_bytes n))
  where
    go : Settles (IsNumber n) → Settles (written ≡ number_bytes n) → Settles (Names written n)
    go (inl p) (inl q) = inl (p, q)
    go (inl p) (inr m) = inr (λ w. m w.1)
    go (inr m) q = inr (λ w. m w.0)

-- what is written
pub written_apart : (written : List ℕ) → Apart (Names written) (NamesNone written)
written_apart written = record {
  accepts_once = names_once written;
  not_both = λ n r p q. q.0 n p;
  refuses_once = λ r r' p q. p.1 ∙ sym q.1;
}

-- Demand 1: what is written is a number or refused, never both. If it is one, it is the one that its bytes say.
pub written_settled : (written : List ℕ) → Settled (Names written) (NamesNone written)
written_settled written = record {
  either = go (names? written (spell_number 0 written));
  not_both = (written_apart written).not_both;
  one_refusal = (written_apart written).refuses_once;
}
  where
    go : Settles (Names written (spell_number 0 written))
        → ((n : ℕ) × Names written n) ⊎ ((r : Refusal) × NamesNone written r)
    go (inl p) = inl (spell_number 0 written, p)
    go (inr none) =
        inr (
          Text (Spoiled 0),
          (λ n p. none (subst (Names written) (sym (number_says n p.0) ∙ ap (spell_number 0) (sym p.1)) p), refl),
        )

-- a code
pub code_apart : (number : ℕ) → Apart (λ l. Names l number) (IsNobodys number)
code_apart number = record {
  accepts_once = λ l k p q. p.1 ∙ sym q.1;
  not_both = λ l r p q. q.0 p.0;
  refuses_once = λ r r' p q. p.1 ∙ sym q.1;
}

pub code_settled : (number : ℕ) → Settled (λ l. Names l number) (IsNobodys number)
code_settled number = record {
  either = go (number? number);
  not_both = (code_apart number).not_both;
  one_refusal = (code_apart number).refuses_once;
}
  where
    go : Settles (IsNumber number) → ((l : List ℕ) × Names l number) ⊎ ((r : Refusal) × IsNobodys number r)
    go (inl h) = inl (number_bytes number, (h, refl))
    go (inr n) = inr (Text (Spoiled 0), (n, refl))
