-- Accepting and refusing a text are apart: it is the written form of one register at most, it has one fault at most, and never
-- both. So the laws of promises on an input hold of every promise on a text.
use mathlib.Core.List.{List}
use mathlib.Core.Logic.{⊎_elim, inl, inr}
use mathlib.Core.Path.{ap, subst, sym, refl, ◌∙◌}
use Prim.Native.Nat.{ℕ}
use Rattle.register.specs.Reads.{Accepts}
use Rattle.answer.specs.declared.Refusal.{Refusal}
use Rattle.answer.specs.declared.Refusal.TheVariants.{Text}
use Rattle.answer.proofs.Inputs.{Apart, Later}
use Rattle.promises.specs.Demands.{Settled}
use Rattle.promises.specs.OnText.{TextRefused}
use Rattle.register.proofs.Unique as text
use Rattle.register.proofs.Settled as settled

pub text_apart : (s : List ℕ) → Apart (Accepts s) (TextRefused s)
text_apart s = record {
  accepts_once = text.accepts_once s;
  not_both = λ R r a (f, p, e). text.not_both s R f a p;
  refuses_once = λ r r' (f, p, e) (g, q, h). e ∙ ap Text (text.refuses_once s f g p q) ∙ sym h;
}

-- what is refused later is no fault of the text
pub no_text_fault : (s : List ℕ) (r : Refusal) → Later r → ¬ TextRefused s r
no_text_fault s r l (f, p, e) = subst Later e l

-- Demand 1: every text is accepted or refused, never both, with one refusal.
pub text_settled : (s : List ℕ) → Settled (Accepts s) (TextRefused s)
text_settled s = record {
  either = ⊎_elim inl (λ (f, p). inr (Text f, (f, p, refl))) (settled.settled s);
  not_both = (text_apart s).not_both;
  one_refusal = (text_apart s).refuses_once;
}
