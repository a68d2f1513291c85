-- Accepting and refusing a catalogue are apart: it is the catalogue of one register at most, it has one fault at most, and never
-- both. So the laws of promises on an input hold of the call on a catalogue.
use mathlib.Core.List.{List}
use mathlib.Core.Logic.{⊎_elim, inl, inr}
use mathlib.Core.Path.{ap, sym, refl, ◌∙◌}
use Prim.Native.Nat.{ℕ}
use Rattle.catalogue.specs.CatalogueReads.{CatalogueAccepts}
use Rattle.catalogue.proofs.CatalogueUnique.{catalogue_accepts_once, catalogue_not_both, catalogue_refuses_once}
use Rattle.catalogue.proofs.CatalogueSettled.{catalogue_settled as settled}
use Rattle.answer.specs.declared.Refusal.TheVariants.{Text}
use Rattle.answer.proofs.Inputs.{Apart}
use Rattle.promises.specs.Demands.{Settled}
use Rattle.promises.specs.CatalogueCalls.{CatalogueRefused}

pub catalogue_apart : (s : List ℕ) → Apart (CatalogueAccepts s) (CatalogueRefused s)
catalogue_apart s = record {
  accepts_once = catalogue_accepts_once s;
  not_both = λ R r a (f, p, e). catalogue_not_both s R f a p;
  refuses_once = λ r r' (f, p, e) (g, q, h). e ∙ ap Text (catalogue_refuses_once s f g p q) ∙ sym h;
}

-- Demand 1: every text is accepted as a catalogue or refused, never both, with one refusal.
pub catalogue_settled : (s : List ℕ) → Settled (CatalogueAccepts s) (CatalogueRefused s)
catalogue_settled s = record {
  either = ⊎_elim inl (λ (f, p). inr (Text f, (f, p, refl))) (settled s);
  not_both = (catalogue_apart s).not_both;
  one_refusal = (catalogue_apart s).refuses_once;
}
