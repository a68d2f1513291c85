-- The promises of the two calls between the forms leave one answer and one content of the room, 10 is given exactly when it is
-- due, and a refusal of the input exactly when the input has that fault.
use mathlib.Core.List.{List}
use mathlib.Core.Logic.{◌↔◌, ⊎_elim, inl}
use mathlib.Core.Path.{refl, sym, subst, ◌≡◌}
use Prim.Native.Nat.{ℕ, ◌<◌}
use lib.ListN.{length}
use Rattle.register.specs.Register.{Register, written}
use Rattle.register.specs.Reads.{Accepts, Refuses}
use Rattle.register.specs.declared.TextFault.{TextFault}
use Rattle.catalogue.specs.Regrouped.{catalogued}
use Rattle.catalogue.specs.CatalogueReads.{CatalogueAccepts, CatalogueRefuses}
use Rattle.answer.specs.declared.Refusal.TheVariants.{Text, Room}
use Rattle.answer.specs.Answer.{Answer}
use Rattle.std.specs.Prelude.{Err}
use Rattle.answer.specs.Answer.{Short, RefusedOn}
use Rattle.answer.proofs.Inputs.{Later}
use Rattle.answer.proofs.Promises.{through}
use Rattle.promises.specs.CatalogueCalls.{TextCatalogue, CatalogueText}
use Rattle.promises.proofs.OnText.{text_apart}
use Rattle.promises.proofs.OnCatalogue.{catalogue_apart}
use Rattle.promises.proofs.WrittenInput.{written_for_unique, written_for_refused, written_for_short}

-- Where the input's own refusals are faults of a text: a fault is refused exactly if the input has it, and 10 is none of them.
module _ {faults : TextFault → Type 0} where
  fault_exactly : {Made : Type 0} {accepts : Made → Type 0} (short : Made → Type 0) (fault : TextFault)
      → RefusedOn accepts (λ r. (f : TextFault) × faults f × (r ≡ Text f)) (λ m. Short (short m)) (Text fault) ↔ faults fault
  fault_exactly short fault = (
    ⊎_elim (λ (f, p, e). subst faults (sym (same f e)) p) (λ (m, t, (s, e)). absurd (subst Later (sym e) tt)),
    λ p. inl (fault, p, refl),
  )
    where
      same : (f : TextFault) → Text fault ≡ Text f → fault ≡ f
      same f e = cc

  no_room_fault : ¬ ((f : TextFault) × faults f × (Room ≡ Text f))
  no_room_fault (f, p, e) = subst Later e tt

module _ (s : List ℕ) (room : List ℕ) where
  pub unique_text_catalogue : (a a' : Answer) (after after' : List ℕ) → TextCatalogue s room a after
      → TextCatalogue s room a' after' → (a ≡ a') × (after ≡ after')
  unique_text_catalogue = written_for_unique (text_apart s) catalogued room

  -- a text has the refusals of 01; then 10, exactly if the room is shorter than the catalogue
  pub exactly_text_catalogue : (a : Answer) (after : List ℕ) → TextCatalogue s room a after
      → ((fault : TextFault) → (a ≡ Err (Text fault)) ↔ Refuses s fault)
      × ((a ≡ Err Room) ↔ ((R : Register) × Accepts s R × (length room < length (catalogued R))))
  exactly_text_catalogue a after p = (
    λ fault. through (written_for_refused (text_apart s) catalogued room a after p (Text fault))
        (fault_exactly (λ R. length room < length (catalogued R)) fault),
    written_for_short (text_apart s) catalogued room no_room_fault a after p,
  )

module _ (catalogue : List ℕ) (room : List ℕ) where
  pub unique_catalogue_text : (a a' : Answer) (after after' : List ℕ) → CatalogueText catalogue room a after
      → CatalogueText catalogue room a' after' → (a ≡ a') × (after ≡ after')
  unique_catalogue_text = written_for_unique (catalogue_apart catalogue) written room

  pub exactly_catalogue_text : (a : Answer) (after : List ℕ) → CatalogueText catalogue room a after
      → ((fault : TextFault) → (a ≡ Err (Text fault)) ↔ CatalogueRefuses catalogue fault)
      × ((a ≡ Err Room) ↔ ((R : Register) × CatalogueAccepts catalogue R × (length room < length (written R))))
  exactly_catalogue_text a after p = (
    λ fault. through (written_for_refused (catalogue_apart catalogue) written room a after p (Text fault))
        (fault_exactly (λ R. length room < length (written R)) fault),
    written_for_short (catalogue_apart catalogue) written room no_room_fault a after p,
  )
