-- The promises of the two calls that move a register from the old form to a catalogue, and back. What a catalogue is, and which
-- texts are accepted as one, `catalogue` says.
use Rattle.std.specs.Prelude.{List, ◌≡◌, ℕ, ◌<◌, length}
use Rattle.register.specs.Register.{written}
use Rattle.register.specs.declared.TextFault.{TextFault}
use Rattle.catalogue.specs.Regrouped.{catalogued}
use Rattle.catalogue.specs.CatalogueReads.{CatalogueAccepts, CatalogueRefuses}
use Rattle.answer.specs.declared.Refusal.{Refusal}
use Rattle.answer.specs.declared.Refusal.TheVariants.{Text}
use Rattle.answer.specs.Answer.{Answer}
use Rattle.answer.specs.Answer.{OnInput, Short, Written}
use Rattle.promises.specs.OnText.{OnText}

-- "Old registers move to this form": the catalogue of the register, in a room that is long enough
abbrev pub TextCatalogue : (text : List ℕ) → List ℕ → Answer → List ℕ → Type 0
TextCatalogue text room =
    OnText text (λ R. Short (length room < length (catalogued R))) (λ R. Written (catalogued R) room) room

-- the catalogue is refused for the fault that it has
abbrev pub CatalogueRefused : (catalogue : List ℕ) → Refusal → Type 0
CatalogueRefused catalogue r = (fault : TextFault) × CatalogueRefuses catalogue fault × (r ≡ Text fault)

-- "and back": the old form of the register, its objections grouped by target in listed order
abbrev pub CatalogueText : (catalogue : List ℕ) → List ℕ → Answer → List ℕ → Type 0
CatalogueText catalogue room =
    OnInput (CatalogueAccepts catalogue) (CatalogueRefused catalogue) (λ R. Short (length room < length (written R)))
    (λ R. Written (written R) room) room
