-- Nothing is lost on the way from the old form to the catalogue or back: what one accepts the other does, with the same
-- statements and objections, from the catalogue with the same bytes, and from the old form with the same bytes exactly if its
-- objections were grouped. What grouping keeps `Regrouped` says, how long the forms are `Sizes`, and what book they make
-- `SameBook`.
use mathlib.Core.List.{List}
use mathlib.Core.Logic.{◌↔◌}
use mathlib.Core.Path.{refl, ap, sym, ◌≡◌, ◌∙◌}
use Prim.Native.Nat.{ℕ, ◌≤◌}
use native.Mathlib.Omega.{arith}
use lib.ListN.{length}
use Rattle.register.specs.Register.{Register, Valid, written}
use Rattle.register.specs.Reads.{Accepts}
use Rattle.register.proofs.Unique.{accepts_once}
use Rattle.catalogue.specs.Cards.{cards_bytes}
use Rattle.catalogue.specs.Regrouped.{cards, catalogued, grouped, Grouped}
use Rattle.catalogue.specs.CatalogueReads.{CatalogueAccepts}
use Rattle.catalogue.proofs.Regrouped.{cards_back, cards_grouped, cards_sound, grouped_valid, grouped_exactly}
use Rattle.catalogue.proofs.Sizes.{never_longer, grouped_length}

-- A register and its grouped one have the same catalogue, which is accepted exactly if their old forms fit.
pub catalogued_grouped : (R : Register) → Valid R → catalogued (grouped R) ≡ catalogued R
catalogued_grouped R v = ap cards_bytes (cards_back (cards R) (cards_sound R v).listed)

pub accepted_grouped : (s : List ℕ) (R : Register) → Valid R → s ≡ catalogued R → length (written R) ≤ 65535
    → CatalogueAccepts s (grouped R)
accepted_grouped s R v e f = record {
  catalogue = record {
    valid = grouped_valid R v;
    is_grouped = cards_grouped (cards R) (cards_sound R v).listed;
    is_catalogued = e ∙ sym (catalogued_grouped R v);
  };
  fits = omega (arith, grouped_length R v);
}

pub accepted_exactly : (s : List ℕ) → ((R : Register) × CatalogueAccepts s R) ↔
    ((R : Register) × Valid R × (s ≡ catalogued R) × (length (written R) ≤ 65535))
accepted_exactly s = (
  λ (R, a). (R, a.catalogue.valid, a.catalogue.is_catalogued, a.fits),
  λ (R, v, e, f). (grouped R, accepted_grouped s R v e f),
)

-- Each form of an accepted one is accepted, and fits where texts do.
pub catalogue_accepted_lem : (s : List ℕ) (R : Register) → Accepts s R → CatalogueAccepts (catalogued R) (grouped R)
catalogue_accepted_lem s R a =
    accepted_grouped (catalogued R) R a.valid refl (omega (arith, a.fits, ap length a.is_written))

pub old_form_accepted : (s : List ℕ) (R : Register) → CatalogueAccepts s R → Accepts (written R) R
old_form_accepted s R a = record { fits = a.fits; valid = a.catalogue.valid; is_written = refl }

pub catalogue_fits : (s : List ℕ) (R : Register) → CatalogueAccepts s R → length s ≤ 65535
catalogue_fits s R a =
    omega (arith, a.fits, ap length a.catalogue.is_catalogued, never_longer R a.catalogue.valid)

-- "New to old to new gives the same bytes. Old to new to old keeps [..] the bytes exactly if objections were already so grouped."
pub new_old_new : (s : List ℕ) (R Q : Register) → CatalogueAccepts s R → Accepts (written R) Q → catalogued Q ≡ s
new_old_new s R Q a b =
    ap catalogued (accepts_once (written R) Q R b (old_form_accepted s R a)) ∙ sym a.catalogue.is_catalogued

pub same_bytes_exactly : (s : List ℕ) (R : Register) → Accepts s R → (written (grouped R) ≡ s) ↔ Grouped R
same_bytes_exactly s R a = (
  λ e. (grouped_exactly R a.valid).0 (accepts_once s (grouped R) R
      (record { fits = a.fits; valid = grouped_valid R a.valid; is_written = sym e }) a),
  λ g. ap written ((grouped_exactly R a.valid).1 g) ∙ sym a.is_written,
)

-- so the catalogue of an accepted text is no longer than a text may be
pub catalogue_short : (s : List ℕ) (R : Register) → Accepts s R → length (catalogued R) ≤ 65535
catalogue_short s R a = catalogue_fits (catalogued R) (grouped R) (catalogue_accepted_lem s R a)
