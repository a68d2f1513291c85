-- What each program prints for its input is one thing only: `printed_once`, `catalogue_printed_once`, `old_form_printed_once`,
-- `reason_printed_once`, `outcome_once`; and whatever the input, there is something to print: `..-there` for each.
use mathlib.Core.List.{List}
use mathlib.Core.Logic.{inl, inr, ◌⊎◌}
use mathlib.Core.Path.{subst, ap, refl, sym, ◌≡◌, ◌∙◌}
use Prim.Native.Nat.{ℕ, ◌≤◌, ◌<◌}
use native.Mathlib.Decide.{dec_le}
use native.Mathlib.Omega.{arith}
use lib.ListN.{length, get_or}
use Rattle.answer.specs.Refusals.{refusal_number, refusal_place}
use Rattle.answer.specs.declared.Refusal.{Refusal}
use Rattle.promises.specs.OnText.{TextRefused}
use Rattle.promises.specs.NumberCalls.{Names}
use Rattle.promises.proofs.OnNumber.{names_once, names?}
use Rattle.register.specs.Register.{Register, Places, numbers, written}
use Rattle.register.specs.Reads.{Accepts, Refuses}
use Rattle.register.specs.declared.TextFault.{TextFault}
use Rattle.register.specs.declared.TextFault.TheVariants.{TooLong}
use Rattle.listing.specs.Rows.{refused_row}
use Rattle.listing.specs.Listing.{IsListing}
use Rattle.listing.proofs.Listing.{listing_once, listing_there}
use Rattle.promises.specs.Programs.{Prints, ReasonNamed, NoneNamed, PrintsRefusal, PrintsReason, Outcome, Mends}
use Rattle.promises.specs.Programs.{no_report, with_report, PrintsFault, PrintsCatalogue, PrintsOldForm}
use Rattle.catalogue.specs.Regrouped.{catalogued}
use Rattle.catalogue.specs.CatalogueReads.{CatalogueAccepts, CatalogueRefuses}
use Rattle.catalogue.proofs.CatalogueUnique.{catalogue_accepts_once, catalogue_not_both, catalogue_refuses_once}
use Rattle.catalogue.proofs.CatalogueSettled.{catalogue_settled}
use Rattle.answer.specs.declared.Refusal.TheVariants.{Asked, Text}
use Rattle.register.proofs.Order.{place_once, numbers_counted}
use Rattle.register.proofs.Settled.{Settles, below?, settled}
use Rattle.reason.specs.Reasons.{IsReason}
use Rattle.reason.proofs.Reasons.{reason_once, reason_there}
use Rattle.mend.specs.Mended.{mended, fates}
use Rattle.mend.proofs.TextLines.{lines_once, lines_exist}
use Rattle.mend.specs.Report.{report_of}
use Rattle.register.proofs.Unique as text

-- A refusal has one line; and that of an input's own refusal is that of its fault.
fault_line_once : {faults : TextFault → Type 0} → ((f g : TextFault) → faults f → faults g → f ≡ g) → (a b : List ℕ)
    → (f : TextFault) × faults f × PrintsRefusal (Text f) a → (f : TextFault) × faults f × PrintsRefusal (Text f) b → a ≡ b
fault_line_once once a b (r, p, e) (t, q, f) =
    e ∙ ap (λ u. refused_row (refusal_number (Text u)) (refusal_place (Text u))) (once r t p q) ∙ sym f

fault_printed_once : (s a b : List ℕ) → PrintsFault s a → PrintsFault s b → a ≡ b
fault_printed_once s = fault_line_once (text.refuses_once s)

pub fault_told : {faults : TextFault → Type 0} (printed : List ℕ) (r : Refusal)
    → (f : TextFault) × faults f × (r ≡ Text f) → PrintsRefusal r printed
    → (f : TextFault) × faults f × PrintsRefusal (Text f) printed
fault_told printed r (f, p, is) e = (f, p, subst (λ u. PrintsRefusal u printed) is e)

-- the line of a text's refusal is that of its fault
pub fault_printed : (s printed : List ℕ) (r : Refusal) → TextRefused s r → PrintsRefusal r printed → PrintsFault s printed
fault_printed s printed r (f, p, is) e = (f, p, subst (λ u. PrintsRefusal u printed) is e)

-- Where an input is accepted as one register or has one fault, never both, what is printed of the register is one thing, or the
-- line of the fault is; and one of them is there.
module _ (accepts : Register → Type 0) (faults : TextFault → Type 0) (is : Register → List ℕ → Type 0) where
  abbrev Printed : List ℕ → Type 0
  Printed printed =
      ((R : Register) × accepts R × is R printed) ⊎ ((f : TextFault) × faults f × PrintsRefusal (Text f) printed)

  either_once : ((R Q : Register) → accepts R → accepts Q → R ≡ Q) → ((R : Register) (f : TextFault) → accepts R → faults f → ⊥)
      → ((f g : TextFault) → faults f → faults g → f ≡ g) → ((R : Register) (a b : List ℕ) → is R a → is R b → a ≡ b)
      → (a b : List ℕ) → Printed a → Printed b → a ≡ b
  either_once one apart once same a b (inl (R, p, e)) (inl (Q, q, f)) = same R a b e (subst (λ T. is T b) (one Q R q p) f)
  either_once one apart once same a b (inl (R, p, e)) (inr (r, q, f)) = absurd (apart R r p q)
  either_once one apart once same a b (inr (r, p, e)) (inl (R, q, f)) = absurd (apart R r q p)
  either_once one apart once same a b (inr p) (inr q) = fault_line_once once a b p q

  either_there : ((R : Register) × accepts R) ⊎ ((f : TextFault) × faults f)
      → ((R : Register) → accepts R → (l : List ℕ) × is R l) → (printed : List ℕ) × Printed printed
  either_there (inl (R, p)) there = let (l, e) = there R p in (l, inl (R, p, e))
  either_there (inr (f, p)) there = (refused_row (refusal_number (Text f)) (refusal_place (Text f)), inr (f, p, refl))

pub printed_once : (s a b : List ℕ) → Prints s a → Prints s b → a ≡ b
printed_once s =
    either_once (Accepts s) (Refuses s) IsListing (text.accepts_once s) (text.not_both s) (text.refuses_once s) listing_once

pub catalogue_printed_once : (s a b : List ℕ) → PrintsCatalogue s a → PrintsCatalogue s b → a ≡ b
catalogue_printed_once s =
    either_once (Accepts s) (Refuses s) (λ R l. l ≡ catalogued R) (text.accepts_once s) (text.not_both s) (text.refuses_once s)
    (λ R a b e f. e ∙ sym f)

pub old_form_printed_once : (s a b : List ℕ) → PrintsOldForm s a → PrintsOldForm s b → a ≡ b
old_form_printed_once s =
    either_once (CatalogueAccepts s) (CatalogueRefuses s) (λ R l. l ≡ written R) (catalogue_accepts_once s)
    (catalogue_not_both s) (catalogue_refuses_once s)
    (λ R a b e f. e ∙ sym f)

module _ (s argument a b : List ℕ) where
  one_reason : (R : Register) → Accepts s R → ReasonNamed R argument a → ReasonNamed R argument b → a ≡ b
  one_reason R t (n, x, p, h, is) (m, y, q, k, isn) =
      let e : y ≡ x = place_once R t.valid n y x (subst (λ i. Places R i y) (names_once argument m n q p) k) h in
      reason_once R x a b is (subst (λ i. IsReason R i b) e isn)

  one_accepted : (R : Register) → Accepts s R → ReasonNamed R argument a ⊎ (NoneNamed R argument × PrintsRefusal Asked a)
      → ReasonNamed R argument b ⊎ (NoneNamed R argument × PrintsRefusal Asked b) → a ≡ b
  one_accepted R t (inl p) (inl q) = one_reason R t p q
  one_accepted R t (inl (n, x, p, h, is)) (inr (none, e)) = absurd (none n p (x, h.0, h.1))
  one_accepted R t (inr (none, e)) (inl (n, x, p, h, is)) = absurd (none n p (x, h.0, h.1))
  one_accepted R t (inr (none, e)) (inr (same, f)) = e ∙ sym f

  pub reason_printed_once : PrintsReason s argument a → PrintsReason s argument b → a ≡ b
  reason_printed_once (inl p) (inl q) = fault_printed_once s a b p q
  reason_printed_once (inl (r, p, e)) (inr (R, q, g)) = absurd (text.not_both s R r q p)
  reason_printed_once (inr (R, p, g)) (inl (r, q, e)) = absurd (text.not_both s R r p q)
  reason_printed_once (inr (R, p, g)) (inr (Q, q, k)) =
      one_accepted R p g (subst (λ T. ReasonNamed T argument b ⊎ (NoneNamed T argument × PrintsRefusal Asked b))
      (text.accepts_once s Q R q p) k)

pub outcome_once : (s : List ℕ) (a b : Outcome) → Mends s a → Mends s b → a ≡ b
outcome_once s (no_report a) (no_report b) (over, e) (over', f) = ap no_report (e ∙ sym f)
outcome_once s (no_report a) (with_report b q) (over, e) (h, m) = absurd (omega (arith, over, h))
outcome_once s (with_report a p) (no_report b) (h, m) (over, e) = absurd (omega (arith, over, h))
outcome_once s (with_report a p) (with_report b q) (h, (ls, is, e, f)) (h', (ls', is', e', f')) =
    let one : ls ≡ ls' = lines_once s ls ls' is is' in
    ap (λ u. with_report u p) (e ∙ ap (λ l. written (mended l)) one ∙ sym e')
    ∙ ap (with_report b) (f ∙ ap (λ l. report_of (fates l)) one ∙ sym f')

-- there is a line for every fault
fault_there : (s : List ℕ) (r : TextFault) → Refuses s r → (printed : List ℕ) × PrintsFault s printed
fault_there s r p = (refused_row (refusal_number (Text r)) (refusal_place (Text r)), (r, p, refl))

pub printed_there : (s : List ℕ) → (printed : List ℕ) × Prints s printed
printed_there s = either_there (Accepts s) (Refuses s) IsListing (settled s) (λ R a. listing_there R a.valid)

pub catalogue_printed_there : (s : List ℕ) → (printed : List ℕ) × PrintsCatalogue s printed
catalogue_printed_there s =
    either_there (Accepts s) (Refuses s) (λ R l. l ≡ catalogued R) (settled s) (λ R a. (catalogued R, refl))

pub old_form_printed_there : (s : List ℕ) → (printed : List ℕ) × PrintsOldForm s printed
old_form_printed_there s =
    either_there (CatalogueAccepts s) (CatalogueRefuses s) (λ R l. l ≡ written R) (catalogue_settled s)
    (λ R a. (written R, refl))

pub reason_printed_there : (s argument : List ℕ) → (printed : List ℕ) × PrintsReason s argument printed
reason_printed_there s argument = go (settled s)
  where
    of : (R : Register) → Accepts s R
        → Settles ((x : ℕ) × (x < length (numbers R)) × Names argument (get_or (numbers R) x 0))
        → (printed : List ℕ) × (ReasonNamed R argument printed ⊎ (NoneNamed R argument × PrintsRefusal Asked printed))
    of R a (inl (x, h, n)) =
        let (l, is) = reason_there R x a.valid (omega (arith, numbers_counted R)) in
        (l, inl (get_or (numbers R) x 0, x, n, (h, refl), is))
    of R a (inr none) = (
      refused_row (refusal_number Asked) (refusal_place Asked),
      inr ((λ number n (x, h, e). none (x, h, subst (Names argument) (sym e) n)), refl),
    )

    go : ((R : Register) × Accepts s R) ⊎ ((r : TextFault) × Refuses s r) → (printed : List ℕ) × PrintsReason s argument printed
    go (inl (R, a)) =
        let (l, is) = of R a (below? (length (numbers R)) (λ x. Names argument (get_or (numbers R) x 0))
        (λ x. names? argument (get_or (numbers R) x 0))) in
        (l, inr (R, a, is))
    go (inr (r, p)) = let (l, is) = fault_there s r p in (l, inl is)

pub outcome_there : (s : List ℕ) → (outcome : Outcome) × Mends s outcome
outcome_there s = go (dec_le (length s) 65535)
  where
    go : Dec (length s ≤ 65535) → (outcome : Outcome) × Mends s outcome
    go (yes h) =
        let (ls, is) = lines_exist s in
        (with_report (written (mended ls)) (report_of (fates ls)), (h, (ls, is, refl, refl)))
    go (no h) = (no_report (refused_row (refusal_number (Text TooLong)) (refusal_place (Text TooLong))), (omega arith, refl))
