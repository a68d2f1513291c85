-- What C's two numbers tell: an accepted answer and a refusal are told apart by the first, since no refusal has the number 0.
use mathlib.Core.Path.{ap, subst, sym, ◌≡◌}
use Prim.Native.Nat.{◌<◌}
use native.Mathlib.Omega.{arith}
use Rattle.register.specs.TextFaults.{text_fault_number}
use Rattle.register.specs.declared.TextFault.{TextFault}
use Rattle.register.specs.declared.TextFault.TheVariants as text
use Rattle.lists.specs.ListsFaults.{lists_fault_number}
use Rattle.lists.specs.declared.ListsFault.{ListsFault}
use Rattle.lists.specs.declared.ListsFault.TheVariants as lists
use Rattle.answer.specs.Refusals.{refusal_number, refusal_place}
use Rattle.answer.specs.declared.Refusal.{Refusal}
use Rattle.answer.specs.declared.Refusal.TheVariants.{Text, Lists, Room, Asked, Turns, Sheet}
use Rattle.answer.specs.Answer.{Answer}
use Rattle.std.specs.Prelude.{Ok, Err}
use Rattle.answer.specs.declared.CAnswer.{CAnswer}
use Rattle.answer.specs.InC.{InC}

text_above : (fault : TextFault) → 0 < text_fault_number fault
text_above text.TooLong = omega arith
text_above text.Unended = omega arith
text_above (text.Spoiled line) = omega arith
text_above (text.Late line) = omega arith
text_above (text.Issued line) = omega arith
text_above (text.Statements line) = omega arith
text_above (text.Unknown line) = omega arith
text_above (text.Repeated line) = omega arith
text_above (text.Objections line) = omega arith

lists_above : (fault : ListsFault) → 0 < lists_fault_number fault
lists_above lists.Unequal = omega arith
lists_above lists.Statements = omega arith
lists_above lists.Objections = omega arith
lists_above (lists.Mark entry) = omega arith
lists_above (lists.Place entry) = omega arith
lists_above (lists.Repeated entry) = omega arith

-- every refusal has a number above 0
pub refusal_above : (r : Refusal) → 0 < refusal_number r
refusal_above (Text fault) = text_above fault
refusal_above (Lists fault) = lists_above fault
refusal_above Room = omega arith
refusal_above Asked = omega arith
refusal_above Turns = omega arith
refusal_above Sheet = omega arith

module _ (P : Answer → Type 0) (c : CAnswer) where
  -- refusal 0: what is promised of the answer given is promised of `value`
  pub in_c_given : InC P c → c.refusal ≡ 0 → P (Ok c.value)
  in_c_given (Ok n, p, e) z = subst (λ k. P (Ok k)) (sym (ap (λ (d : CAnswer). d.value) e)) p
  in_c_given (Err r, p, e) z = absurd (omega (arith, refusal_above r, z, ap (λ (d : CAnswer). d.refusal) e))

  -- any other: it is the number of a refusal that is promised, and `value` is its place
  pub in_c_refused : InC P c → (c.refusal ≡ 0 → ⊥) → (r : Refusal) × P (Err r) × (c.refusal ≡ refusal_number r)
      × (c.value ≡ refusal_place r)
  in_c_refused (Ok n, p, e) z = absurd (z (ap (λ (d : CAnswer). d.refusal) e))
  in_c_refused (Err r, p, e) z = (r, p, ap (λ (d : CAnswer). d.refusal) e, ap (λ (d : CAnswer). d.value) e)
