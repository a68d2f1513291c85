-- From what the library promises of a reason to what the program prints.
use mathlib.Core.List.{List}
use mathlib.Core.Logic.{⊎_elim, inl, inr}
use mathlib.Core.Path.{subst, ap, ◌∙◌}
use Prim.Native.Nat.{ℕ, ◌≤◌, ◌<◌}
use native.Mathlib.Omega.{arith}
use lib.ListN.{get_or, length, take}
use Rattle.answer.specs.Refusals.{refusal_number, refusal_place}
use Rattle.answer.specs.declared.Refusal.{Refusal}
use Rattle.register.specs.Register.{Register, Places, Issued, numbers}
use Rattle.register.specs.Reads.{Accepts}
use Rattle.register.proofs.Number.{number_above}
use Rattle.listing.specs.Rows.{refused_row}
use Rattle.answer.specs.Answer.{Answer}
use Rattle.answer.specs.Answer.{RefusedOn, GivenOn}
use Rattle.program_reason.specs.AskedNumber.{NumberOf}
use Rattle.promises.specs.OnText.{TextRefused}
use Rattle.reason.specs.Reasons.{IsReason}
use Rattle.promises.specs.ReasonCalls.{ReasonRefused, TextReason, ReasonIn}
use Rattle.reason.proofs.Reasons.{reason_short}
use Rattle.program_stream.specs.PutAnswer.{PutOf}
use Rattle.program_stream.proofs.PutAnswer.{put_shown}
use Rattle.promises.specs.Programs.{NoneNamed, PrintsRefusal, PrintsReason}
use Rattle.promises.specs.NumberCalls.{Names}
use Rattle.promises.proofs.OnNumber.{names_once}
use Rattle.promises.proofs.Programs.{fault_printed}

module _ (s argument room : List ℕ) (long : 131072 ≤ length room) (number : ℕ) (asked : NumberOf argument number) where
  -- the number of a statement is not 0, so it is the argument's
  named : (R : Register) → Accepts s R → (x : ℕ) → Places R number x → Names argument number
  named R a x (h, e) =
      let above : 0 < get_or (numbers R) x 0 = number_above (get_or (numbers R) x 0) (a.valid.numbered x h) in
      ⊎_elim (λ p. p) (λ (z, none). absurd (omega (arith, z, e, above))) asked

  none_named : (R : Register) → ¬ Issued R number → NoneNamed R argument
  none_named R missing n p i =
      ⊎_elim (λ q. missing (subst (Issued R) (names_once argument n number p q) i)) (λ (z, none). none n p) asked

  -- a room of 131,072 bytes is never too short, and no turns are asked
  refused : (r : Refusal) (printed : List ℕ) → RefusedOn (Accepts s) (TextRefused s) (λ R. ReasonRefused R number room) r
      → PrintsRefusal r printed → PrintsReason s argument printed
  refused r printed (inl p) e = inl (fault_printed s printed r p e)
  refused r printed (inr (R, a, inl (missing, is))) e =
      inr (R, a, inr (none_named R missing, e ∙ ap (λ u. refused_row (refusal_number u) (refusal_place u)) is))
  refused r printed (inr (R, a, inr (inl (there, many, is)))) e = absurd (omega (arith, many))
  refused r printed (inr (R, a, inr (inr (there, few, ((x, h, (l, is, short)), q))))) e =
      absurd (omega (arith, long, short, reason_short R x s l a is))

  pub prints : (a : Answer) (after : List ℕ) (size : ℕ) (put : List ℕ) → TextReason s number room a after
      → PutOf a after size put → (size ≤ length put) × PrintsReason s argument (take size put)
  prints a after size put p w =
      let (fits, shown) = put_shown (RefusedOn (Accepts s) (TextRefused s) (λ R. ReasonRefused R number room))
      (GivenOn (Accepts s) (λ R. ReasonIn R number room))
      (λ l. (R : Register) × Accepts s R × ((x : ℕ) × Places R number x × IsReason R x l)) room
      (λ n after (R, a, (x, h, (l, is, w))). (l, (R, a, (x, h, is)), w)) a after size put p w in (
        fits,
        ⊎_elim (λ (R, a, (x, h, is)). inr (R, a, inl (number, x, named R a x h, h, is)))
            (λ (r, p, e). refused r (take size put) p e) shown,
      )
