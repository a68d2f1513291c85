-- What was promised of a call, and put, is what is printed: the answer, or the line of a refusal that is due.
use mathlib.Core.List.{List}
use mathlib.Core.Logic.{inl, inr, ◌⊎◌, ⊎_elim}
use mathlib.Core.Path.{ap, refl, subst, sym, ◌≡◌, ◌∙◌}
use Prim.Native.Nat.{ℕ, ◌≤◌, ◌<◌}
use native.Mathlib.Omega.{arith}
use lib.ListN.{length, take, length-append, drop}
use lib.Seq.{take-append_seam}
use Rattle.answer.specs.Refusals.{refusal_number, refusal_place}
use Rattle.answer.specs.declared.Refusal.{Refusal}
use Rattle.listing.specs.Rows.{refused_row}
use Rattle.answer.specs.Answer.{Written, Promised, OnInput, RefusedOn, GivenOn, Short}
use Rattle.answer.specs.Answer.{Answer}
use Rattle.std.specs.Prelude.{Ok, Err}
use Rattle.program_stream.specs.PutAnswer.{PutOf}

-- what a room begins with
pub begins : (l room : List ℕ) (n : ℕ) (after : List ℕ) → Written l room n after → (n ≤ length after) × (take n after ≡ l)
begins l room n after (c, h, e) = (
  omega (arith, c, ap length e, length-append l (drop (length l) room)),
  ap (λ k. take k after) c ∙ ap (take (length l)) e
      ∙ take-append_seam l (drop (length l) room),
)

-- what is printed is right, or is the line of a refusal that is due
abbrev pub Shown : (refuses : Refusal → Type 0) → (right : List ℕ → Type 0) → List ℕ → Type 0
Shown refuses right printed =
    right printed ⊎ ((r : Refusal) × refuses r × (printed ≡ refused_row (refusal_number r) (refusal_place r)))

module _ (refuses : Refusal → Type 0) (gives : ℕ → List ℕ → Type 0) (right : List ℕ → Type 0) (room : List ℕ)
    (given : (n : ℕ) (after : List ℕ) → gives n after → (l : List ℕ) × right l × Written l room n after) where
  pub put_shown : (a : Answer) (after : List ℕ) (size : ℕ) (put : List ℕ) → Promised refuses gives room a after
      → PutOf a after size put → (size ≤ length put) × Shown refuses right (take size put)
  put_shown (Ok n) after size put p (same, stays) =
      let (l, is, w) = given n after p in
      let (fits, starts) = begins l room size put (same ∙ w.0, w.1, stays ∙ w.2) in
      (fits, inl (subst right (sym starts) is))
  put_shown (Err r) after size put p w =
      let (fits, starts) = begins (refused_row (refusal_number r) (refusal_place r)) after size put w in
      (fits, inr (r, p.0, starts))

-- So it is of a call that writes one list for what its input makes, in a room in which each such list fits: 10 is never shown.
module _ {Made : Type 0} {accepts : Made → Type 0} {refuses : Refusal → Type 0} (told : Made → List ℕ) (room : List ℕ)
    (fits : (m : Made) → accepts m → length (told m) ≤ length room) where
  pub written_shown : (a : Answer) (after : List ℕ) (size : ℕ) (put : List ℕ)
      → OnInput accepts refuses (λ m. Short (length room < length (told m))) (λ m. Written (told m) room) room a after
      → PutOf a after size put
      → (size ≤ length put) × Shown refuses (λ l. (m : Made) × accepts m × (l ≡ told m)) (take size put)
  written_shown a after size put p w =
      let (inside, shown) = put_shown (RefusedOn accepts refuses (λ m. Short (length room < length (told m))))
      (GivenOn accepts (λ m. Written (told m) room)) (λ l. (m : Made) × accepts m × (l ≡ told m)) room
      (λ n after (m, t, v). (told m, (m, t, refl), v)) a after size put p w in
      (inside, ⊎_elim inl (λ (r, q, e). inr (r, own r q, e)) shown)
    where
      own : (r : Refusal) → RefusedOn accepts refuses (λ m. Short (length room < length (told m))) r → refuses r
      own r (inl q) = q
      own r (inr (m, t, (short, e))) = absurd (omega (arith, fits m t, short))
