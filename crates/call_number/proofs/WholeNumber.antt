-- From a number read or written at a place to the two calls: what is written is the number read at its start, if that ends where
-- it ends, and else it is none; and what was put at the start of a room is written there.
use mathlib.Core.List.{List, append-nil, [], ◌++◌}
use mathlib.Core.Logic.{inl, inr}
use mathlib.Core.Path.{refl, ap, sym, ◌≡◌, ◌∙◌}
use Prim.Native.Nat.{ℕ, ◌≤◌, ◌<◌}
use native.Mathlib.Omega.{arith}
use lib.ListN.{length, drop, length-append, length-drop}
use lib.Seq.{drop-length}
use Rattle.register.specs.Number.{IsNumber, number_bytes}
use Rattle.register.specs.declared.TextFault.TheVariants.{Spoiled}
use Rattle.register_number.specs.NumberReading.{NumberAt}
use Rattle.room_write.specs.Writing.{Put}
use Rattle.room_write.proofs.Writing.{put_start}
use Rattle.answer.specs.declared.Refusal.TheVariants.{Text, Room}
use Rattle.std.specs.Prelude.{Some, None, Ok, Err}
use Rattle.promises.specs.NumberCalls.{NumberCode, NumberText}

module _ (written : List ℕ) where
  -- what is a number is that number, with nothing behind it
  alone : (n : ℕ) → written ≡ number_bytes n → written ≡ number_bytes n ++ []
  alone n e = e ∙ sym (append-nil (number_bytes n))

  pub not_read : NumberAt written 0 None → NumberCode written (Err (Text (Spoiled 0)))
  not_read none = (inl ((λ n (h, e). none n [] h tt (alone n e)), refl), refl)

  module _ (v end : ℕ) (read : NumberAt written 0 (Some (v, end))) where
    -- something stands behind the number
    pub more_behind : (end ≡ length written → ⊥) → NumberCode written (Err (Text (Spoiled 0)))
    more_behind other = (
      inl (
        (λ n (h, e). let q : n ≡ v = read.4 n [] h tt (alone n e) in other (omega (
          arith,
          read.2,
          ap length read.3,
          length-append (number_bytes v) (drop end written),
          length-drop end written,
          ap length (e ∙ ap number_bytes q),
        ))),
        refl,
      ),
      refl,
    )

    pub all_read : end ≡ length written → NumberCode written (Ok v)
    all_read e =
        let rest : drop end written ≡ [] = rw e (drop-length written) in
        (v, (read.0, read.3 ∙ ap (λ u. number_bytes v ++ u) rest ∙ append-nil (number_bytes v)), refl)

module _ (number : ℕ) (room : List ℕ) where
  pub nobodys : ¬ IsNumber number → NumberText number room (Err (Text (Spoiled 0))) room
  nobodys none = (inl (none, refl), refl)

  pub too_short : IsNumber number → length room < length (number_bytes number) → NumberText number room (Err Room) room
  too_short h l = (inr (number_bytes number, (h, refl), (l, refl)), refl)

  pub put_whole : IsNumber number → (n end : ℕ) (after : List ℕ) → n ≡ length (number_bytes number) → n ≤ length room
      → Put room 0 (number_bytes number) end after → NumberText number room (Ok n) after
  put_whole h n end after e f put =
      let (ends, is) = put_start room (number_bytes number) put in
      (number_bytes number, (h, refl), (e, omega (arith, e, f), is))
