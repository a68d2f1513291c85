-- What the form of a code says of it: whether it is a number's, and how its bytes are put together.
use mathlib.Core.List.{List, append_assoc, [], ◌∷◌, ◌++◌}
use mathlib.Core.Path.{ap, subst, sym, ◌≡◌, ◌∙◌}
use Prim.Native.Nat.{ℕ, ◌+◌, ◌≤◌, ◌<◌}
use native.Mathlib.Omega.{arith}
use lib.ListN.{length, length-append}
use Rattle.register.specs.Texts.{decimal}
use Rattle.register.specs.Number.{Proper, form_bytes, form_of, IsNumber, number_bytes}
use Rattle.register.specs.declared.Form.{Form}
use Rattle.register.specs.declared.Form.TheVariants.{Plain, Year}
use Rattle.register.specs.declared.YearSerial.{YearSerial}
use Rattle.room_write.specs.Writing.{RoomFor, Put}
use Rattle.room_write.proofs.Writing.{put_behind, fits_before}
use Rattle.register.proofs.Number.{proper_number, number_proper, Limited, form_limited}

module _ (n : ℕ) (form : Form) (is : form ≡ form_of n) where
  pub plain_bytes : (value : ℕ) → form ≡ Plain value → number_bytes n ≡ decimal value
  unfolding number_bytes
  plain_bytes value e = ap form_bytes (sym is ∙ e)

  pub year_bytes : (dated : YearSerial) → form ≡ Year dated
      → number_bytes n ≡ decimal dated.year ++ (46 ∷ decimal dated.serial)
  unfolding number_bytes
  year_bytes dated e = ap form_bytes (sym is ∙ e)

  -- the parts of a year number put one behind the other; each has room where all have
  module _ (dated : YearSerial) (e : form ≡ Year dated) (room : List ℕ) (at : ℕ) (fits : RoomFor room at (number_bytes n)) where
    parts : ((decimal dated.year ++ (46 ∷ [])) ++ decimal dated.serial) ≡ number_bytes n
    parts = append_assoc (decimal dated.year) (46 ∷ []) (decimal dated.serial) ∙ sym (year_bytes dated e)

    pub year_room : at + (length (decimal dated.year) + 1 + length (decimal dated.serial)) ≤ length room
    year_room =
        omega (arith, fits, ap length (year_bytes dated e), length-append (decimal dated.year) (46 ∷ decimal dated.serial))

    pub year_put : {e₁ e₂ e₃ : ℕ} {r₁ r₂ r₃ : List ℕ} → Put room at (decimal dated.year) e₁ r₁ → Put r₁ e₁ (46 ∷ []) e₂ r₂
        → Put r₂ e₂ (decimal dated.serial) e₃ r₃ → Put room at (number_bytes n) e₃ r₃
    year_put a b c =
        let all : RoomFor room at ((decimal dated.year ++ (46 ∷ [])) ++ decimal dated.serial) = rw parts fits in
        rw parts at (put_behind room at (decimal dated.year ++ (46 ∷ [])) (decimal dated.serial) all
        (put_behind room at (decimal dated.year) (46 ∷ []) (fits_before room at (decimal dated.year ++ (46 ∷ []))
        (decimal dated.serial) all) a b) c)

  pub plain_number : (value : ℕ) → form ≡ Plain value → 0 < value → IsNumber n
  plain_number value e h =
      proper_number n (subst Proper (sym e ∙ is) (h, subst Limited (sym is ∙ e) (form_limited n)))

  pub plain_nobody : (value : ℕ) → form ≡ Plain value → value ≡ 0 → ¬ IsNumber n
  plain_nobody value e h k = let p : Proper (Plain value) = subst Proper (sym is ∙ e) (number_proper n k) in omega (arith, p)

  pub year_number : (dated : YearSerial) → form ≡ Year dated → 1000 ≤ dated.year → dated.year ≤ 2099 → 0 < dated.serial
      → IsNumber n
  year_number dated e a b c =
      proper_number n (subst Proper (sym e ∙ is) (a, b, c, subst Limited (sym is ∙ e) (form_limited n)))

  pub year_nobody : (dated : YearSerial) → form ≡ Year dated → (Proper (Year dated) → ⊥) → ¬ IsNumber n
  year_nobody dated e h k = h (subst Proper (sym is ∙ e) (number_proper n k))
