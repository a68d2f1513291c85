-- From what reading leaves in rooms, and from what the writers promise of lists, to what is promised of a form.
use mathlib.Core.Bool.{Bool, false, true}
use mathlib.Core.List.{List, ◌++◌}
use mathlib.Core.Path.{ap, refl, ◌≡◌, ◌∙◌}
use Prim.Native.Nat.{ℕ, ◌≤◌, ◌<◌}
use native.Mathlib.Omega.{arith}
use lib.ListN.{length, drop}
use Rattle.register.specs.Register.{Register, written}
use Rattle.register_read.specs.ReadState.{Made}
use Rattle.register_write.specs.Copied.{copied}
use Rattle.register_write.proofs.Copied.{copied_written, made_size}
use Rattle.answer.specs.declared.Refusal.TheVariants.{Room}
use Rattle.std.specs.Prelude.{Ok, Err}
use Rattle.call_catalogue.specs.FormRoom.{FormFits, FormWritten}

-- whether there is room is told by the form's own size
pub form_decided : (form : List ℕ) (room : ℕ) (b : Bool) → (b ≡ true → length form ≤ room) → (b ≡ false → room < length form)
    → FormFits form room b
form_decided form room true fits short = fits refl
form_decided form room false fits short = short refl

-- where the form is too long for the room, and where it was written
pub too_long : (form room : List ℕ) → length room < length form → FormWritten form room (Err Room) room
too_long form room short = ((short, refl), refl)

pub well_written : (form room : List ℕ) → length form ≤ length room → (size : ℕ) (after : List ℕ) → size ≡ length form
    → after ≡ form ++ drop (length form) room → FormWritten form room (Ok size) after
well_written form room fits size after counts e = (counts, fits, e)

-- the text that is copied of a register's lists is its old form
pub old_form_written : (R : Register) (nums marks objectors targets : List ℕ) → Made R nums marks objectors targets → (size : ℕ)
    → ((marks : List ℕ) → size ≡ length (copied nums marks objectors targets)) → (room : List ℕ) → size ≤ length room
    → (after : List ℕ)
    → after ≡ copied nums marks objectors targets ++ drop (length (copied nums marks objectors targets)) room
    → FormWritten (written R) room (Ok size) after
old_form_written R nums marks objectors targets made size is room h after e =
    let size_is = made_size R nums marks objectors targets made size is in
    well_written (written R) room (omega (arith, h, size_is)) size after size_is
    (e ∙ ap (λ u. u ++ drop (length u) room) (copied_written R nums marks objectors targets made))
