-- What an update is worth: it leaves what a fresh sheet would be, whatever register the old one came from; bytes without a
-- changed label stay as found; and what either call leaves, the next update accepts.
use mathlib.Core.List.{List, ◌++◌}
use mathlib.Core.Path.{ap, sym, refl, subst, ◌≡◌, ◌∙◌}
use Prim.Native.Nat.{ℕ, ◌/◌, ◌≤◌, ◌<◌}
use native.Mathlib.Decide.{dec_lt}
use native.Mathlib.Omega.{arith}
use lib.ListN.{take, drop, length, get_or}
use lib.Seq.{take-append_seam}
use Rattle.game.specs.Book.{Book, Listed, book_of}
use Rattle.register.specs.Register.{Register, book}
use Rattle.register.specs.Reads.{Accepts}
use Rattle.register.proofs.Order.{marks_counted}
use Rattle.std.specs.Prelude.{Ok}
use Rattle.sheet.specs.Sheet.{code_at, IsSheet, codes, total}
use Rattle.sheet.proofs.Codes.{byte_by_codes}
use Rattle.sheet.proofs.Sheets.{sheet_sound, sheet_once}
use Rattle.promises.specs.SheetCalls.{SheetIn, UpdatedIn, OldSheet, TextSheetUpdate, TextSheet}
use Rattle.answer.proofs.Rooms.{whole_room}
use Rattle.promises.proofs.UniqueSheet.{sheet_in_once}
use Rattle.register.proofs.Unique as text

module _ (B : Book) (rooms : List ℕ × List ℕ) (n : ℕ) (after : List ℕ × List ℕ) where
  -- the sheet that the room begins with
  part : (g : SheetIn B rooms n after) → take n after.0 ≡ g.0
  part (l, is, (e, h, w), t) =
      ap (λ (r : List ℕ). take n r) w ∙ ap (λ (k : ℕ). take k (l ++ drop (length l) rooms.0)) e ∙ take-append_seam l _

  -- of an update it is all of the room
  all_of : (g : UpdatedIn B rooms n after) → after.0 ≡ g.1.0
  all_of (old, (l, is, (e, h, w), t)) = w ∙ whole_room l rooms.0 (is.size ∙ sym old.size)

  -- what a call leaves is an old sheet for every register of as many statements
  pub next_accepts : SheetIn B rooms n after → (B' : Book) → B'.size ≡ B.size → OldSheet B' (take n after.0, after.1)
  next_accepts g B' e =
      rw (e, part g) (sheet_sound B g.0 after.1 g.1 (λ c h. g.3.each c h))

  module _ (u : UpdatedIn B rooms n after) where
    same_byte : ((k : ℕ) → get_or rooms.0 k 0 < 256) → (k : ℕ)
        → ((x : ℕ) → x / 4 ≡ k → Listed B x → code_at after.0 x ≡ code_at rooms.0 x)
        → get_or after.0 k 0 ≡ get_or rooms.0 k 0
    same_byte bytes k same =
        byte_by_codes after.0 rooms.0 k (rw (all_of u) (u.1.1.bytes k)) (bytes k) (λ x e. at x e (dec_lt x B.size))
      where
        at : (x : ℕ) → x / 4 ≡ k → Dec (x < B.size) → code_at after.0 x ≡ code_at rooms.0 x
        at x e (yes h) = same x e h
        at x e (no h) =
            ap (λ (l : List ℕ). code_at l x) (all_of u) ∙ u.1.1.spare x (omega arith) ∙ sym (u.0.spare x (omega arith))

    -- the sheet of the book itself is left as found
    same_rooms : IsSheet B rooms.0 → after ≡ rooms
    same_rooms is = (sheet_in_once B rooms n (length rooms.0) after rooms u.1 found).1
      where
        found : SheetIn B rooms (length rooms.0) rooms
        found = (
          rooms.0,
          is,
          (refl, omega arith, sym (whole_room rooms.0 rooms.0 refl)),
          record {
            fits = u.1.3.fits;
            same = refl;
            each = λ c h. u.0.own c h (omega (arith, u.1.3.fits));
            rest = λ c h. refl;
          },
        )

-- no sheet has more than 256 bytes
pub sheet_small : (s : List ℕ) (R : Register) (l : List ℕ) → Accepts s R → IsSheet (book R) l → length l ≤ 256
unfolding book_of
sheet_small s R l t is = omega (arith, is.size, marks_counted R t.valid, t.valid.few_statements)

-- The register of the text is one, so what a call promises of some register it promises of this one.
module _ (s : List ℕ) (R : Register) (t : Accepts s R) (old : List ℕ × List ℕ) (n : ℕ) (after : List ℕ × List ℕ)
    (p : TextSheetUpdate s old (Ok n) after) where
  updates : UpdatedIn (book R) old n after
  updates = subst (λ T. UpdatedIn (book T) old n after) (text.accepts_once s p.0 R p.1 t) p.2

  -- an updated sheet equals a fresh one, and so do its totals
  pub updated_fresh : (rooms : List ℕ × List ℕ) (m : ℕ) (fresh : List ℕ × List ℕ) → TextSheet s rooms (Ok m) fresh
      → (n ≡ m) × (after.0 ≡ take m fresh.0) × ((c : ℕ) → c < codes → get_or after.1 c 0 ≡ get_or fresh.1 c 0)
  updated_fresh rooms m fresh q =
      let g = subst (λ T. SheetIn (book T) rooms m fresh) (text.accepts_once s q.0 R q.1 t) q.2 in
      let e : updates.1.0 ≡ g.0 = sheet_once (book R) updates.1.0 g.0 updates.1.1 g.1 in (
        updates.1.2.0 ∙ ap length e ∙ sym g.2.0,
        all_of (book R) old n after updates ∙ e ∙ sym (part (book R) rooms m fresh g),
        λ c h. updates.1.3.each c h ∙ ap (λ (l : List ℕ). total l (book R).size c) e ∙ sym (g.3.each c h),
      )

  -- a byte whose statements have the same labels in the old and the new sheet stays as found
  pub unchanged_byte : ((k : ℕ) → get_or old.0 k 0 < 256) → (k : ℕ)
      → ((x : ℕ) → x / 4 ≡ k → Listed (book R) x → code_at after.0 x ≡ code_at old.0 x)
      → get_or after.0 k 0 ≡ get_or old.0 k 0
  unchanged_byte = same_byte (book R) old n after updates

  -- where the old sheet is the register's own, everything does
  pub unchanged_rooms : IsSheet (book R) old.0 → after ≡ old
  unchanged_rooms = same_rooms (book R) old n after updates
