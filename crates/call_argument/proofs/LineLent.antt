-- From the line of argument that is written into a room to what the calls promise: it is not long, its entries are places, and
-- told by numbers it is the line of the register.
use mathlib.Core.List.{List, map, ◌++◌}
use mathlib.Core.Path.{ap, ap₂, sym, subst, ◌≡◌, ◌∙◌}
use Prim.Native.Nat.{ℕ, ◌≤◌, ◌<◌}
use native.Mathlib.Omega.{arith}
use lib.ListN.{take, drop, length, get_or, length-map}
use Rattle.std.proofs.Math.Seq.{take-append_seam, drop-append_seam}
use Rattle.game.specs.Book.{book_of}
use Rattle.game.specs.Argument.{Argument}
use Rattle.game.proofs.Argument.{line_bound, line_listed}
use Rattle.lists.specs.PairsBook.{pairs_book}
use Rattle.argument_find.specs.ArgumentRoom.{ArgumentIn}
use Rattle.register.specs.Register.{Register, numbers, Places}
use Rattle.register_solve.specs.declared.labelled_register.LabelledRegister.{LabelledRegister}
use Rattle.register_solve.specs.SolvedAs.{ReadyAs}
use Rattle.register_solve.proofs.AskedPlace.{book_is}
use Rattle.promises.specs.ArgumentCalls.{by_number, TextArgumentIn}

module _ (marks objectors targets : List ℕ) (x n : ℕ) (room after : List ℕ)
    (a : ArgumentIn (book_of marks objectors targets) x room n after) where
  pub line_few : x < length marks → length marks ≤ 1024 → n ≤ 1024
  unfolding book_of
  line_few h few = omega (arith, a.counts, line_bound (book_of marks objectors targets) x a.line h a.is_line)

  module _ (fits : n ≤ length room) where
    written : after ≡ a.line ++ drop (length a.line) room
    written = a.fits (omega (arith, a.counts))

    -- the part of the room that the line takes is the line, and the rest is as found
    taken : take n after ≡ a.line
    taken = ap₂ (λ k (u : List ℕ). take k u) a.counts written ∙ take-append_seam a.line (drop (length a.line) room)

    rest : drop n after ≡ drop n room
    rest =
        ap₂ (λ k (u : List ℕ). drop k u) a.counts written ∙ drop-append_seam a.line (drop (length a.line) room)
        ∙ ap (λ k. drop k room) (sym a.counts)

    pub places_listed : x < length marks → (k : ℕ) → k < length (take n after) → get_or (take n after) k 0 < length marks
    unfolding book_of
    places_listed h k i = rw taken (line_listed (book_of marks objectors targets) h a.is_line k (rw taken at i))

-- the line told by numbers, in front of what was beyond it
module _ (r : LabelledRegister) (x n : ℕ) (room after : List ℕ) (a : ArgumentIn (pairs_book r.labelled.pairs) x room n after)
    (fits : n ≤ length room) (number : ℕ) where
  pub line_given : (R : Register) → ReadyAs R r → Places R number x → (told : List ℕ)
      → told ≡ map (λ i. get_or r.numbers.now i 0) (take n after) → TextArgumentIn R number room n (told ++ drop n after)
  line_given R ready there told e = (
    x,
    there,
    (
      a.line,
      subst (λ B. Argument B x a.line) (book_is R _ _ _ _ ready.made) a.is_line,
      (
        sym counted,
        omega (arith, counted),
        ap₂ (λ (u v : List ℕ). u ++ v) by_numbers
            (rest _ _ _ x n room after a fits ∙ ap (λ k. drop k room) (sym counted)),
      ),
    ),
  )
    where
      counted : length (by_number R a.line) ≡ n
      counted = length-map a.line (λ i. get_or (numbers R) i 0) ∙ sym a.counts

      by_numbers : told ≡ by_number R a.line
      by_numbers =
          e ∙ ap₂ (λ (u l : List ℕ). map (λ i. get_or u i 0) l) ready.made.numbers_are (taken _ _ _ x n room after a fits)
