-- A reader of one line that computes, for examples only: it guesses the line from its bytes, and a test holds the guess's written
-- form against what stands there. If any line stands there, it is the guess; so where the guess fails the test, the line is
-- spoiled. Reading a line in the product is left to `register_line`.
use mathlib.Core.Bool.{Bool, true, false, cond, not, ◌&&◌}
use mathlib.Core.List.{List, append_assoc, [], ◌∷◌, ◌++◌}
use mathlib.Core.Path.{refl, ap, ap₂, sym, subst, ◌≡◌, ◌∙◌}
use Prim.Native.Nat.{ℕ, ◌≤◌}
use native.Mathlib.Omega.{arith}
use lib.Dec.{T, leb, eqb, eqb→eq, eqb_refl}
use lib.ListN.{get_or, drop}
use borrow.Author.Tests.{le-leb, lt-leb}
use Rattle.game.proofs.Search.{both, and_of, clash}
use Rattle.register.specs.Texts.{pick_bytes}
use Rattle.register.specs.Number.{number_bytes, IsNumber}
use Rattle.register.specs.Lines.{line_bytes, WellFormed, BeginsWith, mark_byte}
use Rattle.register.specs.declared.Mark.{Mark}
use Rattle.register.specs.declared.Mark.TheVariants.{Read, Unread}
use Rattle.register.specs.declared.Line.{Line}
use Rattle.register.specs.declared.Line.TheVariants.{Statement, Objection}
use Rattle.register.proofs.Number.{number_test, number_tested, number_passes, number_says, number_unbroken, Unbroken}
use Rattle.register.proofs.Number.{spell_number}

-- The first field ends at a byte up to 10; what stands behind that byte.
unfoldable pub field : List ℕ → List ℕ
field [] = []
field (c ∷ s) = pick_bytes (leb c 10) [] (c ∷ field s)

unfoldable pub behind : List ℕ → List ℕ
behind [] = []
behind (c ∷ s) = pick_bytes (leb c 10) s (behind s)

pub field_is : (p : List ℕ) (c : ℕ) (r : List ℕ) → Unbroken p → c ≤ 10 → field (p ++ (c ∷ r)) ≡ p
unfolding field
field_is [] c r u h = simp (le-leb c 10 h)
field_is (b ∷ p) c r (l, u) h = rw (lt-leb b 10 l) (ap (λ q. b ∷ q) (field_is p c r u h))

behind_is : (p : List ℕ) (c : ℕ) (r : List ℕ) → Unbroken p → c ≤ 10 → behind (p ++ (c ∷ r)) ≡ r
unfolding behind
behind_is [] c r u h = simp (le-leb c 10 h)
behind_is (b ∷ p) c r (l, u) h = rw (lt-leb b 10 l) (behind_is p c r u h)

-- The guess: a line that begins with `S` is a statement line, any other an objection line.
unfoldable pub guess_mark : ℕ → Mark
guess_mark b = cond (eqb b 82) Read Unread

unfoldable pub guess_fields : (kind : ℕ) (fields : List ℕ) → Line
guess_fields kind fields =
    cond (eqb kind 83)
    (Statement (record { number = spell_number 0 (field fields); mark = guess_mark (get_or (behind fields) 0 0) }))
    (Objection (record { objector = spell_number 0 (field fields); target = spell_number 0 (field (behind fields)) }))

unfoldable pub guess_line : List ℕ → Line
guess_line s = guess_fields (get_or s 0 0) (drop 2 s)

module _ (n : ℕ) (h : IsNumber n) (c : ℕ) (l : c ≤ 10) (r : List ℕ) where
  pub number_guessed : n ≡ spell_number 0 (field (number_bytes n ++ (c ∷ r)))
  number_guessed =
      sym (number_says n h) ∙ ap (spell_number 0) (sym (field_is (number_bytes n) c r (number_unbroken n h) l))

  pub rest_guessed : r ≡ behind (number_bytes n ++ (c ∷ r))
  rest_guessed = sym (behind_is (number_bytes n) c r (number_unbroken n h) l)

pub mark_guessed : (m : Mark) → m ≡ guess_mark (mark_byte m)
unfolding guess_mark
mark_guessed Read = refl
mark_guessed Unread = refl

-- whatever line stands there, the guess is that line
pub guess_only : (l : Line) (s : List ℕ) → BeginsWith l s → l ≡ guess_line s
unfolding guess_line guess_fields
guess_only (Statement st) s (w, (r, e)) =
    let tail : List ℕ = mark_byte st.mark ∷ 10 ∷ r in
    let n : st.number ≡ spell_number 0 (field (number_bytes st.number ++ (9 ∷ tail))) = number_guessed st.number w 9
    (omega arith) tail in
    let m : st.mark ≡ guess_mark (get_or (behind (number_bytes st.number ++ (9 ∷ tail))) 0 0) = mark_guessed st.mark
    ∙ ap (λ (u : List ℕ). guess_mark (get_or u 0 0)) (rest_guessed st.number w 9 (omega arith) tail) in
    let is : s ≡ 83 ∷ 9 ∷ (number_bytes st.number ++ (9 ∷ tail)) = simp append_assoc at e in
    subst (λ u. Statement st ≡ guess_line u) (sym is) (λ i. Statement (record { number = n i; mark = m i }))
guess_only (Objection o) s (w, (r, e)) =
    let tail : List ℕ = number_bytes o.target ++ (10 ∷ r) in
    let y : o.objector ≡ spell_number 0 (field (number_bytes o.objector ++ (9 ∷ tail))) = number_guessed o.objector w.0 9
    (omega arith) tail in
    let x : o.target ≡ spell_number 0 (field (behind (number_bytes o.objector ++ (9 ∷ tail)))) = number_guessed o.target
    w.1 10 (omega arith) r ∙ ap (λ u. spell_number 0 (field u)) (rest_guessed o.objector w.0 9 (omega arith) tail) in
    let is : s ≡ 79 ∷ 9 ∷ (number_bytes o.objector ++ (9 ∷ tail)) = simp append_assoc at e in
    subst (λ u. Objection o ≡ guess_line u) (sym is) (λ i. Objection (record { objector = y i; target = x i }))

-- The bytes p stand at the beginning of s.
unfoldable pub ahead : (p s : List ℕ) → Bool
ahead [] s = true
ahead (a ∷ p) [] = false
ahead (a ∷ p) (b ∷ s) = eqb b a && ahead p s

pub ahead_is : (p s : List ℕ) → T (ahead p s) → (rest : List ℕ) × (s ≡ p ++ rest)
unfolding ahead
ahead_is [] s t = (s, refl)
ahead_is (a ∷ p) [] t = absurd t
ahead_is (a ∷ p) (b ∷ s) t =
    let (h, k) = both (eqb b a) (ahead p s) t in
    let (r, e) = ahead_is p s k in
    (r, ap₂ (λ c u. c ∷ u) (eqb→eq b a h) e)

pub ahead_of : (p r : List ℕ) → T (ahead p (p ++ r))
unfolding ahead
ahead_of [] r = tt
ahead_of (a ∷ p) r = and_of (eqb a a) (ahead p (p ++ r)) (eqb_refl a) (ahead_of p r)

-- The line stands at the beginning of s: its numbers are numbers, and its bytes are those.
unfoldable pub formed_test : Line → Bool
formed_test (Statement st) = number_test st.number
formed_test (Objection o) = number_test o.objector && number_test o.target

formed_tested : (l : Line) → T (formed_test l) → WellFormed l
unfolding formed_test
formed_tested (Statement st) t = number_tested st.number t
formed_tested (Objection o) t =
    let (p, q) = both (number_test o.objector) (number_test o.target) t in
    (number_tested o.objector p, number_tested o.target q)

formed_passes : (l : Line) → WellFormed l → T (formed_test l)
unfolding formed_test
formed_passes (Statement st) w = number_passes st.number w
formed_passes (Objection o) w =
    and_of (number_test o.objector) (number_test o.target) (number_passes o.objector w.0)
    (number_passes o.target w.1)

unfoldable pub begins_test : Line → List ℕ → Bool
begins_test l s = formed_test l && ahead (line_bytes l) s

pub begins_tested : (l : Line) (s : List ℕ) → T (begins_test l s) → BeginsWith l s
unfolding begins_test
begins_tested l s t =
    let (p, q) = both (formed_test l) (ahead (line_bytes l) s) t in
    (formed_tested l p, ahead_is (line_bytes l) s q)

begins_passes : (l : Line) (s : List ℕ) → BeginsWith l s → T (begins_test l s)
unfolding begins_test
begins_passes l s (w, (r, e)) =
    and_of (formed_test l) (ahead (line_bytes l) s) (formed_passes l w)
    (subst (λ u. T (ahead (line_bytes l) u)) (sym e) (ahead_of (line_bytes l) r))

-- The guess does not stand there; so no line does.
unfoldable pub spoiled_test : List ℕ → Bool
spoiled_test s = not (begins_test (guess_line s) s)

pub spoiled_tested : (s : List ℕ) → T (spoiled_test s) → (l : Line) → ¬ BeginsWith l s
unfolding spoiled_test
spoiled_tested s t l b =
    clash (begins_test (guess_line s) s)
    (begins_passes (guess_line s) s (subst (λ u. BeginsWith u s) (guess_only l s b) b)) t
