-- The lists that a register in order makes are in order themselves.
use mathlib.Core.List.{List, map, [], ◌∷◌}
use mathlib.Core.Path.{refl, ap, sym, ◌≡◌, ◌∙◌}
use Prim.Native.Nat.{ℕ, suc, zero, ◌≤◌, ◌<◌}
use native.Mathlib.Nat.{not-suc-le-zero, le_of_suc-le-suc}
use native.Mathlib.Decide.{ℕ_discrete, dec_lt}
use native.Mathlib.Omega.{arith}
use lib.Dec.{eqb}
use lib.ListN.{length, get_or, length-map}
use borrow.Author.Tests.{eq-eqb, ne_eqb}
use Rattle.game.specs.Book.{InOrder}
use Rattle.register.specs.Lines.{mark_number}
use Rattle.register.specs.declared.Mark.{Mark}
use Rattle.register.specs.declared.Mark.TheVariants.{Read, Unread}
use Rattle.register.specs.declared.StatementLine.{StatementLine}
use Rattle.register.specs.declared.ObjectionLine.{ObjectionLine}
use Rattle.register.specs.Register.{place_of, pick_place, Register, Issued, numbers, Valid, marks_of, objectors_of}
use Rattle.register.specs.Register.{objector_numbers, targets_of, target_numbers, Places}

-- a number that is there has its place among the others
pub place_listed : (ns : List ℕ) (v i : ℕ) → i < length ns → get_or ns i 0 ≡ v → place_of ns v < length ns
unfolding place_of
place_listed [] v i l e = absurd (not-suc-le-zero l)
place_listed (a ∷ ns) v i l e = go (ℕ_discrete a v) i l e (λ j k q. place_listed ns v j k q)
  where
    go : Dec (a ≡ v) → (i : ℕ) → i < length (a ∷ ns) → get_or (a ∷ ns) i 0 ≡ v
        → ((j : ℕ) → j < length ns → get_or ns j 0 ≡ v → place_of ns v < length ns)
        → pick_place (eqb a v) 0 (suc (place_of ns v)) < length (a ∷ ns)
    go (yes p) i l e f = rw (eq-eqb a v p) (omega arith)
    go (no p) zero l e f = absurd (p e)
    go (no p) (suc i) l e f = rw (ne_eqb a v p) (let h : place_of ns v < length ns = f i (le_of_suc-le-suc l) e in omega arith)

-- a number that is there stands at its place
pub place_holds : (ns : List ℕ) (v i : ℕ) → i < length ns → get_or ns i 0 ≡ v → get_or ns (place_of ns v) 0 ≡ v
unfolding place_of
place_holds [] v i l e = absurd (not-suc-le-zero l)
place_holds (a ∷ ns) v i l e = go (ℕ_discrete a v) i l e (λ j k q. place_holds ns v j k q)
  where
    go : Dec (a ≡ v) → (i : ℕ) → i < length (a ∷ ns) → get_or (a ∷ ns) i 0 ≡ v
        → ((j : ℕ) → j < length ns → get_or ns j 0 ≡ v → get_or ns (place_of ns v) 0 ≡ v)
        → get_or (a ∷ ns) (pick_place (eqb a v) 0 (suc (place_of ns v))) 0 ≡ v
    go (yes p) i l e f = rw (eq-eqb a v p) p
    go (no p) zero l e f = absurd (p e)
    go (no p) (suc i) l e f = rw (ne_eqb a v p) (f i (le_of_suc-le-suc l) e)

-- the place of a number is where it stands first
pub place_first : (ns : List ℕ) (v y : ℕ) → y < length ns → get_or ns y 0 ≡ v → ((i : ℕ) → i < y → get_or ns i 0 ≡ v → ⊥)
    → place_of ns v ≡ y
unfolding place_of
place_first [] v y l e f = absurd (not-suc-le-zero l)
place_first (a ∷ ns) v zero l e f = rw (eq-eqb a v e) refl
place_first (a ∷ ns) v (suc y) l e f =
    rw (ne_eqb a v (f 0 (omega arith))) (ap suc (place_first ns v y (le_of_suc-le-suc l) e (λ i k. f (suc i) (omega arith))))

-- an entry of a mapped list
pub mapped : (f : ℕ → ℕ) (u : List ℕ) (i : ℕ) → i < length u → get_or (map f u) i 0 ≡ f (get_or u i 0)
mapped f [] i k = absurd (not-suc-le-zero k)
mapped f (a ∷ u) zero k = refl
mapped f (a ∷ u) (suc i) k = mapped f u i (le_of_suc-le-suc k)

-- the number at the place of an issued number is that number
pub number_there : (R : Register) (nos : List ℕ) (k : ℕ) → k < length nos → Issued R (get_or nos k 0)
    → get_or (numbers R) (get_or (map (place_of (numbers R)) nos) k 0) 0 ≡ get_or nos k 0
number_there R nos k h (i, l, e) =
    ap (λ p. get_or (numbers R) p 0) (mapped (place_of (numbers R)) nos k h) ∙ place_holds (numbers R) (get_or nos k 0) i l e

-- as many numbers as statements
pub numbers_counted : (R : Register) → length (numbers R) ≡ length R.statements
numbers_counted R = length-map R.statements (λ (st : StatementLine). st.number)

module _ (R : Register) (valid : Valid R) where
  -- as many marks as statements, and as many objectors and targets as objections
  pub marks_counted : length (marks_of R) ≡ length R.statements
  marks_counted = length-map R.statements (λ (st : StatementLine). mark_number st.mark)

  pub objectors_counted : length (objectors_of R) ≡ length R.objections
  objectors_counted =
      length-map (objector_numbers R) (place_of (numbers R)) ∙ length-map R.objections (λ (o : ObjectionLine). o.objector)

  pub targets_counted : length (targets_of R) ≡ length R.objections
  targets_counted =
      length-map (target_numbers R) (place_of (numbers R)) ∙ length-map R.objections (λ (o : ObjectionLine). o.target)

  listed : (v : ℕ) → Issued R v → place_of (numbers R) v < length (marks_of R)
  listed v (i, l, e) = omega (arith, place_listed (numbers R) v i l e, numbers_counted R, marks_counted)

  low : (m : Mark) → mark_number m ≤ 1
  low Read = omega arith
  low Unread = omega arith

  low_marks : (S : List StatementLine) (x : ℕ) → get_or (map (λ (st : StatementLine). mark_number st.mark) S) x 0 ≤ 1
  low_marks [] x = omega arith
  low_marks (st ∷ S) zero = low st.mark
  low_marks (st ∷ S) (suc x) = low_marks S x

  pub register_in_order : InOrder (marks_of R) (objectors_of R) (targets_of R)
  register_in_order = record {
    paired = targets_counted ∙ sym objectors_counted;
    marked = λ x h. low_marks R.statements x;
    objector =
        λ k h. rw (mapped (place_of (numbers R)) (objector_numbers R) k
        (omega (arith, h, objectors_counted, length-map R.objections (λ (o : ObjectionLine). o.objector))))
        (listed (get_or (objector_numbers R) k 0) (valid.known k (omega (arith, h, objectors_counted))).0);
    target =
        λ k h. rw (mapped (place_of (numbers R)) (target_numbers R) k
        (omega (arith, h, objectors_counted, length-map R.objections (λ (o : ObjectionLine). o.target))))
        (listed (get_or (target_numbers R) k 0) (valid.known k (omega (arith, h, objectors_counted))).1);
  }

-- a number stands at one place
pub place_once : (R : Register) → Valid R → (number x x' : ℕ) → Places R number x → Places R number x' → x ≡ x'
place_once R v number x x' (h, e) (h', e') = go (dec_lt x x') (dec_lt x' x)
  where
    go : Dec (x < x') → Dec (x' < x) → x ≡ x'
    go (yes l) d = absurd (v.once x x' l h' (e ∙ sym e'))
    go (no n) (yes l) = absurd (v.once x' x l h (e' ∙ sym e))
    go (no n) (no m) = omega arith
