-- The fields of a line, one after the other: what a good line is made of, and that bytes which fail a test begin with no
-- line.
use mathlib.Core.List.{List, append_assoc, [], ◌∷◌, ◌++◌}
use mathlib.Core.Path.{sym, ap, refl, ◌≡◌, ◌∙◌}
use Prim.Native.Nat.{ℕ, ◌+◌, ◌≤◌, ◌<◌}
use native.Mathlib.Omega.{arith}
use lib.ListN.{drop, length}
use Rattle.register.specs.Number.{IsNumber, number_bytes}
use Rattle.register_number.specs.NumberReading.{NumberAt, byte_at}
use Rattle.register.specs.Lines.{mark_byte, BeginsWith}
use Rattle.register_line.specs.LineReading.{statement_tail, GotStatement, objection_tail, GotObjection, GotAt}
use Rattle.register.specs.declared.Mark.{Mark}
use Rattle.register.specs.declared.Line.{Line}
use Rattle.register.specs.declared.Line.TheVariants.{Statement, Objection}
use Rattle.std.specs.Prelude.{Option, Some, None}
use Rattle.register_number.proofs.NumberSteps.{second_bytes, first_byte, byte_first, byte_inside}

cancel : (p u w : List ℕ) → p ++ u ≡ p ++ w → u ≡ w
cancel [] u w e = e
cancel (x ∷ p) u w e = let t : p ++ u ≡ p ++ w = cc in cancel p u w t

-- Behind a number that was read stands what stands behind any number there.
module _ (s : List ℕ) (at v e : ℕ) (read : NumberAt s at (Some (v, e))) where
  pub behind : (n c : ℕ) (rest : List ℕ) → IsNumber n → c ≤ 10 → drop at s ≡ number_bytes n ++ (c ∷ rest) → (n ≡ v)
      × (drop e s ≡ c ∷ rest)
  behind n c rest h k q =
      let f : n ≡ v = read.4 n (c ∷ rest) h k q in
      (f, cancel (number_bytes v) (drop e s) (c ∷ rest) (sym read.3 ∙ q ∙ ap (λ m. number_bytes m ++ (c ∷ rest)) f))

-- a statement's bytes behind its number
statement_bytes_lem : (n : ℕ) (m : Mark) (rest : List ℕ) → statement_tail n m ++ rest ≡ number_bytes n ++
    (9 ∷ (mark_byte m ∷ 10 ∷ rest))
statement_bytes_lem n m rest = append_assoc (number_bytes n) (9 ∷ mark_byte m ∷ 10 ∷ []) rest

pub statement_unnumbered : (s : List ℕ) (at : ℕ) → NumberAt s at None → GotStatement s at None
statement_unnumbered s at none n m rest h q = none n (9 ∷ mark_byte m ∷ 10 ∷ rest) h (omega arith)
    (q ∙ statement_bytes_lem n m rest)

module _ (s : List ℕ) (at v e : ℕ) (read : NumberAt s at (Some (v, e))) where
  fields : (n : ℕ) (m : Mark) (rest : List ℕ) → IsNumber n → drop at s ≡ statement_tail n m ++ rest → (byte_at s e ≡ 9)
      × (byte_at s (e + 1) ≡ mark_byte m) × (byte_at s (e + 2) ≡ 10)
  fields n m rest h q =
      let (f, t) = behind s at v e read n 9 (mark_byte m ∷ 10 ∷ rest) h (omega arith) (q ∙ statement_bytes_lem n m rest) in
      let u : drop (e + 1) s ≡ mark_byte m ∷ 10 ∷ rest = second_bytes s e 9 (mark_byte m ∷ 10 ∷ rest) t in
      let w : drop (e + 1 + 1) s ≡ 10 ∷ rest = second_bytes s (e + 1) (mark_byte m) (10 ∷ rest) u in
      let k : e + 1 + 1 ≡ e + 2 = omega arith in (
        first_byte s e 9 (mark_byte m ∷ 10 ∷ rest) t,
        first_byte s (e + 1) (mark_byte m) (10 ∷ rest) u,
        ap (byte_at s) (sym k)
            ∙ first_byte s (e + 1 + 1) 10 rest w,
      )

  pub statement_untabbed : (byte_at s e ≡ 9 → ⊥) → GotStatement s at None
  statement_untabbed f n m rest h q = f (fields n m rest h q).0

  pub statement_unended : (byte_at s (e + 2) ≡ 10 → ⊥) → GotStatement s at None
  statement_unended f n m rest h q = f (fields n m rest h q).2

  pub statement_unmarked : ((m : Mark) → byte_at s (e + 1) ≡ mark_byte m → ⊥) → GotStatement s at None
  statement_unmarked f n m rest h q = f m (fields n m rest h q).1

  pub statement_good : (m : Mark) → mark_byte m < 256 → byte_at s e ≡ 9 → byte_at s (e + 1) ≡ mark_byte m → byte_at s (e + 2) ≡ 10
      → GotStatement s at (Some (Statement (record { number = v; mark = m }), e + 3))
  statement_good m low a b c =
      let i : e + 1 + 1 ≡ e + 2 = omega arith in
      let j : e + 2 + 1 ≡ e + 3 = omega arith in
      let t : drop e s ≡ 9 ∷ mark_byte m ∷ 10 ∷ drop (e + 3) s =
      byte_first s e 9 a (omega arith) ∙ ap (λ u. 9 ∷ u) (byte_first s (e + 1) (mark_byte m) b low
      ∙ ap (λ u. mark_byte m ∷ u) (ap (λ k. drop k s) i ∙ byte_first s (e + 2) 10 c (omega arith)
      ∙ ap (λ k. 10 ∷ drop k s) j)) in (
        read.0,
        omega (arith, read.1),
        omega (arith, byte_inside s (e + 2) 10 c (omega arith)),
        read.3
            ∙ ap (λ u. number_bytes v ++ u) t ∙ sym (statement_bytes_lem v m (drop (e + 3) s)),
      )

-- an objection's bytes behind its first number
objection_bytes_lem : (y x : ℕ) (rest : List ℕ) → objection_tail y x ++ rest ≡ number_bytes y ++
    (9 ∷ (number_bytes x ++ (10 ∷ rest)))
objection_bytes_lem y x rest =
    append_assoc (number_bytes y) (9 ∷ (number_bytes x ++ (10 ∷ []))) rest
    ∙ ap (λ u. number_bytes y ++ (9 ∷ u)) (append_assoc (number_bytes x) (10 ∷ []) rest)

pub objection_unnumbered : (s : List ℕ) (at : ℕ) → NumberAt s at None → GotObjection s at None
objection_unnumbered s at none y x rest h k q =
    none y (9 ∷ (number_bytes x ++ (10 ∷ rest))) h (omega arith) (q ∙ objection_bytes_lem y x rest)

module _ (s : List ℕ) (at v tab : ℕ) (read : NumberAt s at (Some (v, tab))) where
  target : (y x : ℕ) (rest : List ℕ) → IsNumber y → drop at s ≡ objection_tail y x ++ rest → (byte_at s tab ≡ 9)
      × (drop (tab + 1) s ≡ number_bytes x ++ (10 ∷ rest))
  target y x rest h q =
      let (f, t) = behind s at v tab read y 9 (number_bytes x ++ (10 ∷ rest)) h (omega arith) (q ∙ objection_bytes_lem y x rest)
      in
      (first_byte s tab 9 (number_bytes x ++ (10 ∷ rest)) t, second_bytes s tab 9 (number_bytes x ++ (10 ∷ rest)) t)

  pub objection_untabbed : (byte_at s tab ≡ 9 → ⊥) → GotObjection s at None
  objection_untabbed f y x rest h k q = f (target y x rest h q).0

  pub objection_untargeted : NumberAt s (tab + 1) None → GotObjection s at None
  objection_untargeted none y x rest h k q = none x (10 ∷ rest) k (omega arith) (target y x rest h q).1

  module _ (w e : ℕ) (second : NumberAt s (tab + 1) (Some (w, e))) where
    pub objection_unended : (byte_at s e ≡ 10 → ⊥) → GotObjection s at None
    objection_unended f y x rest h k q =
        let (_, t) = behind s (tab + 1) w e second x 10 rest k (omega arith) (target y x rest h q).1 in
        f (first_byte s e 10 rest t)

    pub objection_good : byte_at s tab ≡ 9 → byte_at s e ≡ 10 → GotObjection s at
        (Some (Objection (record { objector = v; target = w }), e + 1))
    objection_good a b =
        let t : drop tab s ≡ 9 ∷ (number_bytes w ++ (10 ∷ drop (e + 1) s)) = byte_first s tab 9 a (omega arith)
        ∙ ap (λ u. 9 ∷ u) (second.3 ∙ ap (λ u. number_bytes w ++ u) (byte_first s e 10 b (omega arith))) in (
          read.0,
          second.0,
          omega (arith, read.1, second.1),
          omega (arith, byte_inside s e 10 b (omega arith)),
          read.3
              ∙ ap (λ u. number_bytes v ++ u) t ∙ sym (objection_bytes_lem v w (drop (e + 1) s)),
        )

-- A line's first byte and the tab behind it.
module _ (s : List ℕ) (at : ℕ) where
  pub after_head : (k : ℕ) (u : List ℕ) → drop at s ≡ k ∷ 9 ∷ u → (byte_at s at ≡ k) × (byte_at s (at + 1) ≡ 9) ×
      (drop (at + 2) s ≡ u)
  after_head k u q =
      let t : drop (at + 1) s ≡ 9 ∷ u = second_bytes s at k (9 ∷ u) q in
      let i : at + 1 + 1 ≡ at + 2 = omega arith in
      (first_byte s at k (9 ∷ u) q, first_byte s (at + 1) 9 u t, ap (λ j. drop j s) (sym i) ∙ second_bytes s (at + 1) 9 u t)

  head : (l : Line) → BeginsWith l (drop at s) → (byte_at s at < 256) × (byte_at s (at + 1) ≡ 9)
  head (Statement st) (h, (rest, q)) =
      let w = after_head 83 (statement_tail st.number st.mark ++ rest) q in (omega (arith, w.0), w.1)
  head (Objection o) (h, (rest, q)) =
      let w = after_head 79 (objection_tail o.objector o.target ++ rest) q in (omega (arith, w.0), w.1)

  pub line_past : length s < at → GotAt s at None
  line_past h l b = omega (arith, byte_inside s at (byte_at s at) refl (head l b).0)

  pub line_untabbed : (byte_at s (at + 1) ≡ 9 → ⊥) → GotAt s at None
  line_untabbed f l b = f (head l b).1

  pub line_neither : (byte_at s at ≡ 83 → ⊥) → (byte_at s at ≡ 79 → ⊥) → GotAt s at None
  line_neither f g (Statement st) (h, (rest, q)) = f (after_head 83 (statement_tail st.number st.mark ++ rest) q).0
  line_neither f g (Objection o) (h, (rest, q)) = g (after_head 79 (objection_tail o.objector o.target ++ rest) q).0

  module _ (k : ℕ) (first : byte_at s at ≡ k) (tab : byte_at s (at + 1) ≡ 9) where
    pub tail_inside : at + 2 ≤ length s
    tail_inside = omega (arith, byte_inside s (at + 1) 9 tab (omega arith))

    pub begun : k < 256 → drop at s ≡ k ∷ 9 ∷ drop (at + 2) s
    begun low =
        let i : at + 1 + 1 ≡ at + 2 = omega arith in
        byte_first s at k first low ∙ ap (λ u. k ∷ u) (byte_first s (at + 1) 9 tab (omega arith) ∙ ap (λ j. 9 ∷ drop j s) i)

    pub line_statement : k ≡ 83 → (g : Option (Line × ℕ)) → GotStatement s (at + 2) g → GotAt s at g
    line_statement e (Some (Statement st, next)) (a, b, c, d) = (
      a,
      omega arith,
      c,
      begun (omega arith) ∙ ap (λ u. k ∷ 9 ∷ u) d
          ∙ ap (λ j. j ∷ 9 ∷ (statement_tail st.number st.mark ++ drop next s)) e,
    )
    line_statement e (Some (Objection o, next)) p = absurd p
    line_statement e None p = none
      where
        none : (l : Line) → BeginsWith l (drop at s) → ⊥
        none (Statement st) (h, (rest, q)) =
            p st.number st.mark rest h (after_head 83 (statement_tail st.number st.mark ++ rest) q).2
        none (Objection o) (h, (rest, q)) = omega (arith, (after_head 79 (objection_tail o.objector o.target ++ rest) q).0)

    pub line_objection : k ≡ 79 → (g : Option (Line × ℕ)) → GotObjection s (at + 2) g → GotAt s at g
    line_objection e (Some (Objection o, next)) (a, a', b, c, d) = (
      (a, a'),
      omega arith,
      c,
      begun (omega arith) ∙ ap (λ u. k ∷ 9 ∷ u) d
          ∙ ap (λ j. j ∷ 9 ∷ (objection_tail o.objector o.target ++ drop next s)) e,
    )
    line_objection e (Some (Statement st, next)) p = absurd p
    line_objection e None p = none
      where
        none : (l : Line) → BeginsWith l (drop at s) → ⊥
        none (Objection o) (h, (rest, q)) =
            p o.objector o.target rest h.0 h.1 (after_head 79 (objection_tail o.objector o.target ++ rest) q).2
        none (Statement st) (h, (rest, q)) = omega (arith, (after_head 83 (statement_tail st.number st.mark ++ rest) q).0)
