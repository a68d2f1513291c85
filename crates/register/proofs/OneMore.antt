-- One line more: what is written and what is in order, with a statement or an objection added.
use mathlib.Core.List.{List, append_assoc, map-append, map, [], ◌∷◌, ◌++◌}
use mathlib.Core.Logic.{inl, inr, ◌⊎◌}
use mathlib.Core.Path.{refl, ap, sym, ◌≡◌, ◌∙◌}
use Prim.Native.Nat.{ℕ, ◌+◌, ◌<◌}
use native.Mathlib.Nat.{not-suc-le-zero}
use native.Mathlib.Decide.{dec_lt}
use native.Mathlib.Omega.{arith}
use lib.ListN.{length, get_or, length-append, get_or-append, length-map}
use lib.Seq.{get_or-append-add}
use Rattle.register.specs.Number.{IsNumber}
use Rattle.register.specs.Lines.{line_bytes}
use Rattle.register.specs.declared.StatementLine.{StatementLine}
use Rattle.register.specs.declared.ObjectionLine.{ObjectionLine}
use Rattle.register.specs.declared.Line.{Line}
use Rattle.register.specs.declared.Line.TheVariants.{Statement, Objection}
use Rattle.register.specs.Register.{Register, bare, bytes, written, lines, Valid, numbers, Issued, objector_numbers}
use Rattle.register.specs.Register.{target_numbers, Has}

-- one statement more, and one objection more
abbrev pub with_statement_lem : List StatementLine → StatementLine → Register
with_statement_lem S st = bare (S ++ (st ∷ []))

abbrev pub with_objection_lem : Register → ObjectionLine → Register
with_objection_lem R o = record { statements = R.statements; objections = R.objections ++ (o ∷ []) }

pub no_objections : (R : Register) → length R.objections ≡ 0 → R ≡ bare R.statements
no_objections R e = go R.objections refl e
  where
    go : (O : List ObjectionLine) → R.objections ≡ O → length O ≡ 0 → R ≡ bare R.statements
    go [] q h = λ i. record { statements = R.statements; objections = q i }
    go (o ∷ O) q h = absurd (omega arith)

-- the last of a list that got one more
last : (l : List ℕ) (v : ℕ) → get_or (l ++ (v ∷ [])) (length l) 0 ≡ v
last l v =
    ap (λ k. get_or (l ++ (v ∷ [])) k 0) (let e : length l ≡ length l + 0 = omega arith in e) ∙ get_or-append-add l (v ∷ []) 0 0

longer : (l : List ℕ) (v : ℕ) → length (l ++ (v ∷ [])) ≡ length l + 1
longer l v = length-append l (v ∷ [])

-- an entry of it is an old one or the last
pub old_or_last : (l : List ℕ) (v k : ℕ) → k < length (l ++ (v ∷ [])) → ((k < length l) ×
    (get_or (l ++ (v ∷ [])) k 0 ≡ get_or l k 0))
    ⊎ ((k ≡ length l) × (get_or (l ++ (v ∷ [])) k 0 ≡ v))
old_or_last l v k h = go (dec_lt k (length l))
  where
    go : Dec (k < length l) → ((k < length l) × (get_or (l ++ (v ∷ [])) k 0 ≡ get_or l k 0))
        ⊎ ((k ≡ length l) × (get_or (l ++ (v ∷ [])) k 0 ≡ v))
    go (yes p) = inl (p, get_or-append l (v ∷ []) 0 k p)
    go (no p) = let e : k ≡ length l = omega (arith, longer l v) in inr (e, ap (λ j. get_or (l ++ (v ∷ [])) j 0) e ∙ last l v)

-- What is written.
pub bytes_append : (ls ms : List Line) → bytes (ls ++ ms) ≡ bytes ls ++ bytes ms
unfolding bytes
bytes_append [] ms = refl
bytes_append (l ∷ ls) ms =
    ap (λ u. line_bytes l ++ u) (bytes_append ls ms) ∙ sym (append_assoc (line_bytes l) (bytes ls) (bytes ms))

one_line : (l : Line) → bytes (l ∷ []) ≡ line_bytes l
unfolding bytes
one_line l = append_nil (line_bytes l)
  where
    append_nil : (u : List ℕ) → u ++ [] ≡ u
    append_nil [] = refl
    append_nil (x ∷ u) = ap (λ v. x ∷ v) (append_nil u)

pub written_statement : (S : List StatementLine) (st : StatementLine)
    → written (with_statement_lem S st) ≡ written (bare S) ++ line_bytes (Statement st)
written_statement S st =
    ap (λ ls. bytes (ls ++ [])) (map-append Statement S (st ∷ []))
    ∙ ap bytes (append_assoc (map Statement S) (Statement st ∷ []) [])
    ∙ bytes_append (map Statement S) (Statement st ∷ []) ∙ ap (λ u. bytes (map Statement S) ++ u) (one_line (Statement st))
    ∙ ap (λ u. u ++ line_bytes (Statement st)) bare_bytes
  where
    bare_bytes : bytes (map Statement S) ≡ bytes (map Statement S ++ [])
    bare_bytes = ap bytes (sym (nil (map Statement S)))
      where
        nil : (ls : List Line) → ls ++ [] ≡ ls
        nil [] = refl
        nil (x ∷ ls) = ap (λ v. x ∷ v) (nil ls)

pub written_objection : (R : Register) (o : ObjectionLine) → written (with_objection_lem R o) ≡ written R ++ line_bytes
    (Objection o)
written_objection R o =
    ap (λ ls. bytes (map Statement R.statements ++ ls)) (map-append Objection R.objections (o ∷ []))
    ∙ ap bytes (sym (append_assoc (map Statement R.statements) (map Objection R.objections) (Objection o ∷ [])))
    ∙ bytes_append (lines R) (Objection o ∷ []) ∙ ap (λ u. bytes (lines R) ++ u) (one_line (Objection o))

-- The empty register is in order.
pub empty_valid : Valid (bare [])
empty_valid = record {
  few_statements = omega arith;
  few_objections = omega arith;
  numbered = λ i h. absurd (not-suc-le-zero h);
  once = λ i j h k. absurd (not-suc-le-zero k);
  known = λ k h. absurd (not-suc-le-zero h);
  distinct = λ j k h i. absurd (not-suc-le-zero i);
}

-- the statements of a register in order are one
pub statements_alone : (R : Register) → Valid R → Valid (bare R.statements)
statements_alone R v = record {
  few_statements = v.few_statements;
  few_objections = omega arith;
  numbered = v.numbered;
  once = v.once;
  known = λ k h. absurd (not-suc-le-zero h);
  distinct = λ j k h i. absurd (not-suc-le-zero i);
}

-- One statement more, after which nothing is at fault that was not before.
module _ (S : List StatementLine) (st : StatementLine) where
  pub numbers_more : numbers (with_statement_lem S st) ≡ numbers (bare S) ++ (st.number ∷ [])
  numbers_more = map-append (λ (t : StatementLine). t.number) S (st ∷ [])

  pub valid_statement : Valid (bare S) → IsNumber st.number → length S < 1024 → ¬ Issued (bare S) st.number
      → Valid (with_statement_lem S st)
  valid_statement v w l new = record {
    few_statements = omega (arith, length-append S (st ∷ []));
    few_objections = omega arith;
    numbered = λ i h. rw numbers_more (numbered i (rw numbers_more at h));
    once = λ i j h k. rw numbers_more (once i j h (rw numbers_more at k));
    known = λ k h. absurd (not-suc-le-zero h);
    distinct = λ j k h i. absurd (not-suc-le-zero i);
  }
    where
      ns : List ℕ
      ns = numbers (bare S)

      numbered : (i : ℕ) → i < length (ns ++ (st.number ∷ [])) → IsNumber (get_or (ns ++ (st.number ∷ [])) i 0)
      numbered i h = go (old_or_last ns st.number i h)
        where
          go : ((i < length ns) × (get_or (ns ++ (st.number ∷ [])) i 0 ≡ get_or ns i 0))
              ⊎ ((i ≡ length ns) × (get_or (ns ++ (st.number ∷ [])) i 0 ≡ st.number))
              → IsNumber (get_or (ns ++ (st.number ∷ [])) i 0)
          go (inl (a, b)) = rw b (v.numbered i a)
          go (inr (a, b)) = rw b w

      once : (i j : ℕ) → i < j → j < length (ns ++ (st.number ∷ []))
          → get_or (ns ++ (st.number ∷ [])) i 0 ≡ get_or (ns ++ (st.number ∷ [])) j 0 → ⊥
      once i j h k e = go (old_or_last ns st.number i (omega arith)) (old_or_last ns st.number j k)
        where
          go : ((i < length ns) × (get_or (ns ++ (st.number ∷ [])) i 0 ≡ get_or ns i 0))
              ⊎ ((i ≡ length ns) × (get_or (ns ++ (st.number ∷ [])) i 0 ≡ st.number))
              → ((j < length ns) × (get_or (ns ++ (st.number ∷ [])) j 0 ≡ get_or ns j 0))
              ⊎ ((j ≡ length ns) × (get_or (ns ++ (st.number ∷ [])) j 0 ≡ st.number)) → ⊥
          go (inl (a, b)) (inl (c, d)) = v.once i j h c (sym b ∙ e ∙ d)
          go (inl (a, b)) (inr (c, d)) = new (i, a, sym b ∙ e ∙ d)
          go (inr (a, b)) (inl (c, d)) = omega arith
          go (inr (a, b)) (inr (c, d)) = omega arith

-- One objection more.
module _ (R : Register) (o : ObjectionLine) where
  pub objectors_more : objector_numbers (with_objection_lem R o) ≡ objector_numbers R ++ (o.objector ∷ [])
  objectors_more = map-append (λ (p : ObjectionLine). p.objector) R.objections (o ∷ [])

  pub targets_more : target_numbers (with_objection_lem R o) ≡ target_numbers R ++ (o.target ∷ [])
  targets_more = map-append (λ (p : ObjectionLine). p.target) R.objections (o ∷ [])

  count_y : length (objector_numbers R) ≡ length R.objections
  count_y = length-map R.objections (λ (p : ObjectionLine). p.objector)

  count_x : length (target_numbers R) ≡ length R.objections
  count_x = length-map R.objections (λ (p : ObjectionLine). p.target)

  -- the entry k is an old one, or the last
  abbrev pub Old : ℕ → Type 0
  Old k =
      (k < length R.objections) × (get_or (objector_numbers (with_objection_lem R o)) k 0 ≡ get_or (objector_numbers R) k 0)
      × (get_or (target_numbers (with_objection_lem R o)) k 0 ≡ get_or (target_numbers R) k 0)

  abbrev pub New : ℕ → Type 0
  New k =
      (k ≡ length R.objections) × (get_or (objector_numbers (with_objection_lem R o)) k 0 ≡ o.objector)
      × (get_or (target_numbers (with_objection_lem R o)) k 0 ≡ o.target)

  pub old_or_new : (k : ℕ) → k < length (R.objections ++ (o ∷ [])) → Old k ⊎ New k
  old_or_new k h = go (dec_lt k (length R.objections))
    where
      at_end : (l : List ℕ) (v : ℕ) → length l ≡ length R.objections → k ≡ length R.objections
          → get_or (l ++ (v ∷ [])) k 0 ≡ v
      at_end l v e q = ap (λ j. get_or (l ++ (v ∷ [])) j 0) (q ∙ sym e) ∙ last l v

      go : Dec (k < length R.objections) → Old k ⊎ New k
      go (yes p) =
          inl (
            p,
            rw objectors_more (get_or-append (objector_numbers R) (o.objector ∷ []) 0 k (omega (arith, count_y))),
            rw targets_more (get_or-append (target_numbers R) (o.target ∷ []) 0 k (omega (arith, count_x))),
          )
      go (no p) =
          let e : k ≡ length R.objections = omega (arith, length-append R.objections (o ∷ [])) in
          inr (
            e,
            rw objectors_more (at_end (objector_numbers R) o.objector count_y e),
            rw targets_more (at_end (target_numbers R) o.target count_x e),
          )

  pub valid_objection : Valid R → length R.objections < 4096 → Issued R o.objector → Issued R o.target
      → ¬ Has R o.objector o.target → Valid (with_objection_lem R o)
  valid_objection v l y x new = record {
    few_statements = v.few_statements;
    few_objections = omega (arith, length-append R.objections (o ∷ []));
    numbered = v.numbered;
    once = v.once;
    known = λ k h. known k (old_or_new k h);
    distinct = λ j k h i a b. distinct j k h a b (old_or_new j (omega arith)) (old_or_new k i);
  }
    where
      known : (k : ℕ) → Old k ⊎ New k → Issued R (get_or (objector_numbers (with_objection_lem R o)) k 0)
          × Issued R (get_or (target_numbers (with_objection_lem R o)) k 0)
      known k (inl (a, b, c)) = rw (b, c) (v.known k a)
      known k (inr (a, b, c)) = rw (b, c) (y, x)

      distinct : (j k : ℕ) → j < k → get_or (objector_numbers (with_objection_lem R o)) j 0 ≡ get_or
          (objector_numbers (with_objection_lem R o))
          k 0 → get_or (target_numbers (with_objection_lem R o)) j 0 ≡ get_or (target_numbers (with_objection_lem R o)) k 0 → Old
          j ⊎ New j
          → Old k ⊎ New k → ⊥
      distinct j k h a b (inl (p, q, r)) (inl (p', q', r')) = v.distinct j k h p' (sym q ∙ a ∙ q') (sym r ∙ b ∙ r')
      distinct j k h a b (inl (p, q, r)) (inr (p', q', r')) = new (j, p, sym q ∙ a ∙ q', sym r ∙ b ∙ r')
      distinct j k h a b (inr (p, q, r)) (inl (p', q', r')) = omega arith
      distinct j k h a b (inr (p, q, r)) (inr (p', q', r')) = omega arith
