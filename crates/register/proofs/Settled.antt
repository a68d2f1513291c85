-- Demand 1 of texts: every text is accepted or refused, without a word about the code. Whether a line stands somewhere is
-- decided by asking of every line whether it does.
use mathlib.Core.List.{List, append_assoc, [], ◌∷◌, ◌++◌}
use mathlib.Core.Logic.{inl, inr, ◌⊎◌}
use mathlib.Core.Path.{subst, refl, ◌≡◌, ap, sym, ◌∙◌}
use Prim.Native.Nat.{ℕ, zero, suc, ◌+◌, ◌-◌, ◌≤◌, ◌<◌}
use native.Mathlib.Decide.{dec_lt, ℕ_discrete}
use native.Mathlib.Omega.{arith}
use lib.ListN.{length, get_or, length-append}
use Rattle.register.specs.Lines.{BeginsWith, line_bytes}
use Rattle.register.specs.declared.Mark.{Mark}
use Rattle.register.specs.declared.Mark.TheVariants.{Read, Unread}
use Rattle.register.specs.declared.StatementLine.{StatementLine}
use Rattle.register.specs.declared.ObjectionLine.{ObjectionLine}
use Rattle.register.specs.declared.Line.{Line}
use Rattle.register.specs.declared.Line.TheVariants.{Statement, Objection}
use Rattle.register.specs.declared.TextFault.{TextFault}
use Rattle.register.specs.declared.TextFault.TheVariants.{Late, Statements, Issued, Objections, Unknown, Repeated}
use Rattle.register.specs.declared.TextFault.TheVariants.{Spoiled, TooLong, Unended}
use Rattle.register.specs.Register.{Register, Issued as OnRegister, numbers, Has, objector_numbers, target_numbers, Valid}
use Rattle.register.specs.Register.{written, bare, bytes}
use Rattle.register.proofs.Number.{number?, number_below, numbers_end}
use Rattle.register.proofs.OneMore.{no_objections, with_statement_lem, valid_statement, written_statement, with_objection_lem}
use Rattle.register.proofs.OneMore.{valid_objection, written_objection, empty_valid}
use Rattle.register.specs.Reads.{Accepts, Refuses, NotEnded, FaultAt}

-- it holds, or it does not
abbrev pub Settles : Type 0 → Type 0
Settles P = P ⊎ (¬ P)

pub both? : {P Q : Type 0} → Settles P → Settles Q → Settles (P × Q)
both? (inl p) (inl q) = inl (p, q)
both? (inl p) (inr q) = inr (λ w. q w.1)
both? (inr p) q = inr (λ w. p w.0)

pub less? : (a b : ℕ) → Settles (a < b)
less? a b = go (dec_lt a b)
  where
    go : Dec (a < b) → Settles (a < b)
    go (yes p) = inl p
    go (no p) = inr p

pub same? : (a b : ℕ) → Settles (a ≡ b)
same? a b = go (ℕ_discrete a b)
  where
    go : Dec (a ≡ b) → Settles (a ≡ b)
    go (yes p) = inl p
    go (no p) = inr p

-- some number below n has the property, or none has
pub below? : (n : ℕ) (P : ℕ → Type 0) → ((i : ℕ) → Settles (P i)) → Settles ((i : ℕ) × (i < n) × P i)
below? zero P d = inr (λ w. omega (arith, w.1))
below? (suc n) P d = go (d n) (below? n P d)
  where
    go : Settles (P n) → Settles ((i : ℕ) × (i < n) × P i) → Settles ((i : ℕ) × (i < suc n) × P i)
    go (inl p) q = inl (n, omega arith, p)
    go (inr p) (inl (i, h, q)) = inl (i, omega arith, q)
    go (inr p) (inr q) = inr (λ w. here w.0 w.1 w.2 (same? w.0 n))
      where
        here : (i : ℕ) → i < suc n → P i → Settles (i ≡ n) → ⊥
        here i h r (inl e) = p (subst P e r)
        here i h r (inr e) = q (i, omega arith, r)

-- the bytes s begin with the bytes p
Begins : List ℕ → List ℕ → Type 0
Begins p s = (rest : List ℕ) × (s ≡ p ++ rest)

begins? : (p s : List ℕ) → Settles (Begins p s)
unfolding Begins
begins? [] s = inl (s, refl)
begins? (a ∷ p) [] = inr (λ w. let z : ◌≡◌ {A = ℕ} 0 1 = cc in omega arith)
begins? (a ∷ p) (b ∷ s) = go (same? b a) (begins? p s)
  where
    go : Settles (b ≡ a) → Settles (Begins p s) → Settles (Begins (a ∷ p) (b ∷ s))
    go (inl e) (inl (r, q)) = inl (r, ap (λ u. b ∷ u) q ∙ ap (λ c. c ∷ (p ++ r)) e)
    go (inl e) (inr n) = inr (λ w. n (w.0, cc))
    go (inr e) q = inr (λ w. e cc)

-- the line stands there, or it does not
stands? : (l : Line) (s : List ℕ) → Settles (BeginsWith l s)
unfolding Begins
stands? (Statement st) s = both? (number? st.number) (begins? (line_bytes (Statement st)) s)
stands? (Objection o) s = both? (both? (number? o.objector) (number? o.target)) (begins? (line_bytes (Objection o)) s)

-- some line stands there, or none does
module _ (s : List ℕ) where
  StatementThere : Mark → ℕ → Type 0
  StatementThere m n = BeginsWith (Statement (record { number = n; mark = m })) s

  ObjectionThere : ℕ → ℕ → Type 0
  ObjectionThere y x = BeginsWith (Objection (record { objector = y; target = x })) s

  statement? : (m : Mark) → Settles ((n : ℕ) × (n < numbers_end) × StatementThere m n)
  unfolding StatementThere
  statement? m = below? numbers_end (StatementThere m) (λ n. stands? (Statement (record { number = n; mark = m })) s)

  objection? : Settles ((y : ℕ) × (y < numbers_end) × ((x : ℕ) × (x < numbers_end) × ObjectionThere y x))
  unfolding ObjectionThere
  objection? =
      below? numbers_end (λ y. (x : ℕ) × (x < numbers_end) × ObjectionThere y x)
      (λ y. below? numbers_end (ObjectionThere y) (λ x. stands? (Objection (record { objector = y; target = x })) s))

  pub line? : ((l : Line) × BeginsWith l s) ⊎ ((l : Line) → ¬ BeginsWith l s)
  unfolding StatementThere ObjectionThere
  line? = go (statement? Read) (statement? Unread) objection?
    where
      go : Settles ((n : ℕ) × (n < numbers_end) × StatementThere Read n)
          → Settles ((n : ℕ) × (n < numbers_end) × StatementThere Unread n)
          → Settles ((y : ℕ) × (y < numbers_end) × ((x : ℕ) × (x < numbers_end) × ObjectionThere y x))
          → ((l : Line) × BeginsWith l s) ⊎ ((l : Line) → ¬ BeginsWith l s)
      go (inl (n, h, b)) q r = inl (Statement (record { number = n; mark = Read }), b)
      go (inr p) (inl (n, h, b)) r = inl (Statement (record { number = n; mark = Unread }), b)
      go (inr p) (inr q) (inl (y, h, (x, k, b))) = inl (Objection (record { objector = y; target = x }), b)
      go (inr p) (inr q) (inr r) = inr none
        where
          no_statement : (m : Mark) (n : ℕ) → ¬ BeginsWith (Statement (record { number = n; mark = m })) s
          no_statement Read n b = p (n, number_below n b.0, b)
          no_statement Unread n b = q (n, number_below n b.0, b)

          none : (l : Line) → ¬ BeginsWith l s
          none (Statement st) b = no_statement st.mark st.number b
          none (Objection o) b =
              r (o.objector, number_below o.objector b.0.0, (o.target, number_below o.target b.0.1, b))

pub issued? : (R : Register) (n : ℕ) → Settles (OnRegister R n)
issued? R n = below? (length (numbers R)) (λ i. get_or (numbers R) i 0 ≡ n) (λ i. same? (get_or (numbers R) i 0) n)

pub has? : (R : Register) (y x : ℕ) → Settles (Has R y x)
has? R y x =
    go (below? (length R.objections) (λ k. (get_or (objector_numbers R) k 0 ≡ y) × (get_or (target_numbers R) k 0 ≡ x))
    (λ k. both? (same? (get_or (objector_numbers R) k 0) y) (same? (get_or (target_numbers R) k 0) x)))
  where
    go : Settles ((k : ℕ) × (k < length R.objections) × ((get_or (objector_numbers R) k 0 ≡ y)
        × (get_or (target_numbers R) k 0 ≡ x))) → Settles (Has R y x)
    go (inl (k, h, (a, b))) = inl (k, h, a, b)
    go (inr n) = inr (λ w. n (w.0, w.1, (w.2, w.3)))

-- Accepted, or refused.
abbrev pub Settled : List ℕ → Type 0
Settled s = ((R : Register) × Accepts s R) ⊎ ((r : TextFault) × Refuses s r)

nil : (u : List ℕ) → u ++ [] ≡ u
nil [] = refl
nil (b ∷ u) = ap (λ v. b ∷ v) (nil u)

-- a text that fits and is ended, line by line
module _ (s : List ℕ) (fits : length s ≤ 65535) (ended : ¬ NotEnded s) where
  reached : (R : Register) (rest : List ℕ) (Fault : Register → List ℕ → Type 0) → Valid R → s ≡ written R ++ rest → Fault R rest
      → FaultAt s (suc (length R.statements + length R.objections)) Fault
  reached R rest Fault v e f =
      record { fits = fits; ended = ended; before = R; rest = rest; valid = v; is_written = e; line = refl; fault = f }

  -- what is left after a line is shorter
  further : (l : Line) (rest left : List ℕ) → rest ≡ line_bytes l ++ left → length left < length rest
  further (Statement st) rest left e = omega (arith, ap length e, length-append (line_bytes (Statement st)) left)
  further (Objection o) rest left e = omega (arith, ap length e, length-append (line_bytes (Objection o)) left)

  passed : (a b rest left : List ℕ) (l : Line) → b ≡ a ++ line_bytes l → s ≡ a ++ rest → rest ≡ line_bytes l ++ left → s ≡ b ++
      left
  passed a b rest left l w e f = e ∙ ap (λ u. a ++ u) f ∙ sym (append_assoc a (line_bytes l) left) ∙ ap (λ u. u ++ left) (sym w)

  -- one line, from a register that was read so far; `again` settles what is left behind it
  module _ (R : Register) (rest : List ℕ) (v : Valid R) (e : s ≡ written R ++ rest)
      (again : (Q : Register) (left : List ℕ) → length left < length rest → Valid Q → s ≡ written Q ++ left → Settled s) where
    k : ℕ
    k = suc (length R.statements + length R.objections)

    statement : (st : StatementLine) → BeginsWith (Statement st) rest → Settles (0 < length R.objections)
        → Settles (length R.statements < 1024) → Settles (OnRegister R st.number) → Settled s
    unfolding k
    statement st g (inl late) q i = inr (Late k, reached R rest _ v e (st, g, late))
    statement st g (inr none) (inr q) i = inr (Statements k, reached R rest _ v e (st, g, (omega arith, omega arith)))
    statement st g (inr none) (inl q) (inl i) = inr (Issued k, reached R rest _ v e (st, g, (omega arith, q, i)))
    statement st g (inr none) (inl q) (inr i) =
        let is : R ≡ bare R.statements = no_objections R (omega arith) in
        again (with_statement_lem R.statements st) g.1.0 (further (Statement st) rest g.1.0 g.1.1)
        (valid_statement R.statements st (subst Valid is v) g.0 q (subst (λ Q. ¬ OnRegister Q st.number) is i))
        (passed (written (bare R.statements)) (written (with_statement_lem R.statements st)) rest g.1.0 (Statement st)
        (written_statement R.statements st) (subst (λ Q. s ≡ written Q ++ rest) is e) g.1.1)

    objection : (o : ObjectionLine) → BeginsWith (Objection o) rest → Settles (length R.objections < 4096)
        → Settles (OnRegister R o.objector × OnRegister R o.target) → Settles (Has R o.objector o.target) → Settled s
    unfolding k
    objection o g (inr q) i a = inr (Objections k, reached R rest _ v e (o, g, omega arith))
    objection o g (inl q) (inr i) a = inr (Unknown k, reached R rest _ v e (o, g, (q, i)))
    objection o g (inl q) (inl (y, x)) (inl a) = inr (Repeated k, reached R rest _ v e (o, g, (q, y, x, a)))
    objection o g (inl q) (inl (y, x)) (inr a) =
        again (with_objection_lem R o) g.1.0 (further (Objection o) rest g.1.0 g.1.1) (valid_objection R o v q y x a)
        (passed (written R) (written (with_objection_lem R o)) rest g.1.0 (Objection o) (written_objection R o) e g.1.1)

    next : 0 < length rest → ((l : Line) × BeginsWith l rest) ⊎ ((l : Line) → ¬ BeginsWith l rest) → Settled s
    unfolding k
    next h (inr none) = inr (Spoiled k, reached R rest _ v e (h, none))
    next h (inl (Statement st, g)) =
        statement st g (less? 0 (length R.objections)) (less? (length R.statements) 1024) (issued? R st.number)
    next h (inl (Objection o, g)) =
        objection o g (less? (length R.objections) 4096) (both? (issued? R o.objector) (issued? R o.target))
        (has? R o.objector o.target)

  step : (R : Register) (rest : List ℕ) → Valid R → s ≡ written R ++ rest
      → ((Q : Register) (left : List ℕ) → length left < length rest → Valid Q → s ≡ written Q ++ left → Settled s) → Settled s
  step R [] v e again = inl (R, record { fits = fits; valid = v; is_written = e ∙ nil (written R) })
  step R (b ∷ t) v e again = next R (b ∷ t) v e again (omega arith) (line? (b ∷ t))

  settle : (n : ℕ) (R : Register) (rest : List ℕ) → length rest ≤ n → Valid R → s ≡ written R ++ rest → Settled s
  settle zero R rest h v e = step R rest v e (λ Q left l w f. absurd (omega arith))
  settle (suc n) R rest h v e = step R rest v e (λ Q left l w f. settle n Q left (omega arith) w f)

pub ended? : (s : List ℕ) → Settles (NotEnded s)
ended? s = both? (less? 0 (length s)) (differ (same? (get_or s (length s - 1) 0) 10))
  where
    differ : {P : Type 0} → Settles P → Settles (¬ P)
    differ (inl p) = inr (λ n. n p)
    differ (inr n) = inl n

-- Every text is accepted or refused.
pub settled : (s : List ℕ) → Settled s
unfolding bytes
settled s = go (less? 65535 (length s)) (ended? s)
  where
    go : Settles (65535 < length s) → Settles (NotEnded s) → Settled s
    go (inl long) q = inr (TooLong, long)
    go (inr short) (inl q) = inr (Unended, (omega arith, q))
    go (inr short) (inr q) = settle s (omega arith) q (length s) (bare []) s (omega arith) empty_valid written_empty
      where
        written_empty : s ≡ written (bare []) ++ s
        written_empty = refl
