-- A text is read in one way: it is the written form of one register at most, it is never both accepted and refused, and it
-- gets one refusal at most. Two registers that one text begins with are such that the one's lines go on after the other's,
-- and no row of the table applies to a line with which a register goes on.
use mathlib.Core.List.{List, append_assoc, map, append-nil, [], ◌∷◌, ◌++◌}
use mathlib.Core.Logic.{inl, inr, ◌⊎◌}
use mathlib.Core.Path.{refl, sym, ap, ◌≡◌, subst, subst₃, ◌∙◌}
use Prim.Native.Nat.{ℕ, suc, ◌+◌, ◌-◌, ◌≤◌, ◌<◌}
use native.Mathlib.Omega.{arith}
use lib.ListN.{length, get_or, length-append, get_or-append, length-map}
use lib.Seq.{get_or_at}
use Rattle.register.specs.Number.{IsNumber}
use Rattle.register.specs.Lines.{WellFormed, BeginsWith, line_bytes}
use Rattle.register.specs.declared.StatementLine.{StatementLine}
use Rattle.register.specs.declared.ObjectionLine.{ObjectionLine}
use Rattle.register.specs.declared.Line.{Line}
use Rattle.register.specs.declared.Line.TheVariants.{Statement, Objection}
use Rattle.register.proofs.Lines.{line_once, line_not_empty, line_ended}
use Rattle.register.specs.declared.TextFault.{TextFault}
use Rattle.register.specs.declared.TextFault.TheVariants.{Late, Statements, Issued, Objections, Unknown, Repeated}
use Rattle.register.specs.declared.TextFault.TheVariants.{Spoiled, TooLong, Unended}
use Rattle.register.specs.Register.{bytes, Register, Valid, Issued as OnRegister, lines, objector_numbers, target_numbers}
use Rattle.register.specs.Register.{numbers, Has, written}
use Rattle.register.specs.Reads.{NotEnded, FaultAt, Refuses, Accepts}

-- every line is well formed
abbrev pub Formed : List Line → Type 0
Formed [] = Unit {0}
Formed (l ∷ ls) = WellFormed l × Formed ls

pub formed_append : (ls ms : List Line) → Formed ls → Formed ms → Formed (ls ++ ms)
formed_append [] ms a b = b
formed_append (l ∷ ls) ms (h, a) b = (h, formed_append ls ms a b)

formed_next : (ls : List Line) (l : Line) (ms : List Line) → Formed (ls ++ (l ∷ ms)) → WellFormed l
formed_next [] l ms (h, a) = h
formed_next (m ∷ ls) l ms (h, a) = formed_next ls l ms a

-- The lines ls', with rest' behind them, go on where ls with rest behind them stop: by any number of lines, or by one at
-- least.
abbrev pub GoesOn : List Line → List ℕ → List Line → List ℕ → Type 0
GoesOn ls rest ls' rest' = (more : List Line) × (ls' ≡ ls ++ more) × (rest ≡ bytes more ++ rest')

abbrev pub GoesFurther : List Line → List ℕ → List Line → List ℕ → Type 0
GoesFurther ls rest ls' rest' = (l : Line) × (more : List Line) × (ls' ≡ ls ++ (l ∷ more)) × (rest ≡ bytes (l ∷ more) ++ rest')

-- of two lists of lines that one text begins with, one goes on where the other stops
pub one_goes_on : (ls ls' : List Line) (rest rest' : List ℕ) → Formed ls → Formed ls' → bytes ls ++ rest ≡ bytes ls' ++ rest'
    → GoesOn ls rest ls' rest' ⊎ GoesFurther ls' rest' ls rest
unfolding bytes
one_goes_on [] ls' rest rest' a b e = inl (ls', refl, e)
one_goes_on (l ∷ ls) [] rest rest' a b e = inr (l, ls, refl, sym e)
one_goes_on (l ∷ ls) (l' ∷ ls') rest rest' (h, a) (k, b) e =
    let (f, g) = line_once l l' (bytes ls ++ rest) (bytes ls' ++ rest') h k (simp append_assoc at e) in
    go f (one_goes_on ls ls' rest rest' a b g)
  where
    go : l ≡ l' → GoesOn ls rest ls' rest' ⊎ GoesFurther ls' rest' ls rest → GoesOn (l ∷ ls) rest (l' ∷ ls') rest'
        ⊎ GoesFurther (l' ∷ ls') rest' (l ∷ ls) rest
    go f (inl (more, p, q)) = inl (more, cc, q)
    go f (inr (m, more, p, q)) = inr (m, more, cc, q)

-- the lines of a register within the limits are well formed
statements_formed : (sts : List StatementLine) → ((i : ℕ) → i < length (map (λ (st : StatementLine). st.number) sts)
    → IsNumber (get_or (map (λ (st : StatementLine). st.number) sts) i 0)) → Formed (map Statement sts)
statements_formed [] f = tt
statements_formed (st ∷ sts) f = (f 0 (omega arith), statements_formed sts (λ i h. f (suc i) (omega arith)))

objections_formed : (os : List ObjectionLine) → ((k : ℕ) → k < length os
    → IsNumber (get_or (map (λ (o : ObjectionLine). o.objector) os) k 0)
    × IsNumber (get_or (map (λ (o : ObjectionLine). o.target) os) k 0)) → Formed (map Objection os)
objections_formed [] f = tt
objections_formed (o ∷ os) f = (f 0 (omega arith), objections_formed os (λ k h. f (suc k) (omega arith)))

pub issued_number : (R : Register) → Valid R → (n : ℕ) → OnRegister R n → IsNumber n
issued_number R v n (i, h, e) = rw e at (v.numbered i h)

pub lines_formed : (R : Register) → Valid R → Formed (lines R)
lines_formed R v =
    formed_append (map Statement R.statements) (map Objection R.objections)
    (statements_formed R.statements v.numbered) (objections_formed R.objections known)
  where
    known : (k : ℕ) → k < length R.objections → IsNumber (get_or (objector_numbers R) k 0) × IsNumber
        (get_or (target_numbers R) k 0)
    known k h = (
      issued_number R v (get_or (objector_numbers R) k 0) (v.known k h).0,
      issued_number R v (get_or (target_numbers R) k 0) (v.known k h).1,
    )

-- the statements and the objections among lines
statements_in : List Line → List StatementLine
statements_in [] = []
statements_in (Statement st ∷ ls) = st ∷ statements_in ls
statements_in (Objection o ∷ ls) = statements_in ls

objections_in : List Line → List ObjectionLine
objections_in [] = []
objections_in (Statement st ∷ ls) = objections_in ls
objections_in (Objection o ∷ ls) = o ∷ objections_in ls

statements_of : (sts : List StatementLine) (os : List ObjectionLine) (ls : List Line)
    → statements_in (map Statement sts ++ map Objection os ++ ls) ≡ sts ++ statements_in ls
unfolding statements_in
statements_of [] [] ls = refl
statements_of [] (o ∷ os) ls = statements_of [] os ls
statements_of (st ∷ sts) os ls = ap (λ ms. st ∷ ms) (statements_of sts os ls)

objections_of : (sts : List StatementLine) (os : List ObjectionLine) (ls : List Line)
    → objections_in (map Statement sts ++ map Objection os ++ ls) ≡ os ++ objections_in ls
unfolding objections_in
objections_of [] [] ls = refl
objections_of [] (o ∷ os) ls = ap (λ ms. o ∷ ms) (objections_of [] os ls)
objections_of (st ∷ sts) os ls = objections_of sts os ls

-- a register that goes on has the statements and objections of its further lines behind its own
statements_more : (R R' : Register) (more : List Line) → lines R' ≡ lines R ++ more
    → R'.statements ≡ R.statements ++ statements_in more
unfolding statements_in
statements_more R R' more e =
    sym (ap statements_in (sym (append-nil (lines R'))) ∙ statements_of R'.statements R'.objections []
    ∙ append-nil R'.statements) ∙ ap statements_in e ∙ statements_of R.statements R.objections more

objections_more : (R R' : Register) (more : List Line) → lines R' ≡ lines R ++ more
    → R'.objections ≡ R.objections ++ objections_in more
unfolding objections_in
objections_more R R' more e =
    sym (ap objections_in (sym (append-nil (lines R'))) ∙ objections_of R'.statements R'.objections []
    ∙ append-nil R'.objections) ∙ ap objections_in e ∙ objections_of R.statements R.objections more

pub lines_injective : (R R' : Register) → lines R ≡ lines R' → R ≡ R'
unfolding statements_in objections_in
lines_injective R R' e =
    let f : lines R ≡ lines R' ++ [] = e ∙ sym (append-nil (lines R')) in
    let s : R.statements ≡ R'.statements = statements_more R' R [] f ∙ append-nil R'.statements in
    let o : R.objections ≡ R'.objections = objections_more R' R [] f ∙ append-nil R'.objections in
    λ i. record { statements = s i; objections = o i }

-- at the first objection line the statements are over
until_objection : (sts sts' : List StatementLine) (os' : List ObjectionLine) (o : ObjectionLine) (more : List Line)
    → map Statement sts' ++ map Objection os' ≡ map Statement sts ++ (Objection o ∷ more) → sts' ≡ sts
until_objection [] [] os' o more e = refl
until_objection [] (st' ∷ sts') os' o more e = let z : ◌≡◌ {A = ℕ} 0 1 = cc in absurd (omega arith)
until_objection (st ∷ sts) [] [] o more e = let z : ◌≡◌ {A = ℕ} 0 1 = cc in absurd (omega arith)
until_objection (st ∷ sts) [] (p ∷ os') o more e = let z : ◌≡◌ {A = ℕ} 0 1 = cc in absurd (omega arith)
until_objection (st ∷ sts) (st' ∷ sts') os' o more e =
    let f : sts' ≡ sts = until_objection sts sts' os' o more (cc) in
    cc

-- so after objections, or before one, a register that goes on has no more statements
none_late : (sts sts' : List StatementLine) (os os' : List ObjectionLine) (l : Line) (more : List Line) → 0 < length os
    → map Statement sts' ++ map Objection os' ≡ map Statement sts ++ map Objection os ++ (l ∷ more) → sts' ≡ sts
none_late sts sts' [] os' l more h e = absurd (omega arith)
none_late sts sts' (o ∷ os) os' l more h e =
    until_objection sts sts' os' o (map Objection os ++ (l ∷ more)) (simp append_assoc at e)

statements_over : (sts sts' : List StatementLine) (os os' : List ObjectionLine) (o : ObjectionLine) (more : List Line)
    → map Statement sts' ++ map Objection os' ≡ map Statement sts ++ map Objection os ++ (Objection o ∷ more) → sts' ≡ sts
statements_over sts sts' [] os' o more e = until_objection sts sts' os' o more (simp append_assoc at e)
statements_over sts sts' (p ∷ os) os' o more e =
    until_objection sts sts' os' p (map Objection os ++ (Objection o ∷ more)) (simp append_assoc at e)

map_append : {A B : Type 0} (f : A → B) (s t : List A) → map f (s ++ t) ≡ map f s ++ map f t
map_append f [] t = refl
map_append f (a ∷ s) t = ap (λ bs. f a ∷ bs) (map_append f s t)

-- a list that goes on with one more keeps its own and has that one behind them
module _ {A : Type 0} (s s' t : List A) (a : A) (e : s' ≡ s ++ (a ∷ t)) where
  longer : length s < length s'
  longer = omega (arith, ap length e, length-append s (a ∷ t))

  own_kept : (f : A → ℕ) (i : ℕ) → i < length s → get_or (map f s') i 0 ≡ get_or (map f s) i 0
  own_kept f i h =
      ap (λ ns. get_or ns i 0) (ap (map f) e ∙ map_append f s (a ∷ t))
      ∙ get_or-append (map f s) (f a ∷ map f t) 0 i (omega (arith, length-map s f))

  next_behind : (f : A → ℕ) → get_or (map f s') (length s) 0 ≡ f a
  next_behind f =
      ap (λ ns. get_or ns (length s) 0) (ap (map f) e ∙ map_append f s (a ∷ t))
      ∙ get_or_at (map f s) (f a) (map f t) 0 (length s) (length-map s f)

-- who is on a register, the statements alone say
same_issued : (R R' : Register) (n m : ℕ) → R'.statements ≡ R.statements → m ≡ n → OnRegister R' m → OnRegister R n
same_issued R R' n m e f (i, h, g) =
    let q : numbers R' ≡ numbers R = ap (map (λ (st : StatementLine). st.number)) e in
    (i, omega (arith, ap length q), sym (ap (λ ns. get_or ns i 0) q) ∙ g ∙ f)

-- The rows that ask what the next line is, each with the refusal that it gives at line k.
data Row (R : Register) (k : ℕ) : Line → TextFault → Type 0 where
  late : {st : StatementLine} → 0 < length R.objections → Row R k (Statement st) (Late k)
  many_statements : {st : StatementLine} → length R.objections ≡ 0 → 1024 ≤ length R.statements
      → Row R k (Statement st) (Statements k)
  issued : {st : StatementLine} → length R.objections ≡ 0 → length R.statements < 1024 → OnRegister R st.number
      → Row R k (Statement st) (Issued k)
  many_objections : {o : ObjectionLine} → 4096 ≤ length R.objections → Row R k (Objection o) (Objections k)
  unknown : {o : ObjectionLine} → length R.objections < 4096 → ¬ (OnRegister R o.objector × OnRegister R o.target)
      → Row R k (Objection o) (Unknown k)
  repeated : {o : ObjectionLine} → length R.objections < 4096 → OnRegister R o.objector → OnRegister R o.target
      → Has R o.objector o.target → Row R k (Objection o) (Repeated k)

-- one row applies at most
row_once : {R : Register} {k : ℕ} {l : Line} {r r' : TextFault} → Row R k l r → Row R k l r' → r ≡ r'
row_once (late a) (late b) = refl
row_once (late a) (many_statements b c) = absurd (omega arith)
row_once (late a) (issued b c d) = absurd (omega arith)
row_once (many_statements a b) (late c) = absurd (omega arith)
row_once (many_statements a b) (many_statements c d) = refl
row_once (many_statements a b) (issued c d e) = absurd (omega arith)
row_once (issued a b c) (late d) = absurd (omega arith)
row_once (issued a b c) (many_statements d e) = absurd (omega arith)
row_once (issued a b c) (issued d e f) = refl
row_once (many_objections a) (many_objections b) = refl
row_once (many_objections a) (unknown b c) = absurd (omega arith)
row_once (many_objections a) (repeated b c d e) = absurd (omega arith)
row_once (unknown a b) (many_objections c) = absurd (omega arith)
row_once (unknown a b) (unknown c d) = refl
row_once (unknown a b) (repeated c d e f) = absurd (b (d, e))
row_once (repeated a b c d) (many_objections e) = absurd (omega arith)
row_once (repeated a b c d) (unknown e f) = absurd (f (b, c))
row_once (repeated a b c d) (repeated e f g h) = refl

-- Where R' goes on after R with a statement and is within the limits, no row for statement lines applies to it.
module _ (R R' : Register) (st : StatementLine) (more : List Line) (e : lines R' ≡ lines R ++ (Statement st ∷ more)) where
  further_statement : R'.statements ≡ R.statements ++ (st ∷ statements_in more)
  unfolding statements_in
  further_statement = statements_more R R' (Statement st ∷ more) e

  more_statements : length R.statements < length R'.statements
  more_statements = longer R.statements R'.statements (statements_in more) st further_statement

  not_late : 0 < length R.objections → ⊥
  not_late h =
      omega (
        arith,
        more_statements,
        ap length (none_late R.statements R'.statements R.objections R'.objections
            (Statement st) more h e),
      )

  pub not_issued : Valid R' → OnRegister R st.number → ⊥
  not_issued v (i, h, g) =
      let number : StatementLine → ℕ = λ s. s.number in
      let own : i < length R.statements = omega (arith, length-map R.statements number) in
      let kept = own_kept R.statements R'.statements (statements_in more) st further_statement number i own in
      let next = next_behind R.statements R'.statements (statements_in more) st further_statement number in
      v.once i (length R.statements) own (omega (arith, more_statements, length-map R'.statements number))
      (kept ∙ g ∙ sym next)

-- Where it goes on with an objection, none for objection lines does.
module _ (R R' : Register) (o : ObjectionLine) (more : List Line) (e : lines R' ≡ lines R ++ (Objection o ∷ more)) where
  further_objection : R'.objections ≡ R.objections ++ (o ∷ objections_in more)
  unfolding objections_in
  further_objection = objections_more R R' (Objection o ∷ more) e

  more_objections : length R.objections < length R'.objections
  more_objections = longer R.objections R'.objections (objections_in more) o further_objection

  kept : (f : ObjectionLine → ℕ) (j : ℕ) → j < length R.objections
      → get_or (map f R'.objections) j 0 ≡ get_or (map f R.objections) j 0
  kept = own_kept R.objections R'.objections (objections_in more) o further_objection

  next : (f : ObjectionLine → ℕ) → get_or (map f R'.objections) (length R.objections) 0 ≡ f o
  next = next_behind R.objections R'.objections (objections_in more) o further_objection

  both_known : Valid R' → OnRegister R o.objector × OnRegister R o.target
  both_known v =
      let same = statements_over R.statements R'.statements R.objections R'.objections o more e in
      let (i, j) = v.known (length R.objections) more_objections in (
        same_issued R R' o.objector _ same (next (λ p. p.objector)) i,
        same_issued R R' o.target _ same (next (λ p. p.target)) j,
      )

  not_repeated : Valid R' → Has R o.objector o.target → ⊥
  not_repeated v (j, h, a, b) =
      v.distinct j (length R.objections) h more_objections (kept (λ p. p.objector) j h ∙ a ∙ sym (next (λ p. p.objector)))
      (kept (λ p. p.target) j h ∙ b ∙ sym (next (λ p. p.target)))

no_row : (R R' : Register) (l : Line) (more : List Line) (k : ℕ) (r : TextFault) → Valid R' → lines R' ≡ lines R ++ (l ∷ more)
    → Row R k l r → ⊥
no_row R R' (Statement st) more k r v e (late h) = not_late R R' st more e h
no_row R R' (Statement st) more k r v e (many_statements z h) = omega (arith, v.few_statements, more_statements R R' st more e)
no_row R R' (Statement st) more k r v e (issued z h i) = not_issued R R' st more e v i
no_row R R' (Objection o) more k r v e (many_objections h) = omega (arith, v.few_objections, more_objections R R' o more e)
no_row R R' (Objection o) more k r v e (unknown h n) = n (both_known R R' o more e v)
no_row R R' (Objection o) more k r v e (repeated h i j p) = not_repeated R R' o more e v p

-- What stops the reading at line k: no line, or a line to which a row applies.
data Stop (R : Register) (rest : List ℕ) (k : ℕ) : TextFault → Type 0 where
  no_line : 0 < length rest → ((l : Line) → ¬ BeginsWith l rest) → Stop R rest k (Spoiled k)
  by_row : {r : TextFault} (l : Line) → BeginsWith l rest → Row R k l r → Stop R rest k r

stop_once : {R : Register} {rest : List ℕ} {k : ℕ} {r r' : TextFault} → Stop R rest k r → Stop R rest k r' → r ≡ r'
stop_once (no_line h f) (no_line i g) = refl
stop_once (no_line h f) (by_row l b a) = absurd (f l b)
stop_once (by_row l b a) (no_line h f) = absurd (f l b)
stop_once {R} {k = k} {r' = r'} (by_row l (h, (t, e)) a) (by_row l' (h', (t', e')) a') =
    row_once a (subst (λ m. Row R k m r') (line_once l' l t' t h' h (sym e' ∙ e)).0 a')

-- reading does not stop where the text goes on with a line of a register within the limits
no_stop : (R R' : Register) (rest t : List ℕ) (l : Line) (more : List Line) (k : ℕ) (r : TextFault) → Valid R'
    → lines R' ≡ lines R ++ (l ∷ more) → rest ≡ bytes (l ∷ more) ++ t → Stop R rest k r → ⊥
unfolding bytes
no_stop R R' rest t l more k r v e f s = go s
  where
    next : BeginsWith l rest
    next = (
      formed_next (lines R) l more (subst Formed e (lines_formed R' v)),
      (bytes more ++ t, f ∙ append_assoc (line_bytes l) (bytes more) t),
    )

    go : {b : TextFault} → Stop R rest k b → ⊥
    go (no_line h g) = g l next
    go {b} (by_row m (h, (u, d)) a) =
        no_row R R' l more k b v e (subst (λ n. Row R k n b) (line_once m l u next.1.0 h next.0 (sym d ∙ next.1.1)).0 a)

-- at the end of the text no line stands, and reading does not stop
not_at_end : (l : Line) (more : List Line) (t : List ℕ) → [] ≡ bytes (l ∷ more) ++ t → ⊥
unfolding bytes
not_at_end l more t e =
    omega (arith, ap length (e ∙ append_assoc (line_bytes l) (bytes more) t), line_not_empty l (bytes more ++ t))

stop_inside : {R : Register} {rest : List ℕ} {k : ℕ} {r : TextFault} → Stop R rest k r → 0 < length rest
stop_inside (no_line h f) = h
stop_inside (by_row l (h, (t, e)) a) = omega (arith, ap length e, line_not_empty l t)

-- Why a text is refused: the first two rows, or the line at which its reading stops.
data Cause (s : List ℕ) : TextFault → Type 0 where
  too_long : 65535 < length s → Cause s TooLong
  unended : length s ≤ 65535 → NotEnded s → Cause s Unended
  stopped : {r : TextFault} (k : ℕ) → FaultAt s k (λ R rest. Stop R rest k r) → Cause s r

reached_as : {s : List ℕ} {k : ℕ} {F G : Register → List ℕ → Type 0} → ((R : Register) (rest : List ℕ) → F R rest → G R rest)
    → FaultAt s k F → FaultAt s k G
reached_as f p =
    record {
      fits = p.fits;
      ended = p.ended;
      before = p.before;
      rest = p.rest;
      valid = p.valid;
      is_written = p.is_written;
      line = p.line;
      fault = f p.before p.rest p.fault;
    }

cause : (s : List ℕ) (r : TextFault) → Refuses s r → Cause s r
cause s TooLong h = too_long h
cause s Unended (h, n) = unended h n
cause s (Spoiled k) p = stopped k (reached_as (λ R rest a. no_line a.0 a.1) p)
cause s (Late k) p = stopped k (reached_as (λ R rest a. by_row (Statement a.0) a.1 (late a.2)) p)
cause s (Statements k) p =
    stopped k (reached_as (λ R rest a. by_row (Statement a.0) a.1 (many_statements a.2.0 a.2.1)) p)
cause s (Issued k) p =
    stopped k (reached_as (λ R rest a. by_row (Statement a.0) a.1 (issued a.2.0 a.2.1 a.2.2)) p)
cause s (Objections k) p = stopped k (reached_as (λ R rest a. by_row (Objection a.0) a.1 (many_objections a.2)) p)
cause s (Unknown k) p = stopped k (reached_as (λ R rest a. by_row (Objection a.0) a.1 (unknown a.2.0 a.2.1)) p)
cause s (Repeated k) p =
    stopped k (reached_as (λ R rest a. by_row (Objection a.0) a.1 (repeated a.2.0 a.2.1 a.2.2 a.2.3)) p)

-- the reading stops at one line, for one reason
stopped_once : (s : List ℕ) (k k' : ℕ) (r r' : TextFault) → FaultAt s k (λ R rest. Stop R rest k r)
    → FaultAt s k' (λ R rest. Stop R rest k' r') → r ≡ r'
unfolding bytes
stopped_once s k k' r r' p q =
    go (one_goes_on (lines p.before) (lines q.before) p.rest q.rest (lines_formed p.before p.valid)
    (lines_formed q.before q.valid) (sym p.is_written ∙ q.is_written))
  where
    go : GoesOn (lines p.before) p.rest (lines q.before) q.rest
        ⊎ GoesFurther (lines q.before) q.rest (lines p.before) p.rest → r ≡ r'
    go (inl ([], e, f)) =
        let same : q.before ≡ p.before = lines_injective q.before p.before (e ∙ append-nil (lines p.before)) in
        let line : k' ≡ k = q.line ∙ ap (λ R. suc (length R.statements + length R.objections)) same ∙ sym p.line in
        stop_once p.fault (subst₃ (λ R rest n. Stop R rest n r') same (sym f) line q.fault)
    go (inl (l ∷ more, e, f)) = absurd (no_stop p.before q.before p.rest q.rest l more k r q.valid e f p.fault)
    go (inr (l, more, e, f)) = absurd (no_stop q.before p.before q.rest p.rest l more k' r' p.valid e f q.fault)

-- a written text is ended by byte 10
bytes_ended : (l : Line) (ls : List Line) → (b : List ℕ) × (bytes (l ∷ ls) ≡ b ++ (10 ∷ []))
unfolding bytes
bytes_ended l [] = let (b, e) = line_ended l in (b, append-nil (line_bytes l) ∙ e)
bytes_ended l (m ∷ ls) =
    let (b, e) = bytes_ended m ls in (
      line_bytes l ++ b,
      ap (λ bs. line_bytes l ++ bs) e
          ∙ sym (append_assoc (line_bytes l) b (10 ∷ [])),
    )

pub lines_ended : (ls : List Line) → NotEnded (bytes ls) → ⊥
unfolding bytes
lines_ended [] (h, n) = omega arith
lines_ended (l ∷ ls) (h, n) =
    let (b, e) = bytes_ended l ls in
    n (ap (λ bs. get_or bs (length bs - 1) 0) e ∙ get_or_at b 10 [] 0 (length (b ++ (10 ∷ [])) - 1)
    (omega (arith, length-append b (10 ∷ []))))

pub written_ended : (R : Register) → Valid R → NotEnded (written R) → ⊥
written_ended R v n = lines_ended (lines R) n

pub accepts_once : (s : List ℕ) (R R' : Register) → Accepts s R → Accepts s R' → R ≡ R'
unfolding bytes
accepts_once s R R' a b =
    go (one_goes_on (lines R) (lines R') [] [] (lines_formed R a.valid) (lines_formed R' b.valid)
    (append-nil (written R) ∙ sym a.is_written ∙ b.is_written ∙ sym (append-nil (written R'))))
  where
    go : GoesOn (lines R) [] (lines R') [] ⊎ GoesFurther (lines R') [] (lines R) [] → R ≡ R'
    go (inl ([], e, f)) = lines_injective R R' (sym (e ∙ append-nil (lines R)))
    go (inl (l ∷ more, e, f)) = absurd (not_at_end l more [] f)
    go (inr (l, more, e, f)) = absurd (not_at_end l more [] f)

pub not_both : (s : List ℕ) (R : Register) (r : TextFault) → Accepts s R → Refuses s r → ⊥
unfolding bytes
not_both s R r a p = by (cause s r p)
  where
    at_end : (b : TextFault) (k : ℕ) (q : FaultAt s k (λ B rest. Stop B rest k b))
        → GoesOn (lines q.before) q.rest (lines R) [] ⊎ GoesFurther (lines R) [] (lines q.before) q.rest → ⊥
    at_end b k q (inl ([], e, f)) = omega (arith, ap length f, stop_inside q.fault)
    at_end b k q (inl (l ∷ more, e, f)) = no_stop q.before R q.rest [] l more k b a.valid e f q.fault
    at_end b k q (inr (l, more, e, f)) = not_at_end l more q.rest f

    by : {b : TextFault} → Cause s b → ⊥
    by (too_long h) = omega (arith, a.fits)
    by (unended h n) = written_ended R a.valid (subst NotEnded a.is_written n)
    by {b} (stopped k q) =
        at_end b k q (one_goes_on (lines q.before) (lines R) q.rest [] (lines_formed q.before q.valid)
        (lines_formed R a.valid) (sym q.is_written ∙ a.is_written ∙ sym (append-nil (written R))))

pub refuses_once : (s : List ℕ) (r r' : TextFault) → Refuses s r → Refuses s r' → r ≡ r'
refuses_once s r r' p q = go (cause s r p) (cause s r' q)
  where
    go : {a b : TextFault} → Cause s a → Cause s b → a ≡ b
    go (too_long h) (too_long i) = refl
    go (too_long h) (unended i n) = absurd (omega arith)
    go (too_long h) (stopped k p) = absurd (omega (arith, p.fits))
    go (unended h n) (too_long i) = absurd (omega arith)
    go (unended h n) (unended i m) = refl
    go (unended h n) (stopped k p) = absurd (p.ended n)
    go (stopped k p) (too_long h) = absurd (omega (arith, p.fits))
    go (stopped k p) (unended h n) = absurd (p.ended n)
    go (stopped k p) (stopped j q) = stopped_once s k j _ _ p q
