-- Every text has its lines, and has them once; what its first line is, by the bytes it begins with.
use mathlib.Core.List.{List, append_assoc, map, [], ◌∷◌, ◌++◌}
use mathlib.Core.Logic.{inr, inl, ◌⊎◌}
use mathlib.Core.Path.{ap, refl, sym, subst, ◌≡◌, ◌∙◌}
use Prim.Native.Nat.{ℕ, zero, suc, ◌≤◌, ◌<◌}
use native.Mathlib.Nat.{not-suc-le-zero, le_of_suc-le-suc}
use native.Mathlib.Decide.{ℕ_discrete}
use native.Mathlib.Omega.{arith}
use lib.ListN.{length, length-append, get_or}
use lib.Seq.{get_or_at}
use Rattle.register.specs.Lines.{line_bytes, BeginsWith, WellFormed}
use Rattle.register.specs.declared.Line.{Line}
use Rattle.register.specs.declared.Line.TheVariants.{Statement, Objection}
use Rattle.register.proofs.Lines.{line_ended, line_not_empty, line_once}
use Rattle.register.specs.Register.{bytes}
use Rattle.register.proofs.Unique.{Formed}
use Rattle.register.proofs.Settled.{line?}
use Rattle.mend.specs.TextLines.{Unbroken, TextLine, LinesOf, good, spoiled, unended}

-- the bytes up to the first byte 10, if there is one
first_end : (s : List ℕ) → ((w : List ℕ) × (rest : List ℕ) × Unbroken w × (s ≡ w ++ (10 ∷ rest))) ⊎ Unbroken s
first_end [] = inr (λ i h. absurd (not-suc-le-zero h))
first_end (b ∷ s) = go (ℕ_discrete b 10) (first_end s)
  where
    more : (b ≡ 10 → ⊥) → (w : List ℕ) → Unbroken w → Unbroken (b ∷ w)
    more n w u zero h e = n e
    more n w u (suc i) h e = u i (le_of_suc-le-suc h) e

    go : Dec (b ≡ 10) → ((w : List ℕ) × (rest : List ℕ) × Unbroken w × (s ≡ w ++ (10 ∷ rest))) ⊎ Unbroken s
        → ((w : List ℕ) × (rest : List ℕ) × Unbroken w × (b ∷ s ≡ w ++ (10 ∷ rest))) ⊎ Unbroken (b ∷ s)
    go (yes e) q = inl ([], s, (λ i h. absurd (not-suc-le-zero h)), ap (λ c. c ∷ s) e)
    go (no n) (inl (w, rest, u, e)) = inl (b ∷ w, rest, more n w u, ap (λ t. b ∷ t) e)
    go (no n) (inr u) = inr (more n s u)

-- a byte 10 behind w, so what begins so is broken
broken : (s w rest : List ℕ) → s ≡ w ++ (10 ∷ rest) → Unbroken s → ⊥
broken s w rest e u =
    u (length w) (omega (arith, ap length e, length-append w (10 ∷ rest)))
    (ap (λ t. get_or t (length w) 0) e ∙ get_or_at w 10 rest 0 (length w) refl)

line_breaks : (s : List ℕ) (l : Line) (rest : List ℕ) → s ≡ line_bytes l ++ rest → Unbroken s → ⊥
line_breaks s l rest e u =
    let (b, q) = line_ended l in
    broken s b rest (e ∙ ap (λ t. t ++ rest) q ∙ append_assoc b (10 ∷ []) rest) u

-- what is left behind a line is shorter
pub behind_shorter : (s : List ℕ) (l : Line) (rest : List ℕ) → s ≡ line_bytes l ++ rest → length rest < length s
behind_shorter s (Statement st) rest e = omega (arith, ap length e, length-append (line_bytes (Statement st)) rest)
behind_shorter s (Objection o) rest e = omega (arith, ap length e, length-append (line_bytes (Objection o)) rest)

-- two cuts behind the first byte 10 leave the same
cut_once : (w w' r r' : List ℕ) → Unbroken w → Unbroken w' → w ++ (10 ∷ r) ≡ w' ++ (10 ∷ r') → r ≡ r'
cut_once [] [] r r' u u' e = cc
cut_once [] (b ∷ w') r r' u u' e = let q : b ≡ 10 = cc in absurd (u' 0 (omega arith) q)
cut_once (a ∷ w) [] r r' u u' e = let q : a ≡ 10 = cc in absurd (u 0 (omega arith) q)
cut_once (a ∷ w) (b ∷ w') r r' u u' e =
    cut_once w w' r r' (λ i h. u (suc i) (omega arith)) (λ i h. u' (suc i) (omega arith)) cc

-- Every text has lines.
exist : (n : ℕ) (s : List ℕ) → length s ≤ n → (ls : List TextLine) × LinesOf s ls
unfolding LinesOf
exist zero [] h = ([], refl)
exist zero (b ∷ s) h = absurd (omega arith)
exist (suc n) [] h = ([], refl)
exist (suc n) (b ∷ s) h = go (λ rest l. exist n rest (omega arith)) (line? (b ∷ s)) (first_end (b ∷ s))
  where
    go : ((rest : List ℕ) → length rest < length (b ∷ s) → (ls : List TextLine) × LinesOf rest ls)
        → ((l : Line) × BeginsWith l (b ∷ s)) ⊎ ((l : Line) → ¬ BeginsWith l (b ∷ s))
        → ((w : List ℕ) × (rest : List ℕ) × Unbroken w × (b ∷ s ≡ w ++ (10 ∷ rest))) ⊎ Unbroken (b ∷ s)
        → (ls : List TextLine) × LinesOf (b ∷ s) ls
    go again (inl (l, (f, (rest, e)))) q =
        let (ls, p) = again rest (behind_shorter (b ∷ s) l rest e) in (good l ∷ ls, (rest, f, e, p))
    go again (inr none) (inl (w, rest, u, e)) =
        let (ls, p) = again rest (omega (arith, ap length e, length-append w (10 ∷ rest))) in
        (spoiled ∷ ls, (w, rest, u, e, none, p))
    go again (inr none) (inr u) = (unended ∷ [], (omega arith, u, refl))

pub lines_exist : (s : List ℕ) → (ls : List TextLine) × LinesOf s ls
lines_exist s = exist (length s) s (omega arith)

-- What the first line is.
pub good_first : (s : List ℕ) (ls : List TextLine) (l : Line) (rest : List ℕ) → WellFormed l → s ≡ line_bytes l ++ rest
    → LinesOf s ls → (more : List TextLine) × (ls ≡ good l ∷ more) × LinesOf rest more
unfolding LinesOf
good_first s [] l rest f e p = absurd (omega (arith, ap length p, ap length e, line_not_empty l rest))
good_first s (good l' ∷ ls) l rest f e (rest', f', e', p) =
    let (a, b) = line_once l' l rest' rest f' f (sym e' ∙ e) in (ls, ap (λ k. good k ∷ ls) a, subst (λ r. LinesOf r ls) b p)
good_first s (spoiled ∷ ls) l rest f e (w, r, u, q, none, p) = absurd (none l (f, (rest, e)))
good_first s (unended ∷ ls) l rest f e (h, u, q) = absurd (line_breaks s l rest e u)

pub spoiled_first : (s : List ℕ) (ls : List TextLine) (w rest : List ℕ) → ((l : Line) → ¬ BeginsWith l s) → Unbroken w
    → s ≡ w ++ (10 ∷ rest) → LinesOf s ls → (more : List TextLine) × (ls ≡ spoiled ∷ more) × LinesOf rest more
unfolding LinesOf
spoiled_first s [] w rest none u e p = absurd (omega (arith, ap length p, ap length e, length-append w (10 ∷ rest)))
spoiled_first s (good l ∷ ls) w rest none u e (r, f, q, p) = absurd (none l (f, (r, q)))
spoiled_first s (spoiled ∷ ls) w rest none u e (w', rest', u', e', none', p) =
    (ls, refl, subst (λ r. LinesOf r ls) (cut_once w' w rest' rest u' u (sym e' ∙ e)) p)
spoiled_first s (unended ∷ ls) w rest none u e (h, v, q) = absurd (broken s w rest e v)

pub unended_first : (s : List ℕ) (ls : List TextLine) → 0 < length s → Unbroken s → LinesOf s ls → ls ≡ unended ∷ []
unfolding LinesOf
unended_first s [] h u p = absurd (omega (arith, ap length p))
unended_first s (good l ∷ ls) h u (r, f, q, p) = absurd (line_breaks s l r q u)
unended_first s (spoiled ∷ ls) h u (w, rest, v, e, none, p) = absurd (broken s w rest e u)
unended_first s (unended ∷ ls) h u (k, v, q) = ap (λ m. unended ∷ m) q

pub none_first : (s : List ℕ) (ls : List TextLine) → length s ≡ 0 → LinesOf s ls → ls ≡ []
unfolding LinesOf
none_first s [] h p = refl
none_first s (good l ∷ ls) h (r, f, q, p) = absurd (omega (arith, ap length q, line_not_empty l r))
none_first s (spoiled ∷ ls) h (w, rest, v, e, none, p) = absurd (omega (arith, ap length e, length-append w (10 ∷ rest)))
none_first s (unended ∷ ls) h (k, v, q) = absurd (omega arith)

-- A text has one list of lines.
pub lines_once : (s : List ℕ) (ls ls' : List TextLine) → LinesOf s ls → LinesOf s ls' → ls ≡ ls'
unfolding LinesOf
lines_once s [] ls' p p' = sym (none_first s ls' (ap length p) p')
lines_once s (good l ∷ ls) ls' (rest, f, e, p) p' =
    let (more, q, r) = good_first s ls' l rest f e p' in ap (λ m. good l ∷ m) (lines_once rest ls more p r) ∙ sym q
lines_once s (spoiled ∷ ls) ls' (w, rest, u, e, none, p) p' =
    let (more, q, r) = spoiled_first s ls' w rest none u e p' in ap (λ m. spoiled ∷ m) (lines_once rest ls more p r) ∙ sym q
lines_once s (unended ∷ ls) ls' (h, u, q) p' = ap (λ m. unended ∷ m) q ∙ sym (unended_first s ls' h u p')

-- it has no more lines than bytes
pub few_lines : (s : List ℕ) (ls : List TextLine) → LinesOf s ls → length ls ≤ length s
unfolding LinesOf
few_lines s [] p = omega arith
few_lines s (good l ∷ ls) (rest, f, e, p) = omega (arith, behind_shorter s l rest e, few_lines rest ls p)
few_lines s (spoiled ∷ ls) (w, rest, u, e, none, p) =
    omega (arith, ap length e, length-append w (10 ∷ rest), few_lines rest ls p)
few_lines s (unended ∷ ls) (h, u, q) = omega (arith, ap length q)

-- the lines of what is written, line by line
pub written_lines : (ms : List Line) → Formed ms → LinesOf (bytes ms) (map good ms)
unfolding LinesOf bytes
written_lines [] f = refl
written_lines (l ∷ ms) (f, g) = (bytes ms, f, refl, written_lines ms g)

pub lines_written : (s : List ℕ) (ms : List Line) → LinesOf s (map good ms) → s ≡ bytes ms
unfolding LinesOf bytes
lines_written s [] p = p
lines_written s (l ∷ ms) (rest, f, e, p) = e ∙ ap (λ t. line_bytes l ++ t) (lines_written rest ms p)
