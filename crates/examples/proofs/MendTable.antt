-- A test of mended texts that computes, and why a row that passes it holds. The lines of a text are only guessed, and the test
-- holds the guess against its bytes; what is mended and reported of them is computed by the meanings themselves.
use mathlib.Core.Bool.{Bool, true, false, cond, not, ◌&&◌, ◌||◌}
use mathlib.Core.List.{List, [], ◌∷◌, ◌++◌}
use mathlib.Core.Path.{refl, ap, sym, subst, ◌≡◌, ◌∙◌}
use Prim.Native.Nat.{ℕ, zero, suc, ◌<◌}
use native.Mathlib.Nat.{not-suc-le-zero, le_of_suc-le-suc}
use lib.Dec.{leb, ltb, eqb, T, eqb→eq, leb→le, ltb→lt, T_not}
use lib.ListN.{length, get_or, drop}
use lib.Seq.{drop-append_seam}
use Rattle.game.specs.Book.{any}
use Rattle.game.proofs.Search.{both, or_left, or_right}
use Rattle.register.specs.Texts.{pick_bytes, decimal, decimal_in, rows_to}
use Rattle.register.specs.Number.{number_bytes}
use Rattle.register.specs.Lines.{line_bytes}
use Rattle.register.specs.Register.{bytes, written}
use Rattle.register.proofs.Decimals.{spell}
use Rattle.register.proofs.Number.{number_test, spell_number}
use Rattle.register.proofs.Guess.{field, behind, guess_mark, guess_fields, guess_line, ahead, formed_test, begins_test}
use Rattle.register.proofs.Guess.{begins_tested}
use Rattle.register.proofs.Guess.{spoiled_test, spoiled_tested}
use Rattle.mend.specs.TextLines.{TextLine, good, spoiled, unended, Unbroken, LinesOf}
use Rattle.mend.specs.Fate.{Fate, kept, moved, dropped, unended_line, spoiled_line, second_statement, statement_limit}
use Rattle.mend.specs.Fate.{unknown_number, repeat, objection_limit}
use Rattle.mend.specs.Mended.{settle_statement, settle_objection, with_statements, with_objections, fates_from, fates, mended}
use Rattle.mend.specs.Report.{report_row, report_of}
use Rattle.examples.specs.Table.{ascii, in_parts, Every}
use Rattle.examples.specs.MendTable.{MendRow, mends, Mending, mendings}
use Rattle.examples.proofs.Rows.{pass, pass_is}
use Rattle.examples.proofs.Text.{behind_line, line_count, unended_test, same, same_is, equal}

-- The guess: a line that stands there is good; any other is spoiled, or unended if no byte 10 follows.
unfoldable pub ended_test : List ℕ → Bool
ended_test [] = false
ended_test (b ∷ s) = eqb b 10 || ended_test s

abbrev pub text_line : List ℕ → TextLine
text_line s = cond (begins_test (guess_line s) s) (good (guess_line s)) (cond (ended_test s) spoiled unended)

unfoldable pub text_lines : ℕ → List ℕ → List TextLine
text_lines zero s = []
text_lines (suc n) s = text_line s ∷ text_lines n (behind_line s)

unfoldable pub lines_in : List ℕ → List TextLine
lines_in s = text_lines (cond (unended_test s) (suc (line_count s)) (line_count s)) s

-- what stands before the first byte 10
before : List ℕ → List ℕ
before [] = []
before (b ∷ s) = pick_bytes (eqb b 10) [] (b ∷ before s)

abbrev Cut : List ℕ → List ℕ → List ℕ → Type 0
Cut s w rest = Unbroken w × (s ≡ w ++ (10 ∷ rest))

cut : (s : List ℕ) → T (ended_test s) → Cut s (before s) (behind_line s)
unfolding ended_test before behind_line
cut [] t = absurd t
cut (b ∷ s) t = go (eqb b 10) refl (cut s)
  where
    more : T (not (eqb b 10)) → (w : List ℕ) → Unbroken w → Unbroken (b ∷ w)
    more n w u zero h e = T_not (eqb b 10) n (equal e)
    more n w u (suc i) h e = u i (le_of_suc-le-suc h) e

    go : (c : Bool) → eqb b 10 ≡ c → (T (ended_test s) → Cut s (before s) (behind_line s))
        → Cut (b ∷ s) (pick_bytes c [] (b ∷ before s)) (pick_bytes c s (behind_line s))
    go true e on = ((λ i h. absurd (not-suc-le-zero h)), ap (λ c. c ∷ s) (eqb→eq b 10 (subst T (sym e) tt)))
    go false e on =
        let (u, q) = on (subst (λ c. T (c || ended_test s)) e t) in
        (more (subst (λ c. T (not c)) (sym e) tt) (before s) u, ap (λ r. b ∷ r) q)

uncut : (s : List ℕ) → T (not (ended_test s)) → Unbroken s
unfolding ended_test
uncut s t i h e = T_not (ended_test s) t (there s i h e)
  where
    there : (s : List ℕ) (i : ℕ) → i < length s → get_or s i 0 ≡ 10 → T (ended_test s)
    there [] i h e = absurd (not-suc-le-zero h)
    there (b ∷ s) zero h e = or_left (eqb b 10) (ended_test s) (equal e)
    there (b ∷ s) (suc i) h e = or_right (eqb b 10) (ended_test s) (there s i (le_of_suc-le-suc h) e)

-- the lines are those of the text
abbrev pub none_test : List TextLine → Bool
none_test [] = true
none_test (l ∷ ls) = false

none_tested : (ls : List TextLine) → T (none_test ls) → ls ≡ []
none_tested [] t = refl
none_tested (l ∷ ls) t = absurd t

unfoldable pub lines_test : List ℕ → List TextLine → Bool
lines_test s [] = same s []
lines_test s (good l ∷ ls) = begins_test l s && lines_test (drop (length (line_bytes l)) s) ls
lines_test s (spoiled ∷ ls) = (spoiled_test s && ended_test s) && lines_test (behind_line s) ls
lines_test s (unended ∷ ls) = (ltb 0 (length s) && not (ended_test s)) && none_test ls

pub lines_tested : (s : List ℕ) (ls : List TextLine) → T (lines_test s ls) → LinesOf s ls
unfolding lines_test LinesOf
lines_tested s [] t = same_is s [] t
lines_tested s (good l ∷ ls) t =
    let (p, q) = both (begins_test l s) (lines_test (drop (length (line_bytes l)) s) ls) t in
    let (f, (rest, e)) = begins_tested l s p in
    let left : drop (length (line_bytes l)) s ≡ rest = ap (drop (length (line_bytes l))) e ∙ drop-append_seam (line_bytes l) rest
    in
    (rest, f, e, subst (λ r. LinesOf r ls) left (lines_tested (drop (length (line_bytes l)) s) ls q))
lines_tested s (spoiled ∷ ls) t =
    let (p, q) = both (spoiled_test s && ended_test s) (lines_test (behind_line s) ls) t in
    let (n, e) = both (spoiled_test s) (ended_test s) p in
    let (u, is) = cut s e in
    (before s, behind_line s, u, is, spoiled_tested s n, lines_tested (behind_line s) ls q)
lines_tested s (unended ∷ ls) t =
    let (p, q) = both (ltb 0 (length s) && not (ended_test s)) (none_test ls) t in
    let (h, u) = both (ltb 0 (length s)) (not (ended_test s)) p in
    (ltb→lt 0 (length s) h, uncut s u, none_tested ls q)

-- The row holds: the text is mended so, and this is reported.
mend_test : (s printed report : List ℕ) → List TextLine → Bool
mend_test s printed report ls =
    (leb (length s) 65535 && lines_test s ls) && (same printed (written (mended ls)) && same report (report_of (fates ls)))

passes : MendRow → Bool
passes (mends text printed report) = mend_test (ascii text) (ascii printed) (ascii report) (lines_in (ascii text))

passes_is : (r : MendRow) → T (passes r) → Mending r
unfolding passes mend_test
passes_is (mends text printed report) t =
    let s : List ℕ = ascii text in
    let ls : List TextLine = lines_in s in
    let (p, q) = both (leb (length s) 65535 && lines_test s ls)
    (same (ascii printed) (written (mended ls)) && same (ascii report) (report_of (fates ls))) t in
    let (h, l) = both (leb (length s) 65535) (lines_test s ls) p in
    let (m, r) = both (same (ascii printed) (written (mended ls))) (same (ascii report) (report_of (fates ls))) q in (
      leb→le (length s) 65535 h,
      (
        ls,
        lines_tested s ls l,
        same_is (ascii printed) (written (mended ls)) m,
        same_is (ascii report) (report_of (fates ls)) r,
      ),
    )

-- Every row holds.
pub mendings_hold : Every Mending mendings
unfolding mendings passes pass ascii in_parts field behind guess_mark guess_fields guess_line spell
    spell_number ahead formed_test begins_test
    spoiled_test behind_line line_count unended_test same ended_test text_lines lines_in lines_test mend_test
    number_test number_bytes decimal decimal_in bytes any settle_statement settle_objection with_statements with_objections
    fates_from
    rows_to report_row report_of
mendings_hold = pass_is Mending passes passes_is mendings tt

-- The report of nine lines, one for each fate.
unfoldable pub every_fate : List Fate
every_fate =
    kept ∷ moved ∷ dropped unended_line ∷ dropped spoiled_line ∷ dropped second_statement ∷ dropped statement_limit
    ∷ dropped unknown_number ∷ dropped repeat ∷ dropped objection_limit ∷ []

pub every_fate_reported : report_of every_fate
    ≡ ascii (in_parts "2\tmoved\t4\n3\tdropped\t2\n4\tdropped\t3\n5\tdropped\t5\n"
    "6\tdropped\t6\n7\tdropped\t7\n8\tdropped\t8\n9\tdropped\t9\n")
unfolding every_fate ascii in_parts rows_to report_row report_of decimal decimal_in
every_fate_reported = refl
