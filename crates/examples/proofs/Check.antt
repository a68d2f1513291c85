-- Tests of the rows of the first three tables, and that every row holds. What is computed of a text and of its register is held
-- against the row, byte by byte.
use mathlib.Core.Bool.{Bool, true, false, not, ◌&&◌, ◌||◌}
use mathlib.Core.List.{List}
use mathlib.Core.Path.{sym, subst}
use Prim.Native.Nat.{ℕ}
use Prim.Native.String.{String}
use native.Mathlib.Omega.{arith}
use lib.Dec.{leb, T, ltb, leb→le, ltb→lt}
use Rattle.game.specs.Book.{any, all, Listed, book_of, Book, count}
use Rattle.game.specs.Rules.{stands_within, falls_within}
use Rattle.game.specs.Finish.{Finish}
use Rattle.game.proofs.Search.{both, all_at, only_if}
use Rattle.game.proofs.Verdict.{verdict, verdict_by}
use Rattle.game.proofs.Reason.{reaching, belonging, counts}
use Rattle.register.specs.Texts.{decimal, decimal_in}
use Rattle.register.specs.Number.{number_bytes}
use Rattle.register.proofs.Decimals.{spell}
use Rattle.register.proofs.Number.{number_test, spell_number}
use Rattle.register.proofs.Guess.{field, behind, guess_mark, guess_fields, guess_line}
use Rattle.register.specs.Register.{Register, book, bytes, place_of}
use Rattle.listing.specs.Rows.{statement_row, numbers_row, objection_row}
use Rattle.listing.specs.Listing.{objection_rows, IsListing, statement_rows}
use Rattle.reason.specs.Alone.{keep}
use Rattle.reason.specs.Reasons.{IsReason}
use Rattle.sheet.specs.Sheet.{code_at, total}
use Rattle.examples.specs.Table.{ascii, Row, lists, finishes, explains, packs, totals_of, Says, Every, table, reasons}
use Rattle.examples.specs.Table.{sheets, in_parts}
use Rattle.examples.proofs.Rows.{pass, pass_is}
use Rattle.examples.proofs.Text.{behind_line, guess_first, line_count, register_of, same, issued, numbered, differ}
use Rattle.examples.proofs.Text.{known, distinct, ordered, accepted}
use Rattle.examples.proofs.Test.{Test, both_of, so, decided, alike}
use Rattle.examples.proofs.Fault.{text_accepted, place_in, placed_there, counted}
use Rattle.examples.proofs.Told.{listing_of, listing_is, reason_of, reason_is, inside, coded, packed, packed_is}

or_second : (a b : Bool) → T (not a) → T (a || b) → T b
or_second true b n t = absurd n
or_second false b n t = t

-- The book F is a finish of the book B.
module _ (B F : Book) where
  kept : ℕ → ℕ → Bool
  kept x y = not (B.objects y x) || F.objects y x

  added : ℕ → ℕ → Bool
  added x y = not (F.objects y x) || (ltb y B.size && B.objects y x)

  finishing : Bool
  finishing =
      (leb B.size F.size && all F.size (λ x. not (F.unread x)))
      && all B.size (λ x. all B.size (kept x) && (B.unread x || all F.size (added x)))

  finishing_is : T finishing → Finish B F
  unfolding finishing kept added
  finishing_is t =
      let (p, each) = both (leb B.size F.size && all F.size (λ x. not (F.unread x)))
      (all B.size (λ x. all B.size (kept x) && (B.unread x || all F.size (added x)))) t in
      let (m, r) = both (leb B.size F.size) (all F.size (λ x. not (F.unread x))) p in
      let at : (x : ℕ) → Listed B x → T (all B.size (kept x))
      × T (B.unread x || all F.size (added x)) = λ x h. both (all B.size (kept x))
      (B.unread x || all F.size (added x)) (all_at B.size
      (λ x. all B.size (kept x) && (B.unread x || all F.size (added x))) each x h) in
      record {
        more = leb→le B.size F.size m;
        keeps =
            λ y x h o. (
              omega (arith, leb→le B.size F.size m, o.0),
              only_if (B.objects y x) (F.objects y x) (all_at B.size (kept x) (at x h).0 y o.0) o.1,
            );
        adds_none = λ y x h read o.
            let none_added : T (all F.size (added x)) = or_second (B.unread x) (all F.size (added x)) read (at x h).1 in
            let (l, u) = both (ltb y B.size) (B.objects y x) (only_if (F.objects y x) (ltb y B.size && B.objects y x)
            (all_at F.size (added x) none_added y o.0) o.1) in
            (ltb→lt y B.size l, u);
        read = λ x h. all_at F.size (λ x. not (F.unread x)) r x h;
      }

-- The test of a row.
abbrev pub read_of : String → Register
read_of text = register_of (ascii text)

test_of : (r : Row) → Test (Says r)
test_of (lists text listing) =
    let R : Register = read_of text in
    so (λ (a, e). (R, a, subst (IsListing R) (sym e) (listing_is R a.valid)))
    (both_of (text_accepted (ascii text)) (decided (alike (ascii listing) (listing_of R))))
test_of (finishes text finish listing) =
    let R : Register = read_of text in
    let F : Register = read_of finish in
    so (λ ((a, f), (b, e)). (
      R,
      F,
      a,
      b,
      f,
      subst (IsListing F) (sym e) (listing_is F b.valid),
    ))
    (both_of (both_of (text_accepted (ascii text)) (record {
      passes = finishing (book R) (book F);
      is = finishing_is (book R) (book F);
    })) (both_of (text_accepted (ascii finish)) (decided (alike (ascii listing) (listing_of F)))))
test_of (explains text number reason) =
    let R : Register = read_of text in
    let x : ℕ = place_in R number in
    so (λ (a, (p, e)). (
      R,
      a,
      (x, p, subst (IsReason R x) (sym e) (reason_is R a.valid x (counted R number x p))),
    ))
    (both_of (text_accepted (ascii text)) (both_of (placed_there R number) (decided (alike (ascii reason) (reason_of R x)))))
test_of (packs text sheet totals) =
    let R : Register = read_of text in
    so (λ (a, (p, e)). (R, a, p, e))
    (both_of (text_accepted (ascii text)) (both_of (record { passes = packed R sheet; is = packed_is R sheet })
    (decided (alike totals (totals_of sheet (book R).size)))))

holds : (rs : List Row) → T (pass (λ r. (test_of r).passes) rs) → Every Says rs
holds = pass_is Says (λ r. (test_of r).passes) (λ r t. (test_of r).is t)

-- Every example that 01 marks P holds.
pub table_holds : Every Says table
unfolding table in_parts ascii field behind guess_mark guess_fields guess_line spell
    spell_number behind_line guess_first line_count register_of
    same issued numbered differ known distinct ordered accepted kept added finishing test_of pass any all book_of stands_within
    falls_within verdict verdict_by
    number_test number_bytes decimal decimal_in bytes place_of numbers_row statement_row statement_rows objection_row
    objection_rows
table_holds = holds table tt

pub reasons_hold : Every Says reasons
unfolding reasons in_parts ascii field behind guess_mark guess_fields guess_line spell
    spell_number behind_line guess_first line_count register_of
    same issued numbered differ known distinct ordered accepted inside test_of pass any all book_of stands_within falls_within
    verdict verdict_by
    number_test number_bytes decimal decimal_in bytes place_of statement_row objection_row objection_rows keep counts belonging
    reaching
reasons_hold = holds reasons tt

pub sheets_hold : Every Says sheets
unfolding sheets ascii field behind guess_mark guess_fields guess_line spell
    spell_number behind_line guess_first line_count register_of
    same issued numbered differ known distinct ordered accepted
    coded packed code_at total count test_of pass any all book_of stands_within falls_within verdict verdict_by
    number_test number_bytes decimal decimal_in bytes place_of
sheets_hold = holds sheets tt
