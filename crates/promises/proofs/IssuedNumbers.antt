-- "The program issues no numbers": what a listing, a reason, a line of argument, a mended text and a catalogue have for numbers
-- of statements are numbers that the text issues, and those of an old form stand in its catalogue. From each call's promise, of
-- the bytes or entries that it writes.
use mathlib.Core.List.{List, map, append_assoc, append-nil, [], ◌∷◌, ◌++◌}
use mathlib.Core.Logic.{inl, inr, ◌⊎◌, ◌↔◌}
use mathlib.Core.Path.{ap, refl, subst, sym, ◌≡◌, ◌∙◌}
use Prim.Native.Nat.{ℕ, zero, suc, ◌<◌}
use native.Mathlib.Nat.{not-suc-le-zero, le_of_suc-le-suc}
use native.Mathlib.Omega.{arith}
use lib.ListN.{length, length-map, get_or, take, drop, get_or-append}
use Rattle.game.specs.Book.{book_of}
use Rattle.game.specs.Account.{verdict_account, kind_account}
use Rattle.game.specs.Reason.{InReason}
use Rattle.game.proofs.Argument.{line_listed}
use Rattle.register.specs.Number.{IsNumber, number_bytes}
use Rattle.register.specs.Lines.{line_bytes, mark_byte}
use Rattle.register.specs.Texts.{rows_to}
use Rattle.register.specs.declared.StatementLine.{StatementLine}
use Rattle.register.specs.declared.ObjectionLine.{ObjectionLine}
use Rattle.register.specs.declared.Line.{Line}
use Rattle.register.specs.declared.Line.TheVariants.{Statement, Objection}
use Rattle.register.specs.Register.{Register, Valid, Issued, bare, book, numbers, lines, written, objector_numbers}
use Rattle.register.specs.Register.{target_numbers, objectors_of, targets_of}
use Rattle.register.specs.Reads.{Accepts}
use Rattle.register.proofs.Lines.{line_ended}
use Rattle.register.proofs.Order.{mapped, numbers_counted, marks_counted}
use Rattle.register.proofs.Unique.{lines_formed, issued_number}
use Rattle.listing.specs.Rows.{header}
use Rattle.catalogue.specs.Cards.{Card, CardFormed, Each}
use Rattle.catalogue.specs.Regrouped.{against, card_of, cards, catalogued}
use Rattle.catalogue.proofs.Against.{each_of, each_against, each_weaker}
use Rattle.catalogue.proofs.Regrouped.{same_statements}
use Rattle.mend.specs.TextLines.{TextLine, LinesOf, StatementAt, good, spoiled, unended}
use Rattle.mend.specs.Mended.{mended}
use Rattle.mend.proofs.TextLines.{lines_once, written_lines}
use Rattle.mend.proofs.Valid.{mended_valid}
use Rattle.mend.proofs.IssuedLines.{issued_line, line_issued, mended_line}
use Rattle.std.specs.Prelude.{Ok}
use Rattle.promises.specs.ArgumentCalls.{TextArgument, by_number}
use Rattle.promises.specs.ListingCalls.{TextListing}
use Rattle.promises.specs.ReasonCalls.{TextReason}
use Rattle.promises.specs.MendCalls.{Lent, TextMend}
use Rattle.promises.specs.CatalogueCalls.{TextCatalogue, CatalogueText}
use Rattle.promises.proofs.CardFields.{only_cards, card_names}
use Rattle.promises.specs.Demands.{OfText}
use Rattle.promises.specs.WrittenDemands.{StatementRowSays, ObjectionRowSays, ListingSays, ReasonSays}
use Rattle.promises.specs.IssuedNumbers.{IssuedIn, EndsField, WholeFields, Field}
use Rattle.promises.proofs.CallsSay.{room_begins, listing_says, reason_says}
use Rattle.promises.proofs.Fields.{number_first, field_behind, row_has, statement_fields, statement_whole, Only, only_of}
use Rattle.promises.proofs.Fields.{only_none, only_rows, only_statement, only_objection, only_statement_lines}
use Rattle.promises.proofs.Fields.{only_objection_lines, verdict_word, kind_word}

-- What an accepted text issues is what its register has.
module _ (s : List ℕ) (R : Register) (a : Accepts s R) where
  own_lines : LinesOf s (map good (lines R))
  own_lines =
      subst (λ t. LinesOf t (map good (lines R))) (sym a.is_written) (written_lines (lines R) (lines_formed R a.valid))

  pub issued_exactly : (n : ℕ) → Issued R n ↔ IssuedIn s n
  issued_exactly n = (λ i. (map good (lines R), own_lines, issued_line R n i), back)
    where
      back : IssuedIn s n → Issued R n
      back (ls, p, (k, st, q, e)) =
          subst (Issued R) e (line_issued R k st
          (subst (λ ms. StatementAt ms k st) (lines_once s ls (map good (lines R)) p own_lines) q))

-- Every number that a text issues is a field of it, with a tab behind.
line_whole : (l : Line) → WholeFields (line_bytes l)
line_whole l = let (b, e) = line_ended l in inr (b, 10, inr refl, e)

issued_at : (s : List ℕ) (ls : List TextLine) (k : ℕ) (st : StatementLine) → LinesOf s ls → StatementAt ls k st
    → Field s st.number 9
unfolding LinesOf
issued_at s [] k st p (h, e) = absurd (not-suc-le-zero h)
issued_at s (good (Statement t) ∷ ls) zero st (rest, f, e, p) (h, q) =
    let same : t ≡ st = cc in
    subst (λ (u : StatementLine). Field s u.number 9) same (subst (λ u. Field u t.number 9) (sym (e ∙ simp append_assoc))
    (field_behind (83 ∷ 9 ∷ []) (number_bytes t.number ++ (9 ∷ (mark_byte t.mark ∷ (10 ∷ rest)))) t.number 9
    (inr (83 ∷ [], 9, inl refl, refl)) (number_first t.number 9 (mark_byte t.mark ∷ (10 ∷ rest)) f)))
issued_at s (good (Objection o) ∷ ls) zero st p (h, q) = let z : ◌≡◌ {A = ℕ} 0 1 = cc in absurd (omega arith)
issued_at s (good l ∷ ls) (suc k) st (rest, f, e, p) (h, q) =
    subst (λ u. Field u st.number 9) (sym e) (field_behind (line_bytes l) rest st.number 9 (line_whole l)
    (issued_at rest ls k st p (le_of_suc-le-suc h, q)))
issued_at s (spoiled ∷ ls) zero st p (h, q) = let z : ◌≡◌ {A = ℕ} 0 1 = cc in absurd (omega arith)
issued_at s (spoiled ∷ ls) (suc k) st (w, rest, u, e, none, p) (h, q) =
    subst (λ u. Field u st.number 9) (sym (e ∙ sym (append_assoc w (10 ∷ []) rest))) (field_behind (w ++ (10 ∷ [])) rest
    st.number 9 (inr (w, 10, inr refl, refl)) (issued_at rest ls k st p (le_of_suc-le-suc h, q)))
issued_at s (unended ∷ ls) zero st p (h, q) = let z : ◌≡◌ {A = ℕ} 0 1 = cc in absurd (omega arith)
issued_at s (unended ∷ ls) (suc k) st (l, u, e) (h, q) = absurd (omega (arith, h, ap length e))

pub issued_field : (s : List ℕ) (n : ℕ) → IssuedIn s n → Field s n 9
issued_field s n (ls, p, (k, st, q, e)) = subst (λ m. Field s m 9) e (issued_at s ls k st p q)

module _ (R : Register) (v : Valid R) where
  -- of rows, only numbers of the register are followed by a tab
  abbrev Tabbed : List ℕ → Type 0
  Tabbed = Only (Issued R) (λ e. e ≡ 9) (λ e. inl)

  no_lengths : ◌≡◌ {A = ℕ} 10 9 → ⊥
  no_lengths e = omega arith

  statement_row_lem : (x : ℕ) → x < length R.statements → (row : List ℕ) → StatementRowSays R x row → (rest : List ℕ)
      → Tabbed rest → Tabbed (row ++ rest)
  statement_row_lem x h row w rest o =
      let i : x < length (numbers R) = omega (arith, numbers_counted R) in
      rw w.is (only_statement (Issued R) (λ e. e ≡ 9) (λ e. inl) no_lengths (get_or (numbers R) x 0)
      (verdict_account w.verdict) (verdict_word w.verdict) (v.numbered x i) (x, i, refl) rest o)

  objection_row_lem : (k : ℕ) → k < length R.objections → (row : List ℕ) → ObjectionRowSays R k row → (rest : List ℕ)
      → Tabbed rest → Tabbed (row ++ rest)
  objection_row_lem k h row w rest o =
      let (y, x) = v.known k h in
      rw w.is (only_objection (Issued R) (λ e. e ≡ 9) (λ e. inl) no_lengths (get_or (objector_numbers R) k 0)
      (get_or (target_numbers R) k 0) (kind_account w.kind) (kind_word w.kind)
      (issued_number R v (get_or (objector_numbers R) k 0) y) y (issued_number R v (get_or (target_numbers R) k 0) x) x rest o)

  -- a row in front has its number
  row_names : (x : ℕ) → x < length R.statements → (row : List ℕ) → StatementRowSays R x row → (rest : List ℕ)
      → Field (row ++ rest) (get_or (numbers R) x 0) 9
  row_names x h row w rest =
      rw w.is (subst (λ u. Field u (get_or (numbers R) x 0) 9)
      (statement_fields (get_or (numbers R) x 0) (verdict_account w.verdict) rest)
      (number_first (get_or (numbers R) x 0) 9 _ (v.numbered x (omega (arith, numbers_counted R)))))

  row_whole : (x : ℕ) (row : List ℕ) → StatementRowSays R x row → WholeFields row
  row_whole x row w = rw w.is (statement_whole (get_or (numbers R) x 0) (verdict_account w.verdict))

  -- the rows of objections, and nothing behind them
  objections_tabbed : (row : ℕ → List ℕ)
      → ((k : ℕ) → k < length R.objections → (rest : List ℕ) → Tabbed rest → Tabbed (row k ++ rest))
      → Tabbed (rows_to (length R.objections) row)
  objections_tabbed row each =
      subst Tabbed (append-nil (rows_to (length R.objections) row))
      (only_rows (Issued R) (λ e. e ≡ 9) (λ e. inl) (length R.objections) row each []
      (only_none (Issued R) (λ e. e ≡ 9) (λ e. inl)))

  listing_tabbed : (l : List ℕ) (w : ListingSays R l)
      → Tabbed (rows_to (length R.statements) w.statements ++ rows_to (length R.objections) w.objections)
  listing_tabbed l w =
      only_rows (Issued R) (λ e. e ≡ 9) (λ e. inl) (length R.statements) w.statements
      (λ x h. statement_row_lem x h (w.statements x) (w.statement_says x h)) (rows_to (length R.objections) w.objections)
      (objections_tabbed w.objections (λ k h. objection_row_lem k h (w.objections k) (w.objection_says k h)))

  reason_tabbed : (x : ℕ) → x < length R.statements → (l : List ℕ) → ReasonSays R x l → Tabbed l
  reason_tabbed x h l w =
      subst Tabbed (sym w.is) (statement_row_lem x h w.statement w.statement_says
      (rows_to (length R.objections) w.objections) (objections_tabbed w.objections (λ k g. row k g (w.exactly k g))))
    where
      row : (k : ℕ) → k < length R.objections
          → (InReason (book R) x (get_or (objectors_of R) k 0) (get_or (targets_of R) k 0) × ObjectionRowSays R k
          (w.objections k))
          ⊎ ((¬ InReason (book R) x (get_or (objectors_of R) k 0) (get_or (targets_of R) k 0)) × (w.objections k ≡ []))
          → (rest : List ℕ) → Tabbed rest → Tabbed (w.objections k ++ rest)
      row k g (inl (b, says)) = objection_row_lem k g (w.objections k) says
      row k g (inr (b, e)) = λ rest o. rw e o

  -- a text written from the register has none but its numbers
  written_only : Only (Issued R) EndsField (λ e h. h) (written R)
  written_only =
      only_statement_lines (Issued R) EndsField (λ e h. h) R.statements (λ i h. (v.numbered i h, (i, h, refl)))
      (map Objection R.objections) (only_objection_lines (Issued R) EndsField (λ e h. h) R.objections each)
    where
      each : (k : ℕ) → k < length R.objections
          → (IsNumber (get_or (objector_numbers R) k 0) × Issued R (get_or (objector_numbers R) k 0))
          × (IsNumber (get_or (target_numbers R) k 0) × Issued R (get_or (target_numbers R) k 0))
      each k h =
          let (y, x) = v.known k h in (
            (issued_number R v (get_or (objector_numbers R) k 0) y, y),
            (issued_number R v (get_or (target_numbers R) k 0) x, x),
          )

module _ (s : List ℕ) where
  -- In a listing, behind the header, the numbers with a tab behind them are exactly those that the text issues: the last field
  -- of a row is a length.
  pub listing_issues_none : (room : List ℕ) (n : ℕ) (after : List ℕ) → TextListing s room (Ok n) after
      → OfText s (λ R. (rows : List ℕ) × (take n after ≡ header (length R.statements) (length R.objections) ++ rows)
      × ((m : ℕ) → Field rows m 9 ↔ IssuedIn s m))
  listing_issues_none room n after p =
      let (R, a, w) = listing_says s room n after p in (
        R,
        a,
        (
          rows_to (length R.statements) w.statements ++ rows_to (length R.objections) w.objections,
          w.is,
          λ m. (
            λ f. (issued_exactly s R a m).0 (only_of (Issued R) (λ e. e ≡ 9) (λ e. inl) _
                (listing_tabbed R a.valid (take n after) w) m 9 refl f),
            λ t. there R a.valid (take n after) w m ((issued_exactly s R a m).1 t),
          ),
        ),
      )
    where
      there : (R : Register) → Valid R → (l : List ℕ) (w : ListingSays R l) (m : ℕ) → Issued R m → Field
          (rows_to (length R.statements) w.statements ++ rows_to (length R.objections) w.objections) m 9
      there R v l w m (x, h, e) =
          let g : x < length R.statements = omega (arith, numbers_counted R) in
          let rows = rows_to (length R.statements) w.statements ++ rows_to (length R.objections) w.objections in
          subst (λ k. Field rows k 9) e (row_has (length R.statements) w.statements
          (λ k h. row_whole R v k (w.statements k) (w.statement_says k h)) x (get_or (numbers R) x 0) 9 g
          (row_names R v x g (w.statements x) (w.statement_says x g)) (rows_to (length R.objections) w.objections))

  -- So in a reason, which has the asked number.
  pub reason_issues_none : (number : ℕ) (room : List ℕ) (n : ℕ) (after : List ℕ) → TextReason s number room (Ok n) after
      → Field (take n after) number 9 × ((m : ℕ) → Field (take n after) m 9 → IssuedIn s m)
  reason_issues_none number room n after p =
      let (R, a, (x, (h, e), w)) = reason_says s number room n after p in
      let g : x < length R.statements = omega (arith, numbers_counted R) in (
        subst (λ k. Field (take n after) k 9) e (subst (λ l. Field l (get_or (numbers R) x 0) 9) (sym w.is)
            (row_names R a.valid x g w.statement w.statement_says (rows_to (length R.objections) w.objections))),
        λ m f. (issued_exactly s R a m).0 (only_of (Issued R) (λ e. e ≡ 9) (λ e. inl) (take n after)
            (reason_tabbed R a.valid x g (take n after) w) m 9 refl f),
      )

  -- Each entry of a line of argument is such a number.
  pub line_issues_none : (number : ℕ) (room : List ℕ) (n : ℕ) (after : List ℕ) → TextArgument s number room (Ok n) after
      → (k : ℕ) → k < n → IssuedIn s (get_or after k 0)
  unfolding book_of
  line_issues_none number room n after (R, a, (x, q, (l, is, (c, f, e)))) k h =
      let j : k < length l = omega (arith, c, length-map l (λ i. get_or (numbers R) i 0)) in
      let g : get_or after k 0 ≡ get_or (numbers R) (get_or l k 0) 0 = ap (λ (u : List ℕ). get_or u k 0) e
      ∙ get_or-append (by_number R l) (drop (length (by_number R l)) room) 0 k
      (omega (arith, length-map l (λ i. get_or (numbers R) i 0))) ∙ mapped (λ i. get_or (numbers R) i 0) l k j in
      let i : get_or l k 0 < length (numbers R) = omega (
        arith,
        line_listed (book R) (omega (arith, q.0, numbers_counted R, marks_counted R a.valid)) is k j,
        numbers_counted R,
        marks_counted R a.valid,
      ) in
      (issued_exactly s R a (get_or after k 0)).0 (get_or l k 0, i, sym g)

  -- In a mended text every number is one that the given text issues.
  pub mend_issues_none : (lent : Lent) (n : ℕ) (after : Lent) → TextMend s lent (Ok n) after
      → (m end : ℕ) → EndsField end → Field (take n after.0) m end → IssuedIn s m
  mend_issues_none lent n after (ls, (h, p), (w, v)) m end e f =
      let R = mended ls in
      let g : Field (written R) m end = subst (λ u. Field u m end) (room_begins (written R) lent.0 n after.0 w) f in (
        ls,
        p,
        mended_line ls m (only_of (Issued R) EndsField (λ e h. h) (written R) (written_only R (mended_valid s ls p)) m end e
            g),
      )

-- the numbers on the cards of a register are its own
card_numbers : (R : Register) → Valid R → Each (λ (c : Card). (IsNumber c.statement.number × Issued R c.statement.number)
    × Each (λ y. IsNumber y × Issued R y) c.objectors) (cards R)
card_numbers R v = go R.statements (each_of (λ (st : StatementLine). st.number) (Own) R.statements
    (λ k h. (v.numbered k (counted k h), (k, counted k h, refl))))
  where
    Own : ℕ → Type 0
    Own n = IsNumber n × Issued R n

    counted : (k : ℕ) → k < length R.statements → k < length (numbers R)
    counted k h = omega (arith, numbers_counted R)

    own : (x : ℕ) → Each Own (against R.objections x)
    own x = each_against Own R.objections x (each_of (λ (o : ObjectionLine). o.objector) Own R.objections
        (λ k h. let (y, z) = v.known k h in (issued_number R v (get_or (objector_numbers R) k 0) y, y)))

    go : (S : List StatementLine) → Each (λ (st : StatementLine). Own st.number) S
        → Each (λ (c : Card). Own c.statement.number × Each Own c.objectors) (map (card_of R) S)
    go [] e = tt
    go (st ∷ S) (p, e) = ((p, own st.number), go S e)

-- In a catalogue every number is one that the text issues.
pub catalogue_issues_none : (s room : List ℕ) (n : ℕ) (after : List ℕ) → TextCatalogue s room (Ok n) after
    → (m end : ℕ) → EndsField end → Field (take n after) m end → IssuedIn s m
catalogue_issues_none s room n after (R, a, w) m end e f =
    (issued_exactly s R a m).0 (only_of (Issued R) EndsField (λ e h. h) (catalogued R)
    (only_cards (Issued R) (cards R) (card_numbers R a.valid)) m end e
    (subst (λ u. Field u m end) (room_begins (catalogued R) room n after w) f))

-- In an old form every number stands in the catalogue, with a tab behind.
pub uncatalogue_issues_none : (catalogue room : List ℕ) (n : ℕ) (after : List ℕ) → CatalogueText catalogue room (Ok n) after
    → (m end : ℕ) → EndsField end → Field (take n after) m end → Field catalogue m 9
uncatalogue_issues_none catalogue room n after (R, a, w) m end e f =
    let v = a.catalogue.valid in
    let i : Issued R m = only_of (Issued R) EndsField (λ e h. h) (written R) (written_only R v) m end e
    (subst (λ u. Field u m end) (room_begins (written R) room n after w) f) in
    subst (λ u. Field u m 9) (sym a.catalogue.is_catalogued) (card_names (cards R) m
    (each_weaker _ CardFormed (λ (c : Card) ((h, p), q). (h, each_weaker _ IsNumber (λ y z. z.0) c.objectors q)) (cards R)
    (card_numbers R v)) (subst (λ S. Issued (bare S) m) (sym (same_statements R)) i))
