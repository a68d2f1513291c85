-- The register of nothing but the reason for a statement: there is one and no other, its text is accepted, and it gives that
-- statement the same label and length, so the same line of the listing. Each of its lines has a place in the whole register
-- (`Kept`). The two ends of a kept objection are of the reason, so they are kept as well: no number becomes unknown.
use mathlib.Core.Bool.{Bool, cond, true, false, ◌&&◌}
use mathlib.Core.List.{map, List, append-nil, [], ◌∷◌, ◌++◌}
use mathlib.Core.Logic.{inr, inl, ◌↔◌}
use mathlib.Core.Path.{sym, ap₂, refl, ap, subst₂, subst, ◌≡◌, ◌∙◌}
use Prim.Native.Nat.{ℕ, suc, ◌≤◌, ◌<◌}
use native.Mathlib.Omega.{arith}
use lib.Dec.{eqb, T}
use lib.ListN.{get_or, length, length-map, length-append}
use Rattle.game.specs.Book.{Listed, book_of}
use Rattle.game.specs.Label.{Verdict, Means}
use Rattle.game.specs.Account.{untold}
use Rattle.game.specs.Reason.{OfReason, InReason, OnlyReason}
use Rattle.game.proofs.Account.{statement_once}
use Rattle.game.proofs.Reason.{of_reaches, reaches_exactly, within_exactly, reaching, belonging, reaches_listed, reason_enough}
use Rattle.game.proofs.HandedBook.{objects_entry}
use Rattle.register.specs.Lines.{mark_number}
use Rattle.register.specs.declared.StatementLine.{StatementLine}
use Rattle.register.specs.declared.ObjectionLine.{ObjectionLine}
use Rattle.register.specs.declared.Line.{Line}
use Rattle.register.specs.declared.Line.TheVariants.{Statement, Objection}
use Rattle.register.specs.Register.{Register, numbers, place_of, Issued, book, Valid, objectors_of, targets_of, bytes, marks_of}
use Rattle.register.specs.Register.{written}
use Rattle.register.specs.Reads.{Accepts}
use Rattle.register.proofs.Order.{numbers_counted, place_first, mapped, number_there, objectors_counted, marks_counted}
use Rattle.listing.specs.Rows.{statement_row}
use Rattle.listing.specs.Listing.{IsListing}
use Rattle.reason.specs.Alone.{Alone, keep}
use Rattle.reason.proofs.Keep.{keep_same, tests_same, Kept, keep_kept, kept_once}

abbrev number : Register → ℕ → ℕ
number R z = get_or (numbers R) z 0

-- An objection has two ends, its objector and its target, and what is said of the one is said of the other. On its line an
-- end is a number, in the book a place.
abbrev End : Type 0
End = ObjectionLine → ℕ

abbrev end_number : Register → End → ℕ → ℕ
end_number R end k = get_or (map end R.objections) k 0

abbrev end_place : Register → End → ℕ → ℕ
end_place R end k = get_or (map (place_of (numbers R)) (map end R.objections)) k 0

abbrev Known : Register → End → Type 0
Known R end = (k : ℕ) → k < length R.objections → Issued R (end_number R end k)

module _ (R : Register) where
  to_listed : (z : ℕ) → z < length R.statements → Listed (book R) z
  unfolding book_of
  to_listed z h = omega (arith, length-map R.statements (λ (st : StatementLine). mark_number st.mark))

  of_listed : (z : ℕ) → Listed (book R) z → z < length R.statements
  unfolding book_of
  of_listed z h = omega (arith, length-map R.statements (λ (st : StatementLine). mark_number st.mark))

-- Numbers are issued once, so a number has no place but the one where it stands.
module _ (R : Register) (valid : Valid R) where
  place_at : (v z : ℕ) → z < length R.statements → number R z ≡ v → place_of (numbers R) v ≡ z
  place_at v z h e =
      let l : z < length (numbers R) = omega (arith, numbers_counted R) in
      place_first (numbers R) v z l e (λ j k q. valid.once j z k l (q ∙ sym e))

  module _ (end : End) where
    end_place_lem : (k z : ℕ) → k < length R.objections → z < length R.statements → number R z ≡ end_number R end k
        → end_place R end k ≡ z
    end_place_lem k z h n e =
        mapped (place_of (numbers R)) (map end R.objections) k (omega (arith, length-map R.objections end))
        ∙ place_at (end_number R end k) z n e

    end_number_lem : Known R end → (k : ℕ) → k < length R.objections → number R (end_place R end k) ≡ end_number R end k
    end_number_lem known k h =
        number_there R (map end R.objections) k (omega (arith, length-map R.objections end)) (known k h)

-- There is but one register of just the reason's lines.
pub alone_once : (R : Register) (x : ℕ) (S S' : Register) → Alone R x S → Alone R x S' → S ≡ S'
alone_once R x S S' a b = ap₂ (λ s o. record { statements = s; objections = o }) statements objections
  where
    statements : S.statements ≡ S'.statements
    statements =
        a.statements_are ∙ keep_same a.statement b.statement R.statements
        (tests_same _ (length R.statements) a.statement b.statement a.statements_exactly b.statements_exactly)
        ∙ sym b.statements_are

    objections : S.objections ≡ S'.objections
    objections =
        a.objections_are ∙ keep_same a.objection b.objection R.objections
        (tests_same _ (length R.objections) a.objection b.objection a.objections_exactly b.objections_exactly)
        ∙ sym b.objections_are

-- Whether a line is of the reason can be decided, so the register of just those lines is there.
pub alone_there : (R : Register) → Valid R → (x : ℕ) → x < length R.statements → (S : Register) × Alone R x S
alone_there R valid x l =
    let listed : Listed (book R) x = to_listed R x l in (
      record { statements = keep of_reason R.statements; objections = keep in_reason R.objections },
      record {
        statement = of_reason;
        statements_exactly =
            λ z h. (
              λ t. (of_reaches (book R) x z).1 ((reaches_exactly (book R) x listed z).0 t),
              λ o. (reaches_exactly (book R) x listed z).1 ((of_reaches (book R) x z).0 o),
            );
        statements_are = refl;
        objection = in_reason;
        objections_exactly = λ k h. within_exactly (book R) x listed (get_or (objectors_of R) k 0) (get_or (targets_of R) k 0);
        objections_are = refl;
      },
    )
  where
    of_reason : ℕ → Bool
    of_reason z = reaching (book R) x (book R).size z

    in_reason : ℕ → Bool
    in_reason k = of_reason (get_or (targets_of R) k 0) && belonging (book R) (get_or (objectors_of R) k 0)
        (get_or (targets_of R) k 0)

-- kept lines have no more bytes than all of them, if what stands behind has no more
kept_bytes : {A : Type 0} (line : A → Line) (p : ℕ → Bool) (l : List A) (ls ms : List Line)
    → length (bytes ls) ≤ length (bytes ms) → length (bytes (map line (keep p l) ++ ls)) ≤ length (bytes (map line l ++ ms))
unfolding keep bytes
kept_bytes line p [] ls ms h = h
kept_bytes {A} line p (a ∷ l) ls ms h = go (p 0) (kept_bytes line (λ k. p (suc k)) l ls ms h)
  where
    kept : List A
    kept = keep (λ k. p (suc k)) l

    go : (b : Bool) → length (bytes (map line kept ++ ls)) ≤ length (bytes (map line l ++ ms))
        → length (bytes (map line (cond b (a ∷ kept) kept) ++ ls)) ≤ length (bytes (map line (a ∷ l) ++ ms))
    go true i = simp length-append (omega arith)
    go false i = simp length-append (omega arith)

module _ (R : Register) (valid : Valid R) (x : ℕ) (l : x < length R.statements) (S : Register) (alone : Alone R x S) where
  statements_kept : (f : ℕ → ℕ) × Kept alone.statement R.statements S.statements f
  statements_kept = rw alone.statements_are (keep_kept alone.statement R.statements)

  objections_kept : (g : ℕ → ℕ) × Kept alone.objection R.objections S.objections g
  objections_kept = rw alone.objections_are (keep_kept alone.objection R.objections)

  -- f z is the place in R of S's statement z, and g k that of its objection k
  module _ (f : ℕ → ℕ) (statements : Kept alone.statement R.statements S.statements f)
      (g : ℕ → ℕ) (objections : Kept alone.objection R.objections S.objections g) where
    same_number : (z : ℕ) → z < length S.statements → number S z ≡ number R (f z)
    same_number = statements.entry (λ st. st.number)

    same_mark : (z : ℕ) → z < length S.statements → (book S).unread z ≡ (book R).unread (f z)
    unfolding book_of
    same_mark z h = ap (λ m. eqb m 1) (statements.entry (λ st. mark_number st.mark) z h)

    of_reason : (z : ℕ) → z < length S.statements → OfReason (book R) x (f z)
    of_reason z h = (alone.statements_exactly (f z) (statements.listed z h)).0 (statements.passes z h)

    in_reason : (k : ℕ) → k < length S.objections
        → InReason (book R) x (get_or (objectors_of R) (g k) 0) (get_or (targets_of R) (g k) 0)
    in_reason k h = (alone.objections_exactly (g k) (objections.listed k h)).0 (objections.passes k h)

    every_statement : (z : ℕ) → OfReason (book R) x z → (z' : ℕ) × (z' < length S.statements) × (f z' ≡ z)
    every_statement z o =
        let h : z < length R.statements = of_listed R z
        (reaches_listed (book R) x (to_listed R x l) z ((of_reaches (book R) x z).0 o)) in
        statements.every z h ((alone.statements_exactly z h).1 o)

    end_issued : (end : End) → Known R end → (k : ℕ) → k < length S.objections → OfReason (book R) x (end_place R end (g k))
        → Issued S (end_number S end k)
    end_issued end known k h o =
        let (z, n, e) = every_statement (end_place R end (g k)) o in (
          z,
          omega (arith, numbers_counted S),
          same_number z n ∙ ap (number R) e ∙ end_number_lem R valid end known (g k) (objections.listed k h)
              ∙ sym (objections.entry end k h),
        )

    alone_valid : Valid S
    alone_valid = record {
      few_statements = omega (arith, statements.shorter, valid.few_statements);
      few_objections = omega (arith, objections.shorter, valid.few_objections);
      numbered = λ i h. rw (same_number i (own i h)) (valid.numbered (f i) (whole i h));
      once =
          λ i j h n e. valid.once (f i) (f j) (statements.rises i j h (own j n)) (whole j n)
          (sym (same_number i (omega (arith, own j n))) ∙ e ∙ same_number j (own j n));
      known = λ k h. (
        end_issued (λ o. o.objector) (λ k h. (valid.known k h).0) k h (inr (_, _, in_reason k h, inl refl)),
        end_issued (λ o. o.target) (λ k h. (valid.known k h).1) k h (inr (_, _, in_reason k h, inr refl)),
      );
      distinct =
          λ j k h n d e. valid.distinct (g j) (g k) (objections.rises j k h n) (objections.listed k n)
          (repeated (λ o. o.objector) j k h n d) (repeated (λ o. o.target) j k h n e);
    }
      where
        own : (i : ℕ) → i < length (numbers S) → i < length S.statements
        own i h = omega (arith, numbers_counted S)

        whole : (i : ℕ) → i < length (numbers S) → f i < length (numbers R)
        whole i h = omega (arith, numbers_counted R, statements.listed i (own i h))

        repeated : (end : End) (j k : ℕ) → j < k → k < length S.objections → end_number S end j ≡ end_number S end k
            → end_number R end (g j) ≡ end_number R end (g k)
        repeated end j k h n e = sym (objections.entry end j (omega arith)) ∙ e ∙ objections.entry end k n

    -- an end of a kept objection is at a place in S exactly if it is at the same statement's place in R
    same_end : (end : End) → Known R end → Known S end → (k z : ℕ) → k < length S.objections → z < length S.statements
        → (end_place S end k ≡ z) ↔ (end_place R end (g k) ≡ f z)
    same_end end known known' k z h n = (to, from)
      where
        to : end_place S end k ≡ z → end_place R end (g k) ≡ f z
        to e =
            end_place_lem R valid end (g k) (f z) (objections.listed k h) (statements.listed z n)
            (sym (same_number z n) ∙ ap (number S) (sym e) ∙ end_number_lem S alone_valid end known' k h ∙ objections.entry end k
            h)

        from : end_place R end (g k) ≡ f z → end_place S end k ≡ z
        from e =
            end_place_lem S alone_valid end k z h n
            (same_number z n ∙ ap (number R) (sym e) ∙ end_number_lem R valid end known (g k) (objections.listed k h)
            ∙ sym (objections.entry end k h))

    same_objector : (k z : ℕ) → k < length S.objections → z < length S.statements
        → (get_or (objectors_of S) k 0 ≡ z) ↔ (get_or (objectors_of R) (g k) 0 ≡ f z)
    same_objector = same_end (λ o. o.objector) (λ k h. (valid.known k h).0) (λ k h. (alone_valid.known k h).0)

    same_target : (k z : ℕ) → k < length S.objections → z < length S.statements
        → (get_or (targets_of S) k 0 ≡ z) ↔ (get_or (targets_of R) (g k) 0 ≡ f z)
    same_target = same_end (λ o. o.target) (λ k h. (valid.known k h).1) (λ k h. (alone_valid.known k h).1)

    same_objections : (y z : ℕ) → y < length S.statements → z < length S.statements
        → T ((book S).objects y z) ↔ InReason (book R) x (f y) (f z)
    same_objections y z m n = (to, from)
      where
        to : T ((book S).objects y z) → InReason (book R) x (f y) (f z)
        to t =
            let (_, (k, (h, d, e))) = (objects_entry (marks_of S) (objectors_of S) (targets_of S) y z).0 (to_listed S y m, t) in
            let i : k < length S.objections = omega (arith, objectors_counted S alone_valid) in
            subst₂ (InReason (book R) x) ((same_objector k y i m).0 d) ((same_target k z i n).0 e) (in_reason k i)

        line : (k k' : ℕ) → k' < length S.objections → g k' ≡ k → get_or (objectors_of R) k 0 ≡ f y
            → get_or (targets_of R) k 0 ≡ f z → T ((book S).objects y z)
        line k k' h c d e =
            ((objects_entry (marks_of S) (objectors_of S) (targets_of S) y z).1 (
              omega (arith, marks_counted S alone_valid),
              (
                k',
                (
                  omega (arith, objectors_counted S alone_valid),
                  (same_objector k' y h m).1 (rw c d),
                  (same_target k' z h n).1 (rw c e),
                ),
              ),
            )).1

        from : InReason (book R) x (f y) (f z) → T ((book S).objects y z)
        from r =
            let (_, (k, (h, d, e))) = (objects_entry (marks_of R) (objectors_of R) (targets_of R) (f y) (f z)).0
            r.1.of_kind.objects in
            let i : k < length R.objections = omega (arith, objectors_counted R valid) in
            let chosen : T (alone.objection k) = (alone.objections_exactly k i).1
            (subst₂ (InReason (book R) x) (sym d) (sym e) r) in
            let (k', h', c) = objections.every k i chosen in
            line k k' h' c d e

    only_reason : OnlyReason (book R) (book S) x f
    only_reason = record {
      only = λ z h. of_reason z (of_listed S z h);
      every = λ z o. let (z', h, e) = every_statement z o in (z', to_listed S z' h, e);
      once =
          λ y z m n. kept_once alone.statement R.statements S.statements f statements y z (of_listed S y m)
          (of_listed S z n);
      marks = λ z h. same_mark z (of_listed S z h);
      objections = λ y z m n. same_objections y z (of_listed S y m) (of_listed S z n);
    }

  -- its book is the one of only the reason, each statement being that of the same number in R
  pub alone_only : (f : ℕ → ℕ) × OnlyReason (book R) (book S) x f × ((z : ℕ) → z < length S.statements
      → (get_or (numbers S) z 0 ≡ get_or (numbers R) (f z) 0) × (f z < length R.statements))
  alone_only =
      let (f, statements) = statements_kept in
      let (g, objections) = objections_kept in
      (f, only_reason f statements g objections, λ z h. (same_number f statements g objections z h, statements.listed z h))

module _ (s : List ℕ) (R : Register) (accepts : Accepts s R) (x : ℕ) (l : x < length R.statements) (S : Register)
    (alone : Alone R x S) where
  no_longer : length (written S) ≤ length (written R)
  no_longer =
      rw (alone.statements_are, alone.objections_are)
      (kept_bytes Statement alone.statement R.statements _ (map Objection R.objections)
      (simp append-nil at (kept_bytes Objection alone.objection R.objections [] [] (omega arith))))

  -- just those lines are a text that is accepted
  pub alone_accepted : Accepts (written S) S
  alone_accepted =
      let (f, statements) = statements_kept R accepts.valid x l S alone in
      let (g, objections) = objections_kept R accepts.valid x l S alone in
      record {
        fits = omega (arith, no_longer, accepts.fits, ap length accepts.is_written);
        valid = alone_valid R accepts.valid x l S alone f statements g objections;
        is_written = refl;
      }

  -- it has the asked statement, by its number, with the same label and length
  pub alone_same : (x' : ℕ) × (x' < length (numbers S)) × (get_or (numbers S) x' 0 ≡ get_or (numbers R) x 0)
      × ((w : Verdict) → Means (book R) x w ↔ Means (book S) x' w)
  alone_same =
      let (f, only, own) = alone_only R accepts.valid x l S alone in
      let (x', h, e) = only.every x (inl refl) in
      let i : x' < length S.statements = of_listed S x' h in (
        x',
        omega (arith, numbers_counted S),
        (own x' i).0 ∙ ap (number R) e,
        λ w. subst (λ z. Means (book R) z w ↔ Means (book S) x' w) e
            (reason_enough (book R) (book S) x f (to_listed R x l) only x' w h),
      )

  -- so their two listings have the same line for it
  pub alone_same_line : (t t' : List ℕ) (p : IsListing R t) (q : IsListing S t') → (x' : ℕ) × (x' < length S.statements)
      × (statement_row (get_or (numbers S) x' 0) (get_or q.statements x' untold)
      ≡ statement_row (get_or (numbers R) x 0) (get_or p.statements x untold))
  alone_same_line t t' p q =
      let (x', h, e, same) = alone_same in
      let i : x' < length S.statements = omega (arith, numbers_counted S) in
      let (v, m, is) = p.of_statement_lem x l in (
        x',
        i,
        ap₂ statement_row e
            (statement_once (book S) x' (get_or q.statements x' untold) (get_or p.statements x untold) (q.of_statement_lem x' i)
            (v, (same v).0 m, is)),
      )
