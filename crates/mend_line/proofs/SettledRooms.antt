-- From the rooms to the register that they hold: a line settled in the rooms is settled as `mend` says.
use mathlib.Core.Bool.{cond}
use mathlib.Core.List.{List, map, [], ◌∷◌}
use mathlib.Core.Logic.{inl, inr}
use mathlib.Core.Path.{refl, ap₂, sym, ap, subst, ◌≡◌, ◌∙◌}
use Prim.Native.Nat.{ℕ, zero, suc, ◌+◌, ◌≤◌, ◌<◌}
use native.Mathlib.Nat.{not-suc-le-zero, le_of_suc-le-suc}
use native.Mathlib.Decide.{ℕ_discrete, dec_lt}
use native.Mathlib.Omega.{arith}
use lib.Dec.{eqb}
use lib.ListN.{length, get_or, set, length-map, length-set}
use lib.Seq.{take-set-lt, get_or-take, get_or-set_same, get_or-set_other, ext_get_or}
use borrow.Author.Tests.{eq-eqb, ne_eqb}
use Rattle.register.specs.Number.{IsNumber}
use Rattle.register.specs.Lines.{mark_number}
use Rattle.register.specs.declared.StatementLine.{StatementLine}
use Rattle.register.specs.declared.ObjectionLine.{ObjectionLine}
use Rattle.register.specs.Register.{Register, Valid, place_of, objector_numbers, target_numbers, marks_of, numbers, Issued, bare}
use Rattle.register_read.specs.ReadState.{Holds, At, EndPlaces}
use Rattle.register.proofs.Order.{marks_counted, numbers_counted}
use Rattle.register.proofs.OneMore.{valid_statement, valid_objection}
use Rattle.register_read.proofs.Held.{on_register_lem, off_register, holds_statement, stands_already, stands_nowhere}
use Rattle.register_read.proofs.Held.{holds_objection}
use Rattle.register_read.proofs.Held.{place_is}
use Rattle.mend.specs.Mended.{unread_if, unread, settle_statement, settle_objection}
use Rattle.mend.proofs.Settling.{settles_second, settles_beyond, settles_new, settles_unknown, settles_repeat, settles_past}
use Rattle.mend.proofs.Settling.{settles_kept}
use Rattle.mend.proofs.Valid.{numbers_stay, valid_unread}
use Rattle.mend_line.specs.SettledRooms.{told, Stated, StatementSettled, ObjectionSettled}

-- the marks where one number's is unread
marks_after : (v : ℕ) (S : List StatementLine) (j : ℕ) → j < length S
    → get_or (map (λ (st : StatementLine). mark_number st.mark) (map (unread_if v) S)) j 0
    ≡ cond (eqb (get_or (map (λ (st : StatementLine). st.number) S) j 0) v) 1
    (get_or (map (λ (st : StatementLine). mark_number st.mark) S) j 0)
marks_after v [] j h = absurd (not-suc-le-zero h)
marks_after v (st ∷ S) zero h = go (ℕ_discrete st.number v)
  where
    go : Dec (st.number ≡ v)
        → mark_number (unread_if v st).mark ≡ cond (eqb st.number v) 1 (mark_number st.mark)
    go (yes e) = rw (eq-eqb st.number v e) refl
    go (no e) = rw (ne_eqb st.number v e) refl
marks_after v (st ∷ S) (suc j) h = marks_after v S j (le_of_suc-le-suc h)

-- a number that is not listed changes no mark
unread_none : (v : ℕ) (S : List StatementLine)
    → ((j : ℕ) → j < length S → get_or (map (λ (st : StatementLine). st.number) S) j 0 ≡ v → ⊥)
    → map (unread_if v) S ≡ S
unread_none v [] f = refl
unread_none v (st ∷ S) f = ap₂ (λ a b. a ∷ b) same (unread_none v S (λ j h. f (suc j) (omega arith)))
  where
    same : unread_if v st ≡ st
    same = rw (ne_eqb st.number v (f 0 (omega arith))) refl

module _ (R : Register) (n m : ℕ) (nums marks objectors targets : List ℕ) (h : Holds R n m nums marks objectors targets)
    (valid : Valid R) where
  -- the mark at the place of a number set to unread
  holds_unread : (v i : ℕ) → At nums n v i → n ≤ length marks → Holds (unread v R) n m nums (set marks i 1) objectors targets
  holds_unread v i (l, e) room = record {
    statements = length-map R.statements (unread_if v) ∙ h.statements;
    objections = h.objections;
    numbers_are = h.numbers_are ∙ sym (numbers_stay v R.statements);
    marks_are = take-set-lt n marks i 1 l ∙ ap (λ u. set u i 1) h.marks_are ∙ marked;
    objectors_are = h.objectors_are ∙ ap (λ ns. map (place_of ns) (objector_numbers R)) (sym (numbers_stay v R.statements));
    targets_are = h.targets_are ∙ ap (λ ns. map (place_of ns) (target_numbers R)) (sym (numbers_stay v R.statements));
  }
    where
      count : length (marks_of R) ≡ n
      count = marks_counted R valid ∙ h.statements

      number : (j : ℕ) → j < n → get_or (numbers R) j 0 ≡ get_or nums j 0
      number j k = ap (λ ns. get_or ns j 0) (sym h.numbers_are) ∙ get_or-take n nums j 0 k

      each : (j : ℕ) → j < n → Dec (j ≡ i) → get_or (set (marks_of R) i 1) j 0
          ≡ cond (eqb (get_or (numbers R) j 0) v) 1 (get_or (marks_of R) j 0)
      each j k (yes q) =
          rw (eq-eqb (get_or (numbers R) j 0) v (number j k ∙ ap (λ a. get_or nums a 0) q ∙ e))
          (ap (λ a. get_or (set (marks_of R) i 1) a 0) q ∙ get_or-set_same (marks_of R) i 1 0 (omega (arith, count)))
      each j k (no q) =
          rw (ne_eqb (get_or (numbers R) j 0) v (λ z. other (z ∙ sym (number i l ∙ e)) (dec_lt j i)))
          (get_or-set_other (marks_of R) i j 1 0 q)
        where
          other : get_or (numbers R) j 0 ≡ get_or (numbers R) i 0 → Dec (j < i) → ⊥
          other z (yes b) = valid.once j i b (omega (arith, numbers_counted R, h.statements)) z
          other z (no b) = valid.once i j (omega arith) (omega (arith, numbers_counted R, h.statements)) (sym z)

      marked : set (marks_of R) i 1 ≡ marks_of (unread v R)
      marked =
          ext_get_or 0 (set (marks_of R) i 1) (marks_of (unread v R))
          (length-set (marks_of R) i 1 ∙ count ∙ sym
          (length-map (map (unread_if v) R.statements) (λ (st : StatementLine). mark_number st.mark)
          ∙ length-map R.statements (unread_if v) ∙ h.statements))
          (λ j k. let k' : j < n = omega (arith, length-set (marks_of R) i 1, count) in
          each j k' (ℕ_discrete j i) ∙ sym (marks_after v R.statements j (omega (arith, h.statements))))

  unread_unlisted : (v : ℕ) → ¬ Issued R v → unread v R ≡ R
  unread_unlisted v f =
      ap (λ S. record { statements = S; objections = R.objections })
      (unread_none v R.statements (λ j k e. f (j, omega (arith, numbers_counted R), e)))

-- A statement settled: its fate, and what the rooms hold then.
module _ (S : List StatementLine) (n : ℕ) (nums marks links : List ℕ) (stated : Stated S n nums marks links) (st : StatementLine)
    (number : IsNumber st.number) (nums-room : 1024 ≤ length nums) (marks-room : 1024 ≤ length marks) (f : ℕ)
    (nums' marks' links' : List ℕ) where
  pub statement_stated : StatementSettled nums marks n st f nums' marks' links'
      → (f ≡ told (settle_statement S st).0) × Stated (settle_statement S st).1 (cond (eqb f 0) (n + 1) n) nums' marks' links'
  statement_stated (inl (e, (i, at, marked), same, indexed)) =
      let q = settles_second S st (on_register_lem (bare S) n 0 nums marks [] [] stated.holds st.number i at) in
      rw (e, q, same, marked) (
        refl,
        record {
          holds =
              holds_unread (bare S) n 0 nums marks [] [] stated.holds stated.valid st.number i at
              (omega (arith, stated.indexed.few));
          valid = valid_unread st.number (bare S) stated.valid;
          indexed = indexed;
        },
      )
  statement_stated (inr (inl (e, absent, l, same, unmarked, indexed))) =
      let q = settles_beyond S st (off_register (bare S) n 0 nums marks [] [] stated.holds st.number absent)
      (omega (arith, stated.holds.statements)) in
      rw (e, q, same, unmarked) (refl, record { holds = stated.holds; valid = stated.valid; indexed = indexed })
  statement_stated (inr (inr (e, absent, l, numbered, marked, indexed))) =
      let new = off_register (bare S) n 0 nums marks [] [] stated.holds st.number absent in
      let q = settles_new S st new (omega (arith, stated.holds.statements)) in
      rw (e, q, marked) (
        refl,
        record {
          holds =
              rw numbered (holds_statement S st n nums marks [] [] (omega arith) (omega arith)
              stated.holds);
          valid = valid_statement S st stated.valid number (omega (arith, stated.holds.statements)) new;
          indexed = indexed;
        },
      )

-- An objection settled.
module _ (R : Register) (n m : ℕ) (nums marks objectors targets : List ℕ) (h : Holds R n m nums marks objectors targets)
    (valid : Valid R) (o : ObjectionLine) (marks-room : n ≤ length marks) (objectors-room : 4096 ≤ length objectors)
    (targets-room : 4096 ≤ length targets) (f : ℕ) (marks' objectors' targets' : List ℕ) where
  pub objection_held : ObjectionSettled nums marks objectors targets n m o f marks' objectors' targets'
      → (f ≡ told (settle_objection R o).0) × Valid (settle_objection R o).1
      × Holds (settle_objection R o).1 n (cond (eqb f 0) (m + 1) m) nums marks' objectors' targets'
  objection_held (inl (e, absent, a, b, c)) =
      let off = off_register R n m nums marks objectors targets h o.target absent in
      let q = settles_unknown R o (λ k. off k.1) in
      rw (e, q, a, b, c) (
        refl,
        valid_unread o.target R valid,
        subst (λ Q. Holds Q n m nums marks objectors targets)
            (sym (unread_unlisted R n m nums marks objectors targets h valid o.target off)) h,
      )
  objection_held (inr (inl (e, absent, (x, at, a), b, c))) =
      let off = off_register R n m nums marks objectors targets h o.objector absent in
      let q = settles_unknown R o (λ k. off k.0) in
      rw (e, q, a, b, c) (
        refl,
        valid_unread o.target R valid,
        holds_unread R n m nums marks objectors targets h valid o.target x at marks-room,
      )
  objection_held (inr (inr (inl (e, (y, x, ends, (j, k, p, r)), a, b, c)))) =
      let known = both y x ends in
      let q = settles_repeat R o known (stands_already R n m nums marks objectors targets h valid o y x ends j k p r) in
      rw (e, q, a, b, c) (refl, valid, h)
    where
      both : (y x : ℕ) → EndPlaces nums n o y x → Issued R o.objector × Issued R o.target
      both y x ends = (
        on_register_lem R n m nums marks objectors targets h o.objector y ends.objector,
        on_register_lem R n m nums marks objectors targets h o.target x ends.target,
      )
  objection_held (inr (inr (inr (inl (e, l, (y, x, ends, none, a), b, c))))) =
      let q = settles_past R o (
        on_register_lem R n m nums marks objectors targets h o.objector y ends.objector,
        on_register_lem R n m nums marks objectors targets h o.target x ends.target,
      ) (stands_nowhere R n m nums marks objectors targets h valid o y x ends none) (omega (arith, h.objections)) in
      rw (e, q, a, b, c) (
        refl,
        valid_unread o.target R valid,
        holds_unread R n m nums marks objectors targets h valid o.target x ends.target marks-room,
      )
  objection_held (inr (inr (inr (inr (e, l, (y, x, ends, none, b, c), a))))) =
      let i = on_register_lem R n m nums marks objectors targets h o.objector y ends.objector in
      let j = on_register_lem R n m nums marks objectors targets h o.target x ends.target in
      let new = stands_nowhere R n m nums marks objectors targets h valid o y x ends none in
      let q = settles_kept R o (i, j) new (omega (arith, h.objections)) in
      rw (e, q, a, b, c) (
        refl,
        valid_objection R o valid (omega (arith, h.objections)) i j new,
        holds_objection R o n m y x nums marks objectors targets (omega arith) (omega arith) h
            (place_is R n m nums marks objectors targets h o.objector y ends.objector ends.objector_first)
            (place_is R n m nums marks objectors targets h o.target x ends.target ends.target_first),
      )
