-- The loop over the lines: the lines passed are a register in order, which the rooms hold; the next line is kept, or is the
-- one at fault.
use mathlib.Core.List.{List, append_assoc, [], ◌∷◌, ◌++◌}
use mathlib.Core.Logic.{inl, inr, ◌⊎◌}
use mathlib.Core.Path.{refl, ap, subst, sym, subst₂, ◌≡◌, ◌∙◌}
use Prim.Native.Nat.{ℕ, ◌+◌, ◌≤◌, ◌<◌}
use native.Mathlib.Omega.{arith}
use lib.ListN.{length, drop, length-drop, get_or, set}
use Rattle.register.specs.Lines.{BeginsWith, line_bytes, mark_number}
use Rattle.register_line.specs.LineReading.{GotAt}
use Rattle.register.specs.declared.StatementLine.{StatementLine}
use Rattle.register.specs.declared.ObjectionLine.{ObjectionLine}
use Rattle.register.specs.declared.Line.{Line}
use Rattle.register.specs.declared.Line.TheVariants.{Statement, Objection}
use Rattle.register.specs.declared.TextFault.{TextFault}
use Rattle.register.specs.declared.TextFault.TheVariants.{Spoiled}
use Rattle.register.specs.Register.{Register, Valid, written, bytes, bare, Issued as OnRegister}
use Rattle.std.specs.Prelude.{Some, Ok, Err}
use Rattle.register_read.specs.ReadState.{Holds, ReadsTo, StatementTaken, ObjectionTaken}
use Rattle.register.proofs.OneMore.{empty_valid, no_objections, with_statement_lem, valid_statement, written_statement}
use Rattle.register.proofs.OneMore.{with_objection_lem, valid_objection, written_objection}
use Rattle.register_read.proofs.Held.{on_register_lem, off_register, stands_already, holds_statement, stands_nowhere}
use Rattle.register_read.proofs.Held.{holds_objection, place_is}
use Rattle.register.specs.Reads.{NotEnded, FaultAt, Refuses}

pub record Inv (s : List ℕ) (at n m : ℕ) (nums marks objectors targets : List ℕ) : Type 0 where
  pub register : Register
  pub valid : Valid register
  pub holds : Holds register n m nums marks objectors targets
  pub within : at ≤ length s
  pub is_read : s ≡ written register ++ drop at s

pub start : (s nums marks objectors targets : List ℕ) → Inv s 0 0 0 nums marks objectors targets
unfolding bytes
start s nums marks objectors targets = record {
  register = bare [];
  valid = empty_valid;
  holds =
      record {
        statements = refl;
        objections = refl;
        numbers_are = refl;
        marks_are = refl;
        objectors_are = refl;
        targets_are = refl;
      };
  within = omega arith;
  is_read = refl;
}

module _ (s : List ℕ) (at n m : ℕ) (nums marks objectors targets : List ℕ) (v : Inv s at n m nums marks objectors targets) where
  pub few : (n ≤ 1024) × (m ≤ 4096)
  few = (
    omega (arith, v.holds.statements, v.valid.few_statements),
    omega (arith, v.holds.objections, v.valid.few_objections),
  )

  -- all lines are passed
  pub whole : length s ≤ 65535 → length s ≤ at → ReadsTo s nums marks objectors targets (Ok (n, m))
  whole fits l = (
    v.register,
    record {
      fits = fits;
      valid = v.valid;
      is_written = v.is_read ∙ ap (λ u. written v.register ++ u) past
          ∙ nothing (written v.register);
    },
    v.holds,
  )
    where
      empty : (u : List ℕ) → length u ≡ 0 → u ≡ []
      empty [] e = refl
      empty (x ∷ u) e = absurd (omega arith)

      past : drop at s ≡ []
      past = empty (drop at s) (length-drop at s ∙ omega arith)

      nothing : (u : List ℕ) → u ++ [] ≡ u
      nothing [] = refl
      nothing (x ∷ u) = ap (λ t. x ∷ t) (nothing u)

  module _ (fits : length s ≤ 65535) (ended : ¬ NotEnded s) where
    reached : (Fault : Register → List ℕ → Type 0) → Fault v.register (drop at s) → FaultAt s (n + m + 1) Fault
    reached Fault f = record {
      fits = fits;
      ended = ended;
      before = v.register;
      rest = drop at s;
      valid = v.valid;
      is_written = v.is_read;
      line = omega (arith, v.holds.statements, v.holds.objections);
      fault = f;
    }

    pub spoiled : at < length s → ((l : Line) → ¬ BeginsWith l (drop at s)) → Refuses s (Spoiled (n + m + 1))
    spoiled l f = reached (λ R rest. (0 < length rest) × ((l : Line) → ¬ BeginsWith l rest)) (omega (arith, length-drop at s), f)

    module _ (st : StatementLine) (next : ℕ) (got : GotAt s at (Some (Statement st, next))) where
      begun : BeginsWith (Statement st) (drop at s)
      begun = (got.0, (drop next s, got.3))

      pub statement_fault : (r : TextFault) (nums' marks' : List ℕ)
          → StatementTaken nums marks n m st nums' marks' (Err r) → Refuses s r
      statement_fault r nums' marks' (inl (l, e)) =
          subst (Refuses s) (sym e) (reached _ (st, begun, omega (arith, v.holds.objections)))
      statement_fault r nums' marks' (inr (inl (z, l, e))) =
          subst (Refuses s) (sym e) (reached _ (st, begun, (v.holds.objections ∙ z, omega (arith, v.holds.statements))))
      statement_fault r nums' marks' (inr (inr (z, l, (i, at_i), e))) =
          subst (Refuses s) (sym e) (reached _ (
            st,
            begun,
            (
              v.holds.objections ∙ z,
              omega (arith, v.holds.statements),
              on_register_lem v.register n m nums marks objectors targets v.holds st.number i at_i,
            ),
          ))

    module _ (o : ObjectionLine) (next : ℕ) (got : GotAt s at (Some (Objection o, next))) where
      begun' : BeginsWith (Objection o) (drop at s)
      begun' = (got.0, (drop next s, got.3))

      pub objection_fault : (r : TextFault) (objectors' targets' : List ℕ)
          → ObjectionTaken nums objectors targets n m o objectors' targets' (Err r) → Refuses s r
      objection_fault r objectors' targets' (inl (l, e)) =
          subst (Refuses s) (sym e) (reached _ (o, begun', omega (arith, v.holds.objections)))
      objection_fault r objectors' targets' (inr (inl (l, absent, e))) =
          subst (Refuses s) (sym e) (reached _ (o, begun', (omega (arith, v.holds.objections), unknown absent)))
        where
          unknown : ((i : ℕ) → i < n → get_or nums i 0 ≡ o.objector → ⊥) ⊎ ((i : ℕ) → i < n → get_or nums i 0 ≡ o.target → ⊥)
              → ¬ (OnRegister v.register o.objector × OnRegister v.register o.target)
          unknown (inl f) w = off_register v.register n m nums marks objectors targets v.holds o.objector f w.0
          unknown (inr f) w = off_register v.register n m nums marks objectors targets v.holds o.target f w.1
      objection_fault r objectors' targets' (inr (inr (l, (y, x, ends, (j, k, a, b)), e))) =
          subst (Refuses s) (sym e) (reached _ (
            o,
            begun',
            (
              omega (arith, v.holds.objections),
              on_register_lem v.register n m nums marks objectors targets v.holds o.objector y ends.objector,
              on_register_lem v.register n m nums marks objectors targets v.holds o.target x ends.target,
              stands_already v.register n m nums marks objectors targets v.holds v.valid o y x ends j k a b,
            ),
          ))

  -- the line is kept
  read_on : (R : Register) (l : Line) (next : ℕ) → written R ≡ written v.register ++ line_bytes l
      → drop at s ≡ line_bytes l ++ drop next s → s ≡ written R ++ drop next s
  read_on R l next e q =
      v.is_read ∙ ap (λ u. written v.register ++ u) q ∙ sym (append_assoc (written v.register) (line_bytes l) (drop next s))
      ∙ ap (λ u. u ++ drop next s) (sym e)

  pub statement_kept : (st : StatementLine) (next : ℕ) (nums' marks' : List ℕ) → 1024 ≤ length nums → 1024 ≤ length marks
      → GotAt s at (Some (Statement st, next)) → StatementTaken nums marks n m st nums' marks' (Ok tt)
      → Inv s next (n + 1) m nums' marks' objectors targets
  statement_kept st next nums' marks' a b got (z, l, absent, p, q) =
      let S : List StatementLine = v.register.statements in
      let e : v.register ≡ bare S = no_objections v.register (v.holds.objections ∙ z) in
      let h : Holds (bare S) n 0 nums marks objectors targets = subst (λ k. Holds (bare S) n k nums marks objectors targets) z
      (subst (λ R. Holds R n m nums marks objectors targets) e v.holds) in
      let w : Valid (with_statement_lem S st) = valid_statement S st (subst Valid e v.valid) got.0
      (omega (arith, v.holds.statements)) (subst (λ R. ¬ OnRegister R st.number) e
      (off_register v.register n m nums marks objectors targets v.holds st.number absent)) in
      record {
        register = with_statement_lem S st;
        valid = w;
        holds =
            subst₂ (λ x y. Holds (with_statement_lem S st) (n + 1) m x y objectors targets) (sym p) (sym q)
            (subst (λ k. Holds (with_statement_lem S st) (n + 1) k (set nums n st.number) (set marks n (mark_number st.mark))
            objectors targets) (sym z) (holds_statement S st n nums marks objectors targets (omega arith) (omega arith)
            h));
        within = got.2;
        is_read =
            read_on (with_statement_lem S st) (Statement st) next (written_statement S st
            ∙ ap (λ R. written R ++ line_bytes (Statement st)) (sym e)) got.3;
      }

  pub objection_kept : (o : ObjectionLine) (next : ℕ) (objectors' targets' : List ℕ) → 4096 ≤ length objectors
      → 4096 ≤ length targets → GotAt s at (Some (Objection o, next))
      → ObjectionTaken nums objectors targets n m o objectors' targets' (Ok tt)
      → Inv s next n (m + 1) nums marks objectors' targets'
  objection_kept o next objectors' targets' a b got (l, y, x, ends, none, p, q) =
      let R : Register = v.register in
      record {
        register = with_objection_lem R o;
        valid =
            valid_objection R o v.valid (omega (arith, v.holds.objections))
            (on_register_lem R n m nums marks objectors targets v.holds o.objector y ends.objector)
            (on_register_lem R n m nums marks objectors targets v.holds o.target x ends.target)
            (stands_nowhere R n m nums marks objectors targets v.holds v.valid o y x ends none);
        holds =
            subst₂ (λ i j. Holds (with_objection_lem R o) n (m + 1) nums marks i j) (sym p) (sym q)
            (holds_objection R o n m y x nums marks objectors targets (omega arith) (omega arith) v.holds
            (place_is R n m nums marks objectors targets v.holds o.objector y ends.objector ends.objector_first)
            (place_is R n m nums marks objectors targets v.holds o.target x ends.target ends.target_first));
        within = got.2;
        is_read = read_on (with_objection_lem R o) (Objection o) next (written_objection R o) got.3;
      }
