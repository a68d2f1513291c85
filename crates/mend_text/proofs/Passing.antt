-- One line passed: what the rooms hold behind it.
use mathlib.Core.Bool.{Bool, true, false, cond}
use mathlib.Core.List.{List}
use mathlib.Core.Path.{refl, ap, sym, ◌≡◌, ◌∙◌}
use Prim.Native.Nat.{ℕ, ◌+◌, ◌≤◌, ◌<◌}
use lib.Dec.{eqb}
use lib.ListN.{drop, length, set, get_or}
use lib.Seq.{set-get_or}
use Rattle.register.specs.declared.StatementLine.{StatementLine}
use Rattle.register.specs.declared.ObjectionLine.{ObjectionLine}
use Rattle.register.specs.declared.Line.TheVariants.{Objection, Statement}
use Rattle.register.specs.Register.{Register, Valid}
use Rattle.register_read.specs.ReadState.{Holds}
use Rattle.mend.specs.TextLines.{TextLine, LinesOf, unended, spoiled, good}
use Rattle.mend.specs.Fate.{Fate, kept, moved, dropped, unended_line, spoiled_line, second_statement, statement_limit}
use Rattle.mend.specs.Fate.{unknown_number, repeat, objection_limit}
use Rattle.mend.specs.Mended.{moved_if, settle_statement}
use Rattle.mend_line.specs.SettledRooms.{told, Stated, StatementSettled, ObjectionSettled}
use Rattle.mend_line.proofs.SettledRooms.{statement_stated, objection_held}
use Rattle.mend_text.specs.Passes.{told_if, AnyLineAt, StatementPassed, ObjectionPassed}
use Rattle.mend_text.specs.declared.AnyLine.TheVariants.{Unended, Spoiled, Good}
use Rattle.mend_text.proofs.LineAt.{pass_unended, pass_spoiled, pass_good}

-- a late line is told as moved if it is kept
told_late : (late : Bool) (fate : Fate) → told_if late (told fate) ≡ told (moved_if late fate)
told_late true kept = refl
told_late true moved = refl
told_late true (dropped unended_line) = refl
told_late true (dropped spoiled_line) = refl
told_late true (dropped second_statement) = refl
told_late true (dropped statement_limit) = refl
told_late true (dropped unknown_number) = refl
told_late true (dropped repeat) = refl
told_late true (dropped objection_limit) = refl
told_late false kept = refl
told_late false moved = refl
told_late false (dropped cause) = refl

-- While statements are settled.
module _ (s : List ℕ) (at : ℕ) (ls : List TextLine) (lines : LinesOf (drop at s) ls) (S : List StatementLine) (n : ℕ)
    (nums marks links : List ℕ) (stated : Stated S n nums marks links) (late : Bool) where
  pub past_unended : at < length s → AnyLineAt s at Unended
      → StatementPassed s at ls S late (record { fate = 2; next = length s; late = late }) n nums marks links
  past_unended h u =
      record { line = unended; passed = pass_unended s at ls lines h u; stated = stated; late_is = refl; fate_is = refl }

  pub past_spoiled : (next : ℕ) → AnyLineAt s at (Spoiled next)
      → StatementPassed s at ls S late (record { fate = 3; next = next; late = late }) n nums marks links
  past_spoiled next u =
      record { line = spoiled; passed = pass_spoiled s at ls lines next u; stated = stated; late_is = refl; fate_is = refl }

  pub past_objection : (o : ObjectionLine) (next : ℕ) → AnyLineAt s at (Good (Objection o) next)
      → StatementPassed s at ls S late (record { fate = 0; next = next; late = true }) n nums marks links
  past_objection o next g = record {
    line = good (Objection o);
    passed = pass_good s at ls lines (Objection o) next g;
    stated = stated;
    late_is = refl;
    fate_is = refl;
  }

  pub past_statement : (st : StatementLine) (next : ℕ) → AnyLineAt s at (Good (Statement st) next) → 1024 ≤ length nums
      → 1024 ≤ length marks → (f : ℕ) (nums' marks' links' : List ℕ) → StatementSettled nums marks n st f nums' marks' links'
      → (n' fate : ℕ) → n' ≡ cond (eqb f 0) (n + 1) n → fate ≡ told_if late f
      → StatementPassed s at ls S late (record { fate = fate; next = next; late = late }) n' nums' marks' links'
  past_statement st next g a b f nums' marks' links' settled n' fate counted is =
      let (e, now-stated) = statement_stated S n nums marks links stated st g.0 a b f nums' marks' links' settled in
      record {
        line = good (Statement st);
        passed = pass_good s at ls lines (Statement st) next g;
        stated = rw counted now-stated;
        late_is = refl;
        fate_is = is ∙ ap (told_if late) e ∙ told_late late (settle_statement S st).0;
      }

-- While objections are settled.
module _ (s : List ℕ) (at : ℕ) (ls : List TextLine) (lines : LinesOf (drop at s) ls) (R : Register) (n m : ℕ)
    (nums marks objectors targets : List ℕ) (h : Holds R n m nums marks objectors targets) (valid : Valid R) (fates : List ℕ)
    (k : ℕ) where
  -- a line that is no objection keeps its fate
  same : fates ≡ set fates k (get_or fates k 0)
  same = sym (set-get_or fates k 0)

  pub over_unended : at < length s → AnyLineAt s at Unended
      → ObjectionPassed s at ls R n fates k (record { next = length s; objections = m }) nums marks objectors targets fates
  over_unended l u =
      record { line = unended; passed = pass_unended s at ls lines l u; valid = valid; holds = h; fates_are = same }

  pub over_spoiled : (next : ℕ) → AnyLineAt s at (Spoiled next)
      → ObjectionPassed s at ls R n fates k (record { next = next; objections = m }) nums marks objectors targets fates
  over_spoiled next u =
      record { line = spoiled; passed = pass_spoiled s at ls lines next u; valid = valid; holds = h; fates_are = same }

  pub over_statement : (st : StatementLine) (next : ℕ) → AnyLineAt s at (Good (Statement st) next)
      → ObjectionPassed s at ls R n fates k (record { next = next; objections = m }) nums marks objectors targets fates
  over_statement st next g = record {
    line = good (Statement st);
    passed = pass_good s at ls lines (Statement st) next g;
    valid = valid;
    holds = h;
    fates_are = same;
  }

  pub over_objection : (o : ObjectionLine) (next : ℕ) → AnyLineAt s at (Good (Objection o) next) → n ≤ length marks
      → 4096 ≤ length objectors → 4096 ≤ length targets → (f : ℕ) (marks' objectors' targets' : List ℕ)
      → ObjectionSettled nums marks objectors targets n m o f marks' objectors' targets' → (m' : ℕ) → m' ≡ cond (eqb f 0) (m + 1)
      m
      → ObjectionPassed s at ls R n fates k (record { next = next; objections = m' }) nums marks' objectors' targets'
      (set fates k f)
  over_objection o next g a b c f marks' objectors' targets' settled m' counted =
      let (e, v, held) = objection_held R n m nums marks objectors targets h valid o a b c f marks' objectors' targets' settled in
      record {
        line = good (Objection o);
        passed = pass_good s at ls lines (Objection o) next g;
        valid = v;
        holds = rw counted held;
        fates_are = ap (set fates k) e;
      }
