-- From the rows of one statement to what is promised of the register.
use mathlib.Core.List.{List}
use mathlib.Core.Logic.{inr}
use mathlib.Core.Path.{ap}
use Prim.Native.Nat.{ℕ}
use native.Mathlib.Omega.{arith}
use lib.ListN.{length, take}
use Rattle.std.proofs.lemmas.List.{get_or-take}
use Rattle.reason_find.specs.Ticks.{Chosen}
use Rattle.register.specs.Register.{Register, Places}
use Rattle.answer.specs.Answer.{Answer}
use Rattle.std.specs.Prelude.{Ok, Err}
use Rattle.register_solve.specs.SolvedAs.{ReadyAs}
use Rattle.register_solve.specs.declared.labelled_register.LabelledRegister.{LabelledRegister}
use Rattle.reason.specs.Reasons.{IsReason}
use Rattle.call_reason.specs.ReasonRows.{RowsWritten, ReasonWritten, reason_rows}
use Rattle.call_reason.proofs.ReadyReason.{ready_reason}

-- the ticks of the objections that there are
pub chosen_taken : (marks objectors targets : List ℕ) (x : ℕ) (inside : List ℕ) → Chosen marks objectors targets x inside
    → Chosen marks objectors targets x (take (length objectors) inside)
chosen_taken marks objectors targets x inside chosen k h = rw (get_or-take (length objectors) inside k 0 h) (chosen k h)

pub reason_written : (R : Register) (r : LabelledRegister) → ReadyAs R r → (number x : ℕ)
    → Places R number x → (inside : List ℕ)
    → Chosen r.labelled.pairs.marks.now r.labelled.pairs.objectors.now r.labelled.pairs.targets.now x inside
    → (room : List ℕ) (a : Answer) (after : List ℕ) → RowsWritten r inside x room a after → ReasonWritten R number room a after
reason_written R r ready number x there inside chosen room = go
  where
    is : IsReason R x (reason_rows r inside x)
    is = ready_reason R r ready x inside (omega (arith, there.0, ap length ready.made.numbers_are)) chosen

    go : (a : Answer) (after : List ℕ) → RowsWritten r inside x room a after → ReasonWritten R number room a after
    go (Err e) after ((short, w), same) =
        (inr (inr ((x, there.0, there.1), omega arith, ((x, there, (reason_rows r inside x, is, short)), w))), same)
    go (Ok n) after w = (x, there, (reason_rows r inside x, is, w))
