-- Whether a text is accepted, or which fault it has, tested. The lines before a fault are guessed, and must be a register in
-- order; the line at fault is the guess of what follows them, or no line stands there.
use mathlib.Core.Bool.{cond}
use mathlib.Core.List.{List, ◌++◌}
use mathlib.Core.Path.{◌≡◌}
use Prim.Native.Nat.{ℕ, suc, ◌+◌, ◌-◌, ◌≤◌, ◌<◌}
use native.Mathlib.Omega.{arith}
use lib.Dec.{T, eqb}
use lib.ListN.{get_or, length, length-map}
use Rattle.register.specs.Lines.{BeginsWith}
use Rattle.register.specs.Register.{Register, Valid, Issued as OnRegister, Has, objector_numbers, target_numbers, written}
use Rattle.register.specs.Register.{numbers}
use Rattle.register.specs.Register.{Places, place_of}
use Rattle.register.specs.Reads.{Accepts, Refuses, NotEnded, FaultAt, NextStatement, NextObjection}
use Rattle.register.specs.TextFaults.{text_fault_place}
use Rattle.register.specs.declared.StatementLine.{StatementLine}
use Rattle.register.specs.declared.ObjectionLine.{ObjectionLine}
use Rattle.register.specs.declared.Line.{Line}
use Rattle.register.specs.declared.Line.TheVariants.{Statement, Objection}
use Rattle.register.specs.declared.TextFault.{TextFault}
use Rattle.register.specs.declared.TextFault.TheVariants.{TooLong, Unended, Spoiled, Late, Statements, Issued, Objections}
use Rattle.register.specs.declared.TextFault.TheVariants.{Unknown, Repeated}
use Rattle.register.proofs.Guess.{guess_line, begins_test, begins_tested, spoiled_test, spoiled_tested}
use Rattle.examples.proofs.Text.{rest_from, guess_first, register_of, ordered, ordered_is, accepted, accepted_is}
use Rattle.examples.proofs.Text.{issued, issued_is, issued_passes, unended_test}
use Rattle.examples.proofs.Test.{Test, Decision, both_of, so, both_decided, not_decided, never, decided, refuted, equals}
use Rattle.examples.proofs.Test.{at_most, below, alike, some}

-- the last byte is not 10
abbrev last_other : (s : List ℕ) → Decision (NotEnded s)
last_other s = both_decided (below 0 (length s)) (not_decided (equals (get_or s (length s - 1) 0) 10))

pub unended_is : (s : List ℕ) → T (unended_test s) → NotEnded s
unfolding unended_test
unended_is s = (last_other s).is

pub unended_must : (s : List ℕ) → NotEnded s → T (unended_test s)
unfolding unended_test
unended_must s = (last_other s).must

abbrev pub not_ended : (s : List ℕ) → Decision (NotEnded s)
not_ended s = record { passes = unended_test s; is = unended_is s; must = unended_must s }

-- the register is in order; a number is on it; it has an objection
module _ (R : Register) where
  abbrev pub in_order : Test (Valid R)
  in_order = record { passes = ordered R; is = ordered_is R }

  abbrev pub on_register : (n : ℕ) → Decision (OnRegister R n)
  on_register n = record { passes = issued R n; is = issued_is R n; must = issued_passes R n }

  abbrev pub both_on : (o : ObjectionLine) → Decision (OnRegister R o.objector × OnRegister R o.target)
  both_on o = both_decided (on_register o.objector) (on_register o.target)

  abbrev pub has_it : (o : ObjectionLine) → Test (Has R o.objector o.target)
  has_it o =
      so (λ (k, h, (y, x)). (k, h, y, x)) (decided (some (length R.objections) (λ k. both_decided
      (equals (get_or (objector_numbers R) k 0) o.objector) (equals (get_or (target_numbers R) k 0) o.target))))

-- the line stands there, and is at fault
abbrev pub standing : (l : Line) (rest : List ℕ) → Test (BeginsWith l rest)
standing l rest = record { passes = begins_test l rest; is = begins_tested l rest }

abbrev pub of_statement : (l : Line) (rest : List ℕ) (Fault : StatementLine → Type 0) → ((st : StatementLine) → Test (Fault st))
    → Test (NextStatement rest Fault)
of_statement (Statement st) rest Fault test = so (λ (b, f). (st, b, f)) (both_of (standing (Statement st) rest) (test st))
of_statement (Objection o) rest Fault test = never

abbrev pub of_objection : (l : Line) (rest : List ℕ) (Fault : ObjectionLine → Type 0) → ((o : ObjectionLine) → Test (Fault o))
    → Test (NextObjection rest Fault)
of_objection (Statement st) rest Fault test = never
of_objection (Objection o) rest Fault test = so (λ (b, f). (o, b, f)) (both_of (standing (Objection o) rest) (test o))

-- the lines before the line k are the register R, and `rest` follows them
module _ (s : List ℕ) (R : Register) (rest : List ℕ) where
  abbrev pub reached : (k : ℕ) (Fault : Register → List ℕ → Type 0) → Test (Fault R rest) → Test (FaultAt s k Fault)
  reached k Fault test =
      so (λ ((l, e), ((v, w), (n, f))). record {
        fits = l;
        ended = e;
        before = R;
        rest = rest;
        valid = v;
        is_written = w;
        line = n;
        fault = f;
      })
      (both_of (both_of (decided (at_most (length s) 65535)) (refuted (not_ended s))) (both_of
      (both_of (in_order R) (decided (alike s (written R ++ rest))))
      (both_of (decided (equals k (suc (length R.statements + length R.objections)))) test)))

  abbrev pub at_statement : (k : ℕ) (Fault : Register → StatementLine → Type 0) → ((st : StatementLine) → Test (Fault R st))
      → Test (FaultAt s k (λ R rest. NextStatement rest (Fault R)))
  at_statement k Fault test = reached k (λ R rest. NextStatement rest (Fault R))
      (of_statement (guess_line rest) rest (Fault R) test)

  abbrev pub at_objection : (k : ℕ) (Fault : Register → ObjectionLine → Type 0) → ((o : ObjectionLine) → Test (Fault R o))
      → Test (FaultAt s k (λ R rest. NextObjection rest (Fault R)))
  at_objection k Fault test = reached k (λ R rest. NextObjection rest (Fault R))
      (of_objection (guess_line rest) rest (Fault R) test)

  abbrev pub fault_behind : (f : TextFault) → Test (Refuses s f)
  fault_behind TooLong = decided (below 65535 (length s))
  fault_behind Unended = both_of (decided (at_most (length s) 65535)) (decided (not_ended s))
  fault_behind (Spoiled k) =
      reached k (λ R rest. (0 < length rest) × ((l : Line) → ¬ BeginsWith l rest)) (both_of (decided (below 0 (length rest)))
      (record { passes = spoiled_test rest; is = spoiled_tested rest }))
  fault_behind (Late k) = at_statement k (λ R st. 0 < length R.objections) (λ st. decided (below 0 (length R.objections)))
  fault_behind (Statements k) =
      at_statement k (λ R st. (length R.objections ≡ 0) × (1024 ≤ length R.statements))
      (λ st. both_of (decided (equals (length R.objections) 0)) (decided (at_most 1024 (length R.statements))))
  fault_behind (Issued k) =
      at_statement k (λ R st. (length R.objections ≡ 0) × (length R.statements < 1024) × OnRegister R st.number)
      (λ st. so (λ (e, (h, i)). (e, h, i)) (both_of (decided (equals (length R.objections) 0))
      (both_of (decided (below (length R.statements) 1024)) (decided (on_register R st.number)))))
  fault_behind (Objections k) =
      at_objection k (λ R o. 4096 ≤ length R.objections) (λ o. decided (at_most 4096 (length R.objections)))
  fault_behind (Unknown k) =
      at_objection k (λ R o. (length R.objections < 4096) × ¬ (OnRegister R o.objector × OnRegister R o.target))
      (λ o. both_of (decided (below (length R.objections) 4096)) (refuted (both_on R o)))
  fault_behind (Repeated k) =
      at_objection k (λ R o. (length R.objections < 4096) × OnRegister R o.objector × OnRegister R o.target
      × Has R o.objector o.target)
      (λ o. so (λ (h, ((y, x), r)). (h, y, x, r)) (both_of (decided (below (length R.objections) 4096))
      (both_of (decided (both_on R o)) (has_it R o))))

-- the fault, behind as many lines as its place says
abbrev pub text_fault : (s : List ℕ) (f : TextFault) → Test (Refuses s f)
text_fault s f = fault_behind s (guess_first (text_fault_place f - 1) s) (rest_from (text_fault_place f - 1) s) f

-- the fault of a number and a place
unfoldable pub fault_of : (number place : ℕ) → TextFault
fault_of n k =
    cond (eqb n 1) TooLong (cond (eqb n 2) Unended (cond (eqb n 3) (Spoiled k) (cond (eqb n 4) (Late k)
    (cond (eqb n 5) (Issued k) (cond (eqb n 6) (Statements k) (cond (eqb n 7) (Unknown k) (cond (eqb n 8) (Repeated k)
    (Objections k))))))))

-- the text is accepted as the guessed register
abbrev pub text_accepted : (s : List ℕ) → Test (Accepts s (register_of s))
text_accepted s = record { passes = accepted s (register_of s); is = accepted_is s (register_of s) }

-- the statement of the number is at its place
module _ (R : Register) (number : ℕ) where
  abbrev pub place_in : ℕ
  place_in = place_of (numbers R) number

  abbrev pub placed_there : Test (Places R number place_in)
  placed_there = both_of (decided (below place_in (length (numbers R)))) (decided (equals (get_or (numbers R) place_in 0) number))

  pub counted : (x : ℕ) → Places R number x → x < length R.statements
  counted x p = omega (arith, p.0, length-map R.statements (λ (st : StatementLine). st.number))
