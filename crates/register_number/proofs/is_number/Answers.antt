-- `is_number` goes by the form of the code.
use native.Mathlib.Omega.{arith}
use Rattle.register_number.proofs.CodeSteps.{plain_number, plain_nobody, year_number, year_nobody}
use Rattle.register_number.proofs.is_number.Goals as goal

pub returns-in-Plain-eq0 : goal.returns-in-Plain-eq0
returns-in-Plain-eq0 c = plain_nobody c.args.number c.form_of.result c.form_of.ensures _ c.in-Plain-eq0.is (omega arith)

pub returns-in-Plain : goal.returns-in-Plain
returns-in-Plain c = plain_number c.args.number c.form_of.result c.form_of.ensures _ c.in-Plain.is (omega arith)

pub returns-in-Year-eq0 : goal.returns-in-Year-eq0
returns-in-Year-eq0 c = year_nobody c.args.number c.form_of.result c.form_of.ensures _ c.in-Year-eq0.is
    (λ p. omega (arith, p.2))

pub returns-in-Year-1000-to-2099 : goal.returns-in-Year-1000-to-2099
returns-in-Year-1000-to-2099 c = year_number c.args.number c.form_of.result c.form_of.ensures _ c.in-Year-1000-to-2099.is
    (omega arith) (omega arith) (omega arith)

pub returns-in-Year : goal.returns-in-Year
returns-in-Year c = year_nobody c.args.number c.form_of.result c.form_of.ensures _ c.in-Year.is (λ p. omega (arith, p.0))

pub returns-in-Year-2 : goal.returns-in-Year-2
returns-in-Year-2 c = year_nobody c.args.number c.form_of.result c.form_of.ensures _ c.in-Year.is (λ p. omega (arith, p.1))
