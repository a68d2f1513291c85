-- `bench_solver_label` answers 1 only after the solver was lent lists in order.
use mathlib.Core.Path.{◌≡◌}
use native.Mathlib.Omega.{arith}
use Rattle.std.specs.Prelude.{None}
use Rattle.lists.proofs.Refuses.{in_order}
use Rattle.bench_solver.proofs.bench_solver_label.Goals as goal

pub invariant_of-pairs : goal.invariant_of-pairs
invariant_of-pairs c =
    let marked : c.bad_mark.result ≡ None = grind arith in
    let placed : c.bad_place.result ≡ None = grind arith in
    record {
      handed = record {
        few_marks = omega arith;
        few_pairs = omega arith;
        order = in_order _ _ _ (omega arith) (λ j p. (rw marked at c.bad_mark.ensures) j p.0 p)
            (λ j p. (rw placed at c.bad_place.ensures) j p.0 p);
      };
    }
