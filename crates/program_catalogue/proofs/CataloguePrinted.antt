-- From what the library promises of a catalogue to what the program prints.
use mathlib.Core.List.{List}
use mathlib.Core.Logic.{inl, inr, ⊎_elim}
use Prim.Native.Nat.{ℕ, ◌≤◌}
use native.Mathlib.Omega.{arith}
use lib.ListN.{length, take}
use Rattle.register.specs.Reads.{Accepts}
use Rattle.catalogue.specs.Regrouped.{catalogued}
use Rattle.catalogue.proofs.ThereAndBack.{catalogue_short}
use Rattle.answer.specs.Answer.{Answer}
use Rattle.promises.specs.CatalogueCalls.{TextCatalogue}
use Rattle.promises.specs.Programs.{PrintsCatalogue}
use Rattle.promises.proofs.Programs.{fault_told}
use Rattle.program_stream.specs.PutAnswer.{PutOf}
use Rattle.program_stream.proofs.PutAnswer.{written_shown}

pub prints : (s room : List ℕ) → 65535 ≤ length room → (a : Answer) (after : List ℕ) (size : ℕ) (put : List ℕ)
    → TextCatalogue s room a after → PutOf a after size put → (size ≤ length put) × PrintsCatalogue s (take size put)
prints s room long a after size put p w =
    let (fits, shown) = written_shown {accepts = Accepts s} catalogued room
    (λ R t. omega (arith, long, catalogue_short s R t)) a after size put p w in
    (fits, ⊎_elim inl (λ (r, q, e). inr (fault_told (take size put) r q e)) shown)
