-- Whether a word begins with `-`: there is one answer.
use mathlib.Core.Bool.{Bool, true, false}
use mathlib.Core.List.{List}
use mathlib.Core.Path.{◌≡◌, refl}
use Prim.Native.Nat.{ℕ}
use Rattle.program_stream.specs.Options.{Option}

pub option_once : (word : List ℕ) (r r' : Bool) → Option word r → Option word r' → r ≡ r'
option_once word true true w w' = refl
option_once word true false w n = absurd (n w.0 w.1)
option_once word false true n w = absurd (n w.0 w.1)
option_once word false false n n' = refl
