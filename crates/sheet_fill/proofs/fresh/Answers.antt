-- `fresh` updates a sheet of zeros.
use mathlib.Core.Path.{ap, ◌≡◌, ◌∙◌}
use Prim.Native.Nat.{ℕ, ◌/◌, ◌<◌}
use native.Mathlib.Decide.{dec_lt}
use native.Mathlib.Omega.{arith}
use lib.ListN.{get_or, replicate, get_or-eq_default}
use Rattle.std.proofs.lemmas.List.{get_or-replicate, length-replicate}
use Rattle.sheet.proofs.Codes.{code_blank}
use Rattle.sheet_fill.proofs.fresh.Goals as goal

zeros : (size k : ℕ) → get_or (replicate {A = ℕ} size 0) k 0 ≡ 0
zeros size k = go (dec_lt k size)
  where
    go : Dec (k < size) → get_or (replicate {A = ℕ} size 0) k 0 ≡ 0
    go (yes h) = get_or-replicate size k 0 0 h
    go (no h) = get_or-eq_default (replicate {A = ℕ} size 0) 0 (omega (arith, length-replicate {A = ℕ}))

pub update-requires : goal.update-requires
update-requires c = (
  c.requires.0,
  omega arith,
  λ x h. code_blank c.fill.new.self x (ap (λ l. get_or l (x / 4) 0) (c.fill.ensures.after (λ y e. e)) ∙ zeros _ (x / 4)),
)
