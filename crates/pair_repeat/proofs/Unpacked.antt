-- A room that holds the first entries of a list: one entry more, and what it then copied with.
use mathlib.Core.List.{List}
use mathlib.Core.Logic.{⊎_elim}
use mathlib.Core.Path.{ap, sym, ◌≡◌, ◌∙◌}
use Prim.Native.Nat.{ℕ, ◌+◌, ◌≤◌, ◌<◌}
use native.Mathlib.Omega.{arith}
use lib.ListN.{get_or, length, set, take}
use lib.Seq.{ext_get_or, length-take-le, get_or-take}
use Rattle.pair_chain.proofs.ChainSteps.{stored}

-- the first e entries of a room are those of a list
abbrev pub Copied : (room list : List ℕ) → ℕ → Type 0
Copied room list e = (i : ℕ) → i < e → get_or room i 0 ≡ get_or list i 0

pub copied_more : (room list : List ℕ) (e v : ℕ) → e < length room → Copied room list e → v ≡ get_or list e 0
    → Copied (set room e v) list (e + 1)
copied_more room list e v h copied p i k =
    ⊎_elim (λ w. w.1 ∙ p ∙ ap (λ j. get_or list j 0) (sym w.0)) (λ w. let l : i < e = omega (arith, w.0) in w.1 ∙ copied i l)
    (stored room e v h i)

pub given_back : (room list : List ℕ) (m : ℕ) → m ≤ length room → m ≤ length list → Copied room list m → take m room ≡ take m list
given_back room list m h k copied =
    ext_get_or 0 (take m room) (take m list) (length-take-le m room h ∙ sym (length-take-le m list k))
    (λ i l. let j : i < m = omega (arith, length-take-le m room h) in
    get_or-take m room i 0 j ∙ copied i j ∙ sym (get_or-take m list i 0 j))
