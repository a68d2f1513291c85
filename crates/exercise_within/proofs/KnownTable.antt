-- A table of answers stays right when a right answer is put into it, and an empty one is right.
use mathlib.Core.Bool.{Bool, cond, true, false}
use mathlib.Core.List.{List}
use mathlib.Core.Logic.{⊎_elim}
use mathlib.Core.Path.{refl, sym, ◌≡◌, ◌∙◌}
use Prim.Native.Nat.{ℕ, ◌+◌, ◌*◌, ◌<◌, ◌≤◌}
use native.Mathlib.Omega.{arith}
use lib.ListN.{get_or, length, set, length-set, replicate, length-replicate}
use Rattle.game.specs.Book.{Book}
use Rattle.game.specs.Rules.{falls_within, stands_within}
use Rattle.pair_chain.proofs.ChainSteps.{stored, all_zero}
use Rattle.exercise_within.specs.Known.{Right, Known}

-- an answer as the table holds it
abbrev pub code : Bool → ℕ
code b = cond b 2 1

same_code : (a b : Bool) → code a ≡ code b → a ≡ b
same_code true true e = refl
same_code true false e = absurd (omega arith)
same_code false true e = absurd (omega arith)
same_code false false e = refl

module _ (q : ℕ → ℕ → Bool) (table : List ℕ) (r : Right q table) where
  -- an entry that was set is the answer
  pub believe : (t x : ℕ) → x < 1024 → (b : Bool) → get_or table (t * 1024 + x) 0 ≡ code b → q t x ≡ b
  believe t x here true e = r.granted t x here e
  believe t x here false e = r.denied t x here e

  module _ (t x : ℕ) (here : x < 1024) (few : t ≤ 6) where
    pub inside : t * 1024 + x < length table
    inside = omega (arith, r.room)

    -- after the store an entry is that of t and x, or it is as it was
    after : (u y : ℕ) → y < 1024 → (b : Bool) → get_or (set table (t * 1024 + x) (code (q t x))) (u * 1024 + y) 0 ≡ code b
        → q u y ≡ b
    after u y h b g =
        ⊎_elim (λ a. own a.0 (sym a.1 ∙ g)) (λ a. believe u y h b (sym a.1 ∙ g))
        (stored table (t * 1024 + x) (code (q t x)) inside (u * 1024 + y))
      where
        own : u * 1024 + y ≡ t * 1024 + x → code (q t x) ≡ code b → q u y ≡ b
        own e c =
            let same_turns : u ≡ t = omega arith in
            let same_place : y ≡ x = omega arith in
            rw (same_turns, same_place) (same_code (q t x) b c)

    pub put : (b : Bool) → b ≡ q t x → Right q (set table (t * 1024 + x) (code b))
    put b e = rw e record {
      room = length-set table (t * 1024 + x) (code (q t x)) ∙ r.room;
      denied = λ u y h. after u y h false;
      granted = λ u y h. after u y h true;
    }

pub fresh : (q : ℕ → ℕ → Bool) → Right q (replicate 7168 0)
fresh q = record {
  room = length-replicate {A = ℕ} 7168 0;
  denied = λ t x h g. absurd (omega (arith, all_zero 7168 (t * 1024 + x)));
  granted = λ t x h g. absurd (omega (arith, all_zero 7168 (t * 1024 + x)));
}

pub fresh_both : (B : Book) → Known B (replicate 7168 0) (replicate 7168 0)
fresh_both B = record { fell = fresh (falls_within B); stood = fresh (stands_within B) }

-- an answer that was found and put into its table, and what is known after that
module _ (B : Book) (falls stands : List ℕ) (k : Known B falls stands) (t x : ℕ) (here : x < 1024) (few : t ≤ 6) (b : Bool) where
  pub falls_put : b ≡ falls_within B t x → (b ≡ falls_within B t x) × Known B (set falls (t * 1024 + x) (code b)) stands
  falls_put e = (e, record { fell = put (falls_within B) falls k.fell t x here few b e; stood = k.stood })

  pub stands_put : b ≡ stands_within B t x → (b ≡ stands_within B t x) × Known B falls (set stands (t * 1024 + x) (code b))
  stands_put e = (e, record { fell = k.fell; stood = put (stands_within B) stands k.stood t x here few b e })
