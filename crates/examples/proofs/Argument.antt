-- The line of argument and the answer of the class exercise, computed, and why they are what the meanings say.
use mathlib.Core.Bool.{Bool, cond, not, true, false, ◌&&◌}
use mathlib.Core.List.{List, [], ◌∷◌}
use mathlib.Core.Path.{refl, sym, subst, ◌≡◌}
use Prim.Native.Nat.{ℕ, zero, suc, ◌≤◌, ◌<◌}
use native.Mathlib.Decide.{dec_le}
use native.Mathlib.Omega.{arith}
use lib.Dec.{eqb, ltb, T, T_not, eqb→eq, ltb→lt, eqb_refl}
use Rattle.game.specs.Book.{Book, Listed, Objects, all}
use Rattle.game.specs.Label.{Verdict, is_open, stands, falls, Means}
use Rattle.game.specs.Account.{label_number, length_number}
use Rattle.game.specs.Argument.{Argument, ends, goes_on, Onward, Earliest}
use Rattle.game.specs.Exercise.{Answered}
use Rattle.game.specs.Rules.{falls_within, stands_within}
use Rattle.game.proofs.Search.{both, and_of, all_at}
use Rattle.game.proofs.Verdict.{verdict, verdict_means, means_verdict}
use Rattle.game.proofs.Argument.{turns, last}
use Rattle.game.proofs.Exercise.{answers_falls, answers_stands, answers_neither}
use Rattle.examples.proofs.Test.{Test, so, decided, equals}

-- one turn less, and the other label
unfoldable pub onward_test : Verdict → Verdict → Bool
onward_test (falls n) (stands m) = eqb n (suc m)
onward_test (stands n) (falls m) = eqb n (suc m)
onward_test (falls n) (falls m) = false
onward_test (falls n) is_open = false
onward_test (stands n) (stands m) = false
onward_test (stands n) is_open = false
onward_test is_open w = false

onward_is : (v w : Verdict) → T (onward_test v w) → Onward v w
unfolding onward_test
onward_is (falls n) (stands m) t = eqb→eq n (suc m) t
onward_is (stands n) (falls m) t = eqb→eq n (suc m) t
onward_is (falls n) (falls m) t = t
onward_is (falls n) is_open t = t
onward_is (stands n) (stands m) t = t
onward_is (stands n) is_open t = t
onward_is is_open w t = t

unfoldable pub same_verdict : Verdict → Verdict → Bool
same_verdict v w = eqb (label_number v) (label_number w) && eqb (length_number v) (length_number w)

same_verdict_lem : (v : Verdict) → T (same_verdict v v)
unfolding same_verdict
same_verdict_lem v =
    and_of (eqb (label_number v) (label_number v)) (eqb (length_number v) (length_number v)) (eqb_refl (label_number v))
    (eqb_refl (length_number v))

-- the first of n places from k that passes
unfoldable pub first_from : (n k : ℕ) → (ℕ → Bool) → ℕ
first_from zero k p = k
first_from (suc n) k p = cond (p k) k (first_from n (suc k) p)

module _ (B : Book) where
  -- the earliest objector that goes on, and the line of so many turns by them
  unfoldable pub next_of : ℕ → ℕ
  next_of x = first_from B.size 0 (λ y. B.objects y x && onward_test (verdict B x) (verdict B y))

  unfoldable pub line_of : (n x : ℕ) → List ℕ
  line_of zero x = x ∷ []
  line_of (suc n) x = x ∷ line_of n (next_of x)

  unfoldable pub next_test : (x y : ℕ) → Bool
  next_test x y =
      ((ltb y B.size && B.objects y x) && onward_test (verdict B x) (verdict B y))
      && all y (λ z. not (B.objects z x && same_verdict (verdict B z) (verdict B y)))

  unfoldable pub line_test : (n x : ℕ) → Bool
  line_test zero x = eqb (turns (verdict B x)) 0
  line_test (suc n) x = next_test x (next_of x) && line_test n (next_of x)

  next_is : (x y : ℕ) → T (next_test x y) → Onward (verdict B x) (verdict B y) × Earliest B x (verdict B y) y
  unfolding next_test
  next_is x y t =
      let (p, low) = both ((ltb y B.size && B.objects y x) && onward_test (verdict B x) (verdict B y))
      (all y (λ z. not (B.objects z x && same_verdict (verdict B z) (verdict B y)))) t in
      let (o, on) = both (ltb y B.size && B.objects y x) (onward_test (verdict B x) (verdict B y)) p in
      let (l, q) = both (ltb y B.size) (B.objects y x) o in
      let h : y < B.size = ltb→lt y B.size l in (
        onward_is (verdict B x) (verdict B y) on,
        record {
          objects = (h, q);
          means = verdict_means B y h;
          first = λ z j m. go z j m low (dec_le y z);
        },
      )
    where
      go : (z : ℕ) → Objects B z x → Means B z (verdict B y)
          → T (all y (λ z. not (B.objects z x && same_verdict (verdict B z) (verdict B y)))) → Dec (y ≤ z) → y ≤ z
      go z j m low (yes h) = h
      go z j m low (no h) =
          absurd (T_not (B.objects z x && same_verdict (verdict B z) (verdict B y))
          (all_at y (λ z. not (B.objects z x && same_verdict (verdict B z) (verdict B y))) low z (omega arith))
          (and_of (B.objects z x) (same_verdict (verdict B z) (verdict B y)) j.1
          (subst (λ w. T (same_verdict (verdict B z) w)) (sym (means_verdict B z j.0 (verdict B y) m))
          (same_verdict_lem (verdict B z)))))

  pub line_is : (n x : ℕ) → Listed B x → T (line_test n x) → Argument B x (line_of n x)
  unfolding line_test line_of
  line_is zero x h t = ends (verdict B x) (verdict_means B x h) (last (verdict B x) (eqb→eq (turns (verdict B x)) 0 t))
  line_is (suc n) x h t =
      let (p, q) = both (next_test x (next_of x)) (line_test n (next_of x)) t in
      let (on, e) = next_is x (next_of x) p in
      goes_on (verdict B x) (verdict B (next_of x)) (verdict_means B x h) on e (line_is n (next_of x) e.objects.0 q)

  -- the line of argument of x
  abbrev pub argument_of : ℕ → List ℕ
  argument_of x = line_of (turns (verdict B x)) x

  abbrev pub argued : (x : ℕ) → Test (Listed B x → Argument B x (argument_of x))
  argued x = record { passes = line_test (turns (verdict B x)) x; is = λ t h. line_is (turns (verdict B x)) x h t }

  -- the answer of the class exercise
  module _ (x turns : ℕ) where
    unfoldable pub exercise_of : ℕ
    exercise_of = cond (falls_within B turns x) 2 (cond (stands_within B turns x) 1 0)

    pub exercise_is : Answered B x turns exercise_of
    unfolding exercise_of
    exercise_is = go (falls_within B turns x) (stands_within B turns x) refl refl
      where
        go : (f s : Bool) → falls_within B turns x ≡ f → stands_within B turns x ≡ s
            → Answered B x turns (cond f 2 (cond s 1 0))
        go true s e d = answers_falls B x turns e
        go false true e d = answers_stands B x turns d
        go false false e d = answers_neither B x turns e d

    abbrev pub exercised : (n : ℕ) → Test (Answered B x turns n)
    exercised n = so (λ e. subst (Answered B x turns) (sym e) exercise_is) (decided (equals n exercise_of))
