-- From the numbers of a labelled register to `game`'s line: where it ends, that there is an objector to go on with, and that
-- the earliest of them is the next.
use mathlib.Core.List.{List, [], ◌∷◌, ◌++◌}
use mathlib.Core.Path.{sym, ap, refl, subst, ◌≡◌, ◌∙◌}
use Prim.Native.Nat.{ℕ, suc, ◌+◌, ◌-◌, ◌≤◌, ◌<◌}
use native.Mathlib.Omega.{arith}
use lib.ListN.{get_or, length, drop}
use Rattle.game.specs.Book.{book_of}
use Rattle.game.specs.Label.{Verdict, is_open, stands, falls, Least}
use Rattle.game.specs.Account.{label_number, length_number}
use Rattle.lists.specs.Handed.{Handed}
use Rattle.label_solve.specs.Labelled.{Labelled, Told}
use Rattle.game.specs.Argument.{Argument, ends, goes_on}
use Rattle.game.proofs.Argument.{turns, last, line, line_unique, next}
use Rattle.game.proofs.HandedBook.{objects_entry}
use Rattle.game.proofs.Verdict.{verdict, means_verdict, means_unique}
use Rattle.game.proofs.Agree.{verdict_agrees}
use Rattle.argument_find.specs.ArgumentRoom.{Turns, Other, ArgumentIn, ObjectsWith}
use Rattle.game.specs.Argument as game

-- the label number of a verdict, and the number of turns, tell the verdict
turns_told : (labels lengths : List ℕ) (x n : ℕ) (v : Verdict) → get_or labels x 0 ≡ label_number v
    → get_or lengths x 0 ≡ length_number v → Turns labels lengths x n → n ≡ turns v
turns_told labels lengths x n is_open a b (p, q) = p a
turns_told labels lengths x n (stands k) a b (p, q) = q (λ e. omega (arith, a, e)) ∙ b
turns_told labels lengths x n (falls k) a b (p, q) = q (λ e. omega (arith, a, e)) ∙ b

-- what follows a verdict has the other label, and one turn less
other_told : (v w : Verdict) (n label other : ℕ) → game.Onward v w → turns v ≡ n → label ≡ label_number v
    → Other label other → (label_number w ≡ other) × (length_number w ≡ n - 1)
other_told (falls k) (stands m) n label other d e a (p, q) = (sym (q a), omega arith)
other_told (falls k) (falls m) n label other d e a o = absurd d
other_told (falls k) is_open n label other d e a o = absurd d
other_told (stands k) (falls m) n label other d e a (p, q) = (sym (p a), omega arith)
other_told (stands k) (stands m) n label other d e a o = absurd d
other_told (stands k) is_open n label other d e a o = absurd d
other_told is_open w n label other d e a o = absurd d

-- and what has the other label and one turn less can follow it
onward_told : (v w : Verdict) (n label other : ℕ) → n ≡ turns v → (n ≡ 0 → ⊥) → label ≡ label_number v
    → Other label other → label_number w ≡ other → length_number w ≡ n - 1 → game.Onward v w
onward_told (falls k) (stands m) n label other e z a (p, q) f g = omega arith
onward_told (falls k) (falls m) n label other e z a (p, q) f g = omega (arith, q a, f)
onward_told (falls k) is_open n label other e z a (p, q) f g = omega (arith, q a, f)
onward_told (stands k) (falls m) n label other e z a (p, q) f g = omega arith
onward_told (stands k) (stands m) n label other e z a (p, q) f g = omega (arith, p a, f)
onward_told (stands k) is_open n label other e z a (p, q) f g = omega (arith, p a, f)
onward_told is_open w n label other e z a o f g = absurd (z e)

-- the other label is not that of an open statement
not_open : (v : Verdict) (n label other : ℕ) → n ≡ turns v → (n ≡ 0 → ⊥) → label ≡ label_number v
    → Other label other → other ≡ 0 → ⊥
not_open is_open n label other e z a o f = z e
not_open (stands k) n label other e z a (p, q) f = omega (arith, p a, f)
not_open (falls k) n label other e z a (p, q) f = omega (arith, q a, f)

module _ (marks objectors targets labels lengths : List ℕ) (handed : Handed marks objectors targets)
    (labelled : Labelled (book_of marks objectors targets) labels lengths) (x n : ℕ) (hx : x < length marks)
    (tn : Turns labels lengths x n) where
  told : Told (book_of marks objectors targets) x (get_or labels x 0) (get_or lengths x 0)
  unfolding book_of
  told = labelled.told x hx

  told_turns : n ≡ turns told.verdict
  told_turns = turns_told labels lengths x n told.verdict told.label_is told.length_is tn

  pub line_ends : n ≡ 0 → Argument (book_of marks objectors targets) x (x ∷ [])
  line_ends z = ends told.verdict told.means (last told.verdict (sym told_turns ∙ z))

  pub line_counts : (l : List ℕ) → Argument (book_of marks objectors targets) x l → length l ≡ suc n
  unfolding book_of
  line_counts l r =
      let (k, t, c) = line (book_of marks objectors targets) x told.verdict hx told.means in
      ap length (line_unique (book_of marks objectors targets) r t) ∙ c ∙ ap suc (sym told_turns)

  -- where there is too little room, and where there was enough
  pub lined_short : (room : List ℕ) (k : ℕ) → k ≡ n → length room < k + 1
      → ArgumentIn (book_of marks objectors targets) x room (k + 1) room
  unfolding book_of
  lined_short room k e h =
      let (l, t, c) = line (book_of marks objectors targets) x told.verdict hx told.means in
      record {
        line = l;
        is_line = t;
        counts = omega (arith, c, told_turns);
        fits = λ g. absurd (omega (arith, c, told_turns));
        short = λ g. refl;
      }

  pub lined_written : (room after : List ℕ) (k : ℕ) → k ≡ n → k + 1 ≤ length room → (l : List ℕ)
      × Argument (book_of marks objectors targets) x l × (after ≡ l ++ drop (length l) room)
      → ArgumentIn (book_of marks objectors targets) x room (k + 1) after
  lined_written room after k e h (l, t, w) =
      record {
        line = l;
        is_line = t;
        counts = omega (arith, line_counts l t);
        fits = λ g. w;
        short = λ g. absurd (omega (arith, line_counts l t));
      }

  module _ (other : ℕ) (ot : Other (get_or labels x 0) other) (some : n ≡ 0 → ⊥) where
    told_of : (y : ℕ) → y < length marks → Told (book_of marks objectors targets) y (get_or labels y 0) (get_or lengths y 0)
    unfolding book_of
    told_of y h = labelled.told y h

    -- there is an objector to go on with
    pub onward_there : (y : ℕ) × ObjectsWith objectors targets labels lengths x other (n - 1) y
    unfolding book_of
    onward_there =
        let B = book_of marks objectors targets in
        let e : told.verdict ≡ verdict B x = means_verdict B x hx told.verdict told.means in
        let (y, w, o, f, d, t) = next B x (n - 1) (verdict B x) (verdict_agrees B x hx)
        (ap turns (sym e) ∙ sym told_turns ∙ omega arith) in
        let (h, (k, (l, a, b))) = (objects_entry marks objectors targets y x).0 o in
        let ty = told_of y h in
        let g : ty.verdict ≡ w = means_verdict B y h ty.verdict ty.means ∙ f in
        let (p, q) = other_told told.verdict w n (get_or labels x 0) other (subst (λ u. game.Onward u w) (sym e) d)
        (sym told_turns) told.label_is ot in
        (y, ((k, l, b, a), ty.label_is ∙ ap label_number g ∙ p, ty.length_is ∙ ap length_number g ∙ q))

    module _ (y : ℕ) (least : Least (ObjectsWith objectors targets labels lengths x other (n - 1)) y) where
      pub onward_listed : y < length marks
      onward_listed = omega (arith, handed.order.objector least.0.0.0 least.0.0.1, least.0.0.3)

      pub onward_turns : Turns labels lengths y (n - 1)
      onward_turns = (
        λ z. absurd (not_open told.verdict n (get_or labels x 0) other told_turns some told.label_is ot
            (sym least.0.1 ∙ z)),
        λ z. sym least.0.2,
      )

      -- the line of x goes on with the earliest of them
      pub line_goes_on : (l : List ℕ) → Argument (book_of marks objectors targets) y l
          → Argument (book_of marks objectors targets) x (x ∷ l)
      unfolding book_of
      line_goes_on l r =
          let B = book_of marks objectors targets in
          let ty = told_of y onward_listed in
          goes_on {l = l} told.verdict ty.verdict told.means
          (onward_told told.verdict ty.verdict n (get_or labels x 0) other told_turns some told.label_is ot
          (sym ty.label_is ∙ least.0.1) (sym ty.length_is ∙ least.0.2))
          record {
            objects =
                (objects_entry marks objectors targets y x).1 (
                  onward_listed,
                  (least.0.0.0, (least.0.0.1, least.0.0.3, least.0.0.2)),
                );
            means = ty.means;
            first = λ z o m.
                let (h, (k, (i, a, b))) = (objects_entry marks objectors targets z x).0 o in
                let tz = told_of z h in
                let g : tz.verdict ≡ ty.verdict = means_unique B z tz.verdict ty.verdict tz.means m in
                least.1 z (
                  (k, i, b, a),
                  tz.label_is ∙ ap label_number g ∙ sym ty.label_is ∙ least.0.1,
                  tz.length_is
                      ∙ ap length_number g ∙ sym ty.length_is ∙ least.0.2,
                );
          } r
