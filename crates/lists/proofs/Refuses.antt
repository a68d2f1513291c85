-- Every list is accepted or refused, never both, and with one refusal only.
use mathlib.Core.List.{List}
use mathlib.Core.Logic.{inl, inr, ◌⊎◌, ◌↔◌}
use mathlib.Core.Option.{Option, some, none}
use mathlib.Core.Path.{refl, ap, sym, ◌≡◌, ◌∙◌}
use Prim.Native.Nat.{ℕ, ◌≤◌, ◌<◌}
use native.Mathlib.Decide.{dec_le, dec_lt, ℕ_discrete}
use native.Mathlib.Omega.{arith}
use lib.ListN.{length, get_or}
use Rattle.game.specs.Book.{InOrder}
use Rattle.game.specs.Find.{First}
use Rattle.game.proofs.Find.{first_once, first_below}
use Rattle.lists.specs.declared.ListsFault.{ListsFault}
use Rattle.lists.specs.declared.ListsFault.TheVariants.{Unequal, Statements, Objections, Mark, Place, Repeated}
use Rattle.lists.specs.Refuses.{BadMark, BadPlace, Repeat, Lists, Refuses, Same}

module _ (marks objectors targets : List ℕ) where
  -- what passes every row is accepted, and the other way round
  pub in_order : length targets ≡ length objectors → ((j : ℕ) → ¬ BadMark marks j)
      → ((j : ℕ) → ¬ BadPlace marks objectors targets j) → InOrder marks objectors targets
  in_order e marked placed = record {
    paired = e;
    marked = λ x h. low x (dec_le (get_or marks x 0) 1) (marked x) h;
    objector = λ k h. inside (get_or objectors k 0) (dec_lt (get_or objectors k 0) (length marks)) (λ l. placed k (h, inl l));
    target = λ k h. inside (get_or targets k 0) (dec_lt (get_or targets k 0) (length marks)) (λ l. placed k (h, inr l));
  }
    where
      low : (x : ℕ) → Dec (get_or marks x 0 ≤ 1) → ¬ BadMark marks x → x < length marks → get_or marks x 0 ≤ 1
      low x (yes l) b h = l
      low x (no l) b h = absurd (b (h, omega arith))

      inside : (p : ℕ) → Dec (p < length marks) → ¬ (length marks ≤ p) → p < length marks
      inside p (yes l) b = l
      inside p (no l) b = absurd (b (omega arith))

  pub accepted : length targets ≡ length objectors → length marks ≤ 1024 → length objectors ≤ 4096 → ((j : ℕ) → ¬ BadMark marks j)
      → ((j : ℕ) → ¬ BadPlace marks objectors targets j) → ((j : ℕ) → ¬ Repeat objectors targets j)
      → Lists marks objectors targets
  accepted e m n marked placed distinct =
      record { few_marks = m; few_pairs = n; order = in_order e marked placed; distinct = distinct }

  marked_of : Lists marks objectors targets → (j : ℕ) → ¬ BadMark marks j
  marked_of a j (h, l) = omega (arith, a.order.marked j h)

  placed_of : Lists marks objectors targets → (j : ℕ) → ¬ BadPlace marks objectors targets j
  placed_of a j (h, w) = go w
    where
      go : (length marks ≤ get_or objectors j 0) ⊎ (length marks ≤ get_or targets j 0) → ⊥
      go (inl l) = omega (arith, a.order.objector j h)
      go (inr l) = omega (arith, a.order.target j h)

  -- accepted and refused at once: never
  pub not_both : Lists marks objectors targets → (r : ListsFault) → Refuses marks objectors targets r → ⊥
  not_both a Unequal p = p a.order.paired
  not_both a Statements p = omega (arith, p.1, a.few_marks)
  not_both a Objections p = omega (arith, p.2, a.few_pairs)
  not_both a (Mark k) p = marked_of a k p.3.0
  not_both a (Place k) p = placed_of a k p.4.0
  not_both a (Repeated k) p = a.distinct k p.5.0

-- Decisions, so that the refusal can be looked for.
not? : {A : Type 0} → Dec A → Dec (¬ A)
not? (yes a) = no (λ f. f a)
not? (no f) = yes f

both? : {A B : Type 0} → Dec A → Dec B → Dec (A × B)
both? (yes a) (yes b) = yes (a, b)
both? (yes a) (no g) = no (λ p. g p.1)
both? (no f) d = no (λ p. f p.0)

either? : {A B : Type 0} → Dec A → Dec B → Dec (A ⊎ B)
either? (yes a) d = yes (inl a)
either? (no f) (yes b) = yes (inr b)
either? (no f) (no g) = no (elim [ inl a ↦ f a | inr b ↦ g b ])

-- One row of the table: its refusal where the row applies, else the rest. And a row that reports the first entry at fault.
row : {A : Type 0} → Dec A → ListsFault → Option ListsFault → Option ListsFault
row (yes a) r rest = some r
row (no f) r rest = rest

row_applies : {A : Type 0} (d : Dec A) (r : ListsFault) (rest : Option ListsFault) → A → row d r rest ≡ some r
unfolding row
row_applies (yes a) r rest p = refl
row_applies (no f) r rest p = absurd (f p)

row_passes : {A : Type 0} (d : Dec A) (r : ListsFault) (rest : Option ListsFault) → ¬ A → row d r rest ≡ rest
unfolding row
row_passes (yes a) r rest n = absurd (n a)
row_passes (no f) r rest n = refl

module _ (Fault : ℕ → Type 0) (n : ℕ) (bound : (k : ℕ) → Fault k → k < n)
    (found : ((k : ℕ) × First Fault k) ⊎ ((k : ℕ) → k < n → ¬ Fault k)) (refusal : ℕ → ListsFault) (rest : Option ListsFault)
  where
    entries : Option ListsFault
    entries = elim found [ inl p ↦ some (refusal p.0) | inr f ↦ rest ]

    entries_first : (k : ℕ) → First Fault k → entries ≡ some (refusal k)
    unfolding entries
    entries_first k p = go found
      where
        go : (w : ((k : ℕ) × First Fault k) ⊎ ((k : ℕ) → k < n → ¬ Fault k))
            → elim w as (λ _. Option ListsFault) [ inl p ↦ some (refusal p.0) | inr f ↦ rest ] ≡ some (refusal k)
        go (inl q) = ap (λ j. some (refusal j)) (first_once Fault q.0 k q.1 p)
        go (inr f) = absurd (f k (bound k p.0) p.0)

    entries_pass : ((k : ℕ) → ¬ Fault k) → entries ≡ rest
    unfolding entries
    entries_pass f = go found
      where
        go : (w : ((k : ℕ) × First Fault k) ⊎ ((k : ℕ) → k < n → ¬ Fault k))
            → elim w as (λ _. Option ListsFault) [ inl p ↦ some (refusal p.0) | inr f ↦ rest ] ≡ rest
        go (inl q) = absurd (f q.0 q.1.0)
        go (inr g) = refl

module _ (marks objectors targets : List ℕ) where
  mark? : (k : ℕ) → Dec (BadMark marks k)
  mark? k = both? (dec_lt k (length marks)) (dec_lt 1 (get_or marks k 0))

  place? : (k : ℕ) → Dec (BadPlace marks objectors targets k)
  place? k =
      both? (dec_lt k (length objectors)) (either? (dec_le (length marks) (get_or objectors k 0))
      (dec_le (length marks) (get_or targets k 0)))

  repeat? : (k : ℕ) → Dec (Repeat objectors targets k)
  repeat? k =
      both? (dec_lt k (length objectors)) (go (first_below Earlier
      (λ j. both? (dec_lt j k) (both? (ℕ_discrete (get_or objectors j 0) (get_or objectors k 0))
      (ℕ_discrete (get_or targets j 0) (get_or targets k 0)))) k))
    where
      Earlier : ℕ → Type 0
      Earlier j = (j < k) × Same objectors targets (get_or objectors k 0) (get_or targets k 0) j

      go : ((j : ℕ) × First Earlier j) ⊎ ((j : ℕ) → j < k → ¬ Earlier j)
          → Dec ((j : ℕ) × (j < k) × Same objectors targets (get_or objectors k 0) (get_or targets k 0) j)
      go (inl (j, f)) = yes (j, f.0.0, f.0.1)
      go (inr f) = no (λ w. f w.0 w.1 (w.1, w.2))

  marks_found : ((k : ℕ) × First (BadMark marks) k) ⊎ ((k : ℕ) → k < length marks → ¬ BadMark marks k)
  marks_found = first_below (BadMark marks) mark? (length marks)

  places_found : ((k : ℕ) × First (BadPlace marks objectors targets) k)
      ⊎ ((k : ℕ) → k < length objectors → ¬ BadPlace marks objectors targets k)
  places_found = first_below (BadPlace marks objectors targets) place? (length objectors)

  repeats_found : ((k : ℕ) × First (Repeat objectors targets) k) ⊎ ((k : ℕ) → k < length objectors → ¬ Repeat objectors targets k)
  repeats_found = first_below (Repeat objectors targets) repeat? (length objectors)

  -- the rows from the last to the first
  by_repeat : Option ListsFault
  by_repeat = entries (Repeat objectors targets) (length objectors) (λ k p. p.0) repeats_found Repeated none

  by_place : Option ListsFault
  by_place = entries (BadPlace marks objectors targets) (length objectors) (λ k p. p.0) places_found Place by_repeat

  by_mark : Option ListsFault
  by_mark = entries (BadMark marks) (length marks) (λ k p. p.0) marks_found Mark by_place

  by_pairs : Option ListsFault
  by_pairs = row (dec_lt 4096 (length objectors)) Objections by_mark

  by_marks : Option ListsFault
  by_marks = row (dec_lt 1024 (length marks)) Statements by_pairs

  refusal : Option ListsFault
  refusal = row (not? (ℕ_discrete (length targets) (length objectors))) Unequal by_marks

  past_unequal : length targets ≡ length objectors → refusal ≡ by_marks
  unfolding refusal
  past_unequal e = row_passes (not? (ℕ_discrete (length targets) (length objectors))) Unequal by_marks (λ n. n e)

  past_marks : length targets ≡ length objectors → length marks ≤ 1024 → refusal ≡ by_pairs
  unfolding by_marks
  past_marks e m = past_unequal e ∙ row_passes (dec_lt 1024 (length marks)) Statements by_pairs (λ h. omega arith)

  past_pairs : length targets ≡ length objectors → length marks ≤ 1024 → length objectors ≤ 4096 → refusal ≡ by_mark
  unfolding by_pairs
  past_pairs e m n = past_marks e m ∙ row_passes (dec_lt 4096 (length objectors)) Objections by_mark (λ h. omega arith)

  past_mark : length targets ≡ length objectors → length marks ≤ 1024 → length objectors ≤ 4096 → ((j : ℕ) → ¬ BadMark marks j)
      → refusal ≡ by_place
  unfolding by_mark
  past_mark e m n f = past_pairs e m n ∙ entries_pass (BadMark marks) (length marks) (λ k p. p.0) marks_found Mark by_place f

  past_place : length targets ≡ length objectors → length marks ≤ 1024 → length objectors ≤ 4096 → ((j : ℕ) → ¬ BadMark marks j)
      → ((j : ℕ) → ¬ BadPlace marks objectors targets j) → refusal ≡ by_repeat
  unfolding by_place
  past_place e m n f g =
      past_mark e m n f ∙ entries_pass (BadPlace marks objectors targets) (length objectors) (λ k p. p.0) places_found Place
      by_repeat g

  -- whatever refusal the lists get, it is this one
  refuses_is : (r : ListsFault) → Refuses marks objectors targets r → refusal ≡ some r
  unfolding refusal by_marks by_pairs by_mark by_place by_repeat
  refuses_is Unequal p = row_applies (not? (ℕ_discrete (length targets) (length objectors))) Unequal by_marks p
  refuses_is Statements (e, h) = past_unequal e ∙ row_applies (dec_lt 1024 (length marks)) Statements by_pairs h
  refuses_is Objections (e, m, h) = past_marks e m ∙ row_applies (dec_lt 4096 (length objectors)) Objections by_mark h
  refuses_is (Mark k) (e, m, n, p) =
      past_pairs e m n ∙ entries_first (BadMark marks) (length marks) (λ k p. p.0) marks_found Mark by_place k p
  refuses_is (Place k) (e, m, n, f, p) =
      past_mark e m n f ∙ entries_first (BadPlace marks objectors targets) (length objectors) (λ k p. p.0) places_found Place
      by_repeat k p
  refuses_is (Repeated k) (e, m, n, f, g, p) =
      past_place e m n f g ∙ entries_first (Repeat objectors targets) (length objectors) (λ k p. p.0) repeats_found Repeated none
      k p

  pub refuses_once : (r r' : ListsFault) → Refuses marks objectors targets r → Refuses marks objectors targets r' → r ≡ r'
  refuses_once r r' p q = cc (refuses_is r p, refuses_is r' q)

  -- every list is accepted or refused
  pub settled : Lists marks objectors targets ⊎ ((r : ListsFault) × Refuses marks objectors targets r)
  settled = equal (ℕ_discrete (length targets) (length objectors))
    where
      Settled : Type 0
      Settled = Lists marks objectors targets ⊎ ((r : ListsFault) × Refuses marks objectors targets r)

      Equal : Type 0
      Equal = length targets ≡ length objectors

      repeats : Equal → length marks ≤ 1024 → length objectors ≤ 4096 → ((j : ℕ) → ¬ BadMark marks j)
          → ((j : ℕ) → ¬ BadPlace marks objectors targets j) → ((k : ℕ) × First (Repeat objectors targets) k)
          ⊎ ((k : ℕ) → k < length objectors → ¬ Repeat objectors targets k) → Settled
      repeats e m n f g (inl (k, p)) = inr (Repeated k, (e, m, n, f, g, p))
      repeats e m n f g (inr h) = inl (accepted marks objectors targets e m n f g (λ j p. h j p.0 p))

      places : Equal → length marks ≤ 1024 → length objectors ≤ 4096 → ((j : ℕ) → ¬ BadMark marks j)
          → ((k : ℕ) × First (BadPlace marks objectors targets) k)
          ⊎ ((k : ℕ) → k < length objectors → ¬ BadPlace marks objectors targets k) → Settled
      places e m n f (inl (k, p)) = inr (Place k, (e, m, n, f, p))
      places e m n f (inr h) = repeats e m n f (λ j p. h j p.0 p) repeats_found

      each_mark : Equal → length marks ≤ 1024 → length objectors ≤ 4096 → ((k : ℕ) × First (BadMark marks) k)
          ⊎ ((k : ℕ) → k < length marks → ¬ BadMark marks k) → Settled
      each_mark e m n (inl (k, p)) = inr (Mark k, (e, m, n, p))
      each_mark e m n (inr h) = places e m n (λ j p. h j p.0 p) places_found

      pairs : Equal → length marks ≤ 1024 → Dec (length objectors ≤ 4096) → Settled
      pairs e m (yes n) = each_mark e m n marks_found
      pairs e m (no n) = inr (Objections, (e, m, omega arith))

      count : Equal → Dec (length marks ≤ 1024) → Settled
      count e (yes m) = pairs e m (dec_le (length objectors) 4096)
      count e (no m) = inr (Statements, (e, omega arith))

      equal : Dec Equal → Settled
      equal (yes e) = count e (dec_le (length marks) 1024)
      equal (no n) = inr (Unequal, n)

  -- accepted exactly where no row applies
  pub accepted_exactly : Lists marks objectors targets ↔ ((r : ListsFault) → ¬ Refuses marks objectors targets r)
  accepted_exactly = (not_both marks objectors targets, λ f. go f settled)
    where
      go : ((r : ListsFault) → ¬ Refuses marks objectors targets r) → Lists marks objectors targets
          ⊎ ((r : ListsFault) × Refuses marks objectors targets r) → Lists marks objectors targets
      go f (inl a) = a
      go f (inr (r, p)) = absurd (f r p)
