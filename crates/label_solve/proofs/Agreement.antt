-- A labelling that is sound and full agrees, place by place, with its own marks and objectors; so it is the meaning's.
use mathlib.Core.Bool.{Bool, true, false}
use mathlib.Core.List.{List}
use mathlib.Core.Logic.{inl, inr, ◌⊎◌}
use mathlib.Core.Path.{◌≡◌, refl, sym, ap, subst, ◌∙◌}
use Prim.Native.Nat.{ℕ, suc, ◌+◌, ◌<◌, ◌≤◌}
use native.Mathlib.Numerals.{add-one}
use native.Mathlib.Decide.{ℕ_discrete}
use native.Mathlib.Omega.{arith}
use lib.Dec.{eqb}
use lib.ListN.{get_or, length}
use Rattle.game.specs.Book.{Book, book_of, Objects, Read, Unread, Listed}
use Rattle.game.specs.Label.{Verdict, falls, stands, is_open, Means}
use Rattle.game.specs.Account.{label_number, length_number}
use Rattle.label_solve.specs.Labelled.{Told}
use Rattle.game.specs.Agree.{Fits, Agrees}
use Rattle.game.proofs.Agree.{agrees_means}
use Rattle.game.proofs.HandedBook.{objects_entry}
use Rattle.lists.specs.Handed.{Handed}
use Rattle.label_solve.specs.Labelled.{Labelled}
use Rattle.label_queue.specs.LabelState.{Sound, Full}

-- what a label's number and a length's number say
abbrev pick : Bool → Verdict → Verdict → Verdict
pick true v w = v
pick false v w = w

said : (label n : ℕ) → Verdict
said label n = pick (eqb label 2) (falls n) (pick (eqb label 1) (stands n) is_open)

said_falls : (l n : ℕ) → l ≡ 2 → said l n ≡ falls n
unfolding said
said_falls l n p = rw p

said_stands : (l n : ℕ) → l ≡ 1 → said l n ≡ stands n
unfolding said
said_stands l n p = rw p

said_open : (l n : ℕ) → l ≡ 0 → said l n ≡ is_open
unfolding said
said_open l n p = rw p

-- a number that says stands is 1, with that length
stands_said : (l n k : ℕ) → l ≤ 2 → said l n ≡ stands k → (l ≡ 1) × (n ≡ k)
stands_said l n k h e = go (ℕ_discrete l 2) (ℕ_discrete l 1)
  where
    go : Dec (l ≡ 2) → Dec (l ≡ 1) → (l ≡ 1) × (n ≡ k)
    go (yes p) d = let z : ◌≡◌ {A = ℕ} 0 1 = cc (said_falls l n p) in absurd (omega arith)
    go (no p) (yes q) = (q, cc (said_stands l n q))
    go (no p) (no q) = let z : ◌≡◌ {A = ℕ} 0 1 = cc (said_open l n (omega arith)) in absurd (omega arith)

module _ (marks objectors targets labels lengths : List ℕ) (reg : Handed marks objectors targets)
    (ok : Sound marks objectors targets labels lengths) (full : Full marks objectors targets labels lengths) where
  abbrev B : Book
  B = book_of marks objectors targets

  v : ℕ → Verdict
  v x = said (get_or labels x 0) (get_or lengths x 0)

  abbrev Has : ℕ → ℕ → Type 0
  Has x e = (e < length objectors) × (get_or targets e 0 ≡ x)

  -- the objector of an entry against x objects to it, and every objector is that of an entry
  by_entry : (x e : ℕ) → Has x e → Objects B (get_or objectors e 0) x
  by_entry x e (h, t) =
      (objects_entry marks objectors targets (get_or objectors e 0) x).1 (reg.order.objector e h, (e, (h, refl, t)))

  entry_of : (x z : ℕ) → Objects B z x → (e : ℕ) × Has x e × (get_or objectors e 0 ≡ z) × (z < length marks)
  entry_of x z o =
      let (l, (e, (h, y, t))) = (objects_entry marks objectors targets z x).0 o in
      (e, (h, t), y, l)

  read : (x : ℕ) → get_or marks x 0 ≡ 0 → Read B x
  unfolding book_of
  read x m = rw m tt

  unread : (x : ℕ) → get_or marks x 0 ≡ 1 → Unread B x
  unfolding book_of
  unread x m = rw m tt

  -- what is said of an objector that stands
  felled_by : (x z k : ℕ) → Objects B z x → v z ≡ stands k → (get_or labels x 0 ≡ 2) × (get_or lengths x 0 ≤ k + 1)
  unfolding v
  felled_by x z k o e =
      let (d, (h, t), y, l) = entry_of x z o in
      let (l1, n) = stands_said (get_or labels z 0) (get_or lengths z 0) k (ok.small z l) e in
      let f : (get_or labels x 0 ≡ 2) × (get_or lengths x 0 ≤ get_or lengths z 0 + 1) = rw (t, y) at (full.fells d h (rw y l1)) in
      (f.0, omega (arith, f.1))

  fits_falls : (x : ℕ) → x < length marks → get_or labels x 0 ≡ 2 → Fits B v x (falls (get_or lengths x 0))
  unfolding v
  fits_falls x hx l2 =
      let (e, h, t, l1, n) = ok.felled x hx l2 in
      let m : ℕ = get_or lengths (get_or objectors e 0) 0 in (
        m,
        sym n ∙ add-one m,
        (get_or objectors e 0, by_entry x e (h, t), said_stands (get_or labels (get_or objectors e 0) 0) m l1),
        λ z k o s. omega (arith, (felled_by x z k o s).1, n),
      )

  fits_stands : (x : ℕ) → x < length marks → get_or labels x 0 ≡ 1 → Fits B v x (stands (get_or lengths x 0))
  unfolding v
  fits_stands x hx l1 = (read x (ok.stood x hx l1), every, longest)
    where
      beaten : (e : ℕ) → Has x e → (get_or labels (get_or objectors e 0) 0 ≡ 2)
          × (get_or lengths (get_or objectors e 0) 0 + 1 ≤ get_or lengths x 0)
      beaten e (h, t) = rw t at (ok.beaten e h (rw t l1))

      every : (z : ℕ) → Objects B z x → (k : ℕ) × (v z ≡ falls k) × (k < get_or lengths x 0)
      every z o =
          let (e, h, y, l) = entry_of x z o in
          let f : (get_or labels z 0 ≡ 2) × (get_or lengths z 0 + 1 ≤ get_or lengths x 0) = rw y at (beaten e h) in
          (get_or lengths z 0, said_falls (get_or labels z 0) (get_or lengths z 0) f.0, omega (arith, f.1))

      longest : (m : ℕ) → get_or lengths x 0 ≡ suc m → (y : ℕ) × Objects B y x × (v y ≡ falls m)
      longest m n = go (ok.tight x hx l1)
        where
          go : (get_or lengths x 0 ≡ 0) ⊎ ((e : ℕ) × (e < length objectors) × (get_or targets e 0 ≡ x)
              × (get_or lengths (get_or objectors e 0) 0 + 1 ≡ get_or lengths x 0)) → (y : ℕ) × Objects B y x × (v y ≡ falls m)
          go (inl z) = absurd (omega arith)
          go (inr (e, h, t, k)) =
              let w : ℕ = get_or objectors e 0 in
              let s : get_or lengths w 0 ≡ m = omega arith in
              (w, by_entry x e (h, t), said_falls (get_or labels w 0) (get_or lengths w 0) (beaten e (h, t)).0 ∙ ap falls s)

  fits_open : (x : ℕ) → x < length marks → get_or labels x 0 ≡ 0 → Fits B v x is_open
  unfolding v
  fits_open x hx l0 = ((λ z k o s. omega (arith, (felled_by x z k o s).0)), go (ℕ_discrete (get_or marks x 0) 0))
    where
      open_at : (e : ℕ) → Has x e → (get_or labels (get_or objectors e 0) 0 ≡ 2 → ⊥) → v (get_or objectors e 0) ≡ is_open
      open_at e (h, t) n2 =
          said_open (get_or labels (get_or objectors e 0) 0) (get_or lengths (get_or objectors e 0) 0)
          (omega (arith, ok.small (get_or objectors e 0) (reg.order.objector e h), n2, not_1))
        where
          not_1 : get_or labels (get_or objectors e 0) 0 ≡ 1 → ⊥
          not_1 l1 = omega (arith, rw t at (full.fells e h l1).0)

      go : Dec (get_or marks x 0 ≡ 0) → Unread B x ⊎ ((y : ℕ) × Objects B y x × (v y ≡ is_open))
      go (no u) = inl (unread x (omega (arith, reg.order.marked x hx)))
      go (yes r) =
          let (e, h, t, n2) = full.holds x hx r (λ l1. omega arith) in
          inr (get_or objectors e 0, by_entry x e (h, t), open_at e (h, t) n2)

  listed : (x : ℕ) → Listed B x → x < length marks
  unfolding book_of
  listed x l = l

  agree : Agrees B v
  unfolding v
  agree x l = go (ℕ_discrete (get_or labels x 0) 2) (ℕ_discrete (get_or labels x 0) 1)
    where
      h : x < length marks
      h = listed x l

      go : Dec (get_or labels x 0 ≡ 2) → Dec (get_or labels x 0 ≡ 1) → Fits B v x (v x)
      go (yes p) d = rw (said_falls (get_or labels x 0) (get_or lengths x 0) p) (fits_falls x h p)
      go (no p) (yes q) = rw (said_stands (get_or labels x 0) (get_or lengths x 0) q) (fits_stands x h q)
      go (no p) (no q) =
          let z : get_or labels x 0 ≡ 0 = omega (arith, ok.small x h) in
          rw (said_open (get_or labels x 0) (get_or lengths x 0) z) (fits_open x h z)

  tell : (x : ℕ) → x < length marks → Means B x (v x) → Told B x (get_or labels x 0) (get_or lengths x 0)
  unfolding v
  tell x hx m = go (ℕ_discrete (get_or labels x 0) 2) (ℕ_discrete (get_or labels x 0) 1)
    where
      with : (w : Verdict) → v x ≡ w → get_or labels x 0 ≡ label_number w → get_or lengths x 0 ≡ length_number w
          → Told B x (get_or labels x 0) (get_or lengths x 0)
      with w e l n = record { verdict = w; means = subst (λ u. Means B x u) e m; label_is = l; length_is = n }

      go : Dec (get_or labels x 0 ≡ 2) → Dec (get_or labels x 0 ≡ 1) → Told B x (get_or labels x 0) (get_or lengths x 0)
      go (yes p) d = with (falls (get_or lengths x 0)) (said_falls (get_or labels x 0) (get_or lengths x 0) p) p refl
      go (no p) (yes q) = with (stands (get_or lengths x 0)) (said_stands (get_or labels x 0) (get_or lengths x 0) q) q refl
      go (no p) (no q) =
          let z : get_or labels x 0 ≡ 0 = omega (arith, ok.small x hx) in
          with is_open (said_open (get_or labels x 0) (get_or lengths x 0) z) z (ok.dash x hx z)

  pub labelled : Labelled B labels lengths
  labelled = record { told = λ x l. tell x (listed x l) ((agrees_means B v).0 agree x l) }
