-- What a book says of its finishes: demand 3. And that a finish is wide enough, and no wider: it is the book with any
-- number of new statements and any set of objections against unread or new ones, all marked read.
use mathlib.Core.Bool.{Bool, not, false, ◌&&◌, ◌||◌}
use mathlib.Core.Logic.{inl, inr, ◌⊎◌, ◌↔◌}
use mathlib.Core.Path.{sym, subst, ◌≡◌}
use Prim.Native.Nat.{ℕ, zero, suc, ◌+◌, ◌-◌, ◌≤◌, ◌<◌}
use native.Mathlib.Decide.{dec_le}
use native.Mathlib.Omega.{arith}
use lib.Dec.{T, ltb, lt→ltb, ltb→lt, eqb, eqb_refl, eqb→eq}
use Rattle.game.specs.Book.{Book, Listed, Objects, Read, Unread}
use Rattle.game.specs.Game.{FirstWins, SecondWins}
use Rattle.game.specs.Label.{Means, falls, stands, Falls, Stands}
use Rattle.game.specs.Finish.{between, Allowed, Finish, finished}
use Rattle.game.proofs.Search.{and_of, both, or_left, or_cases, clash, decide, as_false, same_test, and_left, or_right}
use Rattle.game.proofs.Search.{and_right, refute}
use Rattle.game.proofs.Rules.{FallsWithin, falls_zero, falls_at, falls_by, StandsWithin, stands_zero_by, stands_read}
use Rattle.game.proofs.Rules.{stands_zero_at, stands_by, stands_at, exclusive}
use Rattle.game.proofs.Game.{falls_game, stands_game}
use Rattle.game.proofs.Verdict.{falls_within_lem, means_ruled, stands_within_lem}
use Rattle.game.proofs.Transfer.{Same}

module _ (B : Book) where
  is_listed : (y x : ℕ) → Listed B x → Objects B y x → T (between B y x)
  unfolding between
  is_listed y x h o =
      and_of (ltb y B.size && ltb x B.size) (B.objects y x)
      (and_of (ltb y B.size) (ltb x B.size) (lt→ltb y B.size o.0) (lt→ltb x B.size h)) o.1

  of_listed : (y x : ℕ) → T (between B y x) → Listed B x × Objects B y x
  unfolding between
  of_listed y x t =
      let (p, o) = both (ltb y B.size && ltb x B.size) (B.objects y x) t in
      let (i, j) = both (ltb y B.size) (ltb x B.size) p in
      (ltb→lt x B.size j, (ltb→lt y B.size i, o))

  pub every_allowed : (n : ℕ) (adds : ℕ → ℕ → Bool) → Allowed B n adds → Finish B (finished B n adds)
  unfolding finished
  every_allowed n adds ok = record {
    more = omega arith;
    keeps = λ y x h o. (omega (arith, o.0), or_left (between B y x) (adds y x) (is_listed y x h o));
    adds_none = λ y x h r o. old y x h r o.0 (or_cases (between B y x) (adds y x) o.1);
    read = λ x h. tt;
  }
    where
      never : (y x : ℕ) → Listed B x → Read B x → (B.size ≤ x) ⊎ Unread B x → ⊥
      never y x h r (inl new) = omega arith
      never y x h r (inr u) = clash (B.unread x) u r

      old : (y x : ℕ) → Listed B x → Read B x → y < B.size + n → T (between B y x) ⊎ T (adds y x) → Objects B y x
      old y x h r l (inl t) = (of_listed y x t).1
      old y x h r l (inr t) = absurd (never y x h r (ok y x l (omega arith) t))

  -- what a finish has added
  added : Book → ℕ → ℕ → Bool
  added F y x = F.objects y x && not (between B y x)

  pub every_finish : (F : Book) → Finish B F → (n : ℕ) × (adds : ℕ → ℕ → Bool) × Allowed B n adds × Same F (finished B n adds)
  unfolding finished added
  every_finish F fin = (F.size - B.size, added F, allowed, record { size = size; marks = marks; objects = objects })
    where
      size : B.size + (F.size - B.size) ≡ F.size
      size = omega (arith, fin.more)

      allowed : Allowed B (F.size - B.size) (added F)
      allowed y x l m t = go (dec_le B.size x)
        where
          why : Listed B x → T (B.unread x) ⊎ T (not (B.unread x)) → Unread B x
          why h (inl u) = u
          why h (inr r) =
              let (o, none) = both (F.objects y x) (not (between B y x)) t in
              absurd (clash (between B y x) (is_listed y x h (fin.adds_none y x h r (omega (arith, size), o))) none)

          go : Dec (B.size ≤ x) → (B.size ≤ x) ⊎ Unread B x
          go (yes new) = inl new
          go (no g) = inr (why (omega arith) (decide (B.unread x)))

      marks : (x : ℕ) → x < B.size + (F.size - B.size) → false ≡ F.unread x
      marks x l = sym (as_false (F.unread x) (fin.read x (omega (arith, size))))

      objects : (y x : ℕ) → y < B.size + (F.size - B.size) → x < B.size + (F.size - B.size)
          → (between B y x || added F y x) ≡ F.objects y x
      objects y x l m =
          same_test (between B y x || added F y x) (F.objects y x) (λ t. from (or_cases (between B y x) (added F y x) t))
          (λ o. to o (decide (between B y x)))
        where
          from : T (between B y x) ⊎ T (added F y x) → T (F.objects y x)
          from (inl t) = let (h, o) = of_listed y x t in (fin.keeps y x h o).1
          from (inr t) = and_left (F.objects y x) (not (between B y x)) t

          to : T (F.objects y x) → T (between B y x) ⊎ T (not (between B y x)) → T (between B y x || added F y x)
          to o (inl t) = or_left (between B y x) (added F y x) t
          to o (inr f) = or_right (between B y x) (added F y x) (and_of (F.objects y x) (not (between B y x)) o f)

-- What every finish is, and every other way of adding to what is known: nothing is lost, and what was read stays read,
-- with its objections.
pub record Extends (B F : Book) : Type 0 where
  pub more : B.size ≤ F.size
  pub keeps : (y x : ℕ) → Listed B x → Objects B y x → Objects F y x
  pub adds_none : (y x : ℕ) → Listed B x → Read B x → Objects F y x → Objects B y x
  pub stays_read : (x : ℕ) → Listed B x → Read B x → Read F x

pub finish_extends : (B F : Book) → Finish B F → Extends B F
finish_extends B F fin = record {
  more = fin.more;
  keeps = fin.keeps;
  adds_none = fin.adds_none;
  stays_read = λ x h r. fin.read x (omega (arith, fin.more));
}

-- What falls or stands within n turns still does so when more is known.
module _ (B F : Book) (fin : Extends B F) where
  mutual
    pub falls_grow : (n : ℕ) (x : ℕ) → x < B.size → FallsWithin B n x → FallsWithin F n x
    falls_grow zero x h t = absurd (falls_zero B x t)
    falls_grow (suc n) x h t =
        let (y, o, s) = falls_at B n x t in falls_by F n x y (fin.keeps y x h o) (stands_grow n y o.0 s)

    pub stands_grow : (n : ℕ) (x : ℕ) → x < B.size → StandsWithin B n x → StandsWithin F n x
    stands_grow zero x h t =
        stands_zero_by F x (fin.stays_read x h (stands_read B 0 x t))
        (λ w. stands_zero_at B x t (w.0, fin.adds_none w.0 x h (stands_read B 0 x t) w.1))
    stands_grow (suc n) x h t =
        stands_by F n x (fin.stays_read x h (stands_read B (suc n) x t))
        (λ y o. let p = fin.adds_none y x h (stands_read B (suc n) x t) o in falls_grow n y p.0 (stands_at B n x t y p))

  pub falls_still : (n x : ℕ) → x < B.size → Means B x (falls n) → (m : ℕ) × (m ≤ n) × Means F x (falls m)
  falls_still n x h p = (falls_within_lem F n x).0 (falls_grow n x h (means_ruled B x (falls n) p).0)

  pub stands_still : (n x : ℕ) → x < B.size → Means B x (stands n) → (m : ℕ) × (m ≤ n) × Means F x (stands m)
  stands_still n x h p = (stands_within_lem F n x).0 (stands_grow n x h (means_ruled B x (stands n) p).0)

-- The finish in which every unread statement objects to itself, and nothing else is new.
module _ (B : Book) where
  pub plain : Book
  plain = record { size = B.size; unread = λ x. false; objects = λ y x. B.objects y x || (eqb y x && B.unread x) }

  plain_old : (y x : ℕ) → Objects B y x → Objects plain y x
  unfolding plain
  plain_old y x (h, o) = (h, or_left (B.objects y x) (eqb y x && B.unread x) o)

  plain_self : (x : ℕ) → x < B.size → T (B.unread x) → Objects plain x x
  unfolding plain
  plain_self x h u = (h, or_right (B.objects x x) (eqb x x && B.unread x) (and_of (eqb x x) (B.unread x) (eqb_refl x) u))

  plain_cases : (y x : ℕ) → Objects plain y x → Objects B y x ⊎ ((y ≡ x) × T (B.unread x))
  unfolding plain
  plain_cases y x (h, o) = go (or_cases (B.objects y x) (eqb y x && B.unread x) o)
    where
      go : T (B.objects y x) ⊎ T (eqb y x && B.unread x) → Objects B y x ⊎ ((y ≡ x) × T (B.unread x))
      go (inl p) = inl (h, p)
      go (inr q) = inr (eqb→eq y x (and_left (eqb y x) (B.unread x) q), and_right (eqb y x) (B.unread x) q)

  pub plain_finish : Finish B plain
  unfolding plain
  plain_finish = record {
    more = omega arith;
    keeps = λ y x h o. plain_old y x o;
    adds_none = λ y x h r o. go y x r (plain_cases y x o);
    read = λ x h. tt;
  }
    where
      go : (y x : ℕ) → Read B x → Objects B y x ⊎ ((y ≡ x) × T (B.unread x)) → Objects B y x
      go y x r (inl p) = p
      go y x r (inr q) = absurd (clash (B.unread x) q.1 r)

  mutual
    unfolding plain

    falls_back : (n : ℕ) (x : ℕ) → x < B.size → FallsWithin plain n x → FallsWithin B n x
    falls_back zero x h t = absurd (falls_zero plain x t)
    falls_back (suc n) x h t = let (y, o, s) = falls_at plain n x t in go y (plain_cases y x o) (stands_back n y o.0 s)
      where
        go : (y : ℕ) → Objects B y x ⊎ ((y ≡ x) × T (B.unread x)) → StandsWithin B n y → FallsWithin B (suc n) x
        go y (inl p) s = falls_by B n x y p s
        go y (inr q) s = absurd (clash (B.unread x) q.1 (subst (λ z. Read B z) q.0 (stands_read B n y s)))

    stands_back : (n : ℕ) (x : ℕ) → x < B.size → StandsWithin plain n x → StandsWithin B n x
    stands_back zero x h t =
        stands_zero_by B x (refute (B.unread x) (λ u. stands_zero_at plain x t (x, plain_self x h u)))
        (λ w. stands_zero_at plain x t (w.0, plain_old w.0 x w.1))
    stands_back (suc n) x h t =
        stands_by B n x (refute (B.unread x) (λ u. exclusive plain n (suc n) x (stands_at plain n x t x (plain_self x h u)) t))
        (λ y o. falls_back n y o.0 (stands_at plain n x t y (plain_old y x o)))

  -- Nobody wins sooner there.
  pub plain_first : (n x : ℕ) → x < B.size → FirstWins plain n x → FirstWins B n x
  plain_first n x h t = (falls_game B n x).0 (falls_back n x h ((falls_game plain n x).1 t))

  pub plain_second : (n x : ℕ) → x < B.size → SecondWins plain n x → SecondWins B n x
  plain_second n x h t = (stands_game B n x).0 (stands_back n x h ((stands_game plain n x).1 t))

  -- Demand 3.
  pub falls_in_every_finish : (x : ℕ) → x < B.size → Falls B x ↔ ((F : Book) → Finish B F → Falls F x)
  falls_in_every_finish x h = (
    λ w F fin. (
      w.0,
      (falls_game F w.0 x).0 (falls_grow B F (finish_extends B F fin) w.0 x h
          ((falls_game B w.0 x).1 w.1)),
    ),
    back,
  )
    where
      back : ((F : Book) → Finish B F → Falls F x) → Falls B x
      back f = let (n, t) = f plain plain_finish in (n, plain_first n x h t)

  pub stands_in_every_finish : (x : ℕ) → x < B.size → Stands B x ↔ ((F : Book) → Finish B F → Stands F x)
  stands_in_every_finish x h = (
    λ w F fin. (
      w.0,
      (stands_game F w.0 x).0 (stands_grow B F (finish_extends B F fin) w.0 x h
          ((stands_game B w.0 x).1 w.1)),
    ),
    back,
  )
    where
      back : ((F : Book) → Finish B F → Stands F x) → Stands B x
      back f = let (n, t) = f plain plain_finish in (n, plain_second n x h t)

  pub falls_no_later : (F : Book) → Finish B F → (n x : ℕ) → x < B.size → Means B x (falls n) → (m : ℕ) × (m ≤ n)
      × Means F x (falls m)
  falls_no_later F fin = falls_still B F (finish_extends B F fin)

  pub stands_no_later : (F : Book) → Finish B F → (n x : ℕ) → x < B.size → Means B x (stands n) → (m : ℕ) × (m ≤ n)
      × Means F x (stands m)
  stands_no_later F fin = stands_still B F (finish_extends B F fin)
