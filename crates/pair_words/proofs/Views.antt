-- The views of two rooms: objectors, targets and links in the first; links and where chains begin in the second. Each store sets
-- its view and leaves the others.
use mathlib.Core.List.{List, map, [], ◌∷◌}
use mathlib.Core.Logic.{inl, inr, ⊎_elim}
use mathlib.Core.Path.{refl, ap, sym, ◌≡◌, ◌∙◌}
use Prim.Native.Nat.{ℕ, zero, suc, ◌+◌, ◌-◌, ◌*◌, ◌/◌, ◌%◌, ◌≤◌, ◌<◌}
use native.Mathlib.Decide.{dec_lt}
use native.Mathlib.Omega.{arith}
use lib.ListN.{length, length-map, get_or, get_or-map, set, length-set}
use borrow.Author.Tests.{lt-ltb, le-ltb}
use Rattle.pair_chain.proofs.ChainSteps.{Stored, stored}
use Rattle.pair_words.specs.Words.{objectors_in, targets_in, with_pair, link_against, with_low, with_high, low, high, link_by}
use Rattle.pair_words.specs.Words.{with_link_by, begin_against, begin_by, with_begins}

-- as many objectors and targets as words, and each in its word
pub objectors_length : (pairs : List ℕ) → length (objectors_in pairs) ≡ length pairs
unfolding objectors_in
objectors_length pairs = length-map pairs (λ w. w % 1024)

pub targets_length : (pairs : List ℕ) → length (targets_in pairs) ≡ length pairs
unfolding targets_in
targets_length pairs = length-map pairs (λ w. w / 1024 % 1024)

pub objector_at : (pairs : List ℕ) (e : ℕ) → get_or (objectors_in pairs) e 0 ≡ get_or pairs e 0 % 1024
unfolding objectors_in
objector_at pairs e = get_or-map (λ w. w % 1024) pairs e 0

pub target_at : (pairs : List ℕ) (e : ℕ) → get_or (targets_in pairs) e 0 ≡ get_or pairs e 0 / 1024 % 1024
unfolding targets_in
target_at pairs e = get_or-map (λ w. w / 1024 % 1024) pairs e 0

as_was : (i e : ℕ) {now was put : ℕ} → Stored i e now was put → (i ≡ e → ⊥) → now ≡ was
as_was i e (inl (p, a)) n = absurd (n p)
as_was i e (inr (q, b)) n = b

map_set : (f : ℕ → ℕ) (l : List ℕ) (i v : ℕ) → map f (set l i v) ≡ set (map f l) i (f v)
map_set f [] i v = refl
map_set f (a ∷ l) zero v = refl
map_set f (a ∷ l) (suc i) v = ap (λ r. f a ∷ r) (map_set f l i v)

-- The store of an entry.
module _ (pairs : List ℕ) (e y x l : ℕ) (objector : y < 1024) (target : x < 1024) where
  pub pair_objectors : objectors_in (with_pair pairs e y x l) ≡ set (objectors_in pairs) e y
  unfolding objectors_in with_pair
  pair_objectors =
      let p : (y + 1024 * x + 1048576 * l) % 1024 ≡ y = omega arith in
      map_set (λ w. w % 1024) pairs e (y + 1024 * x + 1048576 * l) ∙ ap (set (map (λ w. w % 1024) pairs) e) p

  pub pair_targets : targets_in (with_pair pairs e y x l) ≡ set (targets_in pairs) e x
  unfolding targets_in with_pair
  pair_targets =
      let p : (y + 1024 * x + 1048576 * l) / 1024 % 1024 ≡ x = omega arith in
      map_set (λ w. w / 1024 % 1024) pairs e (y + 1024 * x + 1048576 * l) ∙ ap (set (map (λ w. w / 1024 % 1024) pairs) e) p

  pub pair_link : e < length pairs → (i : ℕ) → Stored i e (link_against (with_pair pairs e y x l) i) (link_against pairs i) l
  unfolding link_against with_pair
  pair_link h i =
      ⊎_elim (λ w. inl (w.0, omega (arith, w.1))) (λ w. inr (w.0, ap (λ a. a / 1048576) w.1))
      (stored pairs e (y + 1024 * x + 1048576 * l) h i)

  pub pair_length : length (with_pair pairs e y x l) ≡ length pairs
  unfolding with_pair
  pair_length = length-set pairs e (y + 1024 * x + 1048576 * l)

-- The store of a low part: no high part; and of a high one: no low part.
module _ (links : List ℕ) (i v : ℕ) where
  low_length : length (with_low links i v) ≡ length links
  unfolding with_low
  low_length = length-set links i (v + 4096 * (get_or links i 0 / 4096))

  high_length : length (with_high links i v) ≡ length links
  unfolding with_high
  high_length = length-set links i (get_or links i 0 % 4096 + 4096 * v)

  module _ (h : i < length links) where
    low_low : v < 4096 → (j : ℕ) → Stored j i (low (with_low links i v) j) (low links j) v
    unfolding low with_low
    low_low small j =
        ⊎_elim (λ w. inl (w.0, omega (arith, w.1))) (λ w. inr (w.0, ap (λ a. a % 4096) w.1))
        (stored links i (v + 4096 * (get_or links i 0 / 4096)) h j)

    low_high : v < 4096 → (j : ℕ) → high (with_low links i v) j ≡ high links j
    unfolding high with_low
    low_high small j =
        ⊎_elim (λ w. rw w.0 (omega (arith, rw w.0 at w.1))) (λ w. ap (λ a. a / 4096) w.1)
        (stored links i (v + 4096 * (get_or links i 0 / 4096)) h j)

    high_high : (j : ℕ) → Stored j i (high (with_high links i v) j) (high links j) v
    unfolding high with_high
    high_high j =
        ⊎_elim (λ w. inl (w.0, omega (arith, w.1))) (λ w. inr (w.0, ap (λ a. a / 4096) w.1))
        (stored links i (get_or links i 0 % 4096 + 4096 * v) h j)

    high_low : (j : ℕ) → low (with_high links i v) j ≡ low links j
    unfolding low with_high
    high_low j =
        ⊎_elim (λ w. rw w.0 (omega (arith, rw w.0 at w.1))) (λ w. ap (λ a. a % 4096) w.1)
        (stored links i (get_or links i 0 % 4096 + 4096 * v) h j)

-- a link is a low part or a high one
pub link_low : (links : List ℕ) (e : ℕ) → e < 3072 → link_by links e ≡ low links e
unfolding link_by
link_low links e h = rw (lt-ltb e 3072 h) refl

pub link_high : (links : List ℕ) (e : ℕ) → 3072 ≤ e → link_by links e ≡ high links (e - 3072)
unfolding link_by
link_high links e h = rw (le-ltb e 3072 h) refl

pub put_low : (links : List ℕ) (e l : ℕ) → e < 3072 → with_link_by links e l ≡ with_low links e l
unfolding with_link_by
put_low links e l h = rw (lt-ltb e 3072 h) refl

pub put_high : (links : List ℕ) (e l : ℕ) → 3072 ≤ e → with_link_by links e l ≡ with_high links (e - 3072) l
unfolding with_link_by
put_high links e l h = rw (le-ltb e 3072 h) refl

-- what a store did, told of the places that words stand for
of_place : (k i e : ℕ) {now was put : ℕ} → Stored (k + 2 * i) (k + 2 * e) now was put → Stored i e now was put
of_place k i e (inl (p, a)) = inl (omega arith, a)
of_place k i e (inr (n, b)) = inr ((λ p. n (omega arith)), b)

-- The store of a link by the objector: no other link, and no chain begins elsewhere.
module _ (links : List ℕ) (e l : ℕ) (entry : e < 4096) (small : l < 4096) (words : 3072 ≤ length links) where
  pub link_length : length (with_link_by links e l) ≡ length links
  link_length = go (dec_lt e 3072)
    where
      go : Dec (e < 3072) → length (with_link_by links e l) ≡ length links
      go (yes h) = rw (put_low links e l h) (low_length links e l)
      go (no h) = rw (put_high links e l (omega arith)) (high_length links (e - 3072) l)

  pub link_link : (i : ℕ) → i < 4096 → Stored i e (link_by (with_link_by links e l) i) (link_by links i) l
  link_link i k = go (dec_lt e 3072) (dec_lt i 3072)
    where
      go : Dec (e < 3072) → Dec (i < 3072) → Stored i e (link_by (with_link_by links e l) i) (link_by links i) l
      go (yes h) (yes j) =
          rw (put_low links e l h, link_low (with_low links e l) i j, link_low links i j)
          (low_low links e l (omega arith) small i)
      go (yes h) (no j) =
          rw (put_low links e l h, link_high (with_low links e l) i (omega arith), link_high links i (omega arith))
          (inr ((λ p. omega arith), low_high links e l (omega arith) small (i - 3072)))
      go (no h) (yes j) =
          rw (put_high links e l (omega arith), link_low (with_high links (e - 3072) l) i j, link_low links i j)
          (inr ((λ p. omega arith), high_low links (e - 3072) l (omega arith) i))
      go (no h) (no j) =
          rw (
            put_high links e l (omega arith),
            link_high (with_high links (e - 3072) l) i (omega arith),
            link_high links i
                (omega arith),
          )
          (⊎_elim (λ w. inl (omega (arith, w.0), w.1)) (λ w. inr ((λ p. w.0 (omega arith)), w.1))
          (high_high links (e - 3072) l (omega arith) (i - 3072)))

  link_high_stays : (i : ℕ) → 1024 ≤ i → high (with_link_by links e l) i ≡ high links i
  link_high_stays i k = go (dec_lt e 3072)
    where
      go : Dec (e < 3072) → high (with_link_by links e l) i ≡ high links i
      go (yes h) = rw (put_low links e l h) (low_high links e l (omega arith) small i)
      go (no h) =
          rw (put_high links e l (omega arith))
          (as_was i (e - 3072) (high_high links (e - 3072) l (omega arith) i) (λ p. omega arith))

  pub link_against_lem : (x : ℕ) → begin_against (with_link_by links e l) x ≡ begin_against links x
  unfolding begin_against
  link_against_lem x = link_high_stays (1024 + 2 * x) (omega arith)

  pub link_by_lem : (y : ℕ) → begin_by (with_link_by links e l) y ≡ begin_by links y
  unfolding begin_by
  link_by_lem y = link_high_stays (1025 + 2 * y) (omega arith)

-- The store of where two chains begin: no other chain's, and no link.
module _ (links : List ℕ) (y x b : ℕ) (objector : y < 1024) (target : x < 1024) (words : 3072 ≤ length links) where
  pub begins_length : length (with_begins links y x b) ≡ length links
  unfolding with_begins
  begins_length = high_length (with_high links (1024 + 2 * x) b) (1025 + 2 * y) b ∙ high_length links (1024 + 2 * x) b

  first : (i : ℕ) → Stored i (1024 + 2 * x) (high (with_high links (1024 + 2 * x) b) i) (high links i) b
  first = high_high links (1024 + 2 * x) b (omega arith)

  second : (i : ℕ) → Stored i (1025 + 2 * y) (high (with_begins links y x b) i) (high (with_high links (1024 + 2 * x) b) i) b
  unfolding with_begins
  second = high_high (with_high links (1024 + 2 * x) b) (1025 + 2 * y) b (omega (arith, high_length links (1024 + 2 * x) b))

  pub begins_against : (u : ℕ) → Stored u x (begin_against (with_begins links y x b) u) (begin_against links u) b
  unfolding begin_against
  begins_against u =
      rw (as_was (1024 + 2 * u) (1025 + 2 * y) (second (1024 + 2 * u)) (λ p. omega arith))
      (of_place 1024 u x (first (1024 + 2 * u)))

  pub begins_by : (u : ℕ) → Stored u y (begin_by (with_begins links y x b) u) (begin_by links u) b
  unfolding begin_by
  begins_by u =
      rw (← (as_was (1025 + 2 * u) (1024 + 2 * x) (first (1025 + 2 * u)) (λ p. omega arith)))
      (of_place 1025 u y (second (1025 + 2 * u)))

  begins_low : (i : ℕ) → low (with_begins links y x b) i ≡ low links i
  unfolding with_begins
  begins_low i =
      high_low (with_high links (1024 + 2 * x) b) (1025 + 2 * y) b (omega (arith, high_length links (1024 + 2 * x) b)) i
      ∙ high_low links (1024 + 2 * x) b (omega arith) i

  pub begins_link : (e : ℕ) → e < 4096 → link_by (with_begins links y x b) e ≡ link_by links e
  begins_link e h = go (dec_lt e 3072)
    where
      go : Dec (e < 3072) → link_by (with_begins links y x b) e ≡ link_by links e
      go (yes k) = link_low (with_begins links y x b) e k ∙ begins_low e ∙ sym (link_low links e k)
      go (no k) =
          link_high (with_begins links y x b) e (omega arith)
          ∙ as_was (e - 3072) (1025 + 2 * y) (second (e - 3072)) (λ p. omega arith)
          ∙ as_was (e - 3072) (1024 + 2 * x) (first (e - 3072)) (λ p. omega arith) ∙ sym (link_high links e (omega arith))
