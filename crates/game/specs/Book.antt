-- The register as a meaning, free of bytes, numbers and limits: a book. Also how a register that is handed over as lists
-- makes one. What a book's statements are worth is left to Game and Label.
use Rattle.std.specs.Prelude.{Bool, not, false, true, cond, ◌&&◌, ◌||◌, List, ◌≡◌, ℕ, zero, suc, ◌≤◌, ◌<◌, T, eqb, length, get_or}

-- "A register holds statements about objects, each read or unread, and objections, where one statement speaks against
-- another." The statements are the places 0, 1, .. size - 1, in listed order.
pub record Book : Type 0 where
  pub size : ℕ
  -- "unread: more objections against it may exist"
  pub unread : ℕ → Bool
  -- objects y x: y, the objector, speaks against x, the target
  pub objects : ℕ → ℕ → Bool

abbrev pub Listed : Book → ℕ → Type 0
Listed B x = x < B.size

-- y is listed and objects to x
abbrev pub Objects : Book → ℕ → ℕ → Type 0
Objects B y x = Listed B y × T (B.objects y x)

-- x has an objection
abbrev pub Objected : Book → ℕ → Type 0
Objected B x = (y : ℕ) × Objects B y x

abbrev pub Unread : Book → ℕ → Type 0
Unread B x = T (B.unread x)

abbrev pub Read : Book → ℕ → Type 0
Read B x = T (not (B.unread x))

-- some place below n passes the test; every place below n does; how many do
unfoldable pub any : ℕ → (ℕ → Bool) → Bool
any zero p = false
any (suc n) p = p n || any n p

unfoldable pub all : ℕ → (ℕ → Bool) → Bool
all zero p = true
all (suc n) p = p n && all n p

unfoldable pub count : ℕ → (ℕ → Bool) → ℕ
count zero p = 0
count (suc n) p = cond (p n) (suc (count n p)) (count n p)

-- "Other callers hand over a list of marks (0 read, 1 unread) and two equally long lists of places, counted from 0 in
-- the mark list: objectors and targets." The k-th objector objects to the k-th target.
unfoldable pub book_of : (marks objectors targets : List ℕ) → Book
book_of marks objectors targets = record {
  size = length marks;
  unread = λ x. eqb (get_or marks x 0) 1;
  objects = λ y x. any (length objectors) (λ k. eqb (get_or objectors k 0) y && eqb (get_or targets k 0) x);
}

-- What such lists have to be for that: equally long, marks 0 or 1, and places in the mark list.
pub record InOrder (marks objectors targets : List ℕ) : Type 0 where
  pub paired : length targets ≡ length objectors
  pub marked : (x : ℕ) → x < length marks → get_or marks x 0 ≤ 1
  pub objector : (k : ℕ) → k < length objectors → get_or objectors k 0 < length marks
  pub target : (k : ℕ) → k < length objectors → get_or targets k 0 < length marks
