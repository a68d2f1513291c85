-- Two rooms of words that hold objections and link them: each to the latest earlier one against its target, and to the latest
-- earlier one by its objector. An entry is told counted from 1, and 0 tells that there is none. What a chain is, is left to
-- `pair_chain`. For the code that looks for repeats, not for callers of the product.
use Rattle.std.specs.Prelude.{cond, List, map, ℕ, ◌+◌, ◌-◌, ◌*◌, ◌/◌, ◌%◌, ltb, get_or, set}

-- A word of the first room is an objector below 1,024, above it a target below 1,024, and above both a link below 4,096.
unfoldable pub objectors_in : List ℕ → List ℕ
objectors_in pairs = map (λ w. w % 1024) pairs

unfoldable pub targets_in : List ℕ → List ℕ
targets_in pairs = map (λ w. w / 1024 % 1024) pairs

-- the latest earlier objection against the target of e
unfoldable pub link_against : List ℕ → ℕ → ℕ
link_against pairs e = get_or pairs e 0 / 1048576

-- A word of the second room has a low part below 4,096 and a high part above it.
unfoldable pub low : List ℕ → ℕ → ℕ
low links i = get_or links i 0 % 4096

unfoldable pub high : List ℕ → ℕ → ℕ
high links i = get_or links i 0 / 4096

-- the latest earlier objection by the objector of e: a low part, and for the last 1,024 entries one of the first high parts
unfoldable pub link_by : List ℕ → ℕ → ℕ
link_by links e = cond (ltb e 3072) (low links e) (high links (e - 3072))

-- where chains begin: the latest objection against x, and by y, in turn behind those high parts
unfoldable pub begin_against : List ℕ → ℕ → ℕ
begin_against links x = high links (1024 + 2 * x)

unfoldable pub begin_by : List ℕ → ℕ → ℕ
begin_by links y = high links (1025 + 2 * y)

-- The stores: an objection and its link in the first room; a part of a word, a link and two beginnings in the second.
unfoldable pub with_pair : List ℕ → (e y x l : ℕ) → List ℕ
with_pair pairs e y x l = set pairs e (y + 1024 * x + 1048576 * l)

unfoldable pub with_low : List ℕ → (i v : ℕ) → List ℕ
with_low links i v = set links i (v + 4096 * (get_or links i 0 / 4096))

unfoldable pub with_high : List ℕ → (i v : ℕ) → List ℕ
with_high links i v = set links i (get_or links i 0 % 4096 + 4096 * v)

unfoldable pub with_link_by : List ℕ → (e l : ℕ) → List ℕ
with_link_by links e l = cond (ltb e 3072) (with_low links e l) (with_high links (e - 3072) l)

unfoldable pub with_begins : List ℕ → (y x b : ℕ) → List ℕ
with_begins links y x b = with_high (with_high links (1024 + 2 * x) b) (1025 + 2 * y) b
