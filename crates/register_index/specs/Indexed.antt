-- An index of numbers, kept while a register is read: a tree whose nodes are the places, counted from 1, below a root 0. Each
-- node has eight slots, and the way down to a number goes by its digits in base 8, the last digit first. For the code that
-- looks numbers up, not for callers of the product.
use Rattle.std.specs.Prelude.{List, ◌≡◌, ℕ, zero, suc, ◌+◌, ◌*◌, ◌/◌, ◌%◌, ◌≤◌, ◌<◌, get_or, length}

-- the slot of a node for the last digit of what is left of a number
unfoldable pub slot : (rest node : ℕ) → ℕ
slot rest node = 8 * node + rest % 8

-- from a node, with so much of a number left, k steps lead to another, with so much left
unfoldable pub Leads : (links : List ℕ) (k rest node rest' node' : ℕ) → Type 0
Leads links zero rest node rest' node' = (rest ≡ rest') × (node ≡ node')
Leads links (suc k) rest node rest' node' =
    (0 < get_or links (slot rest node) 0) × Leads links k (rest / 8) (get_or links (slot rest node) 0) rest' node'

-- the first n numbers are issued once, links lead from earlier nodes to later ones, and each number leads to its place
pub record Indexed (numbers : List ℕ) (n : ℕ) (links : List ℕ) : Type 0 where
  pub few : n ≤ 1024
  pub within : n ≤ length numbers
  pub links_room : length links ≡ 8200
  pub once : (i j : ℕ) → i < j → j < n → get_or numbers i 0 ≡ get_or numbers j 0 → ⊥
  pub low : (s : ℕ) → get_or links s 0 ≤ n
  pub later : (s : ℕ) → 0 < get_or links s 0 → s < 8 * get_or links s 0
  pub entered : (x : ℕ) → x < n → (k : ℕ) × (rest : ℕ) × Leads links k (get_or numbers x 0) 0 rest (x + 1)

-- there is room for one number more, and it is not among the first n
pub record New (numbers : List ℕ) (n number : ℕ) : Type 0 where
  pub fits : n < 1024
  pub room : n < length numbers
  pub absent : (x : ℕ) → x < n → get_or numbers x 0 ≡ number → ⊥

-- the number leads to a node whose slot s for it is free
pub record Free (n : ℕ) (links : List ℕ) (number s : ℕ) : Type 0 where
  pub steps : ℕ
  pub rest : ℕ
  pub node : ℕ
  pub node_low : node ≤ n
  pub leads : Leads links steps number 0 rest node
  pub is_slot : s ≡ slot rest node
  pub is_free : get_or links s 0 ≡ 0
