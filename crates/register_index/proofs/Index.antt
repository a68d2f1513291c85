-- Laws of the index: an empty one, the way down to a number, and one number more.
use mathlib.Core.List.{List}
use mathlib.Core.Logic.{inl, inr, ◌⊎◌}
use mathlib.Core.Path.{refl, subst, ap, sym, ◌≡◌, ◌∙◌}
use Prim.Native.Nat.{ℕ, zero, suc, ◌+◌, ◌*◌, ◌-◌, ◌/◌, ◌≤◌, ◌<◌}
use native.Mathlib.Omega.{arith}
use lib.ListN.{replicate, length-replicate, get_or, length, set, length-set}
use Rattle.pair_chain.proofs.ChainSteps.{all_zero, stored}
use Rattle.register_index.specs.Indexed.{slot, Indexed, Leads, Free, New}

pub slot_low : (rest node : ℕ) → (8 * node ≤ slot rest node) × (slot rest node < 8 * node + 8)
unfolding slot
slot_low rest node = (omega arith, omega arith)

-- a room of zeros is the index of no number
pub indexed_none : (numbers : List ℕ) → Indexed numbers 0 (replicate 8200 0)
indexed_none numbers = record {
  few = omega arith;
  within = omega arith;
  links_room = length-replicate {A = ℕ} 8200 0;
  once = λ i j h l. absurd (omega arith);
  low = λ s. omega (arith, all_zero 8200 s);
  later = λ s h. absurd (omega (arith, all_zero 8200 s));
  entered = λ x h. absurd (omega arith);
}

-- how much is left of a walk that ends at 0 and else goes to later nodes
abbrev pub left : ℕ → ℕ → ℕ
left n zero = 0
left n (suc q) = suc (n - q)

-- The number, if it is there, is at the node or below it.
abbrev pub Seeks : (numbers : List ℕ) (n : ℕ) (links : List ℕ) (number rest node : ℕ) → Type 0
Seeks numbers n links number rest node =
    (node ≤ n) × ((x : ℕ) → x < n → get_or numbers x 0 ≡ number → (0 < node)
    × ((k : ℕ) × (rest' : ℕ) × Leads links k (rest / 8) node rest' (x + 1)))

-- one step down
down : (links : List ℕ) (k rest node rest' node' : ℕ) → (node ≡ node' → ⊥) → Leads links k rest node rest' node'
    → (0 < get_or links (slot rest node) 0) × ((j : ℕ) × (r : ℕ) × Leads links j (rest / 8) (get_or links (slot rest node) 0) r
    node')
unfolding Leads
down links zero rest node rest' node' f (a, b) = absurd (f b)
down links (suc k) rest node rest' node' f (a, b) = (a, (k, rest', b))

module _ (numbers : List ℕ) (n : ℕ) (links : List ℕ) (ix : Indexed numbers n links) where
  -- the link below a node leads to a later one
  pub link_later : (rest node next : ℕ) → next ≡ get_or links (slot rest node) 0 → (next ≡ 0 → ⊥) → node < next
  link_later rest node next e z = omega (arith, ix.later (slot rest node) (omega arith), slot_low rest node)

  pub link_low : (rest node next : ℕ) → next ≡ get_or links (slot rest node) 0 → next ≤ n
  link_low rest node next e = omega (arith, ix.low (slot rest node))

  pub left_less : (rest node next : ℕ) → node ≤ n → (node ≡ 0 → ⊥) → next ≡ get_or links (slot rest node) 0
      → left n next < left n node
  left_less rest node next h z e = go node next h z (link_low rest node next e) (link_later rest node next e)
    where
      go : (a b : ℕ) → a ≤ n → (a ≡ 0 → ⊥) → b ≤ n → ((b ≡ 0 → ⊥) → a < b) → left n b < left n a
      go zero b h z l f = absurd (z refl)
      go (suc a) zero h z l f = omega arith
      go (suc a) (suc b) h z l f = omega (arith, f (λ e. omega arith))

  module _ (number : ℕ) where
    pub seek_begins : (node : ℕ) → node ≡ get_or links (slot number 0) 0 → Seeks numbers n links number number node
    seek_begins node e = (link_low number 0 node e, λ x h q. rw e (go x h q (ix.entered x h)))
      where
        go : (x : ℕ) → x < n → get_or numbers x 0 ≡ number → ((k : ℕ) × (rest : ℕ)
            × Leads links k (get_or numbers x 0) 0 rest (x + 1)) → (0 < get_or links (slot number 0) 0)
            × ((k : ℕ) × (rest' : ℕ) × Leads links k (number / 8) (get_or links (slot number 0) 0) rest' (x + 1))
        go x h q (k, rest, l) =
            down links k number 0 rest (x + 1) (λ z. omega arith) (subst (λ v. Leads links k v 0 rest (x + 1)) q l)

    pub seek_more : (rest node next : ℕ) → Seeks numbers n links number rest node → (node ≡ 0 → ⊥)
        → (get_or numbers (node - 1) 0 ≡ number → ⊥) → next ≡ get_or links (slot (rest / 8) node) 0
        → Seeks numbers n links number (rest / 8) next
    seek_more rest node next w z f e = (link_low (rest / 8) node next e, λ x h q. rw e (go x q (w.1 x h q).1))
      where
        other : (x : ℕ) → get_or numbers x 0 ≡ number → node ≡ x + 1 → ⊥
        other x q p = let d : node - 1 ≡ x = omega arith in f (ap (λ i. get_or numbers i 0) d ∙ q)

        go : (x : ℕ) → get_or numbers x 0 ≡ number → ((k : ℕ) × (rest' : ℕ) × Leads links k (rest / 8) node rest' (x + 1))
            → (0 < get_or links (slot (rest / 8) node) 0) × ((k : ℕ) × (rest' : ℕ)
            × Leads links k (rest / 8 / 8) (get_or links (slot (rest / 8) node) 0) rest' (x + 1))
        go x q (k, rest', l) = down links k (rest / 8) node rest' (x + 1) (other x q) l

-- one step more
onward : (links : List ℕ) (k rest node rest' node' : ℕ) → Leads links k rest node rest' node'
    → 0 < get_or links (slot rest' node') 0 → Leads links (suc k) rest node (rest' / 8) (get_or links (slot rest' node') 0)
unfolding Leads
onward links zero rest node rest' node' (a, b) h = rw (a, b) (h, (refl, refl))
onward links (suc k) rest node rest' node' (a, b) h =
    (a, onward links k (rest / 8) (get_or links (slot rest node) 0) rest' node' b h)

-- The walk to a free slot.
abbrev pub Walks : (n : ℕ) (links : List ℕ) (number rest node next : ℕ) → Type 0
Walks n links number rest node next =
    (node ≤ n) × (next ≡ get_or links (slot rest node) 0) × ((k : ℕ) × Leads links k number 0 rest node)

pub walk_begins : (n : ℕ) (links : List ℕ) (number next : ℕ) → next ≡ get_or links (slot number 0) 0
    → Walks n links number number 0 next
unfolding Leads
walk_begins n links number next e = (omega arith, e, (0, (refl, refl)))

pub walk_more : (numbers : List ℕ) (n : ℕ) (links : List ℕ) (ix : Indexed numbers n links) (number rest node next after : ℕ)
    → Walks n links number rest node next → (next ≡ 0 → ⊥) → after ≡ get_or links (slot (rest / 8) next) 0
    → Walks n links number (rest / 8) next after
walk_more numbers n links ix number rest node next after (h, e, (k, l)) z q =
    (link_low numbers n links ix rest node next e, q, (suc k, rw e (onward links k number 0 rest node l (omega arith))))

pub walk_ends : (n : ℕ) (links : List ℕ) (number rest node next s : ℕ) → Walks n links number rest node next → next ≡ 0
    → s ≡ slot rest node → Free n links number s
walk_ends n links number rest node next s (h, e, (k, l)) z q =
    record {
      steps = k;
      rest = rest;
      node = node;
      node_low = h;
      leads = l;
      is_slot = q;
      is_free = ap (λ i. get_or links i 0) q
          ∙ sym e ∙ z;
    }

-- a link put into a free slot changes no way
kept : (links : List ℕ) (s v : ℕ) → s < length links → get_or links s 0 ≡ 0 → (k rest node rest' node' : ℕ)
    → Leads links k rest node rest' node' → Leads (set links s v) k rest node rest' node'
unfolding Leads
kept links s v h z zero rest node rest' node' l = l
kept links s v h z (suc k) rest node rest' node' (a, b) =
    go (stored links s v h (slot rest node)) (kept links s v h z k (rest / 8) (get_or links (slot rest node) 0) rest' node' b)
  where
    go : ((slot rest node ≡ s) × (get_or (set links s v) (slot rest node) 0 ≡ v))
        ⊎ ((slot rest node ≡ s → ⊥) × (get_or (set links s v) (slot rest node) 0 ≡ get_or links (slot rest node) 0))
        → Leads (set links s v) k (rest / 8) (get_or links (slot rest node) 0) rest' node'
        → (0 < get_or (set links s v) (slot rest node) 0) × Leads (set links s v) k (rest / 8)
        (get_or (set links s v) (slot rest node) 0) rest' node'
    go (inl (e, q)) w = let same : get_or links (slot rest node) 0 ≡ 0 = ap (λ i. get_or links i 0) e ∙ z in absurd (omega arith)
    go (inr (e, q)) w = rw q (a, w)

module _ (numbers : List ℕ) (n : ℕ) (links : List ℕ) (number s : ℕ) (ix : Indexed numbers n links) (new : New numbers n number)
    (free : Free n links number s) where
  pub slot_within : s < length links
  slot_within = omega (arith, free.is_slot, slot_low free.rest free.node, free.node_low, new.fits, ix.links_room)

  once_more : (i j : ℕ) → i < j → j < n + 1 → get_or (set numbers n number) i 0 ≡ get_or (set numbers n number) j 0 → ⊥
  once_more i j h l e = go (stored numbers n number new.room i) (stored numbers n number new.room j)
    where
      go : ((i ≡ n) × (get_or (set numbers n number) i 0 ≡ number))
          ⊎ ((i ≡ n → ⊥) × (get_or (set numbers n number) i 0 ≡ get_or numbers i 0))
          → ((j ≡ n) × (get_or (set numbers n number) j 0 ≡ number))
          ⊎ ((j ≡ n → ⊥) × (get_or (set numbers n number) j 0 ≡ get_or numbers j 0)) → ⊥
      go (inl (a, b)) q = omega arith
      go (inr (a, b)) (inl (c, d)) = new.absent i (omega arith) (sym b ∙ e ∙ d)
      go (inr (a, b)) (inr (c, d)) = ix.once i j h (omega arith) (sym b ∙ e ∙ d)

  -- the link put in leads from an earlier node to a later one, as the others do
  links_more : (t : ℕ) → (get_or (set links s (n + 1)) t 0 ≤ n + 1)
      × (0 < get_or (set links s (n + 1)) t 0 → t < 8 * get_or (set links s (n + 1)) t 0)
  links_more t = go (stored links s (n + 1) slot_within t)
    where
      go : ((t ≡ s) × (get_or (set links s (n + 1)) t 0 ≡ n + 1))
          ⊎ ((t ≡ s → ⊥) × (get_or (set links s (n + 1)) t 0 ≡ get_or links t 0)) → (get_or (set links s (n + 1)) t 0 ≤ n + 1)
          × (0 < get_or (set links s (n + 1)) t 0 → t < 8 * get_or (set links s (n + 1)) t 0)
      go (inl (a, b)) = (omega arith, λ _. omega (arith, free.is_slot, slot_low free.rest free.node, free.node_low))
      go (inr (a, b)) = (omega (arith, ix.low t), λ h. omega (arith, ix.later t (omega arith)))

  -- the new number leads to its place
  new_leads : (k : ℕ) × (rest : ℕ) × Leads (set links s (n + 1)) k number 0 rest (n + 1)
  new_leads = go (stored links s (n + 1) slot_within s)
    where
      go : ((s ≡ s) × (get_or (set links s (n + 1)) s 0 ≡ n + 1))
          ⊎ ((s ≡ s → ⊥) × (get_or (set links s (n + 1)) s 0 ≡ get_or links s 0)) → (k : ℕ) × (rest : ℕ)
          × Leads (set links s (n + 1)) k number 0 rest (n + 1)
      go (inl (a, b)) =
          let here : get_or (set links s (n + 1)) (slot free.rest free.node) 0 ≡ n + 1 = ap
          (λ i. get_or (set links s (n + 1)) i 0) (sym free.is_slot) ∙ b in
          let way = onward (set links s (n + 1)) free.steps number 0 free.rest free.node
          (kept links s (n + 1) slot_within free.is_free free.steps number 0 free.rest free.node free.leads)
          (omega arith) in (
            suc free.steps,
            free.rest / 8,
            subst (λ v. Leads (set links s (n + 1)) (suc free.steps) number 0
                (free.rest / 8) v) here way,
          )
      go (inr (a, b)) = absurd (a refl)

  entered_more : (x : ℕ) → x < n + 1 → (k : ℕ) × (rest : ℕ) × Leads (set links s (n + 1)) k (get_or (set numbers n number) x 0) 0
      rest (x + 1)
  entered_more x h = go (stored numbers n number new.room x)
    where
      old : (k : ℕ) × (rest : ℕ) × Leads links k (get_or numbers x 0) 0 rest (x + 1) → (k : ℕ) × (rest : ℕ)
          × Leads (set links s (n + 1)) k (get_or numbers x 0) 0 rest (x + 1)
      old (k, rest, l) = (k, rest, kept links s (n + 1) slot_within free.is_free k (get_or numbers x 0) 0 rest (x + 1) l)

      go : ((x ≡ n) × (get_or (set numbers n number) x 0 ≡ number))
          ⊎ ((x ≡ n → ⊥) × (get_or (set numbers n number) x 0 ≡ get_or numbers x 0)) → (k : ℕ) × (rest : ℕ)
          × Leads (set links s (n + 1)) k (get_or (set numbers n number) x 0) 0 rest (x + 1)
      go (inl (a, b)) =
          rw b (subst (λ y. (k : ℕ) × (rest : ℕ) × Leads (set links s (n + 1)) k number 0 rest (y + 1)) (sym a) new_leads)
      go (inr (a, b)) = rw b (old (ix.entered x (omega arith)))

  pub indexed_more : Indexed (set numbers n number) (n + 1) (set links s (n + 1))
  indexed_more = record {
    few = omega (arith, new.fits);
    within = omega (arith, new.room, length-set numbers n number);
    links_room = length-set links s (n + 1) ∙ ix.links_room;
    once = once_more;
    low = λ t. (links_more t).0;
    later = λ t. (links_more t).1;
    entered = entered_more;
  }
