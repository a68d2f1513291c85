-- A book has one sheet only, which is there and is sound with its totals beside it; and whether a sheet is sound can be told.
use mathlib.Core.List.{List}
use mathlib.Core.Logic.{inl, inr, ◌⊎◌}
use mathlib.Core.Path.{ap, refl, subst, sym, ◌≡◌, ◌∙◌}
use Prim.Native.Nat.{ℕ, zero, suc, ◌+◌, ◌*◌, ◌/◌, ◌%◌, ◌≤◌, ◌<◌}
use native.Mathlib.Decide.{ℕ_discrete, dec_lt}
use native.Mathlib.Omega.{arith}
use lib.ListN.{get_or, length, get_or-eq_default}
use lib.Seq.{ext_get_or}
use Rattle.game.specs.Book.{Book}
use Rattle.game.specs.Account.{Account, OfStatement, account_number}
use Rattle.game.proofs.Objection.{label_low}
use Rattle.game.proofs.Account.{statement_once, statement_told, number_once}
use Rattle.game.proofs.Search.{below_suc, either?}
use Rattle.game.proofs.UpTo.{up_to, length_up_to, get_or_up_to, chosen}
use Rattle.sheet.specs.Sheet.{IsSheet, in_byte, code_at, bytes_for, codes, total, SoundSheet}
use Rattle.sheet.proofs.Codes.{byte_by_codes, joined, joined_back, code_beyond}

-- a book has one sheet
pub sheet_once : (B : Book) (l l' : List ℕ) → IsSheet B l → IsSheet B l' → l ≡ l'
sheet_once B l l' s s' =
    ext_get_or 0 l l' (s.size ∙ sym s'.size)
    (λ k h. byte_by_codes l l' k (s.bytes k) (s'.bytes k) (λ x e. at x (dec_lt x B.size)))
  where
    at : (x : ℕ) → Dec (x < B.size) → code_at l x ≡ code_at l' x
    at x (yes h) =
        number_once (OfStatement B x) (statement_once B x) account_number (code_at l x) (code_at l' x) (s.each x h) (s'.each x h)
    at x (no h) = s.spare x (omega arith) ∙ sym (s'.spare x (omega arith))

-- and it is sound with its totals beside it
pub sheet_sound : (B : Book) (sheet totals : List ℕ) → IsSheet B sheet
    → ((c : ℕ) → c < codes → get_or totals c 0 ≡ total sheet B.size c) → SoundSheet B.size sheet totals
sheet_sound B sheet totals s own = record {
  size = s.size;
  used = λ x h. let (a, (v, m, e), q) = s.each x h in omega (arith, q ∙ ap account_number e, label_low v);
  spare = s.spare;
  own = λ c h l. own c h;
}

-- Labels one behind the other, put on a sheet.
module _ (B : Book) (labels : List ℕ) (as_many : length labels ≡ B.size)
    (each : (x : ℕ) → x < B.size → (a : Account) × OfStatement B x a × (get_or labels x 0 ≡ account_number a)) where
  low : (x : ℕ) → get_or labels x 0 < 4
  low x = go (dec_lt x B.size)
    where
      go : Dec (x < B.size) → get_or labels x 0 < 4
      go (yes h) = let (a, (v, m, e), q) = each x h in omega (arith, q ∙ ap account_number e, label_low v)
      go (no h) = omega (arith, get_or-eq_default labels 0 {n = x} (omega (arith, as_many)))

  abbrev byte : ℕ → ℕ
  byte k = joined (λ p. get_or labels (4 * k + p) 0)

  abbrev packed : List ℕ
  packed = up_to (bytes_for B.size) byte

  reads : (x : ℕ) → code_at packed x ≡ get_or labels x 0
  unfolding code_at
  reads x = go (dec_lt (x / 4) (bytes_for B.size))
    where
      go : Dec (x / 4 < bytes_for B.size) → code_at packed x ≡ get_or labels x 0
      go (yes h) =
          let here : 4 * (x / 4) + x % 4 ≡ x = omega arith in
          ap (λ b. in_byte b (x % 4)) (get_or_up_to (bytes_for B.size) byte 0 (x / 4) h)
          ∙ joined_back (λ p. get_or labels (4 * (x / 4) + p) 0) (λ p. low (4 * (x / 4) + p)) (x % 4) (omega arith)
          ∙ ap (λ y. get_or labels y 0) here
      go (no h) =
          code_beyond packed x (omega (arith, length_up_to (bytes_for B.size) byte))
          ∙ sym (get_or-eq_default labels 0 {n = x} (omega (arith, as_many)))

  of_labels : IsSheet B packed
  of_labels = record {
    bytes = λ k. small k (dec_lt k (bytes_for B.size));
    size = length_up_to (bytes_for B.size) byte;
    each = λ x h. let (a, of, e) = each x h in (a, of, reads x ∙ e);
    spare = λ x h. reads x ∙ get_or-eq_default labels 0 {n = x} (omega (arith, as_many));
  }
    where
      small : (k : ℕ) → Dec (k < bytes_for B.size) → get_or packed k 0 < 256
      small k (yes h) =
          omega (
            arith,
            get_or_up_to (bytes_for B.size) byte 0 k h,
            low (4 * k + 0),
            low (4 * k + 1),
            low (4 * k + 2),
            low (4 * k + 3),
          )
      small k (no h) =
          omega (arith, get_or-eq_default packed 0 {n = k} (omega (arith, length_up_to (bytes_for B.size) byte)))

-- so a book has a sheet
pub sheet_there : (B : Book) → (sheet : List ℕ) × IsSheet B sheet
sheet_there B =
    let (labels, e, each) = chosen 0 (λ x e. (a : Account) × OfStatement B x a × (e ≡ account_number a)) B.size
    (λ x h. let (a, of) = statement_told B x h in (account_number a, (a, of, refl))) in
    (packed B labels e each, of_labels B labels e each)

-- Whether a sheet is sound can be told.
every? : (n : ℕ) (P : ℕ → Type 0) → ((i : ℕ) → P i ⊎ (¬ P i)) → ((i : ℕ) → i < n → P i) ⊎ (¬ ((i : ℕ) → i < n → P i))
every? zero P d = inl (λ i h. absurd (omega arith))
every? (suc n) P d = go (d n) (every? n P d)
  where
    at : P n → ((i : ℕ) → i < n → P i) → (i : ℕ) → (i ≡ n) ⊎ (i < n) → P i
    at p q i (inl e) = subst P (sym e) p
    at p q i (inr h) = q i h

    go : P n ⊎ (¬ P n) → ((i : ℕ) → i < n → P i) ⊎ (¬ ((i : ℕ) → i < n → P i))
        → ((i : ℕ) → i < suc n → P i) ⊎ (¬ ((i : ℕ) → i < suc n → P i))
    go (inl p) (inl q) = inl (λ i h. at p q i (below_suc h))
    go (inl p) (inr q) = inr (λ f. q (λ i h. f i (omega arith)))
    go (inr p) q = inr (λ f. p (f n (omega arith)))

pub sound? : (n : ℕ) (sheet totals : List ℕ) → SoundSheet n sheet totals ⊎ (¬ SoundSheet n sheet totals)
sound? n sheet totals =
    go (either? (ℕ_discrete (length sheet) (bytes_for n))) (every? n (λ x. code_at sheet x < codes) (λ x. either? (dec_lt
    (code_at sheet x) codes))) (every? (4 * length sheet) Spare (λ x. spare? x (dec_lt x n)))
    (every? codes Own (λ c. own? c (dec_lt c (length totals))))
  where
    Spare : ℕ → Type 0
    Spare x = n ≤ x → code_at sheet x ≡ 0

    spare? : (x : ℕ) → Dec (x < n) → Spare x ⊎ (¬ Spare x)
    spare? x (yes h) = inl (λ k. absurd (omega arith))
    spare? x (no h) = at (ℕ_discrete (code_at sheet x) 0)
      where
        at : Dec (code_at sheet x ≡ 0) → Spare x ⊎ (¬ Spare x)
        at (yes e) = inl (λ k. e)
        at (no e) = inr (λ f. e (f (omega arith)))

    Own : ℕ → Type 0
    Own c = c < length totals → get_or totals c 0 ≡ total sheet n c

    own? : (c : ℕ) → Dec (c < length totals) → Own c ⊎ (¬ Own c)
    own? c (no h) = inl (λ k. absurd (h k))
    own? c (yes h) = at (ℕ_discrete (get_or totals c 0) (total sheet n c))
      where
        at : Dec (get_or totals c 0 ≡ total sheet n c) → Own c ⊎ (¬ Own c)
        at (yes e) = inl (λ k. e)
        at (no e) = inr (λ f. e (f h))

    all_spare : ((x : ℕ) → x < 4 * length sheet → Spare x) → (x : ℕ) → Dec (x < 4 * length sheet) → Spare x
    all_spare f x (yes h) = f x h
    all_spare f x (no h) = λ k. code_beyond sheet x (omega arith)

    go : (length sheet ≡ bytes_for n) ⊎ (¬ (length sheet ≡ bytes_for n)) → ((x : ℕ) → x < n → code_at sheet x < codes)
        ⊎ (¬ ((x : ℕ) → x < n → code_at sheet x < codes)) → ((x : ℕ) → x < 4 * length sheet → Spare x)
        ⊎ (¬ ((x : ℕ) → x < 4 * length sheet → Spare x)) → ((c : ℕ) → c < codes → Own c)
        ⊎ (¬ ((c : ℕ) → c < codes → Own c)) → SoundSheet n sheet totals ⊎ (¬ SoundSheet n sheet totals)
    go (inl e) (inl u) (inl s) (inl o) =
        inl record { size = e; used = u; spare = λ x. all_spare s x (dec_lt x (4 * length sheet)); own = o }
    go (inr e) u s o = inr (λ w. e w.size)
    go (inl e) (inr u) s o = inr (λ w. u w.used)
    go (inl e) (inl u) (inr s) o = inr (λ w. s (λ x h. w.spare x))
    go (inl e) (inl u) (inl s) (inr o) = inr (λ w. o w.own)
