-- Texts of pieces one behind the other, such as the lines of a register, where a text begins with one formed piece at most: two
-- readings of one text that both stop are the same, and each stops for one reason. What a piece is, which ones are formed, and
-- what reading stops at is for others to say.
use mathlib.Core.List.{List, append_assoc, append-nil, [], ◌∷◌, ◌++◌}
use mathlib.Core.Path.{refl, sym, ap, subst, ◌≡◌, ◌∙◌}
use Prim.Native.Nat.{ℕ, ◌-◌, ◌<◌}
use native.Mathlib.Omega.{arith}
use lib.ListN.{length, get_or, length-append}
use lib.Seq.{get_or_at}
use Rattle.register.specs.declared.TextFault.{TextFault}
use Rattle.register.specs.Reads.{NotEnded}

-- the text s begins with the piece a, which is formed
abbrev pub Begins : {A : Type 0} → (A → List ℕ) → (A → Type 0) → A → List ℕ → Type 0
Begins piece Formed a s = Formed a × ((rest : List ℕ) × (s ≡ piece a ++ rest))

-- the pieces l' go on where l stop, before `rest`, and the next of them stands there
abbrev pub GoesOn : {A : Type 0} → (A → List ℕ) → (A → Type 0) → List A → List ℕ → List A → Type 0
GoesOn {A} piece Formed l rest l' = (a : A) × (more : List A) × (l' ≡ l ++ (a ∷ more)) × Begins piece Formed a rest

-- Why a reading stops before `rest`, where something is left: no piece stands there, or one to which a row of the table applies.
pub data Stop {A : Type 0} (There : A → List ℕ → Type 0) (Row : A → TextFault → Type 0) (spoiled : TextFault) (rest : List ℕ) :
    TextFault → Type 0 where
  no_piece : 0 < length rest → ((a : A) → ¬ There a rest) → Stop There Row spoiled rest spoiled
  by_row : {r : TextFault} (a : A) → There a rest → Row a r → Stop There Row spoiled rest r

-- A reading stops for one reason, and not before a piece to which no row applies.
module _ {A : Type 0} (piece : A → List ℕ) (Formed : A → Type 0)
    (once : (a b : A) (r t : List ℕ) → Formed a → Formed b → piece a ++ r ≡ piece b ++ t → (a ≡ b) × (r ≡ t)) where
  begins_once : (a b : A) (s : List ℕ) → Begins piece Formed a s → Begins piece Formed b s → a ≡ b
  begins_once a b s (f, (r, e)) (g, (t, d)) = (once a b r t f g (sym e ∙ d)).0

  module _ (Row : A → TextFault → Type 0) (spoiled : TextFault) (rest : List ℕ) where
    abbrev Stops : TextFault → Type 0
    Stops = Stop (Begins piece Formed) Row spoiled rest

    pub stop_once : ((a : A) (r r' : TextFault) → Row a r → Row a r' → r ≡ r') → (r r' : TextFault) → Stops r → Stops r' → r ≡ r'
    stop_once row-once r r' p q = go p q
      where
        go : {b b' : TextFault} → Stops b → Stops b' → b ≡ b'
        go (no_piece h f) (no_piece i g) = refl
        go (no_piece h f) (by_row a t w) = absurd (f a t)
        go (by_row a t w) (no_piece h f) = absurd (f a t)
        go {b} {b'} (by_row a t w) (by_row a' t' w') =
            row-once a b b' w (subst (λ c. Row c b') (begins_once a' a rest t' t) w')

    pub stop_inside : ((a : A) (r : List ℕ) → 0 < length (piece a ++ r)) → (r : TextFault) → Stops r → 0 < length rest
    stop_inside not-empty r p = go p
      where
        go : {b : TextFault} → Stops b → 0 < length rest
        go (no_piece h f) = h
        go (by_row a (f, (t, e)) w) = omega (arith, ap length e, not-empty a t)

    pub no_stop : (a : A) → Begins piece Formed a rest → ((r : TextFault) → ¬ Row a r) → (r : TextFault) → ¬ Stops r
    no_stop a t none r p = go p
      where
        go : {b : TextFault} → Stops b → ⊥
        go (no_piece h f) = f a t
        go {b} (by_row a' t' w) = none b (subst (λ c. Row c b) (begins_once a' a rest t' t) w)

module _ {A : Type 0} (joined : List A → List ℕ) (piece : A → List ℕ) (none : joined [] ≡ [])
    (one_more : (a : A) (l : List A) → joined (a ∷ l) ≡ piece a ++ joined l) where
  apart : (a : A) (l : List A) (rest : List ℕ) → joined (a ∷ l) ++ rest ≡ piece a ++ (joined l ++ rest)
  apart a l rest = ap (λ u. u ++ rest) (one_more a l) ∙ append_assoc (piece a) (joined l) rest

  module _ (Formed : A → Type 0) (AllFormed : List A → Type 0)
      (parts : (a : A) (l : List A) → AllFormed (a ∷ l) → Formed a × AllFormed l)
      (once : (a b : A) (r t : List ℕ) → Formed a → Formed b → piece a ++ r ≡ piece b ++ t → (a ≡ b) × (r ≡ t)) where
    -- two readings of one text are the same, where neither goes on where the other stops
    pub same_reading : (l l' : List A) (rest rest' : List ℕ) → AllFormed l → AllFormed l' → joined l ++ rest ≡ joined l' ++ rest'
        → ¬ GoesOn piece Formed l rest l' → ¬ GoesOn piece Formed l' rest' l → (l ≡ l') × (rest ≡ rest')
    same_reading [] [] rest rest' f g e n m =
        (refl, ap (λ u. u ++ rest) (sym none) ∙ e ∙ ap (λ u. u ++ rest') none)
    same_reading [] (b ∷ l') rest rest' f g e n m =
        absurd (n (b, l', refl, ((parts b l' g).0, (joined l' ++ rest', ap (λ u. u ++ rest) (sym none) ∙ e ∙ apart b l' rest'))))
    same_reading (a ∷ l) [] rest rest' f g e n m =
        absurd (m (a, l, refl, ((parts a l f).0, (joined l ++ rest, ap (λ u. u ++ rest') (sym none) ∙ sym e ∙ apart a l rest))))
    same_reading (a ∷ l) (b ∷ l') rest rest' f g e n m =
        let (h, i) = parts a l f in
        let (j, k) = parts b l' g in
        let (p, q) = once a b (joined l ++ rest) (joined l' ++ rest') h j (sym (apart a l rest) ∙ e ∙ apart b l' rest') in
        let (u, v) = same_reading l l' rest rest' i k q (λ w. n (w.0, w.1, longer p w.2, w.3))
        (λ w. m (w.0, w.1, longer (sym p) w.2, w.3)) in
        (cc, v)
      where
        longer : {c d : A} {t t' : List A} → c ≡ d → t ≡ t' → d ∷ t ≡ c ∷ t'
        longer p e = cc

    -- so whole texts are read in one way, and a reading that stops inside one could go on
    module _ (not-empty : (a : A) (r : List ℕ) → 0 < length (piece a ++ r)) where
      at_end : (l l' : List A) → ¬ GoesOn piece Formed l [] l'
      at_end l l' (a, more, e, (f, (r, d))) = omega (arith, ap length d, not-empty a r)

      pub same_whole : (l l' : List A) → AllFormed l → AllFormed l' → joined l ≡ joined l' → l ≡ l'
      same_whole l l' f g e =
          (same_reading l l' [] [] f g (append-nil (joined l) ∙ e ∙ sym (append-nil (joined l'))) (at_end l l') (at_end l' l)).0

      pub goes_on : (l l' : List A) (rest : List ℕ) → AllFormed l → AllFormed l' → joined l ++ rest ≡ joined l' → 0 < length rest
          → ¬ GoesOn piece Formed l rest l' → ⊥
      goes_on l l' rest f g e h n =
          let (p, q) = same_reading l l' rest [] f g (e ∙ sym (append-nil (joined l'))) n (at_end l' l) in
          omega (arith, ap length q)

  -- pieces that are ended by byte 10 make a text that is
  module _ (ended : (a : A) → (b : List ℕ) × (piece a ≡ b ++ (10 ∷ []))) where
    last_ended : (a : A) (l : List A) → (b : List ℕ) × (joined (a ∷ l) ≡ b ++ (10 ∷ []))
    last_ended a [] =
        let (b, e) = ended a in
        (b, one_more a [] ∙ ap (λ u. piece a ++ u) none ∙ append-nil (piece a) ∙ e)
    last_ended a (c ∷ l) =
        let (b, e) = last_ended c l in
        (piece a ++ b, one_more a (c ∷ l) ∙ ap (λ u. piece a ++ u) e ∙ sym (append_assoc (piece a) b (10 ∷ [])))

    pub pieces_ended : (l : List A) → NotEnded (joined l) → ⊥
    pieces_ended [] (h, n) = omega (arith, ap length none)
    pieces_ended (a ∷ l) (h, n) =
        let (b, e) = last_ended a l in
        n (ap (λ bs. get_or bs (length bs - 1) 0) e ∙ get_or_at b 10 [] 0 (length (b ++ (10 ∷ [])) - 1)
        (omega (arith, length-append b (10 ∷ []))))
