-- One place that was not labelled gets a label and a length, and the labelling stays sound. `zeros` counts what is left.
use mathlib.Core.Path.{ap, sym, refl, ◌≡◌, ◌∙◌}
use mathlib.Core.Logic.{inl, inr, ⊎_elim, ◌⊎◌}
use mathlib.Core.List.{List, [], ◌∷◌}
use Prim.Native.Nat.{ℕ, zero, suc, ◌+◌, ◌<◌, ◌≤◌}
use native.Mathlib.Nat.{not-suc-le-zero, le_of_suc-le-suc}
use native.Mathlib.Omega.{arith}
use native.Mathlib.Decide.{ℕ_discrete}
use lib.ListN.{length, get_or, set}
use lib.Seq.{get_or-set_same, get_or-set_other}
use Rattle.lists.specs.Handed.{Handed}
use Rattle.label_queue.specs.LabelState.{zeros, Sound, Blank}

pub zeros_set : (l : List ℕ) (x v : ℕ) → x < length l → get_or l x 0 ≡ 0 → 0 < v → zeros (set l x v) + 1 ≡ zeros l
unfolding zeros
zeros_set [] x v hx z hv = absurd (not-suc-le-zero hx)
zeros_set (zero ∷ l) zero zero hx z hv = absurd (not-suc-le-zero hv)
zeros_set (zero ∷ l) zero (suc v) hx z hv = omega arith
zeros_set (suc a ∷ l) zero v hx z hv = omega arith
zeros_set (zero ∷ l) (suc x) v hx z hv = omega (arith, zeros_set l x v (le_of_suc-le-suc hx) z hv)
zeros_set (suc a ∷ l) (suc x) v hx z hv = zeros_set l x v (le_of_suc-le-suc hx) z hv

module _ (labels lengths : List ℕ) (x v k : ℕ) (hl : x < length labels) (hn : x < length lengths) where
  -- a place is the one that was labelled, or is as it was
  pub back : (y : ℕ) → ((y ≡ x) × (get_or (set labels x v) y 0 ≡ v) × (get_or (set lengths x k) y 0 ≡ k))
      ⊎ ((get_or (set labels x v) y 0 ≡ get_or labels y 0) × (get_or (set lengths x k) y 0 ≡ get_or lengths y 0))
  back y = go (ℕ_discrete y x)
    where
      go : Dec (y ≡ x) → ((y ≡ x) × (get_or (set labels x v) y 0 ≡ v) × (get_or (set lengths x k) y 0 ≡ k))
          ⊎ ((get_or (set labels x v) y 0 ≡ get_or labels y 0) × (get_or (set lengths x k) y 0 ≡ get_or lengths y 0))
      go (yes p) = inl (p, rw p (get_or-set_same labels x v 0 hl), rw p (get_or-set_same lengths x k 0 hn))
      go (no p) = inr (get_or-set_other labels x y v 0 p, get_or-set_other lengths x y k 0 p)

  -- what was labelled is as it was
  pub kept : get_or labels x 0 ≡ 0 → (y : ℕ) → (get_or labels y 0 ≡ 0 → ⊥) → (get_or (set labels x v) y 0 ≡ get_or labels y 0)
      × (get_or (set lengths x k) y 0 ≡ get_or lengths y 0)
  kept z y n = ⊎_elim (λ w. absurd (n (ap (λ (i : ℕ). get_or labels i 0) w.0 ∙ z))) (λ w. w) (back y)

module _ (marks objectors targets labels lengths : List ℕ) (x k : ℕ) (hl : x < length labels) (hn : x < length lengths)
    (ok : Sound marks objectors targets labels lengths) (z : get_or labels x 0 ≡ 0) where
  pub sound_fall : (e : ℕ) → e < length objectors → get_or targets e 0 ≡ x → get_or labels (get_or objectors e 0) 0 ≡ 1
      → get_or lengths (get_or objectors e 0) 0 + 1 ≡ k → Sound marks objectors targets (set labels x 2) (set lengths x k)
  sound_fall e he ht l1 hk = record {
    small = λ y hy. ⊎_elim (λ w. omega arith) (λ w. omega (arith, ok.small y hy)) (bk y);
    dash = λ y hy l. ⊎_elim (λ w. omega arith) (λ w. w.1 ∙ ok.dash y hy (sym w.0 ∙ l)) (bk y);
    felled = λ y hy l.
        ⊎_elim (λ w. let q = kp (get_or objectors e 0) (omega arith) in (e, he, ht ∙ sym w.0, omega arith, omega arith))
        (λ w.
        let f = ok.felled y hy (sym w.0 ∙ l) in
        let q = kp (get_or objectors f.0 0) (omega (arith, f.3)) in
        (f.0, f.1, f.2, q.0 ∙ f.3, omega (arith, f.4))) (bk y);
    stood = λ y hy l. ⊎_elim (λ w. omega arith) (λ w. ok.stood y hy (sym w.0 ∙ l)) (bk y);
    beaten = λ d hd l.
        ⊎_elim (λ w. omega arith)
        (λ w.
        let f = ok.beaten d hd (sym w.0 ∙ l) in
        let q = kp (get_or objectors d 0) (omega (arith, f.0)) in
        (q.0 ∙ f.0, omega (arith, f.1))) (bk (get_or targets d 0));
    tight = λ y hy l.
        ⊎_elim (λ w. absurd (omega arith))
        (λ w.
        ⊎_elim (λ t. inl (w.1 ∙ t))
        (λ t.
        let f = ok.beaten t.0 t.1 (rw t.2 (sym w.0 ∙ l)) in
        let q = kp (get_or objectors t.0 0) (omega (arith, f.0)) in
        inr (t.0, t.1, t.2, omega (arith, t.3)))
        (ok.tight y hy (sym w.0 ∙ l))) (bk y);
  }
    where
      bk : (y : ℕ) → ((y ≡ x) × (get_or (set labels x 2) y 0 ≡ 2) × (get_or (set lengths x k) y 0 ≡ k))
          ⊎ ((get_or (set labels x 2) y 0 ≡ get_or labels y 0) × (get_or (set lengths x k) y 0 ≡ get_or lengths y 0))
      bk = back labels lengths x 2 k hl hn

      kp : (y : ℕ) → (get_or labels y 0 ≡ 0 → ⊥) → (get_or (set labels x 2) y 0 ≡ get_or labels y 0)
          × (get_or (set lengths x k) y 0 ≡ get_or lengths y 0)
      kp = kept labels lengths x 2 k hl hn z

  pub sound_stand : get_or marks x 0 ≡ 0 → ((e : ℕ) → e < length objectors → get_or targets e 0 ≡ x
      → (get_or labels (get_or objectors e 0) 0 ≡ 2) × (get_or lengths (get_or objectors e 0) 0 + 1 ≤ k)) → (k ≡ 0)
      ⊎ ((e : ℕ) × (e < length objectors) × (get_or targets e 0 ≡ x) × (get_or lengths (get_or objectors e 0) 0 + 1 ≡ k))
      → Sound marks objectors targets (set labels x 1) (set lengths x k)
  sound_stand r all last = record {
    small = λ y hy. ⊎_elim (λ w. omega arith) (λ w. omega (arith, ok.small y hy)) (bk y);
    dash = λ y hy l. ⊎_elim (λ w. omega arith) (λ w. w.1 ∙ ok.dash y hy (sym w.0 ∙ l)) (bk y);
    felled = λ y hy l.
        ⊎_elim (λ w. absurd (omega arith))
        (λ w.
        let f = ok.felled y hy (sym w.0 ∙ l) in
        let q = kp (get_or objectors f.0 0) (omega (arith, f.3)) in
        (f.0, f.1, f.2, q.0 ∙ f.3, omega (arith, f.4))) (bk y);
    stood = λ y hy l. ⊎_elim (λ w. rw w.0 r) (λ w. ok.stood y hy (sym w.0 ∙ l)) (bk y);
    beaten = λ d hd l.
        ⊎_elim
        (λ w.
        let f = all d hd w.0 in
        let q = kp (get_or objectors d 0) (omega (arith, f.0)) in
        (q.0 ∙ f.0, omega (arith, f.1)))
        (λ w.
        let f = ok.beaten d hd (sym w.0 ∙ l) in
        let q = kp (get_or objectors d 0) (omega (arith, f.0)) in
        (q.0 ∙ f.0, omega (arith, f.1))) (bk (get_or targets d 0));
    tight = λ y hy l.
        ⊎_elim
        (λ w.
        ⊎_elim (λ t. inl (w.2 ∙ t))
        (λ t.
        let f = all t.0 t.1 t.2 in
        let q = kp (get_or objectors t.0 0) (omega (arith, f.0)) in
        inr (t.0, t.1, t.2 ∙ sym w.0, omega (arith, t.3))) last)
        (λ w.
        ⊎_elim (λ t. inl (w.1 ∙ t))
        (λ t.
        let f = ok.beaten t.0 t.1 (rw t.2 (sym w.0 ∙ l)) in
        let q = kp (get_or objectors t.0 0) (omega (arith, f.0)) in
        inr (t.0, t.1, t.2, omega (arith, t.3)))
        (ok.tight y hy (sym w.0 ∙ l))) (bk y);
  }
    where
      bk : (y : ℕ) → ((y ≡ x) × (get_or (set labels x 1) y 0 ≡ 1) × (get_or (set lengths x k) y 0 ≡ k))
          ⊎ ((get_or (set labels x 1) y 0 ≡ get_or labels y 0) × (get_or (set lengths x k) y 0 ≡ get_or lengths y 0))
      bk = back labels lengths x 1 k hl hn

      kp : (y : ℕ) → (get_or labels y 0 ≡ 0 → ⊥) → (get_or (set labels x 1) y 0 ≡ get_or labels y 0)
          × (get_or (set lengths x k) y 0 ≡ get_or lengths y 0)
      kp = kept labels lengths x 1 k hl hn z

pub sound_blank : (marks objectors targets : List ℕ) → Handed marks objectors targets → (labels lengths : List ℕ)
    → Blank marks labels lengths → Sound marks objectors targets labels lengths
sound_blank marks objectors targets reg labels lengths b = record {
  small = λ x hx. omega (arith, b.no_label x hx);
  dash = λ x hx l. b.no_length x hx;
  felled = λ x hx l. absurd (omega (arith, b.no_label x hx));
  stood = λ x hx l. absurd (omega (arith, b.no_label x hx));
  beaten = λ e he l. absurd (omega (arith, b.no_label (get_or targets e 0) (reg.order.target e he)));
  tight = λ x hx l. absurd (omega (arith, b.no_label x hx));
}

pub zeros_all : (l : List ℕ) → ((x : ℕ) → x < length l → get_or l x 0 ≡ 0) → zeros l ≡ length l
unfolding zeros
zeros_all [] h = refl
zeros_all (zero ∷ l) h = ap suc (zeros_all l (λ x p. h (suc x) (omega arith)))
zeros_all (suc a ∷ l) h = absurd (omega (arith, h 0 (omega arith)))
