-- What the linear-time solver prepares: the counts. And what it reads out of the lists.
use mathlib.Core.Path.{sym, ap, ◌≡◌, ◌∙◌}
use mathlib.Core.Logic.{⊎_elim}
use mathlib.Core.List.{List}
use Prim.Native.Nat.{ℕ, ◌+◌, ◌<◌}
use native.Mathlib.Omega.{arith}
use lib.ListN.{length, get_or, replicate, length-replicate, get_or-replicate, set, length-set}
use lib.Seq.{set-set, set-get_or, get_or-set_same}
use Rattle.lists.specs.Handed.{Handed}
use Rattle.pair_chain.proofs.ChainSteps.{Stored, stored}
use Rattle.label_queue.specs.Queue.{Counted, cnt}
use Rattle.label_queue.proofs.Counts.{cnt_ones, cnt_other, cnt_flip}

pub counted_none : (marks targets left : List ℕ) → ((x : ℕ) → x < length marks → get_or left x 0 ≡ 0) → Counted marks targets 0
    left
counted_none marks targets left z = record {
  done = replicate (length targets) 1;
  room = length-replicate (length targets) 1;
  past = λ e he. absurd (omega arith);
  rest = λ e _ he. get_or-replicate (length targets) e 1 0 he;
  counts =
      λ x hx. z x hx ∙ sym (cnt_ones targets (replicate (length targets) 1) x
      (λ e he p. omega (arith, p, get_or-replicate {A = ℕ} (length targets) e 1 0 he)));
  few = λ x hx. omega (arith, z x hx);
}

pub counted_more : (marks targets left : List ℕ) (i x : ℕ) → Counted marks targets i left → i < length targets
    → get_or targets i 0 ≡ x → x < length left → Counted marks targets (i + 1) (set left x (get_or left x 0 + 1))
counted_more marks targets left i x c hi hx hf = record {
  done = set c.done i 0;
  room = length-set c.done i 0 ∙ c.room;
  past = λ e he. ⊎_elim (λ a. a.1) (λ a. a.1 ∙ c.past e (below e he a.0)) (dn e);
  rest = λ e h he. ⊎_elim (λ a. absurd (omega (arith, a.0))) (λ a. a.1 ∙ c.rest e (omega arith) he) (dn e);
  counts =
      λ w hw. ⊎_elim (λ a. a.1 ∙ omega (arith, up, rw a.0 at (c.counts w hw))
      ∙ ap (cnt targets (set c.done i 0)) (sym a.0)) (λ a. a.1 ∙ c.counts w hw
      ∙ sym (cnt_other targets c.done i 0 w (λ p. a.0 (sym p ∙ hx)) hi)) (lf w);
  few = λ w hw. ⊎_elim (λ a. omega (arith, a.1, rw a.0 at (c.few w hw))) (λ a. omega (arith, a.1, c.few w hw)) (lf w);
}
  where
    hd : i < length c.done
    hd = omega (arith, c.room)

    dn : (e : ℕ) → Stored e i (get_or (set c.done i 0) e 0) (get_or c.done e 0) 0
    dn = stored c.done i 0 hd

    lf : (w : ℕ) → Stored w x (get_or (set left x (get_or left x 0 + 1)) w 0) (get_or left w 0) (get_or left x 0 + 1)
    lf = stored left x (get_or left x 0 + 1) hf

    below : (e : ℕ) → e < i + 1 → (e ≡ i → ⊥) → e < i
    below e h n = omega arith

    same : set (set c.done i 0) i 1 ≡ c.done
    same = set-set c.done i 0 1 ∙ ap (set c.done i) (sym (c.rest i (omega arith) hi)) ∙ set-get_or c.done i 0

    up : cnt targets c.done x + 1 ≡ cnt targets (set c.done i 0) x
    up = rw same at (cnt_flip targets (set c.done i 0) i x hi (rw length-set hd) (get_or-set_same c.done i 0 0 hd) hx)

-- what was read out of the lists is a place
pub target_place : (marks objectors targets : List ℕ) → Handed marks objectors targets → (i x : ℕ) → i < length objectors
    → x ≡ get_or targets i 0 → x < length marks
target_place marks objectors targets reg i x h p = rw p (reg.order.target i h)
