-- `Restorable` is the sentence of 02, said over the fates of all lines.
use mathlib.Core.List.{List}
use mathlib.Core.Logic.{inl, inr, ⊎_elim, ◌⊎◌, ◌↔◌}
use mathlib.Core.Path.{refl, ap, sym, ◌≡◌, ◌∙◌}
use Prim.Native.Nat.{ℕ, ◌<◌}
use native.Mathlib.Omega.{arith}
use lib.ListN.{length, get_or}
use Rattle.register.specs.declared.ObjectionLine.{ObjectionLine}
use Rattle.register.specs.Register.{Issued}
use Rattle.mend.specs.TextLines.{TextLine, ObjectionAt}
use Rattle.mend.specs.Fate.{Cause, Fate, kept, moved, dropped, unknown_number, fate_number}
use Rattle.mend.specs.Mended.{fates, mended}
use Rattle.mend.specs.Restored.{Restorable}
use Rattle.mend.proofs.Fate.{dropped_not_kept, moved_not_kept}
use Rattle.mend.proofs.Marks.{unknown_exactly}

-- line k is an objection by an unknown number against a listed one
abbrev pub ByUnknown : List TextLine → ℕ → Type 0
ByUnknown ls k = (o : ObjectionLine) × ObjectionAt ls k o × (¬ Issued (mended ls) o.objector) × Issued (mended ls) o.target

-- "If only objections by unknown numbers against listed ones were dropped and no line moved"
abbrev pub OnlySuchDropped : List TextLine → Type 0
OnlySuchDropped ls = (k : ℕ) (cause : Cause) → k < length ls → get_or (fates ls) k kept ≡ dropped cause → ByUnknown ls k

abbrev pub NoneMoved : List TextLine → Type 0
NoneMoved ls = (k : ℕ) → k < length ls → get_or (fates ls) k kept ≡ moved → ⊥

pub restorable_exactly : (ls : List TextLine) → Restorable ls ↔ (OnlySuchDropped ls × NoneMoved ls)
restorable_exactly ls = (λ ok. (such ok, none ok), λ w k h. either w k h (get_or (fates ls) k kept) refl)
  where
    such : Restorable ls → OnlySuchDropped ls
    such ok k cause h e = ⊎_elim (λ f. absurd (dropped_not_kept cause (sym e ∙ f))) (λ w. (w.0, w.1, w.2, w.3)) (ok k h)

    none : Restorable ls → NoneMoved ls
    none ok k h e =
        ⊎_elim (λ f. moved_not_kept (sym e ∙ f)) (λ w. not_moved
        (sym ((unknown_exactly ls k w.0 w.1).1 (λ i. w.2 i.0)) ∙ e)) (ok k h)
      where
        not_moved : dropped unknown_number ≡ moved → ⊥
        not_moved f = omega (arith, ap (fate_number 0) f)

    either : OnlySuchDropped ls × NoneMoved ls → (k : ℕ) → k < length ls → (f : Fate) → get_or (fates ls) k kept ≡ f
        → (get_or (fates ls) k kept ≡ kept) ⊎ ByUnknown ls k
    either w k h kept e = inl e
    either w k h moved e = absurd (w.1 k h e)
    either w k h (dropped cause) e = inr (w.0 k cause h e)
