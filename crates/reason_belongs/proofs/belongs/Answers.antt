-- `belongs` goes by the kind of the objection, and for a felling one by its length and its target's: each answer by the two.
use mathlib.Core.Path.{refl}
use native.Mathlib.Omega.{arith}
use Rattle.game.proofs.Reason.{belongs_decided}
use Rattle.reason_belongs.proofs.FellingLength.{felling_belongs, felling_apart}
use Rattle.reason_belongs.proofs.belongs.Goals as goal

pub returns-in-Idle : goal.returns-in-Idle
returns-in-Idle c = belongs_decided _ _ _ _ c.in-Idle.ensures _ refl _ refl

pub returns-in-Felling : goal.returns-in-Felling
returns-in-Felling c = felling_apart _ _ _ _ _ c.args.labelled.now.pairs.handed c.requires.0 _ c.requires.1 _ refl _
    c.in-Felling.ensures _ refl (λ e. omega (arith, c.if-length-target_length.true, e))

pub returns-in-Felling-2 : goal.returns-in-Felling-2
returns-in-Felling-2 c = felling_belongs _ _ _ _ _ c.args.labelled.now.pairs.handed c.requires.0 _ c.requires.1 _ refl _
    c.in-Felling.ensures _ refl (omega (arith, c.if-length-target_length.false))
