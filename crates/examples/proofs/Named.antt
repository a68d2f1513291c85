-- Whether a code is a number's, and which number bytes are, tested: the one that they say, and no other.
use mathlib.Core.List.{List}
use mathlib.Core.Path.{ap, sym, ◌≡◌, ◌∙◌}
use Prim.Native.Nat.{ℕ}
use Rattle.register.specs.Number.{number_bytes, IsNumber}
use Rattle.register.proofs.Number.{number_test, number_tested, number_passes, number_says, spell_number}
use Rattle.promises.specs.NumberCalls.{Names}
use Rattle.examples.proofs.Test.{Decision, both_decided, alike}

abbrev pub is_number : (n : ℕ) → Decision (IsNumber n)
is_number n = record { passes = number_test n; is = number_tested n; must = number_passes n }

module _ (written : List ℕ) where
  abbrev pub said : ℕ
  said = spell_number 0 written

  abbrev pub names : Decision (Names written said)
  names = both_decided (is_number said) (alike written (number_bytes said))

  pub says : (n : ℕ) → Names written n → n ≡ said
  says n (h, e) = sym (number_says n h) ∙ ap (spell_number 0) (sym e)
