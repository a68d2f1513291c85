-- From what the solver leaves in rooms to what the calls for labels and lengths promise.
use mathlib.Core.List.{List}
use mathlib.Core.Path.{refl, ◌≡◌}
use Prim.Native.Nat.{ℕ, ◌≤◌}
use lib.ListN.{length}
use Rattle.game.specs.Book.{book_of}
use Rattle.game.specs.Account.{Account, OfStatement, verdict_account, account_number, account_length}
use Rattle.label_solve.specs.Labelled.{Solved}
use Rattle.answer.specs.Answer.{Begins}

-- what the solver leaves in the rooms is what the calls promise
module _ (marks objectors targets labels lengths labels' lengths' : List ℕ)
    (s : Solved marks objectors targets labels lengths labels' lengths') where
  pub labels_begin : length marks ≤ length labels → length labels' ≡ length labels
      → Begins (length marks) (λ x e. (a : Account) × OfStatement (book_of marks objectors targets) x a × (e ≡ account_number a))
      labels
      labels'
  unfolding book_of
  labels_begin h e = record {
    fits = h;
    same = e;
    each = λ x l. let t = s.labelled.told x l in (verdict_account t.verdict, (t.verdict, t.means, refl), t.label_is);
    rest = s.labels_rest;
  }

  pub lengths_begin : length marks ≤ length lengths → length lengths' ≡ length lengths
      → Begins (length marks) (λ x e. (a : Account) × OfStatement (book_of marks objectors targets) x a × (e ≡ account_length a))
      lengths
      lengths'
  unfolding book_of
  lengths_begin h e = record {
    fits = h;
    same = e;
    each = λ x l. let t = s.labelled.told x l in (verdict_account t.verdict, (t.verdict, t.means, refl), t.length_is);
    rest = s.lengths_rest;
  }
