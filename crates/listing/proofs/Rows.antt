-- Rows: the pieces that they are put together of, and how long they are.
use mathlib.Core.List.{List, append_assoc, [], ◌∷◌, ◌++◌}
use mathlib.Core.Path.{◌≡◌}
use Prim.Native.Nat.{ℕ, ◌+◌, ◌≤◌}
use native.Mathlib.Omega.{arith}
use lib.ListN.{length, length-append}
use Rattle.game.specs.Label.{Verdict, is_open, stands, falls}
use Rattle.game.specs.Account.{Account, verdict_account, kind_account}
use Rattle.game.specs.declared.Kind.{Kind}
use Rattle.game.specs.declared.Kind.TheVariants.{Idle, Felling, Delaying, Standoff}
use Rattle.register.specs.Texts.{decimal}
use Rattle.register.specs.Number.{number_bytes}
use Rattle.listing.specs.Rows.{numbers_row, account_fields, statement_row, objection_row, header, register_word}
use Rattle.listing.specs.Rows.{refused_row, refused_word}
use Rattle.register.proofs.Digits.{ten_digits}
use Rattle.register.proofs.Number.{number_small}

-- The rows as the program puts them together, piece by piece.
pub numbers_pieces : (word : List ℕ) (n m : ℕ) → ((((word ++ (9 ∷ [])) ++ decimal n) ++ (9 ∷ [])) ++ decimal m) ++
    (10 ∷ []) ≡ numbers_row word n m
unfolding numbers_row
numbers_pieces word n m = simp append_assoc

pub statement_pieces : (number : ℕ) (a : Account) → ((number_bytes number ++ (9 ∷ [])) ++ account_fields a) ++
    (10 ∷ []) ≡ statement_row number a
unfolding statement_row
statement_pieces number a = simp append_assoc

pub objection_pieces : (y x : ℕ) (a : Account) → ((((number_bytes y ++ (9 ∷ [])) ++ number_bytes x) ++ (9 ∷ [])) ++ account_fields
    a)
    ++
    (10 ∷ []) ≡ objection_row y x a
unfolding objection_row
objection_pieces y x a = simp append_assoc

-- How long they are.
pub numbers_length : (word : List ℕ) (n m : ℕ) → length (numbers_row word n m) ≡ length word + length (decimal n) + length
    (decimal m) + 3
numbers_length word n m = rw (← numbers_pieces word n m) (simp length-append (omega arith))

pub header_length : (n m : ℕ) → length (header n m) ≡ length (decimal n) + length (decimal m) + 11
header_length n m = omega (arith, numbers_length register_word n m)

pub statement_length : (number : ℕ) (a : Account) → length (statement_row number a) ≡ length (number_bytes number) + length
    (account_fields a) + 2
statement_length number a = rw (← statement_pieces number a) (simp length-append (omega arith))

pub objection_length : (y x : ℕ) (a : Account)
    → length (objection_row y x a) ≡ length (number_bytes y) + length (number_bytes x) + length (account_fields a) + 3
objection_length y x a = rw (← objection_pieces y x a) (simp length-append (omega arith))

pub verdict_small : (v : Verdict) → length (account_fields (verdict_account v)) ≤ 17
verdict_small is_open = omega arith
verdict_small (stands n) = omega (arith, ten_digits n)
verdict_small (falls n) = omega (arith, ten_digits n)

pub kind_small : (κ : Kind) → length (account_fields (kind_account κ)) ≤ 19
kind_small Idle = omega arith
kind_small (Felling n) = omega (arith, ten_digits n)
kind_small (Delaying n) = omega (arith, ten_digits n)
kind_small Standoff = omega arith

pub statement_small : (number : ℕ) (v : Verdict) → length (statement_row number (verdict_account v)) ≤ 64
statement_small number v = omega (arith, statement_length number (verdict_account v), number_small number, verdict_small v)

pub objection_small : (y x : ℕ) (κ : Kind) → length (objection_row y x (kind_account κ)) ≤ 64
objection_small y x κ = omega (arith, objection_length y x (kind_account κ), number_small y, number_small x, kind_small κ)

pub refused_small : (number place : ℕ) → length (refused_row number place) ≤ 64
refused_small number place = omega (arith, numbers_length refused_word number place, ten_digits number, ten_digits place)

pub header_small : (n m : ℕ) → length (header n m) ≤ 64
header_small n m = omega (arith, header_length n m, ten_digits n, ten_digits m)
