-- What the rooms hold: where numbers and objections stand in them, and one statement or objection more.
use mathlib.Core.List.{List, map, map-append, [], ◌∷◌, ◌++◌}
use mathlib.Core.Path.{ap, sym, refl, ◌≡◌, ◌∙◌}
use Prim.Native.Nat.{ℕ, ◌+◌, ◌<◌}
use native.Mathlib.Numerals.{add-one}
use native.Mathlib.Omega.{arith}
use lib.ListN.{length, take, set, length-map, get_or, length-append}
use lib.Seq.{take-suc-set, get_or-take}
use Rattle.register.specs.Lines.{mark_number}
use Rattle.register.specs.declared.StatementLine.{StatementLine}
use Rattle.register.specs.declared.ObjectionLine.{ObjectionLine}
use Rattle.register.specs.Register.{Register, numbers, Issued, place_of, objector_numbers, target_numbers, Valid, Has, bare}
use Rattle.register.proofs.Order.{place_first, mapped, place_holds}
use Rattle.register.proofs.OneMore.{with_statement_lem, numbers_more, with_objection_lem, objectors_more, targets_more}
use Rattle.register_read.specs.ReadState.{Holds, At, Absent, EndPlaces}

-- a room's beginning, with one entry more
pub take_more : (room : List ℕ) (n v : ℕ) → n < length room → take (n + 1) (set room n v) ≡ take n room ++ (v ∷ [])
take_more room n v h = rw add-one (take-suc-set room n v h)

-- A number is on the register exactly where it stands among the first n of the room.
module _ (R : Register) (n m : ℕ) (nums marks objectors targets : List ℕ) (h : Holds R n m nums marks objectors targets) where
  counted : length (numbers R) ≡ n
  counted = length-map R.statements (λ (st : StatementLine). st.number) ∙ h.statements

  number_at : (i : ℕ) → i < n → get_or (numbers R) i 0 ≡ get_or nums i 0
  number_at i l = ap (λ ns. get_or ns i 0) (sym h.numbers_are) ∙ get_or-take n nums i 0 l

  pub on_register_lem : (v i : ℕ) → At nums n v i → Issued R v
  on_register_lem v i (l, e) = (i, omega (arith, counted), number_at i l ∙ e)

  pub off_register : (v : ℕ) → Absent nums n v → ¬ Issued R v
  off_register v f (i, l, e) = let k : i < n = omega (arith, counted) in f i k (sym (number_at i k) ∙ e)

  pub place_is : (v y : ℕ) → At nums n v y → Absent nums y v → place_of (numbers R) v ≡ y
  place_is v y (l, e) f =
      place_first (numbers R) v y (omega (arith, counted)) (number_at y l ∙ e)
      (λ i k q. f i k (sym (number_at i (omega arith)) ∙ q))

  -- the entries of the objections' rooms are the places of their numbers
  entry_at : (nos room : List ℕ) → take m room ≡ map (place_of (numbers R)) nos → length nos ≡ m → (j : ℕ) → j < m
      → get_or room j 0 ≡ place_of (numbers R) (get_or nos j 0)
  entry_at nos room e c j l = sym (get_or-take m room j 0 l) ∙ ap (λ u. get_or u j 0) e ∙ mapped (place_of (numbers R)) nos j
      (omega arith)

  objectors_counted : length (objector_numbers R) ≡ m
  objectors_counted = length-map R.objections (λ (o : ObjectionLine). o.objector) ∙ h.objections

  targets_counted : length (target_numbers R) ≡ m
  targets_counted = length-map R.objections (λ (o : ObjectionLine). o.target) ∙ h.objections

  pub objector_entry : (j : ℕ) → j < m → get_or objectors j 0 ≡ place_of (numbers R) (get_or (objector_numbers R) j 0)
  objector_entry = entry_at (objector_numbers R) objectors h.objectors_are objectors_counted

  pub target_entry : (j : ℕ) → j < m → get_or targets j 0 ≡ place_of (numbers R) (get_or (target_numbers R) j 0)
  target_entry = entry_at (target_numbers R) targets h.targets_are targets_counted

  -- an entry that is the place y is that of the number that stands there
  same_number : (u v y j : ℕ) → Issued R u → At nums n v y → place_of (numbers R) u ≡ y → u ≡ v
  same_number u v y j (i, l, e) (k, q) p =
      sym (place_holds (numbers R) u i l e) ∙ ap (λ a. get_or (numbers R) a 0) p ∙ number_at y k ∙ q

  module _ (valid : Valid R) (o : ObjectionLine) (y x : ℕ) (ends : EndPlaces nums n o y x) where
    -- the objection stands on the register exactly where its places stand in the rooms
    pub stands_already : (j : ℕ) → j < m → get_or objectors j 0 ≡ y → get_or targets j 0 ≡ x → Has R o.objector o.target
    stands_already j l a b =
        let (p, q) = valid.known j (omega (arith, h.objections)) in (
          j,
          omega (arith, h.objections),
          same_number (get_or (objector_numbers R) j 0) o.objector y j p ends.objector
              (sym (objector_entry j l) ∙ a),
          same_number (get_or (target_numbers R) j 0) o.target x j q ends.target
              (sym (target_entry j l) ∙ b),
        )

    pub stands_nowhere : ((j : ℕ) → j < m → get_or objectors j 0 ≡ y → get_or targets j 0 ≡ x → ⊥) → ¬ Has R o.objector o.target
    stands_nowhere f (k, l, a, b) =
        let i : k < m = omega (arith, h.objections) in
        f k i (objector_entry k i ∙ ap (place_of (numbers R)) a ∙ place_is o.objector y ends.objector ends.objector_first)
        (target_entry k i ∙ ap (place_of (numbers R)) b ∙ place_is o.target x ends.target ends.target_first)

-- One statement more.
module _ (S : List StatementLine) (st : StatementLine) where
  pub holds_statement : (n : ℕ) (nums marks objectors targets : List ℕ) → n < length nums → n < length marks
      → Holds (bare S) n 0 nums marks objectors targets → Holds (with_statement_lem S st) (n + 1) 0 (set nums n st.number)
      (set marks n (mark_number st.mark)) objectors targets
  holds_statement n nums marks objectors targets a b h = record {
    statements = length-append S (st ∷ []) ∙ omega (arith, h.statements);
    objections = refl;
    numbers_are = take_more nums n st.number a ∙ ap (λ u. u ++ (st.number ∷ [])) h.numbers_are ∙ sym (numbers_more S st);
    marks_are =
        take_more marks n (mark_number st.mark) b ∙ ap (λ u. u ++ (mark_number st.mark ∷ [])) h.marks_are
        ∙ sym (map-append (λ (t : StatementLine). mark_number t.mark) S (st ∷ []));
    objectors_are = h.objectors_are;
    targets_are = h.targets_are;
  }

-- One objection more.
module _ (R : Register) (o : ObjectionLine) where
  pub holds_objection : (n m y x : ℕ) (nums marks objectors targets : List ℕ) → m < length objectors → m < length targets
      → (h : Holds R n m nums marks objectors targets) → place_of (numbers R) o.objector ≡ y
      → place_of (numbers R) o.target ≡ x → Holds (with_objection_lem R o) n (m + 1) nums marks (set objectors m y)
      (set targets m x)
  holds_objection n m y x nums marks objectors targets a b h p q = record {
    statements = h.statements;
    objections = length-append R.objections (o ∷ []) ∙ omega (arith, h.objections);
    numbers_are = h.numbers_are;
    marks_are = h.marks_are;
    objectors_are =
        more objectors y o.objector (objector_numbers R) (objector_numbers (with_objection_lem R o)) a h.objectors_are p
        (objectors_more R o);
    targets_are = more targets x o.target (target_numbers R) (target_numbers (with_objection_lem R o)) b h.targets_are q
        (targets_more R o);
  }
    where
      more : (room : List ℕ) (e v : ℕ) (nos nos' : List ℕ) → m < length room → take m room ≡ map (place_of (numbers R)) nos
          → place_of (numbers R) v ≡ e → nos' ≡ nos ++ (v ∷ []) → take (m + 1) (set room m e) ≡ map (place_of (numbers R)) nos'
      more room e v nos nos' l t w u =
          take_more room m e l ∙ ap (λ z. z ++ (e ∷ [])) t ∙ ap (λ z. map (place_of (numbers R)) nos ++ (z ∷ [])) (sym w)
          ∙ sym (map-append (place_of (numbers R)) nos (v ∷ [])) ∙ ap (map (place_of (numbers R))) (sym u)

-- The rooms hold the same where they begin with the same objections.
pub holds_back : (R : Register) (n m : ℕ) (nums marks objectors targets objectors' targets' : List ℕ)
    → Holds R n m nums marks objectors targets → take m objectors' ≡ take m objectors → take m targets' ≡ take m targets
    → Holds R n m nums marks objectors' targets'
holds_back R n m nums marks objectors targets objectors' targets' h p q = record {
  statements = h.statements;
  objections = h.objections;
  numbers_are = h.numbers_are;
  marks_are = h.marks_are;
  objectors_are = p ∙ h.objectors_are;
  targets_are = q ∙ h.targets_are;
}
