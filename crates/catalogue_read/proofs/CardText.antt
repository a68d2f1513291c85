-- The parts of a line: what stands before its objectors, and their fields, one after the other; and that bytes which fail a test
-- begin with no line. What becomes of a line that was read is left to others.
use mathlib.Core.List.{List, append_assoc, append-nil, map, map-append, [], ◌∷◌, ◌++◌}
use mathlib.Core.Path.{sym, ap, refl, subst, subst₂, ◌≡◌, ◌∙◌}
use Prim.Native.Nat.{ℕ, ◌+◌, ◌≤◌}
use native.Mathlib.Omega.{arith}
use lib.ListN.{drop, length, length-append, length-map, length-set, set, take}
use Rattle.register.specs.Number.{IsNumber, number_bytes}
use Rattle.register.specs.Lines.{mark_byte}
use Rattle.register.specs.declared.Mark.{Mark}
use Rattle.register.specs.declared.StatementLine.{StatementLine}
use Rattle.register.proofs.Number.{number_once}
use Rattle.register_number.specs.NumberReading.{NumberAt, byte_at}
use Rattle.std.specs.Prelude.{Some, None}
use Rattle.register_number.proofs.NumberSteps.{second_bytes, first_byte, byte_first, byte_inside}
use Rattle.register_line.proofs.Fields.{behind, after_head}
use Rattle.register_read.proofs.Held.{take_more}
use Rattle.catalogue.specs.Cards.{Card, Each, fields_bytes, BeginsWithCard}
use Rattle.catalogue.proofs.Cards.{fields_follow, card_split}
use Rattle.catalogue.proofs.Against.{each_append}
use Rattle.catalogue_read.specs.CatalogueState.{headed, HeadAt, FieldsFrom, RoomGrown, MoreOf, FieldsAt, CardAt}

-- What stands before the objectors.
module _ (s : List ℕ) (at : ℕ) where
  head_bytes : (st : StatementLine) (rest : List ℕ) → drop at s ≡ headed st rest → (byte_at s at ≡ 83) × (byte_at s (at + 1) ≡ 9)
      × (drop (at + 2) s ≡ number_bytes st.number ++ (9 ∷ mark_byte st.mark ∷ rest))
  head_bytes st rest q = after_head s at 83 (number_bytes st.number ++ (9 ∷ mark_byte st.mark ∷ rest)) q

  module _ (v e : ℕ) (read : NumberAt s (at + 2) (Some (v, e))) where
    behind_number_lem : (st : StatementLine) (rest : List ℕ) → IsNumber st.number → drop at s ≡ headed st rest → (byte_at s e ≡ 9)
        × (byte_at s (e + 1) ≡ mark_byte st.mark)
    behind_number_lem st rest h q =
        let (_, t) = behind s (at + 2) v e read st.number 9 (mark_byte st.mark ∷ rest) h (omega arith)
        (head_bytes st rest q).2 in (
          first_byte s e 9 (mark_byte st.mark ∷ rest) t,
          first_byte s (e + 1) (mark_byte st.mark) rest (second_bytes s e 9 (mark_byte st.mark ∷ rest) t),
        )

    pub head_unparted : (byte_at s e ≡ 9 → ⊥) → HeadAt s at None
    head_unparted f st rest h q = f (behind_number_lem st rest h q).0

    pub head_unmarked : ((m : Mark) → byte_at s (e + 1) ≡ mark_byte m → ⊥) → HeadAt s at None
    head_unmarked f st rest h q = f st.mark (behind_number_lem st rest h q).1

-- A room with one entry more, and the rooms with one objector more.
grown_more : (room room' more : List ℕ) (m v : ℕ) → RoomGrown room m more room'
    → RoomGrown room m (more ++ (v ∷ [])) (set room' (m + length more) v)
grown_more room room' more m v g = record {
  as_long = length-set room' (m + length more) v ∙ g.as_long;
  holds = λ fits. longer (length-append more (v ∷ [])) fits;
}
  where
    longer : length (more ++ (v ∷ [])) ≡ length more + 1 → m + length (more ++ (v ∷ [])) ≤ length room
        → take (m + length (more ++ (v ∷ []))) (set room' (m + length more) v) ≡ take m room ++ (more ++ (v ∷ []))
    longer e fits =
        let k : m + length (more ++ (v ∷ [])) ≡ m + length more + 1 = omega arith in
        ap (λ i. take i (set room' (m + length more) v)) k
        ∙ take_more room' (m + length more) v (omega (arith, g.as_long))
        ∙ ap (λ u. u ++ (v ∷ [])) (g.holds (omega arith)) ∙ append_assoc (take m room) more (v ∷ [])

module _ (n m : ℕ) (objectors targets : List ℕ) where
  none_more : MoreOf n m m [] objectors targets objectors targets
  none_more = record {
    counted = omega arith;
    objectors_grown = none objectors;
    targets_grown = none targets;
  }
    where
      none : (room : List ℕ) → RoomGrown room m [] room
      none room = record {
        as_long = refl;
        holds = λ fits. let k : m + 0 ≡ m = omega arith in ap (λ i. take i room) k ∙ sym (append-nil (take m room));
      }

  one_more : (count v : ℕ) (ys objectors' targets' : List ℕ) → MoreOf n m count ys objectors targets objectors' targets'
      → MoreOf n m (count + 1) (ys ++ (v ∷ [])) objectors targets (set objectors' count v) (set targets' count n)
  one_more count v ys objectors' targets' h =
      let same : m + length (map (λ (y : ℕ). n) ys) ≡ m + length ys = ap (λ k. m + k) (length-map ys (λ (y : ℕ). n)) in
      record {
        counted = omega (arith, h.counted, length-append ys (v ∷ []));
        objectors_grown =
            subst (λ k. RoomGrown objectors m (ys ++ (v ∷ [])) (set objectors' k v)) (sym h.counted)
            (grown_more objectors objectors' ys m v h.objectors_grown);
        targets_grown =
            subst₂ (λ k u. RoomGrown targets m u (set targets' k n)) (same ∙ sym h.counted)
            (sym (map-append (λ (y : ℕ). n) ys (v ∷ [])))
            (grown_more targets targets' (map (λ (y : ℕ). n) ys) m n h.targets_grown);
      }

-- Fields, one more.
fields_more : (ys : List ℕ) (v : ℕ) (rest : List ℕ)
    → fields_bytes (ys ++ (v ∷ [])) ++ rest ≡ fields_bytes ys ++ (9 ∷ (number_bytes v ++ rest))
unfolding fields_bytes
fields_more [] v rest = ap (λ u. 9 ∷ (u ++ rest)) (append-nil (number_bytes v))
fields_more (y ∷ ys) v rest =
    ap (λ u. 9 ∷ u) (append_assoc (number_bytes y) (fields_bytes (ys ++ (v ∷ []))) rest
    ∙ ap (λ u. number_bytes y ++ u) (fields_more ys v rest)
    ∙ sym (append_assoc (number_bytes y) (fields_bytes ys) (9 ∷ (number_bytes v ++ rest))))

-- What the rest of a line begins with: its end, or a tab and a number that is parted from what follows.
module _ (s : List ℕ) (at : ℕ) where
  ending : FieldsFrom s at → (byte_at s at ≡ 9 → ⊥) → byte_at s at ≡ 10
  unfolding fields_bytes
  ending f no-tab = go f.fields f.are
    where
      go : (ys : List ℕ) → drop at s ≡ fields_bytes ys ++ (10 ∷ f.rest) → byte_at s at ≡ 10
      go [] e = first_byte s at 10 f.rest e
      go (y ∷ ys) e = absurd (no-tab (first_byte s at 9 ((number_bytes y ++ fields_bytes ys) ++ (10 ∷ f.rest)) e))

  -- the field y, and behind it the byte c, which is a tab or the end
  record Field : Type 0 where
    y : ℕ
    ys : List ℕ
    rest : List ℕ
    c : ℕ
    tail : List ℕ
    number : IsNumber y
    numbers : Each IsNumber ys
    parts : c ≤ 10
    begins : fields_bytes ys ++ (10 ∷ rest) ≡ c ∷ tail
    are : drop (at + 1) s ≡ number_bytes y ++ (c ∷ tail)

  field : FieldsFrom s at → byte_at s at ≡ 9 → Field
  unfolding fields_bytes
  field f tab = go f.fields f.formed f.are
    where
      go : (ys : List ℕ) → Each IsNumber ys → drop at s ≡ fields_bytes ys ++ (10 ∷ f.rest) → Field
      go [] h e = absurd (omega (arith, first_byte s at 10 f.rest e))
      go (y ∷ ys) h e =
          let (c, tail, l, q) = fields_follow ys f.rest in
          record {
            y = y;
            ys = ys;
            rest = f.rest;
            c = c;
            tail = tail;
            number = h.0;
            numbers = h.1;
            parts = l;
            begins = q;
            are =
                second_bytes s at 9 ((number_bytes y ++ fields_bytes ys) ++ (10 ∷ f.rest)) e
                ∙ append_assoc (number_bytes y) (fields_bytes ys) (10 ∷ f.rest) ∙ ap (λ u. number_bytes y ++ u) q;
          }

-- The loop over the fields: those passed are numbers, which the rooms hold; if the rest of the line is fields, so is what is
-- left.
pub record Inv (s : List ℕ) (at n m : ℕ) (objectors₀ targets₀ objectors targets : List ℕ) (end count : ℕ) : Type 0 where
  pub ys : List ℕ
  pub formed : Each IsNumber ys
  pub from : at ≤ end
  pub within : end ≤ length s
  pub few : count + at ≤ m + end
  pub spelled : drop at s ≡ fields_bytes ys ++ drop end s
  pub onward : FieldsFrom s at → FieldsFrom s end
  pub more : MoreOf n m count ys objectors₀ targets₀ objectors targets

module _ (s : List ℕ) (at n m : ℕ) (objectors₀ targets₀ : List ℕ) where
  pub start : at ≤ length s → Inv s at n m objectors₀ targets₀ objectors₀ targets₀ at m
  unfolding fields_bytes
  start h = record {
    ys = [];
    formed = tt;
    from = omega arith;
    within = h;
    few = omega arith;
    spelled = refl;
    onward = λ f. f;
    more = none_more n m objectors₀ targets₀;
  }

  module _ (objectors targets : List ℕ) (end count : ℕ) (v : Inv s at n m objectors₀ targets₀ objectors targets end count) where
    pub no_number : byte_at s end ≡ 9 → NumberAt s (end + 1) None → ¬ FieldsFrom s at
    no_number tab none f =
        let g = field s end (v.onward f) tab in
        none g.y (g.c ∷ g.tail) g.number g.parts g.are

    pub no_end : (byte_at s end ≡ 9 → ⊥) → (byte_at s end ≡ 10 → ⊥) → ¬ FieldsFrom s at
    no_end no-tab none f = none (ending s end (v.onward f) no-tab)

    pub all : byte_at s end ≡ 10 → FieldsAt s at n m objectors₀ targets₀ objectors targets (Some (count, end + 1))
    all e = (
      v.ys,
      v.formed,
      omega (arith, v.from),
      omega (arith, byte_inside s end 10 e (omega arith)),
      v.spelled ∙ ap (λ u. fields_bytes v.ys ++ u) (byte_first s end 10 e (omega arith)),
      v.more,
    )

    pub turn : (number next : ℕ) → byte_at s end ≡ 9 → NumberAt s (end + 1) (Some (number, next))
        → Inv s at n m objectors₀ targets₀ (set objectors count number) (set targets count n) next (count + 1)
    turn number next tab read = record {
      ys = v.ys ++ (number ∷ []);
      formed = each_append IsNumber v.ys (number ∷ []) v.formed (read.0, tt);
      from = omega (arith, v.from, read.1);
      within = read.2;
      few = omega (arith, v.few, read.1);
      spelled =
          v.spelled ∙ ap (λ u. fields_bytes v.ys ++ u) (byte_first s end 9 tab (omega arith) ∙ ap (λ u. 9 ∷ u) read.3)
          ∙ sym (fields_more v.ys number (drop next s));
      onward = λ f. further (field s end (v.onward f) tab);
      more = one_more n m objectors₀ targets₀ count number v.ys objectors targets v.more;
    }
      where
        further : Field s end → FieldsFrom s next
        further g = record {
          fields = g.ys;
          rest = g.rest;
          formed = g.numbers;
          are =
              (behind s (end + 1) number next read g.y g.c g.tail g.number g.parts g.are).1
              ∙ sym g.begins;
        }

-- A card is a head and its fields.
module _ (s : List ℕ) (at : ℕ) where
  module _ (st : StatementLine) (end : ℕ) (head : HeadAt s at (Some (st, end))) where
    pub no_fields : ¬ FieldsFrom s end → (c : Card) → ¬ BeginsWithCard c (drop at s)
    no_fields none c (h, (rest, q)) =
        let fields : List ℕ = fields_bytes c.objectors ++ (10 ∷ rest) in
        let e : headed st (drop end s) ≡ headed c.statement fields = sym head.3 ∙ q ∙ card_split c rest in
        let (_, t) = number_once st.number c.statement.number 9 9 (mark_byte st.mark ∷ drop end s)
        (mark_byte c.statement.mark ∷ fields) head.0 h.0 (omega arith) (omega arith) (cc) in
        none (record { fields = c.objectors; rest = rest; formed = h.1; are = cc })

    pub whole_card : (n m count next : ℕ) (objectors targets objectors' targets' : List ℕ)
        → FieldsAt s end n m objectors targets objectors' targets' (Some (count, next))
        → CardAt s at n m objectors targets objectors' targets' (Some (st, count, next))
    whole_card n m count next objectors targets objectors' targets' (ys, formed, l, within, e, more) =
        let c : Card = record { statement = st; objectors = ys } in (
          c,
          refl,
          (head.0, formed),
          omega (arith, head.1),
          within,
          head.3 ∙ ap (headed st) e ∙ sym (card_split c (drop next s)),
          more,
        )
