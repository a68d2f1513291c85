-- Laws of promises on an input, whatever it is and whatever is asked of it, where accepting and refusing are apart: what is
-- refused is one, the answer is one, a later refusal is given exactly when it is due, and what is promised of what the input
-- makes is promised of the input.
use mathlib.Core.Logic.{inl, inr, ⊎_elim, ◌↔◌}
use mathlib.Core.Path.{subst, ◌≡◌}
use Prim.Native.Nat.{ℕ, ◌≤◌, ◌<◌}
use Rattle.answer.specs.declared.Refusal.{Refusal}
use Rattle.answer.specs.declared.Refusal.TheVariants.{Text, Lists, Room, Asked, Turns, Sheet}
use Rattle.answer.specs.Answer.{RefusedOn, GivenOn, OnInput, Promised, Asks}
use Rattle.answer.specs.Answer.{Answer}
use Rattle.std.specs.Prelude.{Ok, Err}
use Rattle.answer.proofs.Promises.{promised_unique, through, refused_exactly, Exactly, asks_once}
use Rattle.answer.proofs.Promises.{asks_14, asks_15, asks_10}

-- A refusal of what is asked, and none that an input has by itself.
abbrev pub Later : Refusal → Type 0
Later (Text fault) = ⊥
Later (Lists fault) = ⊥
Later Room = Unit {0}
Later Asked = Unit {0}
Later Turns = Unit {0}
Later Sheet = Unit {0}

-- An input is accepted as one thing or refused with one refusal, never both.
pub record Apart {Made : Type 0} (accepts : Made → Type 0) (refuses : Refusal → Type 0) : Type 0 where
  pub accepts_once : (m m' : Made) → accepts m → accepts m' → m ≡ m'
  pub not_both : (m : Made) (r : Refusal) → accepts m → refuses r → ⊥
  pub refuses_once : (r r' : Refusal) → refuses r → refuses r' → r ≡ r'

module _ {Made : Type 0} {accepts : Made → Type 0} {refuses : Refusal → Type 0} (apart : Apart accepts refuses) where
  -- What is promised of what the input makes is promised of the input.
  pub on_promised : {Rooms : Type 0} (later : Made → Refusal → Type 0) (gives : Made → ℕ → Rooms → Type 0) (m : Made)
      → accepts m → (rooms : Rooms) (a : Answer) (after : Rooms) → Promised (later m) (gives m) rooms a after
      → OnInput accepts refuses later gives rooms a after
  on_promised later gives m t rooms (Err r) after (p, q) = (inr (m, t, p), q)
  on_promised later gives m t rooms (Ok n) after p = (m, t, p)

  -- Nothing is refused where the input is accepted and nothing is refused later.
  pub on_apart : (later : Made → Refusal → Type 0) (r : Refusal) (m : Made) → RefusedOn accepts refuses later r → accepts m
      → ¬ later m r → ⊥
  on_apart later r m (inl p) t n = apart.not_both m r t p
  on_apart later r m (inr p) t n = n (subst (λ u. later u r) (apart.accepts_once p.0 m p.1 t) p.2)

  module _ (later : Made → Refusal → Type 0) (one : (m : Made) (r r' : Refusal) → later m r → later m r' → r ≡ r') where
    on_once : (r r' : Refusal) → RefusedOn accepts refuses later r → RefusedOn accepts refuses later r' → r ≡ r'
    on_once r r' (inl p) (inl q) = apart.refuses_once r r' p q
    on_once r r' (inl p) (inr q) = absurd (apart.not_both q.0 r q.1 p)
    on_once r r' (inr p) (inl q) = absurd (apart.not_both p.0 r' p.1 q)
    on_once r r' (inr p) (inr q) =
        one q.0 r r' (subst (λ u. later u r) (apart.accepts_once p.0 q.0 p.1 q.1) p.2) q.2

    -- Where something is given, nothing is refused later.
    module _ {Rooms : Type 0} (gives : Made → ℕ → Rooms → Type 0)
        (fine : (m : Made) → accepts m → (r : Refusal) (n : ℕ) (after : Rooms) → later m r → gives m n after → ⊥) where
      gives_apart : (r : Refusal) (n : ℕ) (after : Rooms) → RefusedOn accepts refuses later r → GivenOn accepts gives n after → ⊥
      gives_apart r n after p (m, t, g) = on_apart later r m p t (λ q. fine m t r n after q g)

      -- The answer is one where that of what the input makes is.
      pub on_unique : ((m : Made) → accepts m → (n n' : ℕ) (after after' : Rooms) → gives m n after → gives m n' after'
          → (n ≡ n') × (after ≡ after')) → (rooms : Rooms) (a a' : Answer) (after after' : Rooms)
          → OnInput accepts refuses later gives rooms a after → OnInput accepts refuses later gives rooms a' after'
          → (a ≡ a') × (after ≡ after')
      on_unique same =
          promised_unique (RefusedOn accepts refuses later) (GivenOn accepts gives) on_once gives_apart
          (λ n n' after after' (m, t, g) (m', t', g'). same m t n n' after after' g
          (subst (λ u. gives u n' after') (apart.accepts_once m' m t' t) g'))

      -- A refusal is given exactly when it is due; one that is none of the input's own, when it is due of what the input makes.
      pub on_refused : (rooms : Rooms) (a : Answer) (after : Rooms) → OnInput accepts refuses later gives rooms a after
          → (r : Refusal) → (a ≡ Err r) ↔ RefusedOn accepts refuses later r
      on_refused = refused_exactly (RefusedOn accepts refuses later) (GivenOn accepts gives) on_once gives_apart

      pub on_exactly : (rooms : Rooms) (a : Answer) (after : Rooms) → OnInput accepts refuses later gives rooms a after
          → (r : Refusal) → ¬ refuses r → (due : Made → Type 0) → ((m : Made) → later m r ↔ due m)
          → (a ≡ Err r) ↔ ((m : Made) × accepts m × due m)
      on_exactly rooms a after p r n due e =
          through (on_refused rooms a after p r)
          (⊎_elim (λ q. absurd (n q)) (λ (m, t, q). (m, t, (e m).0 q)), λ (m, t, d). inr (m, t, (e m).1 d))

  -- What is asked about a statement: 14, 15 and 10 are given exactly when they are due.
  pub on_asked : {Rooms : Type 0} (there : Made → Type 0) (turns : ℕ) (short : Made → Type 0) (gives : Made → ℕ → Rooms → Type 0)
      → ((m : Made) → accepts m → (r : Refusal) (n : ℕ) (after : Rooms) → Asks (there m) turns (short m) r → gives m n after → ⊥)
      → ¬ refuses Asked → ¬ refuses Turns → ¬ refuses Room → (rooms : Rooms) (a : Answer) (after : Rooms)
      → OnInput accepts refuses (λ m. Asks (there m) turns (short m)) gives rooms a after
      → Exactly ((m : Made) × accepts m × (¬ there m)) ((m : Made) × accepts m × (there m × (6 < turns)))
      ((m : Made) × accepts m × (there m × (turns ≤ 6) × short m)) a
  on_asked there turns short gives fine no-14 no-15 no-10 rooms a after p = record {
    fourteen = due Asked no-14 (λ m. ¬ there m) (λ m. asks_14 (there m) turns (short m));
    fifteen = due Turns no-15 (λ m. there m × (6 < turns)) (λ m. asks_15 (there m) turns (short m));
    ten = due Room no-10 (λ m. there m × (turns ≤ 6) × short m) (λ m. asks_10 (there m) turns (short m));
  }
    where
      due : (r : Refusal) → ¬ refuses r → (when : Made → Type 0) → ((m : Made) → Asks (there m) turns (short m) r ↔ when m)
          → (a ≡ Err r) ↔ ((m : Made) × accepts m × when m)
      due =
          on_exactly (λ m. Asks (there m) turns (short m)) (λ m. asks_once (there m) turns (short m)) gives fine rooms a after p
