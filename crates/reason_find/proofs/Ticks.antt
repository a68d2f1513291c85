-- Ticks and the queue: nothing has a tick yet, one statement more, and one growth after another.
use mathlib.Core.List.{List}
use mathlib.Core.Logic.{inl, ⊎_elim, inr, ◌⊎◌}
use mathlib.Core.Path.{refl, sym, subst, ap, ◌≡◌, ◌∙◌}
use Prim.Native.Nat.{ℕ, ◌+◌, ◌≤◌, ◌<◌}
use native.Mathlib.Omega.{arith}
use lib.Dec.{lit<}
use lib.ListN.{length, get_or, set, length-set}
use Rattle.pair_chain.proofs.ChainSteps.{stored, split}
use Rattle.label_queue.proofs.LabelSteps.{zeros_all, zeros_set}
use Rattle.reason_find.specs.Ticks.{Queued, Grown, Ticked}

pub queued_none : (n : ℕ) (room queue : List ℕ) → length room ≡ n → n ≤ length queue → ((x : ℕ) → get_or room x 0 ≡ 0)
    → Queued n 0 room queue
queued_none n room queue e h z = record {
  same = e;
  space = h;
  full = omega (arith, zeros_all room (λ x _. z x));
  places = λ i l. absurd (omega arith);
  each = λ x m. absurd (m (z x));
}

pub grown_more : (P Q : ℕ → Type 0) (n t : ℕ) (room queue : List ℕ) (r : ℕ) (room' queue' : List ℕ) (s : ℕ)
    (room'' queue'' : List ℕ) → Grown P n t room queue r room' queue' → ((x : ℕ) → Q x → P x)
    → Grown Q n r room' queue' s room'' queue'' → Grown P n t room queue s room'' queue''
grown_more P Q n t room queue r room' queue' s room'' queue'' g f h = record {
  queued = h.queued;
  kept = λ x m. h.kept x (g.kept x m);
  new = λ x m. ⊎_elim (λ m. g.new x m) (λ q. inr (f x q)) (h.new x m);
  longer = omega (arith, g.longer, h.longer);
  as_long = h.as_long ∙ g.as_long;
  before = λ i l. h.before i (omega (arith, g.longer)) ∙ g.before i l;
}

-- one statement more, where there was no tick: there is room for it in the queue
module _ (n t y : ℕ) (room queue : List ℕ) (q : Queued n t room queue) (l : y < n) (z : get_or room y 0 ≡ 0) where
  in_room : y < length room
  in_room = omega (arith, q.same)

  pub queue_room : t < length queue
  queue_room = omega (arith, q.full, q.space, zeros_set room y 1 in_room z (lit< tt))

  pub now_ticked : Ticked (set room y 1) y
  now_ticked e = ⊎_elim (λ a. omega (arith, a.1)) (λ a. a.0 refl) (stored room y 1 in_room y)

  still_ticked : (x : ℕ) → Ticked room x → Ticked (set room y 1) x
  still_ticked x m e = ⊎_elim (λ a. omega (arith, a.1)) (λ a. m (sym a.1 ∙ e)) (stored room y 1 in_room x)

  newly : (x : ℕ) → Ticked (set room y 1) x → Ticked room x ⊎ (x ≡ y)
  newly x m = ⊎_elim (λ a. inr a.0) (λ a. inl (λ e. m (a.1 ∙ e))) (stored room y 1 in_room x)

  earlier : (i : ℕ) → i < t → get_or (set queue t y) i 0 ≡ get_or queue i 0
  earlier i h = ⊎_elim (λ a. absurd (omega (arith, a.0))) (λ a. a.1) (stored queue t y queue_room i)

  last : get_or (set queue t y) t 0 ≡ y
  last = ⊎_elim (λ a. a.1) (λ a. absurd (a.0 refl)) (stored queue t y queue_room t)

  pub grown_one : Grown (λ x. x ≡ y) n t room queue (t + 1) (set room y 1) (set queue t y)
  grown_one = record {
    queued = record {
      same = length-set room y 1 ∙ q.same;
      space = omega (arith, length-set queue t y, q.space);
      full = omega (arith, q.full, zeros_set room y 1 in_room z (lit< tt));
      places = λ i h. ⊎_elim (old i) (here i) (split h);
      each = λ x m. ⊎_elim (again x) (λ e. (t, omega arith, last ∙ sym e)) (newly x m);
    };
    kept = still_ticked;
    new = newly;
    longer = omega arith;
    as_long = length-set queue t y;
    before = earlier;
  }
    where
      old : (i : ℕ) → i < t → (get_or (set queue t y) i 0 < n) × Ticked (set room y 1) (get_or (set queue t y) i 0)
      old i h = rw (earlier i h) ((q.places i h).0, still_ticked (get_or queue i 0) (q.places i h).1)

      here : (i : ℕ) → i ≡ t → (get_or (set queue t y) i 0 < n) × Ticked (set room y 1) (get_or (set queue t y) i 0)
      here i e =
          subst (λ u. (u < n) × Ticked (set room y 1) u) (sym (ap (λ j. get_or (set queue t y) j 0) e ∙ last)) (l, now_ticked)

      again : (x : ℕ) → Ticked room x → (i : ℕ) × (i < t + 1) × (get_or (set queue t y) i 0 ≡ x)
      again x m = let (i, h, e) = q.each x m in (i, omega arith, earlier i h ∙ e)

-- the statements are as many as the room has entries
pub grown_in_room : (P : ℕ → Type 0) (n t : ℕ) (room queue : List ℕ) (r : ℕ) (room' queue' : List ℕ) → length room ≡ n
    → Grown P (length room) t room queue r room' queue' → Grown P n t room queue r room' queue'
grown_in_room P n t room queue r room' queue' e g = subst (λ m. Grown P m t room queue r room' queue') e g
