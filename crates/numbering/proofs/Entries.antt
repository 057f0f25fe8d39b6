-- The queue's entries are those of the numbering: the first N + 1 agree for every N, and looking at longer schedules
-- changes nothing.
use Prim.Native.Nat.{ℕ, zero, suc, ◌≤◌}
use native.Mathlib.Omega.{arith}
use mathlib.Core.Path.{◌≡◌, refl, sym, ap, ◌∙◌, subst, ap₂}
use mathlib.Core.Logic.{⊎_elim}
use mathlib.Core.Bool.{Bool, true, false, cond}
use mathlib.Core.List.{List, [], ◌∷◌, ◌++◌, map, drop_last, map-map, IsPrefix}
use mathlib.Core.Option.{Option, some, Option-elim, bind, some-injective, none-ne-some}
use lib.ListN.{length, take, get_elem?, length-map}
use Rattle.lists.proofs.Places.{place_in_range, place_of_map}
use Rattle.lists.proofs.Tests.{neither_true}
use Rattle.numbering.specs.Schedule.{Schedule}
use Rattle.numbering.specs.Numbering.{Visit, Entry, known, number, firsts, by_of, from_of, entry_of, entries}
use Rattle.numbering.specs.Queue.{first, queue, Steps, child_to}
use Rattle.numbering.proofs.Fronts.{place_behind_front, taken_from_front, take_of_map}
use Rattle.numbering.proofs.Extend.{known_image}
use Rattle.numbering.proofs.Firsts.{key_of}
use Rattle.numbering.proofs.Turns.{entry_key}
use Rattle.numbering.proofs.Expansion.{visit_of}
use Rattle.numbering.proofs.Numbered.{table_in_firsts, same_first_visits}
use Rattle.numbering.proofs.Origins.{Parent, Rooted, along_parents, placed, queue_rooted}

-- A schedule with one thread more.
by_last_thread : (s : Schedule) (t : ℕ) → by_of (s ++ t ∷ []) ≡ suc t
unfolding by_of
by_last_thread [] t = refl
by_last_thread (u ∷ []) t = refl
by_last_thread (u ∷ v ∷ s) t = by_last_thread (v ∷ s) t

without_last_thread : (s : Schedule) (t : ℕ) → drop_last (s ++ t ∷ []) ≡ s
without_last_thread [] t = refl
without_last_thread (u ∷ []) t = refl
without_last_thread (u ∷ v ∷ s) t = ap (λ r. u ∷ r) (without_last_thread (v ∷ s) t)

from_before_last : {A : Type 0} (same : A → A → Bool) (reached : Schedule → Option A) (vs : List (Visit A))
    (s : Schedule) (t : ℕ)
    → from_of same reached vs (s ++ t ∷ []) ≡ Option-elim (reached s) 0 (number same key_of vs)
unfolding from_of
from_before_last same reached vs [] t = refl
from_before_last same reached vs (u ∷ s) t =
    ap (λ r. Option-elim (reached r) 0 (number same key_of vs)) (without_last_thread (u ∷ s) t)

map_unchanged : {A : Type 0} (f : A → A) (l : List A) → ((i : ℕ) (a : A) → get_elem? l i ≡ some a → f a ≡ a)
    → map f l ≡ l
map_unchanged f [] h = refl
map_unchanged f (a ∷ l) h = ap₂ ◌∷◌ (h 0 a refl) (map_unchanged f l (λ i b e. h (suc i) b e))

-- The number of a situation is the place that has it first.
number_at_place : {A X : Type 0} (same : A → A → Bool) (key : X → A) → ((a : A) → same a a ≡ true)
    → (l : List X) (i : ℕ) {x : X}
    → get_elem? l i ≡ some x → known same key (key x) (take i l) ≡ false → number same key l (key x) ≡ suc i
unfolding number known
number_at_place same key self [] i h fresh = absurd (none-ne-some _ h)
number_at_place same key self (y ∷ l) zero {x} h fresh =
    ap (λ b. cond b 1 (suc (number same key l (key x))))
    (ap (λ z. same (key x) (key z)) (some-injective y x h) ∙ self (key x))
number_at_place same key self (y ∷ l) (suc i) {x} h fresh =
    let r = neither_true (same (key x) (key y)) (known same key (key x) (take i l)) fresh in
    ap (λ b. cond b 1 (suc (number same key l (key x)))) r.0 ∙ ap suc (number_at_place same key self l i h r.1)

module _ {A : Type 0} {same : A → A → Bool} {T : ℕ} {reached : Schedule → Option A} {start : A}
    {step : ℕ → A → Option A} (laws : Steps same T reached start step) where
  abbrev table : ℕ → List (Entry A)
  table i = queue same T start step i

  abbrev numbered : ℕ → List (Visit A)
  numbered n = firsts same T reached n

  -- Each entry's path reaches its situation.
  pub path_reaches : (q : List (Entry A)) → Rooted T start step q → (k : ℕ) (x : Entry A) → get_elem? q k ≡ some x
      → reached x.path ≡ some x.key
  unfolding first bind
  path_reaches q rooted =
      along_parents T start step q rooted (λ k x. reached x.path ≡ some x.key) laws.at_start
      (λ k x p below. ap (λ z. reached z.path) p.child_is
      ∙ laws.one_more p.parent.path p.thread p.is_thread
      ∙ ap (λ o. bind o (step p.thread)) below ∙ p.made)

  number_in_table : (i n : ℕ) → i ≤ n → (k : ℕ) (x : Entry A) → get_elem? (table i) k ≡ some x
      → number same key_of (numbered n) x.key ≡ suc k
  number_in_table i n le k x h = number_at_place same key_of laws.same_self (numbered n) k {x = visit_of x} at fresh
    where
      q : List (Entry A)
      q = table i

      front : IsPrefix (map visit_of (table i)) (numbered n)
      front = table_in_firsts laws i n le

      at : get_elem? (numbered n) k ≡ some (visit_of x)
      at = place_behind_front (map visit_of (table i)) (numbered n) front k (place_of_map visit_of q k h)

      short : k ≤ length (map visit_of (table i))
      short = omega (arith, place_in_range q k h, length-map q visit_of)

      fresh : known same key_of x.key (take k (numbered n)) ≡ false
      fresh =
          ap (known same key_of x.key)
          (taken_from_front k (map visit_of (table i)) (numbered n) front short ∙ take_of_map visit_of k q)
          ∙ known_image same same entry_key key_of (λ a. a) visit_of (λ y. refl) (λ a. Unit) (λ a b g l. refl) x.key tt
          (take k q) (λ y m. tt)
          ∙ (placed same T start step i k x h).fresh

  as_numbered : (i n : ℕ) → i ≤ n → (k : ℕ) (x : Entry A) → get_elem? (table i) k ≡ some x
      → entry_of same reached (numbered n) (visit_of x) ≡ x
  unfolding entry_of from_of by_of first Option-elim
  as_numbered i n le k x h = ⊎_elim root child (queue_rooted same T start step i k x h)
    where
      vs : List (Visit A)
      vs = numbered n

      root : (k ≡ 0) × (x ≡ first start) → entry_of same reached vs (visit_of x) ≡ x
      root e = subst (λ z. entry_of same reached vs (visit_of z) ≡ z) (sym e.1) refl

      child : Parent T start step (table i) k x → entry_of same reached vs (visit_of x) ≡ x
      child p = subst (λ z. entry_of same reached vs (visit_of z) ≡ z) (sym p.child_is) is
        where
          y : Entry A
          y = p.parent

          from_is : from_of same reached vs (y.path ++ p.thread ∷ []) ≡ suc p.index
          from_is =
              from_before_last same reached vs y.path p.thread
              ∙ ap (λ o. Option-elim o 0 (number same key_of vs))
              (path_reaches (table i) (queue_rooted same T start step i) p.index y p.there)
              ∙ number_in_table i n le p.index y p.there

          is : entry_of same reached vs (visit_of (child_to p.index y p.thread x.key))
              ≡ child_to p.index y p.thread x.key
          is =
              λ j. record {
                from = from_is j;
                by = by_last_thread y.path p.thread j;
                path = y.path ++ p.thread ∷ [];
                key = x.key;
              }

  -- Theorem: for every N the first N + 1 entries are the queue's, however long the schedules are that one looks at.
  pub entries_by_queue : (N n : ℕ) → N ≤ n → take (suc N) (entries same T reached n) ≡ take (suc N) (table N)
  unfolding entries
  entries_by_queue N n le =
      take_of_map (entry_of same reached vs) (suc N) vs
      ∙ ap (map (entry_of same reached vs)) (same_first_visits laws N n le)
      ∙ sym (take_of_map (entry_of same reached vs) (suc N) (map visit_of (table N)))
      ∙ ap (take (suc N)) (map-map (entry_of same reached vs) visit_of (table N)
      ∙ map_unchanged (λ x. entry_of same reached vs (visit_of x)) (table N) (as_numbered N n le))
    where
      vs : List (Visit A)
      vs = numbered n

  -- Theorem: longer schedules change nothing.
  pub longer_schedules_change_nothing : (N n : ℕ) → N ≤ n
      → take (suc N) (entries same T reached n) ≡ take (suc N) (entries same T reached N)
  longer_schedules_change_nothing N n le = entries_by_queue N n le ∙ sym (entries_by_queue N N (omega arith))
