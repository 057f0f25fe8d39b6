-- What holds of every table that starts with the first place and has children of earlier places after it, so of the
-- queue and its fronts.
use Prim.Native.Nat.{ℕ, ◌≤◌, ◌<◌}
use native.Mathlib.Omega.{arith}
use native.Mathlib.Decide.{dec_lt}
use mathlib.Core.Path.{◌≡◌, sym, ap, ◌∙◌, subst}
use mathlib.Core.Logic.{⊎_elim}
use mathlib.Core.Bool.{Bool}
use mathlib.Core.List.{List, [], ◌∷◌, Memᴰ as Member}
use mathlib.Core.List.Memᴰ
use mathlib.Core.Option.{Option, some}
use lib.ListN.{length, take, get_elem?, length-append}
use Rattle.lists.proofs.Places.{member_at_place, place_taken}
use Rattle.lists.proofs.Tests.{not_both}
use Rattle.numbering.specs.Schedule.{Schedule}
use Rattle.numbering.specs.Numbering.{Entry}
use Rattle.numbering.specs.Queue.{first, queue, Steps}
use Rattle.numbering.proofs.Extend.{Known, member_is_known}
use Rattle.numbering.proofs.Turns.{entry_key}
use Rattle.numbering.proofs.Origins.{Parent, Rooted, along_parents, placed}

module _ {A : Type 0} (T : ℕ) (start : A) (step : ℕ → A → Option A) (q : List (Entry A))
    (rooted : Rooted T start step q) where
  -- The path to place k has at most k - 1 steps.
  pub path_is_short : (k : ℕ) (x : Entry A) → get_elem? q k ≡ some x → length x.path ≤ k
  unfolding first
  path_is_short =
      along_parents T start step q rooted (λ k x. length x.path ≤ k) (omega arith)
      (λ k x p below. omega
      (arith, ap (λ z. length z.path) p.child_is, length-append p.parent.path (p.thread ∷ []), p.earlier))

  -- A place was reached from an earlier one, the first from none, by one of the T threads.
  pub from_is_earlier : (k : ℕ) (x : Entry A) → get_elem? q k ≡ some x → x.from ≤ k
  unfolding first
  from_is_earlier k x h =
      ⊎_elim (λ e. omega (arith, ap (λ z. z.from) e.1))
      (λ p. omega (arith, ap (λ z. z.from) p.child_is, p.earlier))
      (rooted k x h)

  pub from_none_is_first : (k : ℕ) (x : Entry A) → get_elem? q k ≡ some x → x.from ≡ 0 → k ≡ 0
  from_none_is_first k x h e =
      ⊎_elim (λ r. r.0) (λ p. absurd (omega (arith, ap (λ z. z.from) p.child_is))) (rooted k x h)

  pub by_is_thread : (k : ℕ) (x : Entry A) → get_elem? q k ≡ some x → x.by ≤ T
  unfolding first
  by_is_thread k x h =
      ⊎_elim (λ e. omega (arith, ap (λ z. z.by) e.1))
      (λ p. omega (arith, ap (λ z. z.by) p.child_is, p.is_thread))
      (rooted k x h)

  pub path_has_threads : (k : ℕ) (x : Entry A) → get_elem? q k ≡ some x → (t : ℕ) → Member t x.path → t < T
  unfolding first
  path_has_threads =
      along_parents T start step q rooted (λ k x. (t : ℕ) → Member t x.path → t < T)
      (λ t m. absurd (Memᴰ.not-nil m)) one_more
    where
      one_more : (k : ℕ) (x : Entry A) (p : Parent T start step q k x)
          → ((t : ℕ) → Member t p.parent.path → t < T) → (t : ℕ) → Member t x.path → t < T
      one_more k x p below t m =
          ⊎_elim (below t) (λ l. subst (λ u. u < T) (sym (Memᴰ.eq_of_singleton l)) p.is_thread)
          (Memᴰ.append_cases p.parent.path (subst (λ z. Member t z.path) p.child_is m))

-- No two places of the queue have one situation.
module _ {A : Type 0} {same : A → A → Bool} {T : ℕ} {reached : Schedule → Option A} {start : A}
    {step : ℕ → A → Option A} (laws : Steps same T reached start step) where
  abbrev table : ℕ → List (Entry A)
  table i = queue same T start step i

  later_differs : (n j k : ℕ) (x y : Entry A) → get_elem? (table n) j ≡ some x → get_elem? (table n) k ≡ some y
      → j < k → x.key ≡ y.key → ⊥
  later_differs n j k x y h e lt same_key =
      not_both (subst (λ a. Known same entry_key a front) same_key
      (member_is_known same entry_key laws.same_self front
      (member_at_place front j (place_taken k (table n) j lt ∙ h))))
      (placed same T start step n k y e).fresh
    where
      front : List (Entry A)
      front = take k (table n)

  pub keys_differ : (n j k : ℕ) (x y : Entry A) → get_elem? (table n) j ≡ some x → get_elem? (table n) k ≡ some y
      → x.key ≡ y.key → j ≡ k
  keys_differ n j k x y h e same_key = go (dec_lt j k) (dec_lt k j)
    where
      go : Dec (j < k) → Dec (k < j) → j ≡ k
      go (yes lt) d = absurd (later_differs n j k x y h e lt same_key)
      go (no ge) (yes gt) = absurd (later_differs n k j y x e h gt (sym same_key))
      go (no ge) (no le) = omega arith
