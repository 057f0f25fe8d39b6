-- Splits of a list: at a member, and at a time that rises along it.
use mathlib.Core.Path.{◌≡◌, refl, sym, ap}
use mathlib.Core.List.Memᴰ
use mathlib.Core.List.{List, [], ◌∷◌, ◌++◌, Memᴰ as Member}
use mathlib.Core.Logic.{◌⊎◌, inl, inr, ⊎_elim, ◌≢◌}
use Prim.Native.Nat.{ℕ, ◌<◌}
use native.Mathlib.Omega.{arith}
use native.Mathlib.Decide.{dec_lt}
use Rattle.relations.specs.Closure.{Precedes, here, later}

module _ {A : Type 0} where
  -- What stands before and after a member.
  pub record Split (a : A) (l : List A) : Type 0 where
    pub before : List A
    pub after : List A
    pub whole : l ≡ before ++ a ∷ after

  pub split_at_member : (l : List A) {a : A} → Member a l → Split a l
  split_at_member [] h = absurd (Memᴰ.not-nil h)
  split_at_member (b ∷ l) {a} h = go (Memᴰ.cases_cons h) (λ m. split_at_member l m)
    where
      go : (a ≡ b) ⊎ Member a l → (Member a l → Split a l) → Split a (b ∷ l)
      go (inl q) rest = record { before = []; after = l; whole = ap (λ c. c ∷ l) (sym q) }
      go (inr m) rest =
          let r = rest m in
          record { before = b ∷ r.before; after = r.after; whole = ap (λ k. b ∷ k) r.whole }

  -- The last member whose time is below t, where no later one has it.
  pub record SplitAt (time : A → ℕ) (t : ℕ) (l : List A) : Type 0 where
    pub last : A
    pub split : Split last l
    pub below : time last < t
    pub above : (b : A) → Member b split.after → t < time b

  pub split_at_time : (time : A → ℕ) (t : ℕ) (first : A) (rest : List A) → time first < t
      → ((a b : A) → Precedes a b (first ∷ rest) → time a < time b)
      → ((a : A) → Member a rest → time a ≢ t)
      → SplitAt time t (first ∷ rest)
  split_at_time time t first [] h rising free =
      record {
        last = first;
        split = record { before = []; after = []; whole = refl };
        below = h;
        above = λ b m. absurd (Memᴰ.not-nil m);
      }
  split_at_time time t first (a ∷ rest) h rising free = go (dec_lt (time a) t) (λ k. split_at_time time t a rest k
      (λ c d p. rising c d (later p)) (λ c m. free c (Member.tail m)))
    where
      go : Dec (time a < t) → (time a < t → SplitAt time t (a ∷ rest)) → SplitAt time t (first ∷ a ∷ rest)
      go (yes k) next =
          let r = next k in
          record {
            last = r.last;
            split =
                record {
                  before = first ∷ r.split.before;
                  after = r.split.after;
                  whole = ap (λ l. first ∷ l) r.split.whole;
                };
            below = r.below;
            above = r.above;
          }
      go (no k) next =
          record {
            last = first;
            split = record { before = []; after = a ∷ rest; whole = refl };
            below = h;
            above =
                λ b m. ⊎_elim (λ q. let n = free a (Member.head refl) in omega (arith, n, ap time q))
                (λ l. let n = free a (Member.head refl) in omega (arith, n, rising a b (later (here refl l))))
                (Memᴰ.cases_cons m);
          }
