-- Laws of a function changed at one number, and what the view after an access is.
use mathlib.Core.Path.{◌≡◌, refl, ap, ◌∙◌}
use mathlib.Core.Bool.{Bool, true, false, cond}
use mathlib.Core.Logic.{◌≢◌, ◌⊎◌, inl, inr, ⊎_elim}
use Prim.Native.Nat.{ℕ, max, ◌≤◌, ◌<◌}
use native.Mathlib.Omega.{arith}
use native.Mathlib.Decide.{ℕ_discrete, dec_le}
use borrow.Author.Tests.{eq-eqb, ne_eqb}
use Rattle.program.specs.Thread.{Action, reads, writes, updates, writing}
use Rattle.machine.specs.Memory.{View, join, changed, view_on_write, view_on_read, view_on_update}

pub changed_same : {A : Type 0} (f : ℕ → A) (i : ℕ) (a : A) → changed f i a i ≡ a
unfolding changed
changed_same f i a = ap (λ b. cond b a (f i)) (eq-eqb i i refl)

pub changed_other : {A : Type 0} (f : ℕ → A) (i : ℕ) (a : A) (j : ℕ) → j ≢ i → changed f i a j ≡ f j
unfolding changed
changed_other f i a j n = ap (λ b. cond b a (f j)) (ne_eqb j i n)

-- An action takes a message: a read or read-modify-write does.
unfoldable pub takes : Action → Bool
takes reads = true
takes (writes v) = false
takes (updates v) = true

-- The view T' of a thread after an access at x, from its view T before, the view W of the message that it took and the
-- time of the one that it sent.
pub record NewView (a : Action) (x : ℕ) (T W T' : View) (time : ℕ) : Type 0 where
  pub grows : (y : ℕ) → T y ≤ T' y
  pub joins : takes a ≡ true → (y : ℕ) → W y ≤ T' y
  pub raises : writing a ≡ true → time ≤ T' x
  -- Nothing else is in it.
  pub only : (y : ℕ)
      → (T' y ≡ T y) ⊎ (((takes a ≡ true) × (T' y ≡ W y)) ⊎ ((writing a ≡ true) × (y ≡ x) × (T' y ≡ time)))

-- The greater of two numbers is one of them.
max_is_one : (m n : ℕ) → (max m n ≡ m) ⊎ (max m n ≡ n)
max_is_one m n = go (dec_le n m)
  where
    go : Dec (n ≤ m) → (max m n ≡ m) ⊎ (max m n ≡ n)
    go (yes h) = inl (omega arith)
    go (no h) = inr (omega arith)

-- A view raised at x.
module _ (T : View) (x time : ℕ) where
  pub data Raised (y : ℕ) : Type 0 where
    here : y ≡ x → changed T x time y ≡ time → Raised y
    elsewhere : y ≢ x → changed T x time y ≡ T y → Raised y

  pub raised : (y : ℕ) → Raised y
  raised y = go (ℕ_discrete y x)
    where
      go : Dec (y ≡ x) → Raised y
      go (yes q) = here q (ap (changed T x time) q ∙ changed_same T x time)
      go (no n) = elsewhere n (changed_other T x time y n)

  raised_grows : T x ≤ time → (y : ℕ) → T y ≤ changed T x time y
  raised_grows h y = go (raised y)
    where
      go : Raised y → T y ≤ changed T x time y
      go (here q e) = omega (arith, e, ap T q)
      go (elsewhere n e) = omega (arith, e)

-- The view after a read, a write and a read-modify-write: what was in it, what was taken, and the new time.
read_grows : (T W : View) (y : ℕ) → T y ≤ view_on_read T W y
unfolding join view_on_read
read_grows T W y = omega arith

read_joins : (T W : View) (y : ℕ) → W y ≤ view_on_read T W y
unfolding join view_on_read
read_joins T W y = omega arith

write_raises : (T : View) (x time : ℕ) → time ≤ view_on_write T x time x
unfolding view_on_write
write_raises T x time = omega (arith, changed_same T x time)

update_joins : (T W : View) (x time y : ℕ) → W y ≤ view_on_update T x time W y
unfolding join view_on_update
update_joins T W x time y = omega arith

update_raises : (T W : View) (x time : ℕ) → time ≤ view_on_update T x time W x
unfolding join view_on_update
update_raises T W x time = omega (arith, changed_same T x time)

pub view_after_read : (x : ℕ) (T W : View) (time : ℕ) → NewView reads x T W (view_on_read T W) time
unfolding join view_on_read takes writing
view_after_read x T W time =
    record {
      grows = read_grows T W;
      joins = λ h. read_joins T W;
      raises = λ h. absurd (let z : ◌≡◌ {A = ℕ} 0 1 = cc in omega arith);
      only = λ y. ⊎_elim inl (λ q. inr (inl (refl, q))) (max_is_one (T y) (W y));
    }

pub view_after_write : (v x : ℕ) (T W : View) (time : ℕ) → T x < time
    → NewView (writes v) x T W (view_on_write T x time) time
unfolding view_on_write takes writing
view_after_write v x T W time above =
    record {
      grows = raised_grows T x time (omega arith);
      joins = λ h. absurd (let z : ◌≡◌ {A = ℕ} 0 1 = cc in omega arith);
      raises = λ h. write_raises T x time;
      only = λ y. of_raised y (raised T x time y);
    }
  where
    of_raised : (y : ℕ) → Raised T x time y
        → (changed T x time y ≡ T y)
        ⊎ (((false ≡ true) × (changed T x time y ≡ W y)) ⊎ ((true ≡ true) × (y ≡ x) × (changed T x time y ≡ time)))
    of_raised y (here q e) = inr (inr (refl, q, e))
    of_raised y (elsewhere n e) = inl e

pub view_after_update : (v x : ℕ) (T W : View) (time : ℕ) → T x < time
    → NewView (updates v) x T W (view_on_update T x time W) time
unfolding join view_on_update takes writing
view_after_update v x T W time above =
    record {
      grows = λ y. omega (arith, raised_grows T x time (omega arith) y);
      joins = λ h. update_joins T W x time;
      raises = λ h. update_raises T W x time;
      only = λ y. of_both y (raised T x time y) (max_is_one (changed T x time y) (W y));
    }
  where
    of_both : (y : ℕ) → Raised T x time y
        → (max (changed T x time y) (W y) ≡ changed T x time y) ⊎ (max (changed T x time y) (W y) ≡ W y)
        → (max (changed T x time y) (W y) ≡ T y)
        ⊎ (((true ≡ true) × (max (changed T x time y) (W y) ≡ W y))
        ⊎ ((true ≡ true) × (y ≡ x) × (max (changed T x time y) (W y) ≡ time)))
    of_both y r (inr q) = inr (inl (refl, q))
    of_both y (here q e) (inl k) = inr (inr (refl, q, k ∙ e))
    of_both y (elsewhere n e) (inl k) = inl (k ∙ e)
