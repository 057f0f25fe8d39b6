-- The named locations and the fence's: how many there are of both, and that they keep to the limit together.
use Prim.Native.Nat.{ℕ, ◌+◌, ◌≤◌, ◌<◌}
use mathlib.Core.Bool.{Bool, true, false, cond, false≢true, ◌||◌}
use mathlib.Core.List.{List}
use mathlib.Core.Path.{◌≡◌, refl}
use native.Mathlib.Omega.{arith}
use lib.ListN.{length}
use Rattle.limits.specs.Limits.{max_locations}
use Rattle.program.specs.Program.{Line, Program, is_fence, any_is, has_fence, have_fence}
use Rattle.program.specs.Program.{fence_locations, named_locations, fence_location}
use Rattle.program.specs.Program.{sum, equal, less, jump, write, read, fadd, cas, wait, bcas, fence}
use Rattle.program.specs.Within.{LineUnder, LineNamed, All, none, more, ThreadWithin, Within}

-- The named locations of a program that has so many and the fence's.
pub named_of_all : (threads : List (List Line)) (L K : ℕ)
    → named_locations (record { threads = threads; locations = L + fence_locations threads; values = K }) ≡ L
unfolding named_locations
named_of_all threads L K = omega arith

-- All locations are the named ones and the fence's, where some are named.
pub all_locations : (p : Program) → 1 ≤ named_locations p → named_locations p + fence_locations p.threads ≡ p.locations
unfolding named_locations
all_locations p h = omega arith

-- The named locations are some of all.
pub named_are_some : (p : Program) → named_locations p ≤ p.locations
unfolding named_locations
named_are_some p = omega arith

-- The fence's location is one of all.
pub fence_inside : (L : ℕ) → 0 < L → fence_location L < L
unfolding fence_location
fence_inside L some = omega arith

-- "numbered after the L named ones": where there is a fence, its location is number L.
pub fence_after_named : (p : Program) → have_fence p.threads ≡ true → fence_location p.locations ≡ named_locations p
unfolding fence_location named_locations fence_locations
fence_after_named p e = let one : cond {A = ℕ} (have_fence p.threads) 1 0 ≡ 1 = rw e in omega (arith, one)

-- What follows from each element that passes the test follows where some element does.
from_any : {A Q : Type 0} {P : A → Type 0} (test : A → Bool) → ((a : A) → P a → test a ≡ true → Q)
    → {l : List A} → All P l → any_is test l ≡ true → Q
unfolding any_is
from_any test from none e = absurd (false≢true e)
from_any {Q = Q} test from (more {a = a} {l = l} h hs) e = go (test a) refl e (from_any test from hs)
  where
    go : (b : Bool) → test a ≡ b → (b || any_is test l) ≡ true → (any_is test l ≡ true → Q) → Q
    go true is some_one others = from a h is
    go false is some_one others = others some_one

module _ (L K : ℕ) where
  -- A fence is accepted among fewer than 16 named locations only.
  line_leaves_room : (n : ℕ) (line : Line) → LineNamed L K n line → is_fence line ≡ true → L < max_locations
  unfolding LineUnder is_fence
  line_leaves_room n (sum r a b) h e = absurd (false≢true e)
  line_leaves_room n (equal r a b) h e = absurd (false≢true e)
  line_leaves_room n (less r a b) h e = absurd (false≢true e)
  line_leaves_room n (jump l a) h e = absurd (false≢true e)
  line_leaves_room n (write x a) h e = absurd (false≢true e)
  line_leaves_room n (read r x) h e = absurd (false≢true e)
  line_leaves_room n (fadd r x a) h e = absurd (false≢true e)
  line_leaves_room n (cas r x a b) h e = absurd (false≢true e)
  line_leaves_room n (wait x a) h e = absurd (false≢true e)
  line_leaves_room n (bcas x a b) h e = absurd (false≢true e)
  line_leaves_room n fence h e = h

  threads_leave_room : {threads : List (List Line)} → All (ThreadWithin L K) threads → have_fence threads ≡ true
      → L < max_locations
  threads_leave_room =
      from_any has_fence (λ lines h. from_any is_fence (line_leaves_room (length lines)) h.each)

module _ {p : Program} (w : Within p) where
  -- All locations together keep to the limit too, and there are some.
  pub few_in_all : p.locations ≤ max_locations
  unfolding fence_locations
  few_in_all = go (have_fence p.threads) refl
    where
      go : (b : Bool) → have_fence p.threads ≡ b → p.locations ≤ max_locations
      go true e =
          let one : fence_locations p.threads ≡ 1 = rw e in
          omega (arith, threads_leave_room _ _ w.each e, all_locations p w.some_locations)
      go false e =
          let no : fence_locations p.threads ≡ 0 = rw e in
          omega (arith, w.few_locations, all_locations p w.some_locations)

  pub some_in_all : 1 ≤ p.locations
  some_in_all = omega (arith, w.some_locations, all_locations p w.some_locations)
