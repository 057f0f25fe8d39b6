-- The messages that the memory starts with: one for each location, with value and time 0.
use mathlib.Core.Path.{◌≡◌, ap}
use mathlib.Core.List.Memᴰ
use mathlib.Core.List.{◌∷◌, Memᴰ as Member}
use mathlib.Core.Logic.{⊎_elim}
use Prim.Native.Nat.{ℕ, zero, suc, ◌<◌}
use native.Mathlib.Omega.{arith}
use native.Mathlib.Decide.{ℕ_discrete}
use Rattle.machine.specs.Memory.{start_view, Message, message, start_messages}

pub start_message_is : (n : ℕ) {c : Message} → Member c (start_messages n)
    → (x : ℕ) × (x < n) × (c ≡ message x 0 0 start_view)
unfolding start_messages
start_message_is zero h = absurd (Memᴰ.not-nil h)
start_message_is (suc n) h =
    ⊎_elim (λ q. (n, omega arith, q)) (λ r. let i = start_message_is n r in (i.0, omega (arith, i.1), i.2))
    (Memᴰ.cases_cons h)

pub start_message_there : (n x : ℕ) → x < n → Member (message x 0 0 start_view) (start_messages n)
unfolding start_messages
start_message_there zero x h = absurd (omega arith)
start_message_there (suc n) x h = go (ℕ_discrete x n) (λ k. start_message_there n x k)
  where
    go : Dec (x ≡ n) → (x < n → Member (message x 0 0 start_view) (start_messages n))
        → Member (message x 0 0 start_view) (message n 0 0 start_view ∷ start_messages n)
    go (yes q) rest = Member.head (ap (λ y. message y 0 0 start_view) q)
    go (no q) rest = Member.tail (rest (omega arith))
