-- A memory mirrors a graph: one function from the ids of events to messages tells the times and views of all writes.
-- For a read it tells the view alone, that of the thread after it.
use mathlib.Core.Path.{◌≡◌, ap, ◌∙◌}
use mathlib.Core.List.{Memᴰ as Member}
use mathlib.Core.Logic.{inl, inr, ◌≢◌}
use mathlib.Mathlib.Logic.Function.Basic.{update, update_self, update_of_ne}
use Prim.Native.Nat.{ℕ, ◌≤◌}
use Rattle.relations.specs.Closure.{edge, further, IsOrBefore, Reaches}
use Rattle.model.specs.Graph.{Id, start, Graph, order, thread_events, value_of}
use Rattle.model.specs.Order.{HappensEdge, HappensBefore}
use Rattle.model.proofs.Decidable.{id_discrete}
use Rattle.machine.specs.Memory.{View, Message, MemoryState}
use Rattle.machine.proofs.Fits.{Fits}
use native.Mathlib.Omega.{arith}

-- A view shows no more than writes of which it is known: 0, or at most the time of such a write.
pub data Shown (g : Graph) (sent : Id → Message) (Known : Id → Type 0) (T : View) (y : ℕ) : Type 0 where
  nothing : T y ≡ 0 → Shown g sent Known T y
  write : (v : Id) → Member v (order g y) → Known v → T y ≤ (sent v).time → Shown g sent Known T y

-- The message of a write to x is in the memory.
pub record InMemory (m : MemoryState) (g : Graph) (x : ℕ) (a : Id) (n : Message) : Type 0 where
  pub there : Member n m.messages
  pub location : n.location ≡ x
  pub value : n.value ≡ value_of g a

-- An id in the order of the message's location is that of its write.
pub record WriteOf (g : Graph) (sent : Id → Message) (n : Message) : Type 0 where
  pub id : Id
  pub listed : Member id (order g n.location)
  pub is : n ≡ sent id

pub record Mirrors (m : MemoryState) (g : Graph) (sent : Id → Message) : Type 0 where
  -- every message is that of a write, and every write has its message
  pub written : (n : Message) → Member n m.messages → WriteOf g sent n
  pub kept : (x : ℕ) (a : Id) → Member a (order g x) → InMemory m g x a (sent a)
  pub fits : Fits g (λ a. (sent a).time)
  -- a view has all that happens before it: the write's own time, what a starting write has, what is earlier in
  -- happens-before, and for a thread what its events have
  pub own_time : (x : ℕ) (a : Id) → Member a (order g x) → (sent a).time ≤ (sent a).view x
  pub start_view_zero : (x y : ℕ) → (sent (start x)).view y ≡ 0
  pub along_edges : (a b : Id) → HappensEdge g a b → (y : ℕ) → (sent a).view y ≤ (sent b).view y
  pub own_events : (t : ℕ) (a : Id) → Member a (thread_events g t) → (y : ℕ) → (sent a).view y ≤ m.views t y
  -- and nothing else
  pub thread_shows : (t y : ℕ) → Shown g sent (Reaches (HappensBefore g) (thread_events g t)) (m.views t) y
  pub message_shows : (x : ℕ) (a : Id) → Member a (order g x) → (y : ℕ)
      → Shown g sent (λ v. IsOrBefore (HappensBefore g) v a) (sent a).view y

module _ {m : MemoryState} {g : Graph} {sent : Id → Message} (f : Mirrors m g sent) where
  pub along_happens_before : {a b : Id} → HappensBefore g a b → (y : ℕ) → (sent a).view y ≤ (sent b).view y
  along_happens_before {a} (edge {b = b} e) y = f.along_edges a b e y
  along_happens_before {a} (further {b = b} {c = c} h e) y =
      let below = along_happens_before h y in let next = f.along_edges b c e y in omega arith

  -- A thread's view of x is not below a write of x that it has seen.
  pub seen_is_shown : (t x : ℕ) (v : Id) → Member v (order g x) → Reaches (HappensBefore g) (thread_events g t) v
      → (sent v).time ≤ m.views t x
  seen_is_shown t x v listed r = go r.way
    where
      last : (sent r.target).view x ≤ m.views t x
      last = f.own_events t r.target r.listed x

      first : (sent v).time ≤ (sent v).view x
      first = f.own_time x v listed

      go : IsOrBefore (HappensBefore g) v r.target → (sent v).time ≤ m.views t x
      go (inl q) = omega (arith, first, last, ap (λ a. (sent a).view x) q)
      go (inr h) = omega (arith, first, last, along_happens_before h x)

-- The function with the message of one more id.
unfoldable pub sent_after : (Id → Message) → Id → Message → Id → Message
sent_after sent e n = update id_discrete sent e n

pub sent_new : (sent : Id → Message) (e : Id) (n : Message) {a : Id} → a ≡ e → sent_after sent e n a ≡ n
unfolding sent_after
sent_new sent e n q = ap (sent_after sent e n) q ∙ update_self id_discrete e n sent

pub sent_old : (sent : Id → Message) (e : Id) (n : Message) {a : Id} → a ≢ e → sent_after sent e n a ≡ sent a
unfolding sent_after
sent_old sent e n q = update_of_ne id_discrete q n sent
